-- `gather` joins what is made of eight words.
use Rattle.flags.proofs.Flagless.{gathered_by}
use Rattle.flags.proofs.gather.Goals as goal

pub returns : goal.returns
returns g c =
    gathered_by c.args.flags.now c.args.o _ _ _ _ _ _ _ _ _
    c.eight.ensures c.eight-2.ensures c.eight-3.ensures c.eight-4.ensures c.eight-5.ensures c.eight-6.ensures c.eight-7.ensures c.eight-8.ensures
    c.part.ensures c.part-2.ensures c.part-3.ensures c.part-4.ensures c.part-5.ensures c.part-6.ensures c.part-7.ensures c.part-8.ensures
