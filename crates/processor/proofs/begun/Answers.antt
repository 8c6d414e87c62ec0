use Rattle.processor.proofs.ProcessorLaws.{begun_law}
use Rattle.processor.proofs.begun.Goals as goal

pub returns : goal.returns
returns c =
    let d = c.default.ensures in
    begun_law _ _ _ c.no_front.ensures c.no_places.ensures
    (λ i. record { found = d.0 i; opened = d.1.0 i; sidelobe = d.1.1.0 i; garbled = d.1.1.1.0 i; lost = d.1.1.1.1.0 i; phantoms = d.1.1.1.1.1 i })
    c.args.opening
