use Rattle.processor.proofs.ProcessorLaws.{idle_law}
use Rattle.processor.proofs.idle.Goals as goal

pub returns : goal.returns
returns c = idle_law _ c.begun.ensures
