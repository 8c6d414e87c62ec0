-- `leads` answers the leads.
use Rattle.edges.proofs.Shapes.{leads_are}
use Rattle.edges.proofs.leads.Goals as goal

pub returns : goal.returns
returns c = leads_are c.back.ensures c.back-2.ensures c.back-3.ensures c.back-4.ensures c.back-5.ensures
