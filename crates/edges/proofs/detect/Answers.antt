-- `detect` answers what its parts find, each from the words before.
use Rattle.edges.proofs.Detecting.{detected}
use Rattle.edges.proofs.detect.Goals as goal

pub returns : goal.returns
returns c =
    record {
      holds = detected c.args.past
          c.new-a.ensures c.new-p.ensures c.new-n.ensures c.leads-lead.ensures c.trails-trail.ensures
          c.new-leads.ensures c.new-calms.ensures c.chain-links.ensures
          c.new-chains.ensures c.edges-edge.ensures;
    }
