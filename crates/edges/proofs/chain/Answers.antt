-- `chain` answers the chain: its law, by the fill that doubles its reach.
use Rattle.edges.proofs.ChainWords.{chain-is}
use Rattle.edges.proofs.chain.Goals as goal

pub returns : goal.returns
returns c = chain-is c.back.ensures c.back-2.ensures c.back-3.ensures c.back-4.ensures
