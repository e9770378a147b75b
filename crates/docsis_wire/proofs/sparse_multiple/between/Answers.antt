use Rattle.docsis_wire.proofs.PairSums.{pair_between}
use Rattle.docsis_wire.proofs.sparse_multiple.between.Goals as goal

pub returns : goal.returns
returns c = pair_between c.args.pair c.args.other c.fits-pair.0 c.fits-other.0
