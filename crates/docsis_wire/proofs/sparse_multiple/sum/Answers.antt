use Rattle.docsis_wire.proofs.PairSums.{pair_sum-xor, pair_sum-xor_fits}
use Rattle.docsis_wire.proofs.sparse_multiple.sum.Goals as goal

pub returns-clause-sum : goal.returns-clause-sum
returns-clause-sum c = pair_sum-xor c.args.left c.args.right c.fits-left.0 c.fits-right.0

pub returns-clause-fits : goal.returns-clause-fits
returns-clause-fits c = pair_sum-xor_fits c.args.left c.args.right c.fits-left.0 c.fits-right.0 c.fits-left.1 c.fits-right.1
