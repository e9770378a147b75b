use Rattle.docsis_wire.proofs.PairSums.{pair_moved}
use Rattle.docsis_wire.proofs.sparse_multiple.moved.Goals as goal

pub returns : goal.returns
returns c = pair_moved c.args.pair c.args.places c.fits-pair.0 c.requires.few
