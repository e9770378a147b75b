use Rattle.docsis_wire.proofs.StreamPlaces.{each_generic}
use Rattle.docsis_wire.proofs.Spans.{IsInSpan-iff}
use Rattle.ccf.proofs.laws.span_is_given_by_places.Goals as goal

pub returns : goal.returns
returns c = λ check frames chunks j n i each. IsInSpan-iff frames chunks j n i (each_generic check frames each)
