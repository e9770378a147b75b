-- The burst that is given back says why.
use Rattle.lane.proofs.grant.OutstandingGrant.admit_owned.Goals as goal

pub returns-in-PointerPast : goal.returns-in-PointerPast
returns-in-PointerPast c = (c.in_default.ensures.0, c.in_default.ensures.1, c.in-Err.ensures.pointer_past.0 c.in-PointerPast.is)
