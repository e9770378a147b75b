use Rattle.std.proofs.Common.{refl}
use Rattle.docsis_wire.proofs.laws.frame_without_check_is_a_generic_frame.Goals as goal

pub returns : goal.returns
returns c check frame = (λ h. h.generic, λ h. record { generic = h; checked = refl })
