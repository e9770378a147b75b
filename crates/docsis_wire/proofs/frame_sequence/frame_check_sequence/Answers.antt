use Rattle.std.proofs.Common.{bit_xor, ap, ◌∙◌}
use Rattle.docsis_wire.proofs.frame_sequence.frame_check_sequence.Goals as goal

pub returns : goal.returns
returns c = ap (λ left. bit_xor left 0xFFFFFFFF) (c.after_bytes.ensures ∙ c.after_front-remainder.ensures)
