-- The options that an interface's bytes have say no unit.
use Rattle.std.proofs.Common.{sym, ◌∙◌, subst}
use Rattle.capture.specs.PcapngOptions.{SaysUnit}
use Rattle.capture.proofs.BlockBytes.{options_at}
use Rattle.capture.proofs.pcapng_section.read_interface.Goals as goal

pub returns-in_err-unit-clause-none : goal.returns-in_err-unit-clause-none
returns-in_err-unit-clause-none c =
    rw c.from_residual.ensures (λ interface says.
    c.in_err-unit.ensures.none interface.unit
    (subst (λ t. SaysUnit c.args.endian t interface.unit)
    (sym (options_at c.args.endian _ _ _ says.unread says.options (sym c.split_u16-link_type.ensures.spelled ∙ says.spelled) says.six) ∙ sym c.split_at.ensures.back) says.unit))
