-- A unit has one byte, and bytes are the options of one list.
use Rattle.std.proofs.Common.{◌≡◌, length, sym, ap, ◌∙◌, arith}
use Rattle.capture.specs.Seen.{value_seen}
use Rattle.capture.proofs.OptionLists.{no_unit}
use Rattle.capture.proofs.pcapng_options.time_unit.Goals as goal

pub returns-in_err-resolution-clause-none : goal.returns-in_err-resolution-clause-none
returns-in_err-resolution-clause-none c =
    rw c.from_residual.ensures (λ unit says. c.in_err-resolution.ensures.none says.options says.spelled)

pub returns-in-Some-clause-none : goal.returns-in-Some-clause-none
returns-in-Some-clause-none c =
    λ unit says.
    let found = c.in_ok-resolution.ensures.found in
    let one : length c.in-Some.field-0.now ≡ 1 =
    no_unit c.args.endian c.args.bytes.now found.0 c.in-Some.field-0.now unit found.1 (sym (ap value_seen c.in-Some.is) ∙ found.2) says in
    omega (arith, one, c.in-Some.len_below)

pub returns-in-Some-2-clause-none : goal.returns-in-Some-2-clause-none
returns-in-Some-2-clause-none c =
    λ unit says.
    let found = c.in_ok-resolution.ensures.found in
    let one : length c.in-Some.field-0.now ≡ 1 =
    no_unit c.args.endian c.args.bytes.now found.0 c.in-Some.field-0.now unit found.1 (sym (ap value_seen c.in-Some.is) ∙ found.2) says in
    omega (arith, one, c.in-Some.len_at_least)
