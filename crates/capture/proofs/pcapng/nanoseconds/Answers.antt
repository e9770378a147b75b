-- Powers of up to 38 and 127 fit in 128 bits, and no time of 64 bits has a nanosecond beyond them.
use Rattle.std.proofs.Common.{◌≡◌, ◌^◌, ◌*◌, ◌/◌, min, arith, sym, ap, ◌∙◌}
use Rattle.capture.specs.Pcapng.{units_per_second}
use Rattle.capture.proofs.Powers.{ten-fits, two-fits, some-pow, ten-beyond, two-beyond}
use Rattle.capture.proofs.pcapng.nanoseconds.Goals.{in-PowerOfTen, in-PowerOfTwo, in_default, in_default-2}
use Rattle.capture.proofs.pcapng.nanoseconds.Goals as goal

pub pow-requires : goal.pow-requires
pow-requires c = ten-fits c.from.result (omega arith)

pub scaled-nanoseconds-requires : goal.scaled-nanoseconds-requires
scaled-nanoseconds-requires c = omega (arith, some-pow 10 c.from.result (omega arith))

pub pow-requires-in-PowerOfTwo : goal.pow-requires-in-PowerOfTwo
pow-requires-in-PowerOfTwo c = two-fits c.from-in-PowerOfTwo.result (omega arith)

pub returns : goal.returns
returns c =
    let time = c.args.time in
    let units = c.match-unit.nanoseconds in
    let whole : units ≡ time * 1000000000 / units_per_second c.args.unit =
    elim c.match-unit.branch [
      | in-PowerOfTen w ↦
          w.nanoseconds-is ∙ w.scaled-nanoseconds.ensures
          ∙ ap (λ u. time * 1000000000 / u) (w.pow.ensures ∙ ap (λ p. 10 ^ p) w.from.ensures ∙ ap (λ u. units_per_second u) (sym w.in-PowerOfTen.is))
      | in-PowerOfTwo w ↦
          w.nanoseconds-is ∙ w.scaled-nanoseconds-in-PowerOfTwo.ensures
          ∙ ap (λ u. time * 1000000000 / u)
          (w.pow-in-PowerOfTwo.ensures ∙ ap (λ p. 2 ^ p) w.from-in-PowerOfTwo.ensures ∙ ap (λ u. units_per_second u) (sym w.in-PowerOfTwo.is))
      | in_default w ↦
          w.nanoseconds-is
          ∙ sym
          (ap (λ u. time * 1000000000 / units_per_second u) w.in-PowerOfTen.is
          ∙ ten-beyond w.in-PowerOfTen.power time w.if-power-le-GREATEST_POWER_OF_TEN.false (omega arith))
      | in_default-2 w ↦
          w.nanoseconds-is
          ∙ sym
          (ap (λ u. time * 1000000000 / units_per_second u) w.in-PowerOfTwo.is
          ∙ two-beyond w.in-PowerOfTwo.power time w.if-power-le-GREATEST_POWER_OF_TWO.false (omega arith))
    ] in
    c.min.ensures ∙ ap (λ n. min units n) c.from-2.ensures ∙ ap (λ n. min n 18446744073709551615) whole
