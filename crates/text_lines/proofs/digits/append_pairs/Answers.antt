use Rattle.std.proofs.Common.{◌≡◌, ◌+◌, ◌*◌, ◌<◌, ◌⊎◌, inl, inr, ℕ, List, length, drop, ap, sym, subst, ◌∙◌, arith, length-append}
use Rattle.std.proofs.lemmas.Bool.Decides.{nat_tests}
use Rattle.std.proofs.lemmas.List.{take_all}
use Rattle.hex.specs.Hex.{decode_pairs}
use Rattle.hex.proofs.Pairs.{prepend, decode_done}
use Rattle.text_lines.proofs.DigitValues.{digits-on, no_digit-on}
use Rattle.text_lines.proofs.digits.append_pairs.Goals as goal

pub loop-place-preserved : goal.loop-place-preserved
loop-place-preserved c =
    let digits = c.args.digits.now in
    let i = c.loop-place.place in
    let high = c.digit_value-high.result in
    let low = c.digit_value-low.result in
    let so_far = c.loop-place.invariant in
    let fits : 2 * i + 1 < length digits = (let test = c.loop-place-test.true in omega arith) in
    let one = c.greater.ensures in
    let all = c.greater-greatest.ensures in
    let is : (c.greater-greatest.result ≡ c.loop-place.greatest) ⊎ ((c.greater-greatest.result ≡ high) ⊎ (c.greater-greatest.result ≡ low)) = elim all.is [
      | inl same ↦ inl same
      | inr same ↦ elim one.is [
        | inl first ↦ inr (inl (same ∙ first))
        | inr second ↦ inr (inr (same ∙ second))
      ]
    ] in
    record {
      count = ap length c.push_reserved.ensures.items ∙ length-append c.loop-place.bytes.items _ ∙ ap (λ n. n + 1) so_far.count;
      room = (let same = c.push_reserved.ensures.capacity in let enough = so_far.room in omega arith);
      spelled = digits-on digits c.loop-place.bytes.items c.push_reserved.new.self.items i high low c.loop-place.greatest c.greater-greatest.result fits
          c.digit_value-high.ensures c.digit_value-low.ensures c.push_reserved.ensures.items so_far.spelled all.one
          (let x = one.one in let y = all.other in omega arith) (let x = one.other in let y = all.other in omega arith);
      none = no_digit-on digits c.loop-place.bytes.items c.push_reserved.new.self.items i high low c.loop-place.greatest c.greater-greatest.result fits
          c.digit_value-high.ensures c.digit_value-low.ensures c.push_reserved.ensures.items so_far.spelled so_far.none is;
    }

pub returns-clause-spelled : goal.returns-clause-spelled
returns-clause-spelled c small =
    let bytes = c.loop-place.bytes.items in
    let i = c.loop-place.place in
    let ends = c.loop-place-test.false in
    let even = c.requires.even in
    let count = c.loop-place.invariant.count in
    let below : c.loop-place.greatest < 16 = grind (arith, nat_tests) in
    decode_done c.args.digits.now bytes i (omega arith) (omega arith)
    (subst (λ (front : List ℕ). decode_pairs 0 c.args.digits.now ≡ prepend front (decode_pairs (2 * i) (drop (2 * i) c.args.digits.now))) (sym (take_all i bytes (omega arith)))
    (c.loop-place.invariant.spelled below))
