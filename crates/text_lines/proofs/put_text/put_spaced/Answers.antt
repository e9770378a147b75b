use Rattle.std.proofs.Common.{◌≡◌, ◌+◌, ◌-◌, ◌<◌, ◌≤◌, [], ◌∷◌, ◌++◌, List, ℕ, length, take, drop, set, ap, ◌∙◌, append-nil, arith, rules, length-drop, length-set}
use Rattle.std.specs.Fmt.{decimal}
use Rattle.std.proofs.lemmas.Fmt.{decimal_digit, length-decimal-le}
use Rattle.std.proofs.lemmas.List.{drop-set, take_all}
use Rattle.text_lines.proofs.put_text.put_spaced.Goals as goal

-- A space was put before digits that stand at the end of some bytes.
put_before : (digits bytes : List ℕ) (start : ℕ) → start < length bytes → drop (start + 1) bytes ≡ digits ++ []
    → (count : ℕ) → length bytes ≤ count + start → take count (drop start (set bytes start 32)) ≡ 32 ∷ digits
put_before digits bytes start within are count all =
    let long = length-drop start (set bytes start 32) in
    take_all count (drop start (set bytes start 32)) (omega (arith, length-set {A = ℕ}))
    ∙ drop-set bytes start 32 within
    ∙ ap (λ rest. 32 ∷ rest) (are ∙ append-nil digits)

pub returns-then-number-lt10 : goal.returns-then-number-lt10
returns-then-number-lt10 g c = λ start text was.
    rw (decimal_digit c.args.number c.if-number-lt10.true) (c.put.ensures start text was)

pub write_digits-start-requires : goal.write_digits-start-requires
write_digits-start-requires g c = (omega (arith, length-decimal-le 20 c.args.number (omega arith) (omega arith) c.ranges.number.fits), omega arith)

pub overflow_sub-start : goal.overflow_sub-start
overflow_sub-start g c = omega (arith, length-decimal-le 20 c.args.number (omega arith) (omega arith) c.ranges.number.fits)

pub returns : goal.returns
returns g c = λ start text was.
    let w = c.write_digits-start in
    let long : length w.new.buf ≡ 21 = search rules in
    let short = length-decimal-le 20 c.args.number (omega arith) (omega arith) c.ranges.number.fits in
    let next : w.result - 1 + 1 ≡ w.result = omega arith in
    let are : drop (w.result - 1 + 1) w.new.buf ≡ decimal c.args.number ++ [] = ap (λ place. drop place w.new.buf) next ∙ w.ensures.written in
    let put = put_before (decimal c.args.number) w.new.buf (w.result - 1) (omega arith) are (21 - (w.result - 1)) (omega arith) in
    rw put at (c.put-2.ensures start text was)
