use Rattle.std.proofs.Common.{◌≡◌, ◌-◌, ◌*◌, ◌/◌, inl, inr, Bool, IsTrue, IsFalse, ℕ, List, ◌++◌, length, take, drop, replicate, min, sym, ap, ◌∙◌, length-append, length-take, append-nil, arith}
use Rattle.std.proofs.Math.Seq.{drop-append_seam}
use Rattle.std.proofs.lemmas.Bool.{cases_lt}
use Rattle.std.proofs.lemmas.List.{take_all, take_at, take_min, drop_all, length-replicate}
use Rattle.text_lines.specs.Field.{SpellsBytes}
use Rattle.text_lines.specs.Inside.Digits.{SpellsPairs, SpellsNothing}
use Rattle.text_lines.proofs.FrontDigits.{spelled-half, front-read}
use Rattle.text_lines.proofs.field.read_hex_front.Goals as goal

-- The front of some bytes, and zeros behind it up to their length.
module _ (count size : ℕ) (bytes front items : List ℕ) (long : length bytes ≡ size) (front_is : front ≡ take count bytes)
    (items_are : items ≡ take size front ++ replicate (size - length front) 0) where
  abbrev zeros : List ℕ
  zeros = replicate (size - length front) 0

  count_is : length front ≡ min count size
  count_is = ap length front_is ∙ length-take count bytes ∙ ap (min count) long

  filled : items ≡ front ++ zeros
  filled = items_are ∙ ap (λ (t : List ℕ). t ++ zeros) (take_all size front (omega (arith, count_is)))

  length-filled : length items ≡ length bytes
  length-filled = ap length filled ∙ length-append front zeros ∙ omega (arith, count_is, long, length-replicate {A = ℕ} (size - length front) 0)

  filled-front : take count items ≡ take count bytes
  filled-front = elim (cases_lt count size) [
    | inl below ↦ ap (take count) filled ∙ take_at front zeros count (omega (arith, count_is)) ∙ front_is
    | inr whole ↦
        let none : size - length front ≡ 0 = omega (arith, count_is) in
        take_all count items (omega (arith, length-filled, long)) ∙ filled ∙ ap (λ (k : ℕ). front ++ replicate k 0) none ∙ append-nil front ∙ front_is
  ]

  filled-zeros : drop count items ≡ replicate (length items - count) 0
  filled-zeros = elim (cases_lt count size) [
    | inl below ↦
        let here : count ≡ length front = omega (arith, count_is) in
        let more : size - length front ≡ length items - count = omega (arith, count_is, length-filled, long) in
        ap (drop count) filled ∙ ap (λ (k : ℕ). drop k (front ++ zeros)) here ∙ drop-append_seam front zeros ∙ ap (λ (k : ℕ). replicate k 0) more
    | inr whole ↦
        let none : 0 ≡ length items - count = omega (arith, length-filled, long) in
        drop_all count items (omega (arith, length-filled, long)) ∙ ap (λ (k : ℕ). replicate k 0) none
  ]

-- the first digits of a field were read, so many as there are
read_front : (count n counted : ℕ) (field bytes front items : List ℕ) (all : Bool) → SpellsBytes field bytes → n ≡ min count (length field / 2)
    → (IsTrue all → SpellsPairs (take (2 * n) field) front) → (IsFalse all → SpellsNothing (take (2 * n) field))
    → counted ≡ length front → items ≡ take (length field / 2) front ++ replicate (length field / 2 - counted) 0
    → (length items ≡ length bytes) × (take count items ≡ take count bytes) × (drop count items ≡ replicate (length items - count) 0)
read_front count n counted field bytes front items all spells n_is spelled refused counted_is items_are =
    let size : ℕ = length field / 2 in
    let long = spelled-half field bytes spells in
    let front_is : front ≡ take count bytes = front-read n field bytes front all spells (omega arith) spelled refused
    ∙ ap (λ (k : ℕ). take k bytes) (n_is ∙ ap (min count) (sym long)) ∙ take_min count bytes in
    let filled_up = items_are ∙ ap (λ (k : ℕ). take size front ++ replicate (size - k) 0) counted_is in (
      length-filled count size bytes front items long front_is filled_up,
      filled-front count size bytes front items long front_is filled_up,
      filled-zeros count size bytes front items long front_is filled_up,
    )

pub returns-clause-spelled : goal.returns-clause-spelled
returns-clause-spelled c = λ bytes spells.
    let front = c.append_pairs.new.bytes in
    let read = c.append_pairs.ensures in
    let all = read_front c.args.count c.min.result front.len c.args.field.now bytes front.items c.resize.new.self.items c.append_pairs.result spells
    c.min.ensures read.spelled read.refused front.ok.0 c.in_ok-resize.ensures.items in
    (all.0, all.1)

pub returns-clause-zeros : goal.returns-clause-zeros
returns-clause-zeros c = λ hex.
    let front = c.append_pairs.new.bytes in
    let read = c.append_pairs.ensures in
    (read_front c.args.count c.min.result front.len c.args.field.now hex.0 front.items c.resize.new.self.items c.append_pairs.result hex.1
    c.min.ensures read.spelled read.refused front.ok.0 c.in_ok-resize.ensures.items).2
