-- A beginning's first number, and the number to which a flow skips, are one.
use Rattle.std.proofs.Common.{◌≡◌, ℕ, ◌<◌, ◌≤◌, Option, Some, None, List, refl, ap, sym, subst, ◌∙◌, arith}
use Rattle.std.proofs.lemmas.Bool.{both_ways}
use Rattle.std.proofs.lemmas.Option.{same_Some}
use Rattle.reorder.specs.Number.{offset}
use Rattle.capture_rules.specs.declared.arrival.HandedOn.{HandedOn}
use Rattle.capture_rules.specs.declared.held_time.HeldTime.{HeldTime}
use Rattle.capture_rules.specs.Order.{place_from}
use Rattle.capture_rules.specs.Begin.{IsFirstNumber}
use Rattle.capture_rules.specs.Held.{IsLastOld, IsSkip, is_old}

-- two numbers in one place are one
place_from-injective : (f m n : ℕ) → f < 8192 → m < 8192 → n < 8192 → place_from f m ≤ place_from f n → place_from f n ≤ place_from f m → m ≡ n
place_from-injective f m n h k l up down = omega arith

offset-one : (e m n : ℕ) → e < 8192 → m < 8192 → n < 8192 → offset e m ≤ offset e n → offset e n ≤ offset e m → m ≡ n
offset-one e m n h k l up down = omega arith

pub one-first_number : {T : Type 0} (kept : List (HandedOn T)) (a b : ℕ) → IsFirstNumber kept a → IsFirstNumber kept b → a ≡ b
one-first_number kept a b p q =
    let first = same_Some _ _ (sym p.stands_first ∙ q.stands_first) in
    let up : place_from p.first.arrival.number a ≤ place_from p.first.arrival.number q.one.arrival.number = p.least q.at q.one q.stands in
    let down : place_from q.first.arrival.number b ≤ place_from q.first.arrival.number p.one.arrival.number = q.least p.at p.one p.stands in
    let f = p.first.arrival.number in
    let same : q.first.arrival.number ≡ f = ap (λ (one : HandedOn _). one.arrival.number) (sym first) in
    p.its_number ∙ place_from-injective f p.one.arrival.number q.one.arrival.number p.first.arrival.in_range p.one.arrival.in_range q.one.arrival.in_range
    (subst (λ n. place_from f n ≤ place_from f q.one.arrival.number) p.its_number up)
    (subst (λ g. place_from g q.one.arrival.number ≤ place_from g p.one.arrival.number) same (subst (λ n. place_from q.first.arrival.number n ≤ place_from q.first.arrival.number p.one.arrival.number) q.its_number down))
    ∙ sym q.its_number

one-last_old : (wait now expected : ℕ) (held : List HeldTime) (a b : ℕ) → expected < 8192 → IsLastOld wait now expected held a → IsLastOld wait now expected held b → a ≡ b
one-last_old wait now expected held a b in_range p q =
    p.its_number ∙ offset-one expected p.one.number q.one.number in_range p.one.in_range q.one.in_range
    (subst (λ n. offset expected p.one.number ≤ offset expected n) q.its_number (q.last p.at p.one p.stands p.old))
    (subst (λ n. offset expected q.one.number ≤ offset expected n) p.its_number (p.last q.at q.one q.stands q.old))
    ∙ sym q.its_number

pub one-skip : (wait now expected : ℕ) (held : List HeldTime) (a b : Option ℕ) → expected < 8192 → IsSkip wait now expected held a → IsSkip wait now expected held b → a ≡ b
one-skip wait now expected held (Some a) (Some b) in_range p q = ap (λ (n : ℕ). Some n) (one-last_old wait now expected held a b in_range p q)
one-skip wait now expected held (Some a) None in_range p q = absurd (both_ways (is_old wait now p.one) (q p.at p.one p.stands) p.old)
one-skip wait now expected held None (Some b) in_range p q = absurd (both_ways (is_old wait now q.one) (p q.at q.one q.stands) q.old)
one-skip wait now expected held None None in_range p q = refl
