use Rattle.std.proofs.Common.{◌≡◌, ℕ, ◌<◌, List, ◌∷◌, length, get_or, Option, Some, None, sym, subst, refl}
use Rattle.std.specs.Prelude.{IsPermutation, IfSome, OnSome, IfNone, IsSome, remove}
use Rattle.std.specs.List.Sorted.{IsNonDecreasing}
use Rattle.std.proofs.lemmas.List.Sorted.{IsPermutation-remove}
use Rattle.capture_rules.proofs.InOrder.{ordered-removed}
use Rattle.capture_rules.proofs.waiting_numbers.take_first.Goals as goal

taken : (answer : Option ℕ) (old new : List ℕ) (at : ℕ) → IfSome answer (λ n. n ≡ get_or old at n) → OnSome answer (new ≡ remove old at) → (IsSome answer → at < length old)
    → IfSome answer (λ n. IsPermutation old (n ∷ new))
taken None old new at is others within = tt
taken (Some n) old new at is others within = subst (λ (ns : List ℕ). IsPermutation old (n ∷ ns)) (sym others) (IsPermutation-remove old at n (within refl) is)

ordered : (answer : Option ℕ) (old new : List ℕ) (at : ℕ) → IsNonDecreasing old → OnSome answer (new ≡ remove old at) → (IsSome answer → at < length old) → IfNone answer (new ≡ old) → IsNonDecreasing new
ordered None old new at up others within same = subst (λ (ns : List ℕ). IsNonDecreasing ns) (sym same) up
ordered (Some n) old new at up others within same = subst (λ (ns : List ℕ). IsNonDecreasing ns) (sym others) (ordered-removed old up at (within refl))

pub returns-clause-taken : goal.returns-clause-taken
returns-clause-taken c = taken c.take_at.result c.args.numbers.now.items c.take_at.new.queue.items c.first_from-at.result c.take_at.ensures.value c.take_at.ensures.items c.take_at.ensures.some.0

pub returns-clause-ordered : goal.returns-clause-ordered
returns-clause-ordered c = ordered c.take_at.result c.args.numbers.now.items c.take_at.new.queue.items c.first_from-at.result c.requires c.take_at.ensures.items c.take_at.ensures.some.0 c.take_at.ensures.unchanged
