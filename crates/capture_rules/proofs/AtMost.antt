-- No more wait than may, as one more comes.
use Rattle.std.proofs.Common.{◌≡◌, ℕ, ◌+◌, ◌<◌, ◌≤◌, true, refl, Option, None, Some, List, [], ◌∷◌, ◌++◌, length, is_some, ltb-false, sym, subst, ap, ◌∙◌, arith}
use Rattle.std.specs.Prelude.{IfSome, nat_lt}
use Rattle.std.proofs.lemmas.Option.{slice_get_within}
use Rattle.std.proofs.lemmas.List.{length-append}
use Rattle.std.proofs.lemmas.List.Edits.{length-remove}
use Rattle.capture_rules.specs.declared.arrival.Arrival.{Arrival}
use Rattle.capture_rules.specs.declared.arrival.HandedOn.{HandedOn}
use Rattle.capture_rules.specs.declared.arrival.Waiting.{Waiting}
use Rattle.capture_rules.specs.Order.{most_waiting, IsNext, KeepsMost, all_wait, one_more}

module _ {T : Type 0} where
  -- one fewer waits once the next is handed on
  pub length-rest : (waiting rest : List (Waiting T)) (next : HandedOn T) → IsNext waiting next rest → length rest + 1 ≡ length waiting
  length-rest waiting rest next is =
      let removed = length-remove waiting is.at (slice_get_within waiting is.at is.one is.stands) in
      let others = ap length is.others in
      omega (arith, removed, others)

  -- and where too many wait one is handed on
  pub one-goes : (waiting : List (Waiting T)) → most_waiting < length waiting → (answer : Option (HandedOn T)) → is_some answer ≡ nat_lt 0 (length waiting) → is_some answer ≡ true
  one-goes waiting many None some = absurd (let empty = ltb-false 0 (length waiting) (sym some) in omega (arith, many, empty))
  one-goes waiting many (Some next) some = refl

  module _ (old new : List (Waiting T)) (came came' : ℕ) (arrival : Arrival T) (waits : new ≡ old ++ record { came = came'; arrival = arrival } ∷ []) (same : came' ≡ came) where
    all : new ≡ old ++ record { came = came; arrival = arrival } ∷ []
    all = waits ∙ ap (λ t. old ++ record { came = t; arrival = arrival } ∷ []) same

    pub keeps-all : length new ≤ most_waiting → KeepsMost (old ++ record { came = came; arrival = arrival } ∷ []) None new
    keeps-all few = subst (λ (w : List (Waiting T)). KeepsMost w None new) all (all_wait few)

    module _ (rest : List (Waiting T)) (many : most_waiting < length new) where
      pub keeps-most : (answer : Option (HandedOn T)) → is_some answer ≡ nat_lt 0 (length new) → IfSome answer (λ next. IsNext new next rest)
          → KeepsMost (old ++ record { came = came; arrival = arrival } ∷ []) answer rest
      keeps-most None some is = absurd (let empty = ltb-false 0 (length new) (sym some) in omega (arith, many, empty))
      keeps-most (Some next) some is = subst (λ (w : List (Waiting T)). KeepsMost w (Some next) rest) all (one_more many is)

      pub rest-at_most : (answer : Option (HandedOn T)) → is_some answer ≡ nat_lt 0 (length new) → IfSome answer (λ next. IsNext new next rest) → length old ≤ most_waiting → length rest ≤ most_waiting
      rest-at_most None some is few = absurd (let empty = ltb-false 0 (length new) (sym some) in omega (arith, many, empty))
      rest-at_most (Some next) some is few =
          let fewer = length-rest new rest next is in
          let size = ap length waits in
          let sum = length-append old (record { came = came'; arrival = arrival } ∷ []) in
          omega (arith, fewer, size, sum, few)
