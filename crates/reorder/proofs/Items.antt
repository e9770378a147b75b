-- What a finite map from numbers has at a number after a change.
use Rattle.std.proofs.Common.{◌≡◌, ◌≢◌, ℕ, true, false, cond, Option, None, Some, is_some, ⊎_elim, refl, ap, sym, ◌∙◌}
use Rattle.std.specs.Ordering.{nat_cmp, is_eq, eq_by_cmp}
use Rattle.std.specs.declared.cmp.Ordering.TheVariants.{Less, Equal, Greater}
use Rattle.std.specs.Cmp.{nat_cmp_total, eq_by_cmp_equiv}
use Rattle.std.proofs.lemmas.Bool.{cases_eq}
use Rattle.std.specs.FinMap.{FinMap, nat_cmp-IsAntisymmetric, same_map, get, insert, remove, get-insert, get-remove}

-- two numbers that differ are no one key
apart : (q k : ℕ) → q ≢ k → eq_by_cmp nat_cmp q k ≡ false
apart q k differ =
    elim (nat_cmp q k) as (λ o. nat_cmp q k ≡ o → is_eq o ≡ false) [
      | Less ↦ λ _. refl
      | Equal ↦ λ tie. absurd (differ (nat_cmp-IsAntisymmetric q k tie))
      | Greater ↦ λ _. refl
    ] refl

module _ {T : Type 0} (m : FinMap nat_cmp T) (k : ℕ) where
  -- a number that was put in has its item
  pub get-insert_same : (v : T) → get (insert m k v) k ≡ Some v
  get-insert_same v = get-insert nat_cmp_total m k v k ∙ ap (λ b. cond b (Some v) (get m k)) ((eq_by_cmp_equiv nat_cmp_total).refl k)

  -- and the others have what they had
  pub get-insert_other : (v : T) (q : ℕ) → q ≢ k → get (insert m k v) q ≡ get m q
  get-insert_other v q differ = get-insert nat_cmp_total m k v q ∙ ap (λ b. cond b (Some v) (get m q)) (apart q k differ)

  -- a number that was taken out has none
  pub get-remove_same : get (remove m k) k ≡ None
  get-remove_same = get-remove nat_cmp_total m k k ∙ ap (λ b. cond b None (get m k)) ((eq_by_cmp_equiv nat_cmp_total).refl k)

  -- and the others have what they had
  pub get-remove_other : (q : ℕ) → q ≢ k → get (remove m k) q ≡ get m q
  get-remove_other q differ = get-remove nat_cmp_total m k q ∙ ap (λ b. cond b None (get m q)) (apart q k differ)

module _ {T : Type 0} where
  -- an option that is no `Some` is `None`
  pub none : (o : Option T) → ¬ (is_some o ≡ true) → o ≡ None
  none None free = refl
  none (Some v) free = absurd (free refl)

  -- what was put in at a free number and is taken out again leaves nothing behind
  pub remove-insert : (m : FinMap nat_cmp T) (k : ℕ) (v : T) → ¬ (is_some (get m k) ≡ true) → remove (insert m k v) k ≡ m
  remove-insert m k v free =
      same_map nat_cmp_total nat_cmp-IsAntisymmetric _ _ (λ q.
      ⊎_elim
      (λ same. ap (get (remove (insert m k v) k)) same ∙ get-remove_same (insert m k v) k ∙ sym (none (get m k) free) ∙ ap (get m) (sym same))
      (λ differ. get-remove_other (insert m k v) k q differ ∙ get-insert_other m k v q differ)
      (cases_eq q k))
