-- What is due is handed on, one after another.
use Rattle.std.proofs.Common.{◌≡◌, ℕ, ◌<◌, true, false, nat_lt, length, arith, refl, List, [], ◌∷◌, ◌++◌, sym, subst, append-nil, append_assoc}
use Rattle.std.proofs.lemmas.Bool.{ltb-false}
use Rattle.std.proofs.lemmas.List.Edits.{length-remove}
use Rattle.std.proofs.lemmas.Option.{slice_get_within}
use Rattle.capture_rules.specs.declared.arrival.Waiting.{Waiting}
use Rattle.capture_rules.specs.declared.arrival.HandedOn.{HandedOn}
use Rattle.capture_rules.specs.Order.{OrderView, is_due, IsNext, HandsOn, none_due, one_due, HandsOnAll, none_waits, one_waits}

module _ {T : Type 0} where
  -- whatever is handed on of what waits now, that is handed on after these of what waited at first
  abbrev pub HandsOnAfter : ℕ → OrderView T → List (HandedOn T) → OrderView T → Type 0
  HandsOnAfter time start handed order = (later : List (HandedOn T)) (left : OrderView T) → HandsOn time order later left → HandsOn time start (handed ++ later) left

  abbrev pub HandsAllOnAfter : List (Waiting T) → List (HandedOn T) → List (Waiting T) → Type 0
  HandsAllOnAfter start handed waiting = (later : List (HandedOn T)) → HandsOnAll waiting later → HandsOnAll start (handed ++ later)

  pub after-none : (time : ℕ) (start : OrderView T) → HandsOnAfter time start [] start
  after-none time start later left hands = hands

  pub after-next : (time : ℕ) (start order rest : OrderView T) (handed : List (HandedOn T)) (next : HandedOn T) → HandsOnAfter time start handed order
      → is_due order time ≡ true → IsNext order.waiting next rest.waiting → rest ≡ record order { waiting = rest.waiting } → HandsOnAfter time start (handed ++ next ∷ []) rest
  after-next time start order rest handed next so_far due is_next stays later left hands =
      subst (λ (d : List (HandedOn T)). HandsOn time start d left) (sym (append_assoc handed (next ∷ []) later))
      (so_far (next ∷ later) left (one_due due is_next (subst (λ (o : OrderView T). HandsOn time o later left) stays hands)))

  pub after-all : (time : ℕ) (start order : OrderView T) (handed : List (HandedOn T)) → HandsOnAfter time start handed order → is_due order time ≡ false → HandsOn time start handed order
  after-all time start order handed so_far none = subst (λ (d : List (HandedOn T)). HandsOn time start d order) (append-nil handed) (so_far [] order (none_due none))

  pub all-none : (start : List (Waiting T)) → HandsAllOnAfter start [] start
  all-none start later hands = hands

  pub all-next : (start waiting rest : List (Waiting T)) (handed : List (HandedOn T)) (next : HandedOn T) → HandsAllOnAfter start handed waiting
      → IsNext waiting next rest → HandsAllOnAfter start (handed ++ next ∷ []) rest
  all-next start waiting rest handed next so_far is_next later hands =
      subst (λ (d : List (HandedOn T)). HandsOnAll start d) (sym (append_assoc handed (next ∷ []) later)) (so_far (next ∷ later) (one_waits is_next hands))

  pub all-all : (start waiting : List (Waiting T)) (handed : List (HandedOn T)) → HandsAllOnAfter start handed waiting → waiting ≡ [] → HandsOnAll start handed
  all-all start waiting handed so_far none =
      subst (λ (d : List (HandedOn T)). HandsOnAll start d) (append-nil handed) (so_far [] (subst (λ (x : List (Waiting T)). HandsOnAll x []) (sym none) none_waits))

  -- one fewer waits
  pub next-shorter : (waiting rest : List (Waiting T)) (next : HandedOn T) → IsNext waiting next rest → length rest < length waiting
  next-shorter waiting rest next p =
      let fewer = length-remove waiting p.at (slice_get_within waiting p.at p.one p.stands) in
      subst (λ (r : List (Waiting T)). length r < length waiting) (sym p.others) (omega (arith, fewer))

-- a list of which not even the first item is there
pub none-there : {T : Type 0} (xs : List T) → false ≡ nat_lt 0 (length xs) → xs ≡ []
none-there [] none = refl
none-there (x ∷ xs) none = let less = ltb-false 0 (length (x ∷ xs)) (sym none) in absurd (omega (arith, less))
