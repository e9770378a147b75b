-- The close of a flow: it ends, and has one result.
use Rattle.std.proofs.Common.{◌≡◌, ℕ, zero, suc, ◌+◌, ◌<◌, ◌≤◌, ◌⊎◌, ◌↔◌, inl, inr, Bool, true, false, None, List, [], ◌∷◌, replicate, refl, ap, sym, subst, ◌∙◌, arith, cond, count_by}
use Rattle.std.proofs.lemmas.Bool.{cases_eq}
use Rattle.std.proofs.lemmas.List.Sums.{sum_by-cons}
use Rattle.std.specs.FinMap as map
use Rattle.reorder.specs.declared.verdict.Declared.{Declared}
use Rattle.reorder.specs.declared.verdict.Declared.TheVariants.{NextIsHere, NothingHeld, Lost}
use Rattle.reorder.proofs.Items.{get-insert_same, get-insert_other}
use Rattle.flow_core.specs.declared.event.Applied.{Applied}
use Rattle.flow_core.specs.declared.event.Applied.TheVariants.{Arrival, Decision, DecisionTo, DecisionSkip}
use Rattle.flow_core.specs.Fates.{Fates, no_fates, number_of, IsKept, IsOpen, IsExpected, HasLaterKept}
use Rattle.flow_core.specs.Events.{FlowEvent, gap, Changes, Declares, Leads, IsAfter}
use Rattle.flow_core.specs.Closing.{IsClosed, Closes, says_lost}
use Rattle.flow_core.proofs.Deciding.{HasLaterKept-decided}
use Rattle.flow_core.proofs.Outcome.{IsSound, expected-unique, sound-changes, sound-leads, sound-none}

-- what is known after events, of whichever index is expected
pub sound-of_after : (first width : ℕ) (events : List FlowEvent) (answers : List Applied) (fates : Fates) → IsAfter first width events answers fates
    → (x : ℕ) × IsSound width fates x
sound-of_after first width events answers fates is =
    let found = sound-leads first width 0 events answers no_fates fates (sound-none width) is in
    (found.0, found.2)

-- a gap loses the expected index, or changes nothing
pub gap-cases : (first width x : ℕ) (answer : Applied) (fates after : Fates) → Changes first width x gap answer fates after
    → (HasLaterKept fates x × (after ≡ map.insert fates x None) × (says_lost answer ≡ true)) ⊎ (¬ (HasLaterKept fates x) × (after ≡ fates) × (says_lost answer ≡ false))
gap-cases first width x (Arrival verdict) fates after changes = absurd changes
gap-cases first width x (Decision NextIsHere) fates after changes = absurd changes
gap-cases first width x (Decision NothingHeld) fates after changes = inr (changes.0, changes.1, refl)
gap-cases first width x (Decision (Lost number)) fates after changes = inl (changes.0, changes.2, refl)
gap-cases first width x (DecisionTo declared) fates after changes = absurd changes
gap-cases first width x (DecisionSkip skipped) fates after changes = absurd changes

-- in one way
gap-once : (first width x : ℕ) (a b : Applied) (fates after other : Fates) → Changes first width x gap a fates after → Changes first width x gap b fates other → after ≡ other
gap-once first width x a b fates after other p q =
    elim (gap-cases first width x a fates after p) [
      | inl lost ↦ elim (gap-cases first width x b fates other q) [ inl lost' ↦ lost.1 ∙ sym lost'.1 | inr none' ↦ absurd (none'.0 lost.0) ]
      | inr none ↦ elim (gap-cases first width x b fates other q) [ inl lost' ↦ absurd (none.0 lost'.0) | inr none' ↦ none.1 ∙ sym none'.1 ]
    ]

-- a loss keeps nothing
kept-lost : (fates : Fates) (x i : ℕ) → IsKept (map.insert fates x None) i → IsKept fates i
kept-lost fates x i kept =
    elim (cases_eq i x) [
      | inl same ↦ let lost = get-insert_same fates x None in let here = ap (map.get (map.insert fates x None)) same in let is = kept.1 in absurd cc
      | inr differ ↦ (kept.0, sym (get-insert_other fates x None i differ) ∙ kept.1)
    ]

-- the expected index is past one that was lost
past-lost : (fates : Fates) (x y : ℕ) → x ≤ y → IsExpected (map.insert fates x None) y → x < y
past-lost fates x y from expected =
    elim (cases_eq y x) [
      | inl same ↦ let lost = get-insert_same fates x None in let here = ap (map.get (map.insert fates x None)) same in let free = expected.open_itself in absurd cc
      | inr differ ↦ omega arith
    ]

-- how many of the answers say that a number was declared lost
lost-more : (answer : Applied) (rest : List Applied) (b : Bool) → says_lost answer ≡ b → count_by says_lost (answer ∷ rest) ≡ cond b 1 0 + count_by says_lost rest
lost-more answer rest b is = sum_by-cons (λ a. cond (says_lost a) 1 0) answer rest ∙ ap (λ t. cond {A = ℕ} t 1 0 + count_by says_lost rest) is

-- Losses go on below a bound of what is kept.
losses-bounded : (first width bound n x : ℕ) (answers : List Applied) (fates after : Fates) → IsSound width fates x → ((i : ℕ) → IsKept fates i → i < bound)
    → Leads first width fates (replicate n gap) answers after → (count_by says_lost answers ≡ 0) ⊎ (x + count_by says_lost answers < bound)
losses-bounded first width bound zero x answers fates after sound within leads = inl (ap (count_by says_lost) leads.0)
losses-bounded first width bound (suc n) x answers fates after sound within (x', answer, rest, between, expected, changes, leads, are) =
    let same = expected-unique fates x' x expected sound.expected in
    let changed : Changes first width x gap answer fates between = subst (λ k. Changes first width k gap answer fates between) same changes in
    let next = sound-changes first width x gap answer fates between sound changed in
    let count = ap (count_by says_lost) are in
    elim (gap-cases first width x answer fates between changed) [
      | inl (later_kept, is, lost) ↦
          let past : x < next.0 = past-lost fates x next.0 next.1 (subst (λ (f : Fates). IsExpected f next.0) is next.2.expected) in
          let one : count_by says_lost (answer ∷ rest) ≡ 1 + count_by says_lost rest = lost-more answer rest true lost in
          let near = within later_kept.0 later_kept.2 in
          elim (losses-bounded first width bound n next.0 rest between after next.2
          (λ i kept. within i (kept-lost fates x i (subst (λ (f : Fates). IsKept f i) is kept))) leads) [
            | inl none ↦ inr (omega (arith, later_kept.1))
            | inr some ↦ inr (omega arith)
          ]
      | inr (none, is, not_so) ↦
          let no : count_by says_lost (answer ∷ rest) ≡ 0 + count_by says_lost rest = lost-more answer rest false not_so in
          elim (losses-bounded first width bound n next.0 rest between after next.2 (λ i kept. within i (subst (λ (f : Fates). IsKept f i) is kept)) leads) [
            | inl zero_more ↦ inl (omega arith)
            | inr some ↦ inr (omega (arith, next.1))
          ]
    ]

-- so gaps lose fewer indexes than the width of the window
pub losses-fewer : (first width n : ℕ) (events : List FlowEvent) (answers gaps : List Applied) (fates after : Fates) → 1 ≤ width
    → IsAfter first width events answers fates → Leads first width fates (replicate n gap) gaps after → count_by says_lost gaps < width
losses-fewer first width n events answers gaps fates after positive is leads =
    let found = sound-of_after first width events answers fates is in
    elim (losses-bounded first width (found.0 + width) n found.0 gaps fates after found.1 found.1.kept_within leads) [
      | inl none ↦ omega arith
      | inr some ↦ omega arith
    ]

-- a flow has a close: so many indexes are left up to a bound of what is kept
close-exists : (first width left x : ℕ) (fates : Fates) → IsSound width fates x → ((i : ℕ) → IsKept fates i → i < x + left)
    → (after : Fates) × Closes first width fates after
close-exists first width zero x fates sound within =
    (fates, (0, [], (refl, refl), (x, sound.expected, λ later_kept. absurd (omega (arith, later_kept.1, within later_kept.0 later_kept.2)))))
close-exists first width (suc left) x fates sound within =
    elim (HasLaterKept-decided fates (x + width) x sound.kept_within) [
      | inr none ↦ (fates, (0, [], (refl, refl), (x, sound.expected, none)))
      | inl later_kept ↦
          let between = map.insert fates x None in
          let answer = Decision (Lost (number_of first x)) in
          let changes : Changes first width x gap answer fates between = (later_kept, refl, refl) in
          let next = sound-changes first width x gap answer fates between sound changes in
          let past : x < next.0 = past-lost fates x next.0 next.1 next.2.expected in
          let rest = close-exists first width left next.0 between next.2 (λ i kept. let near = within i (kept-lost fates x i kept) in omega arith) in
          (rest.0, (suc rest.1.0, answer ∷ rest.1.1, (x, answer, rest.1.1, between, sound.expected, changes, rest.1.2, refl), rest.1.3))
    ]

pub some-close : (first width : ℕ) (events : List FlowEvent) (answers : List Applied) (fates : Fates) → IsAfter first width events answers fates
    → (after : Fates) × Closes first width fates after
some-close first width events answers fates is =
    let found = sound-of_after first width events answers fates is in
    close-exists first width width found.0 fates found.1 found.1.kept_within

-- gaps change nothing of a closed flow
closed-stays : (first width n : ℕ) (answers : List Applied) (fates after : Fates) → IsClosed fates → Leads first width fates (replicate n gap) answers after → after ≡ fates
closed-stays first width zero answers fates after closed leads = leads.1
closed-stays first width (suc n) answers fates after closed (x', answer, rest, between, expected, changes, leads, are) =
    let same = expected-unique fates x' closed.0 expected closed.1 in
    elim (gap-cases first width x' answer fates between changes) [
      | inl (later_kept, is, lost) ↦ absurd (closed.2 (subst (HasLaterKept fates) same later_kept))
      | inr (none, is, not_so) ↦ closed-stays first width n rest between after (subst IsClosed (sym is) closed) leads ∙ is
    ]

-- so the close has one result
close-once : (first width n m : ℕ) (answers others : List Applied) (fates after other : Fates)
    → Leads first width fates (replicate n gap) answers after → IsClosed after → Leads first width fates (replicate m gap) others other → IsClosed other → after ≡ other
close-once first width zero m answers others fates after other p closed q closed' =
    p.1 ∙ sym (closed-stays first width m others fates other (subst IsClosed p.1 closed) q)
close-once first width (suc n) zero answers others fates after other p closed q closed' =
    closed-stays first width (suc n) answers fates after (subst IsClosed q.1 closed') p ∙ sym q.1
close-once first width (suc n) (suc m) answers others fates after other (x, a, as_left, f, expected, changes, leads, are) closed (y, b, bs_left, g, expected', changes', leads', are') closed' =
    let same = expected-unique fates y x expected' expected in
    let changed : Changes first width x gap b fates g = subst (λ k. Changes first width k gap b fates g) same changes' in
    let one = gap-once first width x b a fates g f changed changes in
    close-once first width n m as_left bs_left f after other leads closed (subst (λ (h : Fates). Leads first width h (replicate m gap) bs_left other) one leads') closed'

pub only-close : (first width : ℕ) (fates after other : Fates) → Closes first width fates after → Closes first width fates other → after ≡ other
only-close first width fates after other p q = close-once first width p.0 q.0 p.1 q.1 fates after other p.2 p.3 q.2 q.3

-- a gap loses nothing exactly if the flow is closed
pub closed-answers : (first x : ℕ) (fates after : Fates) (declared : Declared) → IsExpected fates x → Declares first x declared fates after
    → IsClosed fates ↔ (declared ≡ NothingHeld)
closed-answers first x fates after NextIsHere expected declares = absurd declares
closed-answers first x fates after NothingHeld expected declares = (λ closed. refl, λ same. (x, expected, declares.0))
closed-answers first x fates after (Lost number) expected declares =
    (λ closed. absurd (closed.2 (subst (HasLaterKept fates) (expected-unique fates x closed.0 expected closed.1) declares.0)), λ same. absurd cc)

-- a loss of an open index leaves what is kept
kept-stays : (fates : Fates) (x i : ℕ) → IsOpen fates x → IsKept fates i → IsKept (map.insert fates x None) i
kept-stays fates x i free kept =
    elim (cases_eq i x) [
      | inl same ↦ let here = ap (map.get fates) same in let is = kept.1 in absurd cc
      | inr differ ↦ (kept.0, get-insert_other fates x None i differ ∙ kept.1)
    ]

-- gaps neither keep nor drop a segment
pub gaps-kept : (first width n i : ℕ) (answers : List Applied) (fates after : Fates) → Leads first width fates (replicate n gap) answers after → IsKept after i ↔ IsKept fates i
gaps-kept first width zero i answers fates after leads =
    (subst (λ (f : Fates). IsKept f i) leads.1, subst (λ (f : Fates). IsKept f i) (sym leads.1))
gaps-kept first width (suc n) i answers fates after (x, answer, rest, between, expected, changes, leads, are) =
    let more = gaps-kept first width n i rest between after leads in
    elim (gap-cases first width x answer fates between changes) [
      | inl (later_kept, is, lost) ↦ (
        λ kept. kept-lost fates x i (subst (λ (f : Fates). IsKept f i) is (more.0 kept)),
        λ kept. more.1 (subst (λ (f : Fates). IsKept f i) (sym is) (kept-stays fates x i expected.open_itself kept)),
      )
      | inr (none, is, not_so) ↦
          (λ kept. subst (λ (f : Fates). IsKept f i) is (more.0 kept), λ kept. more.1 (subst (λ (f : Fates). IsKept f i) (sym is) kept))
    ]
