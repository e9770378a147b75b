-- What can be decided of a flow's fates.
use Rattle.std.proofs.Common.{◌≡◌, ℕ, zero, suc, ◌+◌, ◌<◌, ◌≤◌, ◌⊎◌, inl, inr, Option, Some, None, refl, ap, sym, subst, ◌∙◌, arith}
use Rattle.std.proofs.lemmas.Bool.{cases_eq, cases_lt}
use Rattle.std.specs.FinMap as map
use Rattle.docsis_wire.specs.declared.segment.Segment.{Segment}
use Rattle.reorder.proofs.Items.{get-insert_same, get-insert_other}
use Rattle.flow_core.specs.Fates.{Fates, IsKept, IsOpen, HasLaterKept, number_of}
use Rattle.flow_core.specs.Events.{IsAhead, IsDeclaredTo, IsSkippedTo}

-- a fact that holds or does not
abbrev pub Decided : Type 0 → Type 0
Decided P = P ⊎ (P → ⊥)

-- two facts
pub both : (P Q : Type 0) → Decided P → Decided Q → Decided (P × Q)
both P Q (inl p) (inl q) = inl (p, q)
both P Q (inl p) (inr q) = inr (λ h. q h.1)
both P Q (inr p) q = inr (λ h. p h.0)

-- that a fact does not hold
pub opposite : (P : Type 0) → Decided P → Decided (P → ⊥)
opposite P (inl p) = inr (λ not_so. not_so p)
opposite P (inr not_so) = inl not_so

-- an order of numbers
pub below-decided : (m n : ℕ) → Decided (m < n)
below-decided m n = elim (cases_lt m n) [ inl h ↦ inl h | inr h ↦ inr (λ below. omega arith) ]

pub le-decided : (m n : ℕ) → Decided (m ≤ n)
le-decided m n = elim (cases_lt n m) [ inl h ↦ inr (λ le. omega arith) | inr h ↦ inl h ]

-- some number below a bound has a fact, or none has
pub found-below : (P : ℕ → Type 0) → ((i : ℕ) → Decided (P i)) → (n : ℕ) → ((i : ℕ) × (i < n) × P i) ⊎ ((i : ℕ) → i < n → P i → ⊥)
found-below P decide zero = inr (λ i below _. omega arith)
found-below P decide (suc n) =
    elim (found-below P decide n) [
      | inl h ↦ inl (h.0, omega (arith, h.1), h.2)
      | inr none ↦ elim (decide n) [
        | inl p ↦ inl (n, omega arith, p)
        | inr not_so ↦ inr (λ i below p. elim (cases_eq i n) [ inl same ↦ not_so (subst P same p) | inr differ ↦ none i (omega arith) p ])
      ]
    ]

-- an index is open, or it is known what became of it
pub open_or_settled : (fates : Fates) (i : ℕ) → IsOpen fates i ⊎ ((fate : Option Segment) × (map.get fates i ≡ Some fate))
open_or_settled fates i =
    elim (map.get fates i) as (λ o. (o ≡ None) ⊎ ((fate : Option Segment) × (o ≡ Some fate))) [ None ↦ inl refl | Some fate ↦ inr (fate, refl) ]

IsOpen-decided : (fates : Fates) (i : ℕ) → Decided (IsOpen fates i)
IsOpen-decided fates i = elim (open_or_settled fates i) [ inl free ↦ inl free | inr settled ↦ inr (λ free. let is = settled.1 in cc) ]

kept_or_not : (o : Option (Option Segment)) → Decided ((segment : Segment) × (o ≡ Some (Some segment)))
kept_or_not None = inr (λ kept. let is = kept.1 in cc)
kept_or_not (Some None) = inr (λ kept. let is = kept.1 in cc)
kept_or_not (Some (Some segment)) = inl (segment, refl)

pub IsKept-decided : (fates : Fates) (i : ℕ) → Decided (IsKept fates i)
IsKept-decided fates i = kept_or_not (map.get fates i)

-- an index is later_kept or not, where no segment from a bound on was kept
pub HasLaterKept-decided : (fates : Fates) (bound i : ℕ) → ((j : ℕ) → IsKept fates j → j < bound) → Decided (HasLaterKept fates i)
HasLaterKept-decided fates bound i within =
    elim (found-below (λ j. (i < j) × IsKept fates j) (λ j. both (i < j) (IsKept fates j) (below-decided i j) (IsKept-decided fates j)) bound) [
      | inl h ↦ inl (h.0, h.2.0, h.2.1)
      | inr none ↦ inr (λ later_kept. none later_kept.0 (within later_kept.0 later_kept.2) (later_kept.1, later_kept.2))
    ]

-- a number has one index ahead
pub IsAhead-once : (first x number i j : ℕ) → IsAhead first x number i → IsAhead first x number j → i ≡ j
IsAhead-once first x number i j p q = omega arith

IsAhead-decided : (first x number i : ℕ) → Decided (IsAhead first x number i)
IsAhead-decided first x number i =
    elim (le-decided x i) [
      | inr not_so ↦ inr (λ ahead. not_so ahead.from)
      | inl from ↦ elim (below-decided i (x + 4096)) [
        | inr not_so ↦ inr (λ ahead. not_so ahead.to)
        | inl to ↦ elim (cases_eq (number_of first i) number) [
          | inr not_so ↦ inr (λ ahead. not_so ahead.numbered)
          | inl numbered ↦ inl record { from = from; to = to; numbered = numbered }
        ]
      ]
    ]

-- or none
pub ahead_or_behind : (first x number : ℕ) → ((i : ℕ) × IsAhead first x number i) ⊎ ((i : ℕ) → IsAhead first x number i → ⊥)
ahead_or_behind first x number =
    elim (found-below (IsAhead first x number) (IsAhead-decided first x number) (x + 4096)) [
      | inl h ↦ inl (h.0, h.2)
      | inr none ↦ inr (λ i ahead. none i ahead.to ahead)
    ]

-- an index is lost by a skip up to a number, or not
pub IsSkippedTo-decided : (first x number : ℕ) (fates : Fates) (i : ℕ) → Decided (IsSkippedTo first x number fates i)
IsSkippedTo-decided first x number fates i =
    elim (ahead_or_behind first x number) [
      | inr none ↦ inr (λ skipped. none skipped.end skipped.ahead)
      | inl end ↦ elim (le-decided x i) [
        | inr not_so ↦ inr (λ skipped. not_so skipped.from)
        | inl from ↦ elim (below-decided i end.0) [
          | inr not_so ↦ inr (λ skipped. not_so (subst (λ e. i < e) (IsAhead-once first x number skipped.end end.0 skipped.ahead end.1) skipped.before))
          | inl before ↦ elim (IsOpen-decided fates i) [
            | inr not_so ↦ inr (λ skipped. not_so skipped.open_itself)
            | inl free ↦ inl record { end = end.0; ahead = end.1; from = from; before = before; open_itself = free }
          ]
        ]
      ]
    ]

-- a loss up to a number is declared of what a skip loses and has a later kept segment
pub skipped-declared : (first x number : ℕ) (fates : Fates) (i : ℕ) → IsSkippedTo first x number fates i → HasLaterKept fates i → IsDeclaredTo first x number fates i
skipped-declared first x number fates i p later_kept =
    record { end = p.end; ahead = p.ahead; from = p.from; before = p.before; open_itself = p.open_itself; later_kept = later_kept }

pub declared-skipped : (first x number : ℕ) (fates : Fates) (i : ℕ) → IsDeclaredTo first x number fates i → IsSkippedTo first x number fates i
declared-skipped first x number fates i p = record { end = p.end; ahead = p.ahead; from = p.from; before = p.before; open_itself = p.open_itself }

-- so of an index it is, or not
pub IsDeclaredTo-decided : (first x number : ℕ) (fates : Fates) (bound i : ℕ) → ((j : ℕ) → IsKept fates j → j < bound) → Decided (IsDeclaredTo first x number fates i)
IsDeclaredTo-decided first x number fates bound i within =
    elim (IsSkippedTo-decided first x number fates i) [
      | inr not_so ↦ inr (λ declared. not_so (declared-skipped first x number fates i declared))
      | inl skipped ↦ elim (HasLaterKept-decided fates bound i within) [
        | inr not_so ↦ inr (λ declared. not_so declared.later_kept)
        | inl later_kept ↦ inl (skipped-declared first x number fates i skipped later_kept)
      ]
    ]

-- the indexes below a bound that have a fact, each marked lost
pub marked-lost : (P : ℕ → Type 0) → ((i : ℕ) → Decided (P i)) → (fates : Fates) (n : ℕ)
    → (after : Fates) × ((i : ℕ) → i < n → P i → map.get after i ≡ Some None) × ((i : ℕ) → (P i → ⊥) → map.get after i ≡ map.get fates i)
marked-lost P decide fates zero = (fates, λ i below _. absurd (omega arith), λ i _. refl)
marked-lost P decide fates (suc n) =
    let before = marked-lost P decide fates n in
    elim (decide n) [
      | inl p ↦ (
        map.insert before.0 n None,
        λ i below q. elim (cases_eq i n) [
          | inl same ↦ ap (map.get (map.insert before.0 n None)) same ∙ get-insert_same before.0 n None
          | inr differ ↦ get-insert_other before.0 n None i differ ∙ before.1 i (omega arith) q
        ],
        λ i not_so. get-insert_other before.0 n None i (λ same. not_so (subst P (sym same) p)) ∙ before.2 i not_so,
      )
      | inr not_so ↦ (
        before.0,
        λ i below q. elim (cases_eq i n) [ inl same ↦ absurd (not_so (subst P same q)) | inr differ ↦ before.1 i (omega arith) q ],
        before.2,
      )
    ]
