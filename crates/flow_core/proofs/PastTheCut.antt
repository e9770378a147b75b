-- What is settled joins to the frames that are delivered, also where a skip has taken the expected
-- index past the end of the cut.
use Rattle.std.proofs.Common.{◌≡◌, ℕ, zero, suc, ◌≤◌, inl, inr, Bool, Option, Some, None, List, [], ◌∷◌, length, slice_get, take, refl, arith}
use Rattle.std.proofs.lemmas.Bool.{cases_lt}
use Rattle.std.proofs.lemmas.List.{length-take-le}
use Rattle.std.proofs.lemmas.Option.{slice_get_within}
use Rattle.docsis_wire.specs.declared.segment.Segment.{Segment}
use Rattle.docsis_wire.specs.Span.{IsSettledOf}
use Rattle.ccf.specs.Join.{Joins}
use Rattle.ccf.specs.Filter.{FiltersTo}
use Rattle.ccf.proofs.Filters.{FiltersFrom-same}
use Rattle.flow_core.specs.Fates.{Fates, IsSettledBelow}
use Rattle.flow_core.specs.Delivery.{IsDelivered}
use Rattle.flow_core.proofs.Nearness.{AreOfIndex}

-- from the k-th on there are losses alone
abbrev AreLossesFrom : ℕ → List (Option Segment) → Type 0
AreLossesFrom k settled = (i : ℕ) (fate : Option Segment) → k ≤ i → slice_get settled i ≡ Some fate → fate ≡ None

-- losses give no frame
losses-give_none : (check : List ℕ → Bool) (before : List ℕ) (settled : List (Option Segment)) (frames : List (List ℕ)) (after : List ℕ)
    → AreLossesFrom 0 settled → Joins check before settled frames after → frames ≡ []
losses-give_none check before [] frames after losses joins = joins.0
losses-give_none check before (None ∷ settled) frames after losses joins =
    losses-give_none check [] settled frames after (λ i fate from is. losses (suc i) fate (omega arith) is) joins
losses-give_none check before (Some segment ∷ settled) frames after losses joins =
    let wrong : Some segment ≡ None = losses 0 (Some segment) (omega arith) refl in absurd cc

-- so the front without them gives all frames
front-joins : (check : List ℕ → Bool) (k : ℕ) (before : List ℕ) (settled : List (Option Segment)) (frames : List (List ℕ)) (after : List ℕ)
    → AreLossesFrom k settled → Joins check before settled frames after → (between : List ℕ) × Joins check before (take k settled) frames between
front-joins check zero before settled frames after losses joins = (before, (losses-give_none check before settled frames after losses joins, refl))
front-joins check (suc k) before [] frames after losses joins = (after, joins)
front-joins check (suc k) before (None ∷ settled) frames after losses joins =
    front-joins check k [] settled frames after (λ i fate from is. losses (suc i) fate (omega arith) is) joins
front-joins check (suc k) before (Some segment ∷ settled) frames after losses (fed, rest, middle, feeds, joins, is) =
    let front = front-joins check k middle settled rest after (λ i fate from at. losses (suc i) fate (omega arith) at) joins in
    (front.0, (fed, rest, middle, feeds, front.1, is))

-- what stands in a front stands in the whole
front-item : {X : Type 0} (k : ℕ) (xs : List X) (i : ℕ) (x : X) → slice_get (take k xs) i ≡ Some x → slice_get xs i ≡ Some x
front-item zero xs i x is = absurd (let within = slice_get_within [] i x is in omega arith)
front-item (suc k) [] i x is = is
front-item (suc k) (y ∷ ys) zero x is = is
front-item (suc k) (y ∷ ys) (suc i) x is = front-item k ys i x is

module _ (check : List ℕ → Bool) (frames chunks : List (List ℕ)) (segments : List Segment) (fates : Fates) (of_index : AreOfIndex segments fates)
    (law : (n : ℕ) (settled : List (Option Segment)) (joined : List (List ℕ)) (unfinished : List ℕ) → IsSettledOf segments settled → IsSettledBelow fates n settled
    → Joins check [] settled joined unfinished → FiltersTo (IsDelivered frames chunks fates n) frames joined) where
  -- what is settled within the cut is of it
  settled-of_cut : (n : ℕ) (settled : List (Option Segment)) → n ≤ length segments → IsSettledBelow fates n settled → IsSettledOf segments settled
  settled-of_cut n settled within below =
      record {
        within = let size = below.size in omega arith;
        kept = λ i segment at. of_index i segment (below.each i (Some segment) at);
      }

  -- past the cut nothing was kept
  past-lost : (n : ℕ) (settled : List (Option Segment)) → IsSettledBelow fates n settled → AreLossesFrom (length segments) settled
  past-lost n settled below i None from is = refl
  past-lost n settled below i (Some segment) from is =
      absurd (let within = slice_get_within segments i segment (of_index i segment (below.each i (Some segment) is)) in omega arith)

  -- What is settled below an index joins to the frames that are delivered before it.
  pub delivered-joined : (n : ℕ) (settled : List (Option Segment)) (joined : List (List ℕ)) (unfinished : List ℕ)
      → IsSettledBelow fates n settled → Joins check [] settled joined unfinished → FiltersTo (IsDelivered frames chunks fates n) frames joined
  delivered-joined n settled joined unfinished below joins =
      let m = length segments in
      elim (cases_lt m n) [
        | inr within ↦ law n settled joined unfinished (settled-of_cut n settled within below) below joins
        | inl past ↦
            let front = front-joins check m [] settled joined unfinished (past-lost n settled below) joins in
            let front_below : IsSettledBelow fates m (take m settled) = record {
              size = length-take-le m settled (let size = below.size in omega arith);
              each = λ i fate is. below.each i fate (front-item m settled i fate is);
            } in
            FiltersFrom-same (IsDelivered frames chunks fates m) (IsDelivered frames chunks fates n) 0 frames joined
            (λ j low high p. record { whole = p.whole; kept = p.kept; below = λ i in_span. let before = p.below i in_span in omega arith })
            (λ j low high p. record {
              whole = p.whole;
              kept = p.kept;
              below = λ i in_span. let kept = p.kept i in_span in slice_get_within segments i kept.0 (of_index i kept.0 kept.1);
            })
            (law m (take m settled) joined front.0 (settled-of_cut m (take m settled) (omega arith) front_below) front_below front.1)
      ]
