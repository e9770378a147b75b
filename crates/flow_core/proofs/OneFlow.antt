-- One flow of a core changes, and the others stay.
use Rattle.std.proofs.Common.{◌≡◌, ◌≢◌, ℕ, zero, suc, ◌<◌, ◌≤◌, Some, None, Result, Ok, Err, IfOk, OnErr, List, [], ◌∷◌, ◌++◌, length, slice_get, slice_set, refl, sym, ap, subst, ◌∙◌, arith}
use Rattle.std.specs.FinMap as map
use Rattle.std.specs.Global.{Vec}
use Rattle.std.specs.Vec.{with_item}
use Rattle.std.proofs.Props.{props}
use Rattle.std.proofs.lemmas.List.{length-set, set-get_or}
use Rattle.std.proofs.lemmas.Option.{slice_get_within, get_or_from_slice_get, same_Some}
use mathlib.Core.HLevel.{is_prop→PathP}
use Rattle.docsis_wire.proofs.StreamPlaces.{slice_get-at}
use Rattle.reorder.specs.declared.verdict.Declared.{Declared}
use Rattle.reorder.specs.declared.verdict.Declared.TheVariants.{Lost}
use Rattle.flow_core.specs.declared.flow.Flow.{Flow}
use Rattle.flow_core.specs.declared.flows.Core.{Core}
use Rattle.flow_core.specs.declared.event.Applied.TheVariants.{Decision}
use Rattle.flow_records.specs.Limits.{flows_max}
use Rattle.flow_core.specs.Fates.{number_of}
use Rattle.flow_core.specs.Events.{gap}
use Rattle.flow_core.specs.Stands.{IsDrained, TakesEvent}
use Rattle.flow_core.specs.Flows.{IsLoss, HasNoneLater, OthersStay}
use Rattle.flow_core.proofs.Outcome.{after-append}
use Rattle.flow_core.proofs.OneFates.{after-once}
use Rattle.flow_core.proofs.Standing.{drained-sound}

-- lists that begin alike and have one more element each
same_last : {T : Type 0} (list : List T) (x y : T) → list ++ x ∷ [] ≡ list ++ y ∷ [] → x ≡ y
same_last {T = T} list x y same =
    same_Some x y (sym (slice_get-at list x []) ∙ ap (λ (l : List T). slice_get l (length list)) same ∙ slice_get-at list y [])

-- Where a gap declares no loss there is no later segment: with one, its answer would be a loss, and
-- events have one outcome.
pub none-later : (flow after : Flow) (declared : Declared) → IsDrained flow → TakesEvent flow gap (Decision declared) after → ¬ (IsLoss declared) → HasNoneLater flow
none-later flow after declared drained taken no_loss check r events answers y given s later =
    let t = taken check r events answers y given s in
    let sound = drained-sound check r flow events answers y given s drained in
    let lost = Decision (Lost (number_of r.first y)) in
    let other = after-append r.first r.window y events answers gap lost s.fates (map.insert s.fates y None) s.after sound.expected (later, refl, refl) in
    let same = after-once r.first r.window (events ++ gap ∷ []) (answers ++ Decision declared ∷ []) (answers ++ lost ∷ []) t.1.fates (map.insert s.fates y None) t.1.after other in
    let answer : Decision declared ≡ Decision (Lost (number_of r.first y)) = same_last answers (Decision declared) lost same.0 in
    no_loss (number_of r.first y, cc)

-- what follows from what holds of an `Ok`
pub ok-follows : {T E : Type 0} (P Q : T → Type 0) → ((x : T) → P x → Q x) → (r : Result T E) → IfOk r P → IfOk r Q
ok-follows P Q f (Ok x) holds = f x holds
ok-follows P Q f (Err e) holds = tt

-- what follows at an `Err`
pub err-follows : {T E : Type 0} (P Q : Type 0) → (P → Q) → (r : Result T E) → OnErr r P → OnErr r Q
err-follows P Q f (Ok x) holds = tt
err-follows P Q f (Err e) holds = f holds

-- what was written is there
pub written : {T : Type 0} (list : List T) (k : ℕ) (x : T) → k < length list → slice_get (slice_set list k x) k ≡ Some x
written [] k x within = absurd (omega arith)
written (y ∷ ys) zero x within = refl
written (y ∷ ys) (suc k) x within = written ys k x (omega arith)

-- and everything else is as it was
pub written_other : {T : Type 0} (list : List T) (k j : ℕ) (x : T) → j ≢ k → slice_get (slice_set list k x) j ≡ slice_get list j
written_other [] k j x differ = refl
written_other (y ∷ ys) zero zero x differ = absurd (differ refl)
written_other (y ∷ ys) zero (suc j) x differ = refl
written_other (y ∷ ys) (suc k) zero x differ = refl
written_other (y ∷ ys) (suc k) (suc j) x differ = written_other ys k j x (λ same. differ (ap suc same))

-- flow k was written
pub others-stay : {C : Type 0} (core after : Core C) (k j : ℕ) (flow : Flow) → j ≡ k → after.flows.items ≡ slice_set core.flows.items k flow → after.check ≡ core.check
    → OthersStay core after j
others-stay core after k j flow same items check =
    record {
      check = check;
      count = ap length items ∙ length-set core.flows.items k flow;
      others = λ i differ. ap (λ (list : List Flow). slice_get list i) items ∙ written_other core.flows.items k i flow (λ is. differ (is ∙ sym same));
    }

-- what relates the flow that was there to the one that is there now
pub changes-at : (flows : List Flow) (k j : ℕ) (flow after : Flow) (R : Flow → Flow → Type 0) → j ≡ k → slice_get flows k ≡ Some flow → R flow after
    → (one : Flow) → slice_get flows j ≡ Some one → (one' : Flow) × (slice_get (slice_set flows k after) j ≡ Some one') × R one one'
changes-at flows k j flow after R same has related one has_one = (
  after,
  ap (slice_get (slice_set flows k after)) same ∙ written flows k after (slice_get_within flows k flow has),
  subst (λ f. R f after) (same_Some flow one (sym has ∙ ap (slice_get flows) (sym same) ∙ has_one)) related,
)

-- a flow that is written as it was
flows-same : (flows : Vec Flow) (k : ℕ) (flow : Flow) → slice_get flows.items k ≡ Some flow → with_item flows k flow ≡ flows
flows-same flows k flow has =
    let items : slice_set flows.items k flow ≡ flows.items = ap (slice_set flows.items k) (sym (get_or_from_slice_get flows.items k flow flow has)) ∙ set-get_or flows.items k flow in
    λ i. record {
      ptr = flows.ptr;
      len = flows.len;
      cap = flows.cap;
      alloc = flows.alloc;
      items = items i;
      ok = is_prop→PathP (λ j. (flows.len ≡ length (items j)) × (flows.len ≤ flows.cap)) (λ j. hlevel props) (with_item flows k flow).ok flows.ok i;
      small = flows.small;
    }

-- and then the core is as it was
pub unchanged-at : {C : Type 0} (core after : Core C) (k : ℕ) (flow written : Flow) → slice_get core.flows.items k ≡ Some flow → written ≡ flow
    → after.flows ≡ with_item core.flows k written → after.check ≡ core.check → after ≡ core
unchanged-at core after k flow written has same flows check =
    let is : after.flows ≡ core.flows = flows ∙ flows-same core.flows k written (has ∙ ap Some (sym same)) in
    λ i. record {
      flows = is i;
      check = check i;
      few = is_prop→PathP (λ j. length (is j).items ≤ flows_max) (λ j. hlevel props) after.few core.few i;
    }
