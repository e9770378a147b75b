-- One of the flows of a capture changes.
use Rattle.std.proofs.Common.{◌≡◌, ℕ, zero, suc, ◌<◌, ◌⊎◌, inl, inr, Some, List, [], ◌∷◌, ◌++◌, ◌+◌, length, map, slice_get, set, get_or, take, ap, sym, subst, ◌∙◌, ⊎_elim}
use Rattle.std.specs.Prelude.{option_map}
use Rattle.std.proofs.lemmas.List.{map-set, map-append, map_more}
use Rattle.std.proofs.lemmas.Option.{same_Some, slice_get-map}
use Rattle.captured_flows.specs.declared.waits.Waits.{Waits}
use Rattle.captured_flows.specs.declared.flow_bursts.CapturedFlow.{CapturedFlow}
use Rattle.captured_flows.specs.Flow.{FlowView}
use Rattle.captured_flows.specs.Seen.{flow_seen, KeepsWaits, HasWaits}
use Rattle.capture_map.specs.declared.map.MapFlow.{MapFlow}
use Rattle.bonded_flows.specs.Table.{TableSetup}
use Rattle.captured_flows.specs.Acts.{Act}
use Rattle.captured_flows.specs.Captures.{EndsAll, one_more_ends}
use Rattle.captured_flows.specs.Together.{HaveWaits, views_of, view_begun, EndsAt}

-- what stands in a list of which one item was changed
set-cases : {X : Type 0} (xs : List X) (k : ℕ) (v : X) (j : ℕ) (y : X) → slice_get (set xs k v) j ≡ Some y → (y ≡ v) ⊎ (slice_get xs j ≡ Some y)
set-cases [] k v j y there = absurd (cc)
set-cases (x ∷ xs) zero v zero y there = inl (same_Some y v (sym there))
set-cases (x ∷ xs) zero v (suc j) y there = inr there
set-cases (x ∷ xs) (suc k) v zero y there = inr there
set-cases (x ∷ xs) (suc k) v (suc j) y there = set-cases xs k v j y there

pub waits-kept : (waits : Waits) (old new : CapturedFlow) → KeepsWaits old new → HasWaits waits old → HasWaits waits new
waits-kept waits old new keeps has = record { wait = keeps.wait ∙ has.wait }

pub waits-set : (waits : Waits) (flows : List CapturedFlow) (k : ℕ) (new : CapturedFlow) → HaveWaits waits flows → HasWaits waits new → HaveWaits waits (set flows k new)
waits-set waits flows k new have has j flow there =
    ⊎_elim
    (λ (same : flow ≡ new). subst (HasWaits waits) (sym same) has)
    (λ (before : slice_get flows j ≡ Some flow). have j flow before)
    (set-cases flows k new j flow there)

pub view-at : (flows : List CapturedFlow) (k : ℕ) (flow : CapturedFlow) → slice_get flows k ≡ Some flow → slice_get (views_of flows) k ≡ Some (flow_seen flow)
view-at flows k flow there = slice_get-map flow_seen flows k ∙ ap (option_map flow_seen) there

pub views-set : (flows : List CapturedFlow) (k : ℕ) (new : CapturedFlow) → views_of (set flows k new) ≡ set (views_of flows) k (flow_seen new)
views-set flows k new = map-set flow_seen flows k new

-- one flow more has ended
pub ends-more : (waits : Waits) (made : TableSetup) (start between flows : List FlowView) (handed first later more : List Act) (n : ℕ)
    → EndsAll made waits.wait start handed n first between → EndsAt waits n between made (handed ++ first) later flows → more ≡ first ++ later
    → EndsAll made waits.wait start handed (n + 1) more flows
ends-more waits made start between flows handed first later more n before at all =
    subst (λ (m : List Act). EndsAll made waits.wait start handed (n + 1) m flows) (sym all)
    (subst (λ (fs : List FlowView). EndsAll made waits.wait start handed (n + 1) (first ++ later) fs) (sym at.others)
    (one_more_ends at.flow at.flow' before at.stands at.ends))

-- what stands in a list with one item more
push-cases : {X : Type 0} (xs : List X) (v : X) (j : ℕ) (y : X) → slice_get (xs ++ v ∷ []) j ≡ Some y → (y ≡ v) ⊎ (slice_get xs j ≡ Some y)
push-cases [] v zero y there = inl (same_Some y v (sym there))
push-cases [] v (suc j) y there = absurd (cc)
push-cases (x ∷ xs) v zero y there = inr there
push-cases (x ∷ xs) v (suc j) y there = push-cases xs v j y there

pub waits-more : (waits : Waits) (flows : List CapturedFlow) (new : CapturedFlow) → HaveWaits waits flows → HasWaits waits new → HaveWaits waits (flows ++ new ∷ [])
waits-more waits flows new have has j flow there =
    ⊎_elim
    (λ (same : flow ≡ new). subst (HasWaits waits) (sym same) has)
    (λ (before : slice_get flows j ≡ Some flow). have j flow before)
    (push-cases flows new j flow there)

-- one flow more has begun
pub views-more : (waits : Waits) (begun : List CapturedFlow) (flows : List MapFlow) (i : ℕ) (d : MapFlow) (new : CapturedFlow) → i < length flows
    → views_of begun ≡ map (view_begun waits) (take i flows) → flow_seen new ≡ view_begun waits (get_or flows i d)
    → views_of (begun ++ new ∷ []) ≡ map (view_begun waits) (take (i + 1) flows)
views-more waits begun flows i d new within so_far seen =
    map-append flow_seen begun (new ∷ []) ∙ ap (λ (vs : List FlowView). vs ++ flow_seen new ∷ []) so_far
    ∙ ap (λ (v : FlowView). map (view_begun waits) (take i flows) ++ v ∷ []) seen ∙ sym (map_more (view_begun waits) flows i d within)
