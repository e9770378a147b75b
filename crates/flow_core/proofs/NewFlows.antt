-- A flow for one record more, and that no segment of a new one is next.
use Rattle.std.proofs.Common.{◌≡◌, ℕ, zero, suc, ◌+◌, ◌<◌, ◌≤◌, ⊎_elim, Bool, false, Some, List, [], ◌∷◌, ◌++◌, length, slice_get, sym, ap, subst, ◌∙◌, arith}
use Rattle.std.proofs.lemmas.Bool.{cases_lt}
use Rattle.std.proofs.lemmas.Option.{none-some, same_Some}
use Rattle.std.specs.Ordering.{nat_cmp}
use Rattle.std.specs.FinMap as map
use Rattle.docsis_wire.proofs.StreamPlaces.{slice_get-at, element_at}
use Rattle.flow_records.specs.declared.record.FlowRecord.{FlowRecord}
use Rattle.flow_core.specs.declared.flow.Flow.{Flow}
use Rattle.flow_core.specs.declared.flows.Core.{Core}
use Rattle.flow_core.specs.Fates.{Fates, no_fates, IsExpected}
use Rattle.flow_core.specs.Stands.{StandsFor}
use Rattle.flow_core.specs.Flows.{AreNewFlows, IsDrainedAt}
use Rattle.flow_core.proofs.Giving.{drained_of_expected}

-- what was there is there with more behind it
still-there : {T : Type 0} (xs ys : List T) (k : ℕ) (x : T) → slice_get xs k ≡ Some x → slice_get (xs ++ ys) k ≡ Some x
still-there [] ys k x has = absurd (none-some x has)
still-there (y ∷ xs) ys zero x has = has
still-there (y ∷ xs) ys (suc k) x has = still-there xs ys k x has

-- a flow of the record that stands for no events
abbrev pub IsNew : FlowRecord → Flow → Type 0
IsNew flow_record flow = (check : List ℕ → Bool) → StandsFor check flow_record flow [] [] 0 []

-- each of the first n records has its flow
abbrev pub AreNewBelow : List FlowRecord → List Flow → ℕ → Type 0
AreNewBelow records flows n =
    (k : ℕ) (flow_record : FlowRecord) → k < n → slice_get records k ≡ Some flow_record → (flow : Flow) × (slice_get flows k ≡ Some flow) × IsNew flow_record flow

pub new-more : (records : List FlowRecord) (flows : List Flow) (n : ℕ) (flow_record : FlowRecord) (flow : Flow) → length flows ≡ n → slice_get records n ≡ Some flow_record
    → IsNew flow_record flow → AreNewBelow records flows n → AreNewBelow records (flows ++ flow ∷ []) (n + 1)
new-more records flows n flow_record flow size at is_new each k one below has =
    ⊎_elim
    (λ (before : k < n). let there = each k one before has in (there.0, still-there flows (flow ∷ []) k there.0 there.1, there.2))
    (λ (rest : n ≤ k).
    let same : k ≡ n = omega arith in
    let record_is : flow_record ≡ one = same_Some flow_record one (sym at ∙ ap (slice_get records) (sym same) ∙ has) in
    (flow, ap (slice_get (flows ++ flow ∷ [])) (same ∙ sym size) ∙ slice_get-at flows flow [], subst (λ r. IsNew r flow) record_is is_new))
    (cases_lt k n)

-- no segment of a new flow is next
pub new-drained : {C : Type 0} (records : List FlowRecord) (core : Core C) → AreNewFlows records core.flows.items
    → (k : ℕ) → k < length records → IsDrainedAt core k
new-drained records core each k below =
    let at = element_at records k below in
    let there = each k at.0 at.1 in
    let stands = there.2 (λ _. false) in
    let none : IsExpected no_fates 0 = record { open_itself = map.get-empty nat_cmp 0; settled = λ i before. absurd (omega arith) } in
    let expected : IsExpected stands.fates 0 = subst (λ (f : Fates). IsExpected f 0) (sym stands.after.1) none in
    record { flow = there.0; there = there.1; drained = drained_of_expected (λ _. false) at.0 there.0 [] [] 0 [] stands expected }
