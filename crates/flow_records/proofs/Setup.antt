-- Records have at most one fault, and none if they can be set up.
use Rattle.std.proofs.Common.{◌≡◌, ℕ, ◌<◌, ◌≤◌, ◌↔◌, ⊎_elim, Result, Err, List, length, ap, subst, ◌∙◌, refl, arith}
use Rattle.std.proofs.lemmas.Bool.{cases_lt}
use Rattle.docsis_wire.specs.Limits.{sequence_modulus}
use Rattle.flow_records.specs.declared.record.FlowRecord.{FlowRecord}
use Rattle.flow_records.specs.declared.record.SetupFault.{SetupFault}
use Rattle.flow_records.specs.declared.record.SetupFault.TheVariants.{TooManyFlows, BadFlow, SameSfid, OutOfMemory}
use Rattle.flow_records.specs.Setup.{IsInRange, IsLeast, IsBad, IsRepeated, IsSetupFaultWithin, CanBeSetUpWithin}

-- the least number with a property is one number
pub least-one : (P : ℕ → Type 0) (k j : ℕ) → IsLeast P k → IsLeast P j → k ≡ j
least-one P k j k_least j_least =
    ⊎_elim
    (λ (before : k < j). absurd (j_least.1 k before k_least.0))
    (λ (rest : j ≤ k). ⊎_elim
    (λ (after : j < k). absurd (k_least.1 j after j_least.0))
    (λ (same : k ≤ j). omega arith)
    (cases_lt j k))
    (cases_lt k j)

-- some records have one fault
pub one_fault : (limit : ℕ) (records : List FlowRecord) (fault other : SetupFault) → IsSetupFaultWithin limit records fault → IsSetupFaultWithin limit records other
    → fault ≡ other
one_fault limit records TooManyFlows TooManyFlows is are = refl
one_fault limit records TooManyFlows (BadFlow j) is are = absurd (omega arith)
one_fault limit records TooManyFlows (SameSfid j) is are = absurd (omega arith)
one_fault limit records (BadFlow k) TooManyFlows is are = absurd (omega arith)
one_fault limit records (BadFlow k) (BadFlow j) is are = ap BadFlow (least-one (IsBad records) k j is.1 are.1)
one_fault limit records (BadFlow k) (SameSfid j) is are = absurd (are.1 k is.1.0)
one_fault limit records (SameSfid k) TooManyFlows is are = absurd (omega arith)
one_fault limit records (SameSfid k) (BadFlow j) is are = absurd (is.1 j are.1.0)
one_fault limit records (SameSfid k) (SameSfid j) is are = ap SameSfid (least-one (IsRepeated records) k j is.2 are.2)
one_fault limit records OutOfMemory other is are = absurd is
one_fault limit records fault OutOfMemory is are = absurd are

-- records with a fault can't be set up
pub fault-refused : (limit : ℕ) (records : List FlowRecord) (fault : SetupFault) → IsSetupFaultWithin limit records fault → ¬ (CanBeSetUpWithin limit records)
fault-refused limit records TooManyFlows is can = let few = can.few in omega arith
fault-refused limit records (BadFlow k) is can = can.in_range k is.1.0
fault-refused limit records (SameSfid k) is can = can.apart k is.2.0
fault-refused limit records OutOfMemory is can = is

-- a record that is not out of range is in range
in-range : (r : FlowRecord) → ¬ (¬ (IsInRange r)) → IsInRange r
in-range r stays =
    record {
      first = ⊎_elim (λ is. is) (λ (far : sequence_modulus ≤ r.first). absurd (stays (λ fits. let in_range = fits.first in omega arith))) (cases_lt r.first sequence_modulus);
      window_positive = ⊎_elim (λ is. omega arith) (λ (far : r.window ≤ 0). absurd (stays (λ fits. let in_range = fits.window_positive in omega arith))) (cases_lt 0 r.window);
      window_in_range = ⊎_elim (λ (far : 4096 < r.window). absurd (stays (λ fits. let in_range = fits.window_in_range in omega arith))) (λ is. is) (cases_lt 4096 r.window);
      clusters_positive = ⊎_elim (λ is. omega arith) (λ (far : r.clusters ≤ 0). absurd (stays (λ fits. let in_range = fits.clusters_positive in omega arith))) (cases_lt 0 r.clusters);
      clusters_in_range = ⊎_elim (λ (far : 8 < r.clusters). absurd (stays (λ fits. let in_range = fits.clusters_in_range in omega arith))) (λ is. is) (cases_lt 8 r.clusters);
      ring_positive = ⊎_elim (λ is. omega arith) (λ (far : r.ring ≤ 0). absurd (stays (λ fits. let in_range = fits.ring_positive in omega arith))) (cases_lt 0 r.ring);
    }

-- records without any fault can be set up
pub no_fault : (limit : ℕ) (records : List FlowRecord) → length records ≤ limit → ((k : ℕ) → ¬ (IsBad records k))
    → ((k : ℕ) → ¬ (IsRepeated records k)) → CanBeSetUpWithin limit records
no_fault limit records few in_range apart =
    record { few = few; in_range = in_range; each = λ k flow_record has. in-range flow_record (λ bad. in_range k (flow_record, has, bad)); apart = apart }

-- an answer with the fault of some records
pub fault-is : {T : Type 0} (limit : ℕ) (records : List FlowRecord) (answer : Result T SetupFault) (found : SetupFault) → answer ≡ Err found
    → IsSetupFaultWithin limit records found → (fault : SetupFault) → (answer ≡ Err fault) ↔ IsSetupFaultWithin limit records fault
fault-is limit records answer found err is fault =
    (λ e. let same : found ≡ fault = cc in subst (IsSetupFaultWithin limit records) same is, λ are. err ∙ ap Err (one_fault limit records found fault is are))

-- records that can be set up, and an answer with no fault of theirs
pub fault-not : {T : Type 0} (limit : ℕ) (records : List FlowRecord) (answer : Result T SetupFault) (fault : SetupFault) → CanBeSetUpWithin limit records
    → ¬ (answer ≡ Err fault) → (answer ≡ Err fault) ↔ IsSetupFaultWithin limit records fault
fault-not limit records answer fault can other = (λ e. absurd (other e), λ is. absurd (fault-refused limit records fault is can))
