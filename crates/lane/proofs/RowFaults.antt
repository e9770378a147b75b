-- Rows have at most one fault, and none if a lane can be opened with them.
use Rattle.std.proofs.Common.{◌≡◌, ◌↔◌, ℕ, Result, Err, List, ap, subst, ◌∙◌}
use Rattle.flow_records.proofs.Setup.{least-one}
use Rattle.lane.specs.declared.sids.SidRow.{SidRow}
use Rattle.lane.specs.declared.sids.LaneFault.{LaneFault}
use Rattle.lane.specs.declared.sids.LaneFault.TheVariants.{SidRange, SameSid, UnknownFlow, OutOfMemory}
use Rattle.lane.specs.Rows.{IsOutOfRangeWithin, IsSidRepeated, NamesNoFlow, IsLaneFaultWithin, CanBeOpenedWithin}

-- some rows have one fault
pub one_fault : (channels : ℕ) (rows : List SidRow) (n : ℕ) (fault other : LaneFault) → IsLaneFaultWithin channels rows n fault → IsLaneFaultWithin channels rows n other → fault ≡ other
one_fault channels rows n (SidRange k) (SidRange j) is are = ap SidRange (least-one (IsOutOfRangeWithin channels rows) k j is are)
one_fault channels rows n (SidRange k) (SameSid j) is are = absurd (are.0 k is.0)
one_fault channels rows n (SidRange k) (UnknownFlow j) is are = absurd (are.0 k is.0)
one_fault channels rows n (SameSid k) (SidRange j) is are = absurd (is.0 j are.0)
one_fault channels rows n (SameSid k) (SameSid j) is are = ap SameSid (least-one (IsSidRepeated rows) k j is.1 are.1)
one_fault channels rows n (SameSid k) (UnknownFlow j) is are = absurd (are.1 k is.1.0)
one_fault channels rows n (UnknownFlow k) (SidRange j) is are = absurd (is.0 j are.0)
one_fault channels rows n (UnknownFlow k) (SameSid j) is are = absurd (is.1 j are.1.0)
one_fault channels rows n (UnknownFlow k) (UnknownFlow j) is are = ap UnknownFlow (least-one (NamesNoFlow rows n) k j is.2 are.2)
one_fault channels rows n OutOfMemory other is are = absurd is
one_fault channels rows n fault OutOfMemory is are = absurd are

-- a lane can't be opened with rows that have a fault
pub fault-refused : (channels : ℕ) (rows : List SidRow) (n : ℕ) (fault : LaneFault) → IsLaneFaultWithin channels rows n fault → ¬ (CanBeOpenedWithin channels rows n)
fault-refused channels rows n (SidRange k) is can = can.in_range k is.0
fault-refused channels rows n (SameSid k) is can = can.apart k is.1.0
fault-refused channels rows n (UnknownFlow k) is can = can.known k is.2.0
fault-refused channels rows n OutOfMemory is can = is

-- an answer that reports a fault of the rows reports no other
pub fault-is : {T : Type 0} (channels : ℕ) (rows : List SidRow) (n : ℕ) (answer : Result T LaneFault) (fault : LaneFault) → answer ≡ Err fault → IsLaneFaultWithin channels rows n fault
    → (other : LaneFault) → (answer ≡ Err other) ↔ IsLaneFaultWithin channels rows n other
fault-is {T} channels rows n answer fault reports is other = (
  λ e. let same : fault ≡ other = cc in subst (IsLaneFaultWithin channels rows n) same is,
  λ are. reports ∙ ap Err (one_fault channels rows n fault other is are),
)

-- where a lane can be opened, an answer that doesn't report a fault is right
pub fault-not : {T : Type 0} (channels : ℕ) (rows : List SidRow) (n : ℕ) (answer : Result T LaneFault) (fault : LaneFault) → CanBeOpenedWithin channels rows n → ¬ (answer ≡ Err fault)
    → (answer ≡ Err fault) ↔ IsLaneFaultWithin channels rows n fault
fault-not {T} channels rows n answer fault can not_so = (λ e. absurd (not_so e), λ is. absurd (fault-refused channels rows n fault is can))
