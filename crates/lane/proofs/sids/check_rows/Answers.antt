-- The first fault that is found is the one fault of the rows.
use Rattle.std.proofs.Common.{◌≡◌, ◌↔◌, ℕ, Result, Ok, Err, List, ap, subst}
use Rattle.lane.specs.declared.sids.SidRow.{SidRow}
use Rattle.lane.specs.declared.sids.LaneFault.{LaneFault}
use Rattle.lane.specs.declared.sids.LaneFault.TheVariants.{SidRange, SameSid, UnknownFlow}
use Rattle.lane.specs.Limits.{channel_limit}
use Rattle.lane.specs.Rows.{IsLaneFault, CanBeOpened}
use Rattle.lane.proofs.RowFaults.{one_fault, fault-refused}
use Rattle.lane.proofs.sids.check_rows.Goals as goal

-- an answer with a fault
fault-ok : (rows : List SidRow) (n : ℕ) (fault : LaneFault) → IsLaneFault rows n fault
    → (◌≡◌ {A = Result (Unit {0}) LaneFault} (Err fault) (Ok tt)) ↔ CanBeOpened rows n
fault-ok rows n fault is = (λ e. absurd (cc), λ can. absurd (fault-refused channel_limit rows n fault is can))

fault-is : (rows : List SidRow) (n : ℕ) (fault : LaneFault) → IsLaneFault rows n fault
    → (other : LaneFault) → (◌≡◌ {A = Result (Unit {0}) LaneFault} (Err fault) (Err other)) ↔ IsLaneFault rows n other
fault-is rows n fault is other =
    (λ e. let same : fault ≡ other = cc in subst (IsLaneFault rows n) same is, λ are. ap Err (one_fault channel_limit rows n fault other is are))

pub returns-in-Some-clause-ok : goal.returns-in-Some-clause-ok
returns-in-Some-clause-ok c = fault-ok c.args.rows.now c.args.flow_count (SidRange c.in-Some.k) c.in-Some.ensures

pub returns-in-Some-clause-fault : goal.returns-in-Some-clause-fault
returns-in-Some-clause-fault c = fault-is c.args.rows.now c.args.flow_count (SidRange c.in-Some.k) c.in-Some.ensures

pub returns-in-Some-first_repeated-clause-ok : goal.returns-in-Some-first_repeated-clause-ok
returns-in-Some-first_repeated-clause-ok c =
    fault-ok c.args.rows.now c.args.flow_count (SameSid c.in-Some-first_repeated.k) (c.in_default.ensures, c.in-Some-first_repeated.ensures)

pub returns-in-Some-first_repeated-clause-fault : goal.returns-in-Some-first_repeated-clause-fault
returns-in-Some-first_repeated-clause-fault c =
    fault-is c.args.rows.now c.args.flow_count (SameSid c.in-Some-first_repeated.k) (c.in_default.ensures, c.in-Some-first_repeated.ensures)

pub returns-in-Some-first_without_flow-clause-ok : goal.returns-in-Some-first_without_flow-clause-ok
returns-in-Some-first_without_flow-clause-ok c =
    fault-ok c.args.rows.now c.args.flow_count (UnknownFlow c.in-Some-first_without_flow.k)
    (c.in_default.ensures, c.in_default-first_repeated.ensures, c.in-Some-first_without_flow.ensures)

pub returns-in-Some-first_without_flow-clause-fault : goal.returns-in-Some-first_without_flow-clause-fault
returns-in-Some-first_without_flow-clause-fault c =
    fault-is c.args.rows.now c.args.flow_count (UnknownFlow c.in-Some-first_without_flow.k)
    (c.in_default.ensures, c.in_default-first_repeated.ensures, c.in-Some-first_without_flow.ensures)

pub returns-clause-fault : goal.returns-clause-fault
returns-clause-fault c fault =
    (λ e. absurd (cc), λ is. absurd (fault-refused channel_limit c.args.rows.now c.args.flow_count fault is (record { in_range = c.in_default.ensures; apart = c.in_default-first_repeated.ensures; known = c.in_default-first_without_flow.ensures })))
