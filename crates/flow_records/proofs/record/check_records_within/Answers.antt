-- The first fault that is found is the one fault of the records.
use Rattle.std.proofs.Common.{◌≡◌, ◌↔◌, ℕ, Result, Ok, Err, List, refl, arith}
use Rattle.flow_records.specs.declared.record.FlowRecord.{FlowRecord}
use Rattle.flow_records.specs.declared.record.SetupFault.{SetupFault}
use Rattle.flow_records.specs.declared.record.SetupFault.TheVariants.{BadFlow, SameSfid}
use Rattle.flow_records.specs.Setup.{IsSetupFaultWithin, CanBeSetUpWithin}
use Rattle.flow_records.proofs.Setup.{no_fault, fault-refused, fault-is, fault-not}
use Rattle.flow_records.proofs.record.check_records_within.Goals as goal

-- an answer with a fault
fault-ok : (limit : ℕ) (records : List FlowRecord) (fault : SetupFault) → IsSetupFaultWithin limit records fault
    → (◌≡◌ {A = Result (Unit {0}) SetupFault} (Err fault) (Ok tt)) ↔ CanBeSetUpWithin limit records
fault-ok limit records fault is = (λ e. absurd (cc), λ can. absurd (fault-refused limit records fault is can))

pub returns-in-Some-clause-ok : goal.returns-in-Some-clause-ok
returns-in-Some-clause-ok c = fault-ok c.args.limit c.args.records.now (BadFlow c.in-Some.k) (omega arith, c.in-Some.ensures)

pub returns-in-Some-clause-fault : goal.returns-in-Some-clause-fault
returns-in-Some-clause-fault c = fault-is c.args.limit c.args.records.now _ (BadFlow c.in-Some.k) refl (omega arith, c.in-Some.ensures)

pub returns-in-Some-first_repeated-clause-ok : goal.returns-in-Some-first_repeated-clause-ok
returns-in-Some-first_repeated-clause-ok c =
    fault-ok c.args.limit c.args.records.now (SameSfid c.in-Some-first_repeated.k) (omega arith, c.in_default.ensures, c.in-Some-first_repeated.ensures)

pub returns-in-Some-first_repeated-clause-fault : goal.returns-in-Some-first_repeated-clause-fault
returns-in-Some-first_repeated-clause-fault c =
    fault-is c.args.limit c.args.records.now _ (SameSfid c.in-Some-first_repeated.k) refl (omega arith, c.in_default.ensures, c.in-Some-first_repeated.ensures)

pub returns-clause-ok : goal.returns-clause-ok
returns-clause-ok c = (λ _. no_fault c.args.limit c.args.records.now (omega arith) c.in_default.ensures c.in_default-first_repeated.ensures, λ _. refl)

pub returns-clause-fault : goal.returns-clause-fault
returns-clause-fault c fault =
    fault-not c.args.limit c.args.records.now _ fault (no_fault c.args.limit c.args.records.now (omega arith) c.in_default.ensures c.in_default-first_repeated.ensures) (λ e. cc)
