-- No earlier record so far has the identifier of record k.
use Rattle.std.proofs.Common.{◌≡◌, ℕ, ◌<◌, Some, slice_get}
use Rattle.flow_records.specs.declared.record.FlowRecord.{FlowRecord}
use Rattle.flow_records.proofs.record.is_repeated.Given as goal

abbrev pub invariant-loop-j : goal.invariant-loop-j
invariant-loop-j l =
    (i : ℕ) → i < l.j → (earlier flow_record : FlowRecord) → slice_get l.records i ≡ Some earlier → slice_get l.records l.k ≡ Some flow_record
    → ¬ (earlier.sfid ≡ flow_record.sfid)
