-- The outcomes of the flows so far.
use Rattle.std.proofs.Common.{◌≡◌, ◌≤◌, ◌+◌, length, drop, vec_capacity}
use Rattle.std.specs.Iterator.Adapters.{zip_first, zip_second}
use Rattle.std.specs.Slice.Iter.{iter_rest}
use Rattle.std.specs.Vec.Iter.{into_iter_items, into_iter_len}
use Rattle.receiver.specs.Playing.{HaveGiven}
use Rattle.receiver.proofs.playing.flow_outcomes.Given as goal

abbrev pub invariant-loop-record : goal.invariant-loop-record
invariant-loop-record l =
    record {
      room : length l.setup.flows.items ≤ vec_capacity l.flows;
      records_left : iter_rest (zip_first l.record-iterator) ≡ drop (length l.flows.items) l.setup.flows.items;
      frames_left : into_iter_items (zip_second l.record-iterator) ≡ drop (length l.flows.items) l.fn.frames.items;
      frames_count : into_iter_len (zip_second l.record-iterator) + length l.flows.items ≡ length l.fn.frames.items;
      given : HaveGiven l.setup.flows.items l.fn.frames.items l.counts l.flows.items;
    }
