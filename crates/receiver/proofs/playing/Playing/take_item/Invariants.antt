-- What was handed in so far gave no item.
use Rattle.std.proofs.Common.{◌≡◌, [], slice_index_or}
use Rattle.receiver.specs.Items.{incoming_of}
use Rattle.receiver.specs.Playing.{IsPlaying, PlaysMore}
use Rattle.receiver.proofs.playing.Playing.take_item.Given as goal

abbrev pub invariant-loop : goal.invariant-loop
invariant-loop g l = record {
  plays : PlaysMore g.C.HeaderCheck.accepts (incoming_of l.lists) l.fn.self [] l.self;
  playing : IsPlaying g.C.HeaderCheck.accepts l.self;
  place : slice_index_or l.self.places l.sender 0 ≡ l.counter;
}
