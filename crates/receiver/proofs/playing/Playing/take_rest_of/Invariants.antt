-- So much of the sender's list was handed in.
use Rattle.std.proofs.Common.{◌≡◌, ◌≢◌, ℕ, List, nat_lt, length, slice_index_or}
use Rattle.receiver.specs.Items.{incoming_of}
use Rattle.receiver.specs.Playing.{IsPlaying, PlaysMore}
use Rattle.receiver.proofs.playing.Playing.take_rest_of.Given as goal

abbrev pub invariant-loop : goal.invariant-loop
invariant-loop g l = record {
  plays : (rest : List ℕ) × PlaysMore g.C.HeaderCheck.accepts (incoming_of l.lists) l.fn.self rest l.self × (l.any ≡ nat_lt 0 (length rest));
  playing : IsPlaying g.C.HeaderCheck.accepts l.self;
  place : slice_index_or l.self.places l.sender 0 ≡ l.counter;
  others : (other : ℕ) → other ≢ l.sender → slice_index_or l.self.places other 0 ≡ slice_index_or l.fn.self.places other 0;
}
