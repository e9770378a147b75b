-- Of the senders so far nothing is left.
use Rattle.std.proofs.Common.{◌≡◌, ◌<◌, ℕ, List, nat_lt, length}
use Rattle.receiver.specs.Items.{incoming_of}
use Rattle.receiver.specs.HandedOrder.{IsUsedUp}
use Rattle.receiver.specs.Playing.{IsPlaying, PlaysMore}
use Rattle.receiver.proofs.playing.Playing.take_rest.Given as goal

abbrev pub invariant-loop-sender : goal.invariant-loop-sender
invariant-loop-sender g l = record {
  plays : (rest : List ℕ) × PlaysMore g.C.HeaderCheck.accepts (incoming_of l.lists) l.fn.self rest l.self × (l.any ≡ nat_lt 0 (length rest));
  playing : IsPlaying g.C.HeaderCheck.accepts l.self;
  used_up : (before : ℕ) → before < l.sender → IsUsedUp (incoming_of l.lists) l.self.places before;
}
