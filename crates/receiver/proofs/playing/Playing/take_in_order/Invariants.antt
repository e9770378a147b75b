-- The items of the order so far were taken.
use Rattle.std.proofs.Common.{take}
use Rattle.receiver.specs.Items.{incoming_of}
use Rattle.receiver.specs.Playing.{IsPlaying, PlaysMore}
use Rattle.receiver.proofs.playing.Playing.take_in_order.Given as goal

abbrev pub invariant-loop-place : goal.invariant-loop-place
invariant-loop-place g l = record {
  plays : PlaysMore g.C.HeaderCheck.accepts (incoming_of l.lists) l.fn.self (take l.place l.order) l.self;
  playing : IsPlaying g.C.HeaderCheck.accepts l.self;
}
