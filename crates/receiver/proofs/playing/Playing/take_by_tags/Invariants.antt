-- What the tags so far name was handed in.
use Rattle.std.proofs.Common.{◌≡◌, ◌<◌, ℕ, take, slice_index_or}
use Rattle.lane.specs.Limits.{senders}
use Rattle.receiver.specs.Items.{incoming_of}
use Rattle.receiver.specs.Order.{times_of}
use Rattle.receiver.specs.Playing.{IsPlaying, PlaysTags}
use Rattle.receiver.proofs.playing.Playing.take_by_tags.Given as goal

abbrev pub invariant-loop-tag : goal.invariant-loop-tag
invariant-loop-tag g l = record {
  plays : PlaysTags g.C.HeaderCheck.accepts (incoming_of l.lists) l.fn.self (take l.tag-index l.tags) l.order.items l.self;
  playing : IsPlaying g.C.HeaderCheck.accepts l.self;
  places : (sender : ℕ) → sender < senders → slice_index_or l.self.places sender 0 ≡ times_of sender (take l.tag-index l.tags);
}
