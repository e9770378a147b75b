-- The input itself was handed in.
use Rattle.std.proofs.Common.{inl, refl}
use Rattle.followed_traces.proofs.following.FollowingTakeEntries.take.Goals as goal

pub returns : goal.returns
returns c = λ state rule setup entries was.
    c.take_in_place.ensures state rule c.args._width setup entries c.args.input c.requires.channel (inl refl) was
