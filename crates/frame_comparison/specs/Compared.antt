-- How the frames of two sides are compared, flow by flow and in order, as they come.
use Rattle.std.specs.Prelude.{ℕ, zero, suc, ◌+◌, ◌-◌, ◌&&◌, Bool, Option, Some, None, List, [], ◌∷◌, ◌++◌, map, take, drop, length, position, replicate, slice_get, slice_set}
use Rattle.std.specs.Str.{bytes_eq}
use Rattle.frame_comparison.specs.declared.side.Side.{Side}
use Rattle.frame_comparison.specs.declared.side.Side.TheVariants.{Analyser, Here}
use Rattle.frame_comparison.specs.Frames.{CameFrame, SideFrames, FlowFrames, ShownFrame, SettledFrame, is_short, in_both, given_up, frames_given_up, shown_of}

-- so many frames of a side of a flow wait at most
abbrev pub longest_wait : ℕ
longest_wait = 1024

-- **Two frames are equal** if they have just the same bytes. One that is longer than a MAC frame
-- can be equals none: nobody sent it, and its bytes aren't kept
abbrev pub are_equal : CameFrame → CameFrame → Bool
are_equal one other = is_short one && is_short other && bytes_eq one.bytes other.bytes

-- the place of the first waiting frame that equals this one, if there is one
abbrev pub place_of_equal : CameFrame → List CameFrame → Option ℕ
place_of_equal frame waiting = position (λ one. are_equal one frame) waiting

-- **What becomes of the frames of a side that wait, and of one more of the same side.** If the
-- other side has its equal at this place, it is in both, and those that wait are given up, as their
-- equals would have come earlier. Else it waits, and where too many then wait, the first is given
-- up.
abbrev pub own_moved : Option ℕ → CameFrame → List CameFrame → SideFrames
own_moved (Some place) frame waiting = record { settled = map given_up waiting ++ in_both frame ∷ []; waiting = [] }
own_moved None frame waiting =
    let all = waiting ++ frame ∷ [] in
    let excess = length all - longest_wait in
    record { settled = map given_up (take excess all); waiting = drop excess all }

-- **What becomes of the frames of the other side that wait.** The equal at this place is in both,
-- and those before it are given up.
abbrev pub other_moved : Option ℕ → List CameFrame → SideFrames
other_moved (Some place) waiting = record {
  settled = map given_up (take place waiting) ++ map in_both (take 1 (drop place waiting));
  waiting = drop (place + 1) waiting;
}
other_moved None waiting = record { settled = []; waiting = waiting }

-- what a frame of one side settles of its flow, of which these frames wait, and what waits then
abbrev pub moved : Side → CameFrame → List CameFrame → List CameFrame → FlowFrames
moved Analyser frame analyser here =
    let place = place_of_equal frame here in record { analyser = own_moved place frame analyser; here = other_moved place here }
moved Here frame analyser here =
    let place = place_of_equal frame analyser in record { analyser = other_moved place analyser; here = own_moved place frame here }

-- in the end all that waits is given up
abbrev pub all_given_up : List CameFrame → SideFrames
all_given_up waiting = record { settled = map given_up waiting; waiting = [] }

abbrev pub ended : List CameFrame → List CameFrame → FlowFrames
ended analyser here = record { analyser = all_given_up analyser; here = all_given_up here }

-- what a side gave, once so much more of it is settled
abbrev pub side_after : SideFrames → SideFrames → SideFrames
side_after more side = record { settled = side.settled ++ more.settled; waiting = more.waiting }

abbrev pub flow_after : FlowFrames → FlowFrames → FlowFrames
flow_after more flow = record { analyser = side_after more.analyser flow.analyser; here = side_after more.here flow.here }

-- what both sides gave of all flows, and the frames of all flows that only one side has, in the
-- order in which they were given up
pub record Comparison : Type 0 where
  pub flows : List FlowFrames
  pub only_analyser : List ShownFrame
  pub only_here : List ShownFrame

abbrev pub shown_of_all : ℕ → List SettledFrame → List ShownFrame
shown_of_all flow settled = map (shown_of flow) (frames_given_up settled)

-- so much more of a flow is settled
abbrev pub with_moved : ℕ → FlowFrames → FlowFrames → Comparison → Comparison
with_moved flow more before comparison = record {
  flows = slice_set comparison.flows flow (flow_after more before);
  only_analyser = comparison.only_analyser ++ shown_of_all flow more.analyser.settled;
  only_here = comparison.only_here ++ shown_of_all flow more.here.settled;
}

-- nothing came of so many flows
abbrev pub no_frames : SideFrames
no_frames = record { settled = []; waiting = [] }

abbrev pub empty_flow : FlowFrames
empty_flow = record { analyser = no_frames; here = no_frames }

abbrev pub nothing_came : ℕ → Comparison
nothing_came flows = record { flows = replicate flows empty_flow; only_analyser = []; only_here = [] }

-- **One more frame of one side came**; of a flow that there isn't it is passed over
abbrev pub with_frame_of : Option FlowFrames → Side → ℕ → CameFrame → Comparison → Comparison
with_frame_of None side flow frame comparison = comparison
with_frame_of (Some before) side flow frame comparison = with_moved flow (moved side frame before.analyser.waiting before.here.waiting) before comparison

abbrev pub with_frame : Side → ℕ → CameFrame → Comparison → Comparison
with_frame side flow frame comparison = with_frame_of (slice_get comparison.flows flow) side flow frame comparison

-- **Nothing more comes of the first so many flows**, which are ended one after another
abbrev pub with_end_of : Option FlowFrames → ℕ → Comparison → Comparison
with_end_of None flow comparison = comparison
with_end_of (Some before) flow comparison = with_moved flow (ended before.analyser.waiting before.here.waiting) before comparison

abbrev pub ended_to : ℕ → Comparison → Comparison
ended_to zero comparison = comparison
ended_to (suc flow) comparison = let before = ended_to flow comparison in with_end_of (slice_get before.flows flow) flow before

abbrev pub finished : Comparison → Comparison
finished comparison = ended_to (length comparison.flows) comparison
