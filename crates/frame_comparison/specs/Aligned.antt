-- What follows from how frames are compared: the frames in both sides stand in both in one order.
use Rattle.std.specs.Prelude.{◌≡◌, ◌≤◌, ℕ, ◌==◌, ◌&&◌, Bool, true, false, List, [], ◌∷◌, ◌++◌, map, filter, length, get_or}
use Rattle.frame_comparison.specs.declared.side.Side.{Side}
use Rattle.frame_comparison.specs.declared.side.Side.TheVariants.{Analyser, Here}
use Rattle.frame_comparison.specs.Frames.{CameFrame, SideFrames, FlowFrames, frames_in_both}
use Rattle.frame_comparison.specs.Compared.{Comparison, with_frame, nothing_came, finished, empty_flow, longest_wait}

-- a frame of a flow that one side has, as it comes
pub record Arrival : Type 0 where
  pub side : Side
  pub flow : ℕ
  pub frame : CameFrame

-- they come one after another
abbrev pub with_all : List Arrival → Comparison → Comparison
with_all [] comparison = comparison
with_all (one ∷ more) comparison = with_all more (with_frame one.side one.flow one.frame comparison)

-- the frames of a flow that a side gave, in their order
abbrev pub is_same_side : Side → Side → Bool
is_same_side Analyser Analyser = true
is_same_side Analyser Here = false
is_same_side Here Analyser = false
is_same_side Here Here = true

abbrev pub is_of : Side → ℕ → Arrival → Bool
is_of side flow one = is_same_side side one.side && (one.flow == flow)

abbrev pub given_of : Side → ℕ → List Arrival → List CameFrame
given_of side flow arrivals = map (λ one. one.frame) (filter (is_of side flow) arrivals)

-- the bytes of frames
abbrev pub bytes_of : List CameFrame → List (List ℕ)
bytes_of frames = map (λ one. one.bytes) frames

-- a flow's frames
abbrev pub flow_of : ℕ → Comparison → FlowFrames
flow_of flow comparison = get_or comparison.flows flow empty_flow

-- what is known of a flow once all came, of so many flows, and once nothing more comes
abbrev pub flow_then : ℕ → ℕ → List Arrival → FlowFrames
flow_then flows flow arrivals = flow_of flow (with_all arrivals (nothing_came flows))

abbrev pub flow_at_end : ℕ → ℕ → List Arrival → FlowFrames
flow_at_end flows flow arrivals = flow_of flow (finished (with_all arrivals (nothing_came flows)))

-- the frames of a side: those that are settled, in both or given up, and then those that wait
abbrev pub all_frames : SideFrames → List CameFrame
all_frames side = map (λ one. one.frame) side.settled ++ side.waiting

-- **The frames in both are the same frames of both sides, in one order**: what a side gave is, in
-- its order, what is settled and what waits; and of what is settled the frames in both have the
-- same bytes on both sides.
pub record AreAligned (analyser here : List CameFrame) (flow : FlowFrames) : Type 0 where
  pub analyser_all : all_frames flow.analyser ≡ analyser
  pub here_all : all_frames flow.here ≡ here
  pub same_in_both : bytes_of (frames_in_both flow.analyser.settled) ≡ bytes_of (frames_in_both flow.here.settled)

-- **Memory is bounded**: of each side so few frames wait
pub record FewWait (flow : FlowFrames) : Type 0 where
  pub of_analyser : length flow.analyser.waiting ≤ longest_wait
  pub of_here : length flow.here.waiting ≤ longest_wait
