-- The frames of a flow that came of one side, and what became of them.
use Rattle.std.specs.Prelude.{ℕ, Bool, true, false, not, nat_le, List, map, filter, length, take, if◌then◌else◌}
use Rattle.frame_records.specs.Frames.{longest_frame}

-- a frame that came, how many bytes it has, and the numbers of the bursts that are named of it
pub record CameFrame : Type 0 where
  pub time : ℕ
  pub byte_count : ℕ
  pub bytes : List ℕ
  pub bursts : List ℕ

abbrev pub came : ℕ → List ℕ → List ℕ → CameFrame
came time bytes bursts = record { time = time; byte_count = length bytes; bytes = bytes; bursts = bursts }

-- it is no longer than a MAC frame can be
abbrev pub is_short : CameFrame → Bool
is_short frame = nat_le frame.byte_count longest_frame

-- a frame of which is known whether both sides have it: else it was given up
pub record SettledFrame : Type 0 where
  pub frame : CameFrame
  pub is_in_both : Bool

abbrev pub in_both : CameFrame → SettledFrame
in_both frame = record { frame = frame; is_in_both = true }

abbrev pub given_up : CameFrame → SettledFrame
given_up frame = record { frame = frame; is_in_both = false }

-- those of them that both sides have, and those that only this side has
abbrev pub frames_in_both : List SettledFrame → List CameFrame
frames_in_both settled = map (λ one. one.frame) (filter (λ one. one.is_in_both) settled)

abbrev pub frames_given_up : List SettledFrame → List CameFrame
frames_given_up settled = map (λ one. one.frame) (filter (λ one. not one.is_in_both) settled)

-- what one side gave of a flow: first the frames that are settled, then those that wait
pub record SideFrames : Type 0 where
  pub settled : List SettledFrame
  pub waiting : List CameFrame

-- what both sides gave of a flow
pub record FlowFrames : Type 0 where
  pub analyser : SideFrames
  pub here : SideFrames

-- so many bytes of a frame that only one side has are shown
abbrev pub shown_bytes : ℕ
shown_bytes = 16

unfoldable pub shown_front : List ℕ → List ℕ
shown_front bytes = take shown_bytes bytes

-- **What is kept of a frame that waits**: of one that is longer than a MAC frame can be the bytes
-- that are shown, and of another all
abbrev pub kept : CameFrame → CameFrame
kept frame = record frame { bytes = if is_short frame then frame.bytes else shown_front frame.bytes }

-- what is told of a frame of a flow that only one side has
pub record ShownFrame : Type 0 where
  pub flow : ℕ
  pub time : ℕ
  pub byte_count : ℕ
  pub first : List ℕ
  pub bursts : List ℕ

abbrev pub shown_of : ℕ → CameFrame → ShownFrame
shown_of flow frame = record { flow = flow; time = frame.time; byte_count = frame.byte_count; first = shown_front frame.bytes; bursts = frame.bursts }
