-- What is kept of a comparison, in bounded memory.
use Rattle.std.specs.Prelude.{ℕ, ◌+◌, ◌-◌, ◌^◌, ◌==◌, ◌&&◌, Bool, true, false, min, List, [], ◌++◌, map, take, length, get_or, slice_set}
use Rattle.std.specs.List.{list_all}
use Rattle.frame_comparison.specs.declared.side.Side.{Side}
use Rattle.frame_comparison.specs.declared.side.Side.TheVariants.{Analyser, Here}
use Rattle.frame_comparison.specs.declared.compared_counts.ComparedCounts.{ComparedCounts}
use Rattle.frame_comparison.specs.Frames.{CameFrame, FlowFrames, SideFrames, ShownFrame, kept, frames_in_both, frames_given_up}
use Rattle.frame_comparison.specs.Compared.{Comparison, place_of_equal, own_moved, other_moved, moved, shown_of_all}

-- of each side so many frames are listed that only it has
abbrev pub listed_most : ℕ
listed_most = 100

unfoldable pub listed : List ShownFrame → List ShownFrame
listed frames = take listed_most frames

-- a count stays at its greatest value, 2^64 − 1
abbrev pub kept_within : ℕ → ℕ
kept_within count = min count (2 ^ 64 - 1)

-- the counts of a flow
abbrev pub counts_of : FlowFrames → ComparedCounts
counts_of flow = record {
  both = kept_within (length (frames_in_both flow.analyser.settled));
  only_analyser = kept_within (length (frames_given_up flow.analyser.settled));
  only_here = kept_within (length (frames_given_up flow.here.settled));
}

-- so many more
abbrev pub with_counts : ComparedCounts → ComparedCounts → ComparedCounts
with_counts more counts = record {
  both = kept_within (counts.both + more.both);
  only_analyser = kept_within (counts.only_analyser + more.only_analyser);
  only_here = kept_within (counts.only_here + more.only_here);
}

-- how many frames are settled
abbrev pub settled_counts : FlowFrames → ComparedCounts
settled_counts more = record {
  both = length (frames_in_both more.analyser.settled);
  only_analyser = length (frames_given_up more.analyser.settled);
  only_here = length (frames_given_up more.here.settled);
}

-- what is kept of one side: of each flow what is kept of the frames that wait, and the first that
-- only it has
pub record SideSeen : Type 0 where
  pub waiting : List (List CameFrame)
  pub only : List ShownFrame

-- so much more of a flow is settled
abbrev pub side_seen_after : ℕ → SideFrames → SideSeen → SideSeen
side_seen_after flow more side = record {
  waiting = slice_set side.waiting flow more.waiting;
  only = listed (side.only ++ shown_of_all flow more.settled);
}

-- the frames of a flow that wait
abbrev pub waiting_of : ℕ → SideSeen → List CameFrame
waiting_of flow side = get_or side.waiting flow []

-- what becomes of a frame's own side, of the other side and of both where a frame of a flow comes
abbrev pub own_moved_in : ℕ → CameFrame → SideSeen → SideSeen → SideFrames
own_moved_in flow frame own other = own_moved (place_of_equal frame (waiting_of flow other)) frame (waiting_of flow own)

abbrev pub other_moved_in : ℕ → CameFrame → SideSeen → SideFrames
other_moved_in flow frame other = other_moved (place_of_equal frame (waiting_of flow other)) (waiting_of flow other)

abbrev pub moved_in : Side → ℕ → CameFrame → SideSeen → SideSeen → FlowFrames
moved_in side flow frame analyser here = moved side frame (waiting_of flow analyser) (waiting_of flow here)

-- what is kept of both sides, and whether no allocation failed
pub record ComparisonSeen : Type 0 where
  pub counts : List ComparedCounts
  pub analyser : SideSeen
  pub here : SideSeen
  pub is_whole : Bool

-- nothing was counted
abbrev pub no_counts : ComparedCounts
no_counts = record { both = 0; only_analyser = 0; only_here = 0 }

-- so much more of a flow is settled
abbrev pub seen_after : ℕ → FlowFrames → ComparisonSeen → ComparisonSeen
seen_after flow more seen = record seen {
  counts = slice_set seen.counts flow (with_counts (settled_counts more) (get_or seen.counts flow no_counts));
  analyser = side_seen_after flow more.analyser seen.analyser;
  here = side_seen_after flow more.here seen.here;
}

-- **What is kept of a comparison**
abbrev pub seen_of : Comparison → ComparisonSeen
seen_of comparison = record {
  counts = map counts_of comparison.flows;
  analyser = record { waiting = map (λ flow. map kept flow.analyser.waiting) comparison.flows; only = listed comparison.only_analyser };
  here = record { waiting = map (λ flow. map kept flow.here.waiting) comparison.flows; only = listed comparison.only_here };
  is_whole = true;
}

-- an allocation failed: what waited is let go, and nothing more is taken
abbrev pub none_waits : SideSeen → SideSeen
none_waits side = record side { waiting = [] }

abbrev pub failed : ComparisonSeen → ComparisonSeen
failed seen = record seen { analyser = none_waits seen.analyser; here = none_waits seen.here; is_whole = false }

-- no frame of a flow is only one side's
abbrev pub has_none_alone : ComparedCounts → Bool
has_none_alone counts = counts.only_analyser == 0 && counts.only_here == 0

abbrev pub have_none_alone : List ComparedCounts → Bool
have_none_alone counts = list_all has_none_alone counts

-- nothing was counted of a flow
abbrev pub is_quiet : ComparedCounts → Bool
is_quiet counts = counts.both == 0 && has_none_alone counts

-- the frames that are listed of one side
abbrev pub listed_of : Side → ComparisonSeen → List ShownFrame
listed_of Analyser seen = seen.analyser.only
listed_of Here seen = seen.here.only
