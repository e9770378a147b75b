-- Two sides of which one is ahead of the other.
use Rattle.std.specs.Prelude.{◌≡◌, ◌≤◌, ◌⊎◌, ℕ, IsTrue, List, [], ◌++◌, take, length}
use Rattle.std.specs.List.{All}
use Rattle.frame_comparison.specs.declared.side.Side.TheVariants.{Analyser, Here}
use Rattle.frame_comparison.specs.Frames.{FlowFrames, is_short, frames_given_up}
use Rattle.frame_comparison.specs.Compared.{longest_wait}
use Rattle.frame_comparison.specs.Aligned.{Arrival, given_of, bytes_of}

-- one side gave what the other gave, and at most so many frames more
pub record IsAhead (behind ahead : List (List ℕ)) : Type 0 where
  pub more : List (List ℕ)
  pub is : ahead ≡ behind ++ more
  pub few : length more ≤ longest_wait

-- at each moment one side is ahead of the other, or none is
abbrev pub StayInStep : ℕ → List Arrival → Type 0
StayInStep flow arrivals = (count : ℕ) →
    IsAhead (bytes_of (given_of Analyser flow (take count arrivals))) (bytes_of (given_of Here flow (take count arrivals)))
    ⊎ IsAhead (bytes_of (given_of Here flow (take count arrivals))) (bytes_of (given_of Analyser flow (take count arrivals)))

-- no frame of the flow is longer than a MAC frame can be
abbrev pub AreShort : ℕ → List Arrival → Type 0
AreShort flow arrivals = All (λ one. one.flow ≡ flow → IsTrue (is_short one.frame)) arrivals

-- no frame of the flow was given up
pub record NoneAlone (flow : FlowFrames) : Type 0 where
  pub of_analyser : frames_given_up flow.analyser.settled ≡ []
  pub of_here : frames_given_up flow.here.settled ≡ []
