-- What is told of some flows is the same, whatever the bursts of others carry.
use Rattle.std.specs.Prelude.{◌≡◌, ℕ, Bool, true, Some, List, [], ◌++◌, map, filter}
use Rattle.flow_selection.specs.declared.selection.Selection.{Selection}
use Rattle.flow_selection.specs.Selection.{is_selected}
use Rattle.flow_selection.specs.Lines.{is_left}
use Rattle.consumer.specs.declared.given.Given.{Given}
use Rattle.consumer.specs.Given.{frames_of, requests_given}
use Rattle.receiver.specs.Elsewhere.{StandsIn}
use Rattle.receiver.specs.Entries.{Entry, came, decided}
use Rattle.receiver.specs.HandedIn as handed_in
use Rattle.receiver.specs.HandedIn.{HandedIn}
use Rattle.receiver.specs.Replaying.{entry_of}
use Rattle.texts.specs.declared.follow.happening.Happening.{Happening}
use Rattle.texts.specs.declared.follow.happening.Happening.TheVariants.{Gave}
use Rattle.texts.specs.Follow.{flow_of_happening}

-- An entry stands in for what was handed in: it is the same, but that a burst of no selected flow
-- may have other bytes behind the same header, as many as before.
abbrev pub EntryStandsIn : (ℕ → Bool) → HandedIn → Entry → Type 0
EntryStandsIn selected (handed_in.came channel one) (came other input) = (other ≡ channel) × StandsIn selected one input
EntryStandsIn selected (handed_in.came channel one) (decided decision) = ⊥
EntryStandsIn selected (handed_in.decided flow decision) stand_in = entry_of (handed_in.decided flow decision) ≡ Some stand_in
EntryStandsIn selected (handed_in.restarted flow first) stand_in = ⊥

-- it is told of no flow, or of one that is selected
abbrev pub is_told_for : Selection → Happening → Bool
is_told_for selected one = is_left selected (flow_of_happening one)

-- the same was given of each selected flow and on each channel, in order
pub record AreGivenFor (selected : Selection) (given others : List Given) : Type 0 where
  pub frames : (k : ℕ) → is_selected selected k ≡ true → frames_of k given ≡ frames_of k others
  pub requests : (channel : ℕ) → requests_given channel given ≡ requests_given channel others

-- **The same happened of the selected flows**, and of none: the same was told, in the same order,
-- and before each part of it the same was given.
pub data HappenFor (selected : Selection) : List Happening → List Happening → Type 0 where
  for_nothing : HappenFor selected [] []
  for_more : {happened others : List Happening} (given also : List Given) (told telling : List Happening)
      → HappenFor selected happened others → AreGivenFor selected given also
      → filter (is_told_for selected) told ≡ filter (is_told_for selected) telling
      → HappenFor selected (happened ++ (map Gave given ++ told)) (others ++ (map Gave also ++ telling))
