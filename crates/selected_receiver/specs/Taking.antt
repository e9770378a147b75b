-- What a receiver takes that joins the selected flows alone, and what is seen of it.
use Rattle.std.specs.Prelude.{◌≡◌, ℕ, Bool, true, Some, List, [], ◌∷◌, ◌++◌, filter, map, slice_get}
use Rattle.flow_records.specs.declared.record.FlowRecord.{FlowRecord}
use Rattle.flow_core.specs.declared.counts.FlowCounts.{FlowCounts}
use Rattle.flow_selection.specs.Selection.{is_selected}
use Rattle.lane.specs.declared.input.Input.{Input}
use Rattle.lane.specs.Inputs.{Answer}
use Rattle.consumer.specs.declared.given.Given.{Given}
use Rattle.consumer.specs.declared.given.Given.TheVariants.{Frame}
use Rattle.bonded_flows.specs.Table.{TableSetup}
use Rattle.receiver.specs.declared.closing.Closed.{Closed}
use Rattle.receiver.specs.declared.reply.Reply.{Reply}
use Rattle.receiver.specs.HandedIn.{HandedIn, came, restarted}
use Rattle.receiver.specs.Receiving.{Says, IsToldRightly, IsNumberExpected}
use Rattle.receiver.specs.Received.{IsReceived}
use Rattle.flow_selection.specs.declared.selection.Selection.{Selection}
use Rattle.answers.specs.Beside.{AreCountedAlike, is_told_if_given}
use Rattle.selected_receiver.specs.declared.selected_receiver.SelectedReceiver.{SelectedReceiver}
use Rattle.selected_receiver.specs.Given.{ClosesFlow}
use Rattle.selected_receiver.specs.Whole.{StandsForWhole}

-- what is seen of what is given: just what is of a selected flow, or of none
abbrev pub seen_of : Selection → List Given → List Given
seen_of selected given = filter (is_told_if_given selected) given

-- what was given to a consumer more
abbrev pub WasSeen : {O : Type 0} → (O → List Given → O → Type 0) → O → List Given → O → Type 0
WasSeen {O} after out seen out' = (start : O) (given : List Given) → after start given out → after start (given ++ seen) out'

module _ {C : Type 0} (accepts : C → List ℕ → Bool) where
  -- whatever was handed in, the flow expects this number
  abbrev pub ExpectsOfWhole : SelectedReceiver C → ℕ → ℕ → Type 0
  ExpectsOfWhole receiver flow number =
      (check : List ℕ → Bool) (made : TableSetup) (handed : List HandedIn) (given : List Given) (flow_record : FlowRecord)
      → StandsForWhole accepts receiver check made handed given → slice_get made.records flow ≡ Some flow_record → IsNumberExpected made flow flow_record handed number

  module _ {O : Type 0} (after : O → List Given → O → Type 0) where
    -- **Whatever was handed in, this was handed in besides**, and the consumer was given what is
    -- seen of what was given more.
    pub record TakesWhole (receiver : SelectedReceiver C) (out : O) (more : List HandedIn) (receiver' : SelectedReceiver C) (out' : O) : Type 0 where
      pub seen : List Given
      pub was_seen : WasSeen after out seen out'
      pub selected : receiver'.selected ≡ receiver.selected
      pub stands : (check : List ℕ → Bool) (made : TableSetup) (handed : List HandedIn) (given : List Given) → StandsForWhole accepts receiver check made handed given
          → (given_more : List Given) × StandsForWhole accepts receiver' check made (handed ++ more) (given ++ given_more) × (seen ≡ seen_of receiver.selected given_more)

    -- where something fails on the way: so of something
    pub record TakesSomeOfWhole (receiver : SelectedReceiver C) (out : O) (receiver' : SelectedReceiver C) (out' : O) : Type 0 where
      pub seen : List Given
      pub was_seen : WasSeen after out seen out'
      pub selected : receiver'.selected ≡ receiver.selected
      pub stands : (check : List ℕ → Bool) (made : TableSetup) (handed : List HandedIn) (given : List Given) → StandsForWhole accepts receiver check made handed given
          → (more : List HandedIn) × (given_more : List Given)
          × StandsForWhole accepts receiver' check made (handed ++ more) (given ++ given_more) × (seen ≡ seen_of receiver.selected given_more)

    -- **An input was taken**: its lane answered it, this was told of it, and the consumer was given
    -- what is seen of what was given more.
    pub record RepliesOfWhole (receiver : SelectedReceiver C) (out : O) (channel : ℕ) (input : Input) (reply : Reply) (receiver' : SelectedReceiver C) (out' : O) : Type 0 where
      pub seen : List Given
      pub was_seen : WasSeen after out seen out'
      pub selected : receiver'.selected ≡ receiver.selected
      pub stands : (check : List ℕ → Bool) (made : TableSetup) (handed : List HandedIn) (given : List Given) → StandsForWhole accepts receiver check made handed given
          → (answer : Answer) × Says reply answer × IsToldRightly made handed channel answer reply × (given_more : List Given)
          × StandsForWhole accepts receiver' check made (handed ++ came channel (record { input = input; answer = answer }) ∷ []) (given ++ given_more)
          × (seen ≡ seen_of receiver.selected given_more)

    -- **The flow was closed and begins anew** at this number. The consumer was given what is seen of
    -- what the flow gave, and of a selected flow these are the counts.
    pub record RestartsOfWhole (receiver : SelectedReceiver C) (out : O) (flow first : ℕ) (counts : FlowCounts) (receiver' : SelectedReceiver C) (out' : O) : Type 0 where
      pub seen : List Given
      pub was_seen : WasSeen after out seen out'
      pub selected : receiver'.selected ≡ receiver.selected
      pub stands : (check : List ℕ → Bool) (made : TableSetup) (handed : List HandedIn) (given : List Given) → StandsForWhole accepts receiver check made handed given
          → (frames : List (List ℕ)) × (counted : FlowCounts)
          × StandsForWhole accepts receiver' check made (handed ++ restarted flow first ∷ []) (given ++ map (Frame flow) frames)
          × ClosesFlow check made flow handed given frames counted
          × (seen ≡ seen_of receiver.selected (map (Frame flow) frames))
          × (is_selected receiver.selected flow ≡ true → counted ≡ counts)

    -- **It was closed**: whatever was handed in, what was given of it is the answer for that, and
    -- the consumer was given what is seen of it. The counts are those of the selected flows.
    pub record ClosesOfWhole (receiver : SelectedReceiver C) (out : O) (closed : Closed) (out' : O) : Type 0 where
      pub seen : List Given
      pub was_seen : WasSeen after out seen out'
      pub received : (check : List ℕ → Bool) (made : TableSetup) (handed : List HandedIn) (given : List Given) → StandsForWhole accepts receiver check made handed given
          → (given_more : List Given) × (counted : Closed) × IsReceived check made handed (given ++ given_more) counted
          × (seen ≡ seen_of receiver.selected given_more) × AreCountedAlike receiver.selected closed counted
