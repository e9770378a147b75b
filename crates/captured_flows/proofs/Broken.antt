-- Where something fails on the way.
use Rattle.std.proofs.Common.{◌≡◌, ℕ, Bool, Result, Ok, Err, OnErr, List, [], ◌∷◌, ◌++◌, map, refl, ap, sym, subst, ◌∙◌, append-nil, append_assoc}
use Rattle.consumer.specs.declared.given.Given.{Given}
use Rattle.flow_selection.specs.declared.selection.Selection.{Selection}
use Rattle.lane.specs.declared.input.Input.{Input}
use Rattle.bonded_flows.specs.Table.{TableSetup}
use Rattle.receiver.specs.declared.reply.Reply.{Reply}
use Rattle.receiver.specs.HandedIn.{HandedIn, came}
use Rattle.answers.specs.Beside.{is_told_if_given}
use Rattle.selected_receiver.specs.declared.selected_receiver.SelectedReceiver.{SelectedReceiver}
use Rattle.selected_receiver.specs.Whole.{StandsForWhole}
use Rattle.selected_receiver.specs.Taking.{seen_of, RepliesOfWhole, TakesSomeOfWhole}
use Rattle.captured_flows.specs.Acts.{Act, alone, items_of}
use Rattle.captured_flows.specs.Flow.{Next}
use Rattle.captured_flows.specs.Steps.{CaptureStep, handed_in, gave, given_in}
use Rattle.captured_flows.specs.Shown.{AreSeenOf}
use Rattle.captured_flows.specs.Plays.{IsPart, none_told, one_told, Plays, nothing, PlaysPartly, breaks_off}
use Rattle.captured_flows.specs.Taking.{TakesBy, BreaksOff}
use Rattle.captured_flows.proofs.Seen.{items-append, items-alone, given-append, given-gave, given-both, plays-then}
use Rattle.captured_flows.proofs.Shown.{left-then, are_seen-gave, are_seen-then}
use Rattle.captured_flows.proofs.Taken.{Spelled, Begins, Sees, IsShown, shown-gave, shown-then, shown-none, given-then}

-- whatever the error is
pub on-any_err : {T E : Type 0} {Q : Type 0} (result : Result T E) → Q → OnErr result Q
on-any_err (Ok value) is = tt
on-any_err (Err error) is = is

module _ (check : List ℕ → Bool) (made : TableSetup) where
  -- moves, and then others that break off
  pub partly-behind : (handed first : List Act) (given : List Given) (before : List CaptureStep) {later : List Act} {behind : List CaptureStep}
      → Plays check made handed given first before → PlaysPartly check made (handed ++ first) (given ++ given_in before) later behind
      → PlaysPartly check made handed given (first ++ later) (before ++ behind)
  partly-behind handed first given before plays (breaks_off {more = more} {later = later} {steps = steps} {behind = behind} others part) =
      subst (λ (m : List Act). PlaysPartly check made handed given m (before ++ (steps ++ behind))) (append_assoc first more later)
      (subst (λ (s : List CaptureStep). PlaysPartly check made handed given ((first ++ more) ++ later) s) (append_assoc before steps behind)
      (breaks_off (plays-then check made handed first given before plays others) part))

module _ {C O : Type 0} (accepts : C → List ℕ → Bool) (after : O → List Given → O → Type 0) (saw : O → List CaptureStep → O → Type 0) where
  -- an item that isn't taken, behind steps in which nothing is given
  breaks-part : Begins after saw → Sees after saw → (r r' : SelectedReceiver C) (o o' o'' : O) (heads : List CaptureStep) → given_in heads ≡ [] → ((selected : Selection) → AreSeenOf selected heads heads)
      → IsShown after saw o heads o' → TakesSomeOfWhole accepts after r o' r' o'' → ((more : List Act) (gives : List Given) → IsPart more (heads ++ map gave gives))
      → BreaksOff accepts saw r o r' o''
  breaks-part begins sees r r' o o' o'' heads none shown told takes part = record {
    seen = heads ++ map gave takes.seen;
    was_seen = shown-then after saw o o' o'' heads (map gave takes.seen) told (shown-gave after saw begins sees o' o'' takes.seen takes.was_seen);
    selected = takes.selected;
    stands = λ check made handed given stands.
        let whole = takes.stands check made (items_of handed) given stands in
        let acts = map alone whole.0 in
        let gives = whole.1 in
        let steps = heads ++ map gave gives in
        let all : given_in steps ≡ gives = given-append heads (map gave gives) ∙ ap (λ (g : List Given). g ++ given_in (map gave gives)) none ∙ given-gave gives in (
          acts,
          steps,
          subst (λ (m : List Given). StandsForWhole accepts r' check made (items_of (handed ++ acts)) (given ++ m)) (sym all)
              (subst (λ (items : List HandedIn). StandsForWhole accepts r' check made items (given ++ gives)) (ap (λ (i : List HandedIn). items_of handed ++ i) (sym (items-alone whole.0)) ∙ sym (items-append handed acts))
              whole.2),
          breaks_off nothing (part acts gives),
          are_seen-then r.selected heads heads (map gave gives) (map gave takes.seen) (shown r.selected) (are_seen-gave r.selected gives takes.seen whole.3),
        );
  }

  pub breaks-untold : Begins after saw → Sees after saw → (r r' : SelectedReceiver C) (o o' : O) → TakesSomeOfWhole accepts after r o r' o' → BreaksOff accepts saw r o r' o'
  breaks-untold begins sees r r' o o' takes =
      breaks-part begins sees r r' o o o' [] refl (λ selected. refl) (shown-none after saw o) takes (λ more gives. none_told more gives)

  pub breaks-told : Begins after saw → Sees after saw → (r r' : SelectedReceiver C) (o o' o'' : O) (flow : ℕ) (one : Next)
      → IsShown after saw o (handed_in flow one.arrival ∷ []) o'
      → TakesSomeOfWhole accepts after r o' r' o'' → BreaksOff accepts saw r o r' o''
  breaks-told begins sees r r' o o' o'' flow one told takes =
      breaks-part begins sees r r' o o' o'' (handed_in flow one.arrival ∷ []) refl (λ selected. refl) told takes (λ more gives. one_told flow one more gives)

  pub breaks-behind : (First : Spelled) (r r' r'' : SelectedReceiver C) (o o' o'' : O) → TakesBy accepts saw First r o r' o' → BreaksOff accepts saw r' o' r'' o''
      → BreaksOff accepts saw r o r'' o''
  breaks-behind First r r' r'' o o' o'' takes breaks = record {
    seen = takes.seen ++ breaks.seen;
    was_seen = shown-then after saw o o' o'' takes.seen breaks.seen takes.was_seen breaks.was_seen;
    selected = breaks.selected ∙ takes.selected;
    stands = λ check made handed given stands.
        let before = takes.stands check made handed given stands in
        let behind = breaks.stands check made (handed ++ before.0) (given ++ given_in before.1) before.3 in (
          before.0 ++ behind.0,
          before.1 ++ behind.1,
          subst (λ (h : List Act). StandsForWhole accepts r'' check made (items_of h) (given ++ given_in (before.1 ++ behind.1))) (append_assoc handed before.0 behind.0)
              (subst (λ (g : List Given). StandsForWhole accepts r'' check made (items_of ((handed ++ before.0) ++ behind.0)) g) (given-both given before.1 behind.1) behind.2),
          partly-behind check made handed before.0 given before.1 before.4 behind.3,
          are_seen-then r.selected before.1 takes.seen behind.1 breaks.seen before.5
              (subst (λ (selected : Selection). AreSeenOf selected behind.1 breaks.seen) takes.selected behind.4),
        );
  }

  -- nothing is taken
  pub breaks-none : (r : SelectedReceiver C) (o : O) → BreaksOff accepts saw r o r o
  breaks-none r o = record {
    seen = [];
    was_seen = λ start before was. subst (λ s. saw start s o) (sym (append-nil before)) was;
    selected = refl;
    stands = λ check made handed given stands. (
      [],
      [],
      subst (λ (h : List Act). StandsForWhole accepts r check made (items_of h) (given ++ [])) (sym (append-nil handed))
          (subst (λ (g : List Given). StandsForWhole accepts r check made (items_of handed) g) (sym (append-nil given)) stands),
      breaks_off nothing (none_told [] []),
      refl,
    );
  }

  -- all was taken, and then something fails
  pub breaks-after : (First : Spelled) (r r' : SelectedReceiver C) (o o' : O) → TakesBy accepts saw First r o r' o' → BreaksOff accepts saw r o r' o'
  breaks-after First r r' o o' takes = breaks-behind First r r' r' o o' o' takes (breaks-none r' o')

  -- one input is taken, and then others
  pub some-then : (r r' r'' : SelectedReceiver C) (o o' o'' : O) (channel : ℕ) (input : Input) (reply : Reply)
      → RepliesOfWhole accepts after r o channel input reply r' o' → TakesSomeOfWhole accepts after r' o' r'' o''
      → TakesSomeOfWhole accepts after r o r'' o''
  some-then r r' r'' o o' o'' channel input reply replies takes = record {
    seen = replies.seen ++ takes.seen;
    was_seen = given-then after saw o o' o'' replies.seen takes.seen replies.was_seen takes.was_seen;
    selected = takes.selected ∙ replies.selected;
    stands = λ check made handed given stands.
        let first = replies.stands check made handed given stands in
        let item = came channel (record { input = input; answer = first.0 }) in
        let later = takes.stands check made (handed ++ item ∷ []) (given ++ first.3) first.4 in (
          item ∷ later.0,
          first.3 ++ later.1,
          subst (λ (h : List HandedIn). StandsForWhole accepts r'' check made h (given ++ (first.3 ++ later.1))) (append_assoc handed (item ∷ []) later.0)
              (subst (λ (g : List Given). StandsForWhole accepts r'' check made ((handed ++ item ∷ []) ++ later.0) g) (append_assoc given first.3 later.1) later.2),
          left-then (is_told_if_given r.selected) first.3 replies.seen later.1 takes.seen first.5
              (subst (λ (selected : Selection). takes.seen ≡ seen_of selected later.1) replies.selected later.3),
        );
  }
