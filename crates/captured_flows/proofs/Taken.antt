-- What is handed in one after another, and what is seen of it.
use Rattle.std.proofs.Common.{◌≡◌, ℕ, Bool, true, List, [], ◌∷◌, ◌++◌, map, refl, ap, sym, subst, ◌∙◌, append-nil, append_assoc}
use Rattle.consumer.specs.declared.given.Given.{Given}
use Rattle.consumer.specs.declared.given.Given.TheVariants.{Frame}
use Rattle.flow_core.specs.declared.counts.FlowCounts.{FlowCounts}
use Rattle.flow_selection.specs.declared.selection.Selection.{Selection}
use Rattle.lane.specs.declared.input.Input.{Input}
use Rattle.lane.specs.Inputs.{Answer}
use Rattle.bonded_flows.specs.Table.{TableSetup}
use Rattle.bonded_flows.specs.declared.decision.FlowDecision.TheVariants.{SkipTo}
use Rattle.receiver.specs.declared.reply.Reply.{Reply}
use Rattle.receiver.specs.HandedIn.{HandedIn, decided, restarted}
use Rattle.receiver.specs.Receiving.{Says, IsToldRightly}
use Rattle.answers.specs.Beside.{is_told_if_given}
use Rattle.selected_receiver.specs.declared.selected_receiver.SelectedReceiver.{SelectedReceiver}
use Rattle.selected_receiver.specs.Whole.{StandsForWhole, IsAtHand}
use Rattle.selected_receiver.specs.Taking.{seen_of, ExpectsOfWhole, TakesWhole, RepliesOfWhole, RestartsOfWhole}
use Rattle.selected_receiver.proofs.AllGiven.{all-given}
use Rattle.captured_flows.specs.declared.captured_burst.CapturedBurst.{CapturedBurst}
use Rattle.captured_flows.specs.Acts.{Act, alone, with_burst, item_of, items_of}
use Rattle.captured_flows.specs.Sound.{IsUnsound}
use Rattle.captured_flows.specs.Flow.{Next, Expects, IsInput, grant_of, burst_of}
use Rattle.captured_flows.specs.Captures.{refused_grant, refused_burst, IsRefused}
use Rattle.captured_flows.specs.Steps.{CaptureStep, handed_in, gave, replied, began_anew, given_in}
use Rattle.captured_flows.specs.Shown.{begun_if, AreSeenOf}
use Rattle.captured_flows.specs.Replied.{admits_nothing, admits_of}
use Rattle.captured_flows.specs.Plays.{came_on, IsGivenFor, IsMove, skips_to, is_unsound, is_told, begins_again, nothing}
use Rattle.captured_flows.specs.Taking.{TakesBy}
use Rattle.captured_flows.proofs.Seen.{items-more, given-append, given-gave, given-both, plays-one, plays-then}
use Rattle.captured_flows.proofs.Shown.{left-then, are_seen-gave, are_seen-then, are_seen-restart}
use Rattle.captured_flows.proofs.Replied.{nothing-admitted, admitted-of}

-- what holds of what was handed in and what is handed in then
abbrev pub Spelled : Type 1
Spelled = TableSetup → List Act → List Act → Type 0

-- of two parts, one after the other
abbrev pub Then : Spelled → Spelled → Spelled
Then First Second made handed more =
    (first : List Act) × (later : List Act) × First made handed first × Second made (handed ++ first) later × (more ≡ first ++ later)

abbrev pub Nothing : Spelled
Nothing made handed more = more ≡ []

abbrev pub Just : List Act → Spelled
Just list made handed more = more ≡ list

module _ {O : Type 0} (after : O → List Given → O → Type 0) (saw : O → List CaptureStep → O → Type 0) where
  -- what a consumer of captures promises: nothing given leaves it as it is, what is given is seen
  abbrev pub Begins : Type 0
  Begins = (start : O) → after start [] start

  abbrev pub Sees : Type 0
  Sees = (start now later : O) (steps : List CaptureStep) (given : List Given) → saw start steps now → after now given later
      → saw start (steps ++ map gave given) later

  -- these frames and requests were given it
  abbrev pub IsGiven : O → List Given → O → Type 0
  IsGiven out more out' = (start : O) (given : List Given) → after start given out → after start (given ++ more) out'

  -- these steps were seen by it
  abbrev pub IsShown : O → List CaptureStep → O → Type 0
  IsShown out steps out' = (start : O) (before : List CaptureStep) → saw start before out → saw start (before ++ steps) out'

  pub shown-gave : Begins → Sees → (out out' : O) (more : List Given) → IsGiven out more out' → IsShown out (map gave more) out'
  shown-gave begins sees out out' more given start before saw_before = sees start out out' before more saw_before (given out [] (begins out))

  pub shown-then : (o o' o'' : O) (first later : List CaptureStep) → IsShown o first o' → IsShown o' later o'' → IsShown o (first ++ later) o''
  shown-then o o' o'' first later shown more start before saw_before =
      subst (λ (s : List CaptureStep). saw start s o'') (append_assoc before first later) (more start (before ++ first) (shown start before saw_before))

  pub given-then : (o o' o'' : O) (first later : List Given) → IsGiven o first o' → IsGiven o' later o'' → IsGiven o (first ++ later) o''
  given-then o o' o'' first later given more start before was =
      subst (λ (g : List Given). after start g o'') (append_assoc before first later) (more start (before ++ first) (given start before was))

  pub shown-none : (o : O) → IsShown o [] o
  shown-none o start before was = subst (λ (s : List CaptureStep). saw start s o) (sym (append-nil before)) was

module _ {C O : Type 0} (accepts : C → List ℕ → Bool) (after : O → List Given → O → Type 0) (saw : O → List CaptureStep → O → Type 0) where
  pub takes-none : (receiver : SelectedReceiver C) (out : O) → TakesBy accepts saw Nothing receiver out receiver out
  takes-none receiver out = record {
    seen = [];
    was_seen = λ start before was. subst (λ s. saw start s out) (sym (append-nil before)) was;
    selected = refl;
    stands = λ check made handed given stands. (
      [],
      [],
      refl,
      subst (λ (h : List Act). StandsForWhole accepts receiver check made (items_of h) (given ++ [])) (sym (append-nil handed))
          (subst (λ (g : List Given). StandsForWhole accepts receiver check made (items_of handed) g) (sym (append-nil given)) stands),
      nothing,
      refl,
    );
  }

  pub takes-as : (First Second : Spelled) (receiver receiver' : SelectedReceiver C) (out out' : O) → TakesBy accepts saw First receiver out receiver' out'
      → ((made : TableSetup) (handed more : List Act) → First made handed more → Second made handed more)
      → TakesBy accepts saw Second receiver out receiver' out'
  takes-as First Second receiver receiver' out out' takes as_well = record {
    seen = takes.seen;
    was_seen = takes.was_seen;
    selected = takes.selected;
    stands = λ check made handed given stands.
        let more = takes.stands check made handed given stands in (more.0, more.1, as_well made handed more.0 more.2, more.3, more.4, more.5);
  }

  pub takes-then : (First Second : Spelled) (r r' r'' : SelectedReceiver C) (o o' o'' : O) → TakesBy accepts saw First r o r' o' → TakesBy accepts saw Second r' o' r'' o''
      → TakesBy accepts saw (Then First Second) r o r'' o''
  takes-then First Second r r' r'' o o' o'' takes more = record {
    seen = takes.seen ++ more.seen;
    was_seen = shown-then after saw o o' o'' takes.seen more.seen takes.was_seen more.was_seen;
    selected = more.selected ∙ takes.selected;
    stands = λ check made handed given stands.
        let before = takes.stands check made handed given stands in
        let behind = more.stands check made (handed ++ before.0) (given ++ given_in before.1) before.3 in (
          before.0 ++ behind.0,
          before.1 ++ behind.1,
          (before.0, behind.0, before.2, behind.2, refl),
          subst (λ (h : List Act). StandsForWhole accepts r'' check made (items_of h) (given ++ given_in (before.1 ++ behind.1))) (append_assoc handed before.0 behind.0)
              (subst (λ (g : List Given). StandsForWhole accepts r'' check made (items_of ((handed ++ before.0) ++ behind.0)) g) (given-both given before.1 behind.1) behind.3),
          plays-then check made handed before.0 given before.1 before.4 behind.4,
          are_seen-then r.selected before.1 takes.seen behind.1 more.seen before.5
              (subst (λ (selected : Selection). AreSeenOf selected behind.1 more.seen) takes.selected behind.5),
        );
  }

  -- a number that is expected before or after it
  pub takes-expecting : (First : Spelled) (r r' : SelectedReceiver C) (o o' : O) (k number : ℕ) → ExpectsOfWhole accepts r k number → TakesBy accepts saw First r o r' o'
      → TakesBy accepts saw (λ made handed more. Expects made k handed number × First made handed more) r o r' o'
  takes-expecting First r r' o o' k number is takes = record {
    seen = takes.seen;
    was_seen = takes.was_seen;
    selected = takes.selected;
    stands = λ check made handed given stands.
        let more = takes.stands check made handed given stands in
        (more.0, more.1, (λ flow_record at. is check made (items_of handed) given flow_record stands at, more.2), more.3, more.4, more.5);
  }

  pub takes-expected : (First : Spelled) (r r' : SelectedReceiver C) (o o' : O) (k number : ℕ) → TakesBy accepts saw First r o r' o' → ExpectsOfWhole accepts r' k number
      → TakesBy accepts saw (λ made handed more. First made handed more × Expects made k (handed ++ more) number) r o r' o'
  takes-expected First r r' o o' k number takes is = record {
    seen = takes.seen;
    was_seen = takes.was_seen;
    selected = takes.selected;
    stands = λ check made handed given stands.
        let more = takes.stands check made handed given stands in (
          more.0,
          more.1,
          (more.2, λ flow_record at. is check made (items_of (handed ++ more.0)) (given ++ given_in more.1) flow_record more.3 at),
          more.3,
          more.4,
          more.5,
        );
  }

  -- a receiver with nothing left to be done has given all that is given for what was handed in
  given-for : (check : List ℕ → Bool) (made : TableSetup) (handed : List Act) (given : List Given) (receiver : SelectedReceiver C)
      → StandsForWhole accepts receiver check made (items_of handed) given → IsAtHand accepts receiver → IsGivenFor check made handed given
  given-for check made handed given receiver stands at_hand = all-given accepts receiver check made (items_of handed) given stands at_hand.settled

  -- it stands for one act more
  stands-more : (receiver : SelectedReceiver C) (check : List ℕ → Bool) (made : TableSetup) (handed : List Act) (given : List Given) (act : Act) (item : HandedIn) → item_of act ≡ item
      → StandsForWhole accepts receiver check made (items_of handed ++ item ∷ []) given → StandsForWhole accepts receiver check made (items_of (handed ++ act ∷ [])) given
  stands-more receiver check made handed given act item is stands =
      subst (λ (items : List HandedIn). StandsForWhole accepts receiver check made items given) (items-more handed act item is) stands

  -- it stands for what was seen, too
  stands-seen : (receiver : SelectedReceiver C) (check : List ℕ → Bool) (made : TableSetup) (items : List HandedIn) (given more : List Given)
      → StandsForWhole accepts receiver check made items (given ++ more) → StandsForWhole accepts receiver check made items (given ++ given_in (map gave more))
  stands-seen receiver check made items given more stands =
      subst (λ (g : List Given). StandsForWhole accepts receiver check made items (given ++ g)) (sym (given-gave more)) stands

  -- a flow that skips
  pub takes-skip : Begins after saw → Sees after saw → (r r' : SelectedReceiver C) (o o' : O) (flow number : ℕ)
      → TakesWhole accepts after r o (decided flow (SkipTo number) ∷ []) r' o' → IsAtHand accepts r'
      → TakesBy accepts saw (Just (alone (decided flow (SkipTo number)) ∷ [])) r o r' o'
  takes-skip begins sees r r' o o' flow number takes at_hand =
      let item = decided flow (SkipTo number) in
      record {
        seen = map gave takes.seen;
        was_seen = shown-gave after saw begins sees o o' takes.seen takes.was_seen;
        selected = takes.selected;
        stands = λ check made handed given stands.
            let whole = takes.stands check made (items_of handed) given stands in
            let gives = whole.0 in
            let stands' = stands-more r' check made handed (given ++ gives) (alone item) item refl whole.1 in (
              alone item ∷ [],
              map gave gives,
              refl,
              stands-seen r' check made (items_of (handed ++ alone item ∷ [])) given gives stands',
              plays-one check made handed (alone item ∷ []) given (map gave gives)
                  (skips_to flow number gives (given-for check made (handed ++ alone item ∷ []) (given ++ gives) r' stands' at_hand)),
              are_seen-gave r.selected gives takes.seen whole.2,
            );
      }

  -- a flow that begins anew, and is told of
  pub takes-restart : Begins after saw → Sees after saw → (r r' : SelectedReceiver C) (o o' o'' : O) (flow first : ℕ) (counts : FlowCounts)
      → RestartsOfWhole accepts after r o flow first counts r' o' → IsAtHand accepts r' → IsShown after saw o' (begun_if r'.selected flow counts) o''
      → TakesBy accepts saw (Just (alone (restarted flow first) ∷ [])) r o r' o''
  takes-restart begins sees r r' o o' o'' flow first counts restarts at_hand told =
      let item = restarted flow first in
      let seen = restarts.seen in
      let told_as : IsShown after saw o' (begun_if r.selected flow counts) o'' = subst (λ (s : Selection). IsShown after saw o' (begun_if s flow counts) o'') restarts.selected told in
      record {
        seen = map gave seen ++ begun_if r.selected flow counts;
        was_seen = shown-then after saw o o' o'' (map gave seen) (begun_if r.selected flow counts) (shown-gave after saw begins sees o o' seen restarts.was_seen) told_as;
        selected = restarts.selected;
        stands = λ check made handed given stands.
            let whole = restarts.stands check made (items_of handed) given stands in
            let gives = map (Frame flow) whole.0 in
            let steps = map gave gives ++ began_anew flow whole.1 ∷ [] in
            let all : given_in steps ≡ gives ++ [] = given-append (map gave gives) (began_anew flow whole.1 ∷ []) ∙ ap (λ (g : List Given). g ++ []) (given-gave gives) in
            let stands' = stands-more r' check made handed (given ++ gives) (alone item) item refl whole.2 in (
              alone item ∷ [],
              steps,
              refl,
              subst (λ (m : List Given). StandsForWhole accepts r' check made (items_of (handed ++ alone item ∷ [])) (given ++ m)) (sym (all ∙ append-nil gives)) stands',
              plays-one check made handed (alone item ∷ []) given steps
                  (begins_again flow first whole.0 whole.1 whole.3 (given-for check made (handed ++ alone item ∷ []) (given ++ gives) r' stands' at_hand)),
              are_seen-restart r.selected flow gives restarts.seen whole.1 counts whole.4 whole.5,
            );
      }

  -- A grant, by such an act, and its burst, one after the other, between steps in which nothing is
  -- given: what is seen of both is one move.
  takes-two : Begins after saw → Sees after saw → (act : HandedIn → Act) → ((item : HandedIn) → item_of (act item) ≡ item)
      → (r r' r'' : SelectedReceiver C) (o' o'' o3 o4 o5 : O) (channel : ℕ) (grant burst : Input) (granting answered : Reply) (heads tails : List CaptureStep)
      → given_in heads ≡ [] → given_in tails ≡ [] → ((selected : Selection) → AreSeenOf selected heads heads) → ((selected : Selection) → AreSeenOf selected tails tails)
      → IsShown after saw o' heads o'' → IsShown after saw o4 tails o5
      → RepliesOfWhole accepts after r o'' channel grant granting r' o3 → IsAtHand accepts r'
      → RepliesOfWhole accepts after r' o3 channel burst answered r'' o4 → IsAtHand accepts r''
      → ((check : List ℕ → Bool) (made : TableSetup) (handed : List Act) (given : List Given) (granted coming : Answer) (of_grant of_burst : List Given)
      → Says granting granted → Says answered coming
      → IsToldRightly made (items_of (handed ++ act (came_on channel grant granted) ∷ [])) channel coming answered
      → IsGivenFor check made (handed ++ act (came_on channel grant granted) ∷ []) (given ++ of_grant)
      → IsGivenFor check made ((handed ++ act (came_on channel grant granted) ∷ []) ++ alone (came_on channel burst coming) ∷ []) ((given ++ of_grant) ++ of_burst)
      → IsMove check made handed given (act (came_on channel grant granted) ∷ alone (came_on channel burst coming) ∷ [])
      (heads ++ (map gave (of_grant ++ of_burst) ++ tails)))
      → TakesBy accepts saw (Then (IsInput act channel grant granting) (IsInput alone channel burst answered)) r o' r'' o5
  takes-two begins sees act is r r' r'' o' o'' o3 o4 o5 channel grant burst granting answered heads tails none none' shown shown' told told' grants at_hand' comes at_hand'' moves =
      let both_seen = grants.seen ++ comes.seen in
      let both : IsGiven after saw o'' both_seen o4 = given-then after saw o'' o3 o4 grants.seen comes.seen grants.was_seen comes.was_seen in
      record {
        seen = heads ++ (map gave both_seen ++ tails);
        was_seen = shown-then after saw o' o'' o5 heads (map gave both_seen ++ tails) told
            (shown-then after saw o'' o4 o5 (map gave both_seen) tails (shown-gave after saw begins sees o'' o4 both_seen both) told');
        selected = comes.selected ∙ grants.selected;
        stands = λ check made handed given stands.
            let one = grants.stands check made (items_of handed) given stands in
            let granted = one.0 in
            let first = one.3 in
            let the_grant = act (came_on channel grant granted) in
            let stands' = stands-more r' check made handed (given ++ first) the_grant (came_on channel grant granted) (is (came_on channel grant granted)) one.4 in
            let other = comes.stands check made (items_of (handed ++ the_grant ∷ [])) (given ++ first) stands' in
            let coming = other.0 in
            let later = other.3 in
            let the_burst = alone (came_on channel burst coming) in
            let stands'' = stands-more r'' check made (handed ++ the_grant ∷ []) ((given ++ first) ++ later) the_burst (came_on channel burst coming) refl other.4 in
            let gives = first ++ later in
            let behind = map gave gives ++ tails in
            let steps = heads ++ behind in
            let of_behind : given_in behind ≡ gives = given-append (map gave gives) tails ∙ ap (λ (g : List Given). given_in (map gave gives) ++ g) none' ∙ append-nil (given_in (map gave gives)) ∙ given-gave gives in
            let all : given_in steps ≡ gives = given-append heads behind ∙ ap (λ (g : List Given). g ++ given_in behind) none ∙ of_behind in
            let seen_later = subst (λ (selected : Selection). comes.seen ≡ seen_of selected later) grants.selected other.5 in
            let seen_both : both_seen ≡ seen_of r.selected gives = left-then (is_told_if_given r.selected) first grants.seen later comes.seen one.5 seen_later in (
              the_grant ∷ the_burst ∷ [],
              steps,
              (
                the_grant ∷ [],
                the_burst ∷ [],
                record { answer = granted; says = one.1; told = one.2; all = refl },
                record { answer = coming; says = other.1; told = other.2; all = refl },
                refl,
              ),
              subst (λ (h : List Act). StandsForWhole accepts r'' check made (items_of h) (given ++ given_in steps)) (append_assoc handed (the_grant ∷ []) (the_burst ∷ []))
                  (subst (λ (m : List Given). StandsForWhole accepts r'' check made (items_of ((handed ++ the_grant ∷ []) ++ the_burst ∷ [])) (given ++ m)) (sym all)
                  (subst (λ (g : List Given). StandsForWhole accepts r'' check made (items_of ((handed ++ the_grant ∷ []) ++ the_burst ∷ [])) g) (append_assoc given first later) stands'')),
              plays-one check made handed (the_grant ∷ the_burst ∷ []) given steps
                  (moves check made handed given granted coming first later one.1 other.1 other.2
                  (given-for check made (handed ++ the_grant ∷ []) (given ++ first) r' stands' at_hand')
                  (given-for check made ((handed ++ the_grant ∷ []) ++ the_burst ∷ []) ((given ++ first) ++ later) r'' stands'' at_hand'')),
              are_seen-then r.selected heads heads behind (map gave both_seen ++ tails) (shown r.selected)
                  (are_seen-then r.selected (map gave gives) (map gave both_seen) tails tails (are_seen-gave r.selected gives both_seen seen_both) (shown' r.selected)),
            );
      }

  -- a burst that is told, and then handed in, and what was replied to it is told
  pub takes-told : Begins after saw → Sees after saw → (r r' r'' : SelectedReceiver C) (o o' o'' o3 o4 : O) (flow : ℕ) (one : Next) (granting answered : Reply)
      → IsShown after saw o (handed_in flow one.arrival ∷ []) o'
      → RepliesOfWhole accepts after r o' one.arrival.channel (grant_of one) granting r' o'' → admits_nothing granting ≡ true → IsAtHand accepts r'
      → RepliesOfWhole accepts after r' o'' one.arrival.channel (burst_of one) answered r'' o3 → admits_of flow answered ≡ true → IsAtHand accepts r''
      → IsShown after saw o3 (replied flow one.arrival.item.burst_id answered ∷ []) o4
      → TakesBy accepts saw (Then (IsInput (with_burst flow one.arrival) one.arrival.channel (grant_of one) granting) (IsInput alone one.arrival.channel (burst_of one) answered)) r o r'' o4
  takes-told begins sees r r' r'' o o' o'' o3 o4 flow one granting answered told grants nothing_of at_hand' comes of_flow at_hand'' told' =
      takes-two begins sees (with_burst flow one.arrival) (λ item. refl) r r' r'' o o' o'' o3 o4 one.arrival.channel (grant_of one) (burst_of one) granting answered
      (handed_in flow one.arrival ∷ []) (replied flow one.arrival.item.burst_id answered ∷ []) refl refl (λ selected. refl) (λ selected. refl) told told' grants at_hand' comes at_hand''
      (λ check made handed given granted coming of_grant of_burst says_granted says rightly before behind.
      is_told flow one granted coming answered of_grant of_burst says (nothing-admitted granting granted says_granted nothing_of) (admitted-of flow answered coming says of_flow)
      rightly before behind)

  -- a burst that its lane won't admit
  pub takes-unsound : Begins after saw → Sees after saw → (r r' r'' : SelectedReceiver C) (o o' o'' : O) (channel : ℕ) (burst : CapturedBurst) (granting answered : Reply) → IsUnsound burst
      → RepliesOfWhole accepts after r o channel (refused_grant burst) granting r' o' → admits_nothing granting ≡ true → IsAtHand accepts r'
      → RepliesOfWhole accepts after r' o' channel (refused_burst burst) answered r'' o'' → admits_nothing answered ≡ true → IsAtHand accepts r''
      → TakesBy accepts saw (IsRefused channel burst answered) r o r'' o''
  takes-unsound begins sees r r' r'' o o' o'' channel burst granting answered unsound grants nothing_of at_hand' comes nothing_more at_hand'' =
      takes-as _ _ r r'' o o''
      (takes-two begins sees alone (λ item. refl) r r' r'' o o o' o'' o'' channel (refused_grant burst) (refused_burst burst) granting answered [] [] refl refl (λ selected. refl) (λ selected. refl) (shown-none after saw o) (shown-none after saw o'')
      grants at_hand' comes at_hand''
      (λ check made handed given granted coming of_grant of_burst says_granted says rightly before behind.
      subst (λ (steps : List CaptureStep). IsMove check made handed given (alone (came_on channel (refused_grant burst) granted) ∷ alone (came_on channel (refused_burst burst) coming) ∷ []) steps)
      (sym (append-nil (map gave (of_grant ++ of_burst))))
      (is_unsound channel burst granted coming of_grant of_burst unsound (nothing-admitted granting granted says_granted nothing_of) (nothing-admitted answered coming says nothing_more) before behind)))
      (λ made handed more spelled. record {
        granting = granting;
        granted = spelled.0;
        grant = spelled.2;
        coming = spelled.1;
        is_burst = spelled.3;
        all = spelled.4;
      })
