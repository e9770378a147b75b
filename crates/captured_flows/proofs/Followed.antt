-- Frames come behind the bursts of their flows.
use Rattle.std.proofs.Common.{◌≡◌, ◌≢◌, ℕ, ◌<◌, ◌==◌, inl, inr, Bool, true, false, Option, Some, None, List, [], ◌∷◌, ◌++◌, length, map, refl, sym, ap, subst, ◌∙◌, append-nil, append_assoc, eq-eqb, arith}
use Rattle.std.specs.Prelude.{◌||◌, if◌then◌else◌}
use Rattle.std.specs.List.{AllByRecursion, cons_option}
use Rattle.std.proofs.lemmas.Bool.{cases_lt}
use Rattle.std.proofs.lemmas.List.Elements.{filter_map-append}
use Rattle.docsis_wire.proofs.StreamPlaces.{element_at}
use Rattle.consumer.specs.declared.given.Given.{Given}
use Rattle.consumer.specs.declared.given.Given.TheVariants.{Frame, Asked}
use Rattle.consumer.specs.Given.{frame_of, frames_of}
use Rattle.bonded_flows.specs.Table.{TableSetup, flow_setup, inputs_at}
use Rattle.lane.specs.declared.admitted.Admitted.{Admitted}
use Rattle.lane.specs.Inputs.{Answer}
use Rattle.lane.specs.Report.{admitted_by}
use Rattle.receiver.specs.declared.closing.Closed.{Closed}
use Rattle.receiver.specs.HandedIn.{flow_inputs}
use Rattle.receiver.specs.Received.{IsReceived}
use Rattle.answers.proofs.Everywhere.{all_append}
use Rattle.selected_receiver.proofs.NoSegments.{IsNoneOf, inputs-none, given-none, closed-none}
use Rattle.captured_flows.specs.Acts.{Act, items_of}
use Rattle.captured_flows.specs.Steps.{CaptureStep, handed_in, gave, replied, began_anew, given_in}
use Rattle.captured_flows.specs.Plays.{IsGivenFor, IsMove, skips_to, is_unsound, is_told, begins_again, Plays, nothing, one_move}
use Rattle.captured_flows.specs.Followed.{hands_in, IsBehindBurst, FollowBursts}
use Rattle.captured_flows.proofs.Seen.{items-append}

-- ---- what is handed in in steps

or_assoc : (a b c : Bool) → ((a || b) || c) ≡ (a || (b || c))
or_assoc true b c = refl
or_assoc false b c = refl

or_first : (a b : Bool) → (a || b) ≡ false → a ≡ false
or_first true b is = is
or_first false b is = refl

or_second : (a b : Bool) → (a || b) ≡ false → b ≡ false
or_second true b is = absurd cc
or_second false b is = is

or_false : (a b : Bool) → a ≡ false → b ≡ false → (a || b) ≡ false
or_false true b is also = absurd cc
or_false false b is also = also

pub hands-append : (k : ℕ) (before behind : List CaptureStep) → hands_in k (before ++ behind) ≡ (hands_in k before || hands_in k behind)
hands-append k [] behind = refl
hands-append k (handed_in flow burst ∷ before) behind =
    ap (λ (b : Bool). (flow == k) || b) (hands-append k before behind) ∙ sym (or_assoc (flow == k) (hands_in k before) (hands_in k behind))
hands-append k (gave one ∷ before) behind = hands-append k before behind
hands-append k (replied flow burst_id reply ∷ before) behind = hands-append k before behind
hands-append k (began_anew flow counts ∷ before) behind = hands-append k before behind

hands-gave : (k : ℕ) (given : List Given) → hands_in k (map gave given) ≡ false
hands-gave k [] = refl
hands-gave k (one ∷ given) = hands-gave k given

-- ---- steps one behind another

follow-append : (before first later : List CaptureStep) → FollowBursts before first → FollowBursts (before ++ first) later → FollowBursts before (first ++ later)
follow-append before [] later is also = subst (λ (b : List CaptureStep). FollowBursts b later) (append-nil before) also
follow-append before (step ∷ first) later is also =
    (is.0, follow-append (before ++ step ∷ []) first later is.1 (subst (λ (b : List CaptureStep). FollowBursts b later) (sym (append_assoc before (step ∷ []) first)) also))

-- no frame of a flow is given of which no burst was handed in
abbrev NoneUnseen : List CaptureStep → List Given → Type 0
NoneUnseen before given = (k : ℕ) → hands_in k before ≡ false → frames_of k given ≡ []

none_of_option : {X : Type 0} (one : Option X) (rest : List X) → cons_option one rest ≡ [] → (one ≡ None) × (rest ≡ [])
none_of_option None rest none = (refl, none)
none_of_option (Some x) rest none = absurd cc

-- the first of these
first-behind : (before : List CaptureStep) (one : Given) (given : List Given) → NoneUnseen before (one ∷ given) → IsBehindBurst before one
first-behind before (Asked request) given none = tt
first-behind before (Frame flow frame) given none = by_flag (hands_in flow before) refl where
  by_flag : (b : Bool) → hands_in flow before ≡ b → hands_in flow before ≡ true
  by_flag true is = is
  by_flag false is =
      let same = ap (λ (b : Bool). if b then Some frame else None) (eq-eqb flow flow refl) in
      let gone = (none_of_option (frame_of flow (Frame flow frame)) (frames_of flow given) (none flow is)).0 in
      let wrong : Some frame ≡ None = sym same ∙ gone in
      absurd cc

follow-gave : (before : List CaptureStep) (given : List Given) → NoneUnseen before given → FollowBursts before (map gave given)
follow-gave before [] none = tt
follow-gave before (one ∷ given) none = (
  first-behind before one given none,
  follow-gave (before ++ gave one ∷ []) given
      (λ k is. (none_of_option (frame_of k one) (frames_of k given) (none k (or_first (hands_in k before) false (sym (hands-append k before (gave one ∷ [])) ∙ is)))).1),
)

-- ---- moves

module _ (check : List ℕ → Bool) (made : TableSetup) where
  -- of a flow of which no burst was handed in nothing was given
  unseen-none : (handed : List Act) (given : List Given) (k : ℕ) → IsGivenFor check made handed given → AllByRecursion (IsNoneOf k (length made.records)) (items_of handed)
      → frames_of k given ≡ []
  unseen-none handed given k is all = elim (cases_lt k (length made.records)) [
    | inl below ↦
        let found = element_at made.records k below in
        given-none check (flow_setup made k found.0) (inputs_at k (flow_inputs (length made.records) (items_of handed))) (frames_of k given)
        (inputs-none k (length made.records) (items_of handed) all) (is.flows k found.0 found.1)
    | inr past ↦ is.others k past
  ]

  nothing_admitted : (k : ℕ) (answer : Answer) → admitted_by answer ≡ None → (admitted : Admitted) → admitted_by answer ≡ Some admitted → admitted.flow ≢ k
  nothing_admitted k answer none admitted is = λ same. let wrong : None ≡ Some admitted = sym none ∙ is in absurd cc

  -- what a move hands in, where no burst of flow k is
  move-none : (handed : List Act) (given : List Given) (later : List Act) (behind : List CaptureStep) (k : ℕ) → IsMove check made handed given later behind → hands_in k behind ≡ false
      → AllByRecursion (IsNoneOf k (length made.records)) (items_of later)
  move-none handed given later behind k (skips_to flow number gives is) none = (tt, tt)
  move-none handed given later behind k (is_unsound channel burst granting coming of_grant of_burst unsound no_grant no_burst first second) none =
      (nothing_admitted k granting no_grant, (nothing_admitted k coming no_burst, tt))
  move-none handed given later behind k (is_told flow one granting coming reply of_grant of_burst says no_grant its_own rightly first second) none = (
    nothing_admitted k granting no_grant,
    (
      λ admitted is. λ same.
          let own = its_own admitted is in
          let there = eq-eqb flow k (sym own ∙ same) in
          let apart = or_first (flow == k) (hands_in k (map gave (of_grant ++ of_burst) ++ replied flow one.arrival.item.burst_id reply ∷ [])) none in
          let wrong : true ≡ false = sym there ∙ apart in
          absurd cc,
      tt,
    ),
  )
  move-none handed given later behind k (begins_again flow first frames counts closes is) none = (tt, tt)

  plays-none : {handed : List Act} {steps : List CaptureStep} (k : ℕ) → Plays check made [] [] handed steps → hands_in k steps ≡ false
      → AllByRecursion (IsNoneOf k (length made.records)) (items_of handed)
  plays-none k nothing none = tt
  plays-none k (one_move {more = more} {later = later} {steps = steps} {behind = behind} plays move) none =
      let both = sym (hands-append k steps behind) ∙ none in
      subst (AllByRecursion (IsNoneOf k (length made.records))) (sym (items-append more later))
      (all_append (IsNoneOf k (length made.records)) (items_of more) (items_of later) (plays-none k plays (or_first (hands_in k steps) (hands_in k behind) both))
      (move-none more (given_in steps) later behind k move (or_second (hands_in k steps) (hands_in k behind) both)))

  -- ---- each frame follows

  -- what is given in a move comes behind the bursts that were handed in by then
  module _ (more : List Act) (steps : List CaptureStep) (plays : Plays check made [] [] more steps) where
    -- where all is given for what was handed in besides
    none-unseen : (later : List Act) (behind before : List CaptureStep) (gives : List Given) → IsMove check made more (given_in steps) later behind
        → ((k : ℕ) → hands_in k before ≡ false → hands_in k (steps ++ behind) ≡ false) → IsGivenFor check made (more ++ later) (given_in steps ++ gives) → NoneUnseen before gives
    none-unseen later behind before gives move as_well is k none =
        let unseen = as_well k none in
        let both = sym (hands-append k steps behind) ∙ unseen in
        let all = subst (AllByRecursion (IsNoneOf k (length made.records))) (sym (items-append more later))
        (all_append (IsNoneOf k (length made.records)) (items_of more) (items_of later) (plays-none k plays (or_first (hands_in k steps) (hands_in k behind) both))
        (move-none more (given_in steps) later behind k move (or_second (hands_in k steps) (hands_in k behind) both))) in
        last_none (frames_of k (given_in steps)) (frames_of k gives)
        (sym (filter_map-append (frame_of k) (given_in steps) gives) ∙ unseen-none (more ++ later) (given_in steps ++ gives) k is all)
      where
        last_none : (xs ys : List (List ℕ)) → xs ++ ys ≡ [] → ys ≡ []
        last_none [] ys none = none
        last_none (x ∷ xs) ys none = absurd cc

    -- all that is given for two acts, given one after the other
    all_of_both : (handed : List Act) (one other : Act) (first second : List Given)
        → IsGivenFor check made ((handed ++ one ∷ []) ++ other ∷ []) ((given_in steps ++ first) ++ second)
        → IsGivenFor check made (handed ++ one ∷ other ∷ []) (given_in steps ++ (first ++ second))
    all_of_both handed one other first second is =
        subst (λ (h : List Act). IsGivenFor check made h (given_in steps ++ (first ++ second))) (append_assoc handed (one ∷ []) (other ∷ []))
        (subst (λ (g : List Given). IsGivenFor check made ((handed ++ one ∷ []) ++ other ∷ []) g) (append_assoc (given_in steps) first second) is)

    -- steps in which no burst is handed in say nothing of what was
    still : (behind : List CaptureStep) → ((k : ℕ) → hands_in k behind ≡ false) → (k : ℕ) → hands_in k steps ≡ false → hands_in k (steps ++ behind) ≡ false
    still behind none k is = hands-append k steps behind ∙ or_false (hands_in k steps) (hands_in k behind) is (none k)

    move-follows : (later : List Act) (behind : List CaptureStep) → IsMove check made more (given_in steps) later behind → FollowBursts steps behind
    move-follows later behind (skips_to flow number gives is) =
        follow-gave steps gives (none-unseen later behind steps gives (skips_to flow number gives is) (still behind (λ k. hands-gave k gives)) is)
    move-follows later behind (is_unsound channel burst granting coming of_grant of_burst unsound no_grant no_burst first second) =
        let gives = of_grant ++ of_burst in
        let move = is_unsound channel burst granting coming of_grant of_burst unsound no_grant no_burst first second in
        follow-gave steps gives
        (none-unseen later behind steps gives move (still behind (λ k. hands-gave k gives)) (all_of_both _ _ _ of_grant of_burst second))
    move-follows later behind (is_told flow one granting coming reply of_grant of_burst says no_grant its_own rightly first second) =
        let gives = of_grant ++ of_burst in
        let last = replied flow one.arrival.item.burst_id reply in
        let move = is_told flow one granting coming reply of_grant of_burst says no_grant its_own rightly first second in
        let before = steps ++ handed_in flow one.arrival ∷ [] in
        let as_well : (k : ℕ) → hands_in k before ≡ false → hands_in k (steps ++ behind) ≡ false =
        λ k none.
        let split = sym (hands-append k steps (handed_in flow one.arrival ∷ [])) ∙ none in
        let own = or_first (flow == k) false (or_second (hands_in k steps) ((flow == k) || false) split) in
        hands-append k steps behind
        ∙ or_false (hands_in k steps) (hands_in k behind) (or_first (hands_in k steps) ((flow == k) || false) split)
        (or_false (flow == k) (hands_in k (map gave gives ++ last ∷ [])) own
        (hands-append k (map gave gives) (last ∷ []) ∙ or_false (hands_in k (map gave gives)) false (hands-gave k gives) refl)) in (
          tt,
          follow-append before (map gave gives) (last ∷ [])
              (follow-gave before gives (none-unseen later behind before gives move as_well (all_of_both _ _ _ of_grant of_burst second))) (tt, tt),
        )
    move-follows later behind (begins_again flow first frames counts closes is) =
        let gives = map (Frame flow) frames in
        let move = begins_again flow first frames counts closes is in
        let last = began_anew flow counts in
        follow-append steps (map gave gives) (last ∷ [])
        (follow-gave steps gives
        (none-unseen later behind steps gives move
        (still behind (λ k. hands-append k (map gave gives) (last ∷ []) ∙ or_false (hands_in k (map gave gives)) false (hands-gave k gives) refl)) is)) (tt, tt)

  pub follow-plays : {handed : List Act} {steps : List CaptureStep} → Plays check made [] [] handed steps → FollowBursts [] steps
  follow-plays nothing = tt
  follow-plays (one_move {more = more} {later = later} {steps = steps} {behind = behind} plays move) =
      follow-append [] steps behind (follow-plays plays) (move-follows more steps plays later behind move)

  -- so with what is given when the receiver is closed
  pub follow-closed : (handed : List Act) (steps : List CaptureStep) (rest : List Given) (closed : Closed) → Plays check made [] [] handed steps
      → IsReceived check made (items_of handed) (given_in steps ++ rest) closed → FollowBursts [] (steps ++ map gave rest)
  follow-closed handed steps rest closed plays received =
      follow-append [] steps (map gave rest) (follow-plays plays) (follow-gave steps rest (λ k none. unseen k (plays-none k plays none)))
    where
      last_none : (xs ys : List (List ℕ)) → xs ++ ys ≡ [] → ys ≡ []
      last_none [] ys none = none
      last_none (x ∷ xs) ys none = absurd cc

      unseen : (k : ℕ) → AllByRecursion (IsNoneOf k (length made.records)) (items_of handed) → frames_of k rest ≡ []
      unseen k all = elim (cases_lt k (length made.records)) [
        | inl below ↦
            let found = element_at made.records k below in
            let count : length closed.flows.items ≡ length made.records = received.flow_count in
            let inside : k < length closed.flows.items = omega arith in
            let counted = element_at closed.flows.items k inside in
            last_none (frames_of k (given_in steps)) (frames_of k rest)
            (sym (filter_map-append (frame_of k) (given_in steps) rest)
            ∙ closed-none check (flow_setup made k found.0) (inputs_at k (flow_inputs (length made.records) (items_of handed))) (frames_of k (given_in steps ++ rest))
            (inputs-none k (length made.records) (items_of handed) all) counted.0 (received.flows k found.0 counted.0 found.1 counted.1))
        | inr past ↦
            last_none (frames_of k (given_in steps)) (frames_of k rest)
            (sym (filter_map-append (frame_of k) (given_in steps) rest) ∙ received.others k past)
      ]
