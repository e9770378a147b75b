-- What a source's worker has posted and noted.
use Rattle.std.proofs.Common.{◌≡◌, ℕ, zero, suc, ◌+◌, ◌<◌, ◌≤◌, Bool, true, false, IsTrue, not, ◌&&◌, nat_lt, nat_le, ⊎_elim, Option, Some, None, IfSome, is_some, List, [], ◌∷◌, ◌++◌, filter, length, slice_get, if◌then◌else◌, Vec, Global, refl, sym, ap, subst, ◌∙◌, arith}
use Rattle.std.specs.List.{cons_option}
use Rattle.std.proofs.Math.ListN.{set}
use Rattle.std.proofs.lemmas.Bool.{cases_eq, eq-eqb, ne_eqb, false≢true, le-leb, lt-ltb, le-ltb, lt-leb}
use Rattle.std.proofs.lemmas.List.{map-append, append-nil, map-set, length-map, length-set, length-append, get_or-map, get_or-set_same, get_or-set_other, get_or_past, set-get_or, flat_map_more}
use Rattle.std.proofs.lemmas.List.Elements.{filter_map-append, filter-append}
use Rattle.std.proofs.lemmas.Option.{same_Some, slice_get_within, slice_get-get_or, get_or_from_slice_get}
use Rattle.flow_records.specs.declared.record.FlowRecord.{FlowRecord}
use Rattle.flow_records.specs.Counted.{counted}
use Rattle.mailbox.specs.Ports.{address, posted}
use Rattle.mailbox.specs.declared.port.ClosedPort.{ClosedPort}
use Rattle.mailbox.specs.declared.port.Port.{Port}
use Rattle.lane.specs.declared.admitted.Request.{Request}
use Rattle.lane.specs.declared.input.Input.{Input}
use Rattle.lane.specs.declared.lane.Lane.{Lane}
use Rattle.lane.specs.declared.sids.SidRow.{SidRow}
use Rattle.lane.specs.Inputs.{Answer, AnsweredInput}
use Rattle.lane.specs.Stands.{StandsFor, TakesInput}
use Rattle.workers.specs.declared.channel_input.ChannelInput.{ChannelInput}
use Rattle.workers.specs.declared.item.Item.{Item}
use Rattle.workers.specs.declared.lane_notes.SourceNotes.{SourceNotes}
use Rattle.workers.specs.declared.lane_worker.LaneWork.{LaneWork}
use Rattle.workers.specs.declared.strays.Strays.{Strays}
use Rattle.workers.specs.Channels.{AreStraysOf}
use Rattle.workers.specs.Inside.Carried.{carried}
use Rattle.workers.specs.Inside.Working.{HasPosted, ServedInput, answer_on, answers_on, given_as, sent_in, asked_in, owned, is_own, lane_on, LanesStand, LanesTake, AnswersIn, AreNotesOf, HasPassedOnAnswers, HasServedAll, DidLane}

-- an input of this channel is answered there, and nowhere else
answers-own : (channel : ℕ) (served : List ServedInput) (one : AnsweredInput)
    → answers_on channel (served ++ record { channel = channel; one = one } ∷ []) ≡ answers_on channel served ++ one ∷ []
answers-own channel served one =
    filter_map-append (answer_on channel) served (record { channel = channel; one = one } ∷ [])
    ∙ ap (λ b. answers_on channel served ++ cons_option (if b then Some one else None) []) (eq-eqb channel channel refl)

answers-other : (channel other : ℕ) (served : List ServedInput) (one : AnsweredInput) → (channel ≡ other → ⊥)
    → answers_on other (served ++ record { channel = channel; one = one } ∷ []) ≡ answers_on other served
answers-other channel other served one not =
    filter_map-append (answer_on other) served (record { channel = channel; one = one } ∷ [])
    ∙ ap (λ b. answers_on other served ++ cons_option (if b then Some one else None) []) (ne_eqb channel other not)
    ∙ append-nil (answers_on other served)

module _ {X : Type 0} (xs : List X) (k : ℕ) (x : X) (within : k < length xs) where
  -- what was written is there
  set-there : slice_get (set xs k x) k ≡ Some x
  set-there =
      slice_get-get_or (set xs k x) k x (let long = length-set xs k x in omega (arith, long, within))
      ∙ ap Some (get_or-set_same xs k x x within)

  -- the others stay
  set-elsewhere : (j : ℕ) (y : X) → (k ≡ j → ⊥) → slice_get (set xs k x) j ≡ Some y → slice_get xs j ≡ Some y
  set-elsewhere j y not at =
      let inside : j < length xs = let long = length-set xs k x in let below = slice_get_within (set xs k x) j y at in omega (arith, long, below) in
      slice_get-get_or xs j y inside ∙ ap Some (sym (get_or-set_other xs k j x y (λ same. not (sym same))) ∙ get_or_from_slice_get (set xs k x) j y y at)

-- the lane of this channel answered an input
lanes-take : (lanes : List (Option Lane)) (channel : ℕ) (was now : Lane) (input : Input) (answer : Answer) → channel < length lanes
    → slice_get lanes channel ≡ Some (Some was) → TakesInput was input answer now → LanesTake lanes channel input answer (set lanes channel (Some now))
lanes-take lanes channel was now input answer within there takes rows records served stands other lane at =
    let one : AnsweredInput = record { input = input; answer = answer } in
    ⊎_elim
    (λ (same : channel ≡ other).
    let here : Some (Some now) ≡ Some (Some lane) = sym (set-there lanes channel (Some now) within) ∙ ap (slice_get (set lanes channel (Some now))) same ∙ at in
    let is : now ≡ lane = same_Some now lane (same_Some (Some now) (Some lane) here) in
    subst (λ c. StandsFor (lane_on rows records c) lane (answers_on c (served ++ record { channel = channel; one = one } ∷ []))) same
    (subst (λ (l : Lane). StandsFor (lane_on rows records channel) l (answers_on channel (served ++ record { channel = channel; one = one } ∷ []))) is
    (subst (λ (t : List AnsweredInput). StandsFor (lane_on rows records channel) now t) (sym (answers-own channel served one))
    (takes (lane_on rows records channel) (answers_on channel served) (stands channel was there)))))
    (λ (not : channel ≡ other → ⊥).
    subst (λ (t : List AnsweredInput). StandsFor (lane_on rows records other) lane t) (sym (answers-other channel other served one not))
    (stands other lane (set-elsewhere lanes channel (Some now) within other (Some lane) not at)))
    (cases_eq channel other)

-- the same lanes are there
owned-set : (lanes : List (Option Lane)) (channel : ℕ) (was now : Lane) → channel < length lanes → slice_get lanes channel ≡ Some (Some was)
    → owned (set lanes channel (Some now)) ≡ owned lanes
owned-set lanes channel was now within there =
    map-set (λ (lane : Option Lane). is_some lane) lanes channel (Some now)
    ∙ ap (set (owned lanes) channel) (sym (get_or-map (λ (lane : Option Lane). is_some lane) lanes channel (Some was) false within
    ∙ ap (λ (lane : Option Lane). is_some lane) (get_or_from_slice_get lanes channel (Some was) (Some was) there)))
    ∙ set-get_or (owned lanes) channel false

-- a lane is there where the source has one
lane-of-own : (lanes : List (Option Lane)) (channel : ℕ) → IsTrue (is_own (owned lanes) channel) → (lane : Lane) × (slice_get lanes channel ≡ Some (Some lane))
lane-of-own [] channel own = absurd (false≢true own)
lane-of-own (None ∷ lanes) zero own = absurd (false≢true own)
lane-of-own (Some lane ∷ lanes) zero own = (lane, refl)
lane-of-own (lane ∷ lanes) (suc channel) own = lane-of-own lanes channel own

-- and what is there is the source's own, or not
own-there : (lanes : List (Option Lane)) (channel : ℕ) (lane : Option Lane) → slice_get lanes channel ≡ Some lane → is_own (owned lanes) channel ≡ is_some lane
own-there lanes channel lane there =
    get_or-map (λ (l : Option Lane). is_some l) lanes channel lane false (slice_get_within lanes channel lane there)
    ∙ ap (λ (l : Option Lane). is_some l) (get_or_from_slice_get lanes channel lane lane there)

-- the lane that is here answered, so it is the source's own, and there still
pub answered-here : (lanes : List (Option Lane)) (channel : ℕ) (lane lane' : Option Lane) (input : Input) (given : Option Answer) (answer : Answer) → channel < length lanes
    → slice_get lanes channel ≡ Some lane → AnswersIn lane input given lane' → given ≡ Some answer
    → (is_own (owned lanes) channel ≡ true) × LanesTake lanes channel input answer (set lanes channel lane') × (owned (set lanes channel lane') ≡ owned lanes)
answered-here lanes channel (Some was) (Some now) input (Some one) answer within there takes is = (
  own-there lanes channel (Some was) there,
  lanes-take lanes channel was now input answer within there (subst (λ (a : Answer). TakesInput was input a now) (same_Some one answer is) takes),
  owned-set lanes channel was now within there,
)
answered-here lanes channel None lane' input (Some one) answer within there takes is = absurd takes
answered-here lanes channel (Some was) None input (Some one) answer within there takes is = absurd takes
answered-here lanes channel lane lane' input None answer within there takes is = absurd (cc)

-- no lane is here
pub none-here : (lanes : List (Option Lane)) (channel : ℕ) (lane lane' : Option Lane) (input : Input) (given : Option Answer) → channel < length lanes
    → slice_get lanes channel ≡ Some lane → AnswersIn lane input given lane' → given ≡ None
    → (is_own (owned lanes) channel ≡ false) × (set lanes channel lane' ≡ lanes)
none-here lanes channel None None input None within there answers is = (
  own-there lanes channel None there,
  ap (set lanes channel) (sym (get_or_from_slice_get lanes channel None None there)) ∙ set-get_or lanes channel None,
)
none-here lanes channel (Some was) lane' input None within there answers is = absurd answers
none-here lanes channel None (Some now) input None within there answers is = absurd answers
none-here lanes channel lane lane' input (Some one) within there answers is = absurd (cc)

-- past the lanes no channel is the source's own
pub none-past : (lanes : List (Option Lane)) (channel : ℕ) → length lanes ≤ channel → is_own (owned lanes) channel ≡ false
none-past lanes channel past = get_or_past (owned lanes) channel false (let long = length-map lanes (λ (lane : Option Lane). is_some lane) in omega (arith, long, past))

-- how many pass a test, of one more
passed-more : {X : Type 0} (test : X → Bool) (xs : List X) (x : X) (passes : Bool) → test x ≡ passes
    → length (filter test (xs ++ x ∷ [])) ≡ length (filter test xs) + (if passes then 1 else 0)
passed-more test xs x passes is =
    ap length (filter-append test xs (x ∷ [])) ∙ length-append (filter test xs) (filter test (x ∷ [])) ∙ ap (λ n. length (filter test xs) + n) (one passes is)
  where
    one : (b : Bool) → test x ≡ b → length (filter test (x ∷ [])) ≡ (if b then 1 else 0)
    one true is = ap (λ b. length (if b then x ∷ [] else [])) is
    one false is = ap (λ b. length (if b then x ∷ [] else [])) is

module _ (channels : ℕ) (own : ℕ → Bool) (inputs : List ChannelInput) (came : ChannelInput) (before after : Strays) (were : AreStraysOf channels own inputs before) where
  -- one more of no channel
  pub stray-absent : channels ≤ came.channel → after.absent ≡ counted (before.absent + 1) → after.foreign ≡ before.foreign
      → AreStraysOf channels own (inputs ++ came ∷ []) after
  stray-absent past absent foreign =
      let passes = ap (λ b. b && not (own came.channel)) (le-ltb came.channel channels past) in
      let more = passed-more (λ (one : ChannelInput). nat_le channels one.channel) inputs came true (le-leb channels came.channel past) in
      let none = passed-more (λ (one : ChannelInput). nat_lt one.channel channels && not (own one.channel)) inputs came false passes in
      let a = were.absent in let f = were.foreign in
      record { foreign = omega (arith, none, f, foreign); absent = omega (arith, more, a, absent) }

  -- one more of another source's channel
  pub stray-foreign : came.channel < channels → own came.channel ≡ false → after.foreign ≡ counted (before.foreign + 1) → after.absent ≡ before.absent
      → AreStraysOf channels own (inputs ++ came ∷ []) after
  stray-foreign below not-own foreign absent =
      let passes = ap (λ b. b && not (own came.channel)) (lt-ltb came.channel channels below) ∙ ap not not-own in
      let more = passed-more (λ (one : ChannelInput). nat_lt one.channel channels && not (own one.channel)) inputs came true passes in
      let none = passed-more (λ (one : ChannelInput). nat_le channels one.channel) inputs came false (lt-leb channels came.channel below) in
      let a = were.absent in let f = were.foreign in
      record { foreign = omega (arith, more, f, foreign); absent = omega (arith, none, a, absent) }

  -- one more of the source's own
  pub no-stray : came.channel < channels → own came.channel ≡ true → after ≡ before → AreStraysOf channels own (inputs ++ came ∷ []) after
  no-stray below is-own same =
      let passes = ap (λ b. b && not (own came.channel)) (lt-ltb came.channel channels below) ∙ ap not is-own in
      let none = passed-more (λ (one : ChannelInput). nat_lt one.channel channels && not (own one.channel)) inputs came false passes in
      let none' = passed-more (λ (one : ChannelInput). nat_le channels one.channel) inputs came false (lt-leb channels came.channel below) in
      let a = were.absent in let f = were.foreign in
      subst (AreStraysOf channels own (inputs ++ came ∷ [])) (sym same)
      (record { foreign = omega (arith, none, f); absent = omega (arith, none', a) })

-- an input that passes no test is left out
left-out : {X : Type 0} (test : X → Bool) (xs : List X) (x : X) → test x ≡ false → filter test (xs ++ x ∷ []) ≡ filter test xs
left-out test xs x is =
    filter-append test xs (x ∷ []) ∙ ap (λ b. filter test xs ++ (if b then x ∷ [] else [])) is ∙ append-nil (filter test xs)

-- and one that passes is kept
kept-in : {X : Type 0} (test : X → Bool) (xs : List X) (x : X) → test x ≡ true → filter test (xs ++ x ∷ []) ≡ filter test xs ++ x ∷ []
kept-in test xs x is = filter-append test xs (x ∷ []) ∙ ap (λ b. filter test xs ++ (if b then x ∷ [] else [])) is

module _ {S N : Type 0} (are_of : List AnsweredInput → N → Type 0) where
  -- nothing was served, and nothing noted
  pub nothing_noted : (work : LaneWork S) (rows : List SidRow) (records : List FlowRecord) → LanesStand rows records work.lanes.items []
      → HasPassedOnAnswers are_of rows records [] work work None
  nothing_noted work rows records stands = record {
    served = [];
    answers = λ channel own. let there = lane-of-own work.lanes.items channel own in (stands channel there.0 there.1).answered;
    inputs_are = refl;
    arrivals_are = sym (append-nil (carried (posted work.arrivals)));
    requests_are = sym (append-nil (posted work.requests));
    noted = tt;
  }

  -- no input was served yet
  pub none_served : (work : LaneWork S) (notes : SourceNotes N) → ((flags : List Bool) → length flags ≡ length work.lanes.items → AreNotesOf are_of flags [] [] notes)
      → HasServedAll are_of [] work work notes
  none_served work notes blank = record {
    arrivals_same = refl;
    requests_same = refl;
    lanes_same = refl;
    serves = λ rows records stands. record {
      passed_on = record {
        served = [];
        answers = λ channel own. let there = lane-of-own work.lanes.items channel own in (stands channel there.0 there.1).answered;
        inputs_are = refl;
        arrivals_are = sym (append-nil (carried (posted work.arrivals)));
        requests_are = sym (append-nil (posted work.requests));
        noted = blank (owned work.lanes.items) (length-map work.lanes.items (λ (lane : Option Lane). is_some lane));
      };
      stands = stands;
    };
  }

  -- one input more is a stray
  pub stray_served : (inputs : List ChannelInput) (came : ChannelInput) (work before after : LaneWork S) (notes notes' : SourceNotes N)
      → HasServedAll are_of inputs work before notes → after.lanes.items ≡ before.lanes.items → after.arrivals ≡ before.arrivals → after.requests ≡ before.requests
      → notes'.lanes ≡ notes.lanes → is_own (owned before.lanes.items) came.channel ≡ false
      → ((own : ℕ → Bool) → own came.channel ≡ false → AreStraysOf (length before.lanes.items) own inputs notes.strays
      → AreStraysOf (length before.lanes.items) own (inputs ++ came ∷ []) notes'.strays)
      → HasServedAll are_of (inputs ++ came ∷ []) work after notes'
  stray_served inputs came work before after notes notes' has lanes arrivals requests same not-own counts = record {
    arrivals_same = ap address arrivals ∙ has.arrivals_same;
    requests_same = ap address requests ∙ has.requests_same;
    lanes_same = ap owned lanes ∙ has.lanes_same;
    serves = λ rows records stands.
        let was = has.serves rows records stands in
        let is = was.passed_on in
        let flags = owned work.lanes.items in
        let not-own' : is_own flags came.channel ≡ false = ap (λ f. is_own f came.channel) (sym has.lanes_same) ∙ not-own in
        let long : length flags ≡ length before.lanes.items =
        ap length (sym has.lanes_same) ∙ length-map before.lanes.items (λ (lane : Option Lane). is_some lane) in
        record {
          passed_on = record {
            served = is.served;
            answers = is.answers;
            inputs_are = is.inputs_are ∙ sym (left-out (λ (one : ChannelInput). is_own flags one.channel) inputs came not-own');
            arrivals_are = ap (λ (p : Port Item). carried (posted p)) arrivals ∙ is.arrivals_are;
            requests_are = ap (λ (p : Port Request). posted p) requests ∙ is.requests_are;
            noted = record {
              count = ap (λ (v : Vec N Global). length v.items) same ∙ is.noted.count;
              of_lanes = λ channel one at. is.noted.of_lanes channel one (ap (λ (v : Vec N Global). slice_get v.items channel) (sym same) ∙ at);
              strays =
                  subst (λ n. AreStraysOf n (is_own flags) (inputs ++ came ∷ []) notes'.strays) (sym long)
                  (counts (is_own flags) not-own' (subst (λ n. AreStraysOf n (is_own flags) inputs notes.strays) long is.noted.strays));
            };
          };
          stands = subst (λ (l : List (Option Lane)). LanesStand rows records l is.served) (sym lanes) was.stands;
        };
  }

  module _ (inputs : List ChannelInput) (came : ChannelInput) (answer : Answer) (work before after : LaneWork S) (notes notes' : SourceNotes N) (n : N)
      (has : HasServedAll are_of inputs work before notes) where
    abbrev one : ServedInput
    one = record { channel = came.channel; one = record { input = came.input; answer = answer } }

    -- what is noted of each channel
    noted-more : (served : List ServedInput) → came.channel < length notes.lanes.items → notes'.lanes.items ≡ set notes.lanes.items came.channel n
        → ((channel : ℕ) (m : N) → slice_get notes.lanes.items channel ≡ Some m → are_of (answers_on channel served) m)
        → are_of (answers_on came.channel served ++ one.one ∷ []) n
        → (channel : ℕ) (m : N) → slice_get notes'.lanes.items channel ≡ Some m → are_of (answers_on channel (served ++ one ∷ [])) m
    noted-more served within written were now channel m at =
        let at' : slice_get (set notes.lanes.items came.channel n) channel ≡ Some m = ap (λ l. slice_get l channel) (sym written) ∙ at in
        ⊎_elim
        (λ (same : came.channel ≡ channel).
        let here : Some n ≡ Some m = sym (set-there notes.lanes.items came.channel n within) ∙ ap (slice_get (set notes.lanes.items came.channel n)) same ∙ at' in
        subst (λ c. are_of (answers_on c (served ++ one ∷ [])) m) same
        (subst (are_of (answers_on came.channel (served ++ one ∷ []))) (same_Some n m here)
        (subst (λ (t : List AnsweredInput). are_of t n) (sym (answers-own came.channel served one.one)) now)))
        (λ (not : came.channel ≡ channel → ⊥).
        subst (λ (t : List AnsweredInput). are_of t m) (sym (answers-other came.channel channel served one.one not))
        (were channel m (set-elsewhere notes.lanes.items came.channel n within channel m not at')))
        (cases_eq came.channel channel)

    -- one input more was answered, and what it admits posted
    pub one_served : (was : N) → came.channel < length before.lanes.items → is_own (owned before.lanes.items) came.channel ≡ true
        → LanesTake before.lanes.items came.channel came.input answer after.lanes.items → owned after.lanes.items ≡ owned before.lanes.items
        → slice_get notes.lanes.items came.channel ≡ Some was → notes'.lanes.items ≡ set notes.lanes.items came.channel n → notes'.strays ≡ notes.strays
        → ((answered : List AnsweredInput) (input : Input) → are_of answered was → are_of (answered ++ record { input = input; answer = answer } ∷ []) n)
        → address after.arrivals ≡ address before.arrivals → address after.requests ≡ address before.requests
        → carried (posted after.arrivals) ≡ carried (posted before.arrivals) ++ sent_in one
        → posted after.requests ≡ posted before.requests ++ asked_in one
        → HasServedAll are_of (inputs ++ came ∷ []) work after notes'
    one_served was below own takes same there written no_more adds arrivals_same requests_same arrivals requests = record {
      arrivals_same = arrivals_same ∙ has.arrivals_same;
      requests_same = requests_same ∙ has.requests_same;
      lanes_same = same ∙ has.lanes_same;
      serves = λ rows records stands.
          let serving = has.serves rows records stands in
          let is = serving.passed_on in
          let flags = owned work.lanes.items in
          let own' : is_own flags came.channel ≡ true = ap (λ f. is_own f came.channel) (sym has.lanes_same) ∙ own in
          let long : length flags ≡ length before.lanes.items =
          ap length (sym has.lanes_same) ∙ length-map before.lanes.items (λ (lane : Option Lane). is_some lane) in
          let now : LanesStand rows records after.lanes.items (is.served ++ one ∷ []) = takes rows records is.served serving.stands in
          record {
            passed_on = record {
              served = is.served ++ one ∷ [];
              answers = λ channel owns.
                  let lane = lane-of-own after.lanes.items channel (ap (λ f. is_own f channel) (same ∙ has.lanes_same) ∙ owns) in
                  (now channel lane.0 lane.1).answered;
              inputs_are =
                  map-append given_as is.served (one ∷ []) ∙ ap (λ t. t ++ came ∷ []) is.inputs_are
                  ∙ sym (kept-in (λ (i : ChannelInput). is_own flags i.channel) inputs came own');
              arrivals_are = arrivals ∙ ap (λ t. t ++ sent_in one) is.arrivals_are ∙ flat_map_more sent_in (carried (posted work.arrivals)) is.served one;
              requests_are = requests ∙ ap (λ t. t ++ asked_in one) is.requests_are ∙ flat_map_more asked_in (posted work.requests) is.served one;
              noted = record {
                count = ap length written ∙ length-set notes.lanes.items came.channel n ∙ is.noted.count;
                of_lanes = noted-more is.served (slice_get_within notes.lanes.items came.channel was there) written is.noted.of_lanes
                    (adds (answers_on came.channel is.served) came.input (is.noted.of_lanes came.channel was there));
                strays = no-stray (length flags) (is_own flags) inputs came notes.strays notes'.strays is.noted.strays (omega (arith, below, long)) own' no_more;
              };
            };
            stands = now;
          };
    }

  -- no more is served: the notes are kept, or given up
  pub passed_on : (inputs : List ChannelInput) (work before now : LaneWork S) (notes : SourceNotes N) (kept : Option (SourceNotes N))
      → now.arrivals ≡ before.arrivals → now.requests ≡ before.requests
      → ((P : SourceNotes N → Type 0) → P notes → IfSome kept P) → HasServedAll are_of inputs work before notes
      → (rows : List SidRow) (records : List FlowRecord) → LanesStand rows records work.lanes.items []
      → HasPassedOnAnswers are_of rows records inputs work now kept
  passed_on inputs work before now notes kept arrivals requests keeps has rows records stands =
      let is = (has.serves rows records stands).passed_on in
      record {
        served = is.served;
        answers = is.answers;
        inputs_are = is.inputs_are;
        arrivals_are = ap (λ (p : Port Item). carried (posted p)) arrivals ∙ is.arrivals_are;
        requests_are = ap (λ (p : Port Request). posted p) requests ∙ is.requests_are;
        noted = keeps (AreNotesOf are_of (owned work.lanes.items) is.served inputs) is.noted;
      }

  -- the ports are closed
  pub did_serve : (inputs : List ChannelInput) (work now : LaneWork S) (notes : Option (SourceNotes N)) (arrivals : ClosedPort Item) (requests : ClosedPort Request)
      → address now.arrivals ≡ address work.arrivals → address now.requests ≡ address work.requests
      → ((rows : List SidRow) (records : List FlowRecord) → LanesStand rows records work.lanes.items [] → HasPassedOnAnswers are_of rows records inputs work now notes)
      → HasPosted now.arrivals [] arrivals → HasPosted now.requests [] requests
      → DidLane are_of work.lanes.items work.arrivals work.requests inputs (record { arrivals = arrivals; requests = requests; notes = notes })
  did_serve inputs work now notes arrivals requests arrivals_same requests_same served closes closes' = record {
    did = λ rows records stands.
        let is = served rows records stands in
        record {
          served = is.served;
          answers = is.answers;
          inputs_are = is.inputs_are;
          arrivals_are = record {
            address_is = closes.address_is ∙ arrivals_same;
            sent_is = ap carried (closes.posted_is ∙ append-nil (posted now.arrivals)) ∙ is.arrivals_are;
          };
          requests_are = record {
            address_is = closes'.address_is ∙ requests_same;
            posted_is = closes'.posted_is ∙ append-nil (posted now.requests) ∙ is.requests_are;
          };
          noted = is.noted;
        };
  }
