-- Each input of a lane has one answer.
use Rattle.std.proofs.Common.{◌≡◌, ℕ, zero, suc, ◌<◌, ◌≤◌, ⊎_elim, Bool, Option, Some, None, Result, Ok, Err, List, [], ◌∷◌, ◌++◌, length, take, drop, slice_get, sym, ap, subst, ◌∙◌, refl, arith}
use Rattle.std.proofs.Props.{props}
use Rattle.std.proofs.lemmas.Bool.{cases_lt}
use Rattle.std.proofs.lemmas.Option.{slice_get_within, slice_get-map, same_Some}
use Rattle.std.specs.Option.{option_map}
use Rattle.std.proofs.lemmas.List.{take_all, length-map, length-take}
use Rattle.docsis_wire.specs.declared.segment.Segment.{Segment}
use Rattle.docsis_wire.specs.SegmentBytes.{segment_bytes, PointsPast}
use Rattle.docsis_wire.specs.Ready.{IsReady}
use Rattle.docsis_wire.proofs.HeaderWords.{header_bytes-inj}
use Rattle.docsis_wire.proofs.StreamPlaces.{element_at}
use Rattle.flow_records.specs.declared.record.FlowRecord.{FlowRecord}
use Rattle.lane.specs.declared.sids.SidRow.{SidRow}
use Rattle.lane.specs.declared.input.Input.{Input}
use Rattle.lane.specs.declared.input.Input.TheVariants.{Grant, Burst}
use Rattle.lane.specs.declared.refusal.Refusal.{Refusal}
use Rattle.lane.specs.declared.refusal.Refusal.TheVariants.{GrantRange, GrantKnown, UnknownSid, TooManyGrants, TooLong, BadCheck, TooShort, PointerPast}
use Rattle.lane.specs.declared.admitted.Admitted.{Admitted}
use Rattle.lane.specs.declared.admitted.Request.{Request}
use Rattle.lane.specs.declared.grant.SidFlow.{SidFlow}
use Rattle.lane.specs.declared.grant.OutstandingGrant.{OutstandingGrant}
use Rattle.lane.specs.Rows.{CanBeOpenedWithin}
use Rattle.lane.specs.Admission.{IsRequestIn, IsAdmitted, IsMadeOf, Fits}
use Rattle.lane.specs.Inputs.{LaneSetup, Answer, AnsweredInput, IsRowOf, IsFlowOf, IsOutstanding, IsGrant, IsAnswerToGrant, IsAnswerToBurst, IsAnswer, AreAnswered, inputs_of}
use Rattle.lane.proofs.LaneTaking.{granted, by-cases}

-- the identifier and the bytes of a grant
abbrev sid_of : Input → ℕ
sid_of (Grant number sid bytes) = sid
sid_of (Burst number hcs_ok bytes) = 0

abbrev bytes_of : Input → ℕ
bytes_of (Grant number sid bytes) = bytes
bytes_of (Burst number hcs_ok bytes) = 0

module _ {X : Type 0} where
  -- what stands among the first n stands in the list, and the other way round
  from-take : (n : ℕ) (xs : List X) (k : ℕ) (x : X) → slice_get (take n xs) k ≡ Some x → slice_get xs k ≡ Some x
  from-take zero xs k x is = absurd (cc)
  from-take (suc n) [] k x is = absurd (cc)
  from-take (suc n) (y ∷ xs) zero x is = is
  from-take (suc n) (y ∷ xs) (suc k) x is = from-take n xs k x is

  in-take : (n : ℕ) (xs : List X) (k : ℕ) (x : X) → slice_get xs k ≡ Some x → k < n → slice_get (take n xs) k ≡ Some x
  in-take zero xs k x is below = absurd (omega arith)
  in-take (suc n) [] k x is below = absurd (cc)
  in-take (suc n) (y ∷ xs) zero x is below = is
  in-take (suc n) (y ∷ xs) (suc k) x is below = in-take n xs k x is (omega arith)

  -- the first of the first
  take-take : (j k : ℕ) (xs : List X) → j ≤ k → take j (take k xs) ≡ take j xs
  take-take zero k xs below = refl
  take-take (suc j) zero xs below = absurd (omega arith)
  take-take (suc j) (suc k) [] below = refl
  take-take (suc j) (suc k) (x ∷ xs) below = ap (λ t. x ∷ t) (take-take j k xs (omega arith))

  -- one more of the first
  take-one : (xs : List X) (k : ℕ) (x : X) → slice_get xs k ≡ Some x → take (suc k) xs ≡ take k xs ++ x ∷ []
  take-one [] k x is = absurd (cc)
  take-one (y ∷ xs) zero x is = ap (λ t. t ∷ []) (same_Some y x is)
  take-one (y ∷ xs) (suc k) x is = ap (λ t. y ∷ t) (take-one xs k x is)

  -- and no more
  take-none : (xs : List X) (k : ℕ) → length xs ≤ k → take (suc k) xs ≡ take k xs
  take-none xs k past = take_all (suc k) xs (omega arith) ∙ sym (take_all k xs past)

-- a header and a payload are known by their bytes
one-segment : (segment other : Segment) → segment_bytes segment ≡ segment_bytes other → segment ≡ other
one-segment segment other same =
    let head = header_bytes-inj segment.head other.head (ap (take 8) same) in
    let payload : segment.payload ≡ other.payload = ap (drop 8) same in
    ap (λ h. let s : Segment = record { head = h; payload = segment.payload } in s) head
    ∙ ap (λ p. let s : Segment = record { head = other.head; payload = p } in s) payload

-- what is admitted is known by its flow, its segment and its request
one-admitted : (admitted other : Admitted) → admitted.flow ≡ other.flow → admitted.segment ≡ other.segment → admitted.request ≡ other.request → admitted ≡ other
one-admitted admitted other flow segment request =
    let Same : Segment → Type 0 = λ s. (r : IsReady s) → admitted ≡ record { flow = admitted.flow; segment = s; request = admitted.request; ready = r } in
    let prop : IsProp (IsReady admitted.segment) = hlevel props in
    subst Same segment (λ r. ap (λ (t : IsReady admitted.segment). let a : Admitted = record { flow = admitted.flow; segment = admitted.segment; request = admitted.request; ready = t } in a) (prop admitted.ready r)) other.ready
    ∙ ap (λ f. let a : Admitted = record { flow = f; segment = other.segment; request = admitted.request; ready = other.ready } in a) flow
    ∙ ap (λ q. let a : Admitted = record { flow = other.flow; segment = other.segment; request = q; ready = other.ready } in a) request

-- a header has one request
one-request : (channel : ℕ) (flow : SidFlow) (segment : Segment) (request other : Option Request)
    → IsRequestIn channel flow segment.head request → IsRequestIn channel flow segment.head other → request ≡ other
one-request channel flow segment None None is are = refl
one-request channel flow segment None (Some other) is are =
    let units = are.0 in
    let cluster = are.1 in
    ⊎_elim (λ (none : segment.head.request ≡ 0). absurd (omega arith)) (λ (none : flow.clusters ≤ segment.head.cluster). absurd (omega arith)) is
one-request channel flow segment (Some request) None is are =
    let units = is.0 in
    let cluster = is.1 in
    ⊎_elim (λ (none : segment.head.request ≡ 0). absurd (omega arith)) (λ (none : flow.clusters ≤ segment.head.cluster). absurd (omega arith)) are
one-request channel flow segment (Some request) (Some other) is are = ap Some (is.2 ∙ sym are.2)

-- of a burst one thing is admitted
one-admission : (channel : ℕ) (flow : SidFlow) (bytes : List ℕ) (admitted other : Admitted) → IsAdmitted channel flow bytes admitted
    → IsAdmitted channel flow bytes other → admitted ≡ other
one-admission channel flow bytes admitted other is are =
    let segment = one-segment admitted.segment other.segment (is.spelled ∙ sym are.spelled) in
    one-admitted admitted other (is.flow_is ∙ sym are.flow_is) segment
    (one-request channel flow other.segment admitted.request other.request (subst (λ (s : Segment). IsRequestIn channel flow s.head admitted.request) segment is.request) are.request)

module _ (channel : ℕ) (grant : OutstandingGrant) (hcs_ok : Bool) (bytes : List ℕ) where
  abbrev Made : Result Admitted Refusal → Type 0
  Made answer = IsMadeOf channel grant hcs_ok bytes answer

  -- what is ready doesn't point past its payload, and a segment has a header
  not-past : (admitted : Admitted) → segment_bytes admitted.segment ≡ bytes → ¬ (PointsPast bytes)
  not-past admitted spelled past =
      past.past (subst IsReady (one-segment admitted.segment past.segment (spelled ∙ sym past.spelled)) admitted.ready)

  long-enough : (segment : Segment) → segment_bytes segment ≡ bytes → 8 ≤ length bytes
  long-enough segment spelled = let long = ap length spelled in omega arith

  -- what is admitted of a burst fits its grant
  pub made-fits : (admitted : Admitted) → Made (Ok admitted) → Fits grant hcs_ok bytes
  made-fits admitted is = (is.0, is.1, long-enough admitted.segment is.2.spelled, not-past admitted is.2.spelled)

  -- and of a burst in a grant one thing is made
  one-made : (answer other : Result Admitted Refusal) → Made answer → Made other → answer ≡ other
  one-made (Ok admitted) (Ok other) is are = ap Ok (one-admission channel grant.flow bytes admitted other is.2 are.2)
  one-made (Ok admitted) (Err TooLong) is are = let fits = is.0 in let long = are in absurd (omega arith)
  one-made (Ok admitted) (Err BadCheck) is are = absurd (are.1 is.1)
  one-made (Ok admitted) (Err TooShort) is are = let short = are.2 in let long = long-enough admitted.segment is.2.spelled in absurd (omega arith)
  one-made (Ok admitted) (Err PointerPast) is are = absurd (not-past admitted is.2.spelled are.2)
  one-made (Ok admitted) (Err _) is are = absurd are
  one-made (Err TooLong) (Ok other) is are = let fits = are.0 in let long = is in absurd (omega arith)
  one-made (Err TooLong) (Err TooLong) is are = refl
  one-made (Err TooLong) (Err BadCheck) is are = let fits = are.0 in let long = is in absurd (omega arith)
  one-made (Err TooLong) (Err TooShort) is are = let fits = are.0 in let long = is in absurd (omega arith)
  one-made (Err TooLong) (Err PointerPast) is are = let fits = are.0 in let long = is in absurd (omega arith)
  one-made (Err TooLong) (Err _) is are = absurd are
  one-made (Err BadCheck) (Ok other) is are = absurd (is.1 are.1)
  one-made (Err BadCheck) (Err TooLong) is are = let fits = is.0 in let long = are in absurd (omega arith)
  one-made (Err BadCheck) (Err BadCheck) is are = refl
  one-made (Err BadCheck) (Err TooShort) is are = absurd (is.1 are.1)
  one-made (Err BadCheck) (Err PointerPast) is are = absurd (is.1 are.1)
  one-made (Err BadCheck) (Err _) is are = absurd are
  one-made (Err TooShort) (Ok other) is are = let short = is.2 in let long = long-enough other.segment are.2.spelled in absurd (omega arith)
  one-made (Err TooShort) (Err TooLong) is are = let fits = is.0 in let long = are in absurd (omega arith)
  one-made (Err TooShort) (Err BadCheck) is are = absurd (are.1 is.1)
  one-made (Err TooShort) (Err TooShort) is are = refl
  one-made (Err TooShort) (Err PointerPast) is are = let short = is.2 in let long = long-enough are.2.segment are.2.spelled in absurd (omega arith)
  one-made (Err TooShort) (Err _) is are = absurd are
  one-made (Err PointerPast) (Ok other) is are = absurd (not-past other are.2.spelled is.2)
  one-made (Err PointerPast) (Err TooLong) is are = let fits = is.0 in let long = are in absurd (omega arith)
  one-made (Err PointerPast) (Err BadCheck) is are = absurd (are.1 is.1)
  one-made (Err PointerPast) (Err TooShort) is are = let short = are.2 in let long = long-enough is.2.segment is.2.spelled in absurd (omega arith)
  one-made (Err PointerPast) (Err PointerPast) is are = refl
  one-made (Err PointerPast) (Err _) is are = absurd are
  one-made (Err _) other is are = absurd is

module _ (channels : ℕ) (setup : LaneSetup) (can : CanBeOpenedWithin channels setup.rows (length setup.records)) where
  -- an identifier has one row on a channel
  one-row : (sid k j : ℕ) (row other : SidRow) → IsRowOf setup sid k row → IsRowOf setup sid j other → row ≡ other
  one-row sid k j row other is are =
      let channel = is.channel ∙ sym are.channel in
      let identifier = is.identifier ∙ sym are.identifier in
      ⊎_elim
      (λ (before : k < j). absurd (can.apart j (k, before, other, row, are.stands, is.stands, channel, identifier)))
      (λ (rest : j ≤ k). ⊎_elim
      (λ (after : j < k). absurd (can.apart k (j, after, row, other, is.stands, are.stands, sym channel, sym identifier)))
      (λ (same : k ≤ j).
      let place : k ≡ j = omega arith in
      same_Some row other (sym is.stands ∙ ap (slice_get setup.rows) place ∙ are.stands))
      (cases_lt j k))
      (cases_lt k j)

  one-flow : (sid : ℕ) (flow other : SidFlow) → IsFlowOf setup sid flow → IsFlowOf setup sid other → flow ≡ other
  one-flow sid flow other is are =
      let row = one-row sid is.k are.k is.row are.row is.of_row are.of_row in
      let index : flow.index ≡ other.index = is.index ∙ ap (λ (r : SidRow). r.flow) row ∙ sym are.index in
      let same = same_Some is.flow_record are.flow_record (sym is.stands ∙ ap (λ (r : SidRow). slice_get setup.records r.flow) row ∙ are.stands) in
      let clusters : flow.clusters ≡ other.clusters = is.clusters ∙ ap (λ (r : FlowRecord). r.clusters) same ∙ sym are.clusters in
      ap (λ i. let f : SidFlow = record { index = i; clusters = flow.clusters } in f) index
      ∙ ap (λ n. let f : SidFlow = record { index = other.index; clusters = n } in f) clusters

  module _ (taken : List AnsweredInput) (answered : AreAnswered setup taken) where
    -- where a grant is outstanding none of its number was accepted later
    not-later : (number sid bytes other_sid other_bytes : ℕ) (is : IsOutstanding taken number sid bytes) (are : IsOutstanding taken number other_sid other_bytes) → ¬ (is.at < are.at)
    not-later number sid bytes other_sid other_bytes is are later =
        (answered are.at (granted number other_sid other_bytes) are.stands).1 (
          sid,
          bytes,
          record {
            at = is.at;
            stands = in-take are.at taken is.at (granted number sid bytes) is.stands later;
            unspent = λ j one after stands. is.unspent j one after (from-take are.at taken j one stands);
          },
        )

    one-outstanding : (number sid bytes other_sid other_bytes : ℕ) → IsOutstanding taken number sid bytes → IsOutstanding taken number other_sid other_bytes
        → (sid ≡ other_sid) × (bytes ≡ other_bytes)
    one-outstanding number sid bytes other_sid other_bytes is are =
        ⊎_elim
        (λ (before : is.at < are.at). absurd (not-later number sid bytes other_sid other_bytes is are before))
        (λ (rest : are.at ≤ is.at). ⊎_elim
        (λ (after : are.at < is.at). absurd (not-later number other_sid other_bytes sid bytes are is after))
        (λ (same : is.at ≤ are.at).
        let place : is.at ≡ are.at = omega arith in
        let one = same_Some (granted number sid bytes) (granted number other_sid other_bytes) (sym is.stands ∙ ap (slice_get taken) place ∙ are.stands) in
        (ap (λ (t : AnsweredInput). sid_of t.input) one, ap (λ (t : AnsweredInput). bytes_of t.input) one))
        (cases_lt are.at is.at))
        (cases_lt is.at are.at)

    pub one-grant : (number : ℕ) (grant other : OutstandingGrant) → IsGrant setup taken number grant → IsGrant setup taken number other → grant ≡ other
    one-grant number grant other is are =
        let same = one-outstanding number is.sid grant.bytes are.sid other.bytes is.outstanding are.outstanding in
        let flow = one-flow are.sid grant.flow other.flow (subst (λ s. IsFlowOf setup s grant.flow) same.0 is.flow) are.flow in
        ap (λ f. let g : OutstandingGrant = record { flow = f; bytes = grant.bytes } in g) flow
        ∙ ap (λ n. let g : OutstandingGrant = record { flow = other.flow; bytes = n } in g) same.1

    one-burst : (number : ℕ) (hcs_ok : Bool) (bytes : List ℕ) (answer other : Result Admitted Refusal)
        → IsAnswerToBurst setup taken number hcs_ok bytes answer → IsAnswerToBurst setup taken number hcs_ok bytes other → answer ≡ other
    one-burst number hcs_ok bytes answer other is are =
        ⊎_elim
        (λ none. ⊎_elim
        (λ also. none.1 ∙ sym also.1)
        (λ some. absurd (none.0 (some.1.sid, some.0.bytes, some.1.outstanding)))
        (by-cases setup taken number hcs_ok bytes other are))
        (λ some. ⊎_elim
        (λ none. absurd (none.0 (some.1.sid, some.0.bytes, some.1.outstanding)))
        (λ also.
        let same = one-grant number some.0 also.0 some.1 also.1 in
        one-made setup.channel also.0 hcs_ok bytes answer other (subst (λ g. IsMadeOf setup.channel g hcs_ok bytes answer) same some.2) also.2)
        (by-cases setup taken number hcs_ok bytes other are))
        (by-cases setup taken number hcs_ok bytes answer is)

    one-answer-to-grant : (number sid bytes : ℕ) (answer other : Answer) → IsAnswerToGrant setup taken number sid bytes answer
        → IsAnswerToGrant setup taken number sid bytes other → answer ≡ other
    one-answer-to-grant number sid bytes (Err GrantRange) (Err GrantRange) is are = refl
    one-answer-to-grant number sid bytes (Err GrantRange) (Err GrantKnown) is are = absurd (is are.0)
    one-answer-to-grant number sid bytes (Err GrantRange) (Err UnknownSid) is are = absurd (is are.0)
    one-answer-to-grant number sid bytes (Err GrantRange) (Err TooManyGrants) is are = absurd (is are.0)
    one-answer-to-grant number sid bytes (Err GrantRange) (Ok None) is are = absurd (is are.0)
    one-answer-to-grant number sid bytes (Err GrantRange) _ is are = absurd are
    one-answer-to-grant number sid bytes (Err GrantKnown) (Err GrantRange) is are = absurd (are is.0)
    one-answer-to-grant number sid bytes (Err GrantKnown) (Err GrantKnown) is are = refl
    one-answer-to-grant number sid bytes (Err GrantKnown) (Err UnknownSid) is are = absurd (are.1 is.1)
    one-answer-to-grant number sid bytes (Err GrantKnown) (Err TooManyGrants) is are = absurd (are.1 is.1)
    one-answer-to-grant number sid bytes (Err GrantKnown) (Ok None) is are = absurd (are.1 is.1)
    one-answer-to-grant number sid bytes (Err GrantKnown) _ is are = absurd are
    one-answer-to-grant number sid bytes (Err UnknownSid) (Err GrantRange) is are = absurd (are is.0)
    one-answer-to-grant number sid bytes (Err UnknownSid) (Err GrantKnown) is are = absurd (is.1 are.1)
    one-answer-to-grant number sid bytes (Err UnknownSid) (Err UnknownSid) is are = refl
    one-answer-to-grant number sid bytes (Err UnknownSid) (Err TooManyGrants) is are = absurd (are.2 is.2)
    one-answer-to-grant number sid bytes (Err UnknownSid) (Ok None) is are = absurd (are.2 is.2)
    one-answer-to-grant number sid bytes (Err UnknownSid) _ is are = absurd are
    one-answer-to-grant number sid bytes (Err TooManyGrants) (Err GrantRange) is are = absurd (are is.0)
    one-answer-to-grant number sid bytes (Err TooManyGrants) (Err GrantKnown) is are = absurd (is.1 are.1)
    one-answer-to-grant number sid bytes (Err TooManyGrants) (Err UnknownSid) is are = absurd (is.2 are.2)
    one-answer-to-grant number sid bytes (Err TooManyGrants) (Err TooManyGrants) is are = refl
    one-answer-to-grant number sid bytes (Err TooManyGrants) (Ok None) is are = let many = is.3 in let few = are.3 in absurd (omega arith)
    one-answer-to-grant number sid bytes (Err TooManyGrants) _ is are = absurd are
    one-answer-to-grant number sid bytes (Ok None) (Err GrantRange) is are = absurd (are is.0)
    one-answer-to-grant number sid bytes (Ok None) (Err GrantKnown) is are = absurd (is.1 are.1)
    one-answer-to-grant number sid bytes (Ok None) (Err UnknownSid) is are = absurd (is.2 are.2)
    one-answer-to-grant number sid bytes (Ok None) (Err TooManyGrants) is are = let many = are.3 in let few = is.3 in absurd (omega arith)
    one-answer-to-grant number sid bytes (Ok None) (Ok None) is are = refl
    one-answer-to-grant number sid bytes (Ok None) _ is are = absurd are
    one-answer-to-grant number sid bytes _ _ is are = absurd is

    pub one-answer : (input : Input) (answer other : Answer) → IsAnswer setup taken input answer → IsAnswer setup taken input other → answer ≡ other
    one-answer (Grant number sid bytes) answer other is are = one-answer-to-grant number sid bytes answer other is are
    one-answer (Burst number hcs_ok bytes) (Ok None) other is are = absurd is
    one-answer (Burst number hcs_ok bytes) (Ok (Some admitted)) (Ok None) is are = absurd are
    one-answer (Burst number hcs_ok bytes) (Err refusal) (Ok None) is are = absurd are
    one-answer (Burst number hcs_ok bytes) (Ok (Some admitted)) (Ok (Some other)) is are =
        let same = one-burst number hcs_ok bytes (Ok admitted) (Ok other) is are in cc
    one-answer (Burst number hcs_ok bytes) (Ok (Some admitted)) (Err refusal) is are =
        let same = one-burst number hcs_ok bytes (Ok admitted) (Err refusal) is are in absurd (cc)
    one-answer (Burst number hcs_ok bytes) (Err refusal) (Ok (Some admitted)) is are =
        let same = one-burst number hcs_ok bytes (Err refusal) (Ok admitted) is are in absurd (cc)
    one-answer (Burst number hcs_ok bytes) (Err refusal) (Err other) is are =
        let same = one-burst number hcs_ok bytes (Err refusal) (Err other) is are in cc

  -- the inputs before a place were answered rightly
  answered-before : (taken : List AnsweredInput) → AreAnswered setup taken → (k : ℕ) → AreAnswered setup (take k taken)
  answered-before taken answered k j one stands =
      let within = slice_get_within (take k taken) j one stands in
      let long = length-take k taken in
      subst (λ t. IsAnswer setup t one.input one.answer) (sym (take-take j k taken (omega arith))) (answered j one (from-take k taken j one stands))

  -- the answers before a place are all the same
  same-before : (taken others : List AnsweredInput) → AreAnswered setup taken → AreAnswered setup others → inputs_of taken ≡ inputs_of others → (k : ℕ)
      → take k taken ≡ take k others
  same-before taken others answered also inputs zero = refl
  same-before taken others answered also inputs (suc k) =
      let before = same-before taken others answered also inputs k in
      let long : length taken ≡ length others = sym (length-map taken (λ (t : AnsweredInput). t.input)) ∙ ap length inputs ∙ length-map others (λ (t : AnsweredInput). t.input) in
      ⊎_elim
      (λ (below : k < length taken).
      let one = element_at taken k below in
      let other = element_at others k (omega arith) in
      let input : one.0.input ≡ other.0.input =
      same_Some one.0.input other.0.input
      (sym (slice_get-map (λ (t : AnsweredInput). t.input) taken k ∙ ap (option_map (λ (t : AnsweredInput). t.input)) one.1)
      ∙ ap (λ xs. slice_get xs k) inputs
      ∙ slice_get-map (λ (t : AnsweredInput). t.input) others k ∙ ap (option_map (λ (t : AnsweredInput). t.input)) other.1) in
      let answer = one-answer (take k taken) (answered-before taken answered k) other.0.input one.0.answer other.0.answer
      (subst (λ i. IsAnswer setup (take k taken) i one.0.answer) input (answered k one.0 one.1))
      (subst (λ t. IsAnswer setup t other.0.input other.0.answer) (sym before) (also k other.0 other.1)) in
      let same : one.0 ≡ other.0 =
      ap (λ i. let t : AnsweredInput = record { input = i; answer = one.0.answer } in t) input
      ∙ ap (λ a. let t : AnsweredInput = record { input = other.0.input; answer = a } in t) answer in
      take-one taken k one.0 one.1 ∙ ap (λ t. t ++ one.0 ∷ []) before ∙ ap (λ t. take k others ++ t ∷ []) same ∙ sym (take-one others k other.0 other.1))
      (λ (past : length taken ≤ k). take-none taken k past ∙ before ∙ sym (take-none others k (omega arith)))
      (cases_lt k (length taken))

  pub one-list-of-answers : (taken others : List AnsweredInput) → AreAnswered setup taken → AreAnswered setup others → inputs_of taken ≡ inputs_of others
      → taken ≡ others
  one-list-of-answers taken others answered also inputs =
      let long : length taken ≡ length others = sym (length-map taken (λ (t : AnsweredInput). t.input)) ∙ ap length inputs ∙ length-map others (λ (t : AnsweredInput). t.input) in
      sym (take_all (length taken) taken (omega arith)) ∙ same-before taken others answered also inputs (length taken) ∙ take_all (length taken) others (omega arith)
