-- Each input has an answer.
use Rattle.std.proofs.Common.{◌≡◌, ◌≢◌, ℕ, zero, suc, ◌<◌, ◌≤◌, ◌⊎◌, inl, inr, ⊎_elim, Bool, true, false, Option, Some, None, Result, Ok, Err, All, List, [], ◌∷◌, ◌++◌, length, take, drop, slice_get, sym, ap, subst, ◌∙◌, refl, arith, append_assoc}
use Rattle.std.proofs.lemmas.Bool.{cases_eq, cases_lt, false≢true}
use Rattle.std.proofs.lemmas.Option.{slice_get_within, slice_get-get_or, get_or_from_slice_get, same_Some}
use Rattle.std.proofs.lemmas.List.{append-nil, length-take-le}
use Rattle.std.proofs.lemmas.List.Elements.{All-head, All-tail, All-take}
use Rattle.docsis_wire.specs.declared.header.SegmentHeader.{SegmentHeader}
use Rattle.docsis_wire.specs.declared.segment.Segment.{Segment}
use Rattle.docsis_wire.specs.SegmentBytes.{segment_bytes}
use Rattle.docsis_wire.specs.Ready.{IsReady}
use Rattle.docsis_wire.proofs.HeaderWords.{header_of-bytes}
use Rattle.docsis_wire.proofs.SegmentReads.{spelled_as}
use Rattle.docsis_wire.proofs.StreamPlaces.{element_at}
use Rattle.lane.specs.declared.sids.SidRow.{SidRow}
use Rattle.lane.specs.declared.input.Input.{Input}
use Rattle.lane.specs.declared.input.Input.TheVariants.{Grant, Burst}
use Rattle.lane.specs.declared.refusal.Refusal.{Refusal}
use Rattle.lane.specs.declared.refusal.Refusal.TheVariants.{GrantRange, GrantKnown, UnknownSid, TooManyGrants, NoGrant, TooLong, BadCheck, TooShort, PointerPast}
use Rattle.lane.specs.declared.admitted.Admitted.{Admitted}
use Rattle.lane.specs.declared.admitted.Request.{Request}
use Rattle.lane.specs.declared.grant.SidFlow.{SidFlow}
use Rattle.lane.specs.declared.grant.OutstandingGrant.{OutstandingGrant}
use Rattle.lane.specs.Limits.{grant_max, outstanding_max}
use Rattle.lane.specs.Rows.{CanBeOpenedWithin}
use Rattle.lane.specs.Admission.{IsRequestIn, IsMadeOf}
use Rattle.lane.specs.Inputs.{LaneSetup, Answer, AnsweredInput, IsRowOf, IsUnknown, IsFlowOf, IsKnown, IsGrant, IsAnswerToGrant, IsAnswer, AreAnswered, HasBytes, inputs_of, outstanding_count}
use Rattle.lane.proofs.LaneTaking.{granted, answered-more, answers-burst}
use Rattle.lane.proofs.OutstandingGrants.{all-counted}

-- an option has a value, or none
there-or-not : {X : Type 0} (o : Option X) → ((x : X) × (o ≡ Some x)) ⊎ (o ≡ None)
there-or-not None = inr refl
there-or-not (Some x) = inl (x, refl)

-- a number below n has a property, or none has
some-below : (P : ℕ → Type 0) → ((k : ℕ) → P k ⊎ ¬ (P k)) → (n : ℕ) → ((k : ℕ) × P k) ⊎ ((k : ℕ) → k < n → ¬ (P k))
some-below P decide zero = inr (λ k below. absurd (omega arith))
some-below P decide (suc n) =
    ⊎_elim
    (λ found. inl found)
    (λ none.
    ⊎_elim
    (λ here. inl (n, here))
    (λ not_here.
    inr (λ k below.
    ⊎_elim
    (λ (before : k < n). none k before)
    (λ (from : n ≤ k). let same : n ≡ k = omega arith in subst (λ j. ¬ (P j)) same not_here)
    (cases_lt k n)))
    (decide n))
    (some-below P decide n)

-- a number stands at a place, or another does or none
at-or-not : (numbers : List ℕ) (number k : ℕ) → (slice_get numbers k ≡ Some number) ⊎ (slice_get numbers k ≢ Some number)
at-or-not numbers number k =
    ⊎_elim
    (λ there.
    ⊎_elim
    (λ same. inl (there.1 ∙ ap Some same))
    (λ other. inr (λ is. other (same_Some there.0 number (sym there.1 ∙ is))))
    (cases_eq there.0 number))
    (λ none. inr (λ is. let both = sym none ∙ is in absurd (cc)))
    (there-or-not (slice_get numbers k))

-- a segment is ready or not
ready-or-not : (segment : Segment) → IsReady segment ⊎ ¬ (IsReady segment)
ready-or-not segment = of-pointer segment.head.pfi refl
  where
    of-pointer : (pfi : Bool) → segment.head.pfi ≡ pfi → IsReady segment ⊎ ¬ (IsReady segment)
    of-pointer false is = inl (λ set. absurd (false≢true (sym is ∙ set)))
    of-pointer true is =
        ⊎_elim
        (λ (within : segment.head.pointer < length segment.payload). inl (λ _. within))
        (λ (past : length segment.payload ≤ segment.head.pointer). inr (λ ready. let within = ready is in absurd (omega arith)))
        (cases_lt segment.head.pointer (length segment.payload))

-- bytes that are long enough spell a segment
spells : (bytes : List ℕ) → 8 ≤ length bytes → All (λ byte. byte < 256) bytes → (segment : Segment) × (segment_bytes segment ≡ bytes)
spells bytes long small =
    let head = header_of-bytes (take 8 bytes) (length-take-le 8 bytes long) (All-take (λ byte. byte < 256) 8 bytes small) in
    (record { head = head.0; payload = drop 8 bytes }, spelled_as bytes (drop 8 bytes) head.0 head.1 refl)

module _ (channel : ℕ) (flow : SidFlow) (head : SegmentHeader) where
  -- a header has a request, or none
  request-in : (request : Option Request) × IsRequestIn channel flow head request
  request-in =
      ⊎_elim
      (λ (none : head.request ≡ 0). (None, inl none))
      (λ (some : head.request ≢ 0).
      ⊎_elim
      (λ (within : head.cluster < flow.clusters). (
        Some (record { channel = channel; flow = flow.index; cluster = head.cluster; units = head.request; sequence = head.sequence }),
        (omega arith, within, refl),
      ))
      (λ (past : flow.clusters ≤ head.cluster). (None, inr past))
      (cases_lt head.cluster flow.clusters))
      (cases_eq head.request 0)

module _ (channel : ℕ) (grant : OutstandingGrant) (bytes : List ℕ) (small : All (λ byte. byte < 256) bytes) where
  abbrev Made : Bool → Type 0
  Made hcs_ok = (answer : Result Admitted Refusal) × IsMadeOf channel grant hcs_ok bytes answer

  -- what is made of a burst that fits its grant and whose check is right
  of-segment : length bytes ≤ grant.bytes → (segment : Segment) → segment_bytes segment ≡ bytes → Made true
  of-segment fits segment spelled =
      ⊎_elim
      (λ (ready : IsReady segment).
      let request = request-in channel grant.flow segment.head in (
        Ok (record { flow = grant.flow.index; segment = segment; request = request.0; ready = ready }),
        (fits, refl, record { flow_is = refl; spelled = spelled; request = request.1 }),
      ))
      (λ (past : ¬ (IsReady segment)). (Err PointerPast, (fits, refl, record { segment = segment; spelled = spelled; past = past })))
      (ready-or-not segment)

  of-fitting : (hcs_ok : Bool) → length bytes ≤ grant.bytes → Made hcs_ok
  of-fitting false fits = (Err BadCheck, (fits, false≢true))
  of-fitting true fits =
      ⊎_elim
      (λ (short : length bytes < 8). (Err TooShort, (fits, refl, short)))
      (λ (long : 8 ≤ length bytes). let spelled = spells bytes long small in of-segment fits spelled.0 spelled.1)
      (cases_lt (length bytes) 8)

  -- and of any burst
  made : (hcs_ok : Bool) → Made hcs_ok
  made hcs_ok =
      ⊎_elim
      (λ (long : grant.bytes < length bytes). (Err TooLong, long))
      (λ (fits : length bytes ≤ grant.bytes). of-fitting hcs_ok fits)
      (cases_lt grant.bytes (length bytes))

module _ (channels : ℕ) (setup : LaneSetup) (can : CanBeOpenedWithin channels setup.rows (length setup.records)) where
  -- row k has an identifier, or hasn't
  row-or-not : (sid k : ℕ) → ((row : SidRow) × IsRowOf setup sid k row) ⊎ ¬ ((row : SidRow) × IsRowOf setup sid k row)
  row-or-not sid k =
      ⊎_elim
      (λ there.
      let same = λ (other : SidRow) (is : IsRowOf setup sid k other). same_Some there.0 other (sym there.1 ∙ is.stands) in
      ⊎_elim
      (λ (channel : there.0.channel ≡ setup.channel).
      ⊎_elim
      (λ (identifier : there.0.sid ≡ sid). inl (there.0, record { stands = there.1; channel = channel; identifier = identifier }))
      (λ other. inr (λ is. other (ap (λ (r : SidRow). r.sid) (same is.0 is.1) ∙ is.1.identifier)))
      (cases_eq there.0.sid sid))
      (λ other. inr (λ is. other (ap (λ (r : SidRow). r.channel) (same is.0 is.1) ∙ is.1.channel)))
      (cases_eq there.0.channel setup.channel))
      (λ none. inr (λ is. let both = sym none ∙ is.1.stands in absurd (cc)))
      (there-or-not (slice_get setup.rows k))

  -- an identifier has a row of the channel, or is unknown
  row-or-unknown : (sid : ℕ) → ((k : ℕ) × (row : SidRow) × IsRowOf setup sid k row) ⊎ IsUnknown setup sid
  row-or-unknown sid =
      ⊎_elim
      (λ found. inl (found.0, found.1.0, found.1.1))
      (λ none. inr (λ k row is. none k (slice_get_within setup.rows k row is.stands) (row, is)))
      (some-below (λ k. (row : SidRow) × IsRowOf setup sid k row) (row-or-not sid) (length setup.rows))

  -- the flow of a row has a record
  flow-of : (sid k : ℕ) (row : SidRow) → IsRowOf setup sid k row → (flow : SidFlow) × IsFlowOf setup sid flow
  flow-of sid k row is =
      ⊎_elim
      (λ (below : row.flow < length setup.records).
      let there = element_at setup.records row.flow below in (
        record { index = row.flow; clusters = there.0.clusters },
        record { k = k; row = row; of_row = is; index = refl; flow_record = there.0; stands = there.1; clusters = refl },
      ))
      (λ (past : length setup.records ≤ row.flow). absurd (can.known k (row, is.stands, past)))
      (cases_lt row.flow (length setup.records))

  module _ (taken : List AnsweredInput) (answered : AreAnswered setup taken) where
    -- a number is known or not
    known-or-not : (number : ℕ) → IsKnown taken number ⊎ ¬ (IsKnown taken number)
    known-or-not number =
        let counted = all-counted setup taken answered in
        let known = counted.are.known number in
        ⊎_elim
        (λ found.
        inl (known.0 (
          found.0,
          slice_get_within counted.numbers found.0 number found.1,
          get_or_from_slice_get counted.numbers found.0 number number found.1,
        )))
        (λ none.
        inr (λ is.
        let contains = known.1 is in
        none contains.0 contains.1 (slice_get-get_or counted.numbers contains.0 number contains.1 ∙ ap Some contains.2)))
        (some-below (λ k. slice_get counted.numbers k ≡ Some number) (at-or-not counted.numbers number) (length counted.numbers))

    -- a known number has a grant
    grant-of : (number : ℕ) → IsKnown taken number → (grant : OutstandingGrant) × IsGrant setup taken number grant
    grant-of number known =
        let outstanding = known.2 in
        let accepted : IsAnswerToGrant setup (take outstanding.at taken) number known.0 known.1 (Ok None) =
        answered outstanding.at (granted number known.0 known.1) outstanding.stands in
        ⊎_elim
        (λ row.
        let flow = flow-of known.0 row.0 row.1 row.2 in
        (record { flow = flow.0; bytes = known.1 }, record { sid = known.0; outstanding = outstanding; flow = flow.1 }))
        (λ unknown. absurd (accepted.2 unknown))
        (row-or-unknown known.0)

    abbrev Answered : Input → Type 0
    Answered input = (answer : Answer) × IsAnswer setup taken input answer

    grant-in-range : (number sid bytes : ℕ) → 8 ≤ bytes → bytes ≤ grant_max → Answered (Grant number sid bytes)
    grant-in-range number sid bytes long fits =
        ⊎_elim
        (λ known. (Err GrantKnown, ((long, fits), known)))
        (λ unknown.
        ⊎_elim
        (λ row.
        ⊎_elim
        (λ (few : outstanding_count taken < outstanding_max). (Ok None, ((long, fits), unknown, λ none. none row.0 row.1 row.2, few)))
        (λ (many : outstanding_max ≤ outstanding_count taken). (Err TooManyGrants, ((long, fits), unknown, λ none. none row.0 row.1 row.2, many)))
        (cases_lt (outstanding_count taken) outstanding_max))
        (λ none. (Err UnknownSid, ((long, fits), unknown, none)))
        (row-or-unknown sid))
        (known-or-not number)

    -- each input has an answer
    pub answer-to : (input : Input) → HasBytes input → Answered input
    answer-to (Grant number sid bytes) has =
        ⊎_elim
        (λ (short : bytes < 8). (Err GrantRange, λ size. let long = size.0 in absurd (omega arith)))
        (λ (long : 8 ≤ bytes).
        ⊎_elim
        (λ (fits : bytes < 65536). grant-in-range number sid bytes long (omega arith))
        (λ (past : 65536 ≤ bytes). (Err GrantRange, λ size. let fits = size.1 in absurd (omega arith)))
        (cases_lt bytes 65536))
        (cases_lt bytes 8)
    answer-to (Burst number hcs_ok bytes) has =
        ⊎_elim
        (λ known.
        let grant = grant-of number known in
        to-made grant.0 grant.1 (made setup.channel grant.0 bytes has hcs_ok))
        (λ unknown. (Err NoGrant, unknown))
        (known-or-not number)
      where
        to-made : (grant : OutstandingGrant) → IsGrant setup taken number grant → Made setup.channel grant bytes has hcs_ok
            → Answered (Burst number hcs_ok bytes)
        to-made grant is (Ok admitted, made_of) = (Ok (Some admitted), (grant, is, made_of))
        to-made grant is (Err refusal, made_of) = (Err refusal, answers-burst setup taken number hcs_ok bytes grant refusal is made_of)

  -- and so has each list of inputs
  answers-after : (inputs : List Input) (taken : List AnsweredInput) → AreAnswered setup taken → All HasBytes inputs
      → (rest : List AnsweredInput) × AreAnswered setup (taken ++ rest) × (inputs_of rest ≡ inputs)
  answers-after [] taken answered has = ([], subst (AreAnswered setup) (sym (append-nil taken)) answered, refl)
  answers-after (input ∷ inputs) taken answered has =
      let answer = answer-to taken answered input (All-head HasBytes input inputs has) in
      let one : AnsweredInput = record { input = input; answer = answer.0 } in
      let rest = answers-after inputs (taken ++ one ∷ []) (answered-more setup taken one answered answer.1) (All-tail HasBytes input inputs has) in
      (one ∷ rest.0, subst (AreAnswered setup) (append_assoc taken (one ∷ []) rest.0) rest.1, ap (λ t. input ∷ t) rest.2)

  pub answers-to-all : (inputs : List Input) → All HasBytes inputs
      → (taken : List AnsweredInput) × AreAnswered setup taken × (inputs_of taken ≡ inputs)
  answers-to-all inputs has = answers-after inputs [] (λ k one stands. absurd (cc)) has
