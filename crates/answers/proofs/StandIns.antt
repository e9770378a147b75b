-- An input that stands in for another is answered as that one was, but for the payload.
use Rattle.std.proofs.Common.{◌≡◌, ℕ, Bool, true, Option, Some, None, Ok, Err, List, [], ◌∷◌, ◌++◌, length, take, drop, refl, ap, sym, subst, ◌∙◌, arith, append-nil, append_assoc, take_at, drop_at, length-drop}
use Rattle.std.specs.List.{AllZip}
use Rattle.docsis_wire.specs.declared.segment.Segment.{Segment}
use Rattle.docsis_wire.specs.SegmentBytes.{segment_bytes, PointsPast}
use Rattle.docsis_wire.specs.Header.{header_bytes}
use Rattle.docsis_wire.proofs.SegmentReads.{spelled_as}
use Rattle.docsis_wire.proofs.StreamPlaces.{slice_get-at}
use Rattle.lane.specs.declared.admitted.Admitted.{Admitted}
use Rattle.lane.specs.declared.input.Input.{Input}
use Rattle.lane.specs.declared.input.Input.TheVariants.{Grant, Burst}
use Rattle.lane.specs.declared.refusal.Refusal.{Refusal}
use Rattle.lane.specs.declared.refusal.Refusal.TheVariants.{GrantRange, GrantKnown, UnknownSid, TooManyGrants, NoGrant, TooLong, BadCheck, TooShort, PointerPast}
use Rattle.lane.specs.declared.grant.OutstandingGrant.{OutstandingGrant}
use Rattle.lane.specs.Admission.{IsMadeOf}
use Rattle.lane.specs.Inputs.{LaneSetup, Answer, AnsweredInput, spends_its_grant, is_accepted, IsOutstanding, IsKnown, outstanding_count, IsGrant, IsAnswerToGrant, IsAnswerToBurst, IsAnswer, AreAnswered, inputs_of}
use Rattle.lane.specs.Report.{admitted_by}
use Rattle.lane.proofs.LaneTaking.{granted, answered-more}
use Rattle.receiver.specs.Elsewhere.{StandsIn}
use Rattle.receiver.proofs.Pairs.{zip_at, zip_flip, zip_weaker, zip_push, zip_count}
use Rattle.answers.specs.Beside.{CountsAs, AreAdmittedFor, AnswersInPlaceOf}

counts_back : (one other : AnsweredInput) → CountsAs one other → CountsAs other one
counts_back one other c = record { grants = c.granted_by; granted_by = c.grants; number = sym c.number; spends = sym c.spends; accepts = sym c.accepts }

-- what is outstanding after inputs is so after those that count as they do
outstanding-as : (taken others : List AnsweredInput) (number sid bytes : ℕ) → AllZip CountsAs taken others → IsOutstanding taken number sid bytes → IsOutstanding others number sid bytes
outstanding-as taken others number sid bytes all is =
    let found = zip_at CountsAs taken others is.at (granted number sid bytes) all is.stands in
    let back = zip_flip CountsAs CountsAs counts_back taken others all in
    record {
      at = is.at;
      stands = found.1 ∙ ap Some (found.2.grants number sid bytes refl);
      unspent = λ j other after there of_number spent.
          let one = zip_at CountsAs others taken j other back there in
          is.unspent j one.0 after one.1 (one.2.number ∙ of_number) (one.2.spends ∙ spent);
    }

known-as : (taken others : List AnsweredInput) (number : ℕ) → AllZip CountsAs taken others → IsKnown taken number → IsKnown others number
known-as taken others number all known = (known.0, known.1, outstanding-as taken others number known.0 known.1 all known.2)

-- for inputs that were taken, and others that count as they do
module _ (setup : LaneSetup) (taken others : List AnsweredInput) (all : AllZip CountsAs taken others) where
  unknown-as : (number : ℕ) → ¬ (IsKnown taken number) → ¬ (IsKnown others number)
  unknown-as number none known = none (known-as others taken number (zip_flip CountsAs CountsAs counts_back taken others all) known)

  count-as : outstanding_count others ≡ outstanding_count taken
  count-as =
      let accepted = zip_count is_accepted taken others (zip_weaker CountsAs (λ one other. is_accepted other ≡ is_accepted one) (λ one other c. c.accepts) taken others all) in
      let spent = zip_count spends_its_grant taken others (zip_weaker CountsAs (λ one other. spends_its_grant other ≡ spends_its_grant one) (λ one other c. c.spends) taken others all) in
      omega arith

  grant-as : (number : ℕ) (grant : OutstandingGrant) → IsGrant setup taken number grant → IsGrant setup others number grant
  grant-as number grant is = record { sid = is.sid; outstanding = outstanding-as taken others number is.sid grant.bytes all is.outstanding; flow = is.flow }

  -- a grant is answered alike
  to_grant-as : (number sid bytes : ℕ) (answer : Answer) → IsAnswerToGrant setup taken number sid bytes answer → IsAnswerToGrant setup others number sid bytes answer
  to_grant-as number sid bytes (Err GrantRange) is = is
  to_grant-as number sid bytes (Err GrantKnown) is = (is.0, known-as taken others number all is.1)
  to_grant-as number sid bytes (Err UnknownSid) is = (is.0, unknown-as number is.1, is.2)
  to_grant-as number sid bytes (Err TooManyGrants) is = let count = count-as in let many = is.3 in (is.0, unknown-as number is.1, is.2, omega arith)
  to_grant-as number sid bytes (Ok None) is = let count = count-as in let few = is.3 in (is.0, unknown-as number is.1, is.2, omega arith)
  to_grant-as number sid bytes answer is = absurd is

-- an answer that fits, with what it says
abbrev pub Fitting : (ℕ → Bool) → LaneSetup → List AnsweredInput → AnsweredInput → Input → Type 0
Fitting selected setup others one other =
    (answer : Answer) × IsAnswer setup others other answer × AnswersInPlaceOf selected one (record { input = other; answer = answer })

admitted_same : (selected : ℕ → Bool) (one : Option Admitted) → AreAdmittedFor selected one one
admitted_same selected None = tt
admitted_same selected (Some one) = record { flow = refl; request = refl; segment = λ is. refl }

answers_same : (selected : ℕ → Bool) (one : AnsweredInput) → AnswersInPlaceOf selected one one
answers_same selected one = record {
  counts = record { grants = λ number sid bytes is. is; granted_by = λ number sid bytes is. is; number = refl; spends = refl; accepts = refl };
  admitted = admitted_same selected (admitted_by one.answer);
  refused = refl;
}

-- bursts that look alike
module _ (selected : ℕ → Bool) (setup : LaneSetup) (taken others : List AnsweredInput) (all : AllZip CountsAs taken others)
    (number : ℕ) (hcs_ok : Bool) (bytes more : List ℕ) (long : length more ≡ length bytes) (head : take 8 more ≡ take 8 bytes) where
  -- the answers count alike
  burst-counts : (answer other : Answer) → spends_its_grant (record { input = Burst number hcs_ok more; answer = other }) ≡ spends_its_grant (record { input = Burst number hcs_ok bytes; answer = answer })
      → CountsAs (record { input = Burst number hcs_ok bytes; answer = answer }) (record { input = Burst number hcs_ok more; answer = other })
  burst-counts answer other spends = record {
    grants = λ n sid size is. let e = ap (λ (one : AnsweredInput). one.input) is in absurd cc;
    granted_by = λ n sid size is. let e = ap (λ (one : AnsweredInput). one.input) is in absurd cc;
    number = refl;
    spends = spends;
    accepts = refl;
  }

  -- a refusal is the same
  refused-for : (refusal : Refusal) → IsAnswerToBurst setup others number hcs_ok more (Err refusal)
      → Fitting selected setup others (record { input = Burst number hcs_ok bytes; answer = Err refusal }) (Burst number hcs_ok more)
  refused-for refusal is = (Err refusal, is, record { counts = burst-counts (Err refusal) (Err refusal) refl; admitted = tt; refused = refl })

  -- the header and the payload
  module _ (segment : Segment) (spelled : segment_bytes segment ≡ bytes) where
    header-is : header_bytes segment.head ≡ take 8 more
    header-is = sym (take_at (header_bytes segment.head) segment.payload 8 refl) ∙ ap (take 8) spelled ∙ sym head

    payload-long : length (drop 8 more) ≡ length segment.payload
    payload-long =
        let payload = sym (drop_at (header_bytes segment.head) segment.payload 8 refl) ∙ ap (drop 8) spelled in
        let same = ap length payload in
        omega (arith, length-drop 8 more, length-drop 8 bytes)

    spelled-for : header_bytes segment.head ++ drop 8 more ≡ more
    spelled-for = spelled_as more (drop 8 more) segment.head header-is refl

    payload-same : more ≡ bytes → drop 8 more ≡ segment.payload
    payload-same same = ap (drop 8) same ∙ sym (ap (drop 8) spelled) ∙ drop_at (header_bytes segment.head) segment.payload 8 refl

  past-for : PointsPast bytes → PointsPast more
  past-for past = record {
    segment = record { head = past.segment.head; payload = drop 8 more };
    spelled = spelled-for past.segment past.spelled;
    past = λ ready. past.past (λ pfi. let within = ready pfi in let size = payload-long past.segment past.spelled in omega arith);
  }

  admitted-for : (grant : OutstandingGrant) (admitted : Admitted) → IsGrant setup taken number grant → IsMadeOf setup.channel grant hcs_ok bytes (Ok admitted)
      → (selected admitted.flow ≡ true → more ≡ bytes)
      → Fitting selected setup others (record { input = Burst number hcs_ok bytes; answer = Ok (Some admitted) }) (Burst number hcs_ok more)
  admitted-for grant admitted is made same =
      let segment = admitted.segment in
      let spelled = made.2.spelled in
      let fits = made.0 in
      let size = payload-long segment spelled in
      let other : Admitted = record {
        flow = admitted.flow;
        segment = record { head = segment.head; payload = drop 8 more };
        request = admitted.request;
        ready = λ pfi. let within = admitted.ready pfi in omega arith;
      } in (
        Ok (Some other),
        (
          grant,
          grant-as setup taken others all number grant is,
          (omega arith, made.1, record { flow_is = made.2.flow_is; spelled = spelled-for segment spelled; request = made.2.request }),
        ),
        record {
          counts = burst-counts (Ok (Some admitted)) (Ok (Some other)) refl;
          admitted = record {
            flow = refl;
            request = refl;
            segment = λ chosen. ap (λ (payload : List ℕ). record { head = segment.head; payload = payload }) (payload-same segment spelled (same chosen));
          };
          refused = refl;
        },
      )

  burst-for : (answer : Answer) → IsAnswer setup taken (Burst number hcs_ok bytes) answer
      → ((admitted : Admitted) → admitted_by answer ≡ Some admitted → selected admitted.flow ≡ true → more ≡ bytes)
      → Fitting selected setup others (record { input = Burst number hcs_ok bytes; answer = answer }) (Burst number hcs_ok more)
  burst-for (Ok None) is same = absurd is
  burst-for (Ok (Some admitted)) is same = admitted-for is.0 admitted is.1 is.2 (same admitted refl)
  burst-for (Err NoGrant) is same = refused-for NoGrant (unknown-as setup taken others all number is)
  burst-for (Err TooLong) is same = let over = is.2 in refused-for TooLong (is.0, grant-as setup taken others all number is.0 is.1, omega arith)
  burst-for (Err BadCheck) is same = let fits = is.2.0 in refused-for BadCheck (is.0, grant-as setup taken others all number is.0 is.1, (omega arith, is.2.1))
  burst-for (Err TooShort) is same =
      let fits = is.2.0 in let short = is.2.2 in refused-for TooShort (is.0, grant-as setup taken others all number is.0 is.1, (omega arith, is.2.1, omega arith))
  burst-for (Err PointerPast) is same =
      let fits = is.2.0 in refused-for PointerPast (is.0, grant-as setup taken others all number is.0 is.1, (omega arith, is.2.1, past-for is.2.2))
  burst-for (Err refusal) is same = absurd is.2

-- an input that stands in has an answer
pub some_answer : (selected : ℕ → Bool) (setup : LaneSetup) (taken others : List AnsweredInput) → AllZip CountsAs taken others
    → (input : Input) (answer : Answer) (other : Input) → IsAnswer setup taken input answer → StandsIn selected (record { input = input; answer = answer }) other
    → Fitting selected setup others (record { input = input; answer = answer }) other
some_answer selected setup taken others all (Grant number sid bytes) answer other is stands =
    let one : AnsweredInput = record { input = Grant number sid bytes; answer = answer } in
    let P : Input → Type 0 = Fitting selected setup others one in
    subst P (sym stands.looks_like) (answer, to_grant-as setup taken others all number sid bytes answer is, answers_same selected one)
some_answer selected setup taken others all (Burst number hcs_ok bytes) answer (Grant n sid size) is stands = absurd stands.looks_like
some_answer selected setup taken others all (Burst number hcs_ok bytes) answer (Burst n also more) is stands =
    let one : AnsweredInput = record { input = Burst number hcs_ok bytes; answer = answer } in
    let found = burst-for selected setup taken others all number hcs_ok bytes more stands.looks_like.2 stands.looks_like.3 answer is
    (λ admitted gives chosen. let e = stands.same admitted gives chosen in cc) in
    let P : ℕ → Bool → Type 0 = λ m b. Fitting selected setup others one (Burst m b more) in
    subst (λ (m : ℕ). P m also) (sym stands.looks_like.0) (subst (P number) (sym stands.looks_like.1) found)

-- one answered input more at the end of some, or in front of others
to_front : (setup : LaneSetup) (front rest : List AnsweredInput) (one : AnsweredInput) → AreAnswered setup (front ++ one ∷ rest) → AreAnswered setup ((front ++ one ∷ []) ++ rest)
to_front setup front rest one answers = subst (AreAnswered setup) (sym (append_assoc front (one ∷ []) rest)) answers

to_rest : (setup : LaneSetup) (front rest : List AnsweredInput) (one : AnsweredInput) → AreAnswered setup ((front ++ one ∷ []) ++ rest) → AreAnswered setup (front ++ one ∷ rest)
to_rest setup front rest one answers = subst (AreAnswered setup) (append_assoc front (one ∷ []) rest) answers

-- so inputs that stand in have answers, one after another
answers_after : (selected : ℕ → Bool) (setup : LaneSetup) (front others rest : List AnsweredInput) (inputs : List Input) → AreAnswered setup (front ++ rest) → AreAnswered setup others
    → AllZip CountsAs front others → AllZip (StandsIn selected) rest inputs
    → (more : List AnsweredInput) × AreAnswered setup (others ++ more) × (inputs_of more ≡ inputs) × AllZip (AnswersInPlaceOf selected) rest more
answers_after selected setup front others [] [] answers also counts stands = ([], subst (AreAnswered setup) (sym (append-nil others)) also, refl, tt)
answers_after selected setup front others [] (input ∷ inputs) answers also counts stands = absurd stands
answers_after selected setup front others (one ∷ rest) [] answers also counts stands = absurd stands
answers_after selected setup front others (one ∷ rest) (input ∷ inputs) answers also counts stands =
    let here : IsAnswer setup front one.input one.answer =
    subst (λ (t : List AnsweredInput). IsAnswer setup t one.input one.answer) (take_at front (one ∷ rest) (length front) refl) (answers (length front) one (slice_get-at front one rest)) in
    let found = some_answer selected setup front others counts one.input one.answer input here stands.0 in
    let other : AnsweredInput = record { input = input; answer = found.0 } in
    let next = answers_after selected setup (front ++ one ∷ []) (others ++ other ∷ []) rest inputs
    (to_front setup front rest one answers)
    (answered-more setup others other also found.1)
    (zip_push CountsAs front others one other counts found.2.counts) stands.1 in (
      other ∷ next.0,
      to_rest setup others next.0 other next.1,
      ap (λ t. input ∷ t) next.2,
      (found.2, next.3),
    )

pub some_answers : (selected : ℕ → Bool) (setup : LaneSetup) (answered : List AnsweredInput) (inputs : List Input) → AreAnswered setup answered
    → AllZip (StandsIn selected) answered inputs
    → (more : List AnsweredInput) × AreAnswered setup more × (inputs_of more ≡ inputs) × AllZip (AnswersInPlaceOf selected) answered more
some_answers selected setup answered inputs answers stands =
    answers_after selected setup [] [] answered inputs answers (λ k one there. absurd cc) tt stands
