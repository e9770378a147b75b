-- What was compared beside what was joined.
use Rattle.std.proofs.Common.{◌≡◌, ℕ, ◌+◌, ◌-◌, ◌^◌, min, Ok, Err, Option, Some, None, List, [], ◌∷◌, ◌++◌, length, refl, sym, ap, subst, ◌∙◌, append-nil, append_assoc}
use Rattle.std.specs.Prelude.{IfSome, OnOk, Result}
use Rattle.std.specs.Io.KnownBytes.{Appends, Consumes, IsAtEnd}
use Rattle.std.proofs.KnownBytes.{Appends-trans, Consumes-nil, Consumes-trans, Consumes-all}
use Rattle.selected_receiver.specs.Taking.{ClosesOfWhole}
use Rattle.receiver.specs.declared.closing.Closed.{Closed}
use Rattle.capture.specs.PcapngBlocks.{CaptureParts}
use Rattle.capture.specs.Captures.{IsWholeCapture, TakesCapture}
use Rattle.capture_map.specs.declared.map.CaptureMap.{CaptureMap}
use Rattle.captured_flows.specs.declared.captured_burst.CapturedBurst.{CapturedBurst}
use Rattle.captured_flows.specs.declared.burst_taken.BurstTaken.{BurstTaken}
use Rattle.captured_flows.specs.Capturing.{SpellsNext, EndsWaitingOfAll, views_in}
use Rattle.captured_flows.specs.Taking.{TakesBy}
use Rattle.capture_summary.specs.declared.passed.PassedReason.{PassedReason}
use Rattle.engines.specs.declared.device.Device.{Device}
use Rattle.engines.specs.Device.{inner_of}
use Rattle.engines.specs.Engine.{WritesText}
use Rattle.flow_selection.specs.declared.selection.Selection.{Selection}
use Rattle.frame_comparison.specs.Compared.{Comparison, nothing_came}
use Rattle.frame_comparison.specs.Aligned.{Arrival, with_all}
use Rattle.frame_reasons.specs.declared.reasons.Reasons.{Reasons}
use Rattle.frame_reasons.specs.Told.{fate_of_taken, told_if, told_in_steps}
use Rattle.timed_frames.specs.declared.timed_frames.TimedFrames.{TimedFrames}
use Rattle.timed_frames.specs.declared.timed_step.TimedStep.{TimedStep}
use Rattle.timed_frames.specs.Seen.{HasGiven, HasSeen}
use Rattle.frame_engine.specs.declared.settings.CaptureSettings.{CaptureSettings}
use Rattle.frame_engine.specs.declared.comparing.Comparing.{Comparing}
use Rattle.frame_engine.specs.declared.frame_file.FrameFile.{FrameFile}
use Rattle.frame_engine.specs.declared.frame_reading.FrameReading.{FrameReading}
use Rattle.frame_engine.specs.declared.joining.Joining.{Joining}
use Rattle.frame_engine.specs.Settings.{inner_accepts}
use Rattle.frame_engine.specs.Records.{IsBurstOf, passed_over, one_burst}
use Rattle.frame_engine.specs.Compared.{arrivals_of_steps, Brings, one_record, more_steps}
use Rattle.frame_engine.specs.Explaining.{Tells, Explains, ExplainsAfter}
use Rattle.frame_engine.specs.Reasoned.{answers_in, reasons_then, ComesTimed, ComesTimedAtEnd, waiting_ended, receiver_closed, behind_record, behind_burst, behind_last}
use Rattle.frame_engine.specs.Comparing.{IsComparing, IsWholeIn, Takes, TakesBrought, Compares, IsComparedFile}
use Rattle.frame_engine.specs.Inside.Joins.{PutsCame, HasTaken, HasReadBytes, WritesAll}
use Rattle.frame_engine.specs.Inside.Beside.{HasTakenBeside, HasEndedBeside, HasJoinedBeside, HasReadBeside, AreAllBeside, TakesBurstBeside, JoinsSomeBeside, JoinsPieceBeside, JoinsWrittenBeside}
use Rattle.frame_engine.proofs.Arrivals.{all-append}
use Rattle.frame_engine.proofs.Filed.{filed-written}
use Rattle.frame_engine.proofs.Reasoned.{known-told, known-explained, known-steps, whole-before}
use Rattle.frame_engine.proofs.Taken.{taken-more, taken-came, taken-answers, taken-end, end-came, end-answers, ended-closed, closed-came, closed-answers, counted-more}
use Rattle.frame_engine.proofs.Ended.{wrote-both}

-- what follows from three clauses of a call that succeeded
pub three-ok : {T E P Q S U : Type 0} (r : Result T E) → (P → Q → S → U) → OnOk r P → OnOk r Q → OnOk r S → OnOk r U
three-ok (Ok x) next p q s = next p q s
three-ok (Err e) next p q s = tt

module _ (settings : CaptureSettings) (capture_map : CaptureMap) where
  -- more came to be compared
  more-compared : (arrivals more : List Arrival) (old new : Comparing) → IsComparing (with_all arrivals (nothing_came (length capture_map.flows.items))) old → Takes more old new
      → IsComparing (with_all (arrivals ++ more) (nothing_came (length capture_map.flows.items))) new
  more-compared arrivals more old new is takes =
      let none = nothing_came (length capture_map.flows.items) in
      subst (λ (c : Comparison). IsComparing c new) (sym (all-append arrivals more none)) (takes (with_all arrivals none) is)

  -- it was whole before, where it still is
  was_whole : (arrivals more : List Arrival) (old new : Comparing) → IsComparing (with_all arrivals (nothing_came (length capture_map.flows.items))) old → Takes more old new
      → IsWholeIn new.comparison → IsWholeIn old.comparison
  was_whole arrivals more old new is takes whole =
      whole-before old.comparison new.comparison (with_all arrivals (nothing_came (length capture_map.flows.items))) is (λ before still. (more, takes before still)) whole

  -- steps came that a burst brought, of which something was told before
  burst-more : (records : List CaptureParts) (one : CaptureParts) (bursts : List CapturedBurst) (burst : CapturedBurst) (answers answers' : List BurstTaken) (answer : BurstTaken) (timed waiting timed' : List TimedStep) (selected : Selection)
      (old new : Comparing) (mid : Option Reasons) → IsBurstOf one (Ok burst) → selected ≡ settings.selected → timed' ≡ timed ++ waiting → answers' ≡ answers ++ answer ∷ []
      → Compares settings capture_map (records ++ one ∷ []) bursts answers timed old → Tells (told_if burst.burst_id (fate_of_taken answer)) old.reasons mid
      → Takes (arrivals_of_steps selected waiting) old new → ExplainsAfter (told_in_steps waiting) new.comparison mid new.reasons
      → ComesTimed settings capture_map bursts timed → ComesTimed settings capture_map (bursts ++ burst ∷ []) timed'
      → Compares settings capture_map (records ++ one ∷ []) (bursts ++ burst ∷ []) answers' timed' new
  burst-more records one bursts burst answers answers' answer timed waiting timed' selected old new mid holds is then_is answered has tells takes explains came comes =
      let brings = subst (λ (s : Selection). Takes (arrivals_of_steps s waiting) old new) is takes in
      let more = arrivals_of_steps settings.selected waiting in
      let kept = more-compared has.arrivals more old new has.compared brings in
      subst (λ (t : List TimedStep). Compares settings capture_map (records ++ one ∷ []) (bursts ++ burst ∷ []) answers' t new) (sym then_is)
      (subst (λ (a : List BurstTaken). Compares settings capture_map (records ++ one ∷ []) (bursts ++ burst ∷ []) a (timed ++ waiting) new) (sym answered) (record {
        arrivals = has.arrivals ++ more;
        are = more_steps has.are waiting;
        compared = kept;
        explained = λ whole.
            let was = has.explained (was_whole has.arrivals more old new has.compared brings whole) in
            let first = told_if burst.burst_id (fate_of_taken answer) in
            record {
              told = was.told ++ first ++ told_in_steps waiting;
              reasons = reasons_then settings capture_map (has.arrivals ++ more) (was.told ++ first ++ told_in_steps waiting) was.reasons;
              are =
                  behind_burst records one was.are came burst answer waiting holds
                  (subst (λ (t : List TimedStep). ComesTimed settings capture_map (bursts ++ burst ∷ []) t) then_is comes);
              knows =
                  known-steps (was.told ++ first) was.reasons waiting (with_all (has.arrivals ++ more) (nothing_came (length capture_map.flows.items))) new.comparison mid new.reasons whole kept
                  (known-told was.told first was.reasons old.reasons mid was.knows tells) explains;
            };
      }))

  -- steps came behind the last burst
  steps-more : (records : List CaptureParts) (bursts : List CapturedBurst) (answers answers' : List BurstTaken) (timed waiting timed' : List TimedStep) (selected : Selection) (old new : Comparing)
      → selected ≡ settings.selected → timed' ≡ timed ++ waiting → answers' ≡ answers → Compares settings capture_map records bursts answers timed old
      → Takes (arrivals_of_steps selected waiting) old new → ExplainsAfter (told_in_steps waiting) new.comparison old.reasons new.reasons
      → ComesTimedAtEnd settings capture_map bursts timed' → Compares settings capture_map records bursts answers' timed' new
  steps-more records bursts answers answers' timed waiting timed' selected old new is then_is answered has takes explains ends =
      let brings = subst (λ (s : Selection). Takes (arrivals_of_steps s waiting) old new) is takes in
      let more = arrivals_of_steps settings.selected waiting in
      let kept = more-compared has.arrivals more old new has.compared brings in
      subst (λ (t : List TimedStep). Compares settings capture_map records bursts answers' t new) (sym then_is)
      (subst (λ (a : List BurstTaken). Compares settings capture_map records bursts a (timed ++ waiting) new) (sym answered) (record {
        arrivals = has.arrivals ++ more;
        are = more_steps has.are waiting;
        compared = kept;
        explained = λ whole.
            let was = has.explained (was_whole has.arrivals more old new has.compared brings whole) in
            record {
              told = was.told ++ told_in_steps waiting;
              reasons = reasons_then settings capture_map (has.arrivals ++ more) (was.told ++ told_in_steps waiting) was.reasons;
              are = behind_last was.are waiting (subst (λ (t : List TimedStep). ComesTimedAtEnd settings capture_map bursts t) then_is ends);
              knows =
                  known-steps was.told was.reasons waiting (with_all (has.arrivals ++ more) (nothing_came (length capture_map.flows.items))) new.comparison old.reasons new.reasons whole kept was.knows
                  explains;
            };
      }))

  -- a record more came to be compared
  record-more : (records : List CaptureParts) (bursts : List CapturedBurst) (answers : List BurstTaken) (timed : List TimedStep) (one : CaptureParts) (selected : Selection) (its_map : CaptureMap) (old new : Comparing)
      → selected ≡ settings.selected → its_map ≡ capture_map → Compares settings capture_map records bursts answers timed old → TakesBrought selected its_map one old new
      → Explains new.comparison old.reasons new.reasons → ComesTimed settings capture_map bursts timed
      → Compares settings capture_map (records ++ one ∷ []) bursts answers timed new
  record-more records bursts answers timed one selected its_map old new is map_is has takes explains came =
      let none = nothing_came (length capture_map.flows.items) in
      let brought = takes (with_all has.arrivals none) has.compared in
      let brings =
      subst (λ (s : Selection). Brings s capture_map one brought.0) is
      (subst (λ (m : CaptureMap). Brings selected m one brought.0) map_is brought.1) in
      let kept = subst (λ (c : Comparison). IsComparing c new) (sym (all-append has.arrivals brought.0 none)) brought.2 in
      record {
        arrivals = has.arrivals ++ brought.0;
        are = one_record has.are one brought.0 brings;
        compared = kept;
        explained = λ whole.
            let was =
            has.explained
            (whole-before old.comparison new.comparison (with_all has.arrivals none) has.compared (λ before still. let came = takes before still in (came.0, came.2)) whole) in
            record {
              told = was.told;
              reasons = reasons_then settings capture_map (has.arrivals ++ brought.0) was.told was.reasons;
              are = behind_record was.are came one brought.0 brings;
              knows = known-explained was.told was.reasons (with_all (has.arrivals ++ brought.0) none) new.comparison old.reasons new.reasons whole kept was.knows explains;
            };
      }

  -- what came of bursts that were taken
  taken-timed : (bursts : List CapturedBurst) (written : List ℕ) (joining : Joining) (has : HasTaken settings capture_map bursts written joining)
      → ComesTimed settings capture_map bursts has.filed.came
  taken-timed bursts written joining has = record {
    handed = has.handed;
    steps = has.steps;
    flows = views_in joining.flows;
    lasts = joining.timed.lasts.items;
    comes = has.comes;
    is_timed = has.filed.is_timed;
  }

  -- **A burst more.**
  pub taken-beside : (records : List CaptureParts) (one : CaptureParts) (bursts : List CapturedBurst) (burst : CapturedBurst) (told : BurstTaken) (written : List ℕ) (old new : Joining) (mid : TimedFrames) (comparing comparing' : Comparing) (reasons : Option Reasons)
      → IsBurstOf one (Ok burst) → HasTakenBeside settings capture_map (records ++ one ∷ []) bursts written old comparing
      → TakesBy inner_accepts HasSeen (SpellsNext old.flows burst told new.flows) old.flows.receiver old.timed new.flows.receiver mid
      → PutsCame mid old.file new.timed new.file → new.flows.map ≡ old.flows.map → new.flows.waits ≡ old.flows.waits
      → Tells (told_if burst.burst_id (fate_of_taken told)) comparing.reasons reasons
      → Takes (arrivals_of_steps new.flows.receiver.selected mid.waiting.items) comparing comparing'
      → ExplainsAfter (told_in_steps mid.waiting.items) comparing'.comparison reasons comparing'.reasons
      → HasTakenBeside settings capture_map (records ++ one ∷ []) (bursts ++ burst ∷ []) written new comparing'
  taken-beside records one bursts burst told written old new mid comparing comparing' reasons holds has takes puts map_kept waits_kept tells takes_all explains =
      let taken = taken-more settings capture_map bursts burst told written old new mid has.taken takes puts map_kept waits_kept in
      record {
        taken = taken;
        compares =
            burst-more records one bursts burst (answers_in has.taken.comes.spelled) (answers_in taken.comes.spelled) told has.taken.filed.came mid.waiting.items taken.filed.came new.flows.receiver.selected
            comparing comparing' reasons holds taken.selected_are (taken-came settings capture_map bursts burst told written old new mid has.taken takes puts map_kept waits_kept)
            (taken-answers settings capture_map bursts burst told written old new mid has.taken takes puts map_kept waits_kept) has.compares tells takes_all explains
            (taken-timed bursts written old has.taken) (taken-timed (bursts ++ burst ∷ []) written new taken);
      }

  -- **Nothing more.**
  pub end-beside : (records : List CaptureParts) (bursts : List CapturedBurst) (written : List ℕ) (old new : Joining) (mid : TimedFrames) (comparing comparing' : Comparing)
      → HasTakenBeside settings capture_map records bursts written old comparing
      → TakesBy inner_accepts HasSeen (EndsWaitingOfAll old.flows new.flows) old.flows.receiver old.timed new.flows.receiver mid
      → PutsCame mid old.file new.timed new.file → Takes (arrivals_of_steps new.flows.receiver.selected mid.waiting.items) comparing comparing'
      → ExplainsAfter (told_in_steps mid.waiting.items) comparing'.comparison comparing.reasons comparing'.reasons
      → HasEndedBeside settings capture_map records bursts written new comparing'
  end-beside records bursts written old new mid comparing comparing' has takes puts takes_all explains =
      let ended = taken-end settings capture_map bursts written old new mid has.taken takes puts in
      record {
        ended = ended;
        compares =
            steps-more records bursts (answers_in has.taken.comes.spelled) (answers_in ended.comes.came.spelled) has.taken.filed.came mid.waiting.items ended.filed.came new.flows.receiver.selected
            comparing comparing' ended.selected_are (end-came settings capture_map bursts written old new mid has.taken takes puts)
            (end-answers settings capture_map bursts written old new mid has.taken takes puts) has.compares takes_all explains
            (waiting_ended ended.handed ended.steps new.timed.lasts.items ended.comes ended.filed.is_timed);
      }

  -- **The receiver was closed.**
  pub closed-beside : (records : List CaptureParts) (bursts : List CapturedBurst) (written : List ℕ) (old : Joining) (mid timed' : TimedFrames) (file' : FrameFile) (closed : Closed) (comparing comparing' : Comparing)
      → HasEndedBeside settings capture_map records bursts written old comparing
      → ClosesOfWhole inner_accepts HasGiven old.flows.receiver old.timed closed mid → PutsCame mid old.file timed' file'
      → Takes (arrivals_of_steps old.flows.receiver.selected mid.waiting.items) comparing comparing'
      → ExplainsAfter (told_in_steps mid.waiting.items) comparing'.comparison comparing.reasons comparing'.reasons
      → AreAllBeside settings capture_map records bursts (written ++ file'.bytes.items) comparing'
  closed-beside records bursts written old mid timed' file' closed comparing comparing' has closes puts takes_all explains =
      let all = ended-closed settings capture_map bursts written old mid timed' file' closed has.ended closes puts in
      record {
        all = all;
        compares =
            steps-more records bursts (answers_in has.ended.comes.came.spelled) (answers_in all.comes.came.spelled) has.ended.filed.came mid.waiting.items all.file.timed old.flows.receiver.selected
            comparing comparing' has.ended.selected_are (closed-came settings capture_map bursts written old mid timed' file' closed has.ended closes puts)
            (closed-answers settings capture_map bursts written old mid timed' file' closed has.ended closes puts) has.compares takes_all explains
            (receiver_closed all.handed all.steps all.rest all.closed all.file.lasts all.comes all.received all.file.is_timed);
      }

  -- ---- records

  -- that more records were counted changes nothing else
  abbrev counted_on : (bursts : List CapturedBurst) (written : List ℕ) (old : Joining) (n : ℕ) → HasTaken settings capture_map bursts written old
      → HasTaken settings capture_map bursts written (record old { records = n })
  counted_on bursts written old n has = record {
    handed = has.handed;
    steps = has.steps;
    comes = has.comes;
    stands = has.stands;
    map_is = has.map_is;
    waits_are = has.waits_are;
    selected_are = has.selected_are;
    filed = has.filed;
  }

  -- a record that is passed over
  pub passed-beside : (records : List CaptureParts) (written : List ℕ) (one : CaptureParts) (why : PassedReason) (old : Joining) (n : ℕ) (comparing comparing' : Comparing)
      → HasJoinedBeside settings capture_map records written old comparing → TakesBrought old.flows.receiver.selected old.flows.map one comparing comparing'
      → Explains comparing'.comparison comparing.reasons comparing'.reasons → IsBurstOf one (Err why) → n ≡ min (old.records + 1) (2 ^ 64 - 1)
      → HasJoinedBeside settings capture_map (records ++ one ∷ []) written (record old { records = n }) comparing'
  passed-beside records written one why old n comparing comparing' has brings explains is count =
      let taken = has.joined.taken_in in
      record {
        joined = record {
          bursts = has.joined.bursts;
          are = passed_over one why has.joined.are is;
          taken_in = counted_on has.joined.bursts written old n taken;
          count = count ∙ counted-more settings capture_map old.records records one has.joined.count;
        };
        compares =
            record-more records has.joined.bursts (answers_in taken.comes.spelled) taken.filed.came one old.flows.receiver.selected old.flows.map comparing comparing' taken.selected_are taken.map_is
            has.compares brings explains (taken-timed has.joined.bursts written old taken);
      }

  -- one that is a burst
  pub burst-beside : (records : List CaptureParts) (written : List ℕ) (one : CaptureParts) (burst : CapturedBurst) (old new : Joining) (n : ℕ) (comparing comparing' comparing'' : Comparing)
      → HasJoinedBeside settings capture_map records written old comparing → TakesBrought old.flows.receiver.selected old.flows.map one comparing comparing'
      → Explains comparing'.comparison comparing.reasons comparing'.reasons → IsBurstOf one (Ok burst) → n ≡ min (old.records + 1) (2 ^ 64 - 1) → new.records ≡ n
      → TakesBurstBeside (record old { records = n }) comparing' burst new comparing''
      → HasJoinedBeside settings capture_map (records ++ one ∷ []) written new comparing''
  burst-beside records written one burst old new n comparing comparing' comparing'' has brings explains is count kept takes =
      let taken = has.joined.taken_in in
      let after = takes settings capture_map records one has.joined.bursts written is (record {
        taken = counted_on has.joined.bursts written old n taken;
        compares =
            record-more records has.joined.bursts (answers_in taken.comes.spelled) taken.filed.came one old.flows.receiver.selected old.flows.map comparing comparing' taken.selected_are taken.map_is
            has.compares brings explains (taken-timed has.joined.bursts written old taken);
      }) in
      record {
        joined = record {
          bursts = has.joined.bursts ++ burst ∷ [];
          are = one_burst one burst has.joined.are is;
          taken_in = after.taken;
          count = kept ∙ count ∙ counted-more settings capture_map old.records records one has.joined.count;
        };
        compares = after.compares;
      }

  -- ---- what was in the file was written

  module _ (file' : FrameFile) where
    abbrev now_written : (bursts : List CapturedBurst) (written : List ℕ) (old : Joining) (has : HasTaken settings capture_map bursts written old) → file'.link ≡ old.file.link → file'.channels ≡ old.file.channels
        → file'.bytes.items ≡ [] → HasTaken settings capture_map bursts (written ++ old.file.bytes.items) (record old { file = file' })
    now_written bursts written old has link channels none = record {
      handed = has.handed;
      steps = has.steps;
      comes = has.comes;
      stands = has.stands;
      map_is = has.map_is;
      waits_are = has.waits_are;
      selected_are = has.selected_are;
      filed = filed-written settings capture_map has.steps written old.timed old.file file' has.filed link channels none;
    }

    pub ended-written-beside : (records : List CaptureParts) (bursts : List CapturedBurst) (written : List ℕ) (old : Joining) (comparing : Comparing)
        → HasEndedBeside settings capture_map records bursts written old comparing → file'.link ≡ old.file.link → file'.channels ≡ old.file.channels
        → file'.bytes.items ≡ []
        → HasEndedBeside settings capture_map records bursts (written ++ old.file.bytes.items) (record old { file = file' }) comparing
    unfolding filed-written
    ended-written-beside records bursts written old comparing has link channels none = record {
      ended = record {
        handed = has.ended.handed;
        steps = has.ended.steps;
        comes = has.ended.comes;
        stands = has.ended.stands;
        selected_are = has.ended.selected_are;
        filed = filed-written settings capture_map has.ended.steps written old.timed old.file file' has.ended.filed link channels none;
      };
      compares = has.compares;
    }

    pub bytes-written-beside : (bytes written : List ℕ) (old : FrameReading) (comparing : Comparing) → HasReadBeside settings capture_map bytes written old comparing
        → file'.link ≡ old.joining.file.link → file'.channels ≡ old.joining.file.channels → file'.bytes.items ≡ []
        → HasReadBeside settings capture_map bytes (written ++ old.joining.file.bytes.items) (record old { joining = record old.joining { file = file' } }) comparing
    unfolding filed-written
    bytes-written-beside bytes written old comparing has link channels none =
        let joined = has.read.joined in
        record {
          read = record {
            records = has.read.records;
            captured = has.read.captured;
            joined = record {
              bursts = joined.bursts;
              are = joined.are;
              taken_in = now_written joined.bursts written old.joining joined.taken_in link channels none;
              count = joined.count;
            };
          };
          compares = has.compares;
        }

-- ---- bytes

-- bytes of a record, or of none
pub record-beside : (old new : FrameReading) (piece rest : List ℕ) (given : List CaptureParts) (comparing comparing' : Comparing) → TakesCapture old.reader new.reader given piece rest
    → ((settings : CaptureSettings) (capture_map : CaptureMap) (records : List CaptureParts) (written : List ℕ)
    → HasJoinedBeside settings capture_map records written old.joining comparing → HasJoinedBeside settings capture_map (records ++ given) written new.joining comparing')
    → JoinsSomeBeside old comparing piece rest new comparing'
record-beside old new piece rest given comparing comparing' captures takes settings capture_map bytes written has =
    let joined = takes settings capture_map has.read.records written (record { joined = has.read.joined; compares = has.compares }) in (
      captures.used,
      captures.piece_is,
      record {
        read = record {
          records = has.read.records ++ given;
          captured = captures.captures has.read.records bytes has.read.captured;
          joined = joined.joined;
        };
        compares = joined.compares;
      },
    )

-- where no record came
pub none-beside : (settings : CaptureSettings) (capture_map : CaptureMap) (records : List CaptureParts) (written : List ℕ) (joining : Joining) (comparing : Comparing)
    → HasJoinedBeside settings capture_map records written joining comparing → HasJoinedBeside settings capture_map (records ++ []) written joining comparing
none-beside settings capture_map records written joining comparing has =
    subst (λ (all : List CaptureParts). HasJoinedBeside settings capture_map all written joining comparing) (sym (append-nil records)) has

-- nothing of a piece was read
pub unread-beside : (reading : FrameReading) (piece : List ℕ) (comparing : Comparing) → JoinsSomeBeside reading comparing piece piece reading comparing
unread-beside reading piece comparing settings capture_map bytes written has =
    ([], refl, subst (λ (all : List ℕ). HasReadBeside settings capture_map all written reading comparing) (sym (append-nil bytes)) has)

-- more of a piece was read
pub some-beside : (old mid new : FrameReading) (piece rest rest' : List ℕ) (comparing comparing' comparing'' : Comparing) → JoinsSomeBeside old comparing piece rest mid comparing'
    → JoinsSomeBeside mid comparing' rest rest' new comparing'' → JoinsSomeBeside old comparing piece rest' new comparing''
some-beside old mid new piece rest rest' comparing comparing' comparing'' first second settings capture_map bytes written has =
    let one = first settings capture_map bytes written has in
    let other = second settings capture_map (bytes ++ one.0) written one.2 in (
      one.0 ++ other.0,
      one.1 ∙ ap (λ (r : List ℕ). one.0 ++ r) other.1 ∙ sym (append_assoc one.0 other.0 rest'),
      subst (λ (all : List ℕ). HasReadBeside settings capture_map all written new comparing'') (append_assoc bytes one.0 other.0) other.2,
    )

-- all of it was read
pub all-beside : (old new : FrameReading) (piece rest : List ℕ) (comparing comparing' : Comparing) → rest ≡ [] → JoinsSomeBeside old comparing piece rest new comparing'
    → JoinsPieceBeside old comparing piece new comparing'
all-beside old new piece rest comparing comparing' none some settings capture_map bytes written has =
    let one = some settings capture_map bytes written has in
    let used : piece ≡ one.0 = one.1 ∙ ap (λ (r : List ℕ). one.0 ++ r) none ∙ append-nil one.0 in
    subst (λ (p : List ℕ). HasReadBeside settings capture_map (bytes ++ p) written new comparing') (sym used) one.2

-- ---- the end

module _ {W : Type 0} (contents : W → Option (List ℕ)) (settings : CaptureSettings) (capture_map : CaptureMap) where
  -- more was written before
  pub all-then-beside : (records : List CaptureParts) (bursts : List CapturedBurst) (written first : List ℕ) (a b c : Device W) (comparing : Comparing) → WritesAll contents a b first
      → ((more : List ℕ) × AreAllBeside settings capture_map records bursts ((written ++ first) ++ more) comparing × WritesAll contents b c more)
      → (more : List ℕ) × AreAllBeside settings capture_map records bursts (written ++ more) comparing × WritesAll contents a c more
  all-then-beside records bursts written first a b c comparing before all = (
    first ++ all.0,
    subst (λ (text : List ℕ). AreAllBeside settings capture_map records bursts text comparing) (append_assoc written first all.0) all.1,
    wrote-both contents a b c first all.0 before all.2,
  )

  -- the whole capture was read
  pub finished-beside : (bytes written : List ℕ) (reading : FrameReading) (has : HasReadBytes settings capture_map bytes written reading) (writer writer' : Device W) (comparing' : Comparing) → IsWholeCapture reading.reader
      → ((more : List ℕ) × AreAllBeside settings capture_map has.records has.joined.bursts (written ++ more) comparing' × WritesAll contents writer writer' more)
      → (more : List ℕ) × IsComparedFile settings capture_map comparing' bytes (written ++ more) × WritesAll contents writer writer' more
  finished-beside bytes written reading has writer writer' comparing' whole all = (
    all.0,
    record {
      joined = record {
        reader = reading.reader;
        records = has.records;
        captured = has.captured;
        whole = whole;
        joined = record { bursts = has.joined.bursts; are = has.joined.are; frames = all.1.all };
      };
      compares = all.1.compares;
    },
    all.2,
  )

-- ---- the whole of an input

module _ {R W : Type 0} (remaining : R → Option (List ℕ)) (contents : W → Option (List ℕ)) (settings : CaptureSettings) (capture_map : CaptureMap) where
  -- So far these bytes were read, joined and compared, and what came of them was written.
  pub record ComparesSoFar (reader reader' : Device R) (writer writer' : Device W) (reading : FrameReading) (comparing : Comparing) : Type 0 where
    pub bytes : List ℕ
    pub text : List ℕ
    pub has : HasReadBeside settings capture_map bytes text reading comparing
    pub read : Consumes (remaining (inner_of reader)) (remaining (inner_of reader')) bytes
    pub wrote : Appends (contents (inner_of writer)) (contents (inner_of writer')) text

  module _ (reader : Device R) (writer : Device W) where
    -- nothing was read, and the header was written
    pub beside-begun : (writer' : Device W) (old : FrameReading) (file' : FrameFile) (comparing : Comparing) → HasReadBeside settings capture_map [] [] old comparing → file'.link ≡ old.joining.file.link → file'.channels ≡ old.joining.file.channels → file'.bytes.items ≡ []
        → Appends (contents (inner_of writer)) (contents (inner_of writer')) old.joining.file.bytes.items
        → ComparesSoFar reader reader writer writer' (record old { joining = record old.joining { file = file' } }) comparing
    beside-begun writer' old file' comparing has link channels none wrote = record {
      bytes = [];
      text = old.joining.file.bytes.items;
      has = bytes-written-beside settings capture_map file' [] [] old comparing has link channels none;
      read = Consumes-nil (remaining (inner_of reader));
      wrote = wrote;
    }

    module _ (reader' : Device R) (writer' : Device W) (reading : FrameReading) (comparing : Comparing) (far : ComparesSoFar reader reader' writer writer' reading comparing) where
      wrote_both : (writer'' : Device W) (more : List ℕ) → Appends (contents (inner_of writer')) (contents (inner_of writer'')) more
          → Appends (contents (inner_of writer)) (contents (inner_of writer'')) (far.text ++ more)
      wrote_both writer'' more wrote =
          Appends-trans (contents (inner_of writer)) (contents (inner_of writer')) (contents (inner_of writer'')) far.text more far.wrote wrote

      -- a piece was joined
      pub beside-more : (reader'' : Device R) (piece : List ℕ) → Consumes (remaining (inner_of reader')) (remaining (inner_of reader'')) piece
          → (writer'' : Device W) (reading' : FrameReading) (comparing' : Comparing) → JoinsWrittenBeside contents reading comparing writer' piece reading' comparing' writer''
          → ComparesSoFar reader reader'' writer writer'' reading' comparing'
      beside-more reader'' piece read writer'' reading' comparing' joins =
          let more = joins settings capture_map far.bytes far.text far.has in
          record {
            bytes = far.bytes ++ piece;
            text = far.text ++ more.0;
            has = more.1;
            read =
                Consumes-trans (remaining (inner_of reader)) (remaining (inner_of reader')) (remaining (inner_of reader'')) far.bytes piece far.read read;
            wrote = wrote_both writer'' more.0 more.2.0;
          }

      -- and all that there is
      pub beside-finished : (reader'' : Device R) → Consumes (remaining (inner_of reader')) (remaining (inner_of reader'')) [] → IsAtEnd (remaining (inner_of reader''))
          → (writer'' : Device W) (comparing' : Comparing)
          → ((more : List ℕ) × IsComparedFile settings capture_map comparing' far.bytes (far.text ++ more) × WritesAll contents writer' writer'' more)
          → IfSome (remaining (inner_of reader)) (WritesText (IsComparedFile settings capture_map comparing') (contents (inner_of writer)) (contents (inner_of writer'')))
      beside-finished reader'' read end writer'' comparing' all =
          of_known (remaining (inner_of reader))
          (Consumes-all (remaining (inner_of reader)) (remaining (inner_of reader'')) far.bytes [] far.bytes read_all end refl) where
            read_all : Consumes (remaining (inner_of reader)) (remaining (inner_of reader'')) far.bytes
            read_all =
                subst (λ (bytes : List ℕ). Consumes (remaining (inner_of reader)) (remaining (inner_of reader'')) bytes) (append-nil far.bytes)
                (Consumes-trans (remaining (inner_of reader)) (remaining (inner_of reader')) (remaining (inner_of reader'')) far.bytes [] far.read read)

            written : WritesText (IsComparedFile settings capture_map comparing') (contents (inner_of writer)) (contents (inner_of writer'')) far.bytes
            written = (far.text ++ all.0, all.1, wrote_both writer'' all.0 all.2.0)

            of_known : (known : Option (List ℕ)) → IfSome known (λ input. far.bytes ≡ [] ++ input)
                → IfSome known (WritesText (IsComparedFile settings capture_map comparing') (contents (inner_of writer)) (contents (inner_of writer'')))
            of_known None same = tt
            of_known (Some input) same = subst (WritesText (IsComparedFile settings capture_map comparing') (contents (inner_of writer)) (contents (inner_of writer''))) same written
