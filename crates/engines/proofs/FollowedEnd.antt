-- What was followed of a trace at its end.
use Rattle.std.proofs.Common.{◌≡◌, ℕ, ◌≤◌, ◌==◌, Bool, true, false, inl, inr, List, [], ◌∷◌, ◌++◌, length, refl, sym, ap, subst, ◌∙◌, arith, append-nil, append_assoc, length-append}
use Rattle.std.specs.Prelude.{map, flat_map, if◌then◌else◌, Option, Result, Ok, Err, MatchResult, OnOk, OnErr}
use Rattle.std.specs.Io.KnownBytes.{Appends}
use Rattle.std.specs.declared.alloc.AllocError.{AllocError}
use Rattle.std.proofs.KnownBytes.{Appends-trans}
use Rattle.std.proofs.lemmas.Grind.{flat_map-append}
use Rattle.loss_rule.specs.declared.rule.LossRule.{LossRule}
use Rattle.receiver.specs.declared.closing.Closed.{Closed}
use Rattle.receiver.specs.declared.width.Width.{Width}
use Rattle.receiver.specs.HandedIn.{made_of}
use Rattle.text_lines.specs.Capacities.{default_capacity}
use Rattle.text_lines.specs.Format.{IsRead}
use Rattle.text_lines.specs.Lines.{lines_of}
use Rattle.text_lines.specs.Putting.{Puts}
use Rattle.consumer.specs.declared.given.Given.{Given}
use Rattle.texts.specs.declared.follow.settings.FollowSettings.{FollowSettings}
use Rattle.followed_traces.specs.declared.follow_input.Followed.{Followed}
use Rattle.followed_traces.proofs.EndOfTrace.{left_lines, left_counts}
use Rattle.followed_traces.specs.End.{end_text, IsFollowedTo}
use Rattle.texts.specs.declared.follow.happening.Happening.{Happening}
use Rattle.texts.specs.declared.follow.happening.Happening.TheVariants.{Gave}
use Rattle.texts.specs.Happened.{HasHappened, HappenedBy, HappenedAt, happening_of, AreNumbered}
use Rattle.texts.specs.Follow.{given_told, lines_told, told_lines, closed_lines, IsFollowed, IsFollowedSoFar}
use Rattle.texts.specs.Trace.Line.{shape_of}
use Rattle.texts.specs.Trace.Place.{nothing_said_in, trace_format}
use Rattle.followed_traces.specs.Inside.Watched.{Watched}
use Rattle.followed_traces.specs.Inside.Lines.{no_lines_followed, HasFollowedLines, IsAllPut, PutsHappened, with_told}
use Rattle.texts.specs.Inside.TraceInput.{taking_format}
use Rattle.texts.proofs.HandedLines.{read_alone}
use Rattle.engines.specs.declared.device.Device.{Device}
use Rattle.engines.specs.declared.fault.EngineFault.{EngineFault}
use Rattle.engines.specs.declared.fault.EngineFault.TheVariants.{Trace, Cut, Capture, OutOfMemory, Read, Write, Usage}
use Rattle.engines.specs.declared.fault.WriteFault.{WriteFault}
use Rattle.engines.specs.declared.follow.Follower.{Follower}
use Rattle.engines.specs.declared.follow.ended.EndedTrace.{EndedTrace}
use Rattle.engines.specs.Device.{inner_of, has_failed}
use Rattle.engines.specs.Transfer.{IsLeftFlushed}
use Rattle.engines.specs.Writing.{IsWritten}
use Rattle.engines.specs.Inside.Following.{HasFollowedBytes, IsLastLine, IsEndFault, all_at, HasEnded, PendsBy, ClosesBy, EndsBy}
use Rattle.engines.proofs.NumberedHappenings.{all_of, both_at, lines_at, lines_given, numbered_more}
use Rattle.engines.proofs.FollowedDevices.{flushed_then}
use Rattle.engines.proofs.WrittenText.{AppendsFront-behind}
use Rattle.engines.proofs.FollowedLines.{happened_by, read_told, lines_with_last}
use Rattle.text_lines.proofs.PutTexts.{puts-nothing}

-- ---- all lines were taken

module _ (rule : LossRule) (width : Width) (settings : FollowSettings) (bytes : List ℕ) where
  -- what is told besides what was told of the lines that are ended happens by the last one
  pub numbered_end : (told : List HappenedAt) (follower : Follower) (line : ℕ) → HasFollowedBytes rule width settings bytes told follower → IsLastLine follower line
      → (happened : List Happening) → HappenedBy rule width (lines_of bytes) (map happening_of told ++ happened)
      → AreNumbered rule width (lines_of bytes) (told ++ all_at line happened)
  numbered_end told follower line has last happened by =
      let are = has.taken.1 in
      let number = last rule width settings bytes told has in
      let all = lines_with_last bytes are.lines follower.lines.unfinished are.parts in
      let short = one_at_most follower.lines.unfinished in
      let long = ap length all ∙ length-append are.lines (if length follower.lines.unfinished == 0 then [] else follower.lines.unfinished ∷ []) in
      numbered_more rule width are.lines (lines_of bytes) (if length follower.lines.unfinished == 0 then [] else follower.lines.unfinished ∷ []) [] told
      follower.lines.count line happened (has.numbered are.lines follower.lines.unfinished are.parts) has.within (omega (arith, number, are.counted, long)) number
      (sym all ∙ sym (append-nil (lines_of bytes))) (omega (arith, long)) (omega (arith, long, short))
      (subst (λ (all : List Happening). HappenedBy rule width (lines_of bytes) all) (sym (all_of told line happened)) by)
    where
      one_at_most : (rest : List ℕ) → length (if length rest == 0 then [] else rest ∷ []) ≤ 1
      one_at_most rest = by_flag (length rest == 0) where
        by_flag : (none : Bool) → length (if none then [] else rest ∷ []) ≤ 1
        by_flag true = omega arith
        by_flag false = omega arith

  module _ (told : List HappenedAt) (ended : EndedTrace) (has : HasEnded rule width settings bytes told ended) where
    -- of a trace of which nothing is pending the text of all lines was told
    pub text_of_lines : IsAllPut ended.input.input.taker → IsFollowedSoFar rule width settings (lines_of bytes) (flat_map (told_lines settings) told)
    text_of_lines put =
        let by =
        happened_by settings rule width (map happening_of told) (lines_of bytes) has.state ended.input has.read has.stands put in
        let numbered = has.numbered [] (subst (λ (all : List Happening). HappenedBy rule width (lines_of bytes) all) (sym (append-nil (map happening_of told))) by) in
        record {
          told = told;
          happened = by;
          numbered = subst (λ (all : List HappenedAt). AreNumbered rule width (lines_of bytes) all) (append-nil told) numbered;
          printed = refl;
        }

    -- what was pending was told besides
    pub ended_told : (ended' : EndedTrace) (happened : List Happening) → ended'.input.settings ≡ ended.input.settings → ended'.line ≡ ended.line
        → HasFollowedLines (with_told has.state happened) ended'.input
        → HasEnded rule width settings bytes (told ++ all_at ended.line happened) ended'
    ended_told ended' happened same_settings same_line stands = record {
      settings_are = same_settings ∙ has.settings_are;
      state = with_told has.state happened;
      read =
          subst (λ (all : List Happening). IsRead taking_format (no_lines_followed settings all rule width) (lines_of bytes) (with_told has.state happened))
          (sym (all_of told ended.line happened)) (read_told happened has.read);
      stands = stands;
      numbered = λ more by.
          let here =
          has.numbered (happened ++ more)
          (subst (λ (all : List Happening). HappenedBy rule width (lines_of bytes) all)
          (ap (λ (all : List Happening). all ++ more) (all_of told ended.line happened) ∙ append_assoc (map happening_of told) happened more) by) in
          subst (λ (n : ℕ). AreNumbered rule width (lines_of bytes) ((told ++ all_at ended.line happened) ++ all_at n more)) (sym same_line)
          (subst (λ (all : List HappenedAt). AreNumbered rule width (lines_of bytes) all)
          (ap (λ (all : List HappenedAt). told ++ all) (both_at ended.line happened more) ∙ sym (append_assoc told (all_at ended.line happened) (all_at ended.line more))) here);
    }

    -- so where it was put
    pub pending_told : {T : Type 0} (after : T → List ℕ → T → Type 0) (out out' : T) (ended' : EndedTrace) (put : Result (Unit {0}) AllocError)
        → OnOk put (PutsHappened after ended.line ended.input out ended'.input out') → OnErr put (out' ≡ out) → ended'.line ≡ ended.line
        → (more : List HappenedAt) × Puts after out (flat_map (told_lines settings) more) out'
        × MatchResult put (λ _. HasEnded rule width settings bytes (told ++ more) ended' × IsAllPut ended'.input.input.taker) (λ _. more ≡ [])
    pending_told after out out' ended' (Ok done) put same same_line =
        let tells = put.told has.state has.stands in
        let happened = tells.0 in (
          all_at ended.line happened,
          subst (λ (text : List ℕ). Puts after out text out')
              (tells.1 ∙ ap (λ (told_of : FollowSettings). flat_map (lines_told told_of ended.line) happened) has.settings_are ∙ sym (lines_at settings ended.line happened))
              put.put,
          (ended_told ended' happened put.settings same_line tells.2, put.none),
        )
    pending_told {T} after out out' ended' (Err none) put same same_line =
        ([], subst (λ (now : T). Puts after out [] now) (sym same) (puts-nothing after out), refl)

    -- the receiver was closed
    followed_to : (end : Followed) → IsFollowedTo has.state.rule has.state.width has.state.said has.state.state.told end
        → IsRead trace_format (nothing_said_in (shape_of width default_capacity)) (lines_of bytes) has.state.said
        × IsFollowedTo rule width has.state.said (map happening_of told) end
    followed_to end to =
        let alone = read_alone has.read in (
          alone.3,
          subst (λ (watched : Watched). IsFollowedTo rule width has.state.said watched.told end) alone.0
              (subst (λ (by : LossRule). IsFollowedTo by width has.state.said has.state.state.told end) alone.1
              (subst (λ (wide : Width). IsFollowedTo has.state.rule wide has.state.said has.state.state.told end) alone.2 to)),
        )

    printed_as : (line : ℕ) (last : List Happening) (rest : List Given) (end : Followed) (counted : Closed) → end.settings ≡ settings
        → flat_map (lines_told end.settings line) end.happened.items ≡ flat_map (lines_told end.settings line) (last ++ map Gave rest)
        → closed_lines end.settings.selected end.setup end.closed ≡ closed_lines end.settings.selected end.setup counted
        → flat_map (told_lines settings) told ++ end_text line end
        ≡ flat_map (told_lines settings) (told ++ all_at line last) ++ flat_map (given_told settings.selected) rest ++ closed_lines settings.selected end.setup counted
    printed_as line last rest end counted same are counts =
        let closed = closed_lines settings.selected end.setup counted in
        let before = flat_map (told_lines settings) told in
        let lasts = flat_map (lines_told settings line) last in
        let left : flat_map (lines_told end.settings line) end.happened.items ≡ lasts ++ flat_map (given_told settings.selected) rest =
        are ∙ ap (λ (s : FollowSettings). flat_map (lines_told s line) (last ++ map Gave rest)) same ∙ flat_map-append (lines_told settings line) last (map Gave rest)
        ∙ ap (λ text. lasts ++ text) (lines_given settings line rest) in
        let ends : closed_lines end.settings.selected end.setup end.closed ≡ closed =
        counts ∙ ap (λ (s : FollowSettings). closed_lines s.selected end.setup counted) same in
        let all : flat_map (told_lines settings) (told ++ all_at line last) ≡ before ++ lasts =
        flat_map-append (told_lines settings) told (all_at line last) ∙ ap (λ text. before ++ text) (lines_at settings line last) in
        ap (λ text. before ++ (text ++ closed_lines end.settings.selected end.setup end.closed)) left
        ∙ ap (λ text. before ++ ((lasts ++ flat_map (given_told settings.selected) rest) ++ text)) ends
        ∙ sym (append_assoc before (lasts ++ flat_map (given_told settings.selected) rest) closed)
        ∙ ap (λ text. text ++ closed) (sym (append_assoc before lasts (flat_map (given_told settings.selected) rest)))
        ∙ ap (λ text. (text ++ flat_map (given_told settings.selected) rest) ++ closed) (sym all)

    -- the text of all that was followed
    pub followed_text : (end : Followed) → end.settings ≡ ended.input.settings → IsFollowedTo has.state.rule has.state.width has.state.said has.state.state.told end
        → IsFollowed rule width settings bytes (flat_map (told_lines settings) told ++ end_text ended.line end)
    followed_text end same to_end =
        let closed = followed_to end to_end in
        let to = closed.1 in
        let told_now = told ++ all_at ended.line to.last in
        let happened =
        subst (λ (all : List Happening). HasHappened (made_of rule width.channels end.setup) to.handed to.given all) (sym (all_of told ended.line to.last)) to.happened in
        record {
          said = has.state.said;
          read = closed.0;
          setup = end.setup;
          is_setup = to.setup;
          handed = to.handed;
          entries = to.entries;
          given = to.given;
          told = told_now;
          happened = happened;
          numbered =
              has.numbered to.last
              (record {
                said = has.state.said;
                read = closed.0;
                happened_for =
                    inr (record {
                      setup = end.setup;
                      is_setup = to.setup;
                      handed = to.handed;
                      entries = to.entries;
                      given = to.given;
                      has_happened = to.happened;
                    });
              });
          rest = to.rest;
          closed = to.counted;
          received = to.received;
          printed = printed_as ended.line to.last to.rest end to.counted (same ∙ has.settings_are)
              (left_lines rule width has.state.said (map happening_of told) end to ended.line) (left_counts rule width has.state.said (map happening_of told) end to);
        }

-- ---- what was pending, and the rest

module _ {W : Type 0} (contents : W → Option (List ℕ)) (writer writer' : Device W) (rule : LossRule) (width : Width) (settings : FollowSettings) (bytes : List ℕ)
    (told : List HappenedAt) where
  both_texts : (more : List HappenedAt) → flat_map (told_lines settings) (told ++ more) ≡ flat_map (told_lines settings) told ++ flat_map (told_lines settings) more
  both_texts more = flat_map-append (told_lines settings) told more

  -- the writer failed at what was pending
  pub pending_unwritten : (more : List HappenedAt) (ended' : EndedTrace) (fault : WriteFault) (put : Result (Unit {0}) AllocError)
      → IsWritten contents (flat_map (told_lines settings) more) writer writer' (Err fault)
      → MatchResult put (λ _. HasEnded rule width settings bytes (told ++ more) ended' × IsAllPut ended'.input.input.taker) (λ _. more ≡ [])
      → PendsBy contents rule width settings bytes told writer writer' Write
  pending_unwritten more ended' fault (Ok done) wrote has = (
    flat_map (told_lines settings) more,
    subst (λ (text : List ℕ). IsFollowedSoFar rule width settings (lines_of bytes) text) (both_texts more)
        (text_of_lines rule width settings bytes (told ++ more) ended' has.0 has.1),
    wrote.front,
    wrote.failed,
  )
  pending_unwritten more ended' fault (Err none) wrote is = absurd (wrote.some (ap (flat_map (told_lines settings)) is))

  -- by which fault the end was not followed
  pub ends_by : (fault : EngineFault) → writer' ≡ writer → IsEndFault width bytes fault → EndsBy contents rule width settings bytes told writer writer' fault
  ends_by (Trace fault) same is = (same, is)
  ends_by (Cut fault) same is = absurd is
  ends_by OutOfMemory same is = inl same
  ends_by Read same is = absurd is
  ends_by Write same is = absurd is
  ends_by Usage same is = absurd is
  ends_by (Capture fault) same is = absurd is

  pub ends_pending : (fault : EngineFault) → PendsBy contents rule width settings bytes told writer writer' fault
      → EndsBy contents rule width settings bytes told writer writer' fault
  ends_pending (Trace fault) by = absurd by
  ends_pending (Cut fault) by = absurd by
  ends_pending OutOfMemory by = inl by
  ends_pending Read by = absurd by
  ends_pending Write by = (by.0, inr by.1, by.2, by.3)
  ends_pending Usage by = absurd by
  ends_pending (Capture fault) by = absurd by

  module _ (more : List HappenedAt) (ended : EndedTrace) (has : HasEnded rule width settings bytes (told ++ more) ended) (put : IsAllPut ended.input.input.taker)
      (wrote : Appends (contents (inner_of writer)) (contents (inner_of writer')) (flat_map (told_lines settings) more)) (flushed : IsLeftFlushed writer writer')
      (sound : has_failed writer' ≡ has_failed writer) (writer'' : Device W) where
    -- what was pending, and then the rest
    rest_of : (rest : List ℕ) → IsFollowed rule width settings bytes (flat_map (told_lines settings) (told ++ more) ++ rest)
        → IsFollowed rule width settings bytes (flat_map (told_lines settings) told ++ (flat_map (told_lines settings) more ++ rest))
    rest_of rest is =
        subst (λ (text : List ℕ). IsFollowed rule width settings bytes text)
        (ap (λ (text : List ℕ). text ++ rest) (both_texts more) ∙ append_assoc (flat_map (told_lines settings) told) (flat_map (told_lines settings) more) rest) is

    closes_by : (fault : EngineFault) → ClosesBy contents rule width settings bytes (told ++ more) writer' writer'' fault
        → EndsBy contents rule width settings bytes told writer writer'' fault
    closes_by (Trace fault) by = absurd by
    closes_by (Cut fault) by = absurd by
    closes_by OutOfMemory same =
        subst (λ (device : Device W). EndsBy contents rule width settings bytes told writer device OutOfMemory) (sym same)
        (inr (
          flat_map (told_lines settings) more,
          subst (λ (text : List ℕ). IsFollowedSoFar rule width settings (lines_of bytes) text) (both_texts more)
              (text_of_lines rule width settings bytes (told ++ more) ended has put),
          wrote,
          flushed,
        ))
    closes_by Read by = absurd by
    closes_by Write by = (
      flat_map (told_lines settings) more ++ by.0,
      inl (rest_of by.0 by.1),
      AppendsFront-behind (contents (inner_of writer)) (contents (inner_of writer')) (contents (inner_of writer'')) (flat_map (told_lines settings) more) by.0 wrote by.2,
      by.3,
    )
    closes_by Usage by = absurd by
    closes_by (Capture fault) by = absurd by

    -- the receiver was closed behind it, or not
    pub ends_closed : (result : Result (Unit {0}) EngineFault)
        → MatchResult result
        (λ _. (rest : List ℕ) × IsFollowed rule width settings bytes (flat_map (told_lines settings) (told ++ more) ++ rest)
        × Appends (contents (inner_of writer')) (contents (inner_of writer'')) rest × IsLeftFlushed writer' writer'' × (has_failed writer'' ≡ has_failed writer'))
        (λ fault. ClosesBy contents rule width settings bytes (told ++ more) writer' writer'' fault)
        → MatchResult result
        (λ _. (rest : List ℕ) × IsFollowed rule width settings bytes (flat_map (told_lines settings) told ++ rest)
        × Appends (contents (inner_of writer)) (contents (inner_of writer'')) rest × IsLeftFlushed writer writer'' × (has_failed writer'' ≡ has_failed writer))
        (λ fault. EndsBy contents rule width settings bytes told writer writer'' fault)
    ends_closed (Ok done) closed = (
      flat_map (told_lines settings) more ++ closed.0,
      rest_of closed.0 closed.1,
      Appends-trans (contents (inner_of writer)) (contents (inner_of writer')) (contents (inner_of writer'')) (flat_map (told_lines settings) more) closed.0 wrote closed.2,
      flushed_then writer writer' writer'' flushed closed.3,
      closed.4 ∙ sound,
    )
    ends_closed (Err fault) by = closes_by fault by
