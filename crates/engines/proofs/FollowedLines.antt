-- What was followed of the lines of a trace.
use Rattle.std.proofs.Common.{◌≡◌, ℕ, ◌+◌, ◌<◌, ◌≤◌, ◌==◌, ◌^◌, ◌-◌, ◌⊎◌, Bool, true, false, inl, inr, Option, Some, None, List, [], ◌∷◌, ◌++◌, length, refl, sym, ap, subst, ◌∙◌, arith, append-nil, append_assoc, length-append}
use Rattle.std.specs.Prelude.{map, flat_map, min, if◌then◌else◌, Result, Ok, Err, MatchResult}
use Rattle.std.specs.Io.KnownBytes.{Appends}
use Rattle.std.specs.List.{slice_split}
use Rattle.loss_rule.specs.declared.rule.LossRule.{LossRule}
use Rattle.receiver.specs.declared.width.Width.{Width}
use Rattle.receiver.specs.HandedIn.{made_of}
use Rattle.text_lines.specs.Capacities.{default_capacity}
use Rattle.text_lines.specs.declared.fault.ParseFault.TheVariants as parse
use Rattle.text_lines.specs.declared.fault.TraceFault.{TraceFault}
use Rattle.text_lines.specs.Format.{Format, IsRead, no_lines, skipped, taken, IsFirstFaultyLine, IsReadingFault}
use Rattle.text_lines.specs.Fault.{text_fault_of_parse}
use Rattle.text_lines.specs.LineReading.{Progress, no_progress, HasTaken, IsSettledFault, IsPieceFault}
use Rattle.text_lines.specs.Lines.{lines_of, lines_of_parts, is_line_feed}
use Rattle.text_lines.specs.declared.fault.ParseFault.{ParseFault}
use Rattle.text_lines.proofs.LinesTaken.{AreTaken-none, IsSettledFault-longer}
use Rattle.text_lines.proofs.CutAtLineFeeds.{slice_split_shape, slice_split-append, lines_of_parts-append}
use Rattle.text_lines.proofs.LinesReadOneWay.{read_without_fault}
use Rattle.texts.specs.declared.follow.settings.FollowSettings.{FollowSettings}
use Rattle.texts.proofs.OneTrace.{trace_is_determined}
use Rattle.std.proofs.lemmas.Bool.{cases_lt, eqb-true, eqb-false}
use Rattle.texts.specs.declared.follow.happening.Happening.{Happening}
use Rattle.texts.specs.Happened.{HasHappened, HasHappenedFor, HappenedBy, HappenedAt, happening_of, AreNumbered}
use Rattle.texts.specs.Follow.{told_lines, IsFollowedSoFar}
use Rattle.texts.specs.Trace.Line.{shape_of}
use Rattle.texts.specs.Trace.Place.{Said, nothing_said_in, trace_format}
use Rattle.followed_traces.specs.declared.follow_input.FollowInput.{FollowInput}
use Rattle.followed_traces.specs.Inside.Watched.{ReceiverUnderWay, Watched, starts_watched, HasFollowed}
use Rattle.followed_traces.specs.Inside.Lines.{HasFollowedLines, no_lines_followed, IsAllPut, with_told}
use Rattle.texts.specs.Inside.TraceInput.{TraceState, taking_format, WereTaken}
use Rattle.texts.proofs.HandedLines.{read_alone, faulty_alone}
use Rattle.engines.specs.declared.follow.Follower.{Follower}
use Rattle.engines.specs.declared.fault.EngineFault.{EngineFault}
use Rattle.engines.specs.declared.fault.EngineFault.TheVariants.{Trace, Cut, Capture, OutOfMemory, Read, Write, Usage}
use Rattle.engines.specs.declared.device.Device.{Device}
use Rattle.engines.specs.Device.{inner_of, has_failed}
use Rattle.engines.specs.Engine.{engine_fault}
use Rattle.engines.specs.Transfer.{IsLeftFlushed}
use Rattle.engines.specs.Writing.{IsWritten}
use Rattle.engines.specs.Following.{IsBehind, IsTextOfFront, IsTextOfWhole}
use Rattle.engines.proofs.NumberedHappenings.{all_of, within_more, one_front, few_parts, numbered_nothing, numbered_more}
use Rattle.engines.specs.Inside.Following.{HasFollowedSoFar, HasFollowedBytes, AreWithin, all_at, IsLastLine, IsFollowFault, IsFollowFaultOr, IsEndFault, WritesTill}

-- ---- what was taken, of one taker or of another that stands for as much

pub retaken : {State A B : Type 0} (format : Format State) (start : State) (S : State → A → Type 0) (T : State → B → Type 0) (a : A) (b : B)
    → ((state : State) → S state a → T state b) → (progress : Progress) (bytes : List ℕ) → HasTaken format start S a progress bytes
    → HasTaken format start T b progress bytes
retaken format start S T a b follows progress bytes h = (
  h.0,
  record {
    lines = h.1.lines;
    parts = h.1.parts;
    counted = h.1.counted;
    state = h.1.state;
    read = h.1.read;
    stands = follows h.1.state h.1.stands;
  },
)

-- this was told besides
abbrev watched_more : Watched → List Happening → Watched
watched_more state more = record { told = state.told ++ more; settings = state.settings }

-- lines are read alike whatever was told before
pub read_told : (more : List Happening) {before after : TraceState Watched} {lines : List (List ℕ)} → IsRead taking_format before lines after
    → IsRead taking_format (with_told before more) lines (with_told after more)
read_told more no_lines = no_lines
read_told more (skipped none read) = skipped none (read_told more read)
read_told more (taken takes read) = taken (ap (λ (s : Watched). watched_more s more) takes.0, takes.1, takes.2, takes.3) (read_told more read)

-- more is told of what was taken
pub taken_told : {A B : Type 0} (settings : FollowSettings) (rule : LossRule) (width : Width) (told more : List Happening) (S : TraceState Watched → A → Type 0)
    (T : TraceState Watched → B → Type 0) (a : A) (b : B) (progress : Progress) (bytes : List ℕ)
    → (h : HasTaken taking_format (no_lines_followed settings told rule width) S a progress bytes) → T (with_told h.1.state more) b
    → HasTaken taking_format (no_lines_followed settings (told ++ more) rule width) T b progress bytes
taken_told settings rule width told more S T a b progress bytes h follows = (
  h.0,
  record {
    lines = h.1.lines;
    parts = h.1.parts;
    counted = h.1.counted;
    state = with_told h.1.state more;
    read = read_told more h.1.read;
    stands = follows;
  },
)

-- what is put by some settings is put by them still
pub settings_of : (settings : FollowSettings) (rule : LossRule) (width : Width) (told : List Happening) {lines : List (List ℕ)} {state : TraceState Watched} (follow : FollowInput)
    → IsRead taking_format (no_lines_followed settings told rule width) lines state → HasFollowedLines state follow → follow.settings ≡ settings
settings_of settings rule width told follow read stands = stands.settings ∙ ap (λ (s : Watched). s.settings) (read_alone read).0

-- ---- the text of what was followed

-- nothing happens where no line was read
pub nothing_happened : (rule : LossRule) (width : Width) → HappenedBy rule width [] []
nothing_happened rule width = record { said = nothing_said_in (shape_of width default_capacity); read = no_lines; happened_for = inl (refl, refl) }

-- what was told is what happened
happened_for : (state : TraceState Watched) (follow : FollowInput) → HasFollowedLines state follow → IsAllPut follow.input.taker
    → ((state.said.entries ≡ []) × (state.state.told ≡ [])) ⊎ HasHappenedFor state.rule state.width state.said state.state.told
happened_for state follow has put = by_taker follow.input.taker has.lines.taken put where
  by_taker : (taker : Option ReceiverUnderWay)
      → WereTaken starts_watched HasFollowed state.state state.rule state.width follow.input.setup.setup taker state.said.entries → IsAllPut taker
      → ((state.said.entries ≡ []) × (state.state.told ≡ [])) ⊎ HasHappenedFor state.rule state.width state.said state.state.told
  by_taker None were put = inl (were.1, were.0)
  by_taker (Some now) were put =
      let was = were.1.whole put.1 has.bytes in
      let so_far = was.beside.so_far in
      inr (record {
        setup = follow.input.setup.setup;
        is_setup = record { flows = has.lines.setup.flows; sids = has.lines.setup.sids; mailbox = has.lines.mailbox };
        handed = was.handed;
        entries = record { each = so_far.each; are = was.beside.are };
        given = was.given;
        has_happened =
            subst (λ (happened : List Happening). HasHappened (made_of state.rule state.width.channels follow.input.setup.setup) was.handed was.given happened)
            (ap (λ (rest : List Happening). state.state.told ++ rest) (was.none put.0) ∙ append-nil state.state.told) so_far.has_happened;
      })

-- so where lines were read to what a receiver stands for
pub happened_by : (settings : FollowSettings) (rule : LossRule) (width : Width) (told : List Happening) (lines : List (List ℕ)) (state : TraceState Watched) (follow : FollowInput)
    → IsRead taking_format (no_lines_followed settings told rule width) lines state → HasFollowedLines state follow → IsAllPut follow.input.taker
    → HappenedBy rule width lines told
happened_by settings rule width told lines state follow read stands put =
    let alone = read_alone read in
    let happened = happened_for state follow stands put in
    record {
      said = state.said;
      read = alone.3;
      happened_for =
          subst (λ (watched : Watched). ((state.said.entries ≡ []) × (watched.told ≡ [])) ⊎ HasHappenedFor rule width state.said watched.told) alone.0
          (subst (λ (by : LossRule). ((state.said.entries ≡ []) × (state.state.told ≡ [])) ⊎ HasHappenedFor by width state.said state.state.told) alone.1
          (subst (λ (wide : Width). ((state.said.entries ≡ []) × (state.state.told ≡ [])) ⊎ HasHappenedFor state.rule wide state.said state.state.told) alone.2 happened));
    }

-- so where lines were taken
taken_by : (settings : FollowSettings) (rule : LossRule) (width : Width) (told : List Happening) (follower : Follower) (bytes : List ℕ)
    → (took : HasTaken taking_format (no_lines_followed settings told rule width) HasFollowedSoFar follower follower.lines bytes) → IsAllPut follower.input.input.taker
    → HappenedBy rule width took.1.lines told
taken_by settings rule width told follower bytes took put =
    let are = took.1 in happened_by settings rule width told are.lines are.state follower.input are.read are.stands put

module _ (rule : LossRule) (width : Width) (settings : FollowSettings) where
  -- all whole lines of what was followed were told of
  pub text_so_far : (bytes : List ℕ) (told : List HappenedAt) (follower : Follower) → HasFollowedBytes rule width settings bytes told follower
      → IsTextOfWhole rule width settings bytes (flat_map (told_lines settings) told)
  text_so_far bytes told follower has =
      let are = has.taken.1 in
      record {
        lines = are.lines;
        rest = follower.lines.unfinished;
        parts = are.parts;
        followed = record {
          told = told;
          happened = taken_by settings rule width (map happening_of told) follower bytes has.taken has.put;
          numbered = has.numbered are.lines follower.lines.unfinished are.parts;
          printed = refl;
        };
      }

  -- they are its first lines
  pub front_of_whole : (fault : EngineFault) (bytes text : List ℕ) → (is : IsTextOfWhole rule width settings bytes text) → IsBehind bytes is.lines fault
      → IsTextOfFront rule width settings fault bytes text
  front_of_whole fault bytes text is behind =
      record { lines = is.lines; below = is.rest ∷ []; some = omega arith; parts = is.parts; followed = is.followed; behind = behind }

  -- a line behind which there are more bytes
  behind_longer : (fault : EngineFault) (bytes more : List ℕ) (lines : List (List ℕ)) → IsBehind bytes lines fault → IsBehind (bytes ++ more) lines fault
  behind_longer (Trace fault) bytes more lines is = λ few. is (omega (arith, few, length-append bytes more))
  behind_longer (Cut fault) bytes more lines is = tt
  behind_longer OutOfMemory bytes more lines is = tt
  behind_longer Read bytes more lines is = tt
  behind_longer Write bytes more lines is = tt
  behind_longer Usage bytes more lines is = tt
  behind_longer (Capture fault) bytes more lines is = tt

  -- a list that isn't empty has a last element
  last_of : {A : Type 0} (first : A) (more : List A) → (init : List A) × (last : A) × (first ∷ more ≡ init ++ last ∷ [])
  last_of first [] = ([], first, refl)
  last_of first (next ∷ more) = let rest = last_of next more in (first ∷ rest.0, rest.1, ap (λ xs. first ∷ xs) rest.2)

  -- the first lines of some bytes are the first lines of more
  longer : (fault : EngineFault) (bytes more text : List ℕ) (lines below : List (List ℕ)) → 0 < length below → slice_split is_line_feed bytes ≡ lines ++ below
      → IsFollowedSoFar rule width settings lines text → IsBehind (bytes ++ more) lines fault → IsTextOfFront rule width settings fault (bytes ++ more) text
  longer fault bytes more text lines [] some parts followed behind = absurd (omega (arith, some))
  longer fault bytes more text lines (first ∷ others) some parts followed behind =
      let split = last_of first others in
      let next = slice_split_shape is_line_feed more in
      let cut : slice_split is_line_feed bytes ≡ (lines ++ split.0) ++ split.1 ∷ [] =
      parts ∙ ap (λ xs. lines ++ xs) split.2 ∙ sym (append_assoc lines split.0 (split.1 ∷ [])) in
      let all = slice_split-append is_line_feed bytes more next.0 next.1 next.2 (lines ++ split.0) split.1 cut in
      record {
        lines = lines;
        below = split.0 ++ (split.1 ++ next.0) ∷ next.1;
        some = some_of split.0 (split.1 ++ next.0) next.1;
        parts = all ∙ append_assoc lines split.0 ((split.1 ++ next.0) ∷ next.1);
        followed = followed;
        behind = behind;
      }
    where
      some_of : (init : List (List ℕ)) (last : List ℕ) (rest : List (List ℕ)) → 0 < length (init ++ last ∷ rest)
      some_of [] last rest = omega arith
      some_of (one ∷ init) last rest = omega arith

  pub front_longer : (fault : EngineFault) (bytes more text : List ℕ) → IsTextOfFront rule width settings fault bytes text
      → IsTextOfFront rule width settings fault (bytes ++ more) text
  front_longer fault bytes more text is =
      longer fault bytes more text is.lines is.below is.some is.parts is.followed (behind_longer fault bytes more is.lines is.behind)

  -- the lines above a line that is at fault, of which there is one at most behind those that were
  -- followed
  in_front : (above lines below more : List (List ℕ)) (line : List ℕ) → above ++ line ∷ below ≡ lines ++ more → length above < length lines
      → (rest : List (List ℕ)) × (lines ≡ above ++ line ∷ rest)
  in_front above [] below more line is within = absurd (omega (arith, within))
  in_front [] (one ∷ lines) below more line is within = (lines, cc)
  in_front (other ∷ above) (one ∷ lines) below more line is within =
      let same : other ≡ one = cc in
      let others : above ++ line ∷ below ≡ lines ++ more = cc in
      let rest = in_front above lines below more line others (omega (arith, within)) in
      (rest.0, rw same (ap (λ xs. one ∷ xs) rest.1))

  is_next : (lines more : List (List ℕ)) (said : Said) (fault : TraceFault) → IsRead trace_format (nothing_said_in (shape_of width default_capacity)) lines said
      → IsFirstFaultyLine trace_format (nothing_said_in (shape_of width default_capacity)) (lines ++ more) fault → length more ≤ 1 → fault.line ≡ length lines + 1
  is_next lines more said fault read first few =
      let sizes : length first.above + 1 + length first.below ≡ length lines + length more =
      omega (arith, ap length first.are, length-append lines more, length-append first.above (first.line ∷ first.below)) in
      elim (cases_lt (length first.above) (length lines)) [
        | inl within ↦
            let front = in_front first.above lines first.below more first.line (sym first.are) within in
            absurd (read_without_fault trace_format trace_is_determined (nothing_said_in (shape_of width default_capacity)) lines said fault read (record {
              above = first.above;
              line = first.line;
              below = front.0;
              are = front.1;
              state = first.state;
              read = first.read;
              number = first.number;
              kind = first.kind;
            }))
        | inr past ↦ omega (arith, past, sizes, few, first.number)
      ]

  -- a piece of one line at most brings one line at most
  few_more : (rest first : List ℕ) (others : List (List ℕ)) → length (lines_of_parts (first ∷ others)) ≤ 1 → length (lines_of_parts ((rest ++ first) ∷ others)) ≤ 1
  few_more rest first [] few = few_of_part (length (rest ++ first) == 0) (rest ++ first) where
    few_of_part : (none : Bool) (part : List ℕ) → length (if none then [] else part ∷ []) ≤ 1
    few_of_part true part = omega arith
    few_of_part false part = omega arith
  few_more rest first (next ∷ others) few = omega (arith, few)

  -- so a fault of bytes that goes with it is one of the line behind those that were followed
  pub behind_followed : (bytes piece text : List ℕ) (fault : TraceFault) (is : IsTextOfWhole rule width settings bytes text) → length (lines_of piece) ≤ 1
      → IsFirstFaultyLine trace_format (nothing_said_in (shape_of width default_capacity)) (lines_of (bytes ++ piece)) fault → fault.line ≡ length is.lines + 1
  behind_followed bytes piece text fault is few first =
      let next = slice_split_shape is_line_feed piece in
      let more = lines_of_parts ((is.rest ++ next.0) ∷ next.1) in
      let all : lines_of (bytes ++ piece) ≡ is.lines ++ more =
      ap lines_of_parts (slice_split-append is_line_feed bytes piece next.0 next.1 next.2 is.lines is.rest is.parts)
      ∙ lines_of_parts-append is.lines (is.rest ++ next.0) next.1 in
      let short = few_more is.rest next.0 next.1 (subst (λ (parts : List (List ℕ)). length (lines_of_parts parts) ≤ 1) next.2 few) in
      is_next is.lines more is.followed.happened.said fault is.followed.happened.read
      (subst (λ (lines : List (List ℕ)). IsFirstFaultyLine trace_format (nothing_said_in (shape_of width default_capacity)) lines fault) all first) short

  -- the line of a piece that is at fault
  pub behind_piece : (bytes piece text : List ℕ) (fault : EngineFault) (is : IsTextOfWhole rule width settings bytes text) → length (lines_of piece) ≤ 1
      → IsFollowFault width (bytes ++ piece) fault → IsBehind (bytes ++ piece) is.lines fault
  behind_piece bytes piece text (Trace fault) is few settled = λ short.
      behind_followed bytes piece text fault is few
      (subst (λ (bytes : List ℕ). IsFirstFaultyLine trace_format (nothing_said_in (shape_of width default_capacity)) (lines_of bytes) fault)
      (append-nil (bytes ++ piece)) (settled short []))
  behind_piece bytes piece text (Cut fault) is few settled = tt
  behind_piece bytes piece text OutOfMemory is few settled = tt
  behind_piece bytes piece text Read is few settled = tt
  behind_piece bytes piece text Write is few settled = tt
  behind_piece bytes piece text Usage is few settled = tt
  behind_piece bytes piece text (Capture fault) is few settled = tt

  -- the last line that is at fault
  pub behind_last : (bytes text : List ℕ) (fault : EngineFault) (is : IsTextOfWhole rule width settings bytes text) → IsEndFault width bytes fault
      → IsBehind bytes is.lines fault
  behind_last bytes text (Trace fault) is first = λ short.
      behind_followed bytes [] text fault is (omega arith)
      (subst (λ (bytes : List ℕ). IsFirstFaultyLine trace_format (nothing_said_in (shape_of width default_capacity)) (lines_of bytes) fault)
      (sym (append-nil bytes)) (first short))
  behind_last bytes text (Cut fault) is first = tt
  behind_last bytes text OutOfMemory is first = tt
  behind_last bytes text Read is first = tt
  behind_last bytes text Write is first = tt
  behind_last bytes text Usage is first = tt
  behind_last bytes text (Capture fault) is first = tt

-- ---- why no more was followed

-- a fault of the lines that are handed in is one of the lines
pub settled_alone : (settings : FollowSettings) (told : List Happening) (rule : LossRule) (width : Width) (bytes : List ℕ) (fault : TraceFault)
    → IsSettledFault taking_format (no_lines_followed settings told rule width) bytes (parse.Line fault)
    → IsSettledFault trace_format (nothing_said_in (shape_of width default_capacity)) bytes (parse.Line fault)
settled_alone settings told rule width bytes fault settled = λ more. faulty_alone (no_lines_followed settings told rule width) (lines_of (bytes ++ more)) fault (settled more)

-- ---- a piece more

-- nothing was handed in before the first line
pub followed_nothing : (rule : LossRule) (width : Width) (settings : FollowSettings) (follower : Follower) → follower.input.settings ≡ settings → follower.lines ≡ no_progress
    → HasFollowedSoFar (no_lines_followed settings [] rule width) follower → follower.input.input.taker ≡ None → HasFollowedBytes rule width settings [] [] follower
followed_nothing rule width settings follower same none has begun = record {
  settings_are = same;
  taken =
      subst (λ (progress : Progress). HasTaken taking_format (no_lines_followed settings [] rule width) HasFollowedSoFar follower progress []) (sym none)
      (refl, AreTaken-none taking_format (no_lines_followed settings [] rule width) HasFollowedSoFar follower has);
  within = tt;
  numbered = λ lines rest parts. subst (λ (lines : List (List ℕ)). AreNumbered rule width lines []) (no_line lines rest parts) (numbered_nothing rule width (nothing_happened rule width));
  put = subst IsAllPut (sym begun) tt;
} where
  no_line : (lines : List (List ℕ)) (rest : List ℕ) → [] ∷ [] ≡ lines ++ rest ∷ [] → [] ≡ lines
  no_line [] rest parts = refl
  no_line (line ∷ lines) rest parts = absurd (omega (arith, ap length parts, length-append lines (rest ∷ [])))

-- What was told after a piece of one line at most: what happened by its line, and nothing else.
pub followed_line : (rule : LossRule) (width : Width) (settings : FollowSettings) (bytes piece : List ℕ) (told : List HappenedAt) (before after : Follower)
    (happened : List Happening) (line : ℕ) → HasFollowedBytes rule width settings bytes told before → length (lines_of piece) ≤ 1
    → line ≡ after.lines.count
    → HasTaken taking_format (no_lines_followed settings (map happening_of told ++ happened) rule width) HasFollowedSoFar after after.lines (bytes ++ piece)
    → IsAllPut after.input.input.taker → HasFollowedBytes rule width settings (bytes ++ piece) (told ++ all_at line happened) after
followed_line rule width settings bytes piece told before after happened line has few is took put =
    let was = has.taken.1 in
    let now = took.1 in
    let next = slice_split_shape is_line_feed piece in
    let cut = slice_split-append is_line_feed bytes piece next.0 next.1 next.2 was.lines before.lines.unfinished was.parts in
    let both : was.lines ++ ((before.lines.unfinished ++ next.0) ∷ next.1) ≡ now.lines ++ after.lines.unfinished ∷ [] = sym cut ∙ now.parts in
    let long : length was.lines + 1 + length next.1 ≡ length now.lines + 1 =
    omega (arith, ap length both, length-append was.lines ((before.lines.unfinished ++ next.0) ∷ next.1), length-append now.lines (after.lines.unfinished ∷ [])) in
    let short : length next.1 ≤ 1 =
    few_parts next.0 next.1 (subst (λ (parts : List (List ℕ)). length (lines_of_parts parts) ≤ 1) next.2 few) in
    let told_now = told ++ all_at line happened in
    let taken_now =
    subst (λ (all : List Happening). HasTaken taking_format (no_lines_followed settings all rule width) HasFollowedSoFar after after.lines (bytes ++ piece))
    (sym (all_of told line happened)) took in
    let by =
    subst (λ (all : List Happening). HappenedBy rule width now.lines all) (sym (all_of told line happened))
    (taken_by settings rule width (map happening_of told ++ happened) after (bytes ++ piece) took put) in
    let numbered =
    numbered_more rule width was.lines now.lines ((before.lines.unfinished ++ next.0) ∷ next.1) (after.lines.unfinished ∷ []) told before.lines.count line happened
    (has.numbered was.lines before.lines.unfinished was.parts) has.within (omega (arith, is, was.counted, now.counted, long)) (is ∙ now.counted) both
    (omega (arith, long)) (omega (arith, long, short)) by in
    record {
      settings_are = settings_of settings rule width (map happening_of told ++ happened) after.input now.read now.stands;
      taken = taken_now;
      within = subst (λ (n : ℕ). AreWithin n told_now) is (within_more before.lines.count line told happened has.within (omega (arith, is, was.counted, now.counted, long)));
      numbered = λ lines rest parts.
          subst (λ (lines : List (List ℕ)). AreNumbered rule width lines told_now) (one_front now.lines lines after.lines.unfinished rest (sym now.parts ∙ parts)) numbered;
      put = put;
    }

-- why a piece was not followed
pub fault_of_piece : {Input : Type 0} (S : TraceState Watched → Input → Type 0) (input : Input) (settings : FollowSettings) (rule : LossRule) (width : Width) (bytes piece : List ℕ)
    (told : List Happening) (progress : Progress) (fault : ParseFault) → HasTaken taking_format (no_lines_followed settings told rule width) S input progress bytes
    → IsPieceFault taking_format S input progress piece fault → IsFollowFault width (bytes ++ piece) (engine_fault (text_fault_of_parse fault))
fault_of_piece S input settings rule width bytes piece told progress (parse.Line fault) was is = λ few.
    settled_alone settings told rule width (bytes ++ piece) fault (is (no_lines_followed settings told rule width) bytes was (omega (arith, few, length-append bytes piece)))
fault_of_piece S input settings rule width bytes piece told progress parse.OutOfMemory was is = tt

-- a fault of some bytes is one of more
pub fault_longer : (width : Width) (bytes more : List ℕ) (fault : EngineFault) → IsFollowFault width bytes fault → IsFollowFault width (bytes ++ more) fault
fault_longer width bytes more (Trace fault) is = λ few.
    IsSettledFault-longer trace_format (nothing_said_in (shape_of width default_capacity)) bytes more (parse.Line fault)
    (is (omega (arith, few, length-append bytes more)))
fault_longer width bytes more (Cut fault) is = absurd is
fault_longer width bytes more OutOfMemory is = tt
fault_longer width bytes more Read is = absurd is
fault_longer width bytes more Write is = absurd is
fault_longer width bytes more Usage is = absurd is
fault_longer width bytes more (Capture fault) is = absurd is

-- where nothing more was told of a piece of one line at most, the lines above were told of
pub told_above : (rule : LossRule) (width : Width) (settings : FollowSettings) (bytes piece : List ℕ) (told : List HappenedAt) (follower : Follower) (fault : EngineFault)
    → HasFollowedBytes rule width settings bytes told follower → length (lines_of piece) ≤ 1 → IsFollowFault width (bytes ++ piece) fault
    → IsTextOfFront rule width settings fault (bytes ++ piece) (flat_map (told_lines settings) (told ++ []))
told_above rule width settings bytes piece told follower fault has few is =
    let whole = text_so_far rule width settings bytes told follower has in
    subst (λ (happened : List HappenedAt). IsTextOfFront rule width settings fault (bytes ++ piece) (flat_map (told_lines settings) happened)) (sym (append-nil told))
    (longer rule width settings fault bytes piece (flat_map (told_lines settings) told) whole.lines (whole.rest ∷ []) (omega arith) whole.parts whole.followed
    (behind_piece rule width settings bytes piece (flat_map (told_lines settings) told) fault whole few is))

-- a front of bytes of which two pieces were followed
in_four : (a b c d : List ℕ) → (a ++ b) ++ c ++ d ≡ a ++ (b ++ (c ++ d))
in_four a b c d = append_assoc (a ++ b) c d ∙ append_assoc a b (c ++ d)

pub front_of_two : (rule : LossRule) (width : Width) (settings : FollowSettings) (fault : EngineFault) (bytes first second third : List ℕ) (told happened more : List HappenedAt)
    → IsTextOfFront rule width settings fault ((bytes ++ first) ++ second) (flat_map (told_lines settings) ((told ++ happened) ++ more))
    → IsTextOfFront rule width settings fault (bytes ++ (first ++ (second ++ third))) (flat_map (told_lines settings) (told ++ (happened ++ more)))
front_of_two rule width settings fault bytes first second third told happened more is =
    subst (λ (all : List HappenedAt). IsTextOfFront rule width settings fault (bytes ++ (first ++ (second ++ third))) (flat_map (told_lines settings) all)) (append_assoc told happened more)
    (subst (λ (all : List ℕ). IsTextOfFront rule width settings fault all (flat_map (told_lines settings) ((told ++ happened) ++ more))) (in_four bytes first second third)
    (front_longer rule width settings fault ((bytes ++ first) ++ second) third (flat_map (told_lines settings) ((told ++ happened) ++ more)) is))

pub fault_of_two : (width : Width) (bytes first second third : List ℕ) (fault : EngineFault) → IsFollowFault width ((bytes ++ first) ++ second) fault
    → IsFollowFault width (bytes ++ (first ++ (second ++ third))) fault
fault_of_two width bytes first second third fault is =
    subst (λ (all : List ℕ). IsFollowFault width all fault) (in_four bytes first second third)
    (fault_longer width ((bytes ++ first) ++ second) third fault is)

-- ---- the end

-- why the last line was not read
pub end_fault : (settings : FollowSettings) (rule : LossRule) (width : Width) (told : List Happening) (bytes : List ℕ) (fault : ParseFault)
    → (length bytes < 2 ^ 64 → IsReadingFault taking_format (no_lines_followed settings told rule width) (lines_of bytes) fault)
    → IsEndFault width bytes (engine_fault (text_fault_of_parse fault))
end_fault settings rule width told bytes (parse.Line fault) is = λ few. faulty_alone (no_lines_followed settings told rule width) (lines_of bytes) fault (is few)
end_fault settings rule width told bytes parse.OutOfMemory is = tt

-- the lines of some bytes: those that line feeds end, and what is behind the last of those if there
-- is anything
pub lines_with_last : (bytes : List ℕ) (lines : List (List ℕ)) (rest : List ℕ) → slice_split is_line_feed bytes ≡ lines ++ rest ∷ []
    → lines_of bytes ≡ lines ++ (if length rest == 0 then [] else rest ∷ [])
lines_with_last bytes lines rest parts = ap lines_of_parts parts ∙ lines_of_parts-append lines rest []

-- the number of the last line
pub last_is : (follower : Follower) (line : ℕ)
    → ((length follower.lines.unfinished ≡ 0) × (line ≡ follower.lines.count))
    ⊎ ((0 < length follower.lines.unfinished) × (line ≡ min (follower.lines.count + 1) (2 ^ 64 - 1))) → IsLastLine follower line
last_is follower line is = λ rule width settings bytes told has.
    let are = has.taken.1 in
    let all = lines_with_last bytes are.lines follower.lines.unfinished are.parts in
    by_case are.lines follower.lines.unfinished follower.lines.count line are.counted is (ap length all)
  where
    by_case : (lines : List (List ℕ)) (rest : List ℕ) (count line : ℕ) {all : ℕ} → count ≡ min (length lines) (2 ^ 64 - 1)
        → ((length rest ≡ 0) × (line ≡ count)) ⊎ ((0 < length rest) × (line ≡ min (count + 1) (2 ^ 64 - 1)))
        → all ≡ length (lines ++ (if length rest == 0 then [] else rest ∷ [])) → line ≡ min all (2 ^ 64 - 1)
    by_case lines rest count line {all} counted one is = by_flag (length rest == 0) refl one where
      with_flag : (none : Bool) → (length rest == 0) ≡ none → all ≡ length (lines ++ (if none then [] else rest ∷ []))
      with_flag none e = is ∙ ap (λ (none : Bool). length (lines ++ (if none then [] else rest ∷ []))) e

      by_flag : (none : Bool) → (length rest == 0) ≡ none
          → ((length rest ≡ 0) × (line ≡ count)) ⊎ ((0 < length rest) × (line ≡ min (count + 1) (2 ^ 64 - 1))) → line ≡ min all (2 ^ 64 - 1)
      by_flag true e (inl empty) = omega (arith, counted, empty.1, with_flag true e, length-append lines [])
      by_flag true e (inr some) = absurd (omega (arith, some.0, eqb-true (length rest) 0 e))
      by_flag false e (inl empty) = absurd (eqb-false (length rest) 0 e empty.0)
      by_flag false e (inr some) = omega (arith, counted, some.1, with_flag false e, length-append lines (rest ∷ []))

-- ---- a piece that is written

-- however the lines of a piece were taken, a front of the bytes was followed where the writer
-- failed
pub front_either : (rule : LossRule) (width : Width) (settings : FollowSettings) (bytes piece : List ℕ) (told : List HappenedAt) (follower : Follower) (taken : Result (Unit {0}) EngineFault)
    → MatchResult taken (λ _. HasFollowedBytes rule width settings (bytes ++ piece) told follower)
    (λ fault. IsTextOfFront rule width settings fault (bytes ++ piece) (flat_map (told_lines settings) told) × IsFollowFault width (bytes ++ piece) fault)
    → IsTextOfFront rule width settings Write (bytes ++ piece) (flat_map (told_lines settings) told)
front_either rule width settings bytes piece told follower (Ok done) followed =
    front_of_whole rule width settings Write (bytes ++ piece) (flat_map (told_lines settings) told) (text_so_far rule width settings (bytes ++ piece) told follower followed) tt
front_either rule width settings bytes piece told follower (Err fault) stopped =
    let front = stopped.0 in
    record { lines = front.lines; below = front.below; some = front.some; parts = front.parts; followed = front.followed; behind = tt }

module _ {W : Type 0} (contents : W → Option (List ℕ)) (writer writer' : Device W) where
  -- a fault of the lines, where the text of those above was written
  stopped_by : (width : Width) (bytes text : List ℕ) (done : Unit {0}) (fault : EngineFault) → IsWritten contents text writer writer' (Ok done)
      → IsFollowFault width bytes fault → IsFollowFaultOr contents width bytes fault × WritesTill contents writer writer' text fault
  stopped_by width bytes text done (Trace fault) wrote is = (is, (wrote.written, wrote.left_flushed, wrote.sound))
  stopped_by width bytes text done (Cut fault) wrote is = absurd is
  stopped_by width bytes text done OutOfMemory wrote is = (tt, (wrote.written, wrote.left_flushed, wrote.sound))
  stopped_by width bytes text done Read wrote is = absurd is
  stopped_by width bytes text done Write wrote is = absurd is
  stopped_by width bytes text done Usage wrote is = absurd is
  stopped_by width bytes text done (Capture fault) wrote is = absurd is

  -- what happened by the lines of a piece was written
  pub piece_written : (rule : LossRule) (width : Width) (settings : FollowSettings) (bytes piece : List ℕ) (told happened : List HappenedAt) (follower : Follower)
      (taken : Result (Unit {0}) EngineFault) (done : Unit {0}) → IsWritten contents (flat_map (told_lines settings) happened) writer writer' (Ok done)
      → MatchResult taken (λ _. HasFollowedBytes rule width settings (bytes ++ piece) (told ++ happened) follower)
      (λ fault. IsTextOfFront rule width settings fault (bytes ++ piece) (flat_map (told_lines settings) (told ++ happened)) × IsFollowFault width (bytes ++ piece) fault)
      → MatchResult taken
      (λ _. HasFollowedBytes rule width settings (bytes ++ piece) (told ++ happened) follower
      × Appends (contents (inner_of writer)) (contents (inner_of writer')) (flat_map (told_lines settings) happened) × IsLeftFlushed writer writer'
      × (has_failed writer' ≡ has_failed writer))
      (λ fault. IsTextOfFront rule width settings fault (bytes ++ piece) (flat_map (told_lines settings) (told ++ happened)) × IsFollowFaultOr contents width (bytes ++ piece) fault
      × WritesTill contents writer writer' (flat_map (told_lines settings) happened) fault)
  piece_written rule width settings bytes piece told happened follower (Ok all) done wrote followed = (followed, wrote.written, wrote.left_flushed, wrote.sound)
  piece_written rule width settings bytes piece told happened follower (Err fault) done wrote stopped =
      let both = stopped_by width (bytes ++ piece) (flat_map (told_lines settings) happened) done fault wrote stopped.1 in
      (stopped.0, both.0, both.1)
