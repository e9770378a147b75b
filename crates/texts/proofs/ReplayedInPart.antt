-- What was replayed for some flows of the lines of a trace, with one line more.
use Rattle.std.proofs.Common.{◌≡◌, ℕ, ◌<◌, ◌⊎◌, inl, inr, Bool, false, Option, Some, List, [], ◌∷◌, ◌++◌, length, map, get_or, refl, sym, ap, subst, ◌∙◌, arith}
use Rattle.std.specs.Prelude.{None, Result, Ok, Err, OnOk, IfErr, IfSome, MatchResult}
use Rattle.std.specs.Option.{option_map}
use Rattle.std.proofs.lemmas.List.{length-map, nil_from_length}
use Rattle.docsis_wire.specs.declared.header_check.NoCheck.{NoCheck}
use Rattle.flow_selection.specs.declared.selection.Selection.{Selection}
use Rattle.flow_selection.specs.Selection.{is_selected}
use Rattle.flow_records.specs.declared.record.FlowRecord.{FlowRecord}
use Rattle.lane.specs.declared.admitted.Admitted.{Admitted}
use Rattle.lane.specs.declared.input.Input.{Input}
use Rattle.lane.specs.declared.sids.SidRow.{SidRow}
use Rattle.lane.specs.Inputs.{LaneSetup, AreAnswered, IsAnswer}
use Rattle.loss_rule.specs.declared.rule.LossRule.{LossRule}
use Rattle.receiver.specs.declared.outcome.Outcome.{Outcome}
use Rattle.receiver.specs.declared.setup.Setup.{Setup}
use Rattle.receiver.specs.AdmittedOrder.{IsAdmittedOrder}
use Rattle.receiver.specs.Items.{lane_setup}
use Rattle.receiver.specs.Replaying.{IsBoundFor}
use Rattle.receiver.specs.declared.replaying.Replaying.{Replaying}
use Rattle.receiver.specs.declared.width.Width.{Width}
use Rattle.receiver.specs.Entries.{Entry, came, decided, tag_of, incoming_in}
use Rattle.text_lines.specs.declared.fault.LineFault.{LineFault}
use Rattle.text_lines.specs.declared.fault.LineFault.TheVariants as line_fault
use Rattle.text_lines.specs.declared.fault.TraceKind.{TraceKind}
use Rattle.text_lines.specs.declared.fault.TraceKind.TheVariants.{UnknownLine, SetupLate, FieldCount, BadNumber, BadWord, NotHex, UnknownFlow, TooManyFlows, SameFlow, SameSid, TooShort, PointerPast}
use Rattle.text_lines.specs.Inside.LineFault.{IsLineFault}
use Rattle.text_lines.specs.Kinds.{IsLeastFault}
use Rattle.texts.specs.declared.trace.trace_line.TraceLine.{TraceLine}
use Rattle.texts.specs.declared.trace.trace_line.TraceLine.TheVariants as line
use Rattle.texts.specs.Trace.Line.{Carries, flow_line, sid_line, burst_line, word_of}
use Rattle.texts.specs.Trace.Place.{Said, HasFaultAmong, SaysFaulty, HasLineFault, with_line}
use Rattle.texts.specs.Replay.{IsSetupOf, IsPlayedBy}
use Rattle.texts.specs.Inside.InPlace.{said_lane, IsInPlaceOf, IsBoundElsewhere, AreInPlace, with_entries, other_lines, HasReplayedInPart, IsPlayedInPart}
use Rattle.texts.specs.Inside.Replayed.{HasReplayedLines, would_be_replayed}
use Rattle.texts.specs.Inside.SetupLines.{SetupSoFar, HasSetup, HasMore}
use Rattle.texts.specs.Inside.StandIn.{IsForAnother, MayStandFor}
use Rattle.texts.specs.Inside.TraceInput.{TraceState, taking_format}
use Rattle.texts.proofs.TraceLines.{IsLate, word_of_late, faultless_in_place}
use Rattle.texts.proofs.TraceSoFar.{input_without_fault}
use Rattle.texts.proofs.StandInEntries.{itself, of_another, nothing_in_place, input_in_place, decision_in_place}

-- ---- faults don't depend on what entries say

-- what a line says has the same faults behind other entries
fault_among : (said : Said) (entries : List Entry) (one : TraceLine) (kind : TraceKind) → HasFaultAmong said one kind → HasFaultAmong (with_entries said entries) one kind
fault_among said entries (line.Flow flow_record) UnknownFlow fault = fault
fault_among said entries (line.Sid row) UnknownFlow fault = fault
fault_among said entries (line.Input channel input) UnknownFlow fault = fault
fault_among said entries (line.Gap decision) UnknownFlow fault = fault
fault_among said entries (line.Flow flow_record) TooManyFlows fault = fault
fault_among said entries (line.Sid row) TooManyFlows fault = fault
fault_among said entries (line.Input channel input) TooManyFlows fault = fault
fault_among said entries (line.Gap decision) TooManyFlows fault = fault
fault_among said entries (line.Flow flow_record) SameFlow fault = fault
fault_among said entries (line.Sid row) SameFlow fault = fault
fault_among said entries (line.Input channel input) SameFlow fault = fault
fault_among said entries (line.Gap decision) SameFlow fault = fault
fault_among said entries (line.Flow flow_record) SameSid fault = fault
fault_among said entries (line.Sid row) SameSid fault = record { k = fault.k; row = fault.row; above = fault.above; channel_is = fault.channel_is; sid_is = fault.sid_is }
fault_among said entries (line.Input channel input) SameSid fault = fault
fault_among said entries (line.Gap decision) SameSid fault = fault
fault_among said entries one _ fault = fault

says_faulty : (said : Said) (entries : List Entry) (fields : List (List ℕ)) (kind : TraceKind) → SaysFaulty said fields kind → SaysFaulty (with_entries said entries) fields kind
says_faulty said entries fields kind says = record { line = says.line; carries = says.carries; faulty = fault_among said entries says.line kind says.faulty }

-- and a line the same ones behind as many
fault_of_line : (said : Said) (entries : List Entry) (fields : List (List ℕ)) (kind : TraceKind) → length said.entries ≡ length entries → HasLineFault said fields kind
    → HasLineFault (with_entries said entries) fields kind
fault_of_line said entries fields UnknownLine many fault = fault
fault_of_line said entries fields SetupLate many fault = (fault.0, let some = fault.1 in omega arith)
fault_of_line said entries fields FieldCount many fault = fault
fault_of_line said entries fields BadNumber many fault = fault
fault_of_line said entries fields BadWord many fault = fault
fault_of_line said entries fields NotHex many fault = fault
fault_of_line said entries fields UnknownFlow many fault = says_faulty said entries fields UnknownFlow fault
fault_of_line said entries fields TooManyFlows many fault = says_faulty said entries fields TooManyFlows fault
fault_of_line said entries fields SameFlow many fault = says_faulty said entries fields SameFlow fault
fault_of_line said entries fields SameSid many fault = says_faulty said entries fields SameSid fault
fault_of_line said entries fields TooShort many fault = fault
fault_of_line said entries fields PointerPast many fault = fault

-- so the least one is the same
pub least_fault : (said : Said) (entries : List Entry) (fields : List (List ℕ)) (fault : LineFault) → length said.entries ≡ length entries
    → IsLineFault (IsLeastFault (HasLineFault (with_entries said entries) fields)) fault → IsLineFault (IsLeastFault (HasLineFault said fields)) fault
least_fault said entries fields (line_fault.Kind kind) many least =
    (fault_of_line (with_entries said entries) said.entries fields kind (sym many) least.0, λ other less fault. least.1 other less (fault_of_line said entries fields other many fault))
least_fault said entries fields line_fault.OutOfMemory many least = tt

pub no_fault : (said : Said) (entries : List Entry) (fields : List (List ℕ)) → length said.entries ≡ length entries
    → ((kind : TraceKind) → ¬ (HasLineFault (with_entries said entries) fields kind)) → (kind : TraceKind) → ¬ (HasLineFault said fields kind)
no_fault said entries fields many none kind fault = none kind (fault_of_line said entries fields kind many fault)

-- entries that stand in for others are as many
pub as_many : (selected : ℕ → Bool) (entries : List Entry) (said : Said) → AreInPlace selected entries said → length entries ≡ length said.entries
as_many selected entries said is = sym (length-map entries tag_of) ∙ ap length (sym is.tags) ∙ length-map said.entries tag_of

-- ---- one line more

-- entries that aren't some are none
without_entries : (entries : List Entry) → ¬ (0 < length entries) → entries ≡ []
without_entries entries none = nil_from_length entries (omega (arith, none))

-- entries that stand in where one line more is read
lines_in_place : (selected : ℕ → Bool) (said : Said) (others : List Entry) (fields : List (List ℕ)) (one : TraceLine)
    → AreInPlace selected said.entries (with_entries said others) → Carries said.shape fields one → ((kind : TraceKind) → ¬ (HasLineFault said fields kind))
    → (more : List Entry) × (with_line (with_entries said others) one ≡ with_entries (with_line said one) more)
    × AreInPlace selected (with_line said one).entries (with_entries (with_line said one) more)
lines_in_place selected said others fields (line.Flow flow_record) is carries none =
    let no_entries = without_entries said.entries (λ some. none SetupLate (record { form = flow_line; after = carries.after; are = carries.are; sets_up = inl refl }, some)) in
    let many = as_many selected said.entries (with_entries said others) is in
    let no_others = without_entries others (λ some. let zero = ap length no_entries in omega arith) in
    (others, refl, nothing_in_place selected said.entries (with_entries (with_line said (line.Flow flow_record)) others) no_entries no_others)
lines_in_place selected said others fields (line.Sid row) is carries none =
    let no_entries = without_entries said.entries (λ some. none SetupLate (record { form = sid_line; after = carries.after; are = carries.are; sets_up = inr refl }, some)) in
    let many = as_many selected said.entries (with_entries said others) is in
    let no_others = without_entries others (λ some. let zero = ap length no_entries in omega arith) in
    (others, refl, nothing_in_place selected said.entries (with_entries (with_line said (line.Sid row)) others) no_entries no_others)
lines_in_place selected said others fields (line.Input channel input) is carries none = (
  others ++ came channel input ∷ [],
  refl,
  input_in_place selected said.entries (with_entries said others) is channel input input (itself selected (with_entries said others) channel input),
)
lines_in_place selected said others fields (line.Gap decision) is carries none =
    (others ++ decided decision ∷ [], refl, decision_in_place selected said.entries (with_entries said others) is decision)

-- a line was taken that doesn't say a burst
pub taken_in_part : (before : TraceState Selection) (selected : Selection) (width width' : Width) (rule rule' : LossRule) (so_far so_far' : SetupSoFar)
    (taker taker' : Option (Replaying NoCheck)) (fields : List (List ℕ)) (result : Result (Unit {0}) LineFault)
    → ((state : TraceState (Unit {0})) → HasReplayedLines state width rule so_far taker
    → OnOk result ((after : TraceState (Unit {0})) × taking_format.Takes state fields after × HasReplayedLines after width' rule' so_far' taker'))
    → HasReplayedInPart before selected width rule so_far taker
    → OnOk result ((after : TraceState Selection) × taking_format.Takes before fields after × HasReplayedInPart after selected width' rule' so_far' taker')
taken_in_part before selected width width' rule rule' so_far so_far' taker taker' fields (Err fault) takes has = tt
taken_in_part before selected width width' rule rule' so_far so_far' taker taker' fields (Ok done) takes has =
    let chosen = is_selected before.state in
    let many = as_many chosen before.said.entries (with_entries before.said has.others) has.in_place in
    let took = takes (other_lines before has.others) has.replayed in
    let adds = took.1.3.0 in
    let none = no_fault before.said has.others fields many took.1.3.1 in
    let more = lines_in_place chosen before.said has.others fields adds.line has.in_place adds.carries none in
    let after : TraceState Selection = record before { said = with_line before.said adds.line } in
    let is : took.0 ≡ other_lines after more.0 =
    ap (λ (r : LossRule). let s : TraceState (Unit {0}) = record { state = tt; rule = r; width = took.0.width; said = took.0.said } in s) took.1.1
    ∙ ap (λ (w : Width). let s : TraceState (Unit {0}) = record { state = tt; rule = before.rule; width = w; said = took.0.said } in s) took.1.2
    ∙ ap (λ (said : Said). let s : TraceState (Unit {0}) = record { state = tt; rule = before.rule; width = before.width; said = said } in s) (adds.added ∙ more.1) in (
      after,
      (refl, refl, refl, (record { line = adds.line; carries = adds.carries; added = refl }, none)),
      record {
        selected_is = has.selected_is;
        others = more.0;
        in_place = more.2;
        replayed = subst (λ (s : TraceState (Unit {0})). HasReplayedLines s width' rule' so_far' taker') is took.2;
      },
    )

pub refused_in_part : (before : TraceState Selection) (selected : Selection) (width : Width) (rule : LossRule) (so_far : SetupSoFar)
    (taker : Option (Replaying NoCheck)) (fields : List (List ℕ)) (result : Result (Unit {0}) LineFault)
    → ((state : TraceState (Unit {0})) → HasReplayedLines state width rule so_far taker → IfErr result (IsLineFault (taking_format.HasFault state fields)))
    → HasReplayedInPart before selected width rule so_far taker → IfErr result (IsLineFault (taking_format.HasFault before fields))
refused_in_part before selected width rule so_far taker fields (Ok done) faults has = tt
refused_in_part before selected width rule so_far taker fields (Err fault) faults has =
    let many = as_many (is_selected before.state) before.said.entries (with_entries before.said has.others) has.in_place in
    least_fault before.said has.others fields fault many (faults (other_lines before has.others) has.replayed)

-- ---- whose a burst is

-- the lane of a channel by the setup that lines give, and by what they say
same_lane : (said : Said) (setup : Setup) (channel : ℕ) → setup.flows.items ≡ said.flows → setup.sids.items ≡ said.sids
    → lane_setup setup channel ≡ said_lane said channel
same_lane said setup channel flows sids =
    ap (λ (rows : List SidRow). let lane : LaneSetup = record { channel = channel; rows = rows; records = setup.flows.items } in lane) sids
    ∙ ap (λ (records : List FlowRecord). let lane : LaneSetup = record { channel = channel; rows = said.sids; records = records } in lane) flows

-- nothing of a burst comes to a selected flow where its lane says so
pub bound_elsewhere : (selected : ℕ → Bool) (said : Said) (so_far : SetupSoFar) (channel : ℕ) (input : Input) (looked : Option ℕ) → HasSetup said so_far
    → IsBoundFor so_far.setup said.entries channel input looked → ((flow : ℕ) → looked ≡ Some flow → selected flow ≡ false) → IsBoundElsewhere selected said channel input
bound_elsewhere selected said so_far channel input looked has bound other answered answer admitted are is gives =
    let lane = sym (same_lane said so_far.setup channel has.flows has.sids) in
    let flow = bound answered answer (record { answers = subst (λ (l : LaneSetup). AreAnswered l answered) lane are.answers; inputs = are.inputs })
    (subst (λ (l : LaneSetup). IsAnswer l answered input answer) lane is) in
    other admitted.flow (sym flow ∙ ap (option_map (λ (a : Admitted). a.flow)) gives)

-- what may stand in for a burst where lines were replayed stands in its place
pub in_its_place : (selected : ℕ → Bool) (state : TraceState (Unit {0})) (width : Width) (rule : LossRule) (so_far : SetupSoFar) (taker : Option (Replaying NoCheck))
    → HasReplayedLines state width rule so_far taker → (channel : ℕ) (came_in input : Input) → MayStandFor would_be_replayed selected taker channel came_in input
    → IsInPlaceOf selected state.said channel came_in input
in_its_place selected state width rule so_far taker has channel came_in input (inl same) =
    subst (λ (other : Input). IsInPlaceOf selected state.said channel came_in other) (sym same) (itself selected state.said channel came_in)
in_its_place selected state width rule so_far taker has channel came_in input (inr another) =
    of_another selected state.said channel came_in input another.0 (away taker has another.1)
  where
    away : (taker : Option (Replaying NoCheck)) → HasReplayedLines state width rule so_far taker → IsForAnother would_be_replayed selected taker channel input
        → IsBoundElsewhere selected state.said channel input
    away None has is = absurd is
    away (Some replaying) has is =
        bound_elsewhere selected state.said so_far channel input is.0 has.setup (is.1 state.rule so_far.setup state.said.entries has.taken.1)
        (λ flow looked. subst (λ (found : Option ℕ). IfSome found (λ k. selected k ≡ false)) looked is.2)

-- what lines give, where this is given for the others
pub played_in_part : (given : TraceState Selection) (selected : Selection) (width : Width) (rule : LossRule) (so_far : SetupSoFar) (taker : Option (Replaying NoCheck))
    (has : HasReplayedInPart given selected width rule so_far taker) (outcome : Outcome) → IsPlayedBy given.rule (other_lines given has.others).said outcome
    → IsPlayedInPart given.state given.rule given.said outcome
played_in_part given selected width rule so_far taker has outcome played = record {
  setup = played.setup;
  given = record { flows = is.flows; sids = is.sids; mailbox = is.mailbox };
  other = incoming_in has.others;
  differs = record {
    answered = admitted.answered;
    lanes = admitted.lanes;
    inputs = λ channel below.
        let lane = admitted.lanes channel below in
        has.in_place.inputs channel below (admitted.answered channel)
        (record {
          answers = subst (λ (l : LaneSetup). AreAnswered l (admitted.answered channel)) (same_lane given.said played.setup channel is.flows is.sids) lane.answers;
          inputs = lane.inputs;
        });
    decisions = sym has.in_place.decisions;
  };
  order = played.order;
  admitted = subst (λ (tags : List ℕ). IsAdmittedOrder played.setup (incoming_in has.others) tags played.order) has.in_place.tags admitted;
  answered = played.answered;
}
  where
    is : IsSetupOf (other_lines given has.others).said played.setup
    is = played.given

    admitted : IsAdmittedOrder played.setup (incoming_in has.others) (map tag_of has.others) played.order
    admitted = played.admitted

-- ---- a burst

-- the line of a burst sets nothing up
pub burst_early : (said : Said) (words : List (List ℕ)) → IsLate said (word_of burst_line ∷ words) → ⊥
burst_early said words late = none (word_of_late (word_of burst_line) words late.0)
  where
    none : (word_of burst_line ≡ word_of flow_line) ⊎ (word_of burst_line ≡ word_of sid_line) → ⊥
    none (inl is) = absurd (omega (arith, ap (λ (word : List ℕ). get_or word 0 0) is))
    none (inr is) = absurd (omega (arith, ap (λ (word : List ℕ). get_or word 0 0) is))

-- a burst was taken, or an input that stands in for it
pub burst_taken : (before : TraceState Selection) (selected : Selection) (width : Width) (rule : LossRule) (so_far : SetupSoFar) (taker : Option (Replaying NoCheck))
    (has : HasReplayedInPart before selected width rule so_far taker) (width' : Width) (rule' : LossRule) (so_far' : SetupSoFar) (taker' : Option (Replaying NoCheck))
    (words : List (List ℕ)) (channel : ℕ) (input other : Input) → Carries before.said.shape (word_of burst_line ∷ words) (line.Input channel input)
    → IsInPlaceOf (is_selected before.state) (other_lines before has.others).said channel input other → (result : Result (Unit {0}) LineFault)
    → MatchResult result (λ _. HasMore (λ more. HasReplayedLines (record (other_lines before has.others) { said = more }) width' rule' so_far' taker') (other_lines before has.others).said (line.Input channel other))
    (IsLineFault (IsLeastFault (HasFaultAmong (other_lines before has.others).said (line.Input channel other))))
    → OnOk result ((after : TraceState Selection) × taking_format.Takes before (word_of burst_line ∷ words) after × HasReplayedInPart after selected width' rule' so_far' taker')
burst_taken before selected width rule so_far taker has width' rule' so_far' taker' words channel input other carries in_place (Err fault) more = tt
burst_taken before selected width rule so_far taker has width' rule' so_far' taker' words channel input other carries in_place (Ok done) more = (
  record before { said = with_line before.said (line.Input channel input) },
  (
    refl,
    refl,
    refl,
    (
      record { line = line.Input channel input; carries = carries; added = refl },
      faultless_in_place before.said (word_of burst_line ∷ words) (burst_early before.said words) (line.Input channel input) carries (input_without_fault before.said channel input),
    ),
  ),
  record {
    selected_is = has.selected_is;
    others = has.others ++ came channel other ∷ [];
    in_place = input_in_place (is_selected before.state) before.said.entries (with_entries before.said has.others) has.in_place channel input other in_place;
    replayed = more.has;
  },
)

-- no fault of it is left but that an allocation failed
pub burst_not_taken : (said : Said) (fields : List (List ℕ)) (others : Said) (channel : ℕ) (other : Input) (Has : Said → Type 0) (result : Result (Unit {0}) LineFault)
    → MatchResult result (λ _. HasMore Has others (line.Input channel other)) (IsLineFault (IsLeastFault (HasFaultAmong others (line.Input channel other))))
    → IfErr result (IsLineFault (IsLeastFault (HasLineFault said fields)))
burst_not_taken said fields others channel other Has (Ok done) more = tt
burst_not_taken said fields others channel other Has (Err (line_fault.Kind kind)) more = absurd (input_without_fault others channel other kind more.0)
burst_not_taken said fields others channel other Has (Err line_fault.OutOfMemory) more = tt
