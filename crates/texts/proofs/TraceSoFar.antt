-- What a reading has once one more line was read.
use Rattle.std.proofs.Common.{◌≡◌, ◌≢◌, ℕ, ◌<◌, ◌⊎◌, ◌↔◌, inl, inr, ⊎_elim, Bool, true, false, Some, None, cond, List, [], ◌∷◌, ◌++◌, length, get_or, map, refl, sym, ap, ◌∙◌, subst, arith, length-set, append-nil, eq-eqb, ne_eqb}
use Rattle.std.specs.Prelude.{filter_map, Vec, slice_get, vec_len, Result, Ok, Err, MatchResult, OnOk, IfErr}
use Rattle.std.specs.List.{cons_option}
use Rattle.std.specs.declared.alloc.Global.{Global}
use Rattle.std.proofs.Math.ListN.{set}
use Rattle.std.proofs.lemmas.List.{length-map, map-append, map-set, get_or-set_same, get_or-set_other, get_or-map}
use Rattle.std.proofs.lemmas.List.Elements.{filter_map-append}
use Rattle.std.proofs.lemmas.Bool.{cases_eq, false≢true}
use Rattle.docsis_wire.proofs.StreamPlaces.{slice_get-at}
use Rattle.lane.specs.declared.input.Input.{Input}
use Rattle.lane.specs.declared.sids.SidRow.{SidRow}
use Rattle.lane.specs.declared.sids.table.SidTable.{SidTable}
use Rattle.flow_records.specs.declared.decision.Decision.{Decision}
use Rattle.receiver.specs.declared.setup.Lists.{Lists}
use Rattle.receiver.specs.Entries.{Entry, came, decided, tag_of, came_on, decision_in}
use Rattle.receiver.specs.Items.{inputs_on}
use Rattle.lane.specs.Limits.{channel_limit, sid_limit}
use Rattle.lane.specs.Inside.Seen.{HasMarked}
use Rattle.text_lines.specs.declared.fault.TraceKind.{TraceKind}
use Rattle.text_lines.specs.declared.fault.TraceKind.TheVariants.{UnknownFlow, SameSid}
use Rattle.text_lines.specs.declared.fault.LineFault.{LineFault}
use Rattle.text_lines.specs.declared.fault.LineFault.TheVariants as line_fault
use Rattle.text_lines.specs.Inside.LineFault.{IsLineFault}
use Rattle.text_lines.specs.Kinds.{IsLeastFault}
use Rattle.texts.specs.declared.trace.trace_line.TraceLine.{TraceLine}
use Rattle.texts.specs.declared.trace.trace_line.TraceLine.TheVariants as line
use Rattle.texts.specs.declared.trace.reading.Reading.{Reading}
use Rattle.texts.specs.Trace.{AreListsOf}
use Rattle.texts.specs.Trace.Line.{TraceShape, flow_line, sid_line, word_of, Carries}
use Rattle.texts.specs.Trace.Place.{Said, HasFaultAmong, HasLineFault, IsSidAbove, AddsLine, with_line}
use Rattle.texts.specs.Inside.TraceLine.{IsLeastFaultByItself}
use Rattle.texts.specs.Inside.SetupLines.{SetupSoFar, HasSetup, HasMore}
use Rattle.texts.specs.Inside.Reading.{HasRead}
use Rattle.texts.proofs.TraceLines.{IsLate, word_of_late, faultless_in_place, least_in_place, least_by_itself}
use Rattle.texts.proofs.LastElement.{slice_get-pushed, slice_get-front}

-- ---- what has no fault

-- a row of a flow that is there, whose identifier is new
pub sid_without_fault : (said : Said) (row : SidRow) → row.flow < length said.flows → ¬ (IsSidAbove said row.channel row.sid)
    → (kind : TraceKind) → HasFaultAmong said (line.Sid row) kind → ⊥
sid_without_fault said row known new UnknownFlow fault = omega (arith, known, fault)
sid_without_fault said row known new SameSid fault = new fault
sid_without_fault said row known new _ fault = fault

-- what came in on a channel
pub input_without_fault : (said : Said) (channel : ℕ) (input : Input) (kind : TraceKind) → HasFaultAmong said (line.Input channel input) kind → ⊥
input_without_fault said channel input UnknownFlow fault = fault
input_without_fault said channel input _ fault = fault

-- a decision on a flow that is there
pub decision_without_fault : (said : Said) (decision : Decision) → decision.flow < length said.flows → (kind : TraceKind)
    → HasFaultAmong said (line.Gap decision) kind → ⊥
decision_without_fault said decision known UnknownFlow fault = omega (arith, known, fault)
decision_without_fault said decision known _ fault = fault

-- a flow that the setup has is there
pub flow_known : (said : Said) (so_far : SetupSoFar) (flow : ℕ) → HasSetup said so_far → flow < vec_len so_far.setup.flows → flow < length said.flows
flow_known said so_far flow has below = omega (arith, below, so_far.setup.flows.ok.0, ap length has.flows)

-- ---- the lists

-- one tag more
pub tags-pushed : (tags : List ℕ) (entries : List Entry) (entry : Entry) → tags ≡ map tag_of entries
    → tags ++ tag_of entry ∷ [] ≡ map tag_of (entries ++ entry ∷ [])
tags-pushed tags entries entry is = ap (λ tags. tags ++ tag_of entry ∷ []) is ∙ sym (map-append tag_of entries (entry ∷ []))

-- one decision more
pub AreListsOf-decision : (entries : List Entry) (before after : Lists) (decision : Decision) → AreListsOf entries before
    → after.inputs ≡ before.inputs
    → after.decisions.items ≡ before.decisions.items ++ decision ∷ [] → AreListsOf (entries ++ decided decision ∷ []) after
AreListsOf-decision entries before after decision are same pushed = record {
  channels = ap length same ∙ are.channels;
  inputs = λ channel below.
      ap (λ inputs. get_or (map (λ list. list.items) inputs) channel []) same ∙ are.inputs channel below
      ∙ sym (append-nil (filter_map (came_on channel) entries))
      ∙ sym (filter_map-append (came_on channel) entries (decided decision ∷ []));
  decisions = pushed ∙ ap (λ items. items ++ decision ∷ []) are.decisions ∙ sym (filter_map-append decision_in entries (decided decision ∷ []));
}

-- one input more of its channel
pub came_on-same : (entries : List Entry) (channel : ℕ) (input : Input)
    → filter_map (came_on channel) (entries ++ came channel input ∷ []) ≡ filter_map (came_on channel) entries ++ input ∷ []
came_on-same entries channel input =
    filter_map-append (came_on channel) entries (came channel input ∷ [])
    ∙ ap (λ b. filter_map (came_on channel) entries ++ cons_option (cond b (Some input) None) []) (eq-eqb channel channel refl)

-- and of no other
pub came_on-other : (entries : List Entry) (channel other : ℕ) (input : Input) → other ≢ channel
    → filter_map (came_on channel) (entries ++ came other input ∷ []) ≡ filter_map (came_on channel) entries
came_on-other entries channel other input apart =
    filter_map-append (came_on channel) entries (came other input ∷ [])
    ∙ ap (λ b. filter_map (came_on channel) entries ++ cons_option (cond b (Some input) None) []) (ne_eqb other channel apart)
    ∙ append-nil (filter_map (came_on channel) entries)

-- the items of the lists of channels
abbrev items_of_each : List (Vec Input Global) → List (List Input)
items_of_each lists = map (λ list. list.items) lists

-- one list is another now
items-set_same : (lists : List (Vec Input Global)) (channel : ℕ) (list : Vec Input Global) → channel < length lists
    → get_or (items_of_each (set lists channel list)) channel [] ≡ list.items
items-set_same lists channel list within =
    ap (λ items. get_or items channel []) (map-set (λ one. one.items) lists channel list)
    ∙ get_or-set_same (items_of_each lists) channel list.items [] (rw (length-map lists (λ one. one.items)) within)

items-set_other : (lists : List (Vec Input Global)) (channel other : ℕ) (list : Vec Input Global) → other ≢ channel
    → get_or (items_of_each (set lists channel list)) other [] ≡ get_or (items_of_each lists) other []
items-set_other lists channel other list apart =
    ap (λ items. get_or items other []) (map-set (λ one. one.items) lists channel list)
    ∙ get_or-set_other (items_of_each lists) channel other list.items [] apart

-- one input more on a channel, whose list is at this place
pub AreListsOf-input : (entries : List Entry) (before after : Lists) (channel : ℕ) (input : Input) (place : ℕ) (was list : Vec Input Global)
    → AreListsOf entries before → channel < channel_limit → place ≡ channel → after.inputs ≡ set before.inputs place list
    → list.items ≡ (get_or before.inputs place was).items ++ input ∷ []
    → after.decisions.items ≡ before.decisions.items → AreListsOf (entries ++ came channel input ∷ []) after
AreListsOf-input entries before after channel input place was list are below here at pushed same = record {
  channels = ap length at ∙ length-set before.inputs place list ∙ are.channels;
  inputs = λ other other_below. ap (λ inputs. get_or (items_of_each inputs) other []) at ∙
      ⊎_elim
      (λ (same_place : other ≡ place). rw (same_place, here) (rw here at now))
      (λ (apart : other ≢ place).
      items-set_other before.inputs place other list apart ∙ are.inputs other other_below
      ∙ sym (came_on-other entries other channel input (λ back. apart (sym back ∙ sym here))))
      (cases_eq other place);
  decisions = same ∙ are.decisions ∙ sym (append-nil (filter_map decision_in entries))
      ∙ sym (filter_map-append decision_in entries (came channel input ∷ []));
} where
  within : place < length before.inputs
  within = omega (arith, are.channels, below, here)

  was_are : (get_or before.inputs place was).items ≡ filter_map (came_on channel) entries
  was_are = sym (get_or-map (λ one. one.items) before.inputs place was [] within) ∙ ap (λ k. inputs_on before k) here ∙ are.inputs channel below

  now : get_or (items_of_each (set before.inputs place list)) place [] ≡ filter_map (came_on channel) (entries ++ came channel input ∷ [])
  now = items-set_same before.inputs place list within ∙ pushed ∙ ap (λ items. items ++ input ∷ []) was_are ∙ sym (came_on-same entries channel input)

-- ---- the service identifiers that were seen

-- one row more
pub IsSidAbove-pushed : (said : Said) (row : SidRow) (channel sid : ℕ)
    → IsSidAbove (with_line said (line.Sid row)) channel sid ↔ (IsSidAbove said channel sid ⊎ ((channel ≡ row.channel) × (sid ≡ row.sid)))
IsSidAbove-pushed said row channel sid = (
  λ is. ⊎_elim
      (λ above. inl (record { k = is.k; row = is.row; above = above; channel_is = is.channel_is; sid_is = is.sid_is }))
      (λ last. inr (sym is.channel_is ∙ ap (λ one. one.channel) last.1, sym is.sid_is ∙ ap (λ one. one.sid) last.1))
      (slice_get-pushed said.sids row is.k is.row is.above),
  ⊎_elim
      (λ is.
      let above = slice_get-front said.sids row is.k is.row is.above in
      record { k = is.k; row = is.row; above = above; channel_is = is.channel_is; sid_is = is.sid_is })
      (λ same. record { k = length said.sids; row = row; above = slice_get-at said.sids row []; channel_is = sym same.0; sid_is = sym same.1 }),
)

-- what is above is said by the rows alone
pub seen-kept : (said other : Said) (seen : SidTable) → other.sids ≡ said.sids
    → ((channel sid : ℕ) → sid < sid_limit → HasMarked seen channel sid ↔ IsSidAbove said channel sid)
    → (channel sid : ℕ) → sid < sid_limit → HasMarked seen channel sid ↔ IsSidAbove other channel sid
seen-kept said other seen same was channel sid small = (
  λ has.
      let is = (was channel sid small).0 has in
      let above = ap (λ rows. slice_get rows is.k) same ∙ is.above in
      record { k = is.k; row = is.row; above = above; channel_is = is.channel_is; sid_is = is.sid_is },
  λ is.
      let above = ap (λ rows. slice_get rows is.k) (sym same) ∙ is.above in
      (was channel sid small).1 (record { k = is.k; row = is.row; above = above; channel_is = is.channel_is; sid_is = is.sid_is }),
)

-- what was seen before and the row's identifier are what is above
pub seen-pushed : (said : Said) (row : SidRow) (before after : SidTable)
    → ((channel sid : ℕ) → sid < sid_limit → HasMarked before channel sid ↔ IsSidAbove said channel sid)
    → ((channel sid : ℕ) → sid < sid_limit → HasMarked after channel sid ↔ (HasMarked before channel sid ⊎ ((channel ≡ row.channel) × (sid ≡ row.sid))))
    → (channel sid : ℕ) → sid < sid_limit → HasMarked after channel sid ↔ IsSidAbove (with_line said (line.Sid row)) channel sid
seen-pushed said row before after was inserted channel sid small = (
  λ seen. (IsSidAbove-pushed said row channel sid).1
      (⊎_elim (λ old. inl ((was channel sid small).0 old)) (λ new. inr new) ((inserted channel sid small).0 seen)),
  λ above. (inserted channel sid small).1
      (⊎_elim (λ old. inl ((was channel sid small).1 old)) (λ new. inr new) ((IsSidAbove-pushed said row channel sid).0 above)),
)

-- ---- a line in its place

-- each input line above has its tag
pub count-tags : (said : Said) (reading : Reading) → HasRead said reading → vec_len reading.tags ≡ length said.entries
count-tags said reading has = omega (arith, reading.tags.ok.0, ap length has.tags, length-map said.entries tag_of)

-- a line that is not found late is not late
pub not_late : (said : Said) (reading : Reading) (word : List ℕ) (after : List (List ℕ)) (late : Bool) → HasRead said reading
    → (((word ≡ word_of flow_line) ⊎ (word ≡ word_of sid_line)) × (0 < vec_len reading.tags) → late ≡ true) → late ≡ false
    → IsLate said (word ∷ after) → ⊥
not_late said reading word after late has found not is =
    let some = is.1 in
    let yes : late ≡ true = found (word_of_late word after is.0, omega (arith, count-tags said reading has, some)) in
    false≢true (sym not ∙ yes)

-- what fields carry they carry as well by other names
pub carried_as : (shape other : TraceShape) (fields : List (List ℕ)) (line : TraceLine) → shape ≡ other → Carries shape fields line → Carries other fields line
carried_as shape other fields line same carries = subst (λ (shape : TraceShape). Carries shape fields line) same carries

module _ (said : Said) (fields : List (List ℕ)) (early : IsLate said fields → ⊥) (line : TraceLine) (carries : Carries said.shape fields line)
    (Has : Said → Type 0) where
  -- what a line says is added, so the line is taken
  pub taken_in_place : (result : Result (Unit {0}) LineFault)
      → MatchResult result (λ _. HasMore Has said line) (IsLineFault (IsLeastFault (HasFaultAmong said line)))
      → OnOk result ((next : Said) × (AddsLine said fields next × ((kind : TraceKind) → ¬ (HasLineFault said fields kind))) × Has next)
  taken_in_place (Ok none) reads = (
    with_line said line,
    (record { line = line; carries = carries; added = refl }, faultless_in_place said fields early line carries reads.faultless),
    reads.has,
  )
  taken_in_place (Err fault) reads = tt

  -- or its least fault is that of the line
  pub refused_in_place : (result : Result (Unit {0}) LineFault)
      → MatchResult result (λ _. HasMore Has said line) (IsLineFault (IsLeastFault (HasFaultAmong said line)))
      → IfErr result (IsLineFault (IsLeastFault (HasLineFault said fields)))
  refused_in_place (Ok none) reads = tt
  refused_in_place (Err (line_fault.Kind kind)) reads = least_in_place said fields early line carries kind reads
  refused_in_place (Err line_fault.OutOfMemory) reads = tt

-- the line has a fault by itself, which is its least
pub refused_by_itself : (said : Said) (fields : List (List ℕ)) (early : IsLate said fields → ⊥) (fault : LineFault)
    → IsLineFault (IsLeastFaultByItself said.shape fields) fault
    → IsLineFault (IsLeastFault (HasLineFault said fields)) fault
refused_by_itself said fields early (line_fault.Kind kind) least = least_by_itself said fields early kind least
refused_by_itself said fields early line_fault.OutOfMemory least = tt
