-- What the lines of a trace say passes the checks of a receiver's setup.
use Rattle.std.proofs.Common.{◌≡◌, ℕ, ◌<◌, ◌≤◌, inl, inr, ⊎_elim, List, [], ◌∷◌, ◌++◌, length, refl, sym, subst, ◌∙◌, arith, length-append}
use Rattle.std.proofs.lemmas.Bool.{cases_lt}
use Rattle.flow_records.specs.declared.record.FlowRecord.{FlowRecord}
use Rattle.flow_records.specs.Setup.{IsInRange, CanBeSetUp, CanBeSetUpWithin}
use Rattle.lane.specs.declared.sids.SidRow.{SidRow}
use Rattle.lane.specs.Limits.{sid_limit}
use Rattle.lane.specs.Rows.{CanBeOpened, CanBeOpenedWithin}
use Rattle.text_lines.specs.declared.fault.TraceKind.{TraceKind}
use Rattle.text_lines.specs.declared.fault.TraceKind.TheVariants.{UnknownFlow, TooManyFlows, SameFlow, SameSid}
use Rattle.text_lines.specs.Format.{IsRead}
use Rattle.text_lines.proofs.KeptByEachLine.{Keeps, IsRead-keeps}
use Rattle.texts.specs.declared.trace.trace_line.TraceLine.{TraceLine}
use Rattle.texts.specs.declared.trace.trace_line.TraceLine.TheVariants as line
use Rattle.texts.specs.Trace.Line.{TraceShape, profile_shape, flow_line, fields_after, AreFields, values_of, Carries}
use Rattle.texts.specs.Trace.Place.{Said, nothing_said, nothing_said_in, with_line, HasFaultAmong, trace_format}
use Rattle.texts.proofs.OneTraceLine.{sid_in_range}
use Rattle.texts.proofs.TraceLines.{none_among}
use Rattle.texts.proofs.LastElement.{EachAt, AreApart, EachAt-pushed, AreApart-pushed}

-- ---- the flows

-- two records have one service flow identifier
abbrev SameSfid : FlowRecord → FlowRecord → Type 0
SameSfid earlier flow_record = earlier.sfid ≡ flow_record.sfid

-- records with their ranges, no two of which have one identifier, can be set up
can_be_set_up : (limit : ℕ) (records : List FlowRecord) → length records ≤ limit → EachAt IsInRange records → AreApart SameSfid records → CanBeSetUpWithin limit records
can_be_set_up limit records few each apart = record {
  few = few;
  in_range = λ k bad. bad.2 (each k bad.0 bad.1);
  each = each;
  apart = λ k repeated. apart repeated.0 k repeated.3 repeated.2 repeated.1 repeated.5 repeated.4 repeated.6;
}

-- one flow more can be set up
CanBeSetUp-pushed : (limit : ℕ) (records : List FlowRecord) (flow_record : FlowRecord) → CanBeSetUpWithin limit records → length records < limit
    → IsInRange flow_record → EachAt (λ earlier. ¬ (SameSfid earlier flow_record)) records → CanBeSetUpWithin limit (records ++ flow_record ∷ [])
CanBeSetUp-pushed limit records flow_record can few in_range new =
    let longer = length-append records (flow_record ∷ []) in
    can_be_set_up limit (records ++ flow_record ∷ []) (omega arith) (EachAt-pushed IsInRange records flow_record can.each in_range)
    (AreApart-pushed SameSfid records flow_record (λ j k earlier x before at_j at_k same. can.apart k (j, before, x, earlier, at_k, at_j, same)) new)

-- ---- the service identifiers

-- the row lies in its ranges, for so many channels, and names one of so many flows
record IsRowFor (channels flow_count : ℕ) (row : SidRow) : Type 0 where
  channel : row.channel < channels
  sid : row.sid < sid_limit
  flow : row.flow < flow_count

-- two rows have one channel and one service identifier
abbrev SameIdentifier : SidRow → SidRow → Type 0
SameIdentifier earlier row = (earlier.channel ≡ row.channel) × (earlier.sid ≡ row.sid)

-- such rows, no two of which have one identifier, can be opened
can_be_opened : (channels : ℕ) (rows : List SidRow) (flow_count : ℕ) → EachAt (IsRowFor channels flow_count) rows → AreApart SameIdentifier rows
    → CanBeOpenedWithin channels rows flow_count
can_be_opened channels rows flow_count each apart = record {
  in_range = λ k out.
      let fits = each k out.0 out.1 in
      ⊎_elim (λ high. let low = fits.channel in omega arith) (λ high. let low = fits.sid in omega arith) out.2;
  apart = λ k repeated. apart repeated.0 k repeated.3 repeated.2 repeated.1 repeated.5 repeated.4 (repeated.6, repeated.7);
  known = λ k lost. let low = (each k lost.0 lost.1).flow in let high = lost.2 in omega arith;
}

-- and each row that can be opened is such a one
each_row : (channels : ℕ) (rows : List SidRow) (flow_count : ℕ) → CanBeOpenedWithin channels rows flow_count → EachAt (IsRowFor channels flow_count) rows
each_row channels rows flow_count can k row at = record {
  channel = ⊎_elim (λ is. is) (λ high. absurd (can.in_range k (row, at, inl high))) (cases_lt row.channel channels);
  sid = ⊎_elim (λ is. is) (λ high. absurd (can.in_range k (row, at, inr high))) (cases_lt row.sid sid_limit);
  flow = ⊎_elim (λ is. is) (λ high. absurd (can.known k (row, at, high))) (cases_lt row.flow flow_count);
}

-- no two of them have one identifier
rows_apart : (channels : ℕ) (rows : List SidRow) (flow_count : ℕ) → CanBeOpenedWithin channels rows flow_count → AreApart SameIdentifier rows
rows_apart channels rows flow_count can j k earlier row before at_j at_k same = can.apart k (j, before, row, earlier, at_k, at_j, same.0, same.1)

-- one row more can be opened
CanBeOpened-pushed : (channels : ℕ) (rows : List SidRow) (flow_count : ℕ) (row : SidRow) → CanBeOpenedWithin channels rows flow_count
    → IsRowFor channels flow_count row → EachAt (λ earlier. ¬ (SameIdentifier earlier row)) rows → CanBeOpenedWithin channels (rows ++ row ∷ []) flow_count
CanBeOpened-pushed channels rows flow_count row can fits new =
    can_be_opened channels (rows ++ row ∷ []) flow_count
    (EachAt-pushed (IsRowFor channels flow_count) rows row (each_row channels rows flow_count can) fits)
    (AreApart-pushed SameIdentifier rows row (rows_apart channels rows flow_count can) new)

-- rows for some flows are rows for more
CanBeOpened-more : (channels : ℕ) (rows : List SidRow) (flow_count more : ℕ) → flow_count ≤ more → CanBeOpenedWithin channels rows flow_count
    → CanBeOpenedWithin channels rows more
CanBeOpened-more channels rows flow_count more le can = record {
  in_range = can.in_range;
  apart = can.apart;
  known = λ k lost. can.known k (lost.0, lost.1, (let high = lost.2 in omega arith));
}

-- ---- a line

-- the numbers of a flow's line lie in their ranges
abbrev HasFlowRanges : FlowRecord → Type 0
HasFlowRanges r = (r.first ≤ 8191) × (1 ≤ r.window) × (r.window ≤ 4096) × (1 ≤ r.clusters) × (r.clusters ≤ 8)

flow_in_range : (shape : TraceShape) (fields : List (List ℕ)) (flow_record : FlowRecord) → Carries shape fields (line.Flow flow_record)
    → HasFlowRanges flow_record
flow_in_range shape fields flow_record a = ranges a.after a.values where
  ranges : (after : List (List ℕ)) → AreFields (fields_after shape flow_line) after (values_of (line.Flow flow_record)) → HasFlowRanges flow_record
  ranges [] are = absurd are
  ranges (sfid ∷ []) are = absurd are.1
  ranges (sfid ∷ first ∷ []) are = absurd are.1.1
  ranges (sfid ∷ first ∷ window ∷ []) are = absurd are.1.1.1
  ranges (sfid ∷ first ∷ window ∷ clusters ∷ more) are = (are.1.0.0.within, are.1.1.0.1, are.1.1.0.0.within, are.1.1.1.0.1, are.1.1.1.0.0.within)

-- what was said passes the checks of a receiver of its width
pub record PassesChecks (said : Said) : Type 0 where
  pub ring : 1 ≤ said.shape.ring
  pub channels : 1 ≤ said.shape.channels
  pub flows : CanBeSetUpWithin said.shape.flows said.flows
  pub sids : CanBeOpenedWithin said.shape.channels said.sids (length said.flows)

flow_passes : (said : Said) (fields : List (List ℕ)) (flow_record : FlowRecord) → Carries said.shape fields (line.Flow flow_record)
    → ((kind : TraceKind) → ¬ (HasFaultAmong said (line.Flow flow_record) kind)) → PassesChecks said
    → PassesChecks (with_line said (line.Flow flow_record))
flow_passes said fields flow_record carries faultless passes =
    let few : length said.flows < said.shape.flows =
    ⊎_elim (λ is. is) (λ many. absurd (faultless TooManyFlows many)) (cases_lt (length said.flows) said.shape.flows) in
    let ranges = flow_in_range said.shape fields flow_record carries in
    let in_range : IsInRange flow_record = record {
      first = (let within = ranges.0 in omega arith);
      window_positive = ranges.1;
      window_in_range = ranges.2;
      clusters_positive = ranges.3;
      clusters_in_range = ranges.4;
      ring_positive = (let is = carries.ring_is in let positive = passes.ring in omega arith);
    } in
    let new : EachAt (λ earlier. ¬ (SameSfid earlier flow_record)) said.flows = λ k earlier at same.
    faultless SameFlow (record { k = k; flow_record = earlier; at = at; sfid_is = same }) in
    let longer = length-append said.flows (flow_record ∷ []) in
    record {
      ring = passes.ring;
      channels = passes.channels;
      flows = CanBeSetUp-pushed said.shape.flows said.flows flow_record passes.flows few in_range new;
      sids = CanBeOpened-more said.shape.channels said.sids (length said.flows) (length (said.flows ++ flow_record ∷ [])) (omega arith) passes.sids;
    }

sid_passes : (said : Said) (fields : List (List ℕ)) (row : SidRow) → Carries said.shape fields (line.Sid row)
    → ((kind : TraceKind) → ¬ (HasFaultAmong said (line.Sid row) kind)) → PassesChecks said → PassesChecks (with_line said (line.Sid row))
sid_passes said fields row carries faultless passes =
    let ranges = sid_in_range said.shape fields row carries in
    let fits : IsRowFor said.shape.channels (length said.flows) row = record {
      channel = (let within = ranges.0 in let some = passes.channels in omega arith);
      sid = (let within = ranges.1 in omega arith);
      flow = ⊎_elim (λ is. is) (λ high. absurd (faultless UnknownFlow high)) (cases_lt row.flow (length said.flows));
    } in
    let new : EachAt (λ earlier. ¬ (SameIdentifier earlier row)) said.sids = λ k earlier at same.
    faultless SameSid (record { k = k; row = earlier; above = at; channel_is = same.0; sid_is = same.1 }) in
    record {
      ring = passes.ring;
      channels = passes.channels;
      flows = passes.flows;
      sids = CanBeOpened-pushed said.shape.channels said.sids (length said.flows) row passes.sids fits new;
    }

pub passes_with : (said : Said) (fields : List (List ℕ)) (line : TraceLine) → Carries said.shape fields line
    → ((kind : TraceKind) → ¬ (HasFaultAmong said line kind))
    → PassesChecks said → PassesChecks (with_line said line)
passes_with said fields (line.Flow flow_record) carries faultless passes = flow_passes said fields flow_record carries faultless passes
passes_with said fields (line.Sid row) carries faultless passes = sid_passes said fields row carries faultless passes
passes_with said fields (line.Input channel input) carries faultless passes =
    record { ring = passes.ring; channels = passes.channels; flows = passes.flows; sids = passes.sids }
passes_with said fields (line.Gap decision) carries faultless passes =
    record { ring = passes.ring; channels = passes.channels; flows = passes.flows; sids = passes.sids }

line_passes : Keeps trace_format PassesChecks
line_passes before fields after takes passes =
    subst PassesChecks (sym takes.0.added)
    (passes_with before fields takes.0.line takes.0.carries (none_among before fields takes.0.line takes.0.carries takes.1) passes)

-- no lines say anything that fails the checks
nothing_passes : (shape : TraceShape) → 1 ≤ shape.ring → 1 ≤ shape.channels → PassesChecks (nothing_said_in shape)
nothing_passes shape positive some = record {
  ring = positive;
  channels = some;
  flows = can_be_set_up shape.flows [] (omega arith) (λ k x at. absurd cc) (λ j k earlier x before at_j at_k same. absurd cc);
  sids = can_be_opened shape.channels [] 0 (λ k x at. absurd cc) (λ j k earlier x before at_j at_k same. absurd cc);
}

-- what the lines of a trace say passes the checks
pub read_passes_in : (shape : TraceShape) (lines : List (List ℕ)) (said : Said) → 1 ≤ shape.ring → 1 ≤ shape.channels
    → IsRead trace_format (nothing_said_in shape) lines said → PassesChecks said
read_passes_in shape lines said positive some read = IsRead-keeps PassesChecks line_passes read (nothing_passes shape positive some)

-- ---- the profile's width

-- the shape of a trace stays as it was given
abbrev HasShape : TraceShape → Said → Type 0
HasShape shape said = said.shape ≡ shape

pub shape_with : (said : Said) (line : TraceLine) → (with_line said line).shape ≡ said.shape
shape_with said (line.Flow flow_record) = refl
shape_with said (line.Sid row) = refl
shape_with said (line.Input channel input) = refl
shape_with said (line.Gap decision) = refl

line_keeps_shape : (shape : TraceShape) → Keeps trace_format (HasShape shape)
line_keeps_shape shape before fields after takes is =
    subst (λ (after : Said). after.shape ≡ shape) (sym takes.0.added) (shape_with before takes.0.line ∙ is)

pub read_keeps_shape : (shape : TraceShape) (lines : List (List ℕ)) (said : Said) → IsRead trace_format (nothing_said_in shape) lines said
    → said.shape ≡ shape
read_keeps_shape shape lines said read = IsRead-keeps (HasShape shape) (line_keeps_shape shape) read refl

-- what the lines of a trace of the profile say passes the checks of its receivers
pub record PassesProfile (said : Said) : Type 0 where
  pub flows : CanBeSetUp said.flows
  pub sids : CanBeOpened said.sids (length said.flows)

pub read_passes : (ring : ℕ) (lines : List (List ℕ)) (said : Said) → 1 ≤ ring → IsRead trace_format (nothing_said ring) lines said → PassesProfile said
read_passes ring lines said positive read =
    let passes = read_passes_in (profile_shape ring) lines said positive (omega arith) read in
    let is = read_keeps_shape (profile_shape ring) lines said read in
    record {
      flows = subst (λ (shape : TraceShape). CanBeSetUpWithin shape.flows said.flows) is passes.flows;
      sids = subst (λ (shape : TraceShape). CanBeOpenedWithin shape.channels said.sids (length said.flows)) is passes.sids;
    }
