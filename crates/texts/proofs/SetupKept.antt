-- The setup that lines give passes the checks of a receiver, line after line.
use Rattle.std.proofs.Common.{◌≡◌, ◌≢◌, ℕ, ◌<◌, ◌≤◌, ◌⊎◌, ◌↔◌, inl, inr, ⊎_elim, IsTrue, List, [], ◌∷◌, ◌++◌, length, refl, sym, ap, subst, ◌∙◌, arith}
use Rattle.std.specs.declared.alloc.Global.{Global}
use Rattle.std.specs.Prelude.{Bool, true, false, map, Vec, Result, Ok, Err, MatchResult}
use Rattle.std.proofs.lemmas.Bool.{cases_eq, ne_eqb, false≢true}
use Rattle.std.specs.Cmp.{unsigned_tied}
use Rattle.std.specs.Ordering.{nat_cmp}
use Rattle.std.specs.BTreeSet.{BTreeSet, contains, Updates}
use Rattle.docsis_wire.proofs.StreamPlaces.{slice_get-at}
use Rattle.flow_records.specs.declared.record.FlowRecord.{FlowRecord}
use Rattle.flow_records.specs.Setup.{CanBeSetUpWithin}
use Rattle.lane.specs.declared.sids.SidRow.{SidRow}
use Rattle.lane.specs.declared.sids.table.SidTable.{SidTable}
use Rattle.lane.specs.Inside.Seen.{HasMarked}
use Rattle.lane.specs.Limits.{sid_limit}
use Rattle.lane.specs.Rows.{CanBeOpenedWithin}
use Rattle.receiver.specs.declared.setup.Lists.{Lists}
use Rattle.receiver.specs.declared.setup.Setup.{Setup}
use Rattle.receiver.specs.Entries.{Entry, tag_of}
use Rattle.receiver.specs.Widths.{CanReceiveWithin}
use Rattle.text_lines.specs.declared.fault.LineFault.{LineFault}
use Rattle.text_lines.specs.declared.fault.TraceKind.{TraceKind}
use Rattle.text_lines.specs.declared.fault.TraceKind.TheVariants.{TooManyFlows, SameFlow}
use Rattle.text_lines.specs.Kinds.{kind_number, IsLeastFault}
use Rattle.texts.specs.declared.trace.trace_line.TraceLine.{TraceLine}
use Rattle.texts.specs.declared.trace.trace_line.TraceLine.TheVariants as line
use Rattle.texts.specs.declared.trace.reading.Reading.{Reading}
use Rattle.texts.specs.Trace.{AreListsOf}
use Rattle.texts.specs.Trace.Line.{TraceShape}
use Rattle.texts.specs.Trace.Place.{Said, IsSidAbove, HasFaultAmong, IsSfidAmong, IsSfidAbove, with_line}
use Rattle.texts.specs.Inside.SetupLines.{SetupSoFar, setup_said, HoldsSetup, HasSetup, SetsUp, IsCarried, AddsTo}
use Rattle.texts.specs.Inside.Reading.{HasRead}
use Rattle.texts.proofs.OneTraceLine.{sid_in_range}
use Rattle.texts.proofs.TraceChecks.{passes_with, shape_with}
use Rattle.texts.proofs.LastElement.{slice_get-pushed, slice_get-front}
use Rattle.texts.proofs.TraceSoFar.{seen-kept, seen-pushed}

-- what follows of a line that is taken
pub on_taken : {P Q : Type 0} (Fails : LineFault → Type 0) (result : Result (Unit {0}) LineFault) → (P → Q) → MatchResult result (λ _. P) Fails
    → MatchResult result (λ _. Q) Fails
on_taken Fails (Ok none) leads took = leads took
on_taken Fails (Err fault) leads failed = failed

-- a flow that is one of few and whose identifier is new has no fault
pub flow_without_fault : (said : Said) (flow_record : FlowRecord) → length said.flows < said.shape.flows → ¬ (IsSfidAbove said flow_record.sfid)
    → (kind : TraceKind) → HasFaultAmong said (line.Flow flow_record) kind → ⊥
flow_without_fault said flow_record few new TooManyFlows fault = omega (arith, few, fault)
flow_without_fault said flow_record few new SameFlow fault = new fault
flow_without_fault said flow_record few new _ fault = fault

-- a setup that a receiver takes is taken with one line more that has no fault
pub can_receive_more : (shape : TraceShape) (before after : Setup) (line : TraceLine) → IsCarried shape line
    → ((kind : TraceKind) → ¬ (HasFaultAmong (setup_said shape before) line kind))
    → after.flows.items ≡ (with_line (setup_said shape before) line).flows → after.sids.items ≡ (with_line (setup_said shape before) line).sids
    → 1 ≤ shape.channels → (1 ≤ shape.ring → CanReceiveWithin shape.channels shape.flows before) → 1 ≤ shape.ring
    → CanReceiveWithin shape.channels shape.flows after
can_receive_more shape before after line carried faultless flows sids some can positive =
    let was = can positive in
    let said = setup_said shape before in
    let more = with_line said line in
    let passes = passes_with said carried.0 line carried.1 faultless (record { ring = positive; channels = some; flows = was.flows_fit; sids = was.rows_fit }) in
    let kept = shape_with said line in
    record {
      flows_fit =
          subst (CanBeSetUpWithin shape.flows) (sym flows)
          (subst (λ (shape : TraceShape). CanBeSetUpWithin shape.flows more.flows) kept passes.flows);
      rows_fit =
          subst (λ (records : List FlowRecord). CanBeOpenedWithin shape.channels after.sids.items (length records)) (sym flows)
          (subst (λ (rows : List SidRow). CanBeOpenedWithin shape.channels rows (length more.flows)) (sym sids)
          (subst (λ (shape : TraceShape). CanBeOpenedWithin shape.channels more.sids (length more.flows)) kept passes.sids));
    }

-- ---- the service flow identifiers that were seen

-- one flow more
IsSfidAmong-pushed : (flows : List FlowRecord) (flow_record : FlowRecord) (sfid : ℕ)
    → IsSfidAmong (flows ++ flow_record ∷ []) sfid ↔ (IsSfidAmong flows sfid ⊎ (flow_record.sfid ≡ sfid))
IsSfidAmong-pushed flows flow_record sfid = (
  λ is. ⊎_elim
      (λ above. inl (record { k = is.k; flow_record = is.flow_record; at = above; sfid_is = is.sfid_is }))
      (λ last. inr (ap (λ one. one.sfid) (sym last.1) ∙ is.sfid_is))
      (slice_get-pushed flows flow_record is.k is.flow_record is.at),
  ⊎_elim
      (λ is. record { k = is.k; flow_record = is.flow_record; at = slice_get-front flows flow_record is.k is.flow_record is.at; sfid_is = is.sfid_is })
      (λ same. record { k = length flows; flow_record = flow_record; at = slice_get-at flows flow_record []; sfid_is = same }),
)

-- and its identifier
pub named-more : (flows more : List FlowRecord) (flow_record : FlowRecord) (before after : BTreeSet ℕ) → more ≡ flows ++ flow_record ∷ []
    → Updates nat_cmp before after flow_record.sfid true → ((sfid : ℕ) → IsTrue (contains nat_cmp before sfid) ↔ IsSfidAmong flows sfid)
    → (sfid : ℕ) → IsTrue (contains nat_cmp after sfid) ↔ IsSfidAmong more sfid
named-more flows more flow_record before after is updates named sfid =
    rw is (
      λ yes. (IsSfidAmong-pushed flows flow_record sfid).1
          (elim (cases_eq sfid flow_record.sfid) [
            | inl same ↦ inr (sym same)
            | inr differ ↦ inl ((named sfid).0 (sym (stays differ) ∙ yes))
          ]),
      λ among. elim (cases_eq sfid flow_record.sfid) [
        | inl same ↦ subst (λ q. IsTrue (contains nat_cmp after q)) (sym same) updates.1
        | inr differ ↦ stays differ
            ∙ (named sfid).1
            (⊎_elim (λ above. above) (λ same. absurd (differ (sym same))) ((IsSfidAmong-pushed flows flow_record sfid).0 among))
      ],
    ) where
      stays : sfid ≢ flow_record.sfid → contains nat_cmp after sfid ≡ contains nat_cmp before sfid
      stays differ = updates.2 sfid (unsigned_tied flow_record.sfid sfid ∙ ne_eqb flow_record.sfid sfid (λ same. differ (sym same)))

-- the setup so far with a flow more
pub flow_set_up : (shape : TraceShape) (before after : Setup) (seen : SidTable) (sfids more : BTreeSet ℕ) (flow_record : FlowRecord) → HoldsSetup shape before seen sfids
    → IsCarried shape (line.Flow flow_record) → length before.flows.items < shape.flows → ¬ (IsSfidAbove (setup_said shape before) flow_record.sfid)
    → after.flows.items ≡ before.flows.items ++ flow_record ∷ [] → after.sids.items ≡ before.sids.items → 1 ≤ shape.channels
    → Updates nat_cmp sfids more flow_record.sfid true → HoldsSetup shape after seen more
flow_set_up shape before after seen sfids more flow_record was carried few new flows sids some updates = record {
  can_receive =
      can_receive_more shape before after (line.Flow flow_record) carried (flow_without_fault (setup_said shape before) flow_record few new) flows sids
      some was.can_receive;
  channels = was.channels;
  seen = seen-kept (setup_said shape before) (setup_said shape after) seen sids was.seen;
  named = named-more before.flows.items after.flows.items flow_record sfids more flows updates was.named;
}

-- and with an identifier more
pub sid_set_up : (shape : TraceShape) (before after : Setup) (seen more : SidTable) (sfids : BTreeSet ℕ) (row : SidRow) → HoldsSetup shape before seen sfids
    → IsCarried shape (line.Sid row) → ((kind : TraceKind) → ¬ (HasFaultAmong (setup_said shape before) (line.Sid row) kind))
    → ((channel sid : ℕ) → sid < sid_limit → HasMarked more channel sid ↔ (HasMarked seen channel sid ⊎ ((channel ≡ row.channel) × (sid ≡ row.sid))))
    → more.channels ≡ seen.channels → 1 ≤ shape.channels → after.flows.items ≡ before.flows.items → after.sids.items ≡ before.sids.items ++ row ∷ [] → HoldsSetup shape after more sfids
sid_set_up shape before after seen more sfids row was carried faultless inserted kept some flows sids = record {
  can_receive = can_receive_more shape before after (line.Sid row) carried faultless flows sids some was.can_receive;
  channels = kept ∙ was.channels;
  seen =
      seen-kept (with_line (setup_said shape before) (line.Sid row)) (setup_said shape after) more sids
      (seen-pushed (setup_said shape before) row seen more was.seen inserted);
  named = λ sfid.
      subst (λ (records : List FlowRecord). IsTrue (contains nat_cmp sfids sfid) ↔ IsSfidAmong records sfid) (sym flows) (was.named sfid);
}

-- the channel and the service identifier of a row lie in their ranges
pub row_in_range : (shape : TraceShape) (row : SidRow) → 1 ≤ shape.channels → IsCarried shape (line.Sid row)
    → (row.channel < shape.channels) × (row.sid < sid_limit)
row_in_range shape row some carried =
    let ranges = sid_in_range shape carried.0 row carried.1 in ((let within = ranges.0 in omega arith), (let within = ranges.1 in omega arith))

-- a setup is what its own lines say
pub said_of_setup : (shape : TraceShape) (setup : Setup) (so_far : SetupSoFar) → record { shape = shape; setup = setup } ≡ so_far → HasSetup (setup_said shape setup) so_far
said_of_setup shape setup so_far is = record {
  shape = ap (λ (s : SetupSoFar). s.shape) (sym is);
  flows = ap (λ (s : SetupSoFar). s.setup.flows.items) (sym is);
  sids = ap (λ (s : SetupSoFar). s.setup.sids.items) (sym is);
}

-- an identifier that was not seen stands in no line above
pub not_above : (said : Said) (shape : TraceShape) (setup : Setup) (seen : SidTable) (sfids : BTreeSet ℕ) (so_far : SetupSoFar) (channel sid : ℕ) (found : Bool)
    → HoldsSetup shape setup seen sfids → record { shape = shape; setup = setup } ≡ so_far → HasSetup said so_far
    → sid < sid_limit → (found ≡ true ↔ HasMarked seen channel sid) → found ≡ false → ¬ (IsSidAbove said channel sid)
not_above said shape setup seen sfids so_far channel sid found is same has small means not above =
    let rows : said.sids ≡ setup.sids.items = sym has.sids ∙ ap (λ (s : SetupSoFar). s.setup.sids.items) (sym same) in
    let was = (seen-kept (setup_said shape setup) said seen rows is.seen channel sid small).1 above in
    false≢true (sym not ∙ means.1 was)

-- an identifier that none of the setup's flows has stands in no line above
pub sfid_not_above : (said : Said) (shape : TraceShape) (setup : Setup) (so_far : SetupSoFar) (sfid : ℕ) (found : Bool)
    → record { shape = shape; setup = setup } ≡ so_far → HasSetup said so_far → (IsSfidAmong setup.flows.items sfid → found ≡ true) → found ≡ false
    → ¬ (IsSfidAbove said sfid)
sfid_not_above said shape setup so_far sfid found same has means not above =
    let flows : said.flows ≡ setup.flows.items = sym has.flows ∙ ap (λ (s : SetupSoFar). s.setup.flows.items) (sym same) in
    false≢true (sym not ∙ means (subst (λ (records : List FlowRecord). IsSfidAmong records sfid) flows above))

-- and one that a flow has stands in a line above
pub sfid_above : (said : Said) (shape : TraceShape) (setup : Setup) (so_far : SetupSoFar) (sfid : ℕ) → record { shape = shape; setup = setup } ≡ so_far
    → HasSetup said so_far → IsSfidAmong setup.flows.items sfid → IsSfidAbove said sfid
sfid_above said shape setup so_far sfid same has among =
    let flows : setup.flows.items ≡ said.flows = ap (λ (s : SetupSoFar). s.setup.flows.items) same ∙ has.flows in
    subst (λ (records : List FlowRecord). IsSfidAmong records sfid) flows among

-- a repeated identifier is the least fault of a flow that is one of few
pub same_flow_is_least : (said : Said) (flow_record : FlowRecord) → length said.flows < said.shape.flows → IsSfidAbove said flow_record.sfid
    → IsLeastFault (HasFaultAmong said (line.Flow flow_record)) SameFlow
same_flow_is_least said flow_record few above = (above, lesser) where
  lesser : (other : TraceKind) → kind_number other < 9 → HasFaultAmong said (line.Flow flow_record) other → ⊥
  lesser TooManyFlows less fault = omega (arith, few, fault)
  lesser SameFlow less fault = omega (arith, less)
  lesser _ less fault = fault

-- few flows are few in the lines
pub few_said : (said : Said) (shape : TraceShape) (setup : Setup) (so_far : SetupSoFar) → record { shape = shape; setup = setup } ≡ so_far → HasSetup said so_far
    → length setup.flows.items < so_far.shape.flows → length said.flows < said.shape.flows
few_said said shape setup so_far same has few =
    omega (arith, few, ap length (ap (λ (s : SetupSoFar). s.setup.flows.items) same ∙ has.flows), ap (λ (shape : TraceShape). shape.flows) has.shape)

-- what sets something up is no entry
pub no_entry : (said : Said) (line : TraceLine) → SetsUp line → (with_line said line).entries ≡ said.entries
no_entry said (line.Flow flow_record) sets = refl
no_entry said (line.Sid row) sets = refl
no_entry said (line.Input channel input) sets = absurd sets
no_entry said (line.Gap decision) sets = absurd sets

-- what is set up is read
pub setup_read : (line given : TraceLine) (before after : Reading) (result : Result (Unit {0}) LineFault) → line ≡ given → SetsUp given
    → after.lists ≡ before.lists → after.tags ≡ before.tags → AddsTo HasSetup before.setup given result after.setup
    → AddsTo HasRead before line result after
setup_read line given before after result is sets lists tags adds =
    subst (λ (line : TraceLine). AddsTo HasRead before line result after) (sym is)
    (λ said has. on_taken _ result
    (λ more. record {
      faultless = more.faultless;
      has = record {
        setup = more.has;
        lists =
            subst (λ (entries : List Entry). AreListsOf entries after.lists) (sym (no_entry said given sets))
            (subst (λ (lists : Lists). AreListsOf said.entries lists) (sym lists) has.lists);
        tags = ap (λ (tags : Vec ℕ Global). tags.items) tags ∙ has.tags ∙ ap (map tag_of) (sym (no_entry said given sets));
      };
    })
    (adds said has.setup))
