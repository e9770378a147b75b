-- Something happens for the lines of a trace.
use Rattle.std.proofs.Common.{ℕ, ◌^◌, ◌<◌, inr, List, [], ◌∷◌, length, sym, subst, arith}
use Rattle.std.specs.List.{AllByRecursion}
use Rattle.lane.specs.Rows.{CanBeOpenedWithin}
use Rattle.loss_rule.specs.declared.rule.LossRule.{LossRule}
use Rattle.bonded_flows.specs.Table.{TableSetup}
use Rattle.flow_records.specs.declared.record.FlowRecord.{FlowRecord}
use Rattle.lane.specs.declared.sids.SidRow.{SidRow}
use Rattle.receiver.specs.declared.setup.Setup.{Setup}
use Rattle.receiver.specs.HandedIn.{made_of}
use Rattle.texts.specs.Replay.{IsSetupOf}
use Rattle.receiver.specs.declared.width.Width.{Width}
use Rattle.receiver.specs.Entries.{Entry, came, decided}
use Rattle.text_lines.specs.Capacities.{default_capacity}
use Rattle.text_lines.specs.Format.{IsRead}
use Rattle.text_lines.proofs.KeptByEachLine.{Keeps, IsRead-keeps}
use Rattle.texts.specs.declared.trace.trace_line.TraceLine.{TraceLine}
use Rattle.texts.specs.declared.trace.trace_line.TraceLine.TheVariants as line
use Rattle.texts.specs.declared.follow.happening.Happening.{Happening}
use Rattle.texts.specs.Happened.{HappenedBy}
use Rattle.texts.specs.Trace.Line.{TraceShape, Carries, shape_of}
use Rattle.texts.specs.Trace.Place.{Said, nothing_said_in, with_line, trace_format}
use Rattle.texts.proofs.OneTraceLine.{channel_in_range}
use Rattle.texts.proofs.TraceChecks.{read_passes_in, read_keeps_shape}
use Rattle.answers.proofs.Everywhere.{all_append}
use Rattle.answers.specs.Room.{EntryHasBytes}
use Rattle.answers.proofs.ReadTraces.{HaveBytes, line-bytes, read-more}
use Rattle.answers.proofs.SomeText.{some_setup}
use Rattle.answers.proofs.EntriesHappen.{IsSound, entries_happen}

-- ---- each input came on a channel that there is

abbrev IsOnChannel : ℕ → Entry → Type 0
IsOnChannel channels (came channel input) = channel < channels
IsOnChannel channels (decided decision) = Unit {0}

abbrev AreOnChannels : Said → Type 0
AreOnChannels said = (0 < said.shape.channels) × AllByRecursion (IsOnChannel said.shape.channels) said.entries

-- one line more
channels_with : (said : Said) (fields : List (List ℕ)) (one : TraceLine) → Carries said.shape fields one → AreOnChannels said → AreOnChannels (with_line said one)
channels_with said fields (line.Flow flow_record) carries are = are
channels_with said fields (line.Sid row) carries are = are
channels_with said fields (line.Input channel input) carries are =
    let within = channel_in_range said.shape fields channel input carries in
    let some = are.0 in
    (are.0, all_append (IsOnChannel said.shape.channels) said.entries (came channel input ∷ []) are.1 (omega (arith, within, some), tt))
channels_with said fields (line.Gap decision) carries are =
    (are.0, all_append (IsOnChannel said.shape.channels) said.entries (decided decision ∷ []) are.1 (tt, tt))

line_channels : Keeps trace_format AreOnChannels
line_channels before fields after takes are = subst AreOnChannels (sym takes.0.added) (channels_with before fields takes.0.line takes.0.carries are)

-- so each entry can be handed in
sound_entries : (made : TableSetup) (can : CanBeOpenedWithin made.channels made.rows (length made.records)) (entries : List Entry)
    → AllByRecursion (IsOnChannel made.channels) entries → AllByRecursion EntryHasBytes entries → AllByRecursion (IsSound made can) entries
sound_entries made can [] on bytes = tt
sound_entries made can (came channel input ∷ entries) on bytes = ((on.0, bytes.0), sound_entries made can entries on.1 bytes.1)
sound_entries made can (decided decision ∷ entries) on bytes = (tt, sound_entries made can entries on.1 bytes.1)

module _ (rule : LossRule) (width : Width) (lines : List (List ℕ)) (said : Said) (read : IsRead trace_format (nothing_said_in (shape_of width default_capacity)) lines said) where
  -- at a receiver that has the setup which the lines give
  happens_with : (setup : Setup) → IsSetupOf said setup → (happened : List Happening) × HappenedBy rule width lines happened
  happens_with setup is_setup =
      let shape = shape_of width default_capacity in
      let some = width.some_channel in
      let kept = read_keeps_shape shape lines said read in
      let passes = read_passes_in shape lines said (omega arith) (omega (arith, some)) read in
      let said_can = subst (λ (s : TraceShape). CanBeOpenedWithin s.channels said.sids (length said.flows)) kept passes.sids in
      let can : CanBeOpenedWithin width.channels setup.sids.items (length setup.flows.items) =
      subst (λ (records : List FlowRecord). CanBeOpenedWithin width.channels setup.sids.items (length records)) (sym is_setup.flows)
      (subst (λ (rows : List SidRow). CanBeOpenedWithin width.channels rows (length said.flows)) (sym is_setup.sids) said_can) in
      let on = (IsRead-keeps AreOnChannels line_channels read (omega (arith, some), tt)).1 in
      let here = subst (λ (s : TraceShape). AllByRecursion (IsOnChannel s.channels) said.entries) kept on in
      let made = made_of rule width.channels setup in
      let happens = entries_happen made can said.entries (sound_entries made can said.entries here (IsRead-keeps HaveBytes line-bytes read tt)) in (
        happens.happened,
        record {
          said = said;
          read = read;
          happened_for =
              inr (record {
                setup = setup;
                is_setup = is_setup;
                handed = happens.handed;
                entries = record { each = happens.so_far.each; are = happens.are };
                given = happens.given;
                has_happened = happens.so_far.has_happened;
              });
        },
      )

  -- there is such a setup, where the lines are few enough
  pub lines_happen : length lines < 2 ^ 48 → (happened : List Happening) × HappenedBy rule width lines happened
  lines_happen few =
      let count = read-more read in
      let setup = some_setup said (omega (arith, count, few)) (omega (arith, count, few)) in
      happens_with setup.0 setup.1
