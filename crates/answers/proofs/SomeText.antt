-- A trace whose lines are read has a text.
use Rattle.std.proofs.Common.{ℕ, ◌^◌, ◌<◌, List, length, map, refl, arith}
use Rattle.std.proofs.lemmas.List.{length-map}
use Rattle.loss_rule.specs.declared.rule.LossRule.{LossRule}
use Rattle.receiver.specs.declared.outcome.Outcome.{Outcome}
use Rattle.receiver.specs.declared.setup.Setup.{Setup}
use Rattle.receiver.specs.Entries.{tag_of, came_on, incoming_in}
use Rattle.receiver.specs.AdmittedOrder.{IsAdmittedOrder}
use Rattle.receiver.specs.Ruled.{IsOutcomeBy}
use Rattle.text_lines.specs.Capacities.{default_capacity}
use Rattle.text_lines.specs.Lines.{lines_of}
use Rattle.text_lines.specs.Format.{IsRead}
use Rattle.texts.specs.AnyHeader.{any_header}
use Rattle.texts.specs.Report.{report_text}
use Rattle.texts.specs.Replay.{IsSetupOf, IsReplayedBy}
use Rattle.texts.specs.Trace.Place.{Said, nothing_said, trace_format}
use Rattle.texts.proofs.OneReplay.{given_receives}
use Rattle.answers.specs.Room.{HasRoom}
use Rattle.answers.proofs.Vectors.{vec_of}
use Rattle.answers.proofs.Everywhere.{few_given}
use Rattle.answers.proofs.SomeIntake.{some_admitted}
use Rattle.answers.proofs.SomeReplay.{some_replay}
use Rattle.answers.proofs.ReadTraces.{read-bytes, read-tags, read-few}

-- a setup of what lines say, where they say little enough
pub some_setup : (said : Said) → length said.flows < 2 ^ 63 → length said.sids < 2 ^ 63 → (setup : Setup) × IsSetupOf said setup
some_setup said flows sids = (
  record { flows = vec_of said.flows flows; sids = vec_of said.sids sids; mailbox = default_capacity },
  record { flows = refl; sids = refl; mailbox = refl },
)

-- the report of an outcome in the admitted order is the text
abbrev pub replayed_of : (rule : LossRule) (input : List ℕ) (said : Said) (setup : Setup) (order : List ℕ) (outcome : Outcome)
    → IsRead trace_format (nothing_said default_capacity) (lines_of input) said → IsSetupOf said setup
    → IsAdmittedOrder setup (incoming_in said.entries) (map tag_of said.entries) order
    → IsOutcomeBy rule any_header setup (incoming_in said.entries) order outcome → IsReplayedBy rule input (report_text outcome)
replayed_of rule input said setup order outcome read given admitted answered = record {
  said = said;
  read = read;
  outcome = outcome;
  played = record { setup = setup; given = given; order = order; admitted = admitted; answered = answered };
  printed = refl;
}

pub some_text : (rule : LossRule) (input : List ℕ) (said : Said) → IsRead trace_format (nothing_said default_capacity) (lines_of input) said
    → length (lines_of input) < 2 ^ 48 → (text : List ℕ) × IsReplayedBy rule input text
some_text rule input said read few =
    let lines = lines_of input in
    let says = read-few default_capacity lines said read in
    let made = some_setup said (omega arith) (omega arith) in
    let setup = made.0 in
    let incoming = incoming_in said.entries in
    let tags = map tag_of said.entries in
    let can = given_receives lines said setup read made.1 in
    let are = read-bytes default_capacity lines said read in
    let found = some_admitted setup incoming tags can are (read-tags default_capacity lines said read) in
    let order = found.0 in
    let count = length-map said.entries tag_of in
    let shorter = found.3 in
    let room : HasRoom incoming order = record {
      inputs = λ channel below. omega (arith, few_given (came_on channel) said.entries);
      items = omega arith;
    } in
    let replayed = some_replay setup incoming order found.2 room rule any_header are in
    (report_text replayed.0, replayed_of rule input said setup order replayed.0 read made.1 found.1 replayed.1)
