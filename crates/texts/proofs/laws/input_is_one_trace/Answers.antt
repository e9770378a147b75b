use Rattle.std.proofs.Common.{◌∙◌, sym, subst}
use Rattle.text_lines.specs.Lines.{lines_of}
use Rattle.text_lines.proofs.LinesReadOneWay.{one_reading}
use Rattle.texts.specs.Trace.{IsGivenBy}
use Rattle.texts.specs.Trace.Place.{Said, nothing_said, trace_format}
use Rattle.texts.proofs.OneTrace.{trace_is_determined}
use Rattle.texts.proofs.laws.input_is_one_trace.Goals as goal

pub returns : goal.returns
returns c ring mailbox input trace other a b =
    let said = one_reading trace_format trace_is_determined (lines_of input) (nothing_said ring) a.said b.said a.read b.read in
    let Given : Said → Type 0 = λ said. IsGivenBy mailbox said trace in
    let given : IsGivenBy mailbox b.said trace = subst Given said a.given in
    record {
      flows = given.flows ∙ sym b.given.flows;
      sids = given.sids ∙ sym b.given.sids;
      mailbox = given.mailbox_is ∙ sym b.given.mailbox_is;
      inputs = λ channel below. given.lists.inputs channel below ∙ sym (b.given.lists.inputs channel below);
      decisions = given.lists.decisions ∙ sym b.given.lists.decisions;
      tags = given.tags ∙ sym b.given.tags;
    }
