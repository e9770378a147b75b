use Rattle.std.proofs.Common.{sym, subst}
use Rattle.receiver.specs.Items.{incoming_of}
use Rattle.receiver.specs.Order.{IsLawfulOrder}
use Rattle.receiver.specs.AdmittedOrder.{input_counts}
use Rattle.text_lines.specs.Lines.{lines_of}
use Rattle.texts.proofs.TraceTags.{read_of_channels, tags_are_lawful}
use Rattle.texts.proofs.laws.tags_of_a_trace_are_lawful.Goals as goal

pub returns : goal.returns
returns c ring mailbox input trace is =
    let each = read_of_channels ring (lines_of input) is.said is.read in
    subst (IsLawfulOrder (input_counts (incoming_of trace.lists))) (sym is.given.tags) (tags_are_lawful mailbox is.said trace each is.given)
