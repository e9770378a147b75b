use Rattle.std.proofs.Common.{Some, List, subst, sym, ◌∙◌, append_assoc, arith, rules}
use Rattle.std.specs.Prelude.{codes}
use Rattle.std.proofs.lemmas.Str.Pattern.{split_parts}
use Rattle.flow_selection.specs.declared.range.FlowRange.{FlowRange}
use Rattle.command_line.specs.Flows.{SaysRanges}
use Rattle.command_line.proofs.SaidFlows.{SaysBehind, says_behind-more, says_behind-last}
use Rattle.command_line.proofs.flows.read_ranges.Goals as goal

pub loop-part-preserved : goal.loop-part-preserved
loop-part-preserved c =
    let split = split_parts 44 c.loop-part.rest.now (Some (c.in-Some.part, c.in-Some.more)) c.in-Some.ensures.cases (omega arith) in
    let added = c.in_ok-add_range.ensures in (
      search rules,
      subst (λ (ranges : List FlowRange). SaysBehind c.args.last c.args.value.now ranges c.in-Some.more.now) (sym added.2)
          (says_behind-more c.args.last c.args.value.now c.in-Some.part.now c.loop-part.rest.now c.in-Some.more.now c.loop-part.ranges.items added.0
          c.loop-part.invariant.1 (split.0 ∙ sym (append_assoc c.in-Some.part.now (codes ",") c.in-Some.more.now)) added.1),
    )

pub returns : goal.returns
returns c =
    let added = c.in_ok-add_range-2.ensures in
    subst (SaysRanges c.args.last c.args.value.now) (sym added.2)
    (says_behind-last c.args.last c.args.value.now c.loop-part.rest.now c.loop-part.ranges.items added.0 c.loop-part.invariant.1 added.1)
