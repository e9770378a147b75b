use Rattle.std.proofs.Common.{refl, sym, ap, subst, ◌∙◌, ◌++◌, ◌∷◌, [], arith}
use Rattle.texts.specs.declared.trace.trace_line.TraceLine.TheVariants as line
use Rattle.texts.specs.Trace.Line.{TraceShape, shape_of}
use Rattle.texts.specs.Inside.SetupLines.{SetupSoFar, setup_said, IsCarried}
use Rattle.texts.proofs.SetupKept.{row_in_range, said_of_setup, not_above, sid_set_up}
use Rattle.texts.proofs.TraceSoFar.{flow_known, sid_without_fault}
use Rattle.texts.proofs.trace.setup_lines.SetupLines.add_sid.Goals as goal

pub contains-requires : goal.contains-requires
contains-requires c =
    let some = c.self.inside.width.some_channel in
    let shape = shape_of c.self.inside.width c.self.inside.ring in
    let carried = subst (λ (shape : TraceShape). IsCarried shape (line.Sid c.args.row)) (ap (λ (s : SetupSoFar). s.shape) (sym c.self.view_is)) c.requires in
    let within = row_in_range shape c.args.row some carried in
    let channels = c.self.invariant.channels in
    let below = within.0 in
    record { channel = omega arith; sid = within.1 }

pub insert-requires : goal.insert-requires
insert-requires c =
    let some = c.self.inside.width.some_channel in
    let shape = shape_of c.self.inside.width c.self.inside.ring in
    let carried = subst (λ (shape : TraceShape). IsCarried shape (line.Sid c.args.row)) (ap (λ (s : SetupSoFar). s.shape) (sym c.self.view_is)) c.requires in
    let within = row_in_range shape c.args.row some carried in
    let channels = c.self.invariant.channels in
    let below = within.0 in
    record { channel = omega arith; sid = within.1 }

pub invariant_of-self-2 : goal.invariant_of-self-2
invariant_of-self-2 c =
    let shape = shape_of c.self.inside.width c.self.inside.ring in
    let setup = c.self.inside.setup in
    let said = setup_said shape setup in
    let has = said_of_setup shape setup c.args.self.now c.self.view_is in
    let row = c.args.row in
    let carried = subst (λ (shape : TraceShape). IsCarried shape (line.Sid row)) (ap (λ (s : SetupSoFar). s.shape) (sym c.self.view_is)) c.requires in
    let known = flow_known said c.args.self.now row.flow has c.in_ok-find_flow.ensures.known in
    let some = c.self.inside.width.some_channel in
    let small = (row_in_range shape row some carried).1 in
    let new = not_above said shape setup c.self.inside.seen c.self.inside.sfids c.args.self.now row.channel row.sid c.contains.result c.self.invariant c.self.view_is has
    small c.contains.ensures c.if-contains.false in
    sid_set_up shape setup _ c.self.inside.seen c.insert.new.self c.self.inside.sfids row c.self.invariant carried (sid_without_fault said row known new)
    c.insert.ensures.inserted c.insert.ensures.channels some refl c.in_ok-push.ensures.items

pub returns-clause-added : goal.returns-clause-added
returns-clause-added c = λ said has.
    let row = c.args.row in
    let known = flow_known said c.args.self.now row.flow has c.in_ok-find_flow.ensures.known in
    let shape = shape_of c.self.inside.width c.self.inside.ring in
    let carried = subst (λ (shape : TraceShape). IsCarried shape (line.Sid row)) (ap (λ (s : SetupSoFar). s.shape) (sym c.self.view_is)) c.requires in
    let small = (row_in_range shape row c.self.inside.width.some_channel carried).1 in
    let new = not_above said shape c.self.inside.setup c.self.inside.seen c.self.inside.sfids c.args.self.now row.channel row.sid c.contains.result
    c.self.invariant c.self.view_is has small c.contains.ensures c.if-contains.false in
    record {
      faultless = sid_without_fault said row known new;
      has = record {
        shape = ap (λ (s : SetupSoFar). s.shape) c.self.view_is ∙ has.shape;
        flows = ap (λ (s : SetupSoFar). s.setup.flows.items) c.self.view_is ∙ has.flows;
        sids = c.in_ok-push.ensures.items ∙ ap (λ (s : SetupSoFar). s.setup.sids.items ++ row ∷ []) c.self.view_is ∙ ap (λ sids. sids ++ row ∷ []) has.sids;
      };
    }
