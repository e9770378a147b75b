use Rattle.std.proofs.Common.{◌≡◌, ◌<◌, ◌++◌, ◌∷◌, [], true, length, refl, sym, ap, subst, ◌∙◌, arith}
use Rattle.flow_records.proofs.SeenIdentifiers.{was-new}
use Rattle.texts.specs.declared.trace.trace_line.TraceLine.TheVariants as line
use Rattle.texts.specs.Trace.Line.{TraceShape, shape_of}
use Rattle.texts.specs.Inside.SetupLines.{SetupSoFar, setup_said, IsCarried}
use Rattle.texts.proofs.SetupKept.{said_of_setup, flow_set_up, sfid_not_above}
use Rattle.texts.proofs.trace.setup_lines.SetupLines.add_flow.Goals as goal

pub invariant_of-self-2 : goal.invariant_of-self-2
invariant_of-self-2 c =
    let shape = shape_of c.self.inside.width c.self.inside.ring in
    let setup = c.self.inside.setup in
    let carried = subst (λ (shape : TraceShape). IsCarried shape (line.Flow c.args.flow)) (ap (λ (s : SetupSoFar). s.shape) (sym c.self.view_is)) c.requires in
    let added : c.in_ok-insert.field-0 ≡ true = cc in
    let absent = was-new _ _ c.in_ok-insert.ensures.added added in
    let new = sfid_not_above (setup_said shape setup) shape setup c.args.self.now c.args.flow.sfid _ c.self.view_is
    (said_of_setup shape setup c.args.self.now c.self.view_is) (c.self.invariant.named c.args.flow.sfid).1 absent in
    let few_inside : length setup.flows.items < shape.flows = omega (arith, setup.flows.ok.0) in
    flow_set_up shape setup _ c.self.inside.seen c.self.inside.sfids c.insert.new.self c.args.flow c.self.invariant carried few_inside new
    (c.push_reserved.ensures.items ∙ ap (λ items. items ++ c.args.flow ∷ []) c.in_ok-reserve.ensures.items) refl c.self.inside.width.some_channel
    c.in_ok-insert.ensures.updates
