use Rattle.std.proofs.Common.{◌==◌, ◌∙◌, None, refl, arith}
use Rattle.registered_map.specs.declared.telling.RegisteredFlow.{RegisteredFlow}
use Rattle.registered_map.proofs.Places.{position-none}
use Rattle.registered_map.proofs.named_flows.Flows.place_of.Goals as goal

pub returns-in-None : goal.returns-in-None
returns-in-None c =
    let flows = c.args.self.now.named in
    let none = position-none (λ (flow : RegisteredFlow). flow.sfid == c.args.sfid) flows.items None (c.in-None.ensures.value ∙ c.args.self.now.indexed c.args.sfid) refl in
    omega (arith, none, c.len.ensures, flows.ok.0)
