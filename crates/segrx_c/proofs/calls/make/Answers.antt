-- Where the box isn't made, that an allocation failed is told.
use Rattle.std.proofs.Common.{◌∙◌}
use Rattle.c_receiver.specs.declared.status.MakeFault.TheVariants.{OutOfMemory}
use Rattle.segrx_c.proofs.Refusals.{not-made}
use Rattle.segrx_c.proofs.calls.make.Goals as goal

pub returns-in-Ok : goal.returns-in-Ok
returns-in-Ok c =
    not-made c.args.channels c.args.flows.now c.args.rows.now c.args.rule c.refused.result.number c.refused.result.value OutOfMemory
    c.refused.ensures.0 (c.refused.ensures.1 ∙ c.number.ensures) tt
