-- The flow is the one at its index.
use Rattle.std.proofs.Common.{refl, sym, subst, ◌∙◌}
use Rattle.std.proofs.lemmas.Option.{slice_get_read, same_Some}
use Rattle.flow_core.specs.Stands.{IsDrained}
use Rattle.flow_core.proofs.flows.Core.is_drained.Goals as goal

pub returns : goal.returns
returns g c =
    let here = slice_get_read c.args.self.now.flows.items _ c.args.flow c.index.result.now refl c.requires.exists c.index.ensures in (
      λ yes. record { flow = c.index.result.now; there = here; drained = c.is_drained.ensures.0 yes },
      λ at. c.is_drained.ensures.1 (subst IsDrained (same_Some _ _ (sym at.there ∙ here)) at.drained),
    )
