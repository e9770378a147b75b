-- What each part leads to.
use Rattle.std.proofs.Common.{[], sym, ◌∙◌, subst}
use Rattle.capture.specs.declared.pcapng_step.BlockStage.TheVariants.{Magic}
use Rattle.capture.specs.SeenCapture.{section_parts}
use Rattle.capture.specs.Inside.BlockStages.{Advances}
use Rattle.capture.proofs.BlockSteps.{passes_over}
use Rattle.capture.proofs.pcapng_step.advance.Goals as goal

pub returns-in_ok-after_magic-in-Magic-clause-next :
    goal.returns-in_ok-after_magic-in-Magic-clause-next
returns-in_ok-after_magic-in-Magic-clause-next c =
    let section = section_parts c.args.section.now in
    rw c.in-Magic.is
    (subst (λ t. Advances Magic section t c.in_ok-after_magic-in-Magic.field-0 section t []) c.deref.ensures.value (c.in_ok-after_magic-in-Magic.ensures.next section))

pub returns-in_ok-check_last-in-Skip-clause-next :
    goal.returns-in_ok-check_last-in-Skip-clause-next
returns-in_ok-check_last-in-Skip-clause-next c =
    let kept = rw c.in-Skip.is at c.requires.kept in
    let none = rw c.in-Skip.is at c.requires.filling in
    rw c.in-Skip.is
    (passes_over (section_parts c.args.section.now) c.in-Skip.head c.in-Skip.field-1 c.args.pending.now.items c.clear.new.self.items kept.0 none
    (sym c.deref-in-Skip.ensures.value ∙ c.in_ok-check_last-in-Skip.ensures.same) c.clear.ensures.items)
