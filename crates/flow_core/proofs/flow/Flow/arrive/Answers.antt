-- The flow takes the segment as the window's verdict says.
use Rattle.std.proofs.Common.{refl}
use Rattle.reorder.specs.declared.verdict.Verdict.TheVariants.{Late, Beyond, Repeat, Kept}
use Rattle.flow_core.proofs.Arriving.{arrives-taken}
use Rattle.flow_core.proofs.flow.Flow.arrive.Goals as goal

pub returns-in-Kept : goal.returns-in-Kept
returns-in-Kept c =
    arrives-taken _ _ _ Kept c.requires.drained c.in-Kept.ensures.verdict c.in-Kept.ensures.after c.offer.ensures.lawful refl refl
    (λ i. record { kept = c.saturating_add-self.ensures i; late = c.args.self.now.counts.late; repeat = c.args.self.now.counts.repeat; beyond = c.args.self.now.counts.beyond; lost = c.args.self.now.counts.lost; frames = c.args.self.now.counts.frames; skipped = c.args.self.now.counts.skipped })

pub returns-in-Late : goal.returns-in-Late
returns-in-Late c =
    arrives-taken _ _ _ (Late c.in-Late.back) c.requires.drained c.in-Late.ensures.verdict c.in-Late.ensures.after c.offer.ensures.lawful refl refl
    (λ i. record { kept = c.args.self.now.counts.kept; late = c.saturating_add-self-in-Late.ensures i; repeat = c.args.self.now.counts.repeat; beyond = c.args.self.now.counts.beyond; lost = c.args.self.now.counts.lost; frames = c.args.self.now.counts.frames; skipped = c.args.self.now.counts.skipped })

pub returns-in-Repeat : goal.returns-in-Repeat
returns-in-Repeat c =
    arrives-taken _ _ _ (Repeat c.in-Repeat.back) c.requires.drained c.in-Repeat.ensures.verdict c.in-Repeat.ensures.after c.offer.ensures.lawful refl refl
    (λ i. record { kept = c.args.self.now.counts.kept; late = c.args.self.now.counts.late; repeat = c.saturating_add-self-in-Repeat.ensures i; beyond = c.args.self.now.counts.beyond; lost = c.args.self.now.counts.lost; frames = c.args.self.now.counts.frames; skipped = c.args.self.now.counts.skipped })

pub returns-in-Beyond : goal.returns-in-Beyond
returns-in-Beyond c =
    arrives-taken _ _ _ (Beyond c.in-Beyond.back) c.requires.drained c.in-Beyond.ensures.verdict c.in-Beyond.ensures.after c.offer.ensures.lawful refl refl
    (λ i. record { kept = c.args.self.now.counts.kept; late = c.args.self.now.counts.late; repeat = c.args.self.now.counts.repeat; beyond = c.saturating_add-self-in-Beyond.ensures i; lost = c.args.self.now.counts.lost; frames = c.args.self.now.counts.frames; skipped = c.args.self.now.counts.skipped })
