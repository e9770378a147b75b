-- A receiver that is new stands for nothing.
use Rattle.std.proofs.Common.{ℕ, [], refl, subst, ◌∙◌}
use Rattle.lane.specs.Limits.{channel_limit}
use Rattle.consumer.specs.Collecting.{HasNothing}
use Rattle.receiver.proofs.PlayedOut.{plays-nothing}
use Rattle.receiver.proofs.playing.Playing.new.Goals as goal

pub returns-clause-plays : goal.returns-clause-plays
returns-clause-plays g c =
    plays-nothing g.C.HeaderCheck.accepts c.args.rule (g.C.HeaderCheck.accepts c.args.check) c.args.setup.now _
    c.in-Ok.ensures.stands
    (subst (λ (n : ℕ). HasNothing n channel_limit c.in_ok-collected.collected) (c.len.ensures ∙ c.args.setup.now.flows.ok.0) c.in_ok-collected.ensures) c.in_ok-no_refusals.ensures

pub returns-clause-playing : goal.returns-clause-playing
returns-clause-playing g c = record {
  rule = c.args.rule;
  check = g.C.HeaderCheck.accepts c.args.check;
  setup = c.args.setup.now;
  handed = [];
  plays = returns-clause-plays g c;
  five = refl;
}
