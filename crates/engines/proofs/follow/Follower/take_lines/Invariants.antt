-- What was followed of the piece.
use Rattle.std.proofs.Common.{◌≡◌, ℕ, List, ◌++◌, length}
use Rattle.std.specs.Prelude.{flat_map}
use Rattle.loss_rule.specs.declared.rule.LossRule.{LossRule}
use Rattle.receiver.specs.declared.width.Width.{Width}
use Rattle.text_lines.specs.Putting.{Puts}
use Rattle.texts.specs.declared.follow.settings.FollowSettings.{FollowSettings}
use Rattle.texts.specs.Follow.{told_lines}
use Rattle.texts.specs.Happened.{HappenedAt}
use Rattle.engines.specs.Inside.Following.{HasFollowedBytes}
use Rattle.engines.proofs.follow.Follower.take_lines.Given as goal

abbrev pub invariant-loop-rest : goal.invariant-loop-rest
invariant-loop-rest g l =
    (rule : LossRule) (width : Width) (settings : FollowSettings) (bytes : List ℕ) (told : List HappenedAt) → HasFollowedBytes rule width settings bytes told l.fn.self
    → (done : List ℕ) × (happened : List HappenedAt) × (l.piece ≡ done ++ l.rest) × Puts g.O.PutText.after l.fn.out (flat_map (told_lines settings) happened) l.out
    × HasFollowedBytes rule width settings (bytes ++ done) (told ++ happened) l.self

abbrev pub decreases-loop-rest : goal.decreases-loop-rest
decreases-loop-rest g l = length l.rest
