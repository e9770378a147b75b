-- The lines that are ended, and one more if there is something behind them.
use Rattle.std.proofs.Common.{◌≡◌, ◌<◌, ◌+◌, ◌-◌, ◌^◌, inl, inr, min, length, ap, ◌∙◌, rules}
use Rattle.engines.proofs.FollowedLines.{last_is}
use Rattle.engines.proofs.follow.Follower.last_line.Goals as goal

pub returns-then-is_empty : goal.returns-then-is_empty
returns-then-is_empty c =
    let none : length c.args.self.now.lines.unfinished ≡ 0 = search rules in
    last_is c.args.self.now c.line_count-ended.result (inl (none, c.line_count-ended.ensures))

pub returns : goal.returns
returns c =
    let some : 0 < length c.args.self.now.lines.unfinished = search rules in
    last_is c.args.self.now c.saturating_add.result
    (inr (some, c.saturating_add.ensures ∙ ap (λ n. min (n + 1) (2 ^ 64 - 1)) c.line_count-ended.ensures))
