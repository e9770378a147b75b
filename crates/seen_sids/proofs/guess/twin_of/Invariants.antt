use Rattle.std.proofs.Common.{◌≡◌, drop}
use Rattle.std.specs.Prelude.{find}
use Rattle.seen_sids.specs.Guess.{look_like_one}
use Rattle.seen_sids.proofs.guess.twin_of.Given as goal

abbrev pub invariant-loop-one : goal.invariant-loop-one
invariant-loop-one l = find (λ one. look_like_one one l.row) l.rows ≡ find (λ one. look_like_one one l.row) (drop l.one-index l.rows)
