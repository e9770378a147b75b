use Rattle.std.proofs.Common.{◌≡◌, ◌<◌, length}
use Rattle.std.specs.Prelude.{map}
use Rattle.command_line.proofs.AskedWords.{HasNoneBefore}
use Rattle.command_line.proofs.command.before_help.Given as goal

abbrev pub invariant-loop-place : goal.invariant-loop-place
invariant-loop-place g l = record {
  end : l.place-end ≡ length l.words;
  later : 0 < l.place;
  none : HasNoneBefore (map g.S.AsStr.text l.words) l.place;
}
