use Rattle.std.proofs.Common.{ℕ, List, length}
use Rattle.std.specs.Prelude.{map}
use Rattle.command_line.specs.OptionWords.{HasNoOption, HasFirstValue}
use Rattle.command_line.proofs.option_words.first_value.Given as goal

-- what the rest says, all words say
abbrev pub invariant-loop-rest : goal.invariant-loop-rest
invariant-loop-rest g l = record {
  value : (value : List ℕ) (behind : List (List ℕ)) → HasFirstValue l.option (map g.S.AsStr.text l.rest) value behind
      → HasFirstValue l.option (map g.S.AsStr.text l.words) value behind;
  none : HasNoOption l.option (map g.S.AsStr.text l.rest) → HasNoOption l.option (map g.S.AsStr.text l.words);
}

abbrev pub decreases-loop-rest : goal.decreases-loop-rest
decreases-loop-rest g l = length l.rest
