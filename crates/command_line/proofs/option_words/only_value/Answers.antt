use Rattle.std.specs.Prelude.{map}
use Rattle.command_line.proofs.option_words.only_value.Goals as goal

pub returns-in-None : goal.returns-in-None
returns-in-None g c = record { only = (map g.S.AsStr.text c.in-Some.behind.now, c.in-Some.ensures, c.in-None.ensures); twice = tt }
