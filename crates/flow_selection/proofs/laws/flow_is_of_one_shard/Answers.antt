use Rattle.std.proofs.Common.{◌%◌, rules}
use Rattle.flow_selection.proofs.laws.flow_is_of_one_shard.Goals as goal

pub returns-clause-some : goal.returns-clause-some
returns-clause-some c = λ count flow some. (flow % count, search (rules, some), λ shard left counted. search (rules, some, left, counted))
