use Rattle.std.proofs.Common.{[], refl, ◌∙◌, arith}
use Rattle.std.proofs.lemmas.List.{take_all}
use Rattle.frame_records.proofs.named_bursts.first_burst_ids.Goals as goal

pub returns-clause-none : goal.returns-clause-none
returns-clause-none c = λ none. c.first_named.ensures [] [] (c.burst_ids.ensures.none none) refl ∙ take_all 16 [] (omega arith)
