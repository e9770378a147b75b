use Rattle.reorder.proofs.SkippedCount.{skipped_count-le, skipped_count-le_held, skipped_count-reaches, skipped_count-none}
use Rattle.reorder.proofs.laws.skip_to_stops_at_number_or_held.Goals as goal

pub returns-clause-up_to_number : goal.returns-clause-up_to_number
returns-clause-up_to_number g c = λ w number. skipped_count-le w number

pub returns-clause-up_to_held : goal.returns-clause-up_to_held
returns-clause-up_to_held g c = λ w number q held. skipped_count-le_held w number q held

pub returns-clause-reached : goal.returns-clause-reached
returns-clause-reached g c = λ w number lawful near. skipped_count-reaches w number lawful near

pub returns-clause-none : goal.returns-clause-none
returns-clause-none g c = λ w number none. skipped_count-none w number none
