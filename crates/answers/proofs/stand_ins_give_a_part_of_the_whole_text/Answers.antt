use Rattle.answers.proofs.PartsOfReports.{part_same}
use Rattle.answers.proofs.PartsOfTexts.{part_of_text}
use Rattle.answers.proofs.stand_ins_give_a_part_of_the_whole_text.Goals as goal

pub returns-clause-report : goal.returns-clause-report
returns-clause-report c = part_same

pub returns-clause-replay : goal.returns-clause-replay
returns-clause-replay c = part_of_text
