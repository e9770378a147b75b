use Rattle.selected_receiver.proofs.AlikeWhole.{expected-of_whole, told-of_whole}
use Rattle.selected_receiver.proofs.laws.numbers_and_verdicts_depend_on_headers_alone.Goals as goal

pub returns-clause-expected : goal.returns-clause-expected
returns-clause-expected c = expected-of_whole

pub returns-clause-told : goal.returns-clause-told
returns-clause-told c = told-of_whole
