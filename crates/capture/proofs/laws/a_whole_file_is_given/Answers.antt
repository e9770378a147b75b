use Rattle.capture.proofs.OneReading.{all_given}
use Rattle.capture.proofs.laws.a_whole_file_is_given.Goals as goal

pub returns : goal.returns
returns c = all_given
