use Rattle.texts.proofs.TextLengths.{cut_text-length}
use Rattle.texts.proofs.laws.cut_text_has_this_length.Goals as goal

pub returns : goal.returns
returns c = cut_text-length
