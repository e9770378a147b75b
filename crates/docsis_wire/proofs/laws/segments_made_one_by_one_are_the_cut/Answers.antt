use Rattle.std.proofs.Common.{refl}
use Rattle.docsis_wire.proofs.OneByOne.{HasMade-none, HasMade-more, HasMade-all}
use Rattle.docsis_wire.proofs.laws.segments_made_one_by_one_are_the_cut.Goals as goal

pub returns-clause-none : goal.returns-clause-none
returns-clause-none c cut none = (record { same_frames = refl; same_pieces = refl; same_first = refl; same_fill = refl }, HasMade-none cut none)

pub returns-clause-one_more : goal.returns-clause-one_more
returns-clause-one_more c = HasMade-more

pub returns-clause-all : goal.returns-clause-all
returns-clause-all c = HasMade-all
