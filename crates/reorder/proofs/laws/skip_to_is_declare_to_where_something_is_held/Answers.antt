use Rattle.reorder.proofs.SkippedCount.{skipped_count-declared}
use Rattle.reorder.proofs.laws.skip_to_is_declare_to_where_something_is_held.Goals as goal

pub returns : goal.returns
returns g c = λ w number held. skipped_count-declared w number held
