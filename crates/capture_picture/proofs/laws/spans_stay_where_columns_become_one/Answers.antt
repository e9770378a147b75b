use Rattle.capture_picture.proofs.Covering.{span_stays}
use Rattle.capture_picture.proofs.laws.spans_stay_where_columns_become_one.Goals as goal

pub returns : goal.returns
returns c = span_stays
