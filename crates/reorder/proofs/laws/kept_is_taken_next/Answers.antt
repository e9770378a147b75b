use Rattle.reorder.specs.Number.{following}
use Rattle.reorder.proofs.Items.{get-insert_same, remove-insert}
use Rattle.reorder.proofs.laws.kept_is_taken_next.Goals as goal

pub returns-clause-item : goal.returns-clause-item
returns-clause-item g c = λ w item. get-insert_same w.held w.expected item

pub returns-clause-moved : goal.returns-clause-moved
returns-clause-moved g c = λ w item kept i. record { expected = following w.expected; width = w.width; held = remove-insert w.held w.expected item kept.1 i }
