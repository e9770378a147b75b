use Rattle.std.proofs.Common.{refl}
use Rattle.capture_rules.specs.Turns.{clocked}
use Rattle.capture_rules.proofs.InTurns.{leaves-orders, coming-at_first}
use Rattle.capture_rules.proofs.laws.each_channel_leaves_in_order.Goals as goal

pub returns : goal.returns
returns g c = λ reorder place came left handed last nearly few orders ends. (leaves-orders reorder place orders refl few (coming-at_first reorder place (clocked reorder 0 came) nearly.places nearly.pairs) ends).0
