use Rattle.std.proofs.Common.{◌+◌, arith}
use Rattle.registered_map.proofs.Rooms.{flows_room}
use Rattle.registered_map.proofs.named_flows.Flows.have.Goals as goal

pub returns-else-place-len-clause-room : goal.returns-else-place-len-clause-room
returns-else-place-len-clause-room c = λ k room. c.raise.ensures.room k (flows_room c.args.self.now k (k + 1) (omega arith) room)
