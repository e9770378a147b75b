use Rattle.std.proofs.Common.{◌+◌, arith}
use Rattle.registered_map.proofs.Rooms.{map_room}
use Rattle.registered_map.proofs.registered_map.RegisteredMap.give.Goals as goal

pub returns-in-Some-clause-room : goal.returns-in-Some-clause-room
returns-in-Some-clause-room c = λ k room.
    let less = map_room c.args.self.now k (k + 1) (omega arith) room in
    record { flows = c.raise.ensures.room k less.flows; channels = less.channels; sids = less.sids; remarks = less.remarks }
