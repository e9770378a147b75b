use Rattle.std.proofs.Common.{◌+◌, arith}
use Rattle.registered_map.proofs.Rooms.{map_room}
use Rattle.registered_map.proofs.registered_map.RegisteredMap.remark.Goals as goal

pub returns-clause-room : goal.returns-clause-room
returns-clause-room c = λ k room.
    let less = map_room c.args.self.now k (k + 1) (omega arith) room in
    record { flows = less.flows; channels = less.channels; sids = less.sids; remarks = c.note.ensures.room k room.remarks }
