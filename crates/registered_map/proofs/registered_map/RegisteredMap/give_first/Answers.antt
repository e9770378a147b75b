use Rattle.std.proofs.Common.{arith}
use Rattle.registered_map.proofs.registered_map.RegisteredMap.give_first.Goals as goal

pub returns-clause-room : goal.returns-clause-room
returns-clause-room c = λ k room. record {
  flows = c.have.ensures.room k room.flows;
  channels = c.name_channel.ensures.room k room.channels;
  sids = c.give.ensures.room k room.sids;
  remarks = omega (arith, room.remarks);
}
