use Rattle.std.proofs.Common.{◌≡◌, ◌-◌, length, take}
use Rattle.std.specs.Prelude.{fold}
use Rattle.registered_map.specs.Registered.{with_told}
use Rattle.registered_map.specs.Holding.{registered_in}
use Rattle.registered_map.specs.Inside.Room.{HasRoom}
use Rattle.registered_map.proofs.registered_map.RegisteredMap.take_all.Given as goal

abbrev pub invariant-loop-one : goal.invariant-loop-one
invariant-loop-one l = record {
  told : registered_in l.self ≡ fold (with_told l.telling) (registered_in l.fn.self) (take l.one-index l.told);
  room : HasRoom (length l.told - l.one-index) l.self;
}
