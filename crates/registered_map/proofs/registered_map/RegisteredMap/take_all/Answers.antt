use Rattle.std.proofs.Common.{◌-◌, None, length, get_or, sym, ap, ◌∙◌, arith}
use Rattle.std.proofs.lemmas.List.Sums.{fold_more}
use Rattle.registrations.specs.declared.told.Told.{Told}
use Rattle.registrations.specs.declared.told.Told.TheVariants.{Flow}
use Rattle.registered_map.specs.Registered.{with_told}
use Rattle.registered_map.specs.Holding.{registered_in}
use Rattle.registered_map.proofs.Rooms.{map_room, room_left}
use Rattle.registered_map.proofs.registered_map.RegisteredMap.take_all.Goals as goal

pub take_told-requires : goal.take_told-requires
take_told-requires c = record {
  room = map_room c.loop-one.self 1 (length c.args.told.now - c.loop-one.one-index) (omega arith) c.loop-one.invariant.room;
}

pub loop-one-preserved : goal.loop-one-preserved
loop-one-preserved c =
    let any : Told = Flow (record { reference = None; sfid = None; sid = None; policy = None }) in
    record {
      told =
          c.take_told.ensures.told ∙ ap (λ so_far. with_told c.args.telling so_far (get_or c.args.told.now c.loop-one.one-index any)) c.loop-one.invariant.told
          ∙ sym (fold_more (with_told c.args.telling) (registered_in c.args.self.now) c.args.told.now c.loop-one.one-index any c.loop-one-test.true);
      room = room_left c.loop-one.self c.take_told.new.self (length c.args.told.now) c.loop-one.one-index c.loop-one-test.true c.take_told.ensures.room c.loop-one.invariant.room;
    }
