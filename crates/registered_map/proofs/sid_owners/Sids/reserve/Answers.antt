use Rattle.std.proofs.Common.{◌∙◌, sym, ap}
use Rattle.registered_map.specs.Places.{owner_of}
use Rattle.registered_map.proofs.sid_owners.Sids.reserve.Goals as goal

pub invariant_of-self-2 : goal.invariant_of-self-2
invariant_of-self-2 c = record {
  indexed = λ channel sid.
      c.reserve-2.ensures.entries.2 (channel, sid) ∙ c.args.self.now.indexed channel sid ∙ ap (owner_of channel sid) (sym c.reserve.ensures.items);
}
