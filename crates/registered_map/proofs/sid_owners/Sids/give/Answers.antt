use Rattle.std.proofs.Common.{ap, sym, ◌∙◌, arith}
use Rattle.registered_map.specs.Places.{owner_of}
use Rattle.registered_map.proofs.Places.{ok_ensures, owner_of-push}
use Rattle.registered_map.proofs.sid_owners.Sids.give.Goals as goal

pub invariant_of-self : goal.invariant_of-self
invariant_of-self c =
    let updates = ok_ensures c.insert.result _ (c.insert.ensures.succeeds (omega (arith, c.requires.room.owners))) c.insert.ensures.updates in
    record {
      indexed = λ channel sid.
          owner_of-push c.args.self.now.rows.items c.args.row channel sid _ _ (c.args.self.now.indexed channel sid) (updates.0 (channel, sid)) c.requires.new
          ∙ ap (owner_of channel sid) (sym c.push_reserved.ensures.items);
    }
