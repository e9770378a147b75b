use Rattle.std.specs.Prelude.{nat_eq}
use Rattle.std.specs.HashMap.{get}
use Rattle.std.proofs.Common.{◌≡◌, ℕ, ◌==◌, ◌&&◌, cond, Some, List, ◌∷◌, [], ◌++◌, length, ap, sym, ◌∙◌, arith}
use Rattle.seen_sids.specs.declared.seen_sid.SeenSid.{SeenSid}
use Rattle.seen_sids.specs.Places.{sid_if_seen}
use Rattle.seen_sids.proofs.Places.{ok_ensures, sid_if_seen-push}
use Rattle.seen_sids.proofs.seen.SeenSids.add.Goals as goal

pub invariant_of-self-2 : goal.invariant_of-self-2
invariant_of-self-2 c =
    let rows = c.args.self.now.rows.items in
    let row = c.args.row in
    let updates = ok_ensures c.insert.result _ (c.insert.ensures.succeeds (omega (arith, c.in_ok-reserve-2.ensures.ok))) c.insert.ensures.updates in
    let long : c.len-place.result ≡ length rows =
    omega (arith, c.len-place.ensures, c.reserve.new.self.ok.0, ap (λ (rs : List SeenSid). length rs) c.reserve.ensures.items)
    in
    let pushed = c.push_reserved.ensures.items ∙ ap (λ (rs : List SeenSid). rs ++ row ∷ []) c.reserve.ensures.items in
    record {
      indexed = λ channel sid.
          sid_if_seen-push rows row channel sid _ _ (c.in_ok-reserve-2.ensures.entries.2 (channel, sid) ∙ c.args.self.now.indexed channel sid)
          (updates.0 (channel, sid) ∙ ap (λ (n : ℕ). cond (row.channel == channel && row.sid == sid) (Some n) (get (λ p q. nat_eq p.0 q.0 && nat_eq p.1 q.1) c.reserve-2.new.self (channel, sid))) long) c.requires.new
          ∙ ap (sid_if_seen channel sid) (sym pushed);
    }
