use Rattle.std.proofs.Common.{◌==◌, ◌&&◌, ◌∙◌, None, refl, arith}
use Rattle.seen_sids.specs.declared.seen_sid.SeenSid.{SeenSid}
use Rattle.seen_sids.proofs.Places.{position-none}
use Rattle.seen_sids.proofs.seen.SeenSids.place_of.Goals as goal

pub returns-in-None : goal.returns-in-None
returns-in-None c =
    let rows = c.args.self.now.rows in
    let none =
    position-none (λ (row : SeenSid). row.channel == c.args.channel && row.sid == c.args.sid) rows.items None
    (c.in-None.ensures.value ∙ c.args.self.now.indexed c.args.channel c.args.sid) refl
    in
    omega (arith, none, c.len.ensures, rows.ok.0)
