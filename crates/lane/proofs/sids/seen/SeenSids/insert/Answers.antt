-- One more place is set.
use Rattle.std.proofs.Common.{inl, inr, ⊎_elim, ◌∙◌, sym, arith}
use Rattle.lane.proofs.SeenRows.{put-in}
use Rattle.lane.proofs.sids.seen.SeenSids.insert.Goals as goal

pub returns : goal.returns
returns c =
    let seen = c.args.self.now.seen in
    let channel_below = c.requires.channel in
    let sid_below = c.requires.sid in
    let here = c.from.ensures in
    let there = c.from-2.ensures in
    let four = c.args.self.now.channels in
    let rows = c.args.self.now.sids c.from.result (omega arith) in
    let set = put-in seen c.from.result c.from-2.result (omega arith) (omega arith) in
    record {
      inserted = λ other number. (
        λ is. ⊎_elim (λ was. inl was) (λ same. inr (same.0 ∙ here, same.1 ∙ there)) ((set other number).0 is),
        λ is. (set other number).1 (⊎_elim (λ was. inl was) (λ same. inr (same.0 ∙ sym here, same.1 ∙ sym there)) is),
      );
    }
