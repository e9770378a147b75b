use Rattle.std.proofs.Common.{◌≡◌, ℕ, ◌==◌, ◌&&◌, Bool, true, false, nat_lt, refl, ap, ◌∙◌, arith}
use Rattle.seen_sids.specs.declared.seen_sid.SeenSid.{SeenSid}
use Rattle.seen_sids.specs.Places.{place_of_sid}
use Rattle.seen_sids.specs.Rows.{kept_numbers, with_segment}
use Rattle.seen_sids.proofs.Places.{position_or_len-end}
use Rattle.seen_sids.proofs.seen.SeenSids.count.Goals as goal

-- a segment changes neither channel nor SID
with_segment-sid : (row : SeenSid) (is_right : Bool) (number : ℕ) → ((with_segment row is_right number).channel ≡ row.channel) × ((with_segment row is_right number).sid ≡ row.sid)
with_segment-sid row false number = (refl, refl)
with_segment-sid row true number = by_room (nat_lt row.count kept_numbers) refl
  where
    by_room : (b : Bool) → nat_lt row.count kept_numbers ≡ b → ((with_segment row true number).channel ≡ row.channel) × ((with_segment row true number).sid ≡ row.sid)
    by_room true is = rw is (refl, refl)
    by_room false is = rw is (refl, refl)

pub add-requires-clause-new : goal.add-requires-clause-new
add-requires-clause-new c =
    let rows = c.args.self.now.rows in
    let new = c.new.result in
    let same = with_segment-sid new c.args.is_right c.args.number in
    let channel : c.with.result.channel ≡ c.args.channel = ap (λ (r : SeenSid). r.channel) c.with.ensures ∙ same.0 ∙ ap (λ (r : SeenSid). r.channel) c.new.ensures in
    let sid : c.with.result.sid ≡ c.args.sid = ap (λ (r : SeenSid). r.sid) c.with.ensures ∙ same.1 ∙ ap (λ (r : SeenSid). r.sid) c.new.ensures in
    ap (λ n. place_of_sid n c.with.result.sid rows.items) channel ∙ ap (λ n. place_of_sid c.args.channel n rows.items) sid
    ∙ position_or_len-end (λ (row : SeenSid). row.channel == c.args.channel && row.sid == c.args.sid) rows.items
    (omega (arith, c.if-place-len.false, c.place_of-place.ensures, c.len.ensures, rows.ok.0))
