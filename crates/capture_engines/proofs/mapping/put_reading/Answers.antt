use Rattle.std.proofs.Common.{[], ◌++◌, cond, sym, subst, ◌∙◌}
use Rattle.text_lines.specs.Putting.{Puts}
use Rattle.text_lines.proofs.PutTexts.{puts-then}
use Rattle.registered_map.specs.Holding.{registered_in}
use Rattle.registered_map.specs.MapText.{map_text}
use Rattle.seen_sids.specs.Seen.{seen_in}
use Rattle.seen_sids.specs.SeenText.{seen_text}
use Rattle.capture_engines.proofs.mapping.put_reading.Goals as goal
use Rattle.capture_engines.proofs.mapping.put_reading.Goals.{then-is_empty, else-is_empty}

pub returns : goal.returns
returns g c =
    let A = g.O.PutText.after in
    let map = registered_in c.args.reading.now.map in
    let seen = seen_in c.args.reading.now.seen in
    let old = c.args.out.now in
    let new = c.put_map.new.out in
    elim c.if-is_empty.branch [
      | then-is_empty w ↦
          subst (λ b. Puts A old (cond b (seen_text seen) [] ++ map_text map) new) (sym (sym c.is_empty.ensures ∙ w.if-is_empty.true))
          (puts-then A (subst (λ o. Puts A old (seen_text seen) o) (sym w.out-is) w.put_seen.ensures) c.put_map.ensures)
      | else-is_empty w ↦
          subst (λ b. Puts A old (cond b (seen_text seen) [] ++ map_text map) new) (sym (sym c.is_empty.ensures ∙ w.if-is_empty.false))
          (subst (λ o. Puts A o (map_text map) new) w.out-is c.put_map.ensures)
    ]
