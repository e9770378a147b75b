use Rattle.std.proofs.Common.{◌≡◌, ◌-◌, suc, Option, drop, sym, ap, ◌∙◌, arith}
use Rattle.std.specs.Option.{option_or}
use Rattle.burst_fates.specs.declared.burst_fate.BurstFate.{BurstFate}
use Rattle.burst_fates.specs.Fates.{last_of, is_kept}
use Rattle.burst_fates.proofs.Known.{kept-here, not-here, last-here}
use Rattle.burst_fates.proofs.burst_fates.BurstFates.fate_of.Goals as goal

pub returns-then-is_kept : goal.returns-then-is_kept
returns-then-is_kept c =
    let left = c.loop-left.left in
    sym (kept-here c.args.id c.args.self.now.told.items (left - 1) (omega (arith, c.loop-left-test.true, c.loop-left.invariant.within))
    (ap is_kept (sym c.told_at-told.ensures) ∙ sym c.is_kept.ensures ∙ c.if-is_kept.true))

pub loop-left-preserved : goal.loop-left-preserved
loop-left-preserved c =
    let left = c.loop-left.left in
    let id = c.args.id in
    let told = c.args.self.now.told.items in
    let one : left ≡ suc (left - 1) = omega (arith, c.loop-left-test.true) in
    record {
      kept =
          not-here id told (left - 1) left one c.loop-left.invariant.within (ap is_kept (sym c.told_at-told.ensures) ∙ sym c.is_kept.ensures ∙ c.if-is_kept.false)
          c.loop-left.invariant.kept;
      last =
          c.or-last.ensures
          ∙ ap (λ (last : Option BurstFate). option_or last c.told_at-told.result) c.loop-left.invariant.last
          ∙ ap (λ (here : Option BurstFate). option_or (last_of id (drop left told)) here) c.told_at-told.ensures
          ∙ last-here id told (left - 1) left one c.loop-left.invariant.within;
      within = omega (arith, c.loop-left.invariant.within);
    }
