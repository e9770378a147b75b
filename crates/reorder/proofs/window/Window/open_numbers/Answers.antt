use Rattle.std.proofs.Common.{◌<◌, subst, sym, arith}
use Rattle.std.specs.FinMap as map
use Rattle.reorder.specs.View.{WindowView}
use Rattle.reorder.proofs.Jumps.{IsOpen, IsOpen-front}
use Rattle.reorder.proofs.window.Window.open_numbers.Goals as goal

pub returns : goal.returns
returns g c =
    let front = c.empty_before_held.ensures in
    let held = subst (λ (v : WindowView _). 0 < map.len v.held) (sym c.self.view_is) c.requires.some_held in
    let said = subst (λ (v : WindowView _). IsOpen v c.from.result c.empty_before_held.result) c.self.view_is (IsOpen-front _ _ _ c.self.invariant _ _ held front) in
    let found = subst (λ most. IsOpen c.args.self.now most c.empty_before_held.result) c.from.ensures said in
    let few = front.at_most in
    record {
      at_most = omega arith;
      none_held = found.none_held;
      next_is_held = found.next_is_held;
      within = found.within;
    }
