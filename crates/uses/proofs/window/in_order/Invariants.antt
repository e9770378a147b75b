use Rattle.std.proofs.Common.{◌≡◌, ℕ, ◌-◌, ◌<◌, slice_get, vec_len}
use Rattle.uses.specs.Window.{item_of}
use Rattle.uses.proofs.WindowLemmas.{HoldsOffered, HoldsRest}
use Rattle.uses.proofs.window.in_order.Given as goal

abbrev pub invariant-loop-number : goal.invariant-loop-number
invariant-loop-number g l = HoldsOffered l.window l.first l.width l.yielded

abbrev pub invariant-loop-item : goal.invariant-loop-item
invariant-loop-item g l = record {
  rest : HoldsRest l.window l.first l.width l.fn.offers.items (vec_len l.items);
  taken : (i : ℕ) → i < vec_len l.items → slice_get l.items.items i ≡ item_of l.first l.width l.fn.offers.items i;
}

abbrev pub decreases-loop-item : goal.decreases-loop-item
decreases-loop-item g l = l.width - vec_len l.items
