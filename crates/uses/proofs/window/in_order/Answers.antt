use Rattle.std.proofs.Common.{◌≡◌, ◌+◌, ap, sym, subst, ◌∙◌, arith, vec_len, slice_get}
use Rattle.std.proofs.lemmas.List.{map-id}
use Rattle.std.proofs.lemmas.Iterator.Adapters.{YieldsList-from_vec}
use Rattle.std.proofs.lemmas.Iterator.Consumers.{YieldsList-end}
use Rattle.uses.specs.Window.{item_of}
use Rattle.uses.proofs.WindowLemmas.{HoldsOffered, HoldsRest, HoldsOffered-none, HoldsOffered-next, HoldsRest-all, HoldsRest-next, next-counts, taken-next}
use Rattle.uses.proofs.window.in_order.Goals as goal

pub loop-number-init : goal.loop-number-init
loop-number-init g c = HoldsOffered-none _ _ _ c.in_ok-window.ensures.lawful c.in_ok-window.ensures.empty

pub loop-number-preserved : goal.loop-number-preserved
loop-number-preserved g c = HoldsOffered-next _ _ _ _ c.loop-number.invariant _ _ _ _ c.offer.ensures.lawful c.offer.ensures.verdict c.offer.ensures.after

pub loop-item-init : goal.loop-item-init
loop-item-init g c =
    let gives = c.into_iter-number-iterator.ensures.into_iter_gives in
    let all = YieldsList-end (YieldsList-from_vec c.args.offers.items gives.0 (gives.1 ∙ c.args.offers.ok.0)) c.loop-number.yielded c.loop-number.number-iterator c.loop-number.yielded_by c.next.result c.next.new.self c.in-None.is c.next.ensures.steps in
    let holds : HoldsOffered c.loop-number.window c.args.first c.args.width c.args.offers.items = subst (HoldsOffered c.loop-number.window c.args.first c.args.width) (sym (map-id c.loop-number.yielded) ∙ all.0) c.loop-number.invariant in
    let none : vec_len c.in_ok-items.items ≡ 0 = c.in_ok-items.ensures.len in
    record {
      rest = subst (HoldsRest c.loop-number.window c.args.first c.args.width c.args.offers.items) (sym none) (HoldsRest-all _ _ _ _ c.requires.first_in_range c.requires.width_in_range holds);
      taken = λ i below. absurd (omega arith);
    }

pub loop-item-preserved : goal.loop-item-preserved
loop-item-preserved g c =
    let e = c.in-Some-take_next.ensures in
    let p = c.in_ok-push.ensures in
    let one_more : vec_len c.push.new.self ≡ vec_len c.loop-item.items + 1 = p.len in
    record {
      rest = subst (HoldsRest c.take_next.new.self c.args.first c.args.width c.args.offers.items) (sym one_more) (HoldsRest-next _ _ _ _ _ c.loop-item.invariant.rest _ _ e.item e.after);
      taken = λ i below. ap (λ xs. slice_get xs i) p.items ∙ taken-next _ _ _ _ _ c.loop-item.invariant.rest c.loop-item.items.items _ (sym c.loop-item.items.ok.0) e.item c.loop-item.invariant.taken i (omega arith);
    }

pub returns : goal.returns
returns g c =
    let as_many = c.loop-item.items.ok.0 in
    record {
      run = record {
        each = λ i below. c.loop-item.invariant.taken i (omega arith);
        ends = ap (item_of c.args.first c.args.width c.args.offers.items) (sym as_many) ∙ sym (next-counts _ _ _ _ _ c.loop-item.invariant.rest) ∙ sym c.in_default.ensures.item;
      };
    }
