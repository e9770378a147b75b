use Rattle.std.proofs.Common.{◌≡◌, ℕ, ◌<◌, ◌≤◌, length, arith, Option, None, Some, false, get_or, List, map, set, slice_get, refl, ap, subst, ◌∙◌}
use Rattle.std.proofs.Math.Seq.{map-set_same}
use Rattle.std.proofs.lemmas.List.{map-set, length-map, with_items_is}
use Rattle.std.proofs.lemmas.Option.{slice_get-get_or}
use Rattle.std.specs.Vec.{with_items}
use Rattle.loss_rule.specs.declared.known_channel.KnownChannel.{KnownChannel}
use Rattle.loss_rule.specs.declared.last_numbers.LastNumbers.{LastNumbers}
use Rattle.loss_rule.specs.Numbers.{distance_from}
use Rattle.loss_rule.proofs.Distances.{counted-anew}
use Rattle.loss_rule.proofs.LeastNumber.{at-map}
use Rattle.loss_rule.proofs.Forgetting.{rewritten, all-rewritten}
use Rattle.loss_rule.proofs.last_numbers.LastNumbers.count_anew.Goals as goal

pub loop-one-preserved : goal.loop-one-preserved
loop-one-preserved c =
    let items = c.loop-one.one-items in
    let i = c.loop-one.one-index in
    let first = map (λ (one : KnownChannel). one.last) c.args.self.now.channels.items in
    let f = λ (last : Option ℕ). distance_from c.args.by (distance_from c.args.self.now.reached.at last) in
    let so_far = c.loop-one.invariant.lasts in
    let within : i < length items = (let sizes = c.loop-one.auto.one-items in let below = c.loop-one-test.true in omega arith) in
    let item = get_or items i (record { carried = false; last = None }) in
    let at : slice_get items i ≡ Some item = slice_get-get_or items i (record { carried = false; last = None }) within in
    let last = at-map (λ (one : KnownChannel). one.last) items i item item.last at refl in
    record {
      carried = map-set_same (λ (one : KnownChannel). one.carried) items i _ (record { carried = false; last = None }) refl ∙ c.loop-one.invariant.carried;
      lasts = map-set (λ (one : KnownChannel). one.last) items i _
          ∙ ap (set (map (λ (one : KnownChannel). one.last) items) i) (c.distance_from-one.ensures ∙ ap (distance_from c.args.by) c.distance_from-last.ensures)
          ∙ ap (λ (ns : List (Option ℕ)). set ns i (f item.last)) so_far
          ∙ rewritten f first i item.last (subst (λ (ns : List (Option ℕ)). slice_get ns i ≡ Some item.last) so_far last);
    }

-- the channels are those that were written
written : (lasts : LastNumbers) (then items : List KnownChannel) → items ≡ lasts.channels.items → length then ≡ length items → (with_items lasts.channels then).items ≡ then
written lasts then items same long = with_items_is lasts.channels then (let whole = lasts.channels.ok.0 in let sizes = ap length same in omega arith)

pub returns-clause-carried : goal.returns-clause-carried
returns-clause-carried c =
    let items = c.deref_mut-one-items.result.now in
    let are = written c.args.self.now c.loop-one.one-items items c.deref_mut-one-items.ensures.value c.loop-one.auto.one-items in
    ap (map (λ (one : KnownChannel). one.carried)) are ∙ c.loop-one.invariant.carried

pub returns-clause-distances : goal.returns-clause-distances
returns-clause-distances c =
    let items = c.deref_mut-one-items.result.now in
    let at = c.args.self.now.reached.at in
    let are = written c.args.self.now c.loop-one.one-items items c.deref_mut-one-items.ensures.value c.loop-one.auto.one-items in
    let ends = c.loop-one-test.false in
    let sizes = ap length c.deref_mut-one-items.ensures.value in
    let first = map (λ (one : KnownChannel). one.last) c.args.self.now.channels.items in
    let all : length first ≤ c.loop-one.one-index = simp length-map (omega arith) in
    ap (map (λ (one : KnownChannel). distance_from 0 one.last)) are
    ∙ counted-anew at c.args.by c.args.self.now.channels.items c.loop-one.one-items
    (c.loop-one.invariant.lasts ∙ all-rewritten (λ (last : Option ℕ). distance_from c.args.by (distance_from at last)) first c.loop-one.one-index all)
