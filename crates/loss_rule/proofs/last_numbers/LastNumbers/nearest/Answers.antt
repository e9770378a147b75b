use Rattle.std.proofs.Common.{◌≡◌, ℕ, ◌+◌, ◌<◌, length, arith, None, Some, false, get_or, List, slice_get, ap, sym, subst}
use Rattle.std.proofs.lemmas.Option.{slice_get-get_or}
use Rattle.loss_rule.specs.declared.known_channel.KnownChannel.{KnownChannel}
use Rattle.loss_rule.proofs.LeastNumber.{IsLeastBelow, least-passed_over, least-taken, least-nearest}
use Rattle.loss_rule.proofs.last_numbers.LastNumbers.nearest.Goals as goal
use Rattle.loss_rule.proofs.last_numbers.LastNumbers.nearest.Goals.{then-one+in-Some, else-one}

-- a channel that is looked at is one of them
one-of : (items others : List KnownChannel) (i : ℕ) → others ≡ items → i < length others
    → slice_get items i ≡ Some (get_or others i (record { carried = false; last = None }))
one-of items others i same within =
    subst (λ (is : List KnownChannel). slice_get is i ≡ Some (get_or others i (record { carried = false; last = None }))) same
    (slice_get-get_or others i (record { carried = false; last = None }) within)

pub loop-channel-preserved : goal.loop-channel-preserved
loop-channel-preserved c =
    let items = c.args.self.now.channels.items in
    let reached = c.args.self.now.reached.at in
    let i = c.loop-channel.channel in
    let one = get_or c.deref-one-items.result.now i (record { carried = false; last = None }) in
    let at = one-of items c.deref-one-items.result.now i c.deref-one-items.ensures.value c.loop-channel-test.true in
    elim c.if-one.branch [
      | then-one+in-Some w ↦
          let distance = w.in-Some.distance in
          subst (IsLeastBelow reached items (i + 1)) (sym w.nearest-is)
          (least-taken reached items i one c.loop-channel.nearest distance w.lesser.result at w.if-one.true
          (w.beyond.ensures.distance distance w.in-Some.is) (w.beyond.ensures.after distance w.in-Some.is)
          w.lesser.ensures.one w.lesser.ensures.distance w.lesser.ensures.nearest c.loop-channel.invariant)
      | else-one w ↦
          subst (IsLeastBelow reached items (i + 1)) (sym w.nearest-is)
          (least-passed_over reached items i one c.loop-channel.nearest at w.if-one.false c.loop-channel.invariant)
    ]

pub returns : goal.returns
returns c =
    let items = c.args.self.now.channels.items in
    let reached = c.args.self.now.reached.at in
    let all : c.loop-channel.channel ≡ length items =
    (let test = c.loop-channel-test.false in let upto = c.loop-channel.auto.channel-end in let size = ap (λ (is : List KnownChannel). length is) c.deref-one-items.ensures.value in omega arith) in
    least-nearest reached items c.loop-channel.nearest (subst (λ n. IsLeastBelow reached items n c.loop-channel.nearest) all c.loop-channel.invariant)
