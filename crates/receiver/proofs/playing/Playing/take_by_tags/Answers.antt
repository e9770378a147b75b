-- What the next tag names is handed in.
use Rattle.std.proofs.Common.{◌≡◌, ◌≢◌, ℕ, suc, ◌+◌, ◌<◌, ◌==◌, ⊎_elim, cond, Some, List, [], ◌∷◌, ◌++◌, length, take, get_or, slice_index_or, slice_set, if◌then◌else◌, sym, ap, subst, ◌∙◌, arith}
use Rattle.std.proofs.Math.Seq.{take-suc}
use Rattle.std.proofs.lemmas.Bool.{cases_eq}
use Rattle.std.proofs.lemmas.List.{take_all, get_or-set_same, get_or-set_other}
use Rattle.std.proofs.lemmas.List.Elements.{All-get_or}
use Rattle.std.proofs.lemmas.List.Sums.{sum_by-take-le}
use Rattle.std.proofs.lemmas.Option.{slice_get-get_or, get_or_from_slice_get}
use Rattle.lane.specs.Limits.{senders}
use Rattle.receiver.specs.Items.{Incoming, incoming_of}
use Rattle.receiver.specs.Order.{times_of, IsLawfulOrder}
use Rattle.receiver.specs.AdmittedOrder.{input_counts}
use Rattle.receiver.specs.HandedOrder.{count_from}
use Rattle.receiver.specs.Playing.{PlaysTags}
use Rattle.receiver.proofs.OrderPlaces.{times-same, times-other}
use Rattle.receiver.proofs.PlayingTurns.{tags-none, tags-next}
use Rattle.receiver.proofs.ReplayedOrder.{counts-are}
use Rattle.receiver.proofs.playing.Playing.take_by_tags.Goals as goal

pub loop-tag-init : goal.loop-tag-init
loop-tag-init g c = record {
  plays = subst (λ (order : List ℕ). PlaysTags g.C.HeaderCheck.accepts (incoming_of c.args.lists.now) c.args.self.now [] order c.args.self.now) (sym c.in_ok-order.ensures.items)
      (tags-none g.C.HeaderCheck.accepts (incoming_of c.args.lists.now) c.args.self.now);
  playing = c.requires.playing;
  places = λ sender named. c.requires.places sender;
}

-- a tag names a sender
tag-named : (incoming : Incoming) (tags : List ℕ) (k tag : ℕ) → k < length tags → tag ≡ get_or tags k 0 → IsLawfulOrder (input_counts incoming) tags → tag < senders
tag-named incoming tags k tag within is lawful = subst (λ (t : ℕ). t < senders) (sym is) (All-get_or (λ t. t < senders) tags k 0 within lawful.named)

pub take_next-requires-clause-sender : goal.take_next-requires-clause-sender
take_next-requires-clause-sender g c =
    tag-named (incoming_of c.args.lists.now) c.args.tags.now c.loop-tag.tag-index c.from.result c.loop-tag-test.true c.from.ensures c.requires.lawful

-- the place of the sender that a tag names is behind as many as stand before it
left-of : (incoming : Incoming) (places tags : List ℕ) (k tag : ℕ) → k < length tags → tag ≡ get_or tags k 0 → IsLawfulOrder (input_counts incoming) tags
    → ((sender : ℕ) → sender < senders → slice_index_or places sender 0 ≡ times_of sender (take k tags)) → slice_index_or places tag 0 < count_from incoming tag
left-of incoming places tags k tag within is lawful counted =
    let named = tag-named incoming tags k tag within is lawful in
    let here : get_or tags k tag ≡ tag = get_or_from_slice_get tags k tag tag (slice_get-get_or tags k 0 within ∙ ap Some (sym is)) in
    let more = times-same tags k tag within here in
    let all = sum_by-take-le (λ t. cond {A = ℕ} (t == tag) 1 0) tags (k + 1) in
    let whole = lawful.whole tag named in
    let count = counts-are incoming tag named in
    let place = counted tag named in
    omega arith

pub take_next-requires-clause-left : goal.take_next-requires-clause-left
take_next-requires-clause-left g c =
    left-of (incoming_of c.args.lists.now) c.loop-tag.self.places c.args.tags.now c.loop-tag.tag-index c.from.result c.loop-tag-test.true c.from.ensures c.requires.lawful
    c.loop-tag.invariant.places

-- one more of the sender that the tag names was handed in
counted-more : (places tags : List ℕ) (k tag : ℕ) → k < length tags → tag ≡ get_or tags k 0 → tag < length places
    → ((sender : ℕ) → sender < senders → slice_index_or places sender 0 ≡ times_of sender (take k tags)) → (sender : ℕ) → sender < senders
    → slice_index_or (slice_set places tag (slice_index_or places tag 0 + 1)) sender 0 ≡ times_of sender (take (k + 1) tags)
counted-more places tags k tag within is inside counted sender named =
    let here : get_or tags k tag ≡ tag = get_or_from_slice_get tags k tag tag (slice_get-get_or tags k 0 within ∙ ap Some (sym is)) in
    ⊎_elim
    (λ (same : sender ≡ tag).
    subst (λ (s : ℕ). slice_index_or (slice_set places tag (slice_index_or places tag 0 + 1)) s 0 ≡ times_of s (take (k + 1) tags)) (sym same)
    (get_or-set_same places tag (slice_index_or places tag 0 + 1) 0 inside
    ∙ ap (λ (n : ℕ). n + 1) (counted tag (subst (λ (s : ℕ). s < senders) same named))
    ∙ sym (times-same tags k tag within here)))
    (λ (differ : sender ≢ tag).
    get_or-set_other places tag sender (slice_index_or places tag 0 + 1) 0 differ ∙ counted sender named ∙ sym (times-other tags k tag sender within here differ))
    (cases_eq sender tag)

pub loop-tag-preserved : goal.loop-tag-preserved
loop-tag-preserved g c =
    let tags = c.args.tags.now in
    let k = c.loop-tag.tag-index in
    let next : suc k ≡ k + 1 = search arith in
    let read : take k tags ++ c.from.result ∷ [] ≡ take (k + 1) tags =
    ap (λ (tag : ℕ). take k tags ++ tag ∷ []) c.from.ensures ∙ sym (take-suc tags k 0 c.loop-tag-test.true) ∙ ap (λ (n : ℕ). take n tags) next in
    let inside : c.from.result < length c.loop-tag.self.places = let five = c.loop-tag.invariant.playing.five in let named = tag-named (incoming_of c.args.lists.now) tags k c.from.result c.loop-tag-test.true c.from.ensures c.requires.lawful in omega arith in
    record {
      plays = subst (λ (order : List ℕ). PlaysTags g.C.HeaderCheck.accepts (incoming_of c.args.lists.now) c.args.self.now (take (k + 1) tags) order c.take_next.new.self)
          (ap (λ (tag : ℕ). c.loop-tag.order.items ++ (if c.in_ok-is_item.is_item then tag ∷ [] else [])) c.from.ensures ∙ sym c.in_ok-append_if.ensures)
          (subst (λ (taken : List ℕ). PlaysTags g.C.HeaderCheck.accepts (incoming_of c.args.lists.now) c.args.self.now taken (c.loop-tag.order.items ++ (if c.in_ok-is_item.is_item then c.from.result ∷ [] else [])) c.take_next.new.self)
          read
          (tags-next g.C.HeaderCheck.accepts (incoming_of c.args.lists.now) c.args.self.now c.loop-tag.self c.take_next.new.self (take k tags) c.loop-tag.order.items c.from.result c.in_ok-is_item.is_item
          c.loop-tag.invariant.plays c.in_ok-is_item.ensures.takes));
      playing = c.in_ok-is_item.ensures.playing;
      places = λ sender named.
          ap (λ (places : List ℕ). slice_index_or places sender 0) c.in_ok-is_item.ensures.places
          ∙ counted-more c.loop-tag.self.places tags k c.from.result c.loop-tag-test.true c.from.ensures inside c.loop-tag.invariant.places sender named;
    }

pub returns-clause-takes : goal.returns-clause-takes
returns-clause-takes g c =
    subst (λ (taken : List ℕ). PlaysTags g.C.HeaderCheck.accepts (incoming_of c.args.lists.now) c.args.self.now taken c.loop-tag.order.items c.loop-tag.self)
    (take_all c.loop-tag.tag-index c.args.tags.now c.loop-tag-test.false) c.loop-tag.invariant.plays

pub returns-clause-used_up : goal.returns-clause-used_up
returns-clause-used_up g c sender named =
    let place = c.loop-tag.invariant.places sender named ∙ ap (times_of sender) (take_all c.loop-tag.tag-index c.args.tags.now c.loop-tag-test.false) in
    let whole = c.requires.lawful.whole sender named in
    let count = counts-are (incoming_of c.args.lists.now) sender named in
    omega arith
