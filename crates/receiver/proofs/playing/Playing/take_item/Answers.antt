-- Inputs are handed in until one gives an item.
use Rattle.std.proofs.Common.{ℕ, ◌+◌, Bool, List, [], ◌∷◌, slice_index_or, refl, ap, subst, ◌∙◌, inr, arith}
use Rattle.std.proofs.lemmas.List.{get_or-set_same}
use Rattle.receiver.specs.Items.{incoming_of}
use Rattle.receiver.specs.Playing.{PlaysNext}
use Rattle.receiver.proofs.PlayingTurns.{next-more, plays-none, plays-on}
use Rattle.receiver.proofs.playing.Playing.take_item.Goals as goal

pub returns-then-sender-ge-SENDERS-clause-takes : goal.returns-then-sender-ge-SENDERS-clause-takes
returns-then-sender-ge-SENDERS-clause-takes g c = plays-none g.C.HeaderCheck.accepts (incoming_of c.args.lists.now) c.args.self.now

pub loop-init : goal.loop-init
loop-init g c = record {
  plays = plays-none g.C.HeaderCheck.accepts (incoming_of c.args.lists.now) c.args.self.now;
  playing = c.requires.playing;
  place = refl;
}

pub loop-preserved : goal.loop-preserved
loop-preserved g c =
    let next = get_or-set_same c.loop.self.places c.args.sender (slice_index_or c.loop.self.places c.args.sender 0 + 1) 0
    (let five = c.loop.invariant.playing.five in let named = c.if-sender-ge-SENDERS.false in omega arith) in
    record {
      plays = plays-on g.C.HeaderCheck.accepts (incoming_of c.args.lists.now) c.args.self.now c.loop.self c.take_next.new.self [] [] c.loop.invariant.plays
          (next-more g.C.HeaderCheck.accepts (incoming_of c.args.lists.now) c.loop.self c.take_next.new.self c.args.sender _
          (subst (λ (is_item : Bool). PlaysNext g.C.HeaderCheck.accepts (incoming_of c.args.lists.now) c.loop.self c.args.sender is_item c.take_next.new.self)
          c.if-branch.false c.in_ok-take_next.ensures.takes));
      playing = c.in_ok-take_next.ensures.playing;
      place = ap (λ (places : List ℕ). slice_index_or places c.args.sender 0) c.in_ok-take_next.ensures.places ∙ next ∙ ap (λ (n : ℕ). n + 1) c.loop.invariant.place;
    }

pub returns-clause-used_up : goal.returns-clause-used_up
returns-clause-used_up g c = λ none. inr (let count = c.count_of-count.ensures in let end = c.loop-test.false in let place = c.loop.invariant.place in omega arith)

pub returns-then-branch-clause-takes : goal.returns-then-branch-clause-takes
returns-then-branch-clause-takes g c =
    plays-on g.C.HeaderCheck.accepts (incoming_of c.args.lists.now) c.args.self.now c.loop.self c.take_next.new.self [] (c.args.sender ∷ []) c.loop.invariant.plays
    (next-more g.C.HeaderCheck.accepts (incoming_of c.args.lists.now) c.loop.self c.take_next.new.self c.args.sender _
    (subst (λ (is_item : Bool). PlaysNext g.C.HeaderCheck.accepts (incoming_of c.args.lists.now) c.loop.self c.args.sender is_item c.take_next.new.self)
    c.if-branch.true c.in_ok-take_next.ensures.takes))
