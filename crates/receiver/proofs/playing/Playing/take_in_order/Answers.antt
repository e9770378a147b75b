-- The next item of the order is taken, or there is none.
use Rattle.std.proofs.Common.{◌≡◌, ℕ, suc, ◌+◌, Bool, Some, List, [], ◌∷◌, ◌++◌, take, if◌then◌else◌, ap, subst, sym, ◌∙◌, append-nil, arith}
use Rattle.std.proofs.Math.Seq.{take-suc}
use Rattle.std.proofs.lemmas.List.{take_all}
use Rattle.std.proofs.lemmas.Option.{slice_get-get_or}
use Rattle.receiver.specs.Items.{incoming_of}
use Rattle.receiver.specs.Playing.{PlaysMore}
use Rattle.receiver.proofs.PlayingTurns.{plays-none, plays-on}
use Rattle.receiver.proofs.playing.Playing.take_in_order.Goals as goal

pub loop-place-init : goal.loop-place-init
loop-place-init g c = record {
  plays = plays-none g.C.HeaderCheck.accepts (incoming_of c.args.lists.now) c.args.self.now;
  playing = c.requires.playing;
}

pub returns-then-not-branch-clause-takes : goal.returns-then-not-branch-clause-takes
returns-then-not-branch-clause-takes g c = (
  subst (λ (order : List ℕ). PlaysMore g.C.HeaderCheck.accepts (incoming_of c.args.lists.now) c.args.self.now order c.take_item.new.self) (append-nil (take c.loop-place.place c.args.order.now))
      (plays-on g.C.HeaderCheck.accepts (incoming_of c.args.lists.now) c.args.self.now c.loop-place.self c.take_item.new.self (take c.loop-place.place c.args.order.now) []
      c.loop-place.invariant.plays
      (subst (λ (is_item : Bool). PlaysMore g.C.HeaderCheck.accepts (incoming_of c.args.lists.now) c.loop-place.self (if is_item then c.from.result ∷ [] else []) c.take_item.new.self)
      c.if-not-branch.true c.in_ok-take_item.ensures.takes)),
  record {
    tag = c.from.result;
    at = slice_get-get_or c.args.order.now c.loop-place.place 0 c.loop-place-test.true ∙ ap Some (sym c.from.ensures);
    none = c.in_ok-take_item.ensures.used_up c.if-not-branch.true;
  },
)

pub loop-place-preserved : goal.loop-place-preserved
loop-place-preserved g c =
    let order = c.args.order.now in
    let place = c.loop-place.place in
    let next : suc place ≡ place + 1 = search arith in
    record {
      plays = subst (λ (taken : List ℕ). PlaysMore g.C.HeaderCheck.accepts (incoming_of c.args.lists.now) c.args.self.now taken c.take_item.new.self)
          (ap (λ (tag : ℕ). take place order ++ tag ∷ []) c.from.ensures ∙ sym (take-suc order place 0 c.loop-place-test.true) ∙ ap (λ (n : ℕ). take n order) next)
          (plays-on g.C.HeaderCheck.accepts (incoming_of c.args.lists.now) c.args.self.now c.loop-place.self c.take_item.new.self (take place order) (c.from.result ∷ [])
          c.loop-place.invariant.plays
          (subst (λ (is_item : Bool). PlaysMore g.C.HeaderCheck.accepts (incoming_of c.args.lists.now) c.loop-place.self (if is_item then c.from.result ∷ [] else []) c.take_item.new.self)
          c.if-not-branch.false c.in_ok-take_item.ensures.takes));
      playing = c.in_ok-take_item.ensures.playing;
    }

pub returns-clause-takes : goal.returns-clause-takes
returns-clause-takes g c =
    subst (λ (taken : List ℕ). PlaysMore g.C.HeaderCheck.accepts (incoming_of c.args.lists.now) c.args.self.now taken c.loop-place.self)
    (take_all c.loop-place.place c.args.order.now c.loop-place-test.false) c.loop-place.invariant.plays
