-- All is handed in, and the receiver is closed.
use Rattle.std.proofs.Common.{◌≡◌, ℕ, Option, MatchOption, List, ◌++◌, length, take, drop, refl, sym, subst, ◌∙◌, arith}
use Rattle.std.proofs.lemmas.List.{length-take-le, take-append-drop}
use Rattle.std.proofs.lemmas.Option.{slice_get_within}
use Rattle.receiver.specs.Items.{incoming_of}
use Rattle.receiver.specs.Faults.{HasBadOrder}
use Rattle.receiver.specs.Playing.{PlaysMore, FindsNone}
use Rattle.receiver.proofs.ReplayedOrder.{from-nothing, all-handed, replayed, left-over, none-there}
use Rattle.receiver.proofs.one_thread.replay_by.Goals as goal

pub returns-in-Some-clause-fault : goal.returns-in-Some-clause-fault
returns-in-Some-clause-fault g c =
    let accepts = g.C.HeaderCheck.accepts in
    let incoming = incoming_of c.args.lists.now in
    let order = c.args.order.now in
    let first = c.in_ok-playing.playing in
    let k = c.in-Some.place in
    let found = subst (λ (bad : Option ℕ). MatchOption bad (PlaysMore accepts incoming first order c.take_in_order.new.self)
    (λ k. PlaysMore accepts incoming first (take k order) c.take_in_order.new.self × FindsNone incoming order k c.take_in_order.new.self.places)) c.in-Some.is c.in_ok-bad.ensures.takes in
    let within = slice_get_within order k found.1.tag found.1.at in
    let long : length (take k order) ≡ k = length-take-le k order (omega (arith, within)) in
    let whole = take-append-drop k order in
    let rest = c.in_ok-left_over.ensures.takes in
    let none = none-there accepts c.args.rule (accepts c.args.check) c.args.setup.now incoming first c.take_in_order.new.self c.take_rest.new.self c.in_ok-playing.ensures.plays
    (from-nothing incoming first.places c.in_ok-playing.ensures.playing.five c.in_ok-playing.ensures.places) (take k order) rest.0 found.0 rest.1 c.in_ok-left_over.ensures.used_up (drop k order)
    (subst (λ (n : ℕ). FindsNone incoming (take k order ++ drop k order) n c.take_in_order.new.self.places) (sym long)
    (subst (λ (t : List ℕ). FindsNone incoming t k c.take_in_order.new.self.places) (sym whole) found.1)) in (
      c.in_ok-check.ensures.ok.0 refl,
      subst (λ (n : ℕ). HasBadOrder c.args.setup.now incoming order n) long
          (subst (λ (t : List ℕ). HasBadOrder c.args.setup.now incoming t (length (take k order))) whole none),
    )

pub returns-then-left_over-clause-fault : goal.returns-then-left_over-clause-fault
returns-then-left_over-clause-fault g c =
    let accepts = g.C.HeaderCheck.accepts in
    let incoming = incoming_of c.args.lists.now in
    let order = c.args.order.now in
    let first = c.in_ok-playing.playing in
    let taken = subst (λ (bad : Option ℕ). MatchOption bad (PlaysMore accepts incoming first order c.take_in_order.new.self)
    (λ k. PlaysMore accepts incoming first (take k order) c.take_in_order.new.self × FindsNone incoming order k c.take_in_order.new.self.places)) c.in_default.is c.in_ok-bad.ensures.takes in
    let rest = c.in_ok-left_over.ensures.takes in (
      c.in_ok-check.ensures.ok.0 refl,
      left-over accepts c.args.rule (accepts c.args.check) c.args.setup.now incoming first c.take_in_order.new.self c.take_rest.new.self c.in_ok-playing.ensures.plays
          (from-nothing incoming first.places c.in_ok-playing.ensures.playing.five c.in_ok-playing.ensures.places) order rest.0 taken rest.1 c.in_ok-left_over.ensures.used_up
          (sym rest.2 ∙ c.if-left_over.true),
    )

pub finish-requires : goal.finish-requires
finish-requires g c =
    let accepts = g.C.HeaderCheck.accepts in
    let incoming = incoming_of c.args.lists.now in
    let first = c.in_ok-playing.playing in
    let taken = subst (λ (bad : Option ℕ). MatchOption bad (PlaysMore accepts incoming first c.args.order.now c.take_in_order.new.self)
    (λ k. PlaysMore accepts incoming first (take k c.args.order.now) c.take_in_order.new.self × FindsNone incoming c.args.order.now k c.take_in_order.new.self.places)) c.in_default.is c.in_ok-bad.ensures.takes in
    let rest = c.in_ok-left_over.ensures.takes in
    let all = all-handed accepts c.args.rule (accepts c.args.check) c.args.setup.now incoming first c.take_in_order.new.self c.take_rest.new.self c.in_ok-playing.ensures.plays
    (from-nothing incoming first.places c.in_ok-playing.ensures.playing.five c.in_ok-playing.ensures.places) c.args.order.now rest.0 taken rest.1 c.in_ok-left_over.ensures.used_up in
    (c.args.rule, accepts c.args.check, all.0, all.1)

pub returns-clause-outcome : goal.returns-clause-outcome
returns-clause-outcome g c =
    let accepts = g.C.HeaderCheck.accepts in
    let incoming = incoming_of c.args.lists.now in
    let first = c.in_ok-playing.playing in
    let taken = subst (λ (bad : Option ℕ). MatchOption bad (PlaysMore accepts incoming first c.args.order.now c.take_in_order.new.self)
    (λ k. PlaysMore accepts incoming first (take k c.args.order.now) c.take_in_order.new.self × FindsNone incoming c.args.order.now k c.take_in_order.new.self.places)) c.in_default.is c.in_ok-bad.ensures.takes in
    let rest = c.in_ok-left_over.ensures.takes in
    replayed accepts c.args.rule (accepts c.args.check) c.args.setup.now incoming first c.take_in_order.new.self c.take_rest.new.self c.in_ok-playing.ensures.plays
    (from-nothing incoming first.places c.in_ok-playing.ensures.playing.five c.in_ok-playing.ensures.places) c.args.order.now rest.0 taken rest.1 c.in_ok-left_over.ensures.used_up
    (sym rest.2 ∙ c.if-left_over.false) c.in_ok-finish.field-0
    (λ handed plays sent. c.in_ok-finish.ensures.gives c.args.rule (accepts c.args.check) handed plays sent)
    (c.in_ok-finish.ensures.order ∙ c.in_ok-from_slice.ensures.items)
