-- All that is left is handed in, of one sender after another.
use Rattle.std.proofs.Common.{◌≡◌, ◌≢◌, ℕ, ◌≤◌, [], ◌++◌, ⊎_elim, refl, subst, sym, arith}
use Rattle.std.proofs.lemmas.Bool.{cases_eq}
use Rattle.receiver.specs.Items.{incoming_of}
use Rattle.receiver.specs.HandedOrder.{count_from, IsUsedUp}
use Rattle.receiver.proofs.PlayingTurns.{plays-none, plays-on, any-both}
use Rattle.receiver.proofs.playing.Playing.take_rest.Goals as goal

pub loop-sender-init : goal.loop-sender-init
loop-sender-init g c = record {
  plays = ([], plays-none g.C.HeaderCheck.accepts (incoming_of c.args.lists.now) c.args.self.now, refl);
  playing = c.requires.playing;
  used_up = λ before below. absurd (omega (arith, below));
}

pub loop-sender-preserved : goal.loop-sender-preserved
loop-sender-preserved g c =
    let before = c.loop-sender.invariant.plays in
    let more = c.in_ok-any.ensures.takes in
    record {
      plays = (
        before.0 ++ more.0,
        plays-on g.C.HeaderCheck.accepts (incoming_of c.args.lists.now) c.args.self.now c.loop-sender.self c.take_rest_of.new.self before.0 more.0 before.1 more.1,
        any-both c.loop-sender.any c.in_ok-any.field-0 before.0 more.0 before.2 more.2,
      );
      playing = c.in_ok-any.ensures.playing;
      used_up = λ sender below. ⊎_elim
          (λ (same : sender ≡ c.loop-sender.sender). subst (λ (s : ℕ). IsUsedUp (incoming_of c.args.lists.now) c.take_rest_of.new.self.places s) (sym same) c.in_ok-any.ensures.used_up)
          (λ (differ : sender ≢ c.loop-sender.sender).
          subst (λ (place : ℕ). count_from (incoming_of c.args.lists.now) sender ≤ place) (sym (c.in_ok-any.ensures.others sender differ))
          (c.loop-sender.invariant.used_up sender (omega (arith, below, differ))))
          (cases_eq sender c.loop-sender.sender);
    }
