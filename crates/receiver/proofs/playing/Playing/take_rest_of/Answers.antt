-- All that the sender has left is handed in.
use Rattle.std.proofs.Common.{ℕ, ◌+◌, List, [], ◌∷◌, ◌++◌, slice_index_or, if◌then◌else◌, refl, ap, ◌∙◌, arith}
use Rattle.std.proofs.lemmas.List.{get_or-set_same, get_or-set_other}
use Rattle.receiver.specs.Items.{incoming_of}
use Rattle.receiver.proofs.PlayingTurns.{next-more, plays-none, plays-on, any-more}
use Rattle.receiver.proofs.playing.Playing.take_rest_of.Goals as goal

pub loop-init : goal.loop-init
loop-init g c = record {
  plays = ([], plays-none g.C.HeaderCheck.accepts (incoming_of c.args.lists.now) c.args.self.now, refl);
  playing = c.requires.playing;
  place = refl;
  others = λ other differ. refl;
}

pub loop-preserved : goal.loop-preserved
loop-preserved g c =
    let before = c.loop.invariant.plays in
    let is_item = c.in_ok-any.field-0 in
    let next = get_or-set_same c.loop.self.places c.args.sender (slice_index_or c.loop.self.places c.args.sender 0 + 1) 0
    (let five = c.loop.invariant.playing.five in let named = c.requires.sender in omega arith) in
    record {
      plays = (
        before.0 ++ (if is_item then c.args.sender ∷ [] else []),
        plays-on g.C.HeaderCheck.accepts (incoming_of c.args.lists.now) c.args.self.now c.loop.self c.take_next.new.self before.0 (if is_item then c.args.sender ∷ [] else []) before.1
            (next-more g.C.HeaderCheck.accepts (incoming_of c.args.lists.now) c.loop.self c.take_next.new.self c.args.sender is_item c.in_ok-any.ensures.takes),
        any-more c.loop.any is_item before.0 c.args.sender before.2,
      );
      playing = c.in_ok-any.ensures.playing;
      place = ap (λ (places : List ℕ). slice_index_or places c.args.sender 0) c.in_ok-any.ensures.places ∙ next ∙ ap (λ (n : ℕ). n + 1) c.loop.invariant.place;
      others = λ other differ.
          ap (λ (places : List ℕ). slice_index_or places other 0) c.in_ok-any.ensures.places
          ∙ get_or-set_other c.loop.self.places c.args.sender other (slice_index_or c.loop.self.places c.args.sender 0 + 1) 0 differ
          ∙ c.loop.invariant.others other differ;
    }
