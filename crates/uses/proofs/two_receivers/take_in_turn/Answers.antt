-- One turn more is taken.
use Rattle.std.proofs.Common.{ℕ, List, [], ◌∷◌, ◌++◌, map, sym, subst}
use Rattle.std.proofs.lemmas.List.{map-append}
use Rattle.lane.specs.declared.input.Input.{Input}
use Rattle.uses.specs.OneAtATime.{TakesInputs}
use Rattle.uses.proofs.InputByInput.{inputs-none, inputs-more}
use Rattle.uses.proofs.two_receivers.take_in_turn.Goals as goal

pub loop-one-init : goal.loop-one-init
loop-one-init g c = record {
  first = inputs-none g.O.Consumer.after g.C.HeaderCheck.accepts c.args.first.now c.args.first_out.now;
  second = inputs-none g.O.Consumer.after g.C.HeaderCheck.accepts c.args.second.now c.args.second_out.now;
  receiving = c.requires.first;
  both = c.requires.second;
}

pub loop-one-preserved : goal.loop-one-preserved
loop-one-preserved g c =
    let after = g.O.Consumer.after in
    let accepts = g.C.HeaderCheck.accepts in
    let turn : (ℕ × Input) × (ℕ × Input) = (c.in-Some.one, c.in-Some.other) in
    record {
      first =
          subst (λ (inputs : List (ℕ × Input)). TakesInputs after accepts c.args.first.now c.args.first_out.now inputs c.take_one.new.receiver c.take_one.new.out)
          (sym (map-append (λ (t : (ℕ × Input) × (ℕ × Input)). t.0) c.loop-one.yielded (turn ∷ [])))
          (inputs-more after accepts c.args.first.now c.loop-one.first c.take_one.new.receiver c.args.first_out.now c.loop-one.first_out c.take_one.new.out (map (λ t. t.0) c.loop-one.yielded) c.loop-one.invariant.first
          (c.in-Some.one ∷ []) c.in_ok-take_one.ensures.takes);
      second =
          subst (λ (inputs : List (ℕ × Input)). TakesInputs after accepts c.args.second.now c.args.second_out.now inputs c.take_one-in-loop-one.new.receiver c.take_one-in-loop-one.new.out)
          (sym (map-append (λ (t : (ℕ × Input) × (ℕ × Input)). t.1) c.loop-one.yielded (turn ∷ [])))
          (inputs-more after accepts c.args.second.now c.loop-one.second c.take_one-in-loop-one.new.receiver c.args.second_out.now c.loop-one.second_out c.take_one-in-loop-one.new.out (map (λ t. t.1) c.loop-one.yielded) c.loop-one.invariant.second
          (c.in-Some.other ∷ []) c.in_ok-take_one-2.ensures.takes);
      receiving = c.take_one.ensures.receiving;
      both = c.take_one-in-loop-one.ensures.receiving;
    }
