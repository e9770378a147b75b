-- One input more is taken.
use Rattle.std.proofs.Common.{[], ◌∷◌}
use Rattle.uses.proofs.InputByInput.{inputs-none, inputs-more}
use Rattle.uses.proofs.one_at_a_time.take_all.Goals as goal

pub loop-channel-init : goal.loop-channel-init
loop-channel-init g c = record {
  takes = inputs-none g.O.Consumer.after g.C.HeaderCheck.accepts c.args.receiver.now c.args.out.now;
  receiving = c.requires;
}

pub loop-channel-preserved : goal.loop-channel-preserved
loop-channel-preserved g c = record {
  takes =
      inputs-more g.O.Consumer.after g.C.HeaderCheck.accepts c.args.receiver.now c.loop-channel.receiver c.take_one.new.receiver c.args.out.now c.loop-channel.out c.take_one.new.out c.loop-channel.yielded c.loop-channel.invariant.takes
      ((c.in-Some.channel, c.in-Some.input) ∷ []) c.in_ok-take_one.ensures.takes;
  receiving = c.take_one.ensures.receiving;
}
