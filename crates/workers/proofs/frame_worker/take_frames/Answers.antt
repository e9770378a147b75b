-- One look more at all takers.
use Rattle.workers.proofs.FramesTaken.{none-fed, fed-written}
use Rattle.workers.proofs.frame_worker.take_frames.Goals as goal

pub loop-init : goal.loop-init
loop-init g c = none-fed g.F.Consumer.after c.args.work.takers.items c.args.work.consumer

pub returns-in-Closed-clause-fed : goal.returns-in-Closed-clause-fed
returns-in-Closed-clause-fed g c =
    fed-written g.F.Consumer.after c.args.work.takers.items c.loop.takers c.as_mut_slice.result.now c.look_at_all-look.new.takers c.args.work.consumer c.loop.consumer
    c.look_at_all-look.new.consumer c.as_mut_slice.ensures.value c.loop.invariant c.look_at_all-look.ensures.fed

pub loop-preserved-then-eq : goal.loop-preserved-then-eq
loop-preserved-then-eq g c =
    fed-written g.F.Consumer.after c.args.work.takers.items c.loop.takers c.as_mut_slice.result.now c.look_at_all-look.new.takers c.args.work.consumer c.loop.consumer
    c.look_at_all-look.new.consumer c.as_mut_slice.ensures.value c.loop.invariant c.look_at_all-look.ensures.fed

pub loop-preserved : goal.loop-preserved
loop-preserved g c =
    fed-written g.F.Consumer.after c.args.work.takers.items c.loop.takers c.as_mut_slice.result.now c.look_at_all-look.new.takers c.args.work.consumer c.loop.consumer
    c.look_at_all-look.new.consumer c.as_mut_slice.ensures.value c.loop.invariant c.look_at_all-look.ensures.fed
