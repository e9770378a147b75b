-- One item after another is taken.
use Rattle.std.proofs.Common.{rules, refl, ◌∙◌}
use Rattle.mailbox.specs.Mouths.{taken}
use Rattle.uplink.proofs.AllAssembled.{begins, item-made, nothing-made, in-use}
use Rattle.uplink.proofs.FirstAssembled.{unchanged, first-begins, first-taken, first-stays}
use Rattle.uplink.proofs.FramesOffered.{none-offered}
use Rattle.uplink.proofs.assembler.take_items.Goals as goal

pub loop-init : goal.loop-init
loop-init g c =
    record {
      places_are = refl;
      rings = refl;
      so_far = begins g.C.HeaderCheck.accepts c.args.taking c.args.feeding.now (taken c.args.mouth.now);
      first = first-begins g.C.HeaderCheck.accepts c.args.taking c.args.feeding.now (taken c.args.mouth.now);
    }

pub with_item-taking-requires : goal.with_item-taking-requires
with_item-taking-requires g c =
    let loop = c.loop in
    in-use g.C.HeaderCheck.accepts c.args.taking c.args.feeding.now (taken c.args.mouth.now) (taken loop.mouth) loop.feeding c.requires loop.taking loop.invariant.so_far

pub loop-preserved-in-Item : goal.loop-preserved-in-Item
loop-preserved-in-Item g c =
    let loop = c.loop in
    let accepts = g.C.HeaderCheck.accepts in
    let takes = c.in-Item.ensures.takes in
    let before = taken c.args.mouth.now in
    let old = taken loop.mouth in
    let new = taken c.next-in-loop.new.self in
    let item = c.with_item-taking in
    record {
      places_are = search rules;
      rings = c.wait_for_room.ensures.rings ∙ item.ensures.rings ∙ loop.invariant.rings;
      so_far = nothing-made accepts c.args.taking c.args.feeding.now before new new item.new.feeding c.wait_for_room.new.self item.result (λ sender. refl)
          c.wait_for_room.ensures
          (item-made accepts c.args.taking c.args.feeding.now before old new loop.feeding item.new.feeding _ c.in-Item.item loop.taking item.result
          takes.five takes.taken_is item.ensures.takes loop.invariant.so_far);
      first = first-stays accepts c.args.taking c.args.feeding.now before new new item.new.feeding c.wait_for_room.new.self
          (λ sender. unchanged (new sender) (new sender) refl) c.wait_for_room.ensures
          (first-taken accepts c.args.taking c.args.feeding.now before old new loop.feeding item.new.feeding _ c.in-Item.item takes.five takes.taken_is
          loop.taking loop.invariant.so_far item.ensures.at_most loop.invariant.first);
    }

pub loop-preserved-in-End : goal.loop-preserved-in-End
loop-preserved-in-End g c =
    let loop = c.loop in
    let accepts = g.C.HeaderCheck.accepts in
    let before = taken c.args.mouth.now in
    let old = taken loop.mouth in
    let new = taken c.next-in-loop.new.self in
    let same = c.in-End.ensures.takes.taken_is in
    record {
      places_are = search rules;
      rings = loop.invariant.rings;
      so_far = nothing-made accepts c.args.taking c.args.feeding.now before old new loop.feeding loop.feeding loop.taking same (none-offered loop.feeding)
          loop.invariant.so_far;
      first = first-stays accepts c.args.taking c.args.feeding.now before old new loop.feeding loop.feeding (λ sender. unchanged (old sender) (new sender) (same sender))
          (none-offered loop.feeding) loop.invariant.first;
    }

pub loop-preserved : goal.loop-preserved
loop-preserved g c =
    let loop = c.loop in
    let accepts = g.C.HeaderCheck.accepts in
    let before = taken c.args.mouth.now in
    let old = taken loop.mouth in
    let new = taken c.next-in-loop.new.self in
    let same = c.in-Empty.ensures.takes.taken_is in
    record {
      places_are = search rules;
      rings = c.flush.ensures.offered.rings ∙ loop.invariant.rings;
      so_far = nothing-made accepts c.args.taking c.args.feeding.now before old new loop.feeding c.flush.new.self loop.taking same c.flush.ensures.offered loop.invariant.so_far;
      first = first-stays accepts c.args.taking c.args.feeding.now before old new loop.feeding c.flush.new.self (λ sender. unchanged (old sender) (new sender) (same sender))
          c.flush.ensures.offered loop.invariant.first;
    }
