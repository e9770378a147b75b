-- All items are taken, and then all flows are closed.
use Rattle.std.proofs.Common.{true}
use Rattle.mailbox.specs.Mouths.{taken}
use Rattle.uplink.specs.declared.feeding.Feeding.{Feeding}
use Rattle.uplink.proofs.AllAssembled.{in-use, assembled}
use Rattle.uplink.proofs.FirstAssembled.{first-ended, first-offered}
use Rattle.uplink.proofs.assembler.assemble.Goals as goal

pub close_flows-done-requires : goal.close_flows-done-requires
close_flows-done-requires g c =
    let taking = c.take_items-taking in
    in-use g.C.HeaderCheck.accepts c.args.taking (record { feeders = c.args.feeders; whole = true; told = c.offered.result; is_bounded = c.is_none.result }) (taken c.args.mouth) (taken taking.new.mouth) taking.new.feeding
    c.requires.in_use taking.result taking.ensures.so_far

pub returns-clause-done : goal.returns-clause-done
returns-clause-done g c =
    let first : Feeding = record { feeders = c.args.feeders; whole = true; told = c.offered.result; is_bounded = c.is_none.result } in
    let taking = c.take_items-taking in
    let closing = c.close_flows-done in
    assembled g.C.HeaderCheck.accepts c.args.taking first (taken c.args.mouth) (taken taking.new.mouth) taking.new.feeding c.requires.in_use closing.new.feeding
    c.close_feeders-feeders.result.items c.close_feeders-feeders.ensures.offered taking.result closing.result taking.ensures.so_far closing.ensures.closes closing.ensures.whole

pub returns-clause-first : goal.returns-clause-first
returns-clause-first g c =
    let first : Feeding = record { feeders = c.args.feeders; whole = true; told = c.offered.result; is_bounded = c.is_none.result } in
    let accepts = g.C.HeaderCheck.accepts in
    let taking = c.take_items-taking in
    let closing = c.close_flows-done in
    let now = taken taking.new.mouth in
    first-offered accepts c.args.taking first (taken c.args.mouth) now closing.new.feeding c.close_feeders-feeders.result.items c.close_feeders-feeders.ensures.offered
    (first-ended accepts c.args.taking first (taken c.args.mouth) now taking.new.feeding closing.new.feeding taking.result taking.ensures.so_far closing.ensures.first
    taking.ensures.first)
