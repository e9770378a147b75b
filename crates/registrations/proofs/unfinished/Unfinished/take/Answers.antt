-- The message to which the part belongs has grown by it.
use Rattle.std.proofs.Common.{option_map, ap}
use Rattle.registrations.specs.Part.{part_seen}
use Rattle.registrations.specs.Joining.{open_seen}
use Rattle.registrations.proofs.JoinedParts.{Joins-given, Joins-kept}
use Rattle.registrations.proofs.unfinished.Unfinished.take.Goals as goal

pub returns-then-held-clause-taken : goal.returns-then-held-clause-taken
returns-then-held-clause-taken c =
    Joins-given c.args.self.now c.take_out-held.new.self (part_seen c.args.part) (open_seen c.take_out-held.result) c.extend_from_slice.new.self.items
    c.take_out-held.ensures.open_is c.in_ok-check.ensures.fits c.in_ok-extend_from_slice.ensures.items c.if-held.true c.take_out-held.ensures.none

pub returns-clause-taken : goal.returns-clause-taken
returns-clause-taken c =
    Joins-kept c.args.self.now _ (part_seen c.args.part) (open_seen c.take_out-held.result) c.extend_from_slice.new.self.items
    c.take_out-held.ensures.open_is c.in_ok-check.ensures.fits c.in_ok-extend_from_slice.ensures.items c.if-held.false (ap (option_map open_seen) c.in_ok-insert.ensures.updates.1)
