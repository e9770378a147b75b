-- The message that a first part begins, and the one that another goes on with.
use Rattle.std.proofs.Common.{◌≡◌, arith, Some, option_map, refl, sym, ap, ◌∙◌}
use Rattle.registrations.specs.Part.{part_seen}
use Rattle.registrations.specs.Joining.{begun, open_seen}
use Rattle.registrations.specs.UnderWay.{held_at}
use Rattle.registrations.proofs.JoinedParts.{message_of-first, message_of-next}
use Rattle.registrations.proofs.unfinished.Unfinished.held_before.Goals as goal

pub returns-then-part-eq1-clause-held : goal.returns-then-part-eq1-clause-held
returns-then-part-eq1-clause-held c =
    (begun (part_seen c.args.part), message_of-first (held_at c.args.self.now c.args.part.modem) (part_seen c.args.part) c.if-part-eq1.true, refl)

pub returns-clause-held : goal.returns-clause-held
returns-clause-held c =
    let there : held_at c.args.self.now c.args.part.modem ≡ Some (open_seen c.in-Some.held.now) = ap (option_map open_seen) (sym c.in-Some.ensures.value) in (
      open_seen c.in-Some.held.now,
      message_of-next (held_at c.args.self.now c.args.part.modem) (open_seen c.in-Some.held.now) (part_seen c.args.part) there c.if-part-eq1.false
          (sym c.precedes.ensures ∙ c.if-not-precedes.false),
      omega (arith, c.len.ensures, c.in-Some.held.now.tlvs.ok.0),
    )
