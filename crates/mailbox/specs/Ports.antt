-- What a clause sees of ports.
use Rattle.std.specs.Prelude.{ℕ, List}
use Rattle.std.specs.Arc.{arc_value}
use Rattle.atomic_table.specs.Seated.{TableId}
use Rattle.crossbeam_queue.specs.Passes.{view, ruled_capacity}
use Rattle.mailbox.specs.Entries.{items_of, own}
use Rattle.mailbox.specs.declared.port.Port.{Port}
use Rattle.mailbox.specs.declared.port.ClosedPort.{ClosedPort}

-- which mailbox, and which place in it
abbrev pub Address : Type 0
Address = TableId × ℕ

module _ {T : Type 0} where
  -- which sender of which mailbox a port is
  abbrev pub address : Port T → Address
  address p = (p.pass.table_id, p.from)

  abbrev pub closed_address : ClosedPort T → Address
  closed_address p = (p.pass.table_id, p.from)

  -- every item that the port posted, in order
  abbrev pub posted : Port T → List T
  posted p = items_of (own (view p.pass))

  abbrev pub closed_posted : ClosedPort T → List T
  closed_posted p = items_of (own (view p.pass))

  -- how many entries the mailbox of a port has room for
  abbrev pub port_capacity : Port T → ℕ
  port_capacity p = ruled_capacity (arc_value p.queue)

  abbrev pub closed_capacity : ClosedPort T → ℕ
  closed_capacity p = ruled_capacity (arc_value p.queue)
