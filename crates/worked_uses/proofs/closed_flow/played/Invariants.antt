use Rattle.std.specs.Prelude.{All}
use Rattle.docsis_wire.specs.Ready.{IsReady}
use Rattle.worked_uses.proofs.closed_flow.played.Given as goal

-- the segments so far are ready
abbrev pub invariant-loop-bytes : goal.invariant-loop-bytes
invariant-loop-bytes l = All IsReady l.segments.items
