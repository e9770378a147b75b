use Rattle.std.specs.Io.KnownBytes.{Consumes}
use Rattle.engines.specs.Device.{inner_of}
use Rattle.capture_command.proofs.files.read_all.Given as goal

-- what was read so far is a front of what the reader had
abbrev pub invariant-loop : goal.invariant-loop
invariant-loop g l = Consumes (g.R.Read.remaining (inner_of l.fn.reader)) (g.R.Read.remaining (inner_of l.reader)) l.text.items
