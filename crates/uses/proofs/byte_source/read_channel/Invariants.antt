use Rattle.std.specs.Io.KnownBytes.{Keeps}
use Rattle.uses.proofs.byte_source.read_channel.Given as goal

-- so far nothing was read
abbrev pub invariant-loop : goal.invariant-loop
invariant-loop g l = Keeps (g.R.Read.remaining l.fn.reader) (g.R.Read.remaining l.reader)
