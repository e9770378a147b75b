use Rattle.std.proofs.Common.{length}
use denote.Text.{Utf8}
use denote.Shadow.{shadow}
use Rattle.command_line.proofs.SaidFlows.{SaysBehind}
use Rattle.command_line.proofs.flows.read_ranges.Given as goal

-- what the rest says, all says behind the ranges that were read
abbrev pub invariant-loop-part : goal.invariant-loop-part
invariant-loop-part l = shadow (Utf8 l.rest) × SaysBehind l.last l.value l.ranges.items l.rest

abbrev pub decreases-loop-part : goal.decreases-loop-part
decreases-loop-part l = length l.rest
