use Rattle.std.proofs.Common.{◌≡◌, ◌++◌, List, length}
use Rattle.std.specs.List.{AllByRecursion}
use Rattle.capture.specs.PcapngOptions.{OptionParts, options_bytes, IsOrdinary, first_value}
use Rattle.capture.specs.Seen.{value_seen}
use Rattle.capture.proofs.pcapng_options.resolution.Given as goal

-- what was passed are options, and the first value among them is known
abbrev pub invariant-loop-rest : goal.invariant-loop-rest
invariant-loop-rest l = record {
  front : List OptionParts;
  spelled : l.bytes ≡ options_bytes l.endian front ++ l.rest;
  each : AllByRecursion IsOrdinary front;
  first : value_seen l.first ≡ first_value 9 front;
}

abbrev pub decreases-loop-rest : goal.decreases-loop-rest
decreases-loop-rest l = length l.rest
