use Rattle.std.proofs.Common.{◌≡◌, take, fold}
use Rattle.docsis_wire.specs.Checks.{header_generator}
use Rattle.docsis_wire.proofs.Dividing.{after_byte}
use Rattle.docsis_wire.proofs.header_sequence.check_sequence.Given as goal

abbrev pub invariant-loop-byte : goal.invariant-loop-byte
invariant-loop-byte l = l.remainder ≡ fold (after_byte header_generator) 0xFFFF (take l.byte-index l.bytes)
