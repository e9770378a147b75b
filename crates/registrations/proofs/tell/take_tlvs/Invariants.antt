use Rattle.std.proofs.Common.{length}
use Rattle.registrations.proofs.ToldSoFar.{ToldSoFar}
use Rattle.registrations.proofs.tell.take_tlvs.Given as goal

abbrev pub invariant-loop-tlv : goal.invariant-loop-tlv
invariant-loop-tlv g l = ToldSoFar (g.T.TakeTlv.tells l.taker) l.tlvs l.rest l.initial.told.items l.told.items

abbrev pub decreases-loop-tlv : goal.decreases-loop-tlv
decreases-loop-tlv g l = length l.rest
