use Rattle.capture.proofs.PacketParts.{packet_bytes-inj}
use Rattle.capture.proofs.laws.bytes_spell_one_packet.Goals as goal

pub returns : goal.returns
returns c = packet_bytes-inj
