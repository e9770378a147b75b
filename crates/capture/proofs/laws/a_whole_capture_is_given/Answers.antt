use Rattle.capture.proofs.WholeCaptures.{pcap_given, pcapng_given}
use Rattle.capture.proofs.laws.a_whole_capture_is_given.Goals as goal

pub returns-clause-pcap : goal.returns-clause-pcap
returns-clause-pcap c = pcap_given

pub returns-clause-pcapng : goal.returns-clause-pcapng
returns-clause-pcapng c = pcapng_given
