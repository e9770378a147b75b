use Rattle.std.proofs.Common.{rules}
use Rattle.frame_comparison.specs.Fingerprint.{siphash}
use Rattle.frame_comparison.proofs.coming_frame.siphash.Goals as goal

pub returns : goal.returns
unfolding siphash
returns c = search rules
