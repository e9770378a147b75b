use Rattle.std.proofs.Common.{◌∙◌, arith}
use Rattle.frame_comparison.proofs.Listing.{listed-room, listed-full}
use Rattle.frame_comparison.proofs.lonely_frame.ListedFrames.list.Goals as goal

pub returns-then-len-lt-MOST_LISTED : goal.returns-then-len-lt-MOST_LISTED
returns-then-len-lt-MOST_LISTED c = c.push_reserved.ensures.items ∙ listed-room c.args.self.now.frames.items c.args.frame (omega arith)

pub returns-else-len-lt-MOST_LISTED : goal.returns-else-len-lt-MOST_LISTED
returns-else-len-lt-MOST_LISTED c = listed-full c.args.self.now.frames.items _ (omega arith) c.args.self.now.few
