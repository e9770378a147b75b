use Rattle.texts.proofs.Profile.{profile_receives}
use Rattle.texts.proofs.replay.under_way.UnderWayTakeEntries.begin.Goals as goal

pub new-requires : goal.new-requires
new-requires c = profile_receives c.args._width c.args.setup.now c.requires.fits c.requires.can_receive
