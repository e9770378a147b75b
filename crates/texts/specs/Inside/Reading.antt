-- What a reading of the code stands for: what the lines so far say.
use Rattle.std.specs.Prelude.{◌≡◌, map}
use Rattle.receiver.specs.Entries.{tag_of}
use Rattle.texts.specs.declared.trace.reading.Reading.{Reading}
use Rattle.texts.specs.Trace.{AreListsOf}
use Rattle.texts.specs.Trace.Place.{Said}
use Rattle.texts.specs.Inside.SetupLines.{HasSetup}

-- the reading has what the lines say
pub record HasRead (said : Said) (reading : Reading) : Type 0 where
  pub setup : HasSetup said reading.setup
  pub lists : AreListsOf said.entries reading.lists
  pub tags : reading.tags.items ≡ map tag_of said.entries
