-- What a list of happenings grew by.
use Rattle.std.specs.Prelude.{◌≡◌, true, List, ◌++◌, map}
use Rattle.consumer.specs.declared.given.Given.{Given}
use Rattle.texts.specs.declared.follow.happening.Happening.{Happening}
use Rattle.texts.specs.declared.follow.happening.Happening.TheVariants.{Gave}
use Rattle.texts.specs.declared.follow.happening_list.HappeningList.{HappeningList}

-- a list that is whole was whole before, and grew by just what happened
abbrev pub HasAdded : HappeningList → List Happening → HappeningList → Type 0
HasAdded start more end = end.whole ≡ true → (start.whole ≡ true) × (end.happened.items ≡ start.happened.items ++ more)

-- so it did by what was given
abbrev pub HasKept : HappeningList → List Given → HappeningList → Type 0
HasKept start given end = HasAdded start (map Gave given) end
