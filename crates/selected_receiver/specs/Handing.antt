-- What a consumer hands on that is given all.
use Rattle.std.specs.Prelude.{◌≡◌, List, ◌++◌, filter}
use Rattle.consumer.specs.declared.given.Given.{Given}
use Rattle.answers.specs.Beside.{is_told_if_given}
use Rattle.selected_receiver.specs.declared.of_selected.OfSelected.{OfSelected}

-- The first became the second by being given this list, of which what is of a selected flow, or of
-- none, was given to the consumer that it borrows.
pub record HandsOn {O : Type 0} (after : O → List Given → O → Type 0) (start : OfSelected O) (given : List Given) (end : OfSelected O) : Type 0 where
  pub same : end.out.ghost_name ≡ start.out.ghost_name
  pub selected : end.selected.now ≡ start.selected.now
  pub handed_on : (first : O) (before : List Given) → after first before start.out.now
      → after first (before ++ filter (is_told_if_given start.selected.now) given) end.out.now
