use Rattle.reorder.proofs.WindowFields.{seen-empty, kept-empty}
use Rattle.reorder.proofs.window.Window.new.Goals as goal

pub invariant_of-result : goal.invariant_of-result
invariant_of-result g c = kept-empty _ _ _ c.requires.first_in_range c.requires.width_positive c.requires.width_in_range c.in_ok-places.ensures

pub returns-clause-empty : goal.returns-clause-empty
returns-clause-empty g c = seen-empty _ _ _ c.requires.first_in_range c.requires.width_in_range c.in_ok-places.ensures

pub returns-clause-lawful : goal.returns-clause-lawful
returns-clause-lawful g c = (invariant_of-result g c).lawful
