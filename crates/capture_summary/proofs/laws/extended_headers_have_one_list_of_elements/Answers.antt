use Rattle.std.proofs.Common.{length, subst, sym, arith}
use Rattle.capture_summary.specs.Elements.{HasElements}
use Rattle.capture_summary.proofs.ElementLists.{elements_are_had, no_other_elements}
use Rattle.capture_summary.proofs.laws.extended_headers_have_one_list_of_elements.Goals as goal

pub returns : goal.returns
returns c = λ bytes elements. (
  λ has. no_other_elements elements bytes has (length bytes) (omega arith),
  λ is. subst (λ all. HasElements bytes all) (sym is) (elements_are_had (length bytes) bytes (omega arith)),
)
