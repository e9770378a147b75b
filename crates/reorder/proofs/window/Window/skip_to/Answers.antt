use Rattle.std.proofs.Common.{◌≡◌, ◌≢◌, ⊎_elim, ap, subst, ◌∙◌, arith}
use Rattle.std.specs.FinMap as map
use Rattle.std.proofs.lemmas.Bool.{cases_eq}
use Rattle.reorder.specs.View.{WindowView, offset_in, IsLawful}
use Rattle.reorder.proofs.SkippedCount.{skipped_count-reached, skipped_count-at_held}
use Rattle.reorder.proofs.NothingHeld.{skipped_count-none_held, seen-jumped, kept-jumped}
use Rattle.reorder.proofs.window.Window.skip_to.Goals as goal

pub invariant_of-self : goal.invariant_of-self
invariant_of-self g c =
    let nothing : map.len c.args.self.now.held ≡ 0 = omega arith in
    kept-jumped _ _ _ c.self.invariant _ c.self.view_is nothing c.args.number c.requires

pub returns-then-held-eq0 : goal.returns-then-held-eq0
returns-then-held-eq0 g c =
    let nothing : map.len c.args.self.now.held ≡ 0 = omega arith in
    let is : c.offset-distance.result ≡ offset_in c.args.self.now c.args.number = c.offset-distance.ensures ∙ ap (λ (w : WindowView _). offset_in w c.args.number) c.self.view_is in
    record {
      count = is ∙ skipped_count-none_held c.args.self.now c.args.number c.held.ensures.lawful nothing (omega arith);
      after = seen-jumped _ _ _ c.self.invariant _ c.self.view_is nothing c.args.number c.requires _ c.offset-distance.ensures;
      lawful = (invariant_of-self g c).lawful;
    }

pub returns-clause-count : goal.returns-clause-count
returns-clause-count g c =
    let lawful : IsLawful c.args.self.now = subst (λ (w : WindowView _). IsLawful w) c.self.view_is c.self.invariant.lawful in
    let is : c.offset-distance.result ≡ offset_in c.args.self.now c.args.number = c.offset-distance.ensures ∙ ap (λ (w : WindowView _). offset_in w c.args.number) c.self.view_is in
    let few = c.open_numbers-count.ensures.at_most in
    ⊎_elim
    (λ (reached : c.open_numbers-count.result ≡ c.offset-distance.result). skipped_count-reached c.args.self.now c.args.number lawful c.open_numbers-count.result c.open_numbers-count.ensures.none_held (reached ∙ is) (omega arith))
    (λ (before : c.open_numbers-count.result ≢ c.offset-distance.result). skipped_count-at_held c.args.self.now c.args.number lawful c.open_numbers-count.result c.open_numbers-count.ensures.none_held (omega arith) (omega arith) (c.open_numbers-count.ensures.next_is_held (omega arith)))
    (cases_eq c.open_numbers-count.result c.offset-distance.result)
