use Rattle.std.proofs.Common.{◌≡◌, ap, ◌∙◌, arith}
use Rattle.reorder.specs.declared.window.Window.TheInside.{Inside}
use Rattle.reorder.specs.Inside.Ring.{turned}
use Rattle.reorder.proofs.Rings.{turned-empty}
use Rattle.reorder.proofs.Jumps.{few-passed, seen-passed, kept-passed}
use Rattle.reorder.proofs.NothingHeld.{places-empty}
use Rattle.reorder.proofs.window.Window.pass_numbers.Given.{Over}
use Rattle.reorder.proofs.window.Window.pass_numbers.Goals as goal
use Rattle.reorder.proofs.window.Window.pass_numbers.Goals.{then-self-gt0, else-self-gt0}

pub begin_anew-requires : goal.begin_anew-requires
begin_anew-requires g c = places-empty _ _ _ c.self.invariant (omega arith)

-- the fields before the number changes: where nothing is held too, the ring is as if it were turned
fields : (g : Over) (c : goal.After-self-1 g) → (c.if-self-gt0.self-inside.expected ≡ c.self.inside.expected) × (c.if-self-gt0.self-inside.held ≡ c.self.inside.held) × (c.if-self-gt0.self-inside.places ≡ turned c.args.count c.self.inside.places)
fields g c =
    elim c.if-self-gt0.branch [
      | then-self-gt0 w ↦
          let is = w.self-inside-is in
          (ap (λ (i : Inside _). i.expected) is, ap (λ (i : Inside _). i.held) is, ap (λ (i : Inside _). i.places) is ∙ w.turn.ensures ∙ ap (λ n. turned n c.self.inside.places) w.from.ensures)
      | else-self-gt0 w ↦
          let is = w.self-inside-is in
          let few = few-passed _ _ _ c.self.invariant _ c.self.view_is _ c.requires.within in
          (ap (λ (i : Inside _). i.expected) is, ap (λ (i : Inside _). i.held) is, ap (λ (i : Inside _). i.places) is ∙ w.begin_anew.ensures ∙ turned-empty _ _ few (places-empty _ _ _ c.self.invariant (omega arith)))
    ]

pub invariant_of-self : goal.invariant_of-self
invariant_of-self g c =
    let are = fields g c in
    kept-passed _ _ _ c.self.invariant _ c.self.view_is _ c.requires.within c.requires.none_held _ _ _ are.0 are.1 are.2

pub returns-clause-after : goal.returns-clause-after
returns-clause-after g c =
    let are = fields g c in
    seen-passed _ _ _ c.self.invariant _ c.self.view_is _ c.requires.within c.requires.none_held _ _ _ are.0 are.1 are.2

pub returns-clause-lawful : goal.returns-clause-lawful
returns-clause-lawful g c = (invariant_of-self g c).lawful
