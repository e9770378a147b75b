use Rattle.std.proofs.Common.{◌≡◌, ℕ, ◌<◌, ◌==◌, Bool, true, false, not, List, length, get_or, sym, ap, ◌∙◌, subst, arith}
use Rattle.std.proofs.lemmas.Bool.{ne_eqb, eq-eqb}
use Rattle.std.proofs.lemmas.List.Sums.{prefix_len-drop_yes, prefix_len-drop_no, prefix_len-drop_all}
use Rattle.capture_picture.specs.ShownFlow.{ShownFlow}
use Rattle.capture_picture.proofs.picture.CapturePicture.place_of.Goals as goal

pub loop-place-preserved : goal.loop-place-preserved
loop-place-preserved c =
    let items : List ShownFlow = c.args.self.now.flows.items in
    let item : ShownFlow = c.one-item.result in
    let place = c.loop-place.place in
    let flow = c.args.flow in
    let other : ShownFlow → Bool = λ (one : ShownFlow). not (one.flow == flow) in
    let same = c.deref-one-items.ensures.value in
    let within : place < length items = subst (λ (all : List ShownFlow). place < length all) same c.loop-place-test.true in
    let read : item ≡ get_or items place item = c.one-item.is ∙ ap (λ (all : List ShownFlow). get_or all place item) same in
    let passed : other (get_or items place item) ≡ true =
    ap other (sym read) ∙ ap not (ap (λ (n : ℕ). n == flow) (sym c.flow.ensures) ∙ ne_eqb c.flow.result flow c.if-flow.false)
    in
    omega (arith, c.loop-place.invariant, prefix_len-drop_yes other items place item within passed)

pub returns-then-flow : goal.returns-then-flow
returns-then-flow c =
    let items : List ShownFlow = c.args.self.now.flows.items in
    let item : ShownFlow = c.one-item.result in
    let place = c.loop-place.place in
    let flow = c.args.flow in
    let other : ShownFlow → Bool = λ (one : ShownFlow). not (one.flow == flow) in
    let same = c.deref-one-items.ensures.value in
    let within : place < length items = subst (λ (all : List ShownFlow). place < length all) same c.loop-place-test.true in
    let read : item ≡ get_or items place item = c.one-item.is ∙ ap (λ (all : List ShownFlow). get_or all place item) same in
    let found : other (get_or items place item) ≡ false =
    ap other (sym read) ∙ ap not (ap (λ (n : ℕ). n == flow) (sym c.flow.ensures) ∙ eq-eqb c.flow.result flow c.if-flow.true)
    in
    omega (arith, c.loop-place.invariant, prefix_len-drop_no other items place item within found)

pub returns : goal.returns
returns c =
    let items : List ShownFlow = c.args.self.now.flows.items in
    let other : ShownFlow → Bool = λ (one : ShownFlow). not (one.flow == c.args.flow) in
    let long = ap (λ (all : List ShownFlow). length all) c.deref-one-items.ensures.value in
    omega (
      arith,
      c.loop-place.invariant,
      c.loop-place.auto.place-end,
      c.loop-place-test.false,
      long,
      c.len.ensures,
      c.args.self.now.flows.ok.0,
      prefix_len-drop_all other items c.loop-place.place (omega (arith, long, c.loop-place-test.false)),
    )
