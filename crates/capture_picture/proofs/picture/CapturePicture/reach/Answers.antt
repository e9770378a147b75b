use Rattle.std.proofs.Common.{◌≡◌, ℕ, max, refl, arith, sym, ap, ◌∙◌}
use Rattle.capture_picture.specs.Picture.{Picture, picture_in, doubled_within, reached}
use Rattle.capture_picture.proofs.Widths.{doubled_within-stays}
use Rattle.capture_picture.proofs.picture.CapturePicture.reach.Goals as goal

pub loop-self-init : goal.loop-self-init
loop-self-init c = (c.args.age, omega (arith, c.args.self.now.wide), refl, refl, refl)

pub returns-clause-reached : goal.returns-clause-reached
unfolding reached
returns-clause-reached c =
    let left = c.loop-self.invariant in
    let now = picture_in c.loop-self.self in
    let age = c.args.age in
    let was = picture_in c.args.self.now in
    let same : doubled_within age age was ≡ now = left.2 ∙ doubled_within-stays left.0 age now c.loop-self-test.false in
    ap (λ (latest : ℕ). record now { latest = latest }) (c.max-self.ensures ∙ ap (λ (latest : ℕ). max latest age) left.3)
    ∙ sym (ap (λ (wide : Picture). record wide { latest = max was.latest age }) same)
