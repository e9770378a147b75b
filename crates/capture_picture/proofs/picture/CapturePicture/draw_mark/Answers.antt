use Rattle.std.proofs.Common.{◌≡◌, ℕ, ◌-◌, ◌<◌, length, ap, ◌∙◌, arith}
use Rattle.capture_picture.specs.ShownFlow.{ShownFlow, with_mark_in}
use Rattle.capture_picture.specs.Picture.{picture_in, age_of, drawn_at}
use Rattle.capture_picture.proofs.Drawn.{drawn_at-set}
use Rattle.capture_picture.proofs.picture.CapturePicture.draw_mark.Goals as goal

pub returns : goal.returns
returns c =
    let was = picture_in c.args.self.now in
    let now = picture_in c.reach-column.new.self in
    let change : ℕ → ShownFlow → ShownFlow = λ column. with_mark_in column c.args.mark c.args.count in
    let age : c.saturating_sub.result ≡ age_of was c.args.time = c.saturating_sub.ensures ∙ ap (λ (n : ℕ). c.args.time - n) c.unwrap_or-first.ensures in
    let within : c.args.place < length now.flows = omega (arith, c.requires, c.reach-column.ensures.flows) in
    drawn_at-set c.args.place c.saturating_sub.result c.reach-column.result change was now c.index_mut.result.now c.mark.new.self
    c.reach-column.ensures.reached c.reach-column.ensures.column within c.index_mut.ensures.value c.mark.ensures
    ∙ ap (λ (n : ℕ). drawn_at c.args.place n change was) age
