use Rattle.std.proofs.Common.{◌≡◌, ℕ, ◌-◌, ◌<◌, length, Some, ap, ◌∙◌, arith}
use Rattle.capture_picture.specs.ShownFlow.{ShownFlow, with_segment}
use Rattle.capture_picture.specs.Picture.{picture_in, age_of, drawn_at}
use Rattle.capture_picture.proofs.Drawn.{drawn_at-set}
use Rattle.capture_picture.proofs.picture.CapturePicture.draw_segment.Goals as goal

pub returns : goal.returns
returns c =
    let burst = c.args.burst.now in
    let was = picture_in c.args.self.now in
    let began = record was { first = Some c.unwrap_or-first.result } in
    let now = picture_in c.reach-column.new.self in
    let change : ℕ → ShownFlow → ShownFlow = λ column. with_segment column burst.channel burst.number in
    let age : c.saturating_sub.result ≡ age_of was burst.time = c.saturating_sub.ensures ∙ ap (λ (n : ℕ). burst.time - n) c.unwrap_or-first.ensures in
    let within : c.args.place < length now.flows = omega (arith, c.requires, c.reach-column.ensures.flows) in
    drawn_at-set c.args.place c.saturating_sub.result c.reach-column.result change began now c.index_mut.result.now c.take_segment.new.self
    c.reach-column.ensures.reached c.reach-column.ensures.column within c.index_mut.ensures.value c.take_segment.ensures
    ∙ ap (λ (n : ℕ). drawn_at c.args.place n change began) age
    ∙ ap (λ (n : ℕ). drawn_at c.args.place (age_of was burst.time) change (record was { first = Some n })) c.unwrap_or-first.ensures
