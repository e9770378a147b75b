use Rattle.std.proofs.Common.{◌==◌, ◌∷◌, [], not, length, ap, arith, length-append}
use Rattle.std.proofs.lemmas.List.Sums.{prefix_len-le-length}
use Rattle.capture_picture.specs.ShownFlow.{ShownFlow, new_flow}
use Rattle.capture_picture.specs.Picture.{Picture}
use Rattle.capture_picture.proofs.picture.CapturePicture.take_burst.Goals as goal

pub draw_segment-requires-2 : goal.draw_segment-requires-2
draw_segment-requires-2 c =
    let flows = c.args.self.now.flows.items in
    let burst = c.args.burst in
    omega (
      arith,
      c.place_of-place.ensures,
      prefix_len-le-length (λ (one : ShownFlow). not (one.flow == burst.flow)) flows,
      ap (λ (picture : Picture). length picture.flows) c.in_ok-show.ensures.shown,
      length-append flows (new_flow burst.flow burst.sfid burst.number ∷ []),
    )
