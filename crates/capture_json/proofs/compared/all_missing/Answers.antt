use Rattle.std.proofs.Common.{◌≡◌, ℕ, ◌∷◌, [], ◌++◌, List, map, take, get_or, sym, ap, ◌∙◌}
use Rattle.std.specs.List.{enumerate_from}
use Rattle.std.proofs.lemmas.List.{map-append}
use Rattle.serde_json.specs.Data.{Data}
use Rattle.serde_json.specs.View.{view}
use Rattle.frame_comparison.specs.Frames.{ShownFrame}
use Rattle.capture_json.specs.Compared.{missing_data}
use Rattle.capture_json.proofs.Numbered.{places-more}
use Rattle.capture_json.proofs.compared.all_missing.Goals as goal

pub loop-place-preserved : goal.loop-place-preserved
loop-place-preserved c =
    let frames = c.args.frames.now in
    let i = c.loop-place.place in
    let told = missing_data c.args.flows.now c.args.reasons.now in
    let frame : ShownFrame = c.index-frames-place.result in
    let value = c.in_ok-missing_value.field-0 in
    ap (map view) c.in_ok-push.ensures.items
    ∙ map-append view c.loop-place.values.items (value ∷ [])
    ∙ ap (λ (front : List Data). front ++ view value ∷ []) c.loop-place.invariant
    ∙ ap (λ (last : Data). map told (enumerate_from 0 (take i frames)) ++ last ∷ []) (c.in_ok-missing_value.ensures ∙ ap (λ (one : ShownFrame). told (i, one)) c.index-frames-place.is)
    ∙ sym (map-append told (enumerate_from 0 (take i frames)) ((i, get_or frames i frame) ∷ []))
    ∙ ap (map told) (sym (places-more frames i frame c.loop-place-test.true))
