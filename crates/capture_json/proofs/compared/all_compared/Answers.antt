use Rattle.std.proofs.Common.{◌++◌, map, take, get_or, sym, ap, ◌∙◌}
use Rattle.std.proofs.lemmas.List.{map-append}
use Rattle.frame_comparison.specs.Seen.{no_counts}
use Rattle.capture_json.specs.Compared.{compared_data, compared_flows, told_if}
use Rattle.capture_json.proofs.Numbered.{flows-more}
use Rattle.capture_json.proofs.compared.all_compared.Goals as goal

pub loop-flow-preserved : goal.loop-flow-preserved
loop-flow-preserved c =
    let all = c.args.all.now in
    let i = c.loop-flow.flow in
    let told = compared_data c.args.flows.now in
    let more = told_if (i, get_or all i no_counts) in
    c.in_ok-push_compared.ensures
    ∙ ap (λ front. front ++ map told more) c.loop-flow.invariant
    ∙ sym (map-append told (compared_flows (take i all)) more)
    ∙ ap (map told) (sym (flows-more all i c.loop-flow-test.true))
