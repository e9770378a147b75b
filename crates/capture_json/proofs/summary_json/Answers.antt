use Rattle.std.proofs.Common.{◌≡◌, ◌∷◌, [], ◌++◌, sym, ap, subst, ◌∙◌}
use Rattle.std.specs.Prelude.{IfOk, false, option_map}
use Rattle.serde_json.specs.Data.{Data}
use Rattle.serde_json.specs.View.{view}
use Rattle.serde_json.specs.Written.{compact_text, has_float}
use Rattle.capture_json.specs.Counted.{summary_data}
use Rattle.capture_json.specs.Compared.{compared_or_null}
use Rattle.capture_json.proofs.NoFloats.{no_float, no_float-comparison}
use Rattle.capture_json.proofs.summary_json.Goals as goal

pub line_of-requires-whole : goal.line_of-requires-whole
line_of-requires-whole c = λ _.
    let summary = c.args.summary.now in
    let seen = option_map (λ one. one.now) c.args.comparison in
    let compared : Data = compared_or_null summary.flows.items c.args.reasons.now c.args.strangers seen in
    let told : view c.in_ok-value.value ≡ summary_data compared summary =
    c.in_ok-value.ensures ∙ ap (λ (d : Data). summary_data d summary) c.in_ok-compared.ensures
    in
    subst (λ (d : Data). has_float d ≡ false) (sym told) (no_float compared summary (no_float-comparison summary.flows.items c.args.reasons.now c.args.strangers seen))

pub returns : goal.returns
returns c =
    let summary = c.args.summary.now in
    let seen = option_map (λ one. one.now) c.args.comparison in
    let compared : Data = compared_or_null summary.flows.items c.args.reasons.now c.args.strangers seen in
    let told : view c.in_ok-value.value ≡ summary_data compared summary =
    c.in_ok-value.ensures ∙ ap (λ (d : Data). summary_data d summary) c.in_ok-compared.ensures
    in
    subst (λ (d : Data). IfOk c.line_of.result (λ text. text.items ≡ compact_text d ++ 10 ∷ [])) told c.line_of.ensures
