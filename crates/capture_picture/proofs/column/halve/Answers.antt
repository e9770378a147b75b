use Rattle.std.proofs.Common.{◌≡◌, ℕ, ◌+◌, ◌*◌, ◌<◌, ◌≢◌, List, length, get_or, set, arith, sym, ap, ◌∙◌, subst, get_or-set_other}
use Rattle.std.proofs.lemmas.List.FromFn.{fill_by_all}
use Rattle.std.proofs.lemmas.List.Edits.{fill_by_more}
use Rattle.capture_picture.specs.Columns.{no_column, both_columns, pair_at, halved}
use Rattle.capture_picture.specs.declared.column.Column.{Column}
use Rattle.capture_picture.proofs.column.halve.Goals as goal

pub loop-place-preserved : goal.loop-place-preserved
unfolding pair_at
loop-place-preserved c =
    let left = c.loop-place.invariant in
    let was : List Column = c.args.columns.now in
    let columns : List Column = c.loop-place.columns in
    let place = c.loop-place.place in
    let within : place < length columns = omega (arith, c.loop-place.auto.columns, c.requires, c.loop-place-test.true) in
    let new : c.pair_at.result ≡ pair_at was place =
    c.pair_at.ensures ∙ ap (λ (one : Column). both_columns one (get_or columns (2 * place + 1) no_column)) (left.1 (2 * place) (omega arith))
    ∙ ap (λ (other : Column). both_columns (get_or was (2 * place) no_column) other) (left.1 (2 * place + 1) (omega arith))
    in (
      subst (λ (one : Column). (k : ℕ) → k < place + 1 → get_or (set columns place one) k no_column ≡ pair_at was k) (sym new)
          (fill_by_more (pair_at was) columns place no_column within left.0),
      λ k above. let other : k ≢ place = omega (arith, above) in rw get_or-set_other (left.1 k (omega (arith, above))),
    )

pub returns : goal.returns
unfolding halved
returns c =
    let left = c.loop-place.invariant in
    let was : List Column = c.args.columns.now in
    fill_by_all (pair_at was) c.loop-place.columns (length was) no_column c.loop-place.auto.columns
    (λ k below. left.0 k (omega (arith, below, c.requires, c.loop-place-test.false)))
