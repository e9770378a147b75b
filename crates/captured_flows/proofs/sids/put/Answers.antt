use Rattle.std.proofs.Common.{◌≡◌, ◌++◌, ◌∷◌, [], ◌<◌, ℕ, Option, Some, None, length, get_or, set, sym, subst, ap, ◌∙◌, arith}
use Rattle.std.specs.Prelude.{not}
use Rattle.std.proofs.lemmas.List.{get_or_default}
use Rattle.captured_flows.specs.Sids.{place_of, IsTableOf}
use Rattle.captured_flows.proofs.SidTable.{table-out_of_range, table-taken, table-put, is-none, is-some}
use Rattle.captured_flows.proofs.sids.put.Goals as goal

pub returns-then-is_none-clause-put : goal.returns-then-is_none-clause-put
returns-then-is_none-clause-put c = λ rows is_table.
    let items = c.args.flows.now.items in
    let row = c.args.row in
    let place = c.in-Some.ensures in
    let empty = is-none c.index.result.now (c.is_none.ensures ∙ ap not c.if-is_none.true) in
    let none : get_or items (place_of row.channel row.sid) None ≡ None =
    subst (λ n. get_or items n None ≡ None) place.2 (sym (subst (λ (x : Option ℕ). x ≡ get_or items c.in-Some.place x) empty c.index.ensures)) in
    subst (λ n. IsTableOf (rows ++ row ∷ []) (set items n (Some row.flow))) (sym place.2) (table-put rows items is_table row place.0 place.1 none)

pub returns-else-is_none-clause-put : goal.returns-else-is_none-clause-put
returns-else-is_none-clause-put c = λ rows is_table.
    let items = c.args.flows.now.items in
    let row = c.args.row in
    let place = c.in-Some.ensures in
    let flow = is-some c.index.result.now (c.is_none.ensures ∙ ap not c.if-is_none.false) in
    let at = place.2 in
    let low = place.0 in
    let below = place.1 in
    let many = c.requires.many in
    let within : c.in-Some.place < length items = omega (arith, at, low, below, many) in
    let there : get_or items (place_of row.channel row.sid) None ≡ Some flow.0 =
    subst (λ n. get_or items n None ≡ Some flow.0) place.2 (get_or_default items c.in-Some.place None c.index.result.now within ∙ sym c.index.ensures ∙ flow.1) in
    table-taken rows items is_table row flow.0 place.0 place.1 there

pub returns-in_default-clause-put : goal.returns-in_default-clause-put
returns-in_default-clause-put c = λ rows is_table. table-out_of_range rows c.args.flows.now.items is_table c.args.row c.in_default.ensures
