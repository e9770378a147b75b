-- The maps say what is outstanding, and which identifiers have rows.
use Rattle.std.proofs.Common.{◌≡◌, ◌+◌, true, cond, subst, is_some, Some, None, Err, refl, ◌∙◌, arith}
use Rattle.std.specs.Prelude.{nat_eq}
use Rattle.std.specs.HashMap.{get, hash_map_len}
use Rattle.lane.specs.declared.input.Input.TheVariants.{Grant}
use Rattle.lane.specs.declared.refusal.Refusal.TheVariants.{GrantRange, GrantKnown, UnknownSid, TooManyGrants}
use Rattle.lane.specs.Inputs.{IsGrantSize}
use Rattle.lane.specs.Stands.{flow_at}
use Rattle.lane.proofs.LaneTaking.{stands-as-before, stands-with, known-from, unknown-from, no-flow-from, flow-from, has-row, as-many, none-from}
use Rattle.lane.proofs.lane.Lane.answer_grant.Goals as goal

pub returns-then-not-is_grant_size-clause-answered : goal.returns-then-not-is_grant_size-clause-answered
returns-then-not-is_grant_size-clause-answered c setup taken stands =
    stands-as-before setup taken (record { input = Grant c.args.number c.args.sid c.args.bytes; answer = Err GrantRange }) c.args.self.now refl refl
    (λ size. let yes : c.is_grant_size.result ≡ true = c.is_grant_size.ensures.1 size in cc)
    stands

pub returns-then-contains_key-clause-answered : goal.returns-then-contains_key-clause-answered
returns-then-contains_key-clause-answered c setup taken stands =
    let size : IsGrantSize c.args.bytes = c.is_grant_size.ensures.0 c.if-not-is_grant_size.false in
    let found : is_some (get nat_eq c.args.self.now.grants c.args.number) ≡ true = cc in
    stands-as-before setup taken (record { input = Grant c.args.number c.args.sid c.args.bytes; answer = Err GrantKnown }) c.args.self.now refl refl
    (size, known-from setup taken c.args.self.now stands c.args.number found)
    stands

pub returns-in_default-clause-answered : goal.returns-in_default-clause-answered
returns-in_default-clause-answered c setup taken stands =
    let size : IsGrantSize c.args.bytes = c.is_grant_size.ensures.0 c.if-not-is_grant_size.false in
    let none : get nat_eq c.args.self.now.grants c.args.number ≡ None = none-from (get nat_eq c.args.self.now.grants c.args.number) cc in
    let no_flow : flow_at c.args.self.now.flows.items c.args.sid ≡ None = cc in
    stands-as-before setup taken (record { input = Grant c.args.number c.args.sid c.args.bytes; answer = Err UnknownSid }) c.args.self.now refl refl
    (size, unknown-from setup taken c.args.self.now stands c.args.number none, no-flow-from setup taken c.args.self.now stands c.args.sid no_flow)
    stands

pub returns-then-len-ge-OUTSTANDING_MAX-clause-answered : goal.returns-then-len-ge-OUTSTANDING_MAX-clause-answered
returns-then-len-ge-OUTSTANDING_MAX-clause-answered c setup taken stands =
    let size : IsGrantSize c.args.bytes = c.is_grant_size.ensures.0 c.if-not-is_grant_size.false in
    let none : get nat_eq c.args.self.now.grants c.args.number ≡ None = none-from (get nat_eq c.args.self.now.grants c.args.number) cc in
    let some : flow_at c.args.self.now.flows.items c.args.sid ≡ Some c.in-Some.flow = cc in
    let many = as-many setup taken c.args.self.now stands in
    let len = c.len.ensures.len in
    let flow = flow-from setup taken c.args.self.now stands c.args.sid c.in-Some.flow some in
    stands-as-before setup taken (record { input = Grant c.args.number c.args.sid c.args.bytes; answer = Err TooManyGrants }) c.args.self.now refl refl
    (size, unknown-from setup taken c.args.self.now stands c.args.number none, has-row setup taken c.args.self.now stands c.args.sid c.in-Some.flow flow, omega arith)
    stands

pub returns-clause-answered : goal.returns-clause-answered
returns-clause-answered c setup taken stands =
    let size : IsGrantSize c.args.bytes = c.is_grant_size.ensures.0 c.if-not-is_grant_size.false in
    let none : get nat_eq c.args.self.now.grants c.args.number ≡ None = none-from (get nat_eq c.args.self.now.grants c.args.number) cc in
    let some : flow_at c.args.self.now.flows.items c.args.sid ≡ Some c.in-Some.flow = cc in
    let many = as-many setup taken c.args.self.now stands in
    let len = c.len.ensures.len in
    let flow = flow-from setup taken c.args.self.now stands c.args.sid c.in-Some.flow some in
    stands-with setup taken c.args.self.now c.insert.new.self c.args.number c.args.sid (record { flow = c.in-Some.flow; bytes = c.args.bytes })
    c.in_ok-insert.ensures.updates.1 c.in_ok-insert.ensures.updates.2
    (subst (λ old. hash_map_len c.insert.new.self ≡ hash_map_len c.args.self.now.grants + cond (is_some old) 0 1) (c.in_ok-insert.ensures.old ∙ none) c.in_ok-insert.ensures.len)
    flow
    (size, unknown-from setup taken c.args.self.now stands c.args.number none, has-row setup taken c.args.self.now stands c.args.sid c.in-Some.flow flow, omega arith)
    stands
