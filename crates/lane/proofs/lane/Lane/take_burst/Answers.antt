-- The map says what is outstanding, and what is made of the burst is the answer.
use Rattle.std.proofs.Common.{◌≡◌, ◌+◌, cond, is_some, Some, None, Ok, Err, refl, subst, ◌∙◌}
use Rattle.std.specs.Prelude.{nat_eq}
use Rattle.std.specs.HashMap.{get, hash_map_len}
use Rattle.lane.specs.declared.input.Input.TheVariants.{Burst}
use Rattle.lane.specs.declared.refusal.Refusal.TheVariants.{NoGrant}
use Rattle.lane.specs.Admission.{IsMadeOf}
use Rattle.lane.proofs.LaneTaking.{stands-as-before, stands-for-same, stands-without, unknown-from, grant-from, spends, answers-burst}
use Rattle.lane.proofs.lane.Lane.take_burst.Goals as goal

pub returns-in_default-clause-answered : goal.returns-in_default-clause-answered
returns-in_default-clause-answered c setup taken stands =
    let none : get nat_eq c.args.self.now.grants c.args.number ≡ None = cc in
    let same = stands-for-same setup taken c.args.self.now c.remove.new.self c.in_default.ensures.unchanged stands in
    stands-as-before setup taken (record { input = Burst c.args.number c.args.hcs_ok c.args.bytes; answer = Err NoGrant }) (record c.args.self.now { grants = c.remove.new.self }) refl refl
    (unknown-from setup taken c.args.self.now stands c.args.number none)
    same

pub returns-in-Ok-clause-answered : goal.returns-in-Ok-clause-answered
returns-in-Ok-clause-answered c setup taken stands =
    let some : get nat_eq c.args.self.now.grants c.args.number ≡ Some c.in-Some.grant = cc in
    let made : IsMadeOf c.args.self.now.channel c.in-Some.grant c.args.hcs_ok c.args.bytes (Ok c.in-Ok.admitted) = c.in-Ok.ensures in
    stands-without setup taken c.args.self.now c.remove.new.self
    (record { input = Burst c.args.number c.args.hcs_ok c.args.bytes; answer = Ok (Some c.in-Ok.admitted) }) c.args.number refl refl refl
    c.remove.ensures.updates.1 c.remove.ensures.updates.2
    (subst (λ old. hash_map_len c.remove.new.self + cond (is_some old) 1 0 ≡ hash_map_len c.args.self.now.grants) (c.remove.ensures.value ∙ some) c.remove.ensures.len) (
      c.in-Some.grant,
      grant-from setup taken c.args.self.now stands c.args.number c.in-Some.grant some,
      subst (λ channel. IsMadeOf channel c.in-Some.grant c.args.hcs_ok c.args.bytes (Ok c.in-Ok.admitted)) stands.channel made,
    )
    stands

pub returns-in-Err-clause-answered : goal.returns-in-Err-clause-answered
returns-in-Err-clause-answered c setup taken stands =
    let some : get nat_eq c.args.self.now.grants c.args.number ≡ Some c.in-Some.grant = cc in
    let made : IsMadeOf c.args.self.now.channel c.in-Some.grant c.args.hcs_ok c.args.bytes (Err c.in-Err.refusal) = c.in-Err.ensures in
    stands-without setup taken c.args.self.now c.remove.new.self
    (record { input = Burst c.args.number c.args.hcs_ok c.args.bytes; answer = Err c.in-Err.refusal }) c.args.number refl refl
    (spends c.args.self.now.channel c.in-Some.grant c.args.hcs_ok c.args.bytes c.in-Err.refusal made)
    c.remove.ensures.updates.1 c.remove.ensures.updates.2
    (subst (λ old. hash_map_len c.remove.new.self + cond (is_some old) 1 0 ≡ hash_map_len c.args.self.now.grants) (c.remove.ensures.value ∙ some) c.remove.ensures.len)
    (answers-burst setup taken c.args.number c.args.hcs_ok c.args.bytes c.in-Some.grant c.in-Err.refusal
    (grant-from setup taken c.args.self.now stands c.args.number c.in-Some.grant some)
    (subst (λ channel. IsMadeOf channel c.in-Some.grant c.args.hcs_ok c.args.bytes (Err c.in-Err.refusal)) stands.channel made))
    stands
