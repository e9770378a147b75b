-- The map says in which grant the burst came, and whether it fits it what is admitted.
use Rattle.std.proofs.Common.{◌≡◌, ◌<◌, true, Some, length, sym, subst, ◌∙◌}
use Rattle.std.proofs.lemmas.Option.{same_Some, slice_get_within}
use Rattle.std.specs.Prelude.{nat_eq}
use Rattle.std.specs.HashMap.{get}
use Rattle.lane.proofs.LaneTaking.{grant-from}
use Rattle.lane.proofs.WouldAdmit.{to-fitting, to-unfit}
use Rattle.lane.proofs.lane.Lane.look_at_burst.Goals as goal

pub returns-then-fits-clause-flow : goal.returns-then-fits-clause-flow
returns-then-fits-clause-flow c channels setup taken answer can stands is =
    let granted = c.in_ok-granted.granted in
    let some : get nat_eq c.args.self.now.grants c.args.number ≡ Some granted = sym c.get.ensures.value ∙ sym c.copied.ensures ∙ c.in_ok-granted.was in
    to-fitting setup taken channels can stands.answered c.args.number granted (grant-from setup taken c.args.self.now stands c.args.number granted some)
    c.args.hcs_ok c.args.bytes.now answer (c.fits.ensures.0 c.if-fits.true) is

pub returns-then-fits-clause-exists : goal.returns-then-fits-clause-exists
returns-then-fits-clause-exists c setup taken k stands same =
    let granted = c.in_ok-granted.granted in
    let some : get nat_eq c.args.self.now.grants c.args.number ≡ Some granted = sym c.get.ensures.value ∙ sym c.copied.ensures ∙ c.in_ok-granted.was in
    let flow = (grant-from setup taken c.args.self.now stands c.args.number granted some).flow in
    let inside = slice_get_within setup.records flow.row.flow flow.flow_record flow.stands in
    let index : granted.flow.index ≡ k = same_Some granted.flow.index k same in
    subst (λ n. n < length setup.records) (sym flow.index ∙ index) inside

pub returns-else-fits-clause-flow : goal.returns-else-fits-clause-flow
returns-else-fits-clause-flow c channels setup taken answer can stands is =
    let granted = c.in_ok-granted.granted in
    let some : get nat_eq c.args.self.now.grants c.args.number ≡ Some granted = sym c.get.ensures.value ∙ sym c.copied.ensures ∙ c.in_ok-granted.was in
    to-unfit setup taken channels can stands.answered c.args.number granted (grant-from setup taken c.args.self.now stands c.args.number granted some)
    c.args.hcs_ok c.args.bytes.now answer (λ fits. let yes : c.fits.result ≡ true = c.fits.ensures.1 fits in cc) is
