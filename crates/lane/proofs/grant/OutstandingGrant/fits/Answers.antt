-- A burst that is refused unread doesn't fit.
use Rattle.std.proofs.lemmas.Bool.{false≢true}
use Rattle.lane.proofs.LaneTaking.{refused-unfit}
use Rattle.lane.proofs.grant.OutstandingGrant.fits.Goals as goal

pub returns-in-Some : goal.returns-in-Some
returns-in-Some c = (
  λ yes. absurd (false≢true yes),
  λ fits. absurd (refused-unfit 0 c.args.self c.args.hcs_ok c.args.bytes.now c.in-Some.field-0 (c.in-Some.ensures 0) fits),
)
