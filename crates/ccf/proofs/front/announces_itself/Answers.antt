-- What announces its own length is a frame, but for the check.
use Rattle.std.proofs.Common.{◌≡◌, length, refl, arith}
use Rattle.std.proofs.lemmas.Bool.{eqb-true}
use Rattle.ccf.proofs.Lacking.{no-frame-Ends}
use Rattle.ccf.proofs.front.announces_itself.Goals as goal

pub returns-in-Head-clause-dropped : goal.returns-in-Head-clause-dropped
returns-in-Head-clause-dropped c =
    λ yes check none.
    let bytes = c.args.bytes.now in
    let ehdr = c.in-Head.ehdr in
    let total = c.in-Head.total in
    let same : total ≡ length bytes = eqb-true total (length bytes) yes in
    no-frame-Ends check bytes ehdr total c.in-Head.ensures.table (c.in-Head.ensures.header ehdr total refl) same
    (c.in-Head.ensures.whole check ehdr total refl (omega arith)) none
