-- Which frames that only the analyser has have reasons, where frames are compared.
use Rattle.std.specs.Prelude.{◌≡◌, Option, Some, None, List, []}
use Rattle.burst_fates.specs.declared.burst_fate.ToldFate.{ToldFate}
use Rattle.burst_fates.specs.declared.missing_reason.MissingReason.{MissingReason}
use Rattle.burst_fates.specs.Fates.{kept_of}
use Rattle.frame_comparison.specs.Seen.{ComparisonSeen}
use Rattle.frame_reasons.specs.declared.reasons.Reasons.{Reasons}
use Rattle.frame_reasons.specs.Told.{TellsAll, explained}

-- the reasons that are listed, none where frames aren't compared
abbrev pub reasons_in : Option Reasons → List MissingReason
reasons_in (Some reasons) = reasons.listed.items
reasons_in None = []

-- this was told, of which the last is kept, and these reasons are listed
abbrev pub Knows : List ToldFate → List MissingReason → Option Reasons → Type 0
Knows told reasons (Some one) = (one.fates.told.items ≡ kept_of told) × (one.listed.items ≡ reasons)
Knows told reasons None = ⊥

-- nothing was told, and no reason is listed
abbrev pub NothingTold : Option Reasons → Type 0
NothingTold (Some reasons) = (reasons.fates.told.items ≡ []) × (reasons.listed.items ≡ [])
NothingTold None = ⊥

-- this is told, and nothing more is listed
abbrev pub Tells : List ToldFate → Option Reasons → Option Reasons → Type 0
Tells more (Some old) (Some new) = TellsAll more old.fates new.fates × (new.listed ≡ old.listed)
Tells more (Some old) None = ⊥
Tells more None new = new ≡ None

-- the frames that only the analyser has get their reasons, where frames are compared
abbrev pub Explains : Option ComparisonSeen → Option Reasons → Option Reasons → Type 0
Explains (Some comparison) (Some old) (Some new) =
    (new.fates ≡ old.fates) × (new.listed.items ≡ explained old.fates.told.items old.listed.items comparison.analyser.only)
Explains (Some comparison) (Some old) None = ⊥
Explains (Some comparison) None new = new ≡ None
Explains None old new = new ≡ old

-- so after this is told
abbrev pub ExplainsAfter : List ToldFate → Option ComparisonSeen → Option Reasons → Option Reasons → Type 0
ExplainsAfter more comparison old new = (told : Option Reasons) × Tells more old told × Explains comparison told new
