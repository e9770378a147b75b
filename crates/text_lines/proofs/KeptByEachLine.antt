-- What each line keeps holds after all lines.
use Rattle.std.proofs.Common.{List, ℕ}
use Rattle.text_lines.specs.Format.{Format, IsRead, no_lines, skipped, taken}

-- each line that is taken keeps the property
abbrev pub Keeps : {State : Type 0} → Format State → (State → Type 0) → Type 0
Keeps {State} format P = (before : State) (fields : List (List ℕ)) (after : State) → format.Takes before fields after → P before → P after

-- and so do all lines
pub IsRead-keeps : {State : Type 0} {format : Format State} (P : State → Type 0) {before after : State} {lines : List (List ℕ)}
    → Keeps format P → IsRead format before lines after → P before → P after
IsRead-keeps P keeps no_lines holds = holds
IsRead-keeps P keeps (skipped none read) holds = IsRead-keeps P keeps read holds
IsRead-keeps P keeps (taken takes read) holds = IsRead-keeps P keeps read (keeps _ _ _ takes holds)
