-- A text that is written a front at a time.
use Rattle.std.proofs.Common.{◌≡◌, ℕ, List, Option, ◌++◌, take, drop, ◌∙◌, ap, sym, append_assoc, take-append-drop}
use Rattle.std.proofs.KnownBytes.{Appends-trans}
use Rattle.std.specs.Io.KnownBytes.{Appends}
use Rattle.engines.specs.Transfer.{AppendsBefore}

-- more of a text was written
pub AppendsBefore-more : (a b c : Option (List ℕ)) (text rest more : List ℕ) (n : ℕ)
    → AppendsBefore a b text rest → Appends b c (take n rest) → more ≡ drop n rest → AppendsBefore a c text more
AppendsBefore-more a b c text rest more n before took is = (
  before.0 ++ take n rest,
  before.1 ∙ ap (λ xs. before.0 ++ xs) (sym (take-append-drop n rest) ∙ ap (λ xs. take n rest ++ xs) (sym is)) ∙ sym (append_assoc before.0 (take n rest) more),
  Appends-trans a b c before.0 (take n rest) before.2 took,
)
