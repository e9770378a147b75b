-- What a consumer is given in parts.
use Rattle.std.proofs.Common.{List, [], ◌++◌, sym, subst, append_assoc, append-nil}
use Rattle.workers.specs.Given.{BecameBy}

module _ {O X : Type 0} (after : O → List X → O → Type 0) where
  -- nothing was given
  pub given-nothing : (old : O) → BecameBy after old [] old
  given-nothing old start earlier was = subst (λ given. after start given old) (sym (append-nil earlier)) was

  -- two lists were given, one after the other
  pub given-on : (old between new : O) (first second : List X) → BecameBy after old first between → BecameBy after between second new
      → BecameBy after old (first ++ second) new
  given-on old between new first second one other start earlier was =
      subst (λ given. after start given new) (append_assoc earlier first second) (other start (earlier ++ first) (one start earlier was))
