-- Texts one behind another, from the first on.
use Rattle.std.proofs.Common.{◌≡◌, ℕ, List, [], ◌∷◌, ◌++◌, sym, ◌∙◌, append_assoc, append-nil}
use Rattle.std.specs.Prelude.{flat_map}
use Rattle.capture_summary.specs.Words.{texts_from}

module _ {T : Type 0} (text : T → List ℕ) where
  -- behind the front they are the texts of all parts
  pub texts_from-all : (front : List ℕ) (parts : List T) → texts_from text front parts ≡ front ++ flat_map text parts
  texts_from-all front [] = sym (append-nil front)
  texts_from-all front (part ∷ parts) = texts_from-all (front ++ text part) parts ∙ append_assoc front (text part) (flat_map text parts)
