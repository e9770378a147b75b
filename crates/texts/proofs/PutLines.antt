-- Lines that are put one after another.
use Rattle.std.proofs.Common.{◌≡◌, ℕ, List, [], ◌∷◌, ◌++◌, sym, ap, subst, ◌∙◌, append-nil}
use Rattle.std.specs.Prelude.{IsTrue, Vec, Result, Ok, Err, IfOk}
use Rattle.std.specs.declared.alloc.Global.{Global}
use Rattle.text_lines.specs.Putting.{Puts, HasGrown}
use Rattle.text_lines.specs.declared.text_buffer.TextBuffer.{TextBuffer}
use Rattle.hex.specs.Hex.{encode_lower}
use Rattle.text_lines.specs.Lines.{line_feed}
use Rattle.text_lines.proofs.SpelledBytes.{encode_lower_append}
use Rattle.text_lines.proofs.PutTexts.{puts-then}

module _ {T : Type 0} (after : T → List ℕ → T → Type 0) where
  -- the digits of some bytes were put, those of others behind them, and then the end of the line
  pub puts-hex-line : (first second third last : T) (head bytes : List ℕ) → Puts after first (encode_lower head) second → Puts after second (encode_lower bytes) third
      → Puts after third (line_feed ∷ []) last → Puts after first (encode_lower (head ++ bytes) ++ line_feed ∷ []) last
  puts-hex-line first second third last head bytes puts more end =
      puts-then after (subst (λ (all : List ℕ). Puts after first all third) (sym (encode_lower_append head bytes)) (puts-then after puts more)) end

-- a text in memory that is whole had a line put to it
pub buffer-grown : (before now : TextBuffer) (more : List ℕ) → Puts HasGrown before more now → IsTrue now.whole → IsTrue before.whole × (now.text.items ≡ before.text.items ++ more)
buffer-grown before now more puts whole = puts before [] (λ was. (was, sym (append-nil before.text.items))) whole

-- a text in memory that began empty has just what was put, if it is whole
pub buffer-holds : (empty now : TextBuffer) (text more : List ℕ) → empty.text.items ≡ [] → Puts HasGrown empty more now → IsTrue now.whole → text ≡ now.text.items → text ≡ more
buffer-holds empty now text more none puts whole same = same ∙ (buffer-grown empty now more puts whole).1 ∙ ap (λ (t : List ℕ). t ++ more) none

-- so it has where it is finished
pub buffer-finished : {E : Type 0} (result : Result (Vec ℕ Global) E) (empty now : TextBuffer) (more : List ℕ) → empty.text.items ≡ [] → Puts HasGrown empty more now
    → IfOk result (λ text. IsTrue now.whole) → IfOk result (λ text. text.items ≡ now.text.items) → IfOk result (λ text. text.items ≡ more)
buffer-finished (Ok text) empty now more none puts whole same = buffer-holds empty now text.items more none puts whole same
buffer-finished (Err error) empty now more none puts whole same = whole
