-- A text in memory that is finished.
use Rattle.std.proofs.Common.{◌≡◌, List, ℕ, [], ◌++◌, sym, ap, ◌∙◌, append-nil}
use Rattle.std.specs.Prelude.{IsTrue, Vec, Result, Ok, Err, IfOk}
use Rattle.std.specs.declared.alloc.Global.{Global}
use Rattle.text_lines.specs.Putting.{Puts, HasGrown}
use Rattle.text_lines.specs.declared.text_buffer.TextBuffer.{TextBuffer}

-- where it began empty it has just what was put
pub buffer-finished : {E : Type 0} (result : Result (Vec ℕ Global) E) (empty now : TextBuffer) (more : List ℕ) → empty.text.items ≡ [] → Puts HasGrown empty more now
    → IfOk result (λ text. IsTrue now.whole) → IfOk result (λ text. text.items ≡ now.text.items) → IfOk result (λ text. text.items ≡ more)
buffer-finished (Ok text) empty now more none puts whole same =
    same ∙ (puts empty [] (λ was. (was, sym (append-nil empty.text.items))) whole).1 ∙ ap (λ front. front ++ more) none
buffer-finished (Err error) empty now more none puts whole same = whole
