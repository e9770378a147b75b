use Rattle.std.proofs.Common.{◌≡◌, ℕ, ◌<◌, List, [], ◌∷◌, length, Option, Some, None, Result, Ok, Err, ap, ◌∙◌}
use Rattle.std.specs.Prelude.{IfOk, IfSome, MatchOption}
use Rattle.text_lines.specs.Field.{SpellsBytes, IsHex}
use Rattle.text_lines.specs.Lines.{words_of}
use Rattle.text_lines.specs.declared.fault.LineFault.{LineFault}
use Rattle.text_lines.proofs.HexWords.{only_field}
use Rattle.text_lines.proofs.field.read_behind_space.Goals as goal

-- Where a field was read behind a space, it is the only word.
is_only : {B : Type 0} (items : B → List ℕ) (rest field : List ℕ) → rest ≡ 32 ∷ field → 0 < length field → (read : Result (Option B) LineFault)
    → IfOk read (λ spelled. MatchOption spelled (¬ IsHex field) (λ bytes. SpellsBytes field (items bytes)))
    → IfOk read (λ spelled. IfSome spelled (λ bytes. (field : List ℕ) × (words_of rest ≡ field ∷ []) × SpellsBytes field (items bytes)))
is_only items rest field is some (Ok (Some bytes)) spells = (field, ap words_of is ∙ only_field field (items bytes) some spells, spells)
is_only items rest field is some (Ok None) other = tt
is_only items rest field is some (Err fault) failed = tt

pub returns-in-Some-clause-spelled : goal.returns-in-Some-clause-spelled
returns-in-Some-clause-spelled c =
    let behind = c.in-Some.ensures in
    is_only (λ bytes. bytes.items) c.args.rest.now c.in-Some.field.now behind.0 behind.1 c.read_if_hex.result c.read_if_hex.ensures.spelled
