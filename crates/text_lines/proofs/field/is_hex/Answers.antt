use Rattle.std.proofs.Common.{rules, ◌≡◌, ◌≢◌, ◌%◌, inl, inr, true, ℕ, List, codes, length, sym, ◌∙◌}
use Rattle.std.specs.List.{list_all}
use Rattle.std.proofs.lemmas.List.Sums.{AllPass-from_list_all, list_all-from_AllPass}
use Rattle.hex.specs.Hex.{is_hex_digit}
use Rattle.hex.proofs.HexLemmas.{decode_of-digits, decode_of-ok}
use Rattle.text_lines.specs.Field.{SpellsBytes, IsHex}
use Rattle.text_lines.proofs.field.is_hex.Goals as goal

-- digits spell bytes, and nothing else does but for `-`
digits_spell : (field : List ℕ) → length field % 2 ≡ 0 → list_all is_hex_digit field ≡ true → IsHex field
digits_spell field even all = let found = decode_of-digits field even (AllPass-from_list_all is_hex_digit field all) in (found.0, inr found.1)

are_digits : (field bytes : List ℕ) → field ≢ codes "-" → SpellsBytes field bytes → list_all is_hex_digit field ≡ true
are_digits field bytes other (inl dash) = absurd (other dash.0)
are_digits field bytes other (inr spelled) = list_all-from_AllPass is_hex_digit field (decode_of-ok field bytes spelled).1

pub returns-then-field-eq0 : goal.returns-then-field-eq0
returns-then-field-eq0 c =
    let field = c.args.field.now in
    let other : field ≢ codes "-" = search rules in
    let same = c.are_digits.ensures in
    (λ all. digits_spell field c.if-field-eq0.true (sym same ∙ all), λ hex. same ∙ are_digits field hex.0 other hex.1)
