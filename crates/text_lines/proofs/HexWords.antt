-- A hexadecimal field behind a space is one word.
use Rattle.std.proofs.Common.{◌≡◌, ℕ, ◌<◌, inl, inr, true, false, List, [], ◌∷◌, length, get_or, refl, sym, subst}
use Rattle.std.specs.Prelude.{All}
use Rattle.std.proofs.lemmas.Bool.{ne_eqb, cases_eq}
use Rattle.std.proofs.lemmas.List.Elements.{All-nil, All-cons}
use Rattle.hex.specs.Hex.{is_hex_digit}
use Rattle.hex.proofs.HexLemmas.{decode_of-ok}
use Rattle.text_lines.specs.Field.{SpellsBytes}
use Rattle.text_lines.specs.Lines.{words_of, is_separator}
use Rattle.text_lines.proofs.WordsOfLines.{words_of-one}

-- a byte ends no word
abbrev stays : ℕ → Type 0
stays byte = is_separator byte ≡ false

-- no digit does
digit_stays : (byte : ℕ) → is_hex_digit byte ≡ true → stays byte
digit_stays byte is =
    elim (cases_eq byte 32) [
      | inl at ↦ let bad : is_hex_digit 32 ≡ true = rw at at is in absurd (cc bad)
      | inr other ↦ elim (cases_eq byte 9) [
        | inl at ↦ let bad : is_hex_digit 9 ≡ true = rw at at is in absurd (cc bad)
        | inr more ↦ elim (cases_eq byte 13) [
          | inl at ↦ let bad : is_hex_digit 13 ≡ true = rw at at is in absurd (cc bad)
          | inr last ↦ rw (ne_eqb byte 32 other, ne_eqb byte 9 more, ne_eqb byte 13 last) refl
        ]
      ]
    ]

-- nor does one of a field that spells bytes
field_stays : (field bytes : List ℕ) → SpellsBytes field bytes → All stays field
field_stays field bytes (inl dash) = subst (λ field. All stays field) (sym dash.0) (All-cons stays 45 [] refl (All-nil stays))
field_stays field bytes (inr spelled) = λ k d within. digit_stays (get_or field k d) ((decode_of-ok field bytes spelled).1 k d within)

-- so behind a space it is the only word
pub only_field : (field bytes : List ℕ) → 0 < length field → SpellsBytes field bytes → words_of (32 ∷ field) ≡ field ∷ []
only_field field bytes some spells = words_of-one field some (field_stays field bytes spells)
