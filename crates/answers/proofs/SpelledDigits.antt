-- Digits that are only looked at spell bytes.
use Rattle.std.proofs.Common.{◌≡◌, ℕ, ◌*◌, ◌%◌, inr, List, length}
use Rattle.std.specs.List.{AllPass}
use Rattle.hex.specs.Hex.{is_hex_digit}
use Rattle.hex.proofs.HexLemmas.{decode_of-digits, decode_of-ok}
use Rattle.text_lines.specs.Field.{SpellsBytes}
use Rattle.answers.specs.Bytes.{AreBytes}
use Rattle.answers.proofs.ReadTraces.{spelled-bytes}

-- an even number of digits spells half as many bytes
pub digits_spell : (field : List ℕ) → length field % 2 ≡ 0 → AllPass is_hex_digit field
    → (bytes : List ℕ) × SpellsBytes field bytes × (length field ≡ 2 * length bytes) × AreBytes bytes
digits_spell field even digits =
    let found = decode_of-digits field even digits in
    let spells : SpellsBytes field found.0 = inr found.1 in
    (found.0, spells, (decode_of-ok field found.0 found.1).2, spelled-bytes field found.0 spells)
