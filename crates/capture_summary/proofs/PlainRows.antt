-- Fields that need no quotes, and the lines that a writer of CSV makes of them.
use Rattle.std.proofs.Common.{◌≡◌, ℕ, ◌+◌, ◌^◌, ◌<◌, List, [], ◌∷◌, ◌++◌, drop, ◌/◌, ◌%◌, refl, sym, ap, ◌∙◌, arith, append_assoc, append-nil}
use Rattle.std.specs.Prelude.{false, codes}
use Rattle.std.specs.List.{list_any}
use Rattle.std.specs.Fmt.{decimal}
use Rattle.std.specs.Char.{digit_value}
use Rattle.std.specs.Str.Parse.{AllDigits}
use Rattle.std.proofs.lemmas.Bool.{ne_eqb}
use Rattle.std.proofs.lemmas.Fmt.{decimal_is_IsNumeral}
use Rattle.std.proofs.lemmas.Str.Parse.{digit_from_value}
use Rattle.std.proofs.lemmas.List.Folds.{list_any-append}
use Rattle.csv.specs.Writing.{default_writer, field_text, fields_text, is_blank, needs_quotes, needs_byte, row_text}
use Rattle.capture_summary.specs.Requests.{field_text as number_text, names_line, IsNumberField}
use Rattle.text_lines.specs.Putting.{second, seconds_text}

-- no byte of the field calls for quotes
abbrev pub IsPlain : List ℕ → Type 0
IsPlain field = needs_quotes default_writer field ≡ false

plain-digit : (digit : ℕ) → digit_value digit < 10 → needs_byte default_writer digit ≡ false
plain-digit digit is =
    let within = digit_from_value digit is in
    rw (
      ne_eqb digit 44 (λ e. omega (arith, within)),
      ne_eqb digit 34 (λ e. omega (arith, within)),
      ne_eqb digit 13 (λ e. omega (arith, within)),
      ne_eqb digit 10 (λ e. omega (arith, within)),
    ) refl

plain-digits : (digits : List ℕ) → AllDigits 10 digits → IsPlain digits
plain-digits [] all = refl
plain-digits (digit ∷ digits) all = rw (plain-digit digit all.0, plain-digits digits all.1) refl

all_digits-drop : (digits : List ℕ) → AllDigits 10 digits → AllDigits 10 (drop 1 digits)
all_digits-drop [] all = all
all_digits-drop (digit ∷ digits) all = all.1

pub IsPlain-decimal : (number : ℕ) → number < 2 ^ 64 → IsPlain (decimal number)
IsPlain-decimal number within = plain-digits (decimal number) (decimal_is_IsNumeral number within).0.1

plain-append : (front rest : List ℕ) → IsPlain front → IsPlain rest → IsPlain (front ++ rest)
plain-append front rest a b = rw (list_any-append (needs_byte default_writer) front rest, a, b) refl

IsPlain-seconds : (nanoseconds : ℕ) → nanoseconds < 2 ^ 64 → IsPlain (seconds_text nanoseconds)
IsPlain-seconds nanoseconds within =
    let fraction = decimal_is_IsNumeral (second + nanoseconds % second) (omega arith) in
    plain-append (decimal (nanoseconds / second) ++ codes ".") (drop 1 (decimal (second + nanoseconds % second)))
    (plain-append (decimal (nanoseconds / second)) (codes ".") (IsPlain-decimal (nanoseconds / second) (omega arith)) refl)
    (plain-digits (drop 1 (decimal (second + nanoseconds % second))) (all_digits-drop (decimal (second + nanoseconds % second)) fraction.0.1))

field-plain : (field : List ℕ) → IsPlain field → field_text default_writer field ≡ field
field-plain field plain = rw plain refl

-- six lists, one behind another
append-six : (a b c d e f : List ℕ) → a ++ (b ++ (c ++ (d ++ (e ++ (f ++ []))))) ≡ a ++ b ++ c ++ d ++ e ++ f
append-six a b c d e f =
    sym (append_assoc a b (c ++ (d ++ (e ++ (f ++ [])))))
    ∙ sym (append_assoc (a ++ b) c (d ++ (e ++ (f ++ []))))
    ∙ sym (append_assoc (a ++ b ++ c) d (e ++ (f ++ [])))
    ∙ sym (append_assoc (a ++ b ++ c ++ d) e (f ++ []))
    ∙ ap (λ last. a ++ b ++ c ++ d ++ e ++ last) (append-nil f)

-- a line of six of them is these with commas between them
row-plain : (a b c d e f : List ℕ) → IsPlain a → IsPlain b → IsPlain c → IsPlain d → IsPlain e → IsPlain f
    → row_text default_writer (a ∷ b ∷ c ∷ d ∷ e ∷ f ∷ [])
    ≡ a ++ (codes "," ++ b) ++ (codes "," ++ c) ++ (codes "," ++ d) ++ (codes "," ++ e) ++ (codes "," ++ f) ++ 10 ∷ []
unfolding fields_text is_blank
row-plain a b c d e f pa pb pc pd pe pf =
    rw (field-plain a pa, field-plain b pb, field-plain c pc, field-plain d pd, field-plain e pe, field-plain f pf)
    (ap (λ front. front ++ 10 ∷ []) (append-six a (codes "," ++ b) (codes "," ++ c) (codes "," ++ d) (codes "," ++ e) (codes "," ++ f)))

-- so the line of names is
pub names-row : row_text default_writer (codes "time" ∷ codes "channel" ∷ codes "sid" ∷ codes "flow" ∷ codes "cluster" ∷ codes "units" ∷ []) ≡ names_line
names-row = row-plain (codes "time") (codes "channel") (codes "sid") (codes "flow") (codes "cluster") (codes "units") refl refl refl refl refl refl

-- and the line of a time and five numbers
pub numbers-row : (nanoseconds : ℕ) (b c d e f : ℕ) (time one two three four five : List ℕ) → nanoseconds < 2 ^ 64 → time ≡ seconds_text nanoseconds
    → IsNumberField b one → IsNumberField c two → IsNumberField d three → IsNumberField e four → IsNumberField f five
    → row_text default_writer (time ∷ one ∷ two ∷ three ∷ four ∷ five ∷ [])
    ≡ seconds_text nanoseconds ++ number_text b ++ number_text c ++ number_text d ++ number_text e ++ number_text f ++ 10 ∷ []
numbers-row nanoseconds b c d e f time one two three four five within is of_b of_c of_d of_e of_f =
    rw (is, of_b.digits, of_c.digits, of_d.digits, of_e.digits, of_f.digits)
    (row-plain (seconds_text nanoseconds) (decimal b) (decimal c) (decimal d) (decimal e) (decimal f) (IsPlain-seconds nanoseconds within)
    (rw of_b.digits at of_b.plain) (rw of_c.digits at of_c.plain) (rw of_d.digits at of_d.plain) (rw of_e.digits at of_e.plain) (rw of_f.digits at of_f.plain))
