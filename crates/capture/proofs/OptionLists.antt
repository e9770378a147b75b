-- What bytes say of the list of their options.
use Rattle.std.proofs.Common.{◌≡◌, ℕ, ◌-◌, ◌%◌, inl, inr, ◌⊎◌, List, [], ◌∷◌, ◌++◌, length, Bool, true, false, cond, ◌==◌, Option, Some, None, option_map, find, refl, sym, ap, ◌∙◌, arith, append_assoc, length-append}
use Rattle.std.specs.List.{AllByRecursion}
use Rattle.std.proofs.lemmas.List.{append-nil}
use Rattle.std.proofs.lemmas.List.Concat.{flat_map-append}
use Rattle.std.specs.Int.{w16}
use Rattle.capture.specs.declared.endian.Endian.{Endian}
use Rattle.capture.specs.declared.pcapng.TimeUnit.{TimeUnit}
use Rattle.capture.specs.Endian.{number_bytes}
use Rattle.capture.specs.PcapngOptions.{OptionParts, option_bytes, options_bytes, IsOption, IsOrdinary, EndsOptions, SpellsOptions, first_value, unit_from, SaysUnit}
use Rattle.capture.specs.Inside.BlockStages.{first_or}
use Rattle.capture.proofs.FieldLists.{same_parts}
use Rattle.capture.proofs.PcapBytes.{length-number_2}
use Rattle.capture.proofs.OneReading.{front_2}

-- an option of a type, a value and its padding
option_with : ℕ → List ℕ → List ℕ → OptionParts
option_with code value padding = record { code = code; value = value; padding = padding }

-- an option is known by its fields
same_option : (a b : OptionParts) → a.code ≡ b.code → a.value ≡ b.value → a.padding ≡ b.padding → a ≡ b
unfolding option_with
same_option a b code value padding =
    ap (λ t. option_with t a.value a.padding) code ∙ ap (λ t. option_with b.code t a.padding) value ∙ ap (λ t. option_with b.code b.value t) padding

-- bytes begin with one option only
pub front_option : (e : Endian) (a b : OptionParts) (x y : List ℕ) → IsOption a → IsOption b → option_bytes e a ++ x ≡ option_bytes e b ++ y → (a ≡ b) × (x ≡ y)
front_option e a b x y p q same =
    let code = front_2 e a.code b.code _ _ p.code q.code (simp append_assoc at same) in
    let size = front_2 e (length a.value) (length b.value) _ _ p.size q.size code.1 in
    let value = same_parts a.value b.value (a.padding ++ x) (b.padding ++ y) size.0 size.1 in
    let pads : length a.padding ≡ length b.padding = p.padded ∙ ap (λ n. (4 - n % 4) % 4) size.0 ∙ sym q.padded in
    let padding = same_parts a.padding b.padding x y pads value.1 in
    (same_option a b code.0 value.0 padding.0, padding.1)

-- an option has four bytes at least
length-option_bytes : (e : Endian) (one : OptionParts) (more : List ℕ) → [] ≡ option_bytes e one ++ more → ⊥
length-option_bytes e one more same =
    omega (
      arith,
      ap length same,
      length-append (option_bytes e one) more,
      length-append (number_bytes e w16 one.code ++ number_bytes e w16 (length one.value) ++ one.value) one.padding,
      length-append (number_bytes e w16 one.code ++ number_bytes e w16 (length one.value)) one.value,
      length-append (number_bytes e w16 one.code) (number_bytes e w16 (length one.value)),
      length-number_2 e one.code,
    )

-- where options end none begins that isn't of type 0
no_more : (e : Endian) (one : OptionParts) (more after : List ℕ) → IsOrdinary one → (after ≡ []) ⊎ EndsOptions e after → after ≡ option_bytes e one ++ more → ⊥
no_more e one more after p (inl nil) same = length-option_bytes e one more (sym nil ∙ same)
no_more e one more after p (inr ends) same =
    p.ordinary (ap (λ o. o.code) (front_option e one ends.last more ends.more p.is_option ends.is_option (sym same ∙ ends.spelled)).0 ∙ ends.ends)

-- options whose bytes begin with those of some options begin with these
beginning_of : (e : Endian) (front options : List OptionParts) (rest after : List ℕ) → AllByRecursion IsOrdinary front → AllByRecursion IsOrdinary options
    → (after ≡ []) ⊎ EndsOptions e after → options_bytes e options ++ after ≡ options_bytes e front ++ rest
    → (more : List OptionParts) × (options ≡ front ++ more) × AllByRecursion IsOrdinary more × (options_bytes e more ++ after ≡ rest)
beginning_of e [] options rest after p q ended same = (options, refl, q, same)
beginning_of e (one ∷ front) [] rest after p q ended same =
    absurd (no_more e one (options_bytes e front ++ rest) after p.0 ended (same ∙ append_assoc (option_bytes e one) (options_bytes e front) rest))
beginning_of e (one ∷ front) (other ∷ options) rest after p q ended same =
    let fronts = front_option e other one (options_bytes e options ++ after) (options_bytes e front ++ rest) q.0.is_option p.0.is_option
    (sym (append_assoc (option_bytes e other) (options_bytes e options) after) ∙ same ∙ append_assoc (option_bytes e one) (options_bytes e front) rest) in
    let found = beginning_of e front options rest after p.1 q.1 ended fronts.1 in
    (found.0, ap (λ o. o ∷ options) fronts.0 ∙ ap (λ os. one ∷ os) found.1, found.2, found.3)

-- and where options end there are none left
none_left : (e : Endian) (more : List OptionParts) (after rest : List ℕ) → AllByRecursion IsOrdinary more → (rest ≡ []) ⊎ EndsOptions e rest
    → options_bytes e more ++ after ≡ rest → more ≡ []
none_left e [] after rest p ended same = refl
none_left e (one ∷ more) after rest p ended same =
    absurd (no_more e one (options_bytes e more ++ after) rest p.0 ended (sym same ∙ append_assoc (option_bytes e one) (options_bytes e more) after))

-- bytes are the options of one list only
pub same_options : (e : Endian) (bytes : List ℕ) (options others : List OptionParts) → SpellsOptions e bytes options → SpellsOptions e bytes others → options ≡ others
same_options e bytes options others a b =
    let found = beginning_of e others options b.after a.after b.each a.each a.ended (sym a.spelled ∙ b.spelled) in
    found.1 ∙ ap (λ m. others ++ m) (none_left e found.0 a.after b.after found.2 b.ended found.3) ∙ append-nil others

-- bytes that aren't at an end, and begin with no option
nothing_at : (e : Endian) (more : List OptionParts) (after rest : List ℕ) → AllByRecursion IsOrdinary more → (after ≡ []) ⊎ EndsOptions e after
    → options_bytes e more ++ after ≡ rest → (rest ≡ [] → ⊥) → ((parts : OptionParts) (behind : List ℕ) → IsOption parts → rest ≡ option_bytes e parts ++ behind → ⊥) → ⊥
nothing_at e [] after rest p (inl nil) same some none = some (sym same ∙ nil)
nothing_at e [] after rest p (inr ends) same some none = none ends.last ends.more ends.is_option (sym same ∙ ends.spelled)
nothing_at e (one ∷ more) after rest p ended same some none =
    none one (options_bytes e more ++ after) p.0.is_option (sym same ∙ append_assoc (option_bytes e one) (options_bytes e more) after)

-- so bytes where an option is missing are the options of no list
pub not_spelled : (e : Endian) (bytes rest : List ℕ) (front : List OptionParts) → AllByRecursion IsOrdinary front → bytes ≡ options_bytes e front ++ rest
    → (rest ≡ [] → ⊥) → ((parts : OptionParts) (behind : List ℕ) → IsOption parts → rest ≡ option_bytes e parts ++ behind → ⊥)
    → (options : List OptionParts) → SpellsOptions e bytes options → ⊥
not_spelled e bytes rest front each spelled some none options s =
    let found = beginning_of e front options rest s.after each s.each s.ended (sym s.spelled ∙ spelled) in
    nothing_at e found.0 s.after rest found.2 s.ended found.3 some none

-- one option more has been passed
pub options_passed : (e : Endian) (bytes rest after : List ℕ) (front : List OptionParts) (one : OptionParts) → bytes ≡ options_bytes e front ++ rest
    → rest ≡ option_bytes e one ++ after → bytes ≡ options_bytes e (front ++ one ∷ []) ++ after
options_passed e bytes rest after front one spelled next =
    spelled ∙ ap (λ t. options_bytes e front ++ t) next ∙ sym (append_assoc (options_bytes e front) (option_bytes e one) after)
    ∙ ap (λ t. t ++ after)
    (sym (flat_map-append (option_bytes e) front (one ∷ []) ∙ ap (λ t. options_bytes e front ++ t) (append-nil (option_bytes e one))))

-- the value of what a test chose
chosen : (b : Bool) (one : OptionParts) → option_map (λ parts. parts.value) (cond b (Some one) None) ≡ cond b (Some one.value) None
chosen true one = refl
chosen false one = refl

-- with another option before
further : (b : Bool) (x one : OptionParts) (f g : Option OptionParts)
    → option_map (λ parts. parts.value) f ≡ first_or (option_map (λ parts. parts.value) g) one.code one.value
    → option_map (λ parts. parts.value) (cond b (Some x) f) ≡ first_or (option_map (λ parts. parts.value) (cond b (Some x) g)) one.code one.value
further true x one f g same = refl
further false x one f g same = same

-- the first value, with an option more
pub first_value-push : (front : List OptionParts) (one : OptionParts) → first_value 9 (front ++ one ∷ []) ≡ first_or (first_value 9 front) one.code one.value
first_value-push [] one = chosen (one.code == 9) one
first_value-push (x ∷ front) one =
    further (x.code == 9) x one (find (λ parts. parts.code == 9) (front ++ one ∷ [])) (find (λ parts. parts.code == 9) front) (first_value-push front one)

-- a unit has one byte
one_byte : (value : List ℕ) (unit : TimeUnit) → unit_from (Some value) ≡ Some unit → length value ≡ 1
one_byte [] unit same = absurd (cc)
one_byte (byte ∷ []) unit same = refl
one_byte (byte ∷ other ∷ more) unit same = absurd (cc)

-- where the first value hasn't one byte no unit is said
pub no_unit : (e : Endian) (bytes : List ℕ) (options : List OptionParts) (value : List ℕ) (unit : TimeUnit) → SpellsOptions e bytes options
    → Some value ≡ first_value 9 options → SaysUnit e bytes unit → length value ≡ 1
no_unit e bytes options value unit spelled first says =
    one_byte value unit
    (ap unit_from (first ∙ ap (first_value 9) (same_options e bytes options says.options spelled says.spelled)) ∙ says.unit_is)
