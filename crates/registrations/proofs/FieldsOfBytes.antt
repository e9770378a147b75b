-- The TLVs that bytes are by the function are those of which they are the bytes.
use Rattle.std.proofs.Common.{◌≡◌, ℕ, zero, suc, ◌≤◌, List, [], ◌∷◌, ◌++◌, Bool, true, false, cond, leb, Option, Some, None, length, take, drop, refl, sym, ap, ◌∙◌, arith, length-append, take-append-drop}
use Rattle.std.proofs.lemmas.Bool.{le-leb, leb-true, cond-true}
use Rattle.std.proofs.lemmas.List.{take_at, drop_at, length-take-le}
use Rattle.capture.specs.Fields.{Field, field_bytes, fields_bytes}
use Rattle.registrations.specs.Values.{front_field, fields_within, fields_of, ◌>>=◌}

-- a TLV of a type and a value
field_with : ℕ → List ℕ → Field
field_with kind value = record { kind = kind; value = value }

-- the TLV at the front is found
front_field-spelled : (field : Field) (rest : List ℕ) → front_field (field_bytes field ++ rest) ≡ Some (field, rest)
unfolding field_with
front_field-spelled field rest =
    let size : length field.value ≤ length (field.value ++ rest) = omega (arith, length-append field.value rest) in
    cond-true (leb (length field.value) (length (field.value ++ rest))) (Some (field_with field.kind (take (length field.value) (field.value ++ rest)), drop (length field.value) (field.value ++ rest))) None (le-leb _ _ size)
    ∙ ap (λ value. Some (field_with field.kind value, drop (length field.value) (field.value ++ rest))) (take_at field.value rest (length field.value) refl)
    ∙ ap (λ after. Some (field, after)) (drop_at field.value rest (length field.value) refl)

-- so are all, where they are at most so many
fields_within-spelled : (most : ℕ) (fields : List Field) → length fields ≤ most → fields_within most (fields_bytes fields) ≡ Some fields
fields_within-spelled most [] few = refl
fields_within-spelled zero (field ∷ fields) few = absurd (omega (arith, few))
fields_within-spelled (suc most) (field ∷ fields) few =
    ap (λ front. front >>= (λ f. fields_within most f.1 >>= (λ fs. Some (f.0 ∷ fs)))) (front_field-spelled field (fields_bytes fields))
    ∙ ap (λ found. found >>= (λ fs. Some (field ∷ fs))) (fields_within-spelled most fields (omega (arith, few)))

-- there are at most as many TLVs as bytes
few_fields : (fields : List Field) → length fields ≤ length (fields_bytes fields)
few_fields [] = omega arith
few_fields (field ∷ fields) = omega (arith, few_fields fields, length-append field.value (fields_bytes fields))

-- the bytes of some TLVs are these TLVs
pub fields_of-spelled : (fields : List Field) → fields_of (fields_bytes fields) ≡ Some fields
fields_of-spelled fields = fields_within-spelled (length (fields_bytes fields)) fields (few_fields fields)

pub fields_of-bytes : (bytes : List ℕ) (fields : List Field) → bytes ≡ fields_bytes fields → fields_of bytes ≡ Some fields
fields_of-bytes bytes fields e = ap fields_of e ∙ fields_of-spelled fields

-- what a test gave is what it gives where it holds
chosen : (b : Bool) (x found : Field × List ℕ) → cond b (Some x) None ≡ Some found → (b ≡ true) × (x ≡ found)
chosen true x found e = (refl, cc)
chosen false x found e = absurd (cc)

-- the TLV that is found stands at the front
front_field-found : (bytes : List ℕ) (found : Field × List ℕ) → front_field bytes ≡ Some found → bytes ≡ field_bytes found.0 ++ found.1
unfolding field_with
front_field-found [] found e = absurd (cc)
front_field-found (kind ∷ []) found e = absurd (cc)
front_field-found (kind ∷ size ∷ rest) found e =
    let test = chosen (leb size (length rest)) (field_with kind (take size rest), drop size rest) found e in
    let long : length (take size rest) ≡ size = length-take-le size rest (leb-true size (length rest) test.0) in
    let whole : kind ∷ size ∷ rest ≡ kind ∷ length (take size rest) ∷ take size rest ++ drop size rest =
    ap (λ r. kind ∷ size ∷ r) (sym (take-append-drop size rest)) ∙ ap (λ n. kind ∷ n ∷ take size rest ++ drop size rest) (sym long) in
    whole ∙ ap (λ f. field_bytes f.0 ++ f.1) test.1

-- with the TLVs behind it
more_found : (bytes rest : List ℕ) (field : Field) (behind : Option (List Field)) (fields : List Field) → bytes ≡ field_bytes field ++ rest
    → ((more : List Field) → behind ≡ Some more → rest ≡ fields_bytes more) → (behind >>= (λ more. Some (field ∷ more))) ≡ Some fields → bytes ≡ fields_bytes fields
more_found bytes rest field None fields e f g = absurd (cc)
more_found bytes rest field (Some more) fields e f g =
    let same : field ∷ more ≡ fields = cc in
    e ∙ ap (λ r. field_bytes field ++ r) (f more refl) ∙ ap fields_bytes same

all_found : (most : ℕ) (bytes : List ℕ) (front : Option (Field × List ℕ)) (fields : List Field)
    → ((found : Field × List ℕ) → front ≡ Some found → bytes ≡ field_bytes found.0 ++ found.1)
    → ((rest : List ℕ) (more : List Field) → fields_within most rest ≡ Some more → rest ≡ fields_bytes more)
    → (front >>= (λ f. fields_within most f.1 >>= (λ more. Some (f.0 ∷ more)))) ≡ Some fields → bytes ≡ fields_bytes fields
all_found most bytes None fields e f g = absurd (cc)
all_found most bytes (Some found) fields e f g =
    more_found bytes found.1 found.0 (fields_within most found.1) fields (e found refl) (f found.1) g

fields_within-found : (most : ℕ) (bytes : List ℕ) (fields : List Field) → fields_within most bytes ≡ Some fields → bytes ≡ fields_bytes fields
fields_within-found most [] fields e =
    let none : [] ≡ fields = cc in
    ap fields_bytes none
fields_within-found zero (byte ∷ bytes) fields e = absurd (cc)
fields_within-found (suc most) (byte ∷ bytes) fields e =
    all_found most (byte ∷ bytes) (front_field (byte ∷ bytes)) fields (front_field-found (byte ∷ bytes)) (fields_within-found most) e

-- bytes are the TLVs that are found in them
pub fields_of-found : (bytes : List ℕ) (fields : List Field) → fields_of bytes ≡ Some fields → bytes ≡ fields_bytes fields
fields_of-found bytes fields = fields_within-found (length bytes) bytes fields

-- and bytes that are no TLVs have none
nothing_found : (found : Option (List Field)) → ((fields : List Field) → found ≡ Some fields → ⊥) → found ≡ None
nothing_found None none = refl
nothing_found (Some fields) none = absurd (none fields refl)

pub fields_of-none : (bytes : List ℕ) → ((fields : List Field) → bytes ≡ fields_bytes fields → ⊥) → fields_of bytes ≡ None
fields_of-none bytes none = nothing_found (fields_of bytes) (λ fields e. none fields (fields_of-found bytes fields e))
