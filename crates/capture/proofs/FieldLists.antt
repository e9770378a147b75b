-- What bytes say of the list of their TLVs.
use Rattle.std.proofs.Common.{◌≡◌, ℕ, List, [], ◌∷◌, ◌++◌, length, take, drop, refl, sym, ap, ◌∙◌, append_assoc}
use Rattle.std.proofs.lemmas.List.{take_at, drop_at, append-nil}
use Rattle.std.proofs.lemmas.List.Concat.{flat_map-append}
use Rattle.capture.specs.Fields.{Field, field_bytes, fields_bytes}

-- two texts whose fronts have one length have one front and one rest
pub same_parts : (a b x y : List ℕ) → length a ≡ length b → a ++ x ≡ b ++ y → (a ≡ b) × (x ≡ y)
same_parts a b x y size e = (
  sym (take_at a x (length b) size) ∙ ap (take (length b)) e ∙ take_at b y (length b) refl,
  sym (drop_at a x (length b) size) ∙ ap (drop (length b)) e ∙ drop_at b y (length b) refl,
)

-- a TLV of a type and a value
field_with : ℕ → List ℕ → Field
field_with kind value = record { kind = kind; value = value }

-- a TLV is its type and its value
same_field : (a b : Field) → a.kind ≡ b.kind → a.value ≡ b.value → a ≡ b
unfolding field_with
same_field a b kind value = ap (λ k. field_with k a.value) kind ∙ ap (λ v. field_with b.kind v) value

-- bytes begin with one TLV only
pub same_front : (a b : Field) (x y : List ℕ) → field_bytes a ++ x ≡ field_bytes b ++ y → (a ≡ b) × (x ≡ y)
same_front a b x y e =
    let kind : a.kind ≡ b.kind = cc in
    let size : length a.value ≡ length b.value = cc in
    let rest : a.value ++ x ≡ b.value ++ y = cc in
    let parts = same_parts a.value b.value x y size rest in
    (same_field a b kind parts.0, parts.1)

-- TLVs whose bytes begin with those of some TLVs begin with these
pub split_off : (front fields : List Field) (rest : List ℕ) → fields_bytes fields ≡ fields_bytes front ++ rest
    → (more : List Field) × (fields ≡ front ++ more) × (rest ≡ fields_bytes more)
split_off [] fields rest e = (fields, refl, sym e)
split_off (field ∷ front) [] rest e = absurd (cc)
split_off (field ∷ front) (other ∷ fields) rest e =
    let same = same_front other field (fields_bytes fields) (fields_bytes front ++ rest) (e ∙ append_assoc (field_bytes field) (fields_bytes front) rest) in
    let found = split_off front fields rest same.1 in
    (found.0, ap (λ f. f ∷ fields) same.0 ∙ ap (λ fs. field ∷ fs) found.1, found.2)

-- one TLV more
pub fields_bytes-push : (front : List Field) (field : Field) → fields_bytes (front ++ field ∷ []) ≡ fields_bytes front ++ field_bytes field
fields_bytes-push front field = flat_map-append field_bytes front (field ∷ []) ∙ ap (λ t. fields_bytes front ++ t) (append-nil (field_bytes field))

-- one TLV more has been passed
pub passed : (bytes rest after : List ℕ) (front : List Field) (field : Field) → bytes ≡ fields_bytes front ++ rest → rest ≡ field_bytes field ++ after
    → bytes ≡ fields_bytes (front ++ field ∷ []) ++ after
passed bytes rest after front field e f =
    e ∙ ap (λ t. fields_bytes front ++ t) f ∙ sym (append_assoc (fields_bytes front) (field_bytes field) after)
    ∙ ap (λ t. t ++ after) (sym (fields_bytes-push front field))

-- where no TLV stands at the front, TLVs end
pub ended : (more : List Field) (rest : List ℕ) → rest ≡ fields_bytes more → ((any : Field) (after : List ℕ) → rest ≡ field_bytes any ++ after → ⊥) → more ≡ []
ended [] rest e none = refl
ended (field ∷ more) rest e none = absurd (none field (fields_bytes more) e)

-- so no TLV was left behind
pub all_passed : (fields front : List Field) (bytes rest : List ℕ) → bytes ≡ fields_bytes fields → bytes ≡ fields_bytes front ++ rest
    → ((any : Field) (after : List ℕ) → rest ≡ field_bytes any ++ after → ⊥) → (fields ≡ front) × (rest ≡ [])
all_passed fields front bytes rest e f none =
    let found = split_off front fields rest (sym e ∙ f) in
    let nothing = ended found.0 rest found.2 none in
    (found.1 ∙ ap (λ t. front ++ t) nothing ∙ append-nil front, found.2 ∙ ap fields_bytes nothing)

-- TLVs are known by their bytes
pub fields_bytes-inj : (fields others : List Field) → fields_bytes fields ≡ fields_bytes others → fields ≡ others
fields_bytes-inj [] [] e = refl
fields_bytes-inj [] (other ∷ others) e = absurd (cc)
fields_bytes-inj (field ∷ fields) [] e = absurd (cc)
fields_bytes-inj (field ∷ fields) (other ∷ others) e =
    let same = same_front field other (fields_bytes fields) (fields_bytes others) e in
    ap (λ f. f ∷ fields) same.0 ∙ ap (λ fs. other ∷ fs) (fields_bytes-inj fields others same.1)
