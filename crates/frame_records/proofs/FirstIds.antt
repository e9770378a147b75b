-- The first burst that some TLVs name, one TLV after another.
use Rattle.std.proofs.Common.{◌≡◌, ℕ, ◌<◌, ◌^◌, List, [], ◌∷◌, ◌++◌, inl, inr, Option, Some, None, refl, sym, ap, subst, ◌∙◌, ◌≤◌, length, take, append-nil, append_assoc}
use Rattle.std.specs.Prelude.{IfSome}
use Rattle.std.specs.Option.{option_to_list}
use Rattle.std.specs.Int.{w64, to_be_bytes}
use Rattle.std.proofs.lemmas.List.{take_all, take_at}
use Rattle.byteorder.specs.Numbers.{big_number-reads_back}
use Rattle.capture.specs.Fields.{Field, field_bytes, fields_bytes, last_value}
use Rattle.capture.specs.Numbers.{number_in}
use Rattle.capture.proofs.FieldLists.{same_front, fields_bytes-inj, ended}
use Rattle.frame_records.specs.Recorded.{◌>>=◌}
use Rattle.frame_records.specs.Frames.{address_fields, burst_field, origin_fields, reference_fields}
use Rattle.frame_records.specs.BurstIds.{AreBurstIds, NamesBurst, NamesNone, IsFirstId}
use Rattle.frame_records.specs.declared.origin.FrameOrigin.{FrameOrigin}

-- whatever is the first of these TLVs is the first of those
abbrev pub IsFirstOfAll : List Field → List Field → Type 0
IsFirstOfAll more fields = (found : Option (ℕ × List ℕ)) → IsFirstId more found → IsFirstId fields found

-- these bytes are TLVs, of which the first is the first of all
abbrev pub AreLeft : List Field → List ℕ → Type 0
AreLeft fields rest = (more : List Field) × (rest ≡ fields_bytes more) × IsFirstOfAll more fields

-- TLVs that begin with one are it and those behind it
front_split : (more : List Field) (tlv : Field) (rest after : List ℕ) → rest ≡ fields_bytes more → rest ≡ field_bytes tlv ++ after
    → (behind : List Field) × (more ≡ tlv ∷ behind) × (after ≡ fields_bytes behind)
front_split [] tlv rest after e f = absurd (cc)
front_split (front ∷ behind) tlv rest after e f =
    let same = same_front front tlv (fields_bytes behind) after (sym e ∙ f) in
    (behind, ap (λ one. one ∷ behind) same.0, sym same.1)

-- one that names no burst is passed
pub one_passed : (fields : List Field) (tlv : Field) (rest after : List ℕ) → rest ≡ field_bytes tlv ++ after → NamesNone tlv → AreLeft fields rest
    → AreLeft fields after
one_passed fields tlv rest after f none left =
    let split = front_split left.0 tlv rest after left.1 f in
    (split.0, split.2, λ found first. left.2 found (subst (λ (more : List Field). IsFirstId more found) (sym split.1) (inr (none, first))))

-- one that names a burst is the first
pub one_found : (fields : List Field) (tlv : Field) (id : ℕ) (rest after : List ℕ) → rest ≡ field_bytes tlv ++ after → NamesBurst tlv id
    → AreLeft fields rest → IsFirstId fields (Some (id, after))
one_found fields tlv id rest after f names left =
    let split = front_split left.0 tlv rest after left.1 f in
    let found : Some (id, after) ≡ Some (id, fields_bytes split.0) = ap (λ bytes. Some (id, bytes)) split.2 in
    left.2 (Some (id, after)) (subst (λ (more : List Field). IsFirstId more (Some (id, after))) (sym split.1) (inl (id, names, found)))

-- where no TLV is left, none names a burst
pub none_found : (fields : List Field) (rest : List ℕ) → ((any : Field) (after : List ℕ) → rest ≡ field_bytes any ++ after → ⊥) → AreLeft fields rest
    → IsFirstId fields None
none_found fields rest none left =
    left.2 None (subst (λ (more : List Field). IsFirstId more None) (sym (ended left.0 rest left.1 none)) refl)

-- where a number is the one of each burst that a TLV names, and there is no number, it names none
pub names_none : (tlv : Field) → ((id : ℕ) → NamesBurst tlv id → None ≡ Some id) → NamesNone tlv
names_none tlv only id names = let never : None ≡ Some id = only id names in absurd (cc)

-- a value is the TLVs of one list
pub one_id : (tlv : Field) (parts : List Field) (id : ℕ) → tlv.value ≡ fields_bytes parts → NamesBurst tlv id → (last_value 1 parts >>= number_in 8) ≡ Some id
one_id tlv parts id spelled names =
    ap (λ list. last_value 1 list >>= number_in 8) (fields_bytes-inj parts names.parts (sym spelled ∙ names.spelled)) ∙ names.id_is

-- a number of eight bytes is read back
long_number : (n : ℕ) → n < 2 ^ 64 → number_in 8 (to_be_bytes w64 n) ≡ Some n
long_number n small = ap Some (big_number-reads_back 8 n [] small)

-- a TLV names one burst
one_burst : (tlv : Field) (id other : ℕ) → NamesBurst tlv id → NamesBurst tlv other → id ≡ other
one_burst tlv id other names also =
    let same : Some id ≡ Some other = sym (one_id tlv also.parts id also.spelled names) ∙ also.id_is in
    cc

-- so TLVs name the bursts of one list
pub one_list : (fields : List Field) (ids others : List ℕ) → AreBurstIds fields ids → AreBurstIds fields others → ids ≡ others
one_list [] ids others none also = none ∙ sym also
one_list (field ∷ fields) ids others (inl (id, later, names, is, are)) (inl (other, last, also, is_other, are_others)) =
    let first : id ≡ other = one_burst field id other names also in
    let rest : later ≡ last = one_list fields later last are are_others in
    is ∙ ap (λ front. front ∷ later) first ∙ ap (λ behind. other ∷ behind) rest ∙ sym is_other
one_list (field ∷ fields) ids others (inl (id, later, names, is, are)) (inr (none, are_others)) = absurd (none id names)
one_list (field ∷ fields) ids others (inr (none, are)) (inl (other, last, also, is_other, are_others)) = absurd (none other also)
one_list (field ∷ fields) ids others (inr (none, are)) (inr (also, are_others)) = one_list fields ids others are are_others

-- of all that are named these were given, and the others are named by the TLVs that are left
pub record AreGivenOf (all first tlvs : List ℕ) : Type 0 where
  pub more : List Field
  pub later : List ℕ
  pub left : tlvs ≡ fields_bytes more
  pub named : AreBurstIds more later
  pub all_is : all ≡ first ++ later

-- the first is the first of all
first_given : (fields : List Field) (id : ℕ) (tlvs all : List ℕ) → IsFirstId fields (Some (id, tlvs)) → AreBurstIds fields all → AreGivenOf all (id ∷ []) tlvs
first_given [] id tlvs all first are = absurd (cc)
first_given (field ∷ fields) id tlvs all (inl (other, names, is)) (inl (named, later, also, all_is, are)) =
    let given : ℕ × List ℕ = (id, tlvs) in
    let here : ℕ × List ℕ = (other, fields_bytes fields) in
    let found : given ≡ here = cc in
    let same : named ≡ id = one_burst field named other also names ∙ sym (ap (λ pair. pair.0) found) in
    record {
      more = fields;
      later = later;
      left = ap (λ pair. pair.1) found;
      named = are;
      all_is = all_is ∙ ap (λ front. front ∷ later) same;
    }
first_given (field ∷ fields) id tlvs all (inl (other, names, is)) (inr (none, are)) = absurd (none other names)
first_given (field ∷ fields) id tlvs all (inr (none, first)) (inl (named, later, also, all_is, are)) = absurd (none named also)
first_given (field ∷ fields) id tlvs all (inr (none, first)) (inr (also, are)) = first_given fields id tlvs all first are

-- one more was given
pub more_given : (all first old tlvs : List ℕ) (id : ℕ) → AreGivenOf all first old → ((fields : List Field) → old ≡ fields_bytes fields → IsFirstId fields (Some (id, tlvs)))
    → AreGivenOf all (first ++ id ∷ []) tlvs
more_given all first old tlvs id given next =
    let one = first_given given.more id tlvs given.later (next given.more given.left) given.named in
    record {
      more = one.more;
      later = one.later;
      left = one.left;
      named = one.named;
      all_is = given.all_is ∙ ap (λ behind. first ++ behind) one.all_is ∙ sym (append_assoc first (id ∷ []) one.later);
    }

-- where there is no first one, none is named
pub none_named : (fields : List Field) → IsFirstId fields None → AreBurstIds fields []
none_named [] first = refl
none_named (field ∷ fields) (inl (id, names, is)) = absurd (cc)
none_named (field ∷ fields) (inr (none, first)) = inr (none, none_named fields first)

-- all were given
pub all_given : (all first old : List ℕ) → AreGivenOf all first old → length first ≤ 16 → ((fields : List Field) → old ≡ fields_bytes fields → IsFirstId fields None)
    → first ≡ take 16 all
all_given all first old given few next =
    let none : given.later ≡ [] = one_list given.more given.later [] given.named (none_named given.more (next given.more given.left)) in
    let is : all ≡ first = given.all_is ∙ ap (λ behind. first ++ behind) none ∙ append-nil first in
    sym (ap (take 16) is ∙ take_all 16 first few)

-- or as many as are looked at
pub enough_given : (all first old : List ℕ) → AreGivenOf all first old → length first ≡ 16 → first ≡ take 16 all
enough_given all first old given many = sym (ap (take 16) given.all_is ∙ take_at first given.later 16 many)

-- the first one is followed by those that the TLVs behind it name
pub named_in_turn : (fields : List Field) (id : ℕ) (rest : List ℕ) → IsFirstId fields (Some (id, rest))
    → (more : List Field) × (rest ≡ fields_bytes more) × ((later : List ℕ) → AreBurstIds more later → AreBurstIds fields (id ∷ later))
named_in_turn [] id rest first = absurd (cc)
named_in_turn (field ∷ fields) id rest (inl (other, names, is)) =
    let given : ℕ × List ℕ = (id, rest) in
    let here : ℕ × List ℕ = (other, fields_bytes fields) in
    let found : given ≡ here = cc in
    let same : other ≡ id = sym (ap (λ pair. pair.0) found) in
    (fields, ap (λ pair. pair.1) found, λ later are. inl (id, later, subst (λ (id : ℕ). NamesBurst field id) same names, refl, are))
named_in_turn (field ∷ fields) id rest (inr (none, first)) =
    let found = named_in_turn fields id rest first in
    (found.0, found.1, λ later are. inr (none, found.2 later are))

-- a TLV of another type names none
other_kind : (field : Field) → (field.kind ≡ 14 → ⊥) → NamesNone field
other_kind field other id names = other names.kind

-- that of a burst names it, where it has a number
burst_named : (origin : FrameOrigin) (id : Option ℕ) → origin.burst_id ≡ id → IfSome id (λ id. id < 2 ^ 64)
    → AreBurstIds (burst_field origin ∷ []) (option_to_list id)
burst_named origin None is small =
    inr (
      λ id names.
          let said : None ≡ Some id = sym (ap (λ burst. last_value 1 (reference_fields burst ++ address_fields origin) >>= number_in 8) is) ∙ one_id (burst_field origin) (reference_fields origin.burst_id ++ address_fields origin) id refl names in
          absurd (cc),
      refl,
    )
burst_named origin (Some id) is small =
    inl (
      id,
      [],
      record {
        kind = refl;
        parts = reference_fields origin.burst_id ++ address_fields origin;
        spelled = refl;
        id_is = ap (λ burst. last_value 1 (reference_fields burst ++ address_fields origin) >>= number_in 8) is ∙ long_number id small;
      },
      refl,
      refl,
    )

-- and no other does of those with a frame
pub origin_named : (origin : FrameOrigin) → IfSome origin.burst_id (λ id. id < 2 ^ 64) → AreBurstIds (origin_fields origin) (option_to_list origin.burst_id)
origin_named origin small =
    inr (other_kind _ (λ is. cc), inr (other_kind _ (λ is. cc), burst_named origin origin.burst_id refl small))
