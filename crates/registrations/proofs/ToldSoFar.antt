-- What TLVs told while they are taken one after another.
use Rattle.std.proofs.Common.{◌≡◌, ◌≢◌, ℕ, List, [], ◌∷◌, ◌++◌, Option, Some, None, refl, sym, ap, ◌∙◌, append_assoc}
use Rattle.std.proofs.lemmas.List.{append-nil}
use Rattle.capture.specs.Fields.{Field, field_bytes, fields_bytes}
use Rattle.capture.proofs.FieldLists.{passed, split_off, all_passed}
use Rattle.registrations.specs.declared.told.Told.{Told}
use Rattle.registrations.specs.declared.told.ToldFault.{ToldFault}
use Rattle.registrations.specs.declared.told.ToldFault.TheVariants.{Malformed, OutOfMemory}
use Rattle.registrations.specs.Values.{◌>>=◌, fields_of}
use Rattle.registrations.specs.Told.{both, told_of, told_in, Refuses, IsTold}
use Rattle.registrations.proofs.FieldsOfBytes.{fields_of-bytes, fields_of-found, fields_of-none}

-- these TLVs have been taken, this is left, and what they tell has been appended
pub record ToldSoFar (each : Field → Option (List Told)) (tlvs rest : List ℕ) (before now : List Told) : Type 0 where
  pub front : List Field
  pub passed_by : tlvs ≡ fields_bytes front ++ rest
  pub said : List Told
  pub told_is : told_of each front ≡ Some said
  pub appended : now ≡ before ++ said

-- nothing before is nothing more
both-nothing : (told : Option (List Told)) → both (Some []) told ≡ told
both-nothing (Some said) = refl
both-nothing None = refl

-- one after another, however they are grouped
both_assoc : (a b c : Option (List Told)) → both a (both b c) ≡ both (both a b) c
both_assoc None b c = refl
both_assoc (Some a) None c = refl
both_assoc (Some a) (Some b) None = refl
both_assoc (Some a) (Some b) (Some c) = ap Some (sym (append_assoc a b c))

-- what two lists of TLVs tell
told_of-append : (each : Field → Option (List Told)) (front back : List Field) → told_of each (front ++ back) ≡ both (told_of each front) (told_of each back)
told_of-append each [] back = sym (both-nothing (told_of each back))
told_of-append each (field ∷ front) back =
    ap (both (each field)) (told_of-append each front back) ∙ both_assoc (each field) (told_of each front) (told_of each back)

-- what one TLV tells
both-one : (told : Option (List Told)) → both told (Some []) ≡ told
both-one (Some said) = ap Some (append-nil said)
both-one None = refl

told_of-push : (each : Field → Option (List Told)) (front : List Field) (field : Field) → told_of each (front ++ field ∷ []) ≡ both (told_of each front) (each field)
told_of-push each front field = told_of-append each front (field ∷ []) ∙ ap (both (told_of each front)) (both-one (each field))

-- where nothing has been taken
pub ToldSoFar-none : (each : Field → Option (List Told)) (tlvs : List ℕ) (told : List Told) → ToldSoFar each tlvs tlvs told told
ToldSoFar-none each tlvs told = record { front = []; passed_by = refl; said = []; told_is = refl; appended = sym (append-nil told) }

-- one TLV more
pub ToldSoFar-more : (each : Field → Option (List Told)) (tlvs rest after : List ℕ) (before now new : List Told) (field : Field)
    → ToldSoFar each tlvs rest before now → rest ≡ field_bytes field ++ after → IsTold (each field) now new → ToldSoFar each tlvs after before new
ToldSoFar-more each tlvs rest after before now new field so_far next told = record {
  front = so_far.front ++ field ∷ [];
  passed_by = passed tlvs rest after so_far.front field so_far.passed_by next;
  said = so_far.said ++ told.said;
  told_is =
      told_of-push each so_far.front field ∙ ap (λ t. both t (each field)) so_far.told_is ∙ ap (both (Some so_far.said)) told.told_is;
  appended = told.appended ∙ ap (λ t. t ++ told.said) so_far.appended ∙ append_assoc before so_far.said told.said;
}

-- all TLVs
pub ToldSoFar-all : (each : Field → Option (List Told)) (tlvs rest : List ℕ) (before now : List Told) → ToldSoFar each tlvs rest before now
    → rest ≡ [] → IsTold (told_in each tlvs) before now
ToldSoFar-all each tlvs rest before now so_far none = record {
  said = so_far.said;
  told_is =
      ap (λ found. found >>= told_of each)
      (fields_of-bytes tlvs so_far.front (so_far.passed_by ∙ ap (λ r. fields_bytes so_far.front ++ r) none ∙ append-nil (fields_bytes so_far.front)))
      ∙ so_far.told_is;
  appended = so_far.appended;
}

-- where bytes are left that begin with no TLV they are no TLVs
pub ToldSoFar-broken : (each : Field → Option (List Told)) (tlvs rest : List ℕ) (before now : List Told) → ToldSoFar each tlvs rest before now
    → rest ≢ [] → ((any : Field) (after : List ℕ) → rest ≡ field_bytes any ++ after → ⊥) → told_in each tlvs ≡ None
ToldSoFar-broken each tlvs rest before now so_far some none =
    ap (λ found. found >>= told_of each)
    (fields_of-none tlvs (λ fields e. some (all_passed fields so_far.front tlvs rest e so_far.passed_by none).1))

-- what was found tells nothing
nothing_told : (each : Field → Option (List Told)) (found : Option (List Field)) → ((fields : List Field) → found ≡ Some fields → told_of each fields ≡ None)
    → (found >>= told_of each) ≡ None
nothing_told each None f = refl
nothing_told each (Some fields) f = f fields refl

-- where one TLV tells nothing all tell nothing
pub ToldSoFar-fault : (each : Field → Option (List Told)) (tlvs rest after : List ℕ) (before now : List Told) (field : Field) (fault : ToldFault)
    → ToldSoFar each tlvs rest before now → rest ≡ field_bytes field ++ after → Refuses (each field) fault → Refuses (told_in each tlvs) fault
ToldSoFar-fault each tlvs rest after before now field OutOfMemory so_far next refused = tt
ToldSoFar-fault each tlvs rest after before now field Malformed so_far next refused =
    let front = so_far.front ++ field ∷ [] in
    let none : told_of each front ≡ None =
    told_of-push each so_far.front field ∙ ap (λ t. both t (each field)) so_far.told_is ∙ ap (both (Some so_far.said)) refused in
    nothing_told each (fields_of tlvs)
    (λ fields e.
    let parts = split_off front fields after (sym (fields_of-found tlvs fields e) ∙ passed tlvs rest after so_far.front field so_far.passed_by next) in
    ap (told_of each) parts.1 ∙ told_of-append each front parts.0 ∙ ap (λ t. both t (told_of each parts.0)) none)
