-- The last value of a type, one TLV further on.
use Rattle.std.proofs.Common.{◌≡◌, ℕ, List, [], ◌∷◌, ◌++◌, Bool, true, false, cond, ◌==◌, Option, Some, option_map, find, refl, sym, ap, ◌∙◌}
use Rattle.std.specs.Prelude.{reverse}
use Rattle.std.proofs.lemmas.List.{reverse-append}
use Rattle.capture.specs.Fields.{Field, last_value}
use Rattle.capture.specs.Burst.{Values}
use Rattle.capture.specs.Inside.Newer.{value_with}

-- the value of what a test chose
chosen : (b : Bool) (field : Field) (other : Option Field) → option_map (λ f. f.value) (cond b (Some field) other) ≡ cond b (Some field.value) (option_map (λ f. f.value) other)
chosen true field other = refl
chosen false field other = refl

-- a TLV more is the last one, if it is of the type
pub last_value-push : (kind : ℕ) (front : List Field) (field : Field) → last_value kind (front ++ field ∷ []) ≡ cond (field.kind == kind) (Some field.value) (last_value kind front)
last_value-push kind front field =
    ap (λ fields. option_map (λ f. f.value) (find (λ f. f.kind == kind) fields)) (reverse-append front (field ∷ []))
    ∙ chosen (field.kind == kind) field (find (λ f. f.kind == kind) (reverse front))

-- what is newer than the last value among some TLVs is the last one among these and one more
pub newer_of : (kind : ℕ) (front : List Field) (field : Field) (last next : Option (List ℕ)) → last ≡ last_value kind front → next ≡ value_with kind field last
    → next ≡ last_value kind (front ++ field ∷ [])
newer_of kind front field last next e f = f ∙ ap (value_with kind field) e ∙ sym (last_value-push kind front field)

-- values of the types that matter
values_made : Option (List ℕ) → Option (List ℕ) → Option (List ℕ) → Option (List ℕ) → Option (List ℕ) → Values
values_made segment_header channel sid grant burst_id = record { segment_header = segment_header; channel = channel; sid = sid; grant = grant; burst_id = burst_id }

-- values are what they are of each type
pub same_values : (a b : Values) → a.segment_header ≡ b.segment_header → a.channel ≡ b.channel → a.sid ≡ b.sid → a.grant ≡ b.grant → a.burst_id ≡ b.burst_id
    → a ≡ b
unfolding values_made
same_values a b segment_header channel sid grant burst_id =
    ap (λ v. values_made v a.channel a.sid a.grant a.burst_id) segment_header
    ∙ ap (λ v. values_made b.segment_header v a.sid a.grant a.burst_id) channel
    ∙ ap (λ v. values_made b.segment_header b.channel v a.grant a.burst_id) sid
    ∙ ap (λ v. values_made b.segment_header b.channel b.sid v a.burst_id) grant
    ∙ ap (values_made b.segment_header b.channel b.sid b.grant) burst_id
