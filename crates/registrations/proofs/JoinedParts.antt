-- What is under way for a modem, with a part more.
use Rattle.std.proofs.Common.{◌≡◌, ℕ, ◌+◌, ◌==◌, Bool, true, false, cond, List, ◌++◌, length, Option, Some, None, Result, Ok, Err, refl, sym, ap, ◌∙◌}
use Rattle.std.specs.Prelude.{IsOk, nat_lt}
use Rattle.std.proofs.lemmas.Bool.{cond-true, cond-false, eq-eqb, ne_eqb, false≢true}
use Rattle.registrations.specs.Part.{PartParts}
use Rattle.registrations.specs.Joining.{OpenParts, precedes, begun, grown, next_one, message_of, within, joined, base_of, longest_message}
use Rattle.registrations.specs.UnderWay.{held_at, Joins}
use Rattle.registrations.specs.declared.joining.JoinFault.{JoinFault}
use Rattle.registrations.specs.declared.joining.JoinFault.TheVariants.{NoBeginning, OutOfTurn, TooLong}
use Rattle.registrations.specs.declared.unfinished.Unfinished.{Unfinished}

-- a first part begins its message
pub message_of-first : (before : Option OpenParts) (part : PartParts) → part.number ≡ 1 → message_of before part ≡ Ok (begun part)
message_of-first None part first = cond-true (part.number == 1) (Ok (begun part)) (Err NoBeginning) (eq-eqb _ _ first)
message_of-first (Some held) part first = cond-true (part.number == 1) (Ok (begun part)) (next_one held part) (eq-eqb _ _ first)

-- the next part goes on with it
pub message_of-next : (before : Option OpenParts) (held : OpenParts) (part : PartParts) → before ≡ Some held → (part.number ≡ 1 → ⊥) → precedes held part ≡ true
    → message_of before part ≡ Ok held
message_of-next before held part there later next =
    ap (λ b. message_of b part) there ∙ cond-false (part.number == 1) (Ok (begun part)) (next_one held part) (ne_eqb _ _ later)
    ∙ cond-true (precedes held part) (Ok held) (Err OutOfTurn) next

-- the message that a first test chose
first_chosen : (b : Bool) (begins x : OpenParts) → cond b (Ok begins) (Err NoBeginning) ≡ Ok x → x ≡ begins
first_chosen true begins x e = cc
first_chosen false begins x e = absurd (cc)

-- and two
next_chosen : (b : Bool) (goes_on : Bool) (begins held x : OpenParts) → cond b (Ok begins) (cond goes_on (Ok held) (Err OutOfTurn)) ≡ Ok x → x ≡ cond b begins held
next_chosen true goes_on begins held x e = cc
next_chosen false true begins held x e = cc
next_chosen false false begins held x e = absurd (cc)

base-is : (before : Option OpenParts) (part : PartParts) (x : OpenParts) → message_of before part ≡ Ok x → x ≡ base_of before part
base-is None part x e = first_chosen (part.number == 1) (begun part) x e
base-is (Some held) part x e = next_chosen (part.number == 1) (precedes held part) (begun part) held x e

-- what isn't too long
fitting : (b : Bool) (x : OpenParts) → IsOk (cond b (Err TooLong) (Ok x)) → cond b (Err TooLong) (Ok x) ≡ Ok x
fitting true x ok = absurd (false≢true ok)
fitting false x ok = refl

within-base : (message : Result OpenParts JoinFault) (part : PartParts) (base : OpenParts) → ((x : OpenParts) → message ≡ Ok x → x ≡ base)
    → IsOk (within message part) → within message part ≡ Ok (grown base part)
within-base (Err why) part base same ok = absurd (false≢true ok)
within-base (Ok x) part base same ok =
    fitting (nat_lt longest_message (length x.tlvs + length part.tlvs)) (grown x part) ok ∙ ap (λ m. Ok (grown m part)) (same x refl)

pub joined-base : (before : Option OpenParts) (part : PartParts) → IsOk (joined before part) → joined before part ≡ Ok (grown (base_of before part) part)
joined-base before part ok = within-base (message_of before part) part (base_of before part) (base-is before part) ok

-- a message by its fields
open_with : OpenParts → ℕ → List ℕ → OpenParts
open_with base taken tlvs = record base { taken = taken; tlvs = tlvs }

-- with its last part a message is given
pub Joins-given : (old new : Unfinished) (part : PartParts) (base : OpenParts) (tlvs : List ℕ) → base ≡ base_of (held_at old part.modem) part
    → IsOk (joined (held_at old part.modem) part) → tlvs ≡ base.tlvs ++ part.tlvs → part.number ≡ base.of → held_at new part.modem ≡ None
    → Joins old new part (Some (record { modem = part.modem; message = base.message; tlvs = tlvs }))
Joins-given old new part base tlvs base_is ok items last none = record {
  held = grown base part;
  joined_is = joined-base (held_at old part.modem) part ok ∙ ap (λ b. Ok (grown b part)) (sym base_is);
  given_is =
      ap (λ t. Some (record { modem = part.modem; message = base.message; tlvs = t })) items
      ∙ sym (cond-true (part.number == base.of) (Some (record { modem = part.modem; message = base.message; tlvs = base.tlvs ++ part.tlvs })) None (eq-eqb _ _ last));
  left_is = none ∙ sym (cond-true (part.number == base.of) None (Some (grown base part)) (eq-eqb _ _ last));
}

-- and before that it is kept
pub Joins-kept : (old new : Unfinished) (part : PartParts) (base : OpenParts) (tlvs : List ℕ) → base ≡ base_of (held_at old part.modem) part
    → IsOk (joined (held_at old part.modem) part) → tlvs ≡ base.tlvs ++ part.tlvs → (part.number ≡ base.of → ⊥)
    → held_at new part.modem ≡ Some (record base { taken = part.number; tlvs = tlvs }) → Joins old new part None
unfolding open_with
Joins-kept old new part base tlvs base_is ok items more kept = record {
  held = grown base part;
  joined_is = joined-base (held_at old part.modem) part ok ∙ ap (λ b. Ok (grown b part)) (sym base_is);
  given_is = sym (cond-false (part.number == base.of) (Some (record { modem = part.modem; message = base.message; tlvs = base.tlvs ++ part.tlvs })) None (ne_eqb _ _ more));
  left_is =
      kept ∙ ap (λ t. Some (open_with base part.number t)) items
      ∙ sym (cond-false (part.number == base.of) None (Some (grown base part)) (ne_eqb _ _ more));
}
