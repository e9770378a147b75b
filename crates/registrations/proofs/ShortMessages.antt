-- Messages that parts join stay short.
use Rattle.std.proofs.Common.{◌≡◌, ◌+◌, ◌≤◌, ◌==◌, inl, inr, Bool, true, false, cond, ltb, List, length, Option, Some, None, Result, Ok, Err, refl, sym, ap, ◌∙◌, arith, length-append}
use Rattle.std.proofs.lemmas.Bool.{ltb-false, cases_eq}
use Rattle.registrations.specs.Part.{PartParts}
use Rattle.registrations.specs.Joining.{OpenParts, WholeParts, grown, message_of, within, left_of, longest_message}
use Rattle.registrations.specs.UnderWay.{held_at, Joins, TakenPart, Takes, TakesAll, none_taken, one_taken, AreShort}
use Rattle.registrations.specs.declared.joining.JoinFault.{JoinFault}
use Rattle.registrations.specs.declared.joining.JoinFault.TheVariants.{TooLong}
use Rattle.registrations.specs.declared.unfinished.Unfinished.{Unfinished}

-- what was joined wasn't too long
not_too_long : (b : Bool) (x held : OpenParts) → cond b (Err TooLong) (Ok x) ≡ Ok held → (b ≡ false) × (x ≡ held)
not_too_long true x held e = absurd (cc)
not_too_long false x held e = (refl, cc)

within_short : (message : Result OpenParts JoinFault) (part : PartParts) (held : OpenParts) → within message part ≡ Ok held → length held.tlvs ≤ longest_message
within_short (Err why) part held e = absurd (cc)
within_short (Ok x) part held e =
    let test = not_too_long (ltb longest_message (length x.tlvs + length part.tlvs)) (grown x part) held e in
    omega (arith, ltb-false longest_message (length x.tlvs + length part.tlvs) test.0, length-append x.tlvs part.tlvs, ap (λ (h : OpenParts). length h.tlvs) test.1)

joins_short : (old new : Unfinished) (part : PartParts) (given : Option WholeParts) (joins : Joins old new part given) → length joins.held.tlvs ≤ longest_message
joins_short old new part given joins = within_short (message_of (held_at old part.modem) part) part joins.held joins.joined_is

-- what is given or left is what was joined
given_chosen : (b : Bool) (x whole : WholeParts) → Some whole ≡ cond b (Some x) None → whole ≡ x
given_chosen true x whole e = cc
given_chosen false x whole e = absurd (cc)

left_chosen : (b : Bool) (x held : OpenParts) → cond b None (Some x) ≡ Some held → x ≡ held
left_chosen true x held e = absurd (cc)
left_chosen false x held e = cc

pub given_short : (old new : Unfinished) (part : PartParts) (whole : WholeParts) → Joins old new part (Some whole) → length whole.tlvs ≤ longest_message
given_short old new part whole joins =
    let held = joins.held in
    let same = given_chosen (held.taken == held.of) (record { modem = part.modem; message = held.message; tlvs = held.tlvs }) whole joins.given_is in
    omega (arith, joins_short old new part (Some whole) joins, ap (λ (w : WholeParts). length w.tlvs) same)

-- one part
one_short : (old new : Unfinished) (one : TakenPart) → Takes old new one → AreShort old → AreShort new
one_short old new one takes short modem held there =
    let joins = takes.joins in
    elim (cases_eq modem one.part.modem) [
      | inl same ↦
          let left : left_of joins.held ≡ Some held = sym joins.left_is ∙ ap (held_at new) (sym same) ∙ there in
          let is = left_chosen (joins.held.taken == joins.held.of) joins.held held left in
          omega (arith, joins_short old new one.part one.given joins, ap (λ (h : OpenParts). length h.tlvs) is)
      | inr differ ↦ short modem held (sym (takes.others modem differ) ∙ there)
    ]

-- all parts
pub all_short : {old new : Unfinished} {taken : List TakenPart} → TakesAll old taken new → AreShort old → AreShort new
all_short none_taken short = short
all_short (one_taken {old = old} {between = between} {taken = one} takes more) short = all_short more (one_short old between one takes short)
