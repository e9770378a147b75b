-- The parts of a message, taken in turn.
use Rattle.std.proofs.Common.{◌≡◌, ℕ, ◌+◌, ◌<◌, ◌≤◌, ◌==◌, ◌⊎◌, inl, inr, Bool, true, false, cond, List, [], ◌∷◌, ◌++◌, length, map, Option, Some, None, Result, Ok, Err, refl, sym, ap, subst, ◌∙◌, arith, append_assoc, append-nil}
use Rattle.std.specs.Prelude.{flat_map, IsOk}
use Rattle.std.proofs.lemmas.Bool.{cond-true, cond-false, eq-eqb, ne_eqb, eqb-false, cases_eq}
use Rattle.registrations.specs.Part.{PartParts}
use Rattle.registrations.specs.Joining.{OpenParts, WholeParts, begun, grown, joined, given_of, left_of, base_of, AreInTurn, GivesAtLast}
use Rattle.registrations.specs.UnderWay.{held_at, Joins, TakenPart, Takes, TakesAll, none_taken, one_taken, taken_of}
use Rattle.registrations.proofs.JoinedParts.{joined-base}
use Rattle.registrations.specs.declared.joining.JoinFault.{JoinFault}
use Rattle.registrations.specs.declared.part.MessageName.{MessageName}
use Rattle.registrations.specs.declared.unfinished.Unfinished.{Unfinished}

-- a message with so many parts taken
message_with : MessageName → ℕ → ℕ → List ℕ → OpenParts
message_with message of taken tlvs = record { message = message; of = of; taken = taken; tlvs = tlvs }

whole_with : ℕ → MessageName → List ℕ → WholeParts
whole_with modem message tlvs = record { modem = modem; message = message; tlvs = tlvs }

-- the parts up to this one were taken: none, whatever is under way, or those of the message that is
-- under way
abbrev IsTakenTo : MessageName → ℕ → ℕ → List ℕ → Option OpenParts → Type 0
IsTakenTo message of n tlvs before = ((n ≡ 0) × (tlvs ≡ [])) ⊎ ((0 < n) × (before ≡ Some (message_with message of n tlvs)))

-- a message with a part more
grown-with : (base : OpenParts) (part : PartParts) (message : MessageName) (of n number : ℕ) (tlvs : List ℕ) → base ≡ message_with message of n tlvs
    → part.number ≡ number → grown base part ≡ message_with message of number (tlvs ++ part.tlvs)
unfolding message_with
grown-with base part message of n number tlvs base_is number_is =
    ap (λ b. grown b part) base_is ∙ ap (λ k. message_with message of k (tlvs ++ part.tlvs)) number_is

-- the message that a first part begins
begun-with : (part : PartParts) (message : MessageName) (of : ℕ) → part.message ≡ message → part.of ≡ of → begun part ≡ message_with message of 0 []
unfolding message_with
begun-with part message of same number =
    ap (λ m. message_with m part.of 0 []) same ∙ ap (λ k. message_with message k 0 []) number

-- so this is the message to which the next part belongs
base-first : (before : Option OpenParts) (part : PartParts) → part.number ≡ 1 → base_of before part ≡ begun part
base-first None part first = refl
base-first (Some held) part first = cond-true (part.number == 1) (begun part) held (eq-eqb _ _ first)

base-later : (before : Option OpenParts) (held : OpenParts) (part : PartParts) → before ≡ Some held → (part.number ≡ 1 → ⊥) → base_of before part ≡ held
base-later before held part there later =
    ap (λ b. base_of b part) there ∙ cond-false (part.number == 1) (begun part) held (ne_eqb _ _ later)

base-in_turn : (before : Option OpenParts) (part : PartParts) (message : MessageName) (of n : ℕ) (tlvs : List ℕ) → IsTakenTo message of n tlvs before
    → part.message ≡ message → part.of ≡ of → part.number ≡ n + 1 → base_of before part ≡ message_with message of n tlvs
base-in_turn before part message of n tlvs (inl first) same number k =
    base-first before part (omega (arith, k, first.0)) ∙ begun-with part message of same number
    ∙ ap (λ m. message_with message of m []) (sym first.0) ∙ ap (λ t. message_with message of n t) (sym first.1)
base-in_turn before part message of n tlvs (inr later) same number k =
    base-later before (message_with message of n tlvs) part later.1 (λ one. omega (arith, k, later.0, one))

-- what is a result is one
is-result : (r : Result OpenParts JoinFault) (held : OpenParts) → r ≡ Ok held → IsOk r
is-result (Ok x) held e = refl
is-result (Err why) held e = absurd (cc)

-- how many parts are in turn
in_turn-length : (modem : ℕ) (message : MessageName) (of number : ℕ) (parts : List PartParts) → AreInTurn modem message of number parts → number + length parts ≡ of + 1
in_turn-length modem message of number [] turn = omega (arith, turn)
in_turn-length modem message of number (part ∷ more) turn = omega (arith, in_turn-length modem message of (number + 1) more turn.4)

-- one result is one message
one-result : (r : Result OpenParts JoinFault) (a b : OpenParts) → r ≡ Ok a → r ≡ Ok b → a ≡ b
one-result r a b p q = cc

-- what a taken part made of the message
held-in_turn : (old new : Unfinished) (one : TakenPart) (message : MessageName) (of n : ℕ) (tlvs : List ℕ) (joins : Joins old new one.part one.given)
    → IsTakenTo message of n tlvs (held_at old one.part.modem) → one.part.message ≡ message → one.part.of ≡ of → one.part.number ≡ n + 1
    → joins.held ≡ message_with message of (n + 1) (tlvs ++ one.part.tlvs)
held-in_turn old new one message of n tlvs joins to same number k =
    let before = held_at old one.part.modem in
    one-result (joined before one.part) joins.held (grown (base_of before one.part) one.part) joins.joined_is
    (joined-base before one.part (is-result (joined before one.part) joins.held joins.joined_is))
    ∙ grown-with (base_of before one.part) one.part message of n (n + 1) tlvs (base-in_turn before one.part message of n tlvs to same number k) k

-- with the last part the message is given, and before that it is kept
given-last : (modem : ℕ) (held : OpenParts) (message : MessageName) (of n : ℕ) (tlvs : List ℕ) → held ≡ message_with message of n tlvs → n ≡ of
    → given_of modem held ≡ Some (whole_with modem message tlvs)
unfolding message_with whole_with
given-last modem held message of n tlvs is last =
    ap (given_of modem) is ∙ cond-true (n == of) (Some (whole_with modem message tlvs)) None (eq-eqb _ _ last)

given-before : (modem : ℕ) (held : OpenParts) (message : MessageName) (of n : ℕ) (tlvs : List ℕ) → held ≡ message_with message of n tlvs → n < of
    → given_of modem held ≡ None
unfolding message_with whole_with
given-before modem held message of n tlvs is before =
    ap (given_of modem) is ∙ cond-false (n == of) (Some (whole_with modem message tlvs)) None (ne_eqb _ _ (λ same. omega (arith, same)))

left-before : (held : OpenParts) (message : MessageName) (of n : ℕ) (tlvs : List ℕ) → held ≡ message_with message of n tlvs → n < of
    → left_of held ≡ Some (message_with message of n tlvs)
unfolding message_with
left-before held message of n tlvs is before =
    ap left_of is ∙ cond-false (n == of) None (Some (message_with message of n tlvs)) (ne_eqb _ _ (λ same. omega (arith, same)))

-- nothing before, and the message at last
gives-more : (whole : WholeParts) (given : Option WholeParts) (more : List (Option WholeParts)) → given ≡ None → GivesAtLast whole more → GivesAtLast whole (given ∷ more)
gives-more whole given [] none last = absurd last
gives-more whole given (next ∷ more) none last = (none, last)

gives-last : (whole : WholeParts) (given : Option WholeParts) (more : List TakenPart) → given ≡ Some whole → more ≡ []
    → GivesAtLast whole (given ∷ map (λ one. one.given) more)
gives-last whole given more some none = subst (λ m. GivesAtLast whole (given ∷ map (λ (one : TakenPart). one.given) m)) (sym none) some

-- a list by its length
nothing-left : (more : List TakenPart) → length (map (λ one. one.part) more) ≡ 0 → more ≡ []
nothing-left [] none = refl
nothing-left (one ∷ more) none = absurd (omega (arith, none))

module _ (modem of : ℕ) (message : MessageName) where
  -- the parts of the modem among these
  parts : List TakenPart → List PartParts
  parts taken = map (λ one. one.part) taken

  -- what is given, where so many parts with these TLVs came before
  Gives : List ℕ → List TakenPart → Type 0
  Gives tlvs own = GivesAtLast (whole_with modem message (tlvs ++ flat_map (λ one. one.part.tlvs) own)) (map (λ one. one.given) own)

  -- one part of the modem, and then the others
  own_part : (old between : Unfinished) (one : TakenPart) (own : List TakenPart) (n : ℕ) (tlvs : List ℕ) → Takes old between one
      → IsTakenTo message of n tlvs (held_at old modem) → n < of → AreInTurn modem message of (n + 1) (one.part ∷ parts own)
      → (n + 1 < of → IsTakenTo message of (n + 1) (tlvs ++ one.part.tlvs) (held_at between modem) → Gives (tlvs ++ one.part.tlvs) own)
      → Gives tlvs (one ∷ own)
  unfolding parts Gives
  own_part old between one own n tlvs takes to before turn more =
      let held_is = held-in_turn old between one message of n tlvs takes.joins (subst (λ m. IsTakenTo message of n tlvs (held_at old m)) (sym turn.0) to) turn.1 turn.2 turn.3 in
      let all = append_assoc tlvs one.part.tlvs (flat_map (λ (t : TakenPart). t.part.tlvs) own) in
      elim (cases_eq (n + 1) of) [
        | inl last ↦
            let none = nothing-left own (omega (arith, in_turn-length modem message of (n + 1 + 1) (parts own) turn.4)) in
            gives-last (whole_with modem message (tlvs ++ (one.part.tlvs ++ flat_map (λ (t : TakenPart). t.part.tlvs) own))) one.given own
            (takes.joins.given_is ∙ given-last one.part.modem takes.joins.held message of (n + 1) (tlvs ++ one.part.tlvs) held_is last
            ∙ ap (λ m. Some (whole_with m message (tlvs ++ one.part.tlvs))) turn.0
            ∙ ap (λ t. Some (whole_with modem message (tlvs ++ t))) (sym (append-nil one.part.tlvs) ∙ ap (λ m. one.part.tlvs ++ flat_map (λ (t : TakenPart). t.part.tlvs) m) (sym none)))
            none
        | inr differ ↦
            let earlier : n + 1 < of = omega (arith, before, differ) in
            let left = takes.joins.left_is ∙ left-before takes.joins.held message of (n + 1) (tlvs ++ one.part.tlvs) held_is earlier in
            subst (λ t. GivesAtLast (whole_with modem message t) (one.given ∷ map (λ (t : TakenPart). t.given) own)) all
            (gives-more (whole_with modem message ((tlvs ++ one.part.tlvs) ++ flat_map (λ (t : TakenPart). t.part.tlvs) own)) one.given (map (λ (t : TakenPart). t.given) own)
            (takes.joins.given_is ∙ given-before one.part.modem takes.joins.held message of (n + 1) (tlvs ++ one.part.tlvs) held_is earlier)
            (more earlier (inr (omega arith, subst (λ m. held_at between m ≡ Some (message_with message of (n + 1) (tlvs ++ one.part.tlvs))) turn.0 left))))
      ]

  -- a part of whatever modem, and then the others
  any_part : (old between : Unfinished) (one : TakenPart) (own : List TakenPart) (n : ℕ) (tlvs : List ℕ) (its : Bool) → (one.part.modem == modem) ≡ its
      → Takes old between one → n < of → IsTakenTo message of n tlvs (held_at old modem) → AreInTurn modem message of (n + 1) (parts (cond its (one ∷ own) own))
      → ((m : ℕ) (before : List ℕ) → m < of → IsTakenTo message of m before (held_at between modem) → AreInTurn modem message of (m + 1) (parts own) → Gives before own)
      → Gives tlvs (cond its (one ∷ own) own)
  unfolding parts
  any_part old between one own n tlvs true its takes before to turn more =
      own_part old between one own n tlvs takes to before turn (λ earlier next. more (n + 1) (tlvs ++ one.part.tlvs) earlier next turn.4)
  any_part old between one own n tlvs false its takes before to turn more =
      let same = takes.others modem (λ (is : modem ≡ one.part.modem). eqb-false one.part.modem modem its (sym is)) in
      more n tlvs before (subst (IsTakenTo message of n tlvs) (sym same) to) turn

  -- all parts of the modem, whatever of others is between them
  from_part : {old new : Unfinished} {taken : List TakenPart} → TakesAll old taken new → (n : ℕ) (tlvs : List ℕ) → n < of
      → IsTakenTo message of n tlvs (held_at old modem) → AreInTurn modem message of (n + 1) (parts (taken_of modem taken)) → Gives tlvs (taken_of modem taken)
  unfolding parts
  from_part none_taken n tlvs before to turn = absurd (omega (arith, before, turn))
  from_part (one_taken {old = old} {between = between} {taken = one} {more = rest} takes more) n tlvs before to turn =
      any_part old between one (taken_of modem rest) n tlvs (one.part.modem == modem) refl takes before to turn (λ m said. from_part more m said)

-- the message is given with its last part
pub joined_in_turn : (old new : Unfinished) (taken : List TakenPart) (modem of : ℕ) (message : MessageName) → TakesAll old taken new → 1 ≤ of
    → AreInTurn modem message of 1 (map (λ one. one.part) (taken_of modem taken))
    → GivesAtLast (record { modem = modem; message = message; tlvs = flat_map (λ one. one.part.tlvs) (taken_of modem taken) }) (map (λ one. one.given) (taken_of modem taken))
unfolding whole_with parts Gives
joined_in_turn old new taken modem of message takes some turn = from_part modem of message takes 0 [] (omega (arith, some)) (inl (refl, refl)) turn
