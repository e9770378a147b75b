-- The messages that are under way, one of a modem.
use Rattle.std.specs.Prelude.{◌≡◌, ◌≢◌, ◌≤◌, ◌<◌, ◌⊎◌, ◌+◌, ℕ, nat_eq, Option, None, is_some, option_map, Ok, Err, IsSome, if◌then◌else◌, List, [], ◌∷◌, ◌==◌, filter, length, Some}
use Rattle.std.specs.HashMap.{get, hash_map_len}
use Rattle.registrations.specs.Part.{PartParts}
use Rattle.registrations.specs.Joining.{most_under_way, longest_message, OpenParts, WholeParts, open_seen, joined, given_of, left_of, base_of}
use Rattle.registrations.specs.declared.joining.JoinFault.{JoinFault}
use Rattle.registrations.specs.declared.joining.JoinFault.TheVariants.{NoBeginning, OutOfTurn, TooLong, TooManyUnderWay, OutOfMemory}
use Rattle.registrations.specs.declared.unfinished.Unfinished.{Unfinished}

-- what is under way for a modem, and how many messages are
abbrev pub held_at : Unfinished → ℕ → Option OpenParts
held_at unfinished modem = option_map open_seen (get nat_eq unfinished.messages modem)

abbrev pub count_of : Unfinished → ℕ
count_of unfinished = hash_map_len unfinished.messages

-- the part was taken: what is under way for its modem grew by it, and was given or kept
pub record Joins (old new : Unfinished) (part : PartParts) (given : Option WholeParts) : Type 0 where
  pub held : OpenParts
  pub joined_is : joined (held_at old part.modem) part ≡ Ok held
  pub given_is : given ≡ given_of part.modem held
  pub left_is : held_at new part.modem ≡ left_of held

-- a message of this modem is under way, or there is room for one more
abbrev pub HasRoom : Unfinished → ℕ → Type 0
HasRoom state modem = IsSome (held_at state modem) ⊎ (count_of state < most_under_way)

-- the part doesn't go on with what is under way for its modem, for this reason, and changes
-- nothing of it
pub record DoesNotJoin (old new : Unfinished) (part : PartParts) (why : JoinFault) : Type 0 where
  pub refused : joined (held_at old part.modem) part ≡ Err why
  pub kept : held_at new part.modem ≡ held_at old part.modem

-- it begins a message of several parts where there is no room for one, and changes nothing of what
-- is under way for its modem, which is nothing
pub record FindsNoRoom (old new : Unfinished) (part : PartParts) : Type 0 where
  pub several : part.number ≢ part.of
  pub full : most_under_way ≤ count_of old
  pub none : held_at old part.modem ≡ None
  pub kept : held_at new part.modem ≡ None

-- why a part was refused; of a failed allocation nothing follows for its modem
abbrev pub Refused : Unfinished → Unfinished → PartParts → JoinFault → Type 0
Refused old new part NoBeginning = DoesNotJoin old new part NoBeginning
Refused old new part OutOfTurn = DoesNotJoin old new part OutOfTurn
Refused old new part TooLong = DoesNotJoin old new part TooLong
Refused old new part TooManyUnderWay = FindsNoRoom old new part
Refused old new part OutOfMemory = Unit {0}

-- a part, and what was given when it was taken
pub record TakenPart : Type 0 where
  pub part : PartParts
  pub given : Option WholeParts

-- it was taken, and nothing changed of other modems
pub record Takes (old new : Unfinished) (taken : TakenPart) : Type 0 where
  pub joins : Joins old new taken.part taken.given
  pub others : (modem : ℕ) → modem ≢ taken.part.modem → held_at new modem ≡ held_at old modem

-- parts were taken, one after another
pub data TakesAll : Unfinished → List TakenPart → Unfinished → Type 0 where
  none_taken : {unfinished : Unfinished} → TakesAll unfinished [] unfinished
  one_taken : {old between new : Unfinished} {taken : TakenPart} {more : List TakenPart}
      → Takes old between taken → TakesAll between more new → TakesAll old (taken ∷ more) new

-- those of one modem
abbrev pub taken_of : ℕ → List TakenPart → List TakenPart
taken_of modem taken = filter (λ one. one.part.modem == modem) taken

-- no message that is under way has too long TLVs
abbrev pub AreShort : Unfinished → Type 0
AreShort unfinished = (modem : ℕ) (held : OpenParts) → held_at unfinished modem ≡ Some held → length held.tlvs ≤ longest_message

-- ---- inside

-- the message was taken out to which the part belongs
pub record IsTakenOut (old new : Unfinished) (part : PartParts) (held : OpenParts) : Type 0 where
  pub open_is : held ≡ base_of (held_at old part.modem) part
  pub none : held_at new part.modem ≡ None
  pub others : (modem : ℕ) → modem ≢ part.modem → held_at new modem ≡ held_at old modem
  pub count : count_of new + (if is_some (held_at old part.modem) then 1 else 0) ≡ count_of old
