-- What one more record tells and shows.
use Rattle.std.proofs.Common.{◌≡◌, ℕ, ◌+◌, ◌-◌, ◌^◌, min, List, [], ◌∷◌, ◌++◌, Ok, Err, refl, sym, ap, subst, ◌∙◌, arith, length-append}
use Rattle.std.specs.Prelude.{fold}
use Rattle.std.proofs.lemmas.List.Sums.{fold-append}
use Rattle.capture.specs.Packet.{Parts, packet_bytes}
use Rattle.capture.specs.PcapngBlocks.{CaptureParts}
use Rattle.capture.specs.SeenBurst.{SpellsBurst, burst_parts}
use Rattle.capture.specs.declared.burst.Burst.{Burst}
use Rattle.registrations.specs.Part.{PartParts, part_of, part_seen, SpellsPart}
use Rattle.registrations.specs.declared.message.NoPart.{NoPart}
use Rattle.registrations.specs.declared.part.Part.{Part}
use Rattle.registered_map.specs.Registered.{CapturedMessage, nothing_registered, with_message, registered}
use Rattle.registered_map.specs.Holding.{registered_in}
use Rattle.seen_sids.specs.Seen.{seen_in}
use Rattle.capture_engines.specs.Telling.{Counts, HoldsPart, HoldsBurst, Tells, no_part, refused, joined, Shows, no_burst, counted, completed, TellAll, one_told}
use Rattle.capture_engines.specs.Inside.Reading.{HasTold, TakesPart, part_joined, part_refused, TakesMessage}
use Rattle.capture_engines.specs.declared.map_reading.MapReading.{MapReading}

-- what was read of the bytes of a record that counts is in it
pub holds_part : (one : CaptureParts) (bytes : List ℕ) (part : Part) → Counts one → bytes ≡ one.bytes → SpellsPart bytes part → HoldsPart one (part_seen part)
holds_part one bytes part counts is spells =
    record { counts = counts; packet = spells.parts; spelled = sym is ∙ spells.spelled; part_is = spells.part_is }

pub holds_burst : (one : CaptureParts) (bytes : List ℕ) (burst : Burst) → Counts one → bytes ≡ one.bytes → SpellsBurst bytes burst → HoldsBurst one (burst_parts burst)
holds_burst one bytes burst counts is spells =
    record { counts = counts; packet = spells.parts; spelled = sym is ∙ spells.spelled; burst_is = spells.burst_is }

-- and where no part was found there is none
pub holds_no_part : (one : CaptureParts) (bytes : List ℕ) (why : NoPart) → bytes ≡ one.bytes
    → ((packet : Parts) → bytes ≡ packet_bytes packet → part_of packet ≡ Err why) → (part : PartParts) → ¬ HoldsPart one part
holds_no_part one bytes why is none part holds =
    let other : part_of holds.packet ≡ Err why = none holds.packet (is ∙ holds.spelled) in
    let same : Err why ≡ Ok part = sym other ∙ holds.part_is in
    cc same

-- by its part a record's message is taken
pub message_taken : (old new : MapReading) (one : CaptureParts) (part : PartParts) → HoldsPart one part → TakesPart old part one.nanoseconds new → TakesMessage old one new
message_taken old new one part holds (part_joined given takes registers) = record {
  more = completed given one.nanoseconds old.records;
  tells = joined part given holds takes refl;
  registered_is = registers;
}
message_taken old new one part holds (part_refused why other refuses others registers) = record {
  more = [];
  tells = refused part why holds other refuses others refl;
  registered_is = registers;
}

pub no_message : (old : MapReading) (one : CaptureParts) → ((part : PartParts) → ¬ HoldsPart one part) → TakesMessage old one old
no_message old one none = record { more = []; tells = no_part none refl refl; registered_is = refl }

-- one more record is counted
one_counted : (records : List CaptureParts) (one : CaptureParts) (before now : ℕ) → before ≡ counted records → now ≡ min (before + 1) (2 ^ 64 - 1)
    → now ≡ counted (records ++ one ∷ [])
one_counted records one before now was is = omega (arith, was, is, length-append records (one ∷ []))

-- what messages and more of them give
registered_more : (messages more : List CapturedMessage) → fold with_message (registered messages) more ≡ registered (messages ++ more)
registered_more messages more = sym (fold-append with_message nothing_registered messages more)

-- records and one more
pub told_more : (records : List CaptureParts) (old mid next new : MapReading) (one : CaptureParts) → HasTold records old → mid.records ≡ min (old.records + 1) (2 ^ 64 - 1)
    → mid.unfinished ≡ old.unfinished → mid.map ≡ old.map → mid.seen ≡ old.seen → TakesMessage mid one next → next.seen ≡ mid.seen → next.records ≡ mid.records
    → Shows one (seen_in next.seen) (seen_in new.seen) → new.unfinished ≡ next.unfinished → new.map ≡ next.map → new.records ≡ next.records
    → HasTold (records ++ one ∷ []) new
told_more records old mid next new one has count unfinished map seen takes next_seen next_records shows new_unfinished new_map new_records =
    let number = one_counted records one old.records mid.records has.count count in
    let before = has.told in
    record {
      messages = has.messages ++ takes.more;
      told =
          subst (λ u. TellAll (records ++ one ∷ []) u (has.messages ++ takes.more) (seen_in new.seen)) (sym new_unfinished)
          (one_told one before
          (subst (λ u. Tells one (counted (records ++ one ∷ [])) u next.unfinished takes.more) unfinished
          (subst (λ n. Tells one n mid.unfinished next.unfinished takes.more) number takes.tells))
          (subst (λ s. Shows one (seen_in s) (seen_in new.seen)) (next_seen ∙ seen) shows));
      registered_is =
          ap registered_in new_map ∙ takes.registered_is ∙ ap (λ m. fold with_message (registered_in m) takes.more) map
          ∙ ap (λ r. fold with_message r takes.more) has.registered_is ∙ registered_more has.messages takes.more;
      count = new_records ∙ next_records ∙ number;
    }

-- one that doesn't count tells and shows nothing
pub told_nothing : (records : List CaptureParts) (old new : MapReading) (one : CaptureParts) → HasTold records old → ¬ Counts one → new.records ≡ min (old.records + 1) (2 ^ 64 - 1)
    → new.unfinished ≡ old.unfinished → new.map ≡ old.map → new.seen ≡ old.seen → HasTold (records ++ one ∷ []) new
told_nothing records old new one has out count unfinished map seen =
    told_more records old new new new one has count unfinished map seen (no_message new one (λ part holds. out holds.counts)) refl refl
    (no_burst (λ burst holds. out holds.counts) refl) refl refl refl
