-- How far a capture was read.
use Rattle.std.specs.Prelude.{◌≡◌, ◌≢◌, ◌⊎◌, ◌≤◌, ◌-◌, ◌^◌, ℕ, List, [], ◌∷◌, ◌++◌, fold, Option, true, IfSome}
use Rattle.capture.specs.PcapngBlocks.{CaptureParts}
use Rattle.capture.specs.Captures.{HasCaptured, HasCaptureFault, IsWholeCapture}
use Rattle.registrations.specs.Part.{PartParts}
use Rattle.registrations.specs.Joining.{WholeParts}
use Rattle.registrations.specs.UnderWay.{Takes, Refused}
use Rattle.registrations.specs.declared.joining.JoinFault.{JoinFault}
use Rattle.registrations.specs.declared.joining.JoinFault.TheVariants as join
use Rattle.registered_map.specs.Registered.{CapturedMessage, with_message, registered}
use Rattle.registered_map.specs.Holding.{registered_in}
use Rattle.seen_sids.specs.Seen.{seen_in}
use Rattle.engines.specs.declared.device.Device.{Device}
use Rattle.engines.specs.declared.fault.EngineFault.{EngineFault}
use Rattle.engines.specs.declared.fault.EngineFault.TheVariants.{Capture, OutOfMemory, Read}
use Rattle.engines.specs.Device.{has_failed, given_of}
use Rattle.capture_engines.specs.Telling.{counted, completed, KeepsOthers, Tells, TellAll}
use Rattle.capture_engines.specs.Mapping.{IsFaultyCapture}
use Rattle.capture_engines.specs.declared.map_reading.MapReading.{MapReading}

-- what these records tell and show was taken
pub record HasTold (records : List CaptureParts) (reading : MapReading) : Type 0 where
  pub messages : List CapturedMessage
  pub told : TellAll records reading.unfinished messages (seen_in reading.seen)
  pub registered_is : registered_in reading.map ≡ registered messages
  pub count : reading.records ≡ counted records

-- these bytes were read, and what their records tell was taken
pub record HasMapped (bytes : List ℕ) (reading : MapReading) : Type 0 where
  pub records : List CaptureParts
  pub captured : HasCaptured reading.reader records bytes
  pub told : HasTold records reading

-- a part was taken: a message goes on with it, which may then be registered; or it is refused
pub data TakesPart (old : MapReading) (part : PartParts) (nanoseconds : ℕ) (new : MapReading) : Type 0 where
  part_joined : (given : Option WholeParts) → Takes old.unfinished new.unfinished (record { part = part; given = given })
      → registered_in new.map ≡ fold with_message (registered_in old.map) (completed given nanoseconds old.records) → TakesPart old part nanoseconds new
  part_refused : (why : JoinFault) → why ≢ join.OutOfMemory → Refused old.unfinished new.unfinished part why
      → KeepsOthers old.unfinished new.unfinished part.modem → registered_in new.map ≡ registered_in old.map → TakesPart old part nanoseconds new

-- so what a record tells
pub record TakesMessage (old : MapReading) (one : CaptureParts) (new : MapReading) : Type 0 where
  pub more : List CapturedMessage
  pub tells : Tells one old.records old.unfinished new.unfinished more
  pub registered_is : registered_in new.map ≡ fold with_message (registered_in old.map) more

-- whatever records came, this one was taken
abbrev pub TakesRecord : MapReading → CaptureParts → MapReading → Type 0
TakesRecord old one new = (records : List CaptureParts) → HasTold records old → HasTold (records ++ one ∷ []) new

-- whatever bytes were read, bytes from the front of the piece were read, and this is left
abbrev pub MapsSome : MapReading → List ℕ → List ℕ → MapReading → Type 0
MapsSome old piece rest new = (bytes : List ℕ) → HasMapped bytes old → (used : List ℕ) × (piece ≡ used ++ rest) × HasMapped (bytes ++ used) new

abbrev pub MapsPiece : MapReading → List ℕ → MapReading → Type 0
MapsPiece old piece new = (bytes : List ℕ) → HasMapped bytes old → HasMapped (bytes ++ piece) new

-- whatever bytes were read, they and the piece are at fault, whatever follows
abbrev pub IsPieceFault : List ℕ → EngineFault → Type 0
IsPieceFault bytes (Capture fault) =
    (records : List CaptureParts) × HasCaptureFault records bytes fault.fault × (fault.records ≡ counted records)
IsPieceFault bytes OutOfMemory = Unit {0}
IsPieceFault bytes _ = ⊥

abbrev pub CannotMap : MapReading → List ℕ → EngineFault → Type 0
CannotMap old piece fault = (bytes : List ℕ) → HasMapped bytes old → IsPieceFault (bytes ++ piece) fault

-- the capture may not end here
abbrev pub EndsEarly : MapReading → EngineFault → Type 0
EndsEarly reading (Capture fault) = ¬ IsWholeCapture reading.reader × (fault.records ≡ reading.records)
EndsEarly reading OutOfMemory = Unit {0}
EndsEarly reading _ = ⊥

-- all that a reader gave was read, and is a whole capture
pub record HasReadAll (known : Option (List ℕ)) (reading : MapReading) : Type 0 where
  pub input : List ℕ
  pub is : IfSome known (λ bytes. input ≡ bytes)
  pub mapped : HasMapped input reading
  pub whole : IsWholeCapture reading.reader

-- or why not
abbrev pub HasReadCause : {R : Type 0} → Option (List ℕ) → Device R → EngineFault → Type 0
HasReadCause known reader (Capture fault) = IfSome known (λ input. IsFaultyCapture input fault)
HasReadCause known reader OutOfMemory = Unit {0}
HasReadCause known reader Read = (has_failed reader ≡ true) ⊎ (2 ^ 64 - 1 ≤ given_of reader)
HasReadCause known reader _ = ⊥
