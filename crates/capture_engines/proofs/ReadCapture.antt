-- A capture that is read piece by piece.
use Rattle.std.proofs.Common.{◌≡◌, ℕ, Option, Some, None, List, [], ◌++◌, refl, subst, ◌∙◌, append-nil}
use Rattle.std.specs.Prelude.{IfSome}
use Rattle.std.specs.Io.KnownBytes.{Consumes, IsAtEnd}
use Rattle.std.proofs.KnownBytes.{Consumes-nil, Consumes-trans, Consumes-all}
use Rattle.capture.specs.Captures.{IsWholeCapture}
use Rattle.engines.specs.declared.device.Device.{Device}
use Rattle.engines.specs.declared.fault.EngineFault.{EngineFault}
use Rattle.engines.specs.declared.fault.EngineFault.TheVariants.{Trace, Cut, Capture, OutOfMemory, Read, Write, Usage}
use Rattle.engines.specs.declared.fault.PlacedFault.{PlacedFault}
use Rattle.engines.specs.Device.{inner_of, has_failed}
use Rattle.capture_engines.specs.Mapping.{IsFaultyCapture, within, at_end}
use Rattle.capture_engines.specs.Inside.Reading.{HasMapped, MapsPiece, IsPieceFault, CannotMap, EndsEarly, HasReadAll, HasReadCause}
use Rattle.capture_engines.specs.declared.map_reading.MapReading.{MapReading}

module _ {R : Type 0} (remaining : R → Option (List ℕ)) (reader : Device R) where
  -- these bytes were read so far
  pub record ReadsSoFar (reader' : Device R) (reading : MapReading) : Type 0 where
    pub bytes : List ℕ
    pub read : Consumes (remaining (inner_of reader)) (remaining (inner_of reader')) bytes
    pub mapped : HasMapped bytes reading
    pub sound : has_failed reader' ≡ has_failed reader

  pub far_none : (reading : MapReading) → HasMapped [] reading → ReadsSoFar reader reading
  far_none reading has = record { bytes = []; read = Consumes-nil (remaining (inner_of reader)); mapped = has; sound = refl }

  module _ (reader' : Device R) (reading : MapReading) (far : ReadsSoFar reader' reading) (reader'' : Device R) where
    module _ (piece : List ℕ) (read : Consumes (remaining (inner_of reader')) (remaining (inner_of reader'')) piece) where
      read_both : Consumes (remaining (inner_of reader)) (remaining (inner_of reader'')) (far.bytes ++ piece)
      read_both = Consumes-trans (remaining (inner_of reader)) (remaining (inner_of reader')) (remaining (inner_of reader'')) far.bytes piece far.read read

      -- a piece more
      pub far_more : (reading' : MapReading) → has_failed reader'' ≡ has_failed reader' → MapsPiece reading piece reading' → ReadsSoFar reader'' reading'
      far_more reading' sound maps = record { bytes = far.bytes ++ piece; read = read_both; mapped = maps far.bytes far.mapped; sound = sound ∙ far.sound }

      -- of what is known a fault in its front
      known_fault : (known left : Option (List ℕ)) (bytes : List ℕ) (fault : PlacedFault) → Consumes known left bytes → IsPieceFault bytes (Capture fault)
          → IfSome known (λ input. IsFaultyCapture input fault)
      known_fault None left bytes fault read is = tt
      known_fault (Some input) None bytes fault read is = absurd read
      known_fault (Some input) (Some left) bytes fault read is = within is.0 bytes left read is.1 is.2

      cause_of : (fault : EngineFault) → IsPieceFault (far.bytes ++ piece) fault → HasReadCause (remaining (inner_of reader)) reader'' fault
      cause_of (Capture fault) is = known_fault (remaining (inner_of reader)) (remaining (inner_of reader'')) (far.bytes ++ piece) fault read_both is
      cause_of OutOfMemory is = tt
      cause_of (Trace fault) is = absurd is
      cause_of (Cut fault) is = absurd is
      cause_of Read is = absurd is
      cause_of Write is = absurd is
      cause_of Usage is = absurd is

      pub far_fault : (fault : EngineFault) → CannotMap reading piece fault → HasReadCause (remaining (inner_of reader)) reader'' fault
      far_fault fault cannot = cause_of fault (cannot far.bytes far.mapped)

    -- the end
    module _ (read : Consumes (remaining (inner_of reader')) (remaining (inner_of reader'')) []) (end : IsAtEnd (remaining (inner_of reader''))) where
      read_all : Consumes (remaining (inner_of reader)) (remaining (inner_of reader'')) far.bytes
      read_all =
          subst (λ (bytes : List ℕ). Consumes (remaining (inner_of reader)) (remaining (inner_of reader'')) bytes) (append-nil far.bytes)
          (Consumes-trans (remaining (inner_of reader)) (remaining (inner_of reader')) (remaining (inner_of reader'')) far.bytes [] far.read read)

      all_known : IfSome (remaining (inner_of reader)) (λ input. far.bytes ≡ input)
      all_known = Consumes-all (remaining (inner_of reader)) (remaining (inner_of reader'')) far.bytes [] far.bytes read_all end refl

      pub far_whole : IsWholeCapture reading.reader → HasReadAll (remaining (inner_of reader)) reading
      far_whole whole = record { input = far.bytes; is = all_known; mapped = far.mapped; whole = whole }

      known_early : (known : Option (List ℕ)) (fault : PlacedFault) → IfSome known (λ input. far.bytes ≡ input) → EndsEarly reading (Capture fault)
          → IfSome known (λ input. IsFaultyCapture input fault)
      known_early None fault same early = tt
      known_early (Some input) fault same early =
          subst (λ (all : List ℕ). IsFaultyCapture all fault) same
          (at_end far.mapped.records reading.reader far.mapped.captured early.0 (early.1 ∙ far.mapped.told.count))

      pub far_early : (fault : EngineFault) → EndsEarly reading fault → HasReadCause (remaining (inner_of reader)) reader'' fault
      far_early (Capture fault) early = known_early (remaining (inner_of reader)) fault all_known early
      far_early OutOfMemory early = tt
      far_early (Trace fault) early = absurd early
      far_early (Cut fault) early = absurd early
      far_early Read early = absurd early
      far_early Write early = absurd early
      far_early Usage early = absurd early
