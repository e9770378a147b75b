-- What was taken of the lines of a reader that is read piece by piece.
use Rattle.std.proofs.Common.{◌≡◌, ℕ, ◌+◌, ◌≤◌, List, Option, [], ◌++◌, length, take, refl, sym, ap, subst, ◌∙◌, arith, append-nil, length-append, length-take}
use Rattle.std.specs.Prelude.{IfSome}
use Rattle.std.specs.Io.KnownBytes.{Consumes, IsAtEnd}
use Rattle.std.proofs.KnownBytes.{Consumes-trans, Consumes-all}
use Rattle.std.proofs.lemmas.List.{take-append-le, take-take}
use Rattle.text_lines.specs.Format.{Format, IsReadingFault}
use Rattle.text_lines.specs.Fault.{text_fault_of_parse}
use Rattle.text_lines.specs.LineReading.{Progress, HasTakenBytes}
use Rattle.text_lines.specs.Lines.{lines_of}
use Rattle.text_lines.specs.declared.fault.ParseFault.{ParseFault}
use Rattle.text_lines.specs.declared.fault.ParseFault.TheVariants.{Line, OutOfMemory}
use Rattle.engines.specs.declared.device.Device.{Device}
use Rattle.engines.specs.Device.{inner_of}
use Rattle.engines.specs.Engine.{engine_fault}
use Rattle.engines.specs.LinesRead.{HasLinesCause}

-- the bytes that were taken, line by line, and those that were read besides and stand at the front
-- of the room
pub record HasReadSoFar {R Taker State : Type 0} (remaining : R → Option (List ℕ)) (first now : Device R) (format : Format State)
    (stands_for : State → Taker → Type 0) (fresh taker : Taker) (progress : Progress) (room : List ℕ) (given count : ℕ) : Type 0 where
  pub bytes : List ℕ
  pub given_is : length bytes ≡ given
  pub consumed : Consumes (remaining (inner_of first)) (remaining (inner_of now)) (bytes ++ take count room)
  pub lines : (start : State) → stands_for start fresh → HasTakenBytes format start stands_for taker progress bytes

-- what stands at the front of a room whose front was written anew
pub of_room : (count size : ℕ) (front back : List ℕ) → count ≤ length front → length front ≡ size → take count (take size (front ++ back)) ≡ take count front
of_room count size front back within long = take-take count size (front ++ back) (omega (arith, within, long)) ∙ take-append-le count front back within

module _ {R Taker State : Type 0} (remaining : R → Option (List ℕ)) (first : Device R) (format : Format State) (stands_for : State → Taker → Type 0) (fresh : Taker) where
  -- the first read
  pub so_far-first : (now : Device R) (taker : Taker) (progress : Progress) (room : List ℕ) (count : ℕ)
      → Consumes (remaining (inner_of first)) (remaining (inner_of now)) (take count room)
      → ((start : State) → stands_for start fresh → HasTakenBytes format start stands_for taker progress [])
      → HasReadSoFar remaining first now format stands_for fresh taker progress room 0 count
  so_far-first now taker progress room count consumed lines = record { bytes = []; given_is = refl; consumed = consumed; lines = lines }

  -- what was read is taken, and more is read
  pub so_far-more : (between now : Device R) (taker taker' : Taker) (progress progress' : Progress) (room room' piece : List ℕ) (given count count' : ℕ)
      → HasReadSoFar remaining first between format stands_for fresh taker progress room given count → count ≤ length room → piece ≡ take count room
      → ((start : State) (bytes : List ℕ) → HasTakenBytes format start stands_for taker progress bytes → HasTakenBytes format start stands_for taker' progress' (bytes ++ piece))
      → Consumes (remaining (inner_of between)) (remaining (inner_of now)) (take count' room')
      → HasReadSoFar remaining first now format stands_for fresh taker' progress' room' (given + count) count'
  so_far-more between now taker taker' progress progress' room room' piece given count count' was within is takes consumed = record {
    bytes = was.bytes ++ piece;
    given_is = omega (arith, length-append was.bytes piece, was.given_is, ap length is, length-take count room, within);
    consumed =
        subst (λ (front : List ℕ). Consumes (remaining (inner_of first)) (remaining (inner_of now)) ((was.bytes ++ front) ++ take count' room')) (sym is)
        (Consumes-trans (remaining (inner_of first)) (remaining (inner_of between)) (remaining (inner_of now)) (was.bytes ++ take count room) (take count' room') was.consumed
        consumed);
    lines = λ start stands. takes start was.bytes (was.lines start stands);
  }

  -- at the end all was taken
  pub so_far-all : (now : Device R) (taker : Taker) (progress : Progress) (room : List ℕ) (given : ℕ)
      → (was : HasReadSoFar remaining first now format stands_for fresh taker progress room given 0) → IsAtEnd (remaining (inner_of now))
      → IfSome (remaining (inner_of first)) (λ known. was.bytes ≡ known)
  so_far-all now taker progress room given was end =
      Consumes-all (remaining (inner_of first)) (remaining (inner_of now)) (was.bytes ++ []) [] was.bytes was.consumed end (sym (append-nil was.bytes))

  -- why lines were not read is why those of the reader were not
  pub lines_cause : (reader : Device R) (input : List ℕ) (start : State) → IfSome (remaining (inner_of first)) (λ known. input ≡ known) → (fault : ParseFault)
      → IsReadingFault format start (lines_of input) fault → HasLinesCause format start (remaining (inner_of first)) reader (engine_fault (text_fault_of_parse fault))
  lines_cause reader input start is (Line fault) faulty = (input, is, faulty)
  lines_cause reader input start is OutOfMemory faulty = tt
