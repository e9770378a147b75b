-- What was told of how far a capture was read.
use Rattle.std.proofs.Common.{◌≡◌, ◌⊎◌, inl, inr, ℕ, ◌+◌, ◌-◌, ◌^◌, min, Option, List, [], ◌∷◌, ◌++◌, length, sym, subst, ◌∙◌, length-append, arith}
use Rattle.std.specs.Io.KnownBytes.{Keeps, Consumes}
use Rattle.std.proofs.KnownBytes.{Consumes-nil, Consumes-trans, Consumes-kept}
use Rattle.capture_map.specs.declared.map.CaptureMap.{CaptureMap}
use Rattle.capture_summary.specs.declared.flow_summary.FlowSummary.{FlowSummary}
use Rattle.engines.specs.declared.device.Device.{Device}
use Rattle.engines.specs.Device.{inner_of, given_of}
use Rattle.frame_engine.specs.declared.settings.CaptureSettings.{CaptureSettings}
use Rattle.frame_engine.specs.declared.frame_reading.FrameReading.{FrameReading}
use Rattle.frame_engine.specs.declared.progress.CaptureProgress.{CaptureProgress}
use Rattle.frame_engine.specs.Inside.Joins.{HasReadBytes}
use Rattle.frame_engine.specs.Progress.{KeepsTold, TakesProgress, IsProgressOf, TellsProgress, IsProgressAt, AreProgressOf, none_told, read_on, one_told, HasToldProgress}

counted_plain : (given given' count a b : ℕ) → given ≡ min a (2 ^ 64 - 1) → given' ≡ min (given + count) (2 ^ 64 - 1) → count ≡ b → given' ≡ min (a + b) (2 ^ 64 - 1)
counted_plain given given' count a b was is long = grind arith

-- a reader that counts these bytes counts more behind them
counted_more : (bytes more : List ℕ) (given given' count : ℕ) → given ≡ min (length bytes) (2 ^ 64 - 1) → given' ≡ min (given + count) (2 ^ 64 - 1) → count ≡ length more
    → given' ≡ min (length (bytes ++ more)) (2 ^ 64 - 1)
counted_more bytes more given given' count was is long =
    subst (λ (n : ℕ). given' ≡ min n (2 ^ 64 - 1)) (sym (length-append bytes more)) (counted_plain given given' count (length bytes) (length more) was is long)

-- it was told how far the reading is, or passed over
pub tells : {P : Type 0} (after : P → List CaptureProgress → P → Type 0) (reading : FrameReading) (flows : List FlowSummary) (bytes : ℕ) (progress : CaptureProgress) (old middle new : P)
    → KeepsTold after old middle → IsProgressOf reading flows bytes progress → TakesProgress after middle progress new → TellsProgress reading after flows bytes old new
tells {P} after reading flows bytes progress old middle new kept is takes start told came = by_case (takes start told (kept start told came)) where
  by_case : after start told new ⊎ after start (told ++ progress ∷ []) new
      → after start told new ⊎ ((progress : CaptureProgress) × IsProgressOf reading flows bytes progress × after start (told ++ progress ∷ []) new)
  by_case (inl same) = inl same
  by_case (inr more) = inr (progress, is, more)

module _ {R P : Type 0} (remaining : R → Option (List ℕ)) (after : P → List CaptureProgress → P → Type 0) (settings : CaptureSettings) (capture_map : CaptureMap) (reader : Device R)
    (start : P) where
  -- So far these bytes were read and joined, which are as many as the reader counts, and this was
  -- told.
  pub record TellsSoFar (reader' : Device R) (reading : FrameReading) (end : P) : Type 0 where
    pub bytes : List ℕ
    pub written : List ℕ
    pub has : HasReadBytes settings capture_map bytes written reading
    pub read : Consumes (remaining (inner_of reader)) (remaining (inner_of reader')) bytes
    pub count : given_of reader' ≡ min (length bytes) (2 ^ 64 - 1)
    pub told : List CaptureProgress
    pub are : AreProgressOf settings capture_map bytes told
    pub came : after start told end

  -- nothing was read or told
  pub told-nothing : (end : P) → after start [] end → HasToldProgress settings capture_map remaining after reader reader start end
  told-nothing end came = record { bytes = []; read = Consumes-nil (remaining (inner_of reader)); told = []; are = none_told; came = came }

  pub told-begun : (written : List ℕ) (reading : FrameReading) (end : P) → HasReadBytes settings capture_map [] written reading → given_of reader ≡ 0 → after start [] end
      → TellsSoFar reader reading end
  told-begun written reading end has none came = record {
    bytes = [];
    written = written;
    has = has;
    read = Consumes-nil (remaining (inner_of reader));
    count = none;
    told = [];
    are = none_told;
    came = came;
  }

  module _ (reader' : Device R) (reading : FrameReading) (end : P) (far : TellsSoFar reader' reading end) (reader'' : Device R) where
    -- no more was read
    pub told-unread : Keeps (remaining (inner_of reader')) (remaining (inner_of reader'')) → HasToldProgress settings capture_map remaining after reader reader'' start end
    told-unread kept = record {
      bytes = far.bytes;
      read = Consumes-kept (remaining (inner_of reader)) (remaining (inner_of reader')) (remaining (inner_of reader'')) far.bytes far.read kept;
      told = far.told;
      are = far.are;
      came = far.came;
    }

    module _ (piece : List ℕ) (read : Consumes (remaining (inner_of reader')) (remaining (inner_of reader'')) piece) where
      read_both : Consumes (remaining (inner_of reader)) (remaining (inner_of reader'')) (far.bytes ++ piece)
      read_both = Consumes-trans (remaining (inner_of reader)) (remaining (inner_of reader')) (remaining (inner_of reader'')) far.bytes piece far.read read

      -- more was read, and nothing was told of it
      pub told-read : HasToldProgress settings capture_map remaining after reader reader'' start end
      told-read = record { bytes = far.bytes ++ piece; read = read_both; told = far.told; are = read_on piece far.are; came = far.came }

      -- more was read and joined, and it may be told how far that is
      pub told-more : (count : ℕ) (written : List ℕ) (reading' : FrameReading) (flows : List FlowSummary) (end' : P) → given_of reader'' ≡ min (given_of reader' + count) (2 ^ 64 - 1)
          → count ≡ length piece → HasReadBytes settings capture_map (far.bytes ++ piece) written reading'
          → TellsProgress reading' after flows (given_of reader'') end end' → TellsSoFar reader'' reading' end'
      told-more count written reading' flows end' given long has tells = by_case (tells start far.told far.came) where
        count_is : given_of reader'' ≡ min (length (far.bytes ++ piece)) (2 ^ 64 - 1)
        count_is = counted_more far.bytes piece (given_of reader') (given_of reader'') count far.count given long

        at : (progress : CaptureProgress) → IsProgressOf reading' flows (given_of reader'') progress → IsProgressAt settings capture_map (far.bytes ++ piece) progress
        at progress is = record {
          reading = reading';
          written = written;
          has = has;
          flows = flows;
          is = subst (λ (n : ℕ). IsProgressOf reading' flows n progress) count_is is;
          records_are = is.records_are ∙ has.joined.count;
        }

        by_case : after start far.told end' ⊎ ((progress : CaptureProgress) × IsProgressOf reading' flows (given_of reader'') progress × after start (far.told ++ progress ∷ []) end')
            → TellsSoFar reader'' reading' end'
        by_case (inl came) = record {
          bytes = far.bytes ++ piece;
          written = written;
          has = has;
          read = read_both;
          count = count_is;
          told = far.told;
          are = read_on piece far.are;
          came = came;
        }
        by_case (inr tells) = record {
          bytes = far.bytes ++ piece;
          written = written;
          has = has;
          read = read_both;
          count = count_is;
          told = far.told ++ tells.0 ∷ [];
          are = one_told tells.0 (read_on piece far.are) (at tells.0 tells.1);
          came = tells.2;
        }
