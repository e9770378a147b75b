-- What was taken of an input that comes in pieces, after one more.
use Rattle.std.proofs.Common.{◌≡◌, ℕ, ◌^◌, ◌<◌, Option, Some, None, MatchOption, Result, Ok, Err, OnOk, IfErr, List, [], ◌++◌, length, refl, sym, subst, append-nil, length-append, arith}
use Rattle.text_lines.specs.declared.fault.ParseFault.{ParseFault}
use Rattle.text_lines.specs.Lines.{lines_of}
use Rattle.text_lines.specs.Format.{Format, IsReadingFault}
use Rattle.text_lines.specs.LineReading.{Progress, no_progress, AreTaken, HasTaken, TakesPiece, IsPieceFault, IsSettledFault, HasTakenBytes}
use Rattle.text_lines.proofs.LinesTaken.{AreTaken-none, IsSettledFault-longer}

module _ {State Taker : Type 0} (format : Format State) (start : State) (stands_for : State → Taker → Type 0) where
  -- nothing came yet
  pub bytes-none : (taker : Taker) (progress : Progress) → progress ≡ no_progress → stands_for start taker → HasTakenBytes format start stands_for taker progress []
  bytes-none taker progress is stands =
      subst (λ (p : Progress). HasTakenBytes format start stands_for taker p []) (sym is) (AreTaken-none format start stands_for taker stands)

  abbrev Came : Taker → Progress → List ℕ → Option ParseFault → Type 0
  Came taker progress bytes fault =
      MatchOption fault (AreTaken format start stands_for taker progress.count progress.unfinished bytes) (λ f. length bytes < 2 ^ 64 → IsSettledFault format start bytes f)

  module _ (taker taker' : Taker) (progress progress' : Progress) (bytes piece : List ℕ) where
    -- a piece is taken, or ends the reading
    taken-now : (result : Result (Unit {0}) ParseFault) → progress.fault ≡ None → AreTaken format start stands_for taker progress.count progress.unfinished bytes
        → OnOk result (TakesPiece format stands_for taker progress taker' progress' piece) → IfErr result (IsPieceFault format stands_for taker progress piece)
        → IfErr result (λ f. progress'.fault ≡ Some f) → HasTakenBytes format start stands_for taker' progress' (bytes ++ piece)
    taken-now (Ok done) none are takes fault kept =
        let now = takes start bytes (none, are) in
        subst (Came taker' progress' (bytes ++ piece)) (sym now.0) now.1
    taken-now (Err f) none are takes fault kept =
        subst (Came taker' progress' (bytes ++ piece)) (sym kept)
        (λ few. fault start bytes (none, are) (omega (arith, few, length-append bytes piece)))

    -- or nothing more is taken
    failed-before : (result : Result (Unit {0}) ParseFault) (before : ParseFault) → result ≡ Err before → (length bytes < 2 ^ 64 → IsSettledFault format start bytes before)
        → IfErr result (λ f. progress'.fault ≡ Some f) → HasTakenBytes format start stands_for taker' progress' (bytes ++ piece)
    failed-before result before again settled kept =
        subst (Came taker' progress' (bytes ++ piece))
        (sym (subst (λ r. IfErr r (λ f. progress'.fault ≡ Some f)) again kept))
        (λ few. IsSettledFault-longer format start bytes piece before (settled (omega (arith, few, length-append bytes piece))))

    pub bytes-more : (result : Result (Unit {0}) ParseFault) → OnOk result (TakesPiece format stands_for taker progress taker' progress' piece)
        → IfErr result (IsPieceFault format stands_for taker progress piece) → IfErr result (λ f. progress'.fault ≡ Some f)
        → ((f : ParseFault) → progress.fault ≡ Some f → result ≡ Err f)
        → HasTakenBytes format start stands_for taker progress bytes → HasTakenBytes format start stands_for taker' progress' (bytes ++ piece)
    bytes-more result takes fault kept again was = by_fault progress.fault refl was
      where
        by_fault : (before : Option ParseFault) → progress.fault ≡ before → Came taker progress bytes before → HasTakenBytes format start stands_for taker' progress' (bytes ++ piece)
        by_fault None is are = taken-now result is are takes fault kept
        by_fault (Some f) is settled = failed-before result f (again f is) settled kept

  -- what is reported at the end
  pub bytes-fault : (taker : Taker) (progress : Progress) (bytes : List ℕ) (result : Result (Unit {0}) ParseFault)
      → (HasTaken format start stands_for taker progress bytes → length bytes < 2 ^ 64 → IfErr result (IsReadingFault format start (lines_of bytes)))
      → ((f : ParseFault) → progress.fault ≡ Some f → result ≡ Err f)
      → HasTakenBytes format start stands_for taker progress bytes → length bytes < 2 ^ 64 → IfErr result (IsReadingFault format start (lines_of bytes))
  bytes-fault taker progress bytes result fault again was few = by_fault progress.fault refl was
    where
      by_fault : (before : Option ParseFault) → progress.fault ≡ before → Came taker progress bytes before → IfErr result (IsReadingFault format start (lines_of bytes))
      by_fault None is are = fault (is, are) few
      by_fault (Some f) is settled =
          subst (λ r. IfErr r (IsReadingFault format start (lines_of bytes))) (sym (again f is))
          (subst (λ (b : List ℕ). IsReadingFault format start (lines_of b) f) (append-nil bytes) (settled few []))
