-- What a reader of lines takes of one piece.
use Rattle.std.proofs.Common.{◌≡◌, ℕ, ◌+◌, ◌-◌, ◌^◌, ◌<◌, min, List, [], ◌∷◌, ◌++◌, length, sym, ap, ◌∙◌, subst, append_assoc, arith, length-append}
use Rattle.text_lines.specs.declared.fault.ParseFault.{ParseFault}
use Rattle.text_lines.specs.Lines.{line_feed, fields_of}
use Rattle.text_lines.specs.Inside.LineFault.{IsFaultAt}
use Rattle.text_lines.specs.Inside.LineFeeds.{HasNoLineFeed, BeginsWithLine}
use Rattle.text_lines.specs.Format.{Format, IsRead}
use Rattle.text_lines.specs.LineReading.{Progress, HasTaken, TakesPiece, IsSettledFault, IsPieceFault, AreTaken}
use Rattle.text_lines.proofs.LinesTaken.{AreTaken-longer, AreTaken-line, IsSettledFault-line, IsSettledFault-longer}

module _ {State Taker : Type 0} (format : Format State) (stands_for : State → Taker → Type 0) (taker : Taker) (progress : Progress) where
  -- no line ends in the piece
  pub TakesPiece-none : (piece longer : List ℕ) → HasNoLineFeed piece → longer ≡ progress.unfinished ++ piece
      → TakesPiece format stands_for taker progress taker (record progress { unfinished = longer }) piece
  TakesPiece-none piece longer none is = λ start bytes h.
      let goes_on = AreTaken-longer format start stands_for taker progress.count progress.unfinished bytes h.1 piece none in
      (h.0, subst (λ line. AreTaken format start stands_for taker progress.count line (bytes ++ piece)) (sym is) goes_on)

  -- the unfinished line ends so
  module _ (end line : List ℕ) (none : HasNoLineFeed end) (is : line ≡ progress.unfinished ++ end) (count' : ℕ) (next : count' ≡ min (progress.count + 1) (2 ^ 64 - 1)) where
    -- what was taken up to its end
    ended : (start : State) (bytes : List ℕ) → HasTaken format start stands_for taker progress bytes → AreTaken format start stands_for taker progress.count line (bytes ++ end)
    ended start bytes h =
        let goes_on = AreTaken-longer format start stands_for taker progress.count progress.unfinished bytes h.1 end none in
        subst (λ line. AreTaken format start stands_for taker progress.count line (bytes ++ end)) (sym is) goes_on

    -- it is taken
    pub TakesPiece-end : (taker' : Taker) (left : List ℕ) → left ≡ []
        → ((before : State) → stands_for before taker → (after : State) × IsRead format before (line ∷ []) after × stands_for after taker')
        → TakesPiece format stands_for taker progress taker' (record progress { count = count'; unfinished = left }) (end ++ line_feed ∷ [])
    TakesPiece-end taker' left empty reads = λ start bytes h.
        let here = ended start bytes h in
        let read = AreTaken-line format start stands_for taker progress.count line (bytes ++ end) here taker' count' next (reads here.state here.stands) in
        let nothing = subst (λ left. AreTaken format start stands_for taker' count' left (bytes ++ end ++ line_feed ∷ [])) (sym empty) read in
        (h.0, subst (λ bytes. AreTaken format start stands_for taker' count' left bytes) (append_assoc bytes end (line_feed ∷ [])) nothing)

    -- it has a fault
    pub IsPieceFault-end : (fault : ParseFault) → ((before : State) → stands_for before taker → IsFaultAt count' (format.HasFault before (fields_of line)) fault)
        → IsPieceFault format stands_for taker progress (end ++ line_feed ∷ []) fault
    IsPieceFault-end fault has = λ start bytes h few.
        let here = ended start bytes h in
        let within : length (bytes ++ end) + 1 < 2 ^ 64 = omega (arith, length-append {A = ℕ}) in
        let settled = IsSettledFault-line format start stands_for taker progress.count line (bytes ++ end) here count' fault next within (has here.state here.stands) in
        subst (λ bytes. IsSettledFault format start bytes fault) (append_assoc bytes end (line_feed ∷ [])) settled

  -- one piece is taken, and then another
  pub TakesPiece-append : (taker' taker'' : Taker) (progress' progress'' : Progress) (first second : List ℕ)
      → TakesPiece format stands_for taker progress taker' progress' first → TakesPiece format stands_for taker' progress' taker'' progress'' second
      → TakesPiece format stands_for taker progress taker'' progress'' (first ++ second)
  TakesPiece-append taker' taker'' progress' progress'' first second one other = λ start bytes h.
      subst (HasTaken format start stands_for taker'' progress'') (append_assoc bytes first second) (other start (bytes ++ first) (one start bytes h))

  -- the first of them has a fault
  pub IsPieceFault-first : (first second : List ℕ) (fault : ParseFault) → IsPieceFault format stands_for taker progress first fault
      → IsPieceFault format stands_for taker progress (first ++ second) fault
  IsPieceFault-first first second fault one = λ start bytes h few.
      let within : length bytes + length first < 2 ^ 64 = omega (arith, length-append first second) in
      subst (λ bytes. IsSettledFault format start bytes fault) (append_assoc bytes first second)
      (IsSettledFault-longer format start (bytes ++ first) second fault (one start bytes h within))

  -- or the second
  pub IsPieceFault-second : (taker' : Taker) (progress' : Progress) (first second : List ℕ) (fault : ParseFault)
      → TakesPiece format stands_for taker progress taker' progress' first → IsPieceFault format stands_for taker' progress' second fault
      → IsPieceFault format stands_for taker progress (first ++ second) fault
  IsPieceFault-second taker' progress' first second fault one other = λ start bytes h few.
      let within : length (bytes ++ first) + length second < 2 ^ 64 = omega (arith, length-append bytes first, length-append first second) in
      subst (λ bytes. IsSettledFault format start bytes fault) (append_assoc bytes first second) (other start (bytes ++ first) (one start bytes h) within)

  -- where nothing is unfinished, a piece is taken as its whole lines are
  module _ (empty : progress.unfinished ≡ []) (piece : List ℕ) where
    -- what was taken before
    begun : (start : State) (bytes : List ℕ) → HasTaken format start stands_for taker progress bytes → AreTaken format start stands_for taker progress.count [] bytes
    begun start bytes h = subst (λ line. AreTaken format start stands_for taker progress.count line bytes) empty h.1

    -- they are taken
    pub TakesPiece-whole : (taker' : Taker) (count' : ℕ) (rest left : List ℕ) → left ≡ progress.unfinished ++ rest
        → ((start : State) (bytes : List ℕ) → AreTaken format start stands_for taker progress.count [] bytes → AreTaken format start stands_for taker' count' rest (bytes ++ piece))
        → TakesPiece format stands_for taker progress taker' (record progress { count = count'; unfinished = left }) piece
    TakesPiece-whole taker' count' rest left is takes = λ start bytes h.
        let same : rest ≡ left = sym (is ∙ ap (λ front. front ++ rest) empty) in
        (h.0, subst (λ line. AreTaken format start stands_for taker' count' line (bytes ++ piece)) same (takes start bytes (begun start bytes h)))

    -- one of them has a fault
    pub IsPieceFault-whole : (fault : ParseFault)
        → ((start : State) (bytes : List ℕ) → AreTaken format start stands_for taker progress.count [] bytes → length bytes + length piece < 2 ^ 64 → IsSettledFault format start (bytes ++ piece) fault)
        → IsPieceFault format stands_for taker progress piece fault
    IsPieceFault-whole fault has = λ start bytes h few. has start bytes (begun start bytes h) few

-- a piece in which a line ends: what ends it, and what follows
pub piece_in_two : (piece end below : List ℕ) → BeginsWithLine piece end below → (end ++ line_feed ∷ []) ++ below ≡ piece
piece_in_two piece end below begins = append_assoc end (line_feed ∷ []) below ∙ sym begins.spelled
