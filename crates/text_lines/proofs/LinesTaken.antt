-- The bytes that were taken so far, and how more are.
use Rattle.std.proofs.Common.{◌≡◌, ℕ, ◌+◌, ◌-◌, ◌^◌, ◌<◌, min, List, [], ◌∷◌, ◌++◌, length, refl, sym, ap, ◌∙◌, subst, append_assoc, append-nil, arith, length-append}
use Rattle.text_lines.specs.declared.fault.ParseFault.{ParseFault}
use Rattle.text_lines.specs.declared.fault.ParseFault.TheVariants as parse_fault
use Rattle.text_lines.specs.Lines.{line_feed, is_line_feed, lines_of, fields_of}
use Rattle.text_lines.specs.Inside.LineFault.{IsFaultAt}
use Rattle.text_lines.specs.Inside.LineFeeds.{HasNoLineFeed, BeginsWithLine}
use Rattle.text_lines.specs.Format.{Format, IsRead, no_lines, skipped, taken, IsReadingFault}
use Rattle.text_lines.specs.LineReading.{AreTaken, IsSettledFault}
use Rattle.text_lines.proofs.CutAtLineFeeds.{parts-longer, parts-next, lines_of-ended, lines_of-last, lines_of-none, fewer_parts}

-- lines are read, and then others
IsRead-append : {State : Type 0} {format : Format State} {before between after : State} {lines : List (List ℕ)} (more : List (List ℕ))
    → IsRead format before lines between → IsRead format between more after → IsRead format before (lines ++ more) after
IsRead-append more no_lines rest = rest
IsRead-append more (skipped none read) rest = skipped none (IsRead-append more read rest)
IsRead-append more (taken takes read) rest = taken takes (IsRead-append more read rest)

-- a line whose fields are taken is read
pub taken_line : {State : Type 0} (format : Format State) (Stands : State → Type 0) (before : State) (line : List ℕ) (fields : List (List ℕ))
    → fields_of line ≡ fields → (after : State) × format.Takes before fields after × Stands after
    → (after : State) × IsRead format before (line ∷ []) after × Stands after
taken_line format Stands before line fields are takes =
    (takes.0, taken (subst (λ fields. format.Takes before fields takes.0) (sym are) takes.1) no_lines, takes.2)

-- a fault that nothing can change stays one whatever follows
pub IsSettledFault-longer : {State : Type 0} (format : Format State) (start : State) (bytes more : List ℕ) (fault : ParseFault)
    → IsSettledFault format start bytes fault → IsSettledFault format start (bytes ++ more) fault
IsSettledFault-longer format start bytes more fault settled = λ others.
    subst (λ input. IsReadingFault format start (lines_of input) fault) (sym (append_assoc bytes more others)) (settled (more ++ others))

module _ {State Taker : Type 0} (format : Format State) (start : State) (stands_for : State → Taker → Type 0) (taker : Taker) where
  -- nothing was taken yet
  pub AreTaken-none : stands_for start taker → AreTaken format start stands_for taker 0 [] []
  AreTaken-none stands = record { lines = []; parts = refl; counted = refl; state = start; read = no_lines; stands = stands }

  module _ (count : ℕ) (unfinished bytes : List ℕ) (h : AreTaken format start stands_for taker count unfinished bytes) where
    -- the unfinished line goes on
    pub AreTaken-longer : (more : List ℕ) → HasNoLineFeed more → AreTaken format start stands_for taker count (unfinished ++ more) (bytes ++ more)
    AreTaken-longer more none = record {
      lines = h.lines;
      parts = parts-longer bytes h.lines unfinished h.parts more none;
      counted = h.counted;
      state = h.state;
      read = h.read;
      stands = h.stands;
    }

    -- it ends, and is read
    pub AreTaken-line : (taker' : Taker) (count' : ℕ) → count' ≡ min (count + 1) (2 ^ 64 - 1)
        → (after : State) × IsRead format h.state (unfinished ∷ []) after × stands_for after taker'
        → AreTaken format start stands_for taker' count' [] (bytes ++ line_feed ∷ [])
    AreTaken-line taker' count' next read = record {
      lines = h.lines ++ unfinished ∷ [];
      parts = parts-next bytes h.lines unfinished h.parts;
      counted = omega (arith, h.counted, next, length-append h.lines (unfinished ∷ []));
      state = read.0;
      read = IsRead-append (unfinished ∷ []) h.read read.1;
      stands = read.2;
    }

    -- it ends, and has a fault
    pub IsSettledFault-line : (count' : ℕ) (fault : ParseFault) → count' ≡ min (count + 1) (2 ^ 64 - 1) → length bytes + 1 < 2 ^ 64
        → IsFaultAt count' (format.HasFault h.state (fields_of unfinished)) fault → IsSettledFault format start (bytes ++ line_feed ∷ []) fault
    IsSettledFault-line count' (parse_fault.Line fault) next few has = λ more. record {
      above = h.lines;
      line = unfinished;
      below = lines_of more;
      are = ap lines_of (append_assoc bytes (line_feed ∷ []) more) ∙ lines_of-ended bytes h.lines unfinished h.parts more;
      state = h.state;
      read = h.read;
      number = omega (arith, h.counted, next, has.0, fewer_parts is_line_feed bytes h.lines unfinished h.parts);
      kind = has.1;
    }
    IsSettledFault-line count' parse_fault.OutOfMemory next few has = λ more. tt

    -- nothing follows the last line feed
    pub read_without_last : unfinished ≡ [] → (end : State) × IsRead format start (lines_of bytes) end × stands_for end taker
    read_without_last none =
        (h.state, subst (λ lines. IsRead format start lines h.state) (sym (lines_of-none bytes h.lines unfinished h.parts none)) h.read, h.stands)

    -- the last line is read
    pub read_with_last : (taker' : Taker) → 0 < length unfinished → (after : State) × IsRead format h.state (unfinished ∷ []) after × stands_for after taker'
        → (end : State) × IsRead format start (lines_of bytes) end × stands_for end taker'
    read_with_last taker' some read =
        (read.0, subst (λ lines. IsRead format start lines read.0) (sym (lines_of-last bytes h.lines unfinished h.parts some)) (IsRead-append (unfinished ∷ []) h.read read.1), read.2)

    -- it has a fault
    pub IsReadingFault-last : (count' : ℕ) (fault : ParseFault) → count' ≡ min (count + 1) (2 ^ 64 - 1) → 0 < length unfinished → length bytes < 2 ^ 64
        → IsFaultAt count' (format.HasFault h.state (fields_of unfinished)) fault → IsReadingFault format start (lines_of bytes) fault
    IsReadingFault-last count' (parse_fault.Line fault) next some few has = record {
      above = h.lines;
      line = unfinished;
      below = [];
      are = lines_of-last bytes h.lines unfinished h.parts some;
      state = h.state;
      read = h.read;
      number = omega (arith, h.counted, next, has.0, fewer_parts is_line_feed bytes h.lines unfinished h.parts);
      kind = has.1;
    }
    IsReadingFault-last count' parse_fault.OutOfMemory next some few has = tt

-- The lines of a text that end before this rest of it were taken, after whatever bytes.
pub record HasWalked {State Taker : Type 0} (format : Format State) (stands_for : State → Taker → Type 0) (taker taker' : Taker) (count count' : ℕ)
    (text rest : List ℕ) : Type 0 where
  pub walked : List ℕ
  pub text_is : text ≡ walked ++ rest
  pub taken : (start : State) (bytes : List ℕ) → AreTaken format start stands_for taker count [] bytes
      → AreTaken format start stands_for taker' count' [] (bytes ++ walked)

module _ {State Taker : Type 0} (format : Format State) (stands_for : State → Taker → Type 0) (taker : Taker) (count : ℕ) (text : List ℕ) where
  -- none were
  pub HasWalked-none : HasWalked format stands_for taker taker count count text text
  HasWalked-none = record {
    walked = [];
    text_is = refl;
    taken = λ start bytes h. subst (λ bytes. AreTaken format start stands_for taker count [] bytes) (sym (append-nil bytes)) h;
  }

  module _ (taker' : Taker) (count' : ℕ) (rest : List ℕ) (h : HasWalked format stands_for taker taker' count count' text rest) where
    -- what was taken before the next line, and its bytes
    pub before_line : (line : List ℕ) → HasNoLineFeed line → (start : State) (bytes : List ℕ) → AreTaken format start stands_for taker count [] bytes
        → AreTaken format start stands_for taker' count' line (bytes ++ h.walked ++ line)
    before_line line none start bytes before =
        AreTaken-longer format start stands_for taker' count' [] (bytes ++ h.walked) (h.taken start bytes before) line none

    -- the text from there on
    text_from : (line below : List ℕ) → BeginsWithLine rest line below → text ≡ h.walked ++ (line ++ line_feed ∷ below)
    text_from line below begins = h.text_is ∙ ap (λ rest. h.walked ++ rest) begins.spelled

    -- one more line was taken
    pub HasWalked-line : (line below : List ℕ) (taker'' : Taker) (count'' : ℕ) → BeginsWithLine rest line below → count'' ≡ min (count' + 1) (2 ^ 64 - 1)
        → ((before : State) → stands_for before taker' → (after : State) × IsRead format before (line ∷ []) after × stands_for after taker'')
        → HasWalked format stands_for taker taker'' count count'' text below
    HasWalked-line line below taker'' count'' begins next reads = record {
      walked = h.walked ++ (line ++ line_feed ∷ []);
      text_is = text_from line below begins ∙ simp append_assoc;
      taken = λ start bytes before.
          let here = before_line line begins.none start bytes before in
          let read = AreTaken-line format start stands_for taker' count' line (bytes ++ h.walked ++ line) here taker'' count'' next (reads here.state here.stands) in
          subst (λ bytes. AreTaken format start stands_for taker'' count'' [] bytes) (simp append_assoc) read;
    }

    -- the rest of the text is no whole line
    pub HasWalked-all : HasNoLineFeed rest → (start : State) (bytes : List ℕ) → AreTaken format start stands_for taker count [] bytes
        → AreTaken format start stands_for taker' count' rest (bytes ++ text)
    HasWalked-all none start bytes before =
        let here = before_line rest none start bytes before in
        subst (λ bytes. AreTaken format start stands_for taker' count' rest bytes) (append_assoc bytes h.walked rest ∙ ap (λ text. bytes ++ text) (sym h.text_is)) here

    -- the next line has a fault
    pub HasWalked-fault : (line below : List ℕ) (count'' : ℕ) (fault : ParseFault) → BeginsWithLine rest line below → count'' ≡ min (count' + 1) (2 ^ 64 - 1)
        → ((before : State) → stands_for before taker' → IsFaultAt count'' (format.HasFault before (fields_of line)) fault)
        → (start : State) (bytes : List ℕ) → AreTaken format start stands_for taker count [] bytes → length bytes + length text < 2 ^ 64
        → IsSettledFault format start (bytes ++ text) fault
    HasWalked-fault line below count'' fault begins next has start bytes before few =
        let here = before_line line begins.none start bytes before in
        let within : length (bytes ++ h.walked ++ line) + 1 < 2 ^ 64 = omega (arith, length-append {A = ℕ}, ap length (text_from line below begins)) in
        let settled = IsSettledFault-line format start stands_for taker' count' line (bytes ++ h.walked ++ line) here count'' fault next within (has here.state here.stands) in
        let all = IsSettledFault-longer format start (bytes ++ h.walked ++ line ++ line_feed ∷ []) below fault settled in
        let whole : bytes ++ h.walked ++ line ++ line_feed ∷ [] ++ below ≡ bytes ++ (h.walked ++ (line ++ line_feed ∷ below)) = simp append_assoc in
        subst (λ bytes. IsSettledFault format start bytes fault) (whole ∙ ap (λ text. bytes ++ text) (sym (text_from line below begins))) all
