-- A frame of a message against its grammar.
use Rattle.std.proofs.Common.{◌≡◌, ℕ, ◌+◌, ◌-◌, ◌*◌, ◌/◌, ◌%◌, ◌<◌, ◌≤◌, ◌==◌, ◌&&◌, Bool, true, false, cond, leb, IsTrue, List, [], ◌∷◌, ◌++◌, length, get_or, take, drop, Ok, Err, refl, sym, ap, subst, ◌∙◌, arith, append_assoc, length-append, take-append-drop}
use Rattle.std.proofs.lemmas.Bool.{cond-true, le-leb, leb-true, eq-eqb, eqb-true, and_parts, and_from}
use Rattle.std.proofs.lemmas.List.{take_at, drop_at, length-take-le}
use Rattle.std.proofs.Math.Seq.{take-append-add, drop-append-add}
use Rattle.byteorder.specs.Endian.{little_number}
use Rattle.docsis_wire.specs.Checks.{ends_with_its_sequence, frame_check_sequence}
use Rattle.capture.specs.Packet.{two_bytes}
use Rattle.registrations.specs.Message.{length_at, message_of, last_sequence, is_right, is_whole, message_in}
use Rattle.registrations.specs.Frames.{header_front, IsMessageFrame}
use Rattle.registrations.specs.declared.message.NoPart.TheVariants.{OtherFrame, Damaged}

-- the length in the header
length-in : (parameter n : ℕ) (rest : List ℕ) → length_at 2 (header_front parameter n ++ rest) ≡ n
length-in parameter n rest = omega arith

-- the header with its check sequence
header_with : ℕ → ℕ → ℕ → ℕ → List ℕ
header_with parameter n s t = header_front parameter n ++ s ∷ t ∷ []

-- a frame of these parts
module _ (parameter n s t : ℕ) (message last : List ℕ) (counted : n ≡ length message + 4) (four : length last ≡ 4) where
  frame : List ℕ
  frame = header_with parameter n s t ++ (message ++ last)

  long : length frame ≡ length message + 10
  unfolding frame header_with
  long = omega (arith, length-append message last, four)

  front_is : take (length frame - 4) frame ≡ header_with parameter n s t ++ message
  unfolding frame header_with
  front_is =
      ap (take (length frame - 4)) (sym (append_assoc (header_with parameter n s t) message last))
      ∙ take_at (header_with parameter n s t ++ message) last (length frame - 4) (omega (arith, long))

  message_is : message_of frame ≡ message
  unfolding frame header_with
  message_is = ap (drop 6) front_is

  last_is : drop (length frame - 4) frame ≡ last
  unfolding frame header_with
  last_is =
      ap (drop (length frame - 4)) (sym (append_assoc (header_with parameter n s t) message last))
      ∙ drop_at (header_with parameter n s t ++ message) last (length frame - 4) (omega (arith, long))

  -- both check sequences are right
  rights : IsTrue (ends_with_its_sequence (header_with parameter n s t)) → frame_check_sequence message ≡ little_number 4 last → is_right frame ≡ true
  unfolding frame header_with
  rights header_right message_right =
      and_from (ends_with_its_sequence (take 6 frame)) (frame_check_sequence (message_of frame) == last_sequence frame) header_right
      (eq-eqb _ _ (ap frame_check_sequence message_is ∙ message_right ∙ ap (little_number 4) (sym last_is)))

  whole : IsTrue (ends_with_its_sequence (header_with parameter n s t)) → frame_check_sequence message ≡ little_number 4 last → is_whole frame ≡ true
  unfolding frame header_with
  whole header_right message_right =
      and_from (leb 10 (length frame) && length frame == 6 + length_at 2 frame) (is_right frame)
      (and_from (leb 10 (length frame)) (length frame == 6 + length_at 2 frame) (le-leb 10 (length frame) (omega (arith, long)))
      (eq-eqb (length frame) (6 + length_at 2 frame) (omega (arith, long, counted, length-in parameter n (s ∷ t ∷ message ++ last)))))
      (rights header_right message_right)

  -- so the message is found
  found : IsTrue (ends_with_its_sequence (header_with parameter n s t)) → frame_check_sequence message ≡ little_number 4 last → message_in frame ≡ Ok message
  unfolding frame header_with
  found header_right message_right =
      cond-true (is_whole frame) (Ok (message_of frame)) (Err Damaged) (whole header_right message_right) ∙ ap Ok message_is

-- two bytes, one by one
two : (l : List ℕ) → length l ≡ 2 → l ≡ get_or l 0 0 ∷ get_or l 1 0 ∷ []
two [] size = absurd (omega (arith, size))
two (a ∷ []) size = absurd (omega (arith, size))
two (a ∷ b ∷ []) size = refl
two (a ∷ b ∷ c ∷ more) size = absurd (omega (arith, size))

-- what the grammar says is found
pub found_by_grammar : (bytes message : List ℕ) → IsMessageFrame bytes message → message_in bytes ≡ Ok message
unfolding frame header_with
found_by_grammar bytes message g =
    let n = length message + 4 in
    let s = get_or g.sequence 0 0 in
    let t = get_or g.sequence 1 0 in
    let is = two g.sequence g.sequence_is in
    ap message_in (g.spelled ∙ append_assoc (header_front g.parameter n ++ g.sequence) message g.last ∙ ap (λ q. (header_front g.parameter n ++ q) ++ (message ++ g.last)) is)
    ∙ found g.parameter n s t message g.last refl g.last_is (subst (λ q. IsTrue (ends_with_its_sequence (header_front g.parameter n ++ q))) is g.header_right) g.message_right

-- what was found passed both tests
passed_both : (b c : Bool) (m message : List ℕ) → cond b (cond c (Ok m) (Err Damaged)) (Err OtherFrame) ≡ Ok message → (b ≡ true) × (c ≡ true) × (m ≡ message)
passed_both true true m message e = (refl, refl, cc)
passed_both true false m message e = absurd (cc)
passed_both false c m message e = absurd (cc)

-- the six bytes of a header
six : ℕ → ℕ → ℕ → ℕ → ℕ → ℕ → List ℕ
six a b c d s t = a ∷ b ∷ c ∷ d ∷ s ∷ t ∷ []

-- so its bytes are those of the grammar
grammar_of : (a b c d s t : ℕ) (rest message : List ℕ) → d < 256 → a ≡ 0xC2 → is_whole (a ∷ b ∷ c ∷ d ∷ s ∷ t ∷ rest) ≡ true
    → message_of (a ∷ b ∷ c ∷ d ∷ s ∷ t ∷ rest) ≡ message → IsMessageFrame (a ∷ b ∷ c ∷ d ∷ s ∷ t ∷ rest) message
unfolding six
grammar_of a b c d s t rest message byte control tests is =
    let bytes : List ℕ = a ∷ b ∷ c ∷ d ∷ s ∷ t ∷ rest in
    let outer = and_parts (leb 10 (length bytes) && length bytes == 6 + length_at 2 bytes) (is_right bytes) tests in
    let inner = and_parts (leb 10 (length bytes)) (length bytes == 6 + length_at 2 bytes) outer.0 in
    let right = and_parts (ends_with_its_sequence (take 6 bytes)) (frame_check_sequence (message_of bytes) == last_sequence bytes) outer.1 in
    let long : 4 ≤ length rest = omega (arith, leb-true 10 (length bytes) inner.0) in
    let size : length rest ≡ c * 256 + d = omega (arith, eqb-true (length bytes) (6 + length_at 2 bytes) inner.1) in
    let j = length rest - 4 in
    let k : length bytes - 4 ≡ 6 + j = omega (arith, long) in
    let message_at : message_of bytes ≡ take j rest = ap (λ k. drop 6 (take k bytes)) k ∙ ap (drop 6) (take-append-add (six a b c d s t) rest j) in
    let last_at : drop (length bytes - 4) bytes ≡ drop j rest = ap (λ k. drop k bytes) k ∙ drop-append-add (six a b c d s t) rest j in
    let front : take j rest ≡ message = sym message_at ∙ is in
    let parts : rest ≡ message ++ drop j rest = sym (take-append-drop j rest) ∙ ap (λ f. f ++ drop j rest) front in
    let count : length message ≡ j = ap length (sym front) ∙ length-take-le j rest (omega arith) in
    let word : two_bytes (length message + 4) ≡ c ∷ d ∷ [] =
    (let high : (length message + 4) / 256 ≡ c = omega (arith, count, size, byte, long) in
    let low : (length message + 4) % 256 ≡ d = omega (arith, count, size, byte, long) in
    ap (λ x. x ∷ (length message + 4) % 256 ∷ []) high ∙ ap (λ x. c ∷ x ∷ []) low) in
    let header : a ∷ b ∷ c ∷ d ∷ s ∷ t ∷ [] ≡ header_front b (length message + 4) ++ s ∷ t ∷ [] =
    ap (λ x. x ∷ b ∷ c ∷ d ∷ s ∷ t ∷ []) control ∙ ap (λ w. 0xC2 ∷ b ∷ w ++ s ∷ t ∷ []) (sym word) in
    record {
      parameter = b;
      sequence = s ∷ t ∷ [];
      last = drop j rest;
      spelled = ap (λ r. six a b c d s t ++ r) parts ∙ ap (λ h. h ++ (message ++ drop j rest)) header
          ∙ sym (append_assoc (header_front b (length message + 4) ++ s ∷ t ∷ []) message (drop j rest));
      sequence_is = refl;
      last_is = omega (arith, ap length parts, length-append message (drop j rest), count, long);
      header_right = subst (λ h. IsTrue (ends_with_its_sequence h)) header right.0;
      message_right = ap frame_check_sequence (sym is) ∙ eqb-true (frame_check_sequence (message_of bytes)) (last_sequence bytes) right.1 ∙ ap (little_number 4) last_at;
    }

-- a frame has ten bytes
ten : (bytes : List ℕ) → is_whole bytes ≡ true → 10 ≤ length bytes
ten bytes tests =
    let outer = and_parts (leb 10 (length bytes) && length bytes == 6 + length_at 2 bytes) (is_right bytes) tests in
    leb-true 10 (length bytes) (and_parts (leb 10 (length bytes)) (length bytes == 6 + length_at 2 bytes) outer.0).0

by_bytes : (bytes message : List ℕ) → ((i : ℕ) → get_or bytes i 0 < 256) → get_or bytes 0 0 ≡ 0xC2 → is_whole bytes ≡ true → message_of bytes ≡ message
    → IsMessageFrame bytes message
by_bytes (a ∷ b ∷ c ∷ d ∷ s ∷ t ∷ rest) message bytes control tests is = grammar_of a b c d s t rest message (bytes 3) control tests is
by_bytes [] message bytes control tests is = absurd (omega (arith, ten [] tests))
by_bytes (a ∷ []) message bytes control tests is = absurd (omega (arith, ten (a ∷ []) tests))
by_bytes (a ∷ b ∷ []) message bytes control tests is = absurd (omega (arith, ten (a ∷ b ∷ []) tests))
by_bytes (a ∷ b ∷ c ∷ []) message bytes control tests is = absurd (omega (arith, ten (a ∷ b ∷ c ∷ []) tests))
by_bytes (a ∷ b ∷ c ∷ d ∷ []) message bytes control tests is = absurd (omega (arith, ten (a ∷ b ∷ c ∷ d ∷ []) tests))
by_bytes (a ∷ b ∷ c ∷ d ∷ s ∷ []) message bytes control tests is = absurd (omega (arith, ten (a ∷ b ∷ c ∷ d ∷ s ∷ []) tests))

-- what was found is what the grammar says
pub grammar_of_found : (bytes message : List ℕ) → ((i : ℕ) → get_or bytes i 0 < 256) → message_in bytes ≡ Ok message → IsMessageFrame bytes message
grammar_of_found bytes message small e =
    let tests = passed_both (get_or bytes 0 0 == 0xC2) (is_whole bytes) (message_of bytes) message e in
    by_bytes bytes message small (eqb-true (get_or bytes 0 0) 0xC2 tests.0) tests.1 tests.2
