-- A MAC management message against its grammar.
use Rattle.std.proofs.Common.{◌≡◌, ℕ, ◌+◌, ◌*◌, ◌/◌, ◌%◌, ◌<◌, ◌≤◌, ◌==◌, ◌&&◌, Bool, true, false, cond, leb, List, [], ◌∷◌, ◌++◌, length, get_or, drop, Ok, Err, refl, sym, ap, subst, ◌∙◌, arith}
use Rattle.std.proofs.lemmas.Bool.{cond-true, le-leb, leb-true, eq-eqb, eqb-true, and_parts, and_from}
use Rattle.byteorder.specs.Endian.{big_number}
use Rattle.capture.specs.Packet.{two_bytes}
use Rattle.registrations.specs.Message.{ManagementParts, length_at, management_in}
use Rattle.registrations.specs.Frames.{IsManagement}
use Rattle.registrations.specs.declared.message.NoPart.TheVariants.{Malformed}

-- six bytes, and four
six : ℕ → ℕ → ℕ → ℕ → ℕ → ℕ → List ℕ
six a b c d e f = a ∷ b ∷ c ∷ d ∷ e ∷ f ∷ []

four : ℕ → ℕ → ℕ → ℕ → List ℕ
four a b c d = a ∷ b ∷ c ∷ d ∷ []

six_of : (l : List ℕ) → length l ≡ 6 → l ≡ six (get_or l 0 0) (get_or l 1 0) (get_or l 2 0) (get_or l 3 0) (get_or l 4 0) (get_or l 5 0)
unfolding six
six_of [] size = absurd (omega (arith, size))
six_of (a ∷ []) size = absurd (omega (arith, size))
six_of (a ∷ b ∷ []) size = absurd (omega (arith, size))
six_of (a ∷ b ∷ c ∷ []) size = absurd (omega (arith, size))
six_of (a ∷ b ∷ c ∷ d ∷ []) size = absurd (omega (arith, size))
six_of (a ∷ b ∷ c ∷ d ∷ e ∷ []) size = absurd (omega (arith, size))
six_of (a ∷ b ∷ c ∷ d ∷ e ∷ f ∷ []) size = refl
six_of (a ∷ b ∷ c ∷ d ∷ e ∷ f ∷ g ∷ more) size = absurd (omega (arith, size))

four_of : (l : List ℕ) → length l ≡ 4 → l ≡ four (get_or l 0 0) (get_or l 1 0) (get_or l 2 0) (get_or l 3 0)
unfolding four
four_of [] size = absurd (omega (arith, size))
four_of (a ∷ []) size = absurd (omega (arith, size))
four_of (a ∷ b ∷ []) size = absurd (omega (arith, size))
four_of (a ∷ b ∷ c ∷ []) size = absurd (omega (arith, size))
four_of (a ∷ b ∷ c ∷ d ∷ []) size = refl
four_of (a ∷ b ∷ c ∷ d ∷ e ∷ more) size = absurd (omega (arith, size))

-- a message by its parts
parts_with : ℕ → ℕ → List ℕ → ManagementParts
parts_with modem kind body = record { modem = modem; kind = kind; body = body }

-- a message of this length is found
found : (d0 d1 d2 d3 d4 d5 s0 s1 s2 s3 s4 s5 h l c0 c1 c2 c3 kind reserved : ℕ) (body : List ℕ) → 6 + length body ≡ h * 256 + l
    → management_in (d0 ∷ d1 ∷ d2 ∷ d3 ∷ d4 ∷ d5 ∷ s0 ∷ s1 ∷ s2 ∷ s3 ∷ s4 ∷ s5 ∷ h ∷ l ∷ c0 ∷ c1 ∷ c2 ∷ c3 ∷ kind ∷ reserved ∷ body) ≡ Ok (parts_with (big_number 6 (six d0 d1 d2 d3 d4 d5)) kind body)
unfolding parts_with six
found d0 d1 d2 d3 d4 d5 s0 s1 s2 s3 s4 s5 h l c0 c1 c2 c3 kind reserved body size =
    let message : List ℕ = d0 ∷ d1 ∷ d2 ∷ d3 ∷ d4 ∷ d5 ∷ s0 ∷ s1 ∷ s2 ∷ s3 ∷ s4 ∷ s5 ∷ h ∷ l ∷ c0 ∷ c1 ∷ c2 ∷ c3 ∷ kind ∷ reserved ∷ body in
    cond-true (leb 20 (length message) && length message == 14 + length_at 12 message) (Ok (parts_with (big_number 6 (six d0 d1 d2 d3 d4 d5)) kind body)) (Err Malformed)
    (and_from (leb 20 (length message)) (length message == 14 + length_at 12 message) (le-leb 20 (length message) (omega arith)) (eq-eqb (length message) (14 + length_at 12 message) (omega (arith, size))))

-- what the grammar says is found
pub management_by_grammar : (message : List ℕ) (parts : ManagementParts) → IsManagement message parts → management_in message ≡ Ok parts
unfolding parts_with six four
management_by_grammar message parts g =
    let n = 6 + length parts.body in
    let d = six_of g.destination g.destination_is in
    let s = six_of g.source g.source_is in
    let c = four_of g.control g.control_is in
    let spelled = g.spelled
    ∙ ap (λ x. x ++ g.source ++ two_bytes n ++ g.control ++ parts.kind ∷ g.reserved ∷ parts.body) d
    ∙ ap (λ x. six (get_or g.destination 0 0) (get_or g.destination 1 0) (get_or g.destination 2 0) (get_or g.destination 3 0) (get_or g.destination 4 0) (get_or g.destination 5 0) ++ x ++ two_bytes n ++ g.control ++ parts.kind ∷ g.reserved ∷ parts.body) s
    ∙ ap (λ x. six (get_or g.destination 0 0) (get_or g.destination 1 0) (get_or g.destination 2 0) (get_or g.destination 3 0) (get_or g.destination 4 0) (get_or g.destination 5 0) ++ six (get_or g.source 0 0) (get_or g.source 1 0) (get_or g.source 2 0) (get_or g.source 3 0) (get_or g.source 4 0) (get_or g.source 5 0) ++ two_bytes n ++ x ++ parts.kind ∷ g.reserved ∷ parts.body) c in
    let number = ap (big_number 6) d in
    ap management_in spelled
    ∙ found (get_or g.destination 0 0) (get_or g.destination 1 0) (get_or g.destination 2 0) (get_or g.destination 3 0) (get_or g.destination 4 0) (get_or g.destination 5 0)
    (get_or g.source 0 0) (get_or g.source 1 0) (get_or g.source 2 0) (get_or g.source 3 0) (get_or g.source 4 0) (get_or g.source 5 0)
    (n / 256) (n % 256) (get_or g.control 0 0) (get_or g.control 1 0) (get_or g.control 2 0) (get_or g.control 3 0) parts.kind g.reserved parts.body (omega arith)
    ∙ ap (λ m. Ok (parts_with m parts.kind parts.body)) (sym number ∙ sym g.modem_is)

-- what was found passed the test
passed : (b : Bool) (x parts : ManagementParts) → cond b (Ok x) (Err Malformed) ≡ Ok parts → (b ≡ true) × (x ≡ parts)
passed true x parts e = (refl, cc)
passed false x parts e = absurd (cc)

tests : (message : List ℕ) (parts : ManagementParts) → management_in message ≡ Ok parts
    → (20 ≤ length message) × (length message ≡ 14 + length_at 12 message) × (parts_with (big_number 6 message) (get_or message 18 0) (drop 20 message) ≡ parts)
unfolding parts_with
tests message parts e =
    let both = passed (leb 20 (length message) && length message == 14 + length_at 12 message) (parts_with (big_number 6 message) (get_or message 18 0) (drop 20 message)) parts e in
    let each = and_parts (leb 20 (length message)) (length message == 14 + length_at 12 message) both.0 in
    (leb-true 20 (length message) each.0, eqb-true (length message) (14 + length_at 12 message) each.1, both.1)

-- behind the two addresses
behind : (d0 d1 d2 d3 d4 d5 s0 s1 s2 s3 s4 s5 : ℕ) (rest : List ℕ) (parts : ManagementParts) → ((i : ℕ) → get_or (d0 ∷ d1 ∷ d2 ∷ d3 ∷ d4 ∷ d5 ∷ s0 ∷ s1 ∷ s2 ∷ s3 ∷ s4 ∷ s5 ∷ rest) i 0 < 256) → management_in (d0 ∷ d1 ∷ d2 ∷ d3 ∷ d4 ∷ d5 ∷ s0 ∷ s1 ∷ s2 ∷ s3 ∷ s4 ∷ s5 ∷ rest) ≡ Ok parts
    → IsManagement (d0 ∷ d1 ∷ d2 ∷ d3 ∷ d4 ∷ d5 ∷ s0 ∷ s1 ∷ s2 ∷ s3 ∷ s4 ∷ s5 ∷ rest) parts
unfolding parts_with six four
behind d0 d1 d2 d3 d4 d5 s0 s1 s2 s3 s4 s5 (h ∷ l ∷ c0 ∷ c1 ∷ c2 ∷ c3 ∷ kind ∷ reserved ∷ body) parts small e =
    let message : List ℕ = d0 ∷ d1 ∷ d2 ∷ d3 ∷ d4 ∷ d5 ∷ s0 ∷ s1 ∷ s2 ∷ s3 ∷ s4 ∷ s5 ∷ h ∷ l ∷ c0 ∷ c1 ∷ c2 ∷ c3 ∷ kind ∷ reserved ∷ body in
    let test = tests message parts e in
    let byte = small 13 in
    let size : 6 + length body ≡ h * 256 + l = omega (arith, test.1) in
    let word : two_bytes (6 + length body) ≡ h ∷ l ∷ [] =
    (let high : (6 + length body) / 256 ≡ h = omega (arith, size, byte) in
    let low : (6 + length body) % 256 ≡ l = omega (arith, size, byte) in
    ap (λ x. x ∷ (6 + length body) % 256 ∷ []) high ∙ ap (λ x. h ∷ x ∷ []) low) in
    subst (IsManagement message) test.2 (record {
      destination = six d0 d1 d2 d3 d4 d5;
      source = six s0 s1 s2 s3 s4 s5;
      control = four c0 c1 c2 c3;
      reserved = reserved;
      spelled = ap (λ w. six d0 d1 d2 d3 d4 d5 ++ six s0 s1 s2 s3 s4 s5 ++ w ++ four c0 c1 c2 c3 ++ kind ∷ reserved ∷ body) (sym word);
      destination_is = refl;
      source_is = refl;
      control_is = refl;
      modem_is = refl;
    })
behind d0 d1 d2 d3 d4 d5 s0 s1 s2 s3 s4 s5 [] parts small e = absurd (omega (arith, (tests (d0 ∷ d1 ∷ d2 ∷ d3 ∷ d4 ∷ d5 ∷ s0 ∷ s1 ∷ s2 ∷ s3 ∷ s4 ∷ s5 ∷ []) parts e).0))
behind d0 d1 d2 d3 d4 d5 s0 s1 s2 s3 s4 s5 (h ∷ []) parts small e = absurd (omega (arith, (tests (d0 ∷ d1 ∷ d2 ∷ d3 ∷ d4 ∷ d5 ∷ s0 ∷ s1 ∷ s2 ∷ s3 ∷ s4 ∷ s5 ∷ h ∷ []) parts e).0))
behind d0 d1 d2 d3 d4 d5 s0 s1 s2 s3 s4 s5 (h ∷ l ∷ []) parts small e = absurd (omega (arith, (tests (d0 ∷ d1 ∷ d2 ∷ d3 ∷ d4 ∷ d5 ∷ s0 ∷ s1 ∷ s2 ∷ s3 ∷ s4 ∷ s5 ∷ h ∷ l ∷ []) parts e).0))
behind d0 d1 d2 d3 d4 d5 s0 s1 s2 s3 s4 s5 (h ∷ l ∷ c0 ∷ []) parts small e = absurd (omega (arith, (tests (d0 ∷ d1 ∷ d2 ∷ d3 ∷ d4 ∷ d5 ∷ s0 ∷ s1 ∷ s2 ∷ s3 ∷ s4 ∷ s5 ∷ h ∷ l ∷ c0 ∷ []) parts e).0))
behind d0 d1 d2 d3 d4 d5 s0 s1 s2 s3 s4 s5 (h ∷ l ∷ c0 ∷ c1 ∷ []) parts small e = absurd (omega (arith, (tests (d0 ∷ d1 ∷ d2 ∷ d3 ∷ d4 ∷ d5 ∷ s0 ∷ s1 ∷ s2 ∷ s3 ∷ s4 ∷ s5 ∷ h ∷ l ∷ c0 ∷ c1 ∷ []) parts e).0))
behind d0 d1 d2 d3 d4 d5 s0 s1 s2 s3 s4 s5 (h ∷ l ∷ c0 ∷ c1 ∷ c2 ∷ []) parts small e = absurd (omega (arith, (tests (d0 ∷ d1 ∷ d2 ∷ d3 ∷ d4 ∷ d5 ∷ s0 ∷ s1 ∷ s2 ∷ s3 ∷ s4 ∷ s5 ∷ h ∷ l ∷ c0 ∷ c1 ∷ c2 ∷ []) parts e).0))
behind d0 d1 d2 d3 d4 d5 s0 s1 s2 s3 s4 s5 (h ∷ l ∷ c0 ∷ c1 ∷ c2 ∷ c3 ∷ []) parts small e = absurd (omega (arith, (tests (d0 ∷ d1 ∷ d2 ∷ d3 ∷ d4 ∷ d5 ∷ s0 ∷ s1 ∷ s2 ∷ s3 ∷ s4 ∷ s5 ∷ h ∷ l ∷ c0 ∷ c1 ∷ c2 ∷ c3 ∷ []) parts e).0))
behind d0 d1 d2 d3 d4 d5 s0 s1 s2 s3 s4 s5 (h ∷ l ∷ c0 ∷ c1 ∷ c2 ∷ c3 ∷ kind ∷ []) parts small e = absurd (omega (arith, (tests (d0 ∷ d1 ∷ d2 ∷ d3 ∷ d4 ∷ d5 ∷ s0 ∷ s1 ∷ s2 ∷ s3 ∷ s4 ∷ s5 ∷ h ∷ l ∷ c0 ∷ c1 ∷ c2 ∷ c3 ∷ kind ∷ []) parts e).0))

-- behind one of them
beyond : (d0 d1 d2 d3 d4 d5 : ℕ) (rest : List ℕ) (parts : ManagementParts) → ((i : ℕ) → get_or (d0 ∷ d1 ∷ d2 ∷ d3 ∷ d4 ∷ d5 ∷ rest) i 0 < 256) → management_in (d0 ∷ d1 ∷ d2 ∷ d3 ∷ d4 ∷ d5 ∷ rest) ≡ Ok parts → IsManagement (d0 ∷ d1 ∷ d2 ∷ d3 ∷ d4 ∷ d5 ∷ rest) parts
beyond d0 d1 d2 d3 d4 d5 (s0 ∷ s1 ∷ s2 ∷ s3 ∷ s4 ∷ s5 ∷ rest) parts small e = behind d0 d1 d2 d3 d4 d5 s0 s1 s2 s3 s4 s5 rest parts small e
beyond d0 d1 d2 d3 d4 d5 [] parts small e = absurd (omega (arith, (tests (d0 ∷ d1 ∷ d2 ∷ d3 ∷ d4 ∷ d5 ∷ []) parts e).0))
beyond d0 d1 d2 d3 d4 d5 (s0 ∷ []) parts small e = absurd (omega (arith, (tests (d0 ∷ d1 ∷ d2 ∷ d3 ∷ d4 ∷ d5 ∷ s0 ∷ []) parts e).0))
beyond d0 d1 d2 d3 d4 d5 (s0 ∷ s1 ∷ []) parts small e = absurd (omega (arith, (tests (d0 ∷ d1 ∷ d2 ∷ d3 ∷ d4 ∷ d5 ∷ s0 ∷ s1 ∷ []) parts e).0))
beyond d0 d1 d2 d3 d4 d5 (s0 ∷ s1 ∷ s2 ∷ []) parts small e = absurd (omega (arith, (tests (d0 ∷ d1 ∷ d2 ∷ d3 ∷ d4 ∷ d5 ∷ s0 ∷ s1 ∷ s2 ∷ []) parts e).0))
beyond d0 d1 d2 d3 d4 d5 (s0 ∷ s1 ∷ s2 ∷ s3 ∷ []) parts small e = absurd (omega (arith, (tests (d0 ∷ d1 ∷ d2 ∷ d3 ∷ d4 ∷ d5 ∷ s0 ∷ s1 ∷ s2 ∷ s3 ∷ []) parts e).0))
beyond d0 d1 d2 d3 d4 d5 (s0 ∷ s1 ∷ s2 ∷ s3 ∷ s4 ∷ []) parts small e = absurd (omega (arith, (tests (d0 ∷ d1 ∷ d2 ∷ d3 ∷ d4 ∷ d5 ∷ s0 ∷ s1 ∷ s2 ∷ s3 ∷ s4 ∷ []) parts e).0))

-- what was found is what the grammar says
pub grammar_of_management : (message : List ℕ) (parts : ManagementParts) → ((i : ℕ) → get_or message i 0 < 256) → management_in message ≡ Ok parts → IsManagement message parts
grammar_of_management (d0 ∷ d1 ∷ d2 ∷ d3 ∷ d4 ∷ d5 ∷ rest) parts small e = beyond d0 d1 d2 d3 d4 d5 rest parts small e
grammar_of_management [] parts small e = absurd (omega (arith, (tests [] parts e).0))
grammar_of_management (d0 ∷ []) parts small e = absurd (omega (arith, (tests (d0 ∷ []) parts e).0))
grammar_of_management (d0 ∷ d1 ∷ []) parts small e = absurd (omega (arith, (tests (d0 ∷ d1 ∷ []) parts e).0))
grammar_of_management (d0 ∷ d1 ∷ d2 ∷ []) parts small e = absurd (omega (arith, (tests (d0 ∷ d1 ∷ d2 ∷ []) parts e).0))
grammar_of_management (d0 ∷ d1 ∷ d2 ∷ d3 ∷ []) parts small e = absurd (omega (arith, (tests (d0 ∷ d1 ∷ d2 ∷ d3 ∷ []) parts e).0))
grammar_of_management (d0 ∷ d1 ∷ d2 ∷ d3 ∷ d4 ∷ []) parts small e = absurd (omega (arith, (tests (d0 ∷ d1 ∷ d2 ∷ d3 ∷ d4 ∷ []) parts e).0))
