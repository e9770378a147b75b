-- A packet's bytes against its parts.
use Rattle.std.proofs.Common.{◌≡◌, ℕ, ◌<◌, ◌≤◌, ◌/◌, ◌%◌, List, [], ◌∷◌, ◌++◌, length, get_or, take, drop, refl, sym, ap, ◌∙◌, arith, take-append-drop}
use Rattle.std.specs.Int.{w16, from_be_bytes}
use Rattle.std.proofs.lemmas.List.{length-take-le}
use Rattle.capture.specs.Fields.{Field, fields_bytes}
use Rattle.capture.specs.Packet.{Parts, packet_bytes, two_bytes}
use Rattle.capture.proofs.FieldLists.{same_parts, fields_bytes-inj}

-- the number that two bytes say stands in them
two_bytes-read : (n high low : ℕ) → high < 256 → low < 256 → n ≡ from_be_bytes w16 (high ∷ low ∷ []) → two_bytes n ≡ high ∷ low ∷ []
two_bytes-read n high low h l e =
    let front : n / 256 ≡ high = omega (arith, e) in
    let back : n % 256 ≡ low = omega (arith, e) in
    ap (λ m. m ∷ n % 256 ∷ []) front ∙ ap (λ m. high ∷ m ∷ []) back

-- four bytes, one by one
four_bytes : (head : List ℕ) → length head ≡ 4 → head ≡ get_or head 0 0 ∷ get_or head 1 0 ∷ get_or head 2 0 ∷ get_or head 3 0 ∷ []
four_bytes (a ∷ b ∷ c ∷ d ∷ []) size = refl
four_bytes [] size = absurd (omega (arith, size))
four_bytes (a ∷ []) size = absurd (omega (arith, size))
four_bytes (a ∷ b ∷ []) size = absurd (omega (arith, size))
four_bytes (a ∷ b ∷ c ∷ []) size = absurd (omega (arith, size))
four_bytes (a ∷ b ∷ c ∷ d ∷ e ∷ more) size = absurd (omega (arith, size))

-- four bytes of header, TLVs and the rest are a packet
pub packet_bytes-read : (head rest tlvs payload : List ℕ) (n : ℕ) (fields : List Field) → length head ≡ 4 → ((i : ℕ) → i < 4 → get_or head i 0 < 256)
    → n ≡ from_be_bytes w16 (get_or head 2 0 ∷ get_or head 3 0 ∷ []) → n ≤ length rest → tlvs ≡ take n rest → payload ≡ drop n rest → tlvs ≡ fields_bytes fields
    → head ++ rest ≡ packet_bytes (record { version = get_or head 0 0; kind = get_or head 1 0; fields = fields; payload = payload })
packet_bytes-read head rest tlvs payload n fields size in_range e within front back list =
    let high = get_or head 2 0 in
    let low = get_or head 3 0 in
    let long : length (fields_bytes fields) ≡ n = ap length (sym list) ∙ ap length front ∙ length-take-le n rest within in
    let word : two_bytes (length (fields_bytes fields)) ≡ high ∷ low ∷ [] =
    ap two_bytes long ∙ two_bytes-read n high low (in_range 2 (omega arith)) (in_range 3 (omega arith)) e in
    let parts : rest ≡ fields_bytes fields ++ payload =
    sym (take-append-drop n rest) ∙ ap (λ t. t ++ drop n rest) (sym front ∙ list) ∙ ap (λ t. fields_bytes fields ++ t) (sym back) in
    ap (λ h. h ++ rest) (four_bytes head size) ∙ ap (λ t. get_or head 0 0 ∷ get_or head 1 0 ∷ high ∷ low ∷ t) parts
    ∙ ap (λ w. get_or head 0 0 ∷ get_or head 1 0 ∷ w ++ (fields_bytes fields ++ payload)) (sym word)

-- the packet with these parts
parts_with : ℕ → ℕ → List Field → List ℕ → Parts
parts_with version kind fields payload = record { version = version; kind = kind; fields = fields; payload = payload }

-- a packet is known by its parts
same_packet : (p q : Parts) → p.version ≡ q.version → p.kind ≡ q.kind → p.fields ≡ q.fields → p.payload ≡ q.payload → p ≡ q
unfolding parts_with
same_packet p q version kind fields payload =
    ap (λ v. parts_with v p.kind p.fields p.payload) version ∙ ap (λ k. parts_with q.version k p.fields p.payload) kind
    ∙ ap (λ f. parts_with q.version q.kind f p.payload) fields ∙ ap (λ t. parts_with q.version q.kind q.fields t) payload

-- a number is known by its two parts
same_number : (m n : ℕ) → m / 256 ≡ n / 256 → m % 256 ≡ n % 256 → m ≡ n
same_number m n high low = omega arith

-- bytes spell one packet
pub packet_bytes-inj : (p q : Parts) → packet_bytes p ≡ packet_bytes q → p ≡ q
packet_bytes-inj p q e =
    let version : p.version ≡ q.version = cc in
    let kind : p.kind ≡ q.kind = cc in
    let size = same_number (length (fields_bytes p.fields)) (length (fields_bytes q.fields)) (cc) (cc) in
    let rest : fields_bytes p.fields ++ p.payload ≡ fields_bytes q.fields ++ q.payload = cc in
    let parts = same_parts (fields_bytes p.fields) (fields_bytes q.fields) p.payload q.payload size rest in
    same_packet p q version kind (fields_bytes-inj p.fields q.fields parts.0) parts.1
