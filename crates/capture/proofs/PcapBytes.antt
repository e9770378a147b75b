-- The headers of a pcap file and of a record, by their bytes.
use Rattle.std.proofs.Common.{◌≡◌, ℕ, zero, suc, ◌<◌, List, [], ◌∷◌, length, get_or, take, Some, refl, sym, ap, ◌∙◌, arith, length-append, append_assoc}
use Rattle.std.proofs.lemmas.List.{take_at}
use Rattle.std.specs.Int.{w16, w32, from_be_bytes}
use Rattle.capture.specs.declared.endian.Endian.{Endian}
use Rattle.capture.specs.declared.endian.Endian.TheVariants.{Big, Little}
use Rattle.capture.specs.declared.pcap.Resolution.{Resolution}
use Rattle.capture.specs.declared.pcap.Resolution.TheVariants.{Microseconds, Nanoseconds}
use Rattle.capture.specs.declared.pcap.PcapHeader.{PcapHeader}
use Rattle.capture.specs.declared.pcap.RecordHead.{RecordHead}
use Rattle.capture.specs.Endian.{number_bytes}
use Rattle.capture.specs.Pcap.{magic_of, magic_said, header_bytes, head_bytes}

-- a number takes two bytes, or four
pub length-number_2 : (endian : Endian) (n : ℕ) → length (number_bytes endian w16 n) ≡ 2
length-number_2 Big n = refl
length-number_2 Little n = refl

pub length-number_4 : (endian : Endian) (n : ℕ) → length (number_bytes endian w32 n) ≡ 4
length-number_4 Big n = refl
length-number_4 Little n = refl

-- a file's header has 24 bytes, a record's sixteen
pub length-header_bytes : (header : PcapHeader) → length (header_bytes header) ≡ 24
length-header_bytes header =
    let e = header.endian in
    simp length-append (omega (
      arith,
      length-number_4 e (magic_of header.resolution),
      length-number_2 e header.major,
      length-number_2 e header.minor,
      length-number_4 e header.zone,
      length-number_4 e header.accuracy,
      length-number_4 e header.snap_length,
      length-number_4 e header.link_type,
    ))

pub length-head_bytes : (endian : Endian) (head : RecordHead) → length (head_bytes endian head) ≡ 16
length-head_bytes endian head =
    simp length-append (omega (
      arith,
      length-number_4 endian head.seconds,
      length-number_4 endian head.fraction,
      length-number_4 endian head.captured,
      length-number_4 endian head.original,
    ))

-- bytes from the front of bytes are bytes
pub small_front : (n : ℕ) (xs : List ℕ) → ((i : ℕ) → get_or xs i 0 < 256) → (i : ℕ) → get_or (take n xs) i 0 < 256
small_front zero xs small i = omega arith
small_front (suc n) [] small i = omega arith
small_front (suc n) (x ∷ xs) small zero = small 0
small_front (suc n) (x ∷ xs) small (suc i) = small_front n xs (λ j. small (suc j)) i

-- each magic number is known
pub said : (endian : Endian) (resolution : Resolution) → magic_said (from_be_bytes w32 (number_bytes endian w32 (magic_of resolution))) ≡ Some (endian, resolution)
said Big Microseconds = refl
said Big Nanoseconds = refl
said Little Microseconds = refl
said Little Nanoseconds = refl

-- a file's header begins with its magic number
pub front_of_header : (header : PcapHeader) → take 4 (header_bytes header) ≡ number_bytes header.endian w32 (magic_of header.resolution)
front_of_header header = simp append_assoc (take_at _ _ 4 (length-number_4 header.endian (magic_of header.resolution)))

-- four bytes, and two, one by one
cells_4 : (t : List ℕ) → length t ≡ 4 → t ≡ get_or t 0 0 ∷ get_or t 1 0 ∷ get_or t 2 0 ∷ get_or t 3 0 ∷ []
cells_4 (a ∷ b ∷ c ∷ d ∷ []) size = refl
cells_4 [] size = absurd (omega (arith, size))
cells_4 (a ∷ []) size = absurd (omega (arith, size))
cells_4 (a ∷ b ∷ []) size = absurd (omega (arith, size))
cells_4 (a ∷ b ∷ c ∷ []) size = absurd (omega (arith, size))
cells_4 (a ∷ b ∷ c ∷ d ∷ e ∷ more) size = absurd (omega (arith, size))

cells_2 : (t : List ℕ) → length t ≡ 2 → t ≡ get_or t 0 0 ∷ get_or t 1 0 ∷ []
cells_2 (a ∷ b ∷ []) size = refl
cells_2 [] size = absurd (omega (arith, size))
cells_2 (a ∷ []) size = absurd (omega (arith, size))
cells_2 (a ∷ b ∷ c ∷ more) size = absurd (omega (arith, size))

-- the bytes of a number, one by one
pub number_cells_4 : (e : Endian) (n : ℕ) (t : List ℕ) → t ≡ number_bytes e w32 n → get_or t 0 0 ∷ get_or t 1 0 ∷ get_or t 2 0 ∷ get_or t 3 0 ∷ [] ≡ number_bytes e w32 n
number_cells_4 e n t same = sym (cells_4 t (ap length same ∙ length-number_4 e n)) ∙ same

pub number_cells_2 : (e : Endian) (n : ℕ) (t : List ℕ) → t ≡ number_bytes e w16 n → get_or t 0 0 ∷ get_or t 1 0 ∷ [] ≡ number_bytes e w16 n
number_cells_2 e n t same = sym (cells_2 t (ap length same ∙ length-number_2 e n)) ∙ same
