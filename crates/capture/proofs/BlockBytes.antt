-- The bytes of a block's body, by their parts.
use Rattle.std.proofs.Common.{◌≡◌, ℕ, List, [], ◌∷◌, ◌++◌, length, drop, Option, sym, ap, ◌∙◌, append_assoc, subst}
use Rattle.std.proofs.lemmas.List.{drop_at}
use Rattle.std.specs.Int.{w16, w32}
use Rattle.capture.specs.declared.endian.Endian.{Endian}
use Rattle.capture.specs.declared.pcapng.BlockKind.TheVariants.{SectionHeader}
use Rattle.capture.specs.declared.pcapng.Interface.{Interface}
use Rattle.capture.specs.declared.pcapng_packet.PacketHead.{PacketHead}
use Rattle.capture.specs.Endian.{number_bytes}
use Rattle.capture.specs.Pcapng.{Block, block_kind}
use Rattle.capture.specs.PcapngBlocks.{SectionParts, CaptureParts, captured_packet, BeginsSection, SaysBy, Says}
use Rattle.capture.proofs.FieldLists.{same_parts}
use Rattle.capture.proofs.PcapBytes.{length-number_2, length-number_4}

-- what comes after a number of two bytes and six more
pub options_at : (e : Endian) (m n : ℕ) (rest unread options : List ℕ) → number_bytes e w16 m ++ rest ≡ number_bytes e w16 n ++ unread ++ options → length unread ≡ 6
    → drop 6 rest ≡ options
options_at e m n rest unread options same six =
    let parts = same_parts (number_bytes e w16 m) (number_bytes e w16 n) rest (unread ++ options) (length-number_2 e m ∙ sym (length-number_2 e n))
    (same ∙ append_assoc (number_bytes e w16 n) unread options) in
    ap (drop 6) parts.1 ∙ drop_at unread options 6 six

-- a number of four bytes, whatever follows it
pub same_word : (e : Endian) (m n : ℕ) (x y : List ℕ) → number_bytes e w32 m ++ x ≡ number_bytes e w32 n ++ y → number_bytes e w32 m ≡ number_bytes e w32 n
same_word e m n x y same = (same_parts (number_bytes e w32 m) (number_bytes e w32 n) x y (length-number_4 e m ∙ sym (length-number_4 e n)) same).0

-- what a packet that was captured has
parts_with : ℕ → ℕ → ℕ → List ℕ → CaptureParts
parts_with link_type nanoseconds original bytes = record { link_type = link_type; nanoseconds = nanoseconds; original = original; bytes = bytes }

pub same_packet : (interface : Interface) (head : PacketHead) (bytes : List ℕ) (given : CaptureParts) → given.link_type ≡ interface.link_type
    → given.nanoseconds ≡ (captured_packet interface head bytes).nanoseconds → given.original ≡ head.original → given.bytes ≡ bytes
    → given ∷ [] ≡ captured_packet interface head bytes ∷ []
unfolding parts_with
same_packet interface head bytes given link time original same =
    ap (λ one. one ∷ [])
    (ap (λ n. parts_with n given.nanoseconds given.original given.bytes) link
    ∙ ap (λ n. parts_with interface.link_type n given.original given.bytes) time
    ∙ ap (λ n. parts_with interface.link_type (captured_packet interface head bytes).nanoseconds n given.bytes) original
    ∙ ap (λ n. parts_with interface.link_type (captured_packet interface head bytes).nanoseconds head.original n) same)

-- a section header says that a section begins
pub section_begins : (before : Option SectionParts) (block : Block) (after : SectionParts) (given : List CaptureParts) → block_kind block.number ≡ SectionHeader
    → BeginsSection block after given → Says before block after given
section_begins before block after given kind begins = subst (λ k. SaysBy k before block after given) (sym kind) begins
