-- The next piece makes its segment at the cursor, and the cursor moves over its chunk.
use Rattle.std.proofs.Common.{◌≡◌, ℕ, ◌+◌, ◌%◌, ◌++◌, Some, length, replicate, slice_get, refl, sym, subst, arith}
use Rattle.std.proofs.lemmas.Option.{slice_get_within, slice_get_read}
use Rattle.docsis_wire.specs.declared.segment.Segment.{Segment}
use Rattle.docsis_wire.specs.Limits.{sequence_modulus}
use Rattle.docsis_wire.specs.Cut.{Points}
use Rattle.docsis_wire.specs.Inside.Cursor.{place_at, chunk_at}
use Rattle.docsis_wire.specs.Pieces.{fill_byte}
use Rattle.docsis_wire.specs.CutUnderWay.{CutUnderWay, GivesNext}
use Rattle.docsis_wire.proofs.LawfulPieces.{MovesOver-from, CanPoint-from_lawful}
use Rattle.docsis_wire.proofs.Made.{IsMade-at}
use Rattle.docsis_wire.proofs.cutter.Cutter.next.Goals as goal

-- the number of segment k is the first one and k, modulo the sequence numbers
next_number : (first k modulus sequence : ℕ) → modulus ≡ sequence_modulus → sequence ≡ (first + k % modulus) % sequence_modulus → sequence ≡ (first + k) % sequence_modulus
next_number first k modulus sequence is h =
    let P : ℕ → Type 0 = λ m. sequence ≡ (first + k % m) % sequence_modulus in
    let number : sequence ≡ (first + k % sequence_modulus) % sequence_modulus = subst P is h in
    omega (arith, number)

pub header_at-head-requires-clause-near : goal.header_at-head-requires-clause-near
header_at-head-requires-clause-near c =
    let cutter = c.self.inside in
    let piece_is : slice_get cutter.pieces.now cutter.made ≡ Some c.in-Some.piece.now = slice_get_read cutter.pieces.now (length cutter.pieces.now) cutter.made c.in-Some.piece.now refl c.in-Some.ensures.lookup.3.0 c.in-Some.ensures.lookup.1 in
    CanPoint-from_lawful cutter.frames.now cutter.pieces.now cutter.made c.in-Some.piece.now cutter.at c.from-2.result piece_is c.from-2.ensures c.self.invariant.place
    (c.self.invariant.lawful cutter.made)

pub invariant_of-self : goal.invariant_of-self
invariant_of-self c =
    let cutter = c.self.inside in
    let piece_is : slice_get cutter.pieces.now cutter.made ≡ Some c.in-Some.piece.now = slice_get_read cutter.pieces.now (length cutter.pieces.now) cutter.made c.in-Some.piece.now refl c.in-Some.ensures.lookup.3.0 c.in-Some.ensures.lookup.1 in
    let over = MovesOver-from cutter.frames.now cutter.pieces.now cutter.made c.in-Some.piece.now cutter.at c.advance.new.at c.from-3.result piece_is c.from-3.ensures
    c.advance.ensures.placed c.self.invariant.place c.advance.ensures.moved in
    record {
      each = c.self.invariant.each;
      lawful = c.self.invariant.lawful;
      first_in_range = c.self.invariant.first_in_range;
      within = omega (arith, slice_get_within cutter.pieces.now cutter.made c.in-Some.piece.now piece_is);
      placed = c.advance.ensures.placed;
      place = over.moved;
    }

pub returns : goal.returns
returns c =
    let cutter = c.self.inside in
    let piece = c.in-Some.piece.now in
    let head = c.header_at-head in
    let segment : Segment = record { head = head.result; payload = chunk_at cutter.frames.now cutter.at piece.bytes ++ replicate piece.fill (fill_byte cutter.fill) } in
    let piece_is : slice_get cutter.pieces.now cutter.made ≡ Some piece = slice_get_read cutter.pieces.now (length cutter.pieces.now) cutter.made c.in-Some.piece.now refl c.in-Some.ensures.lookup.3.0 c.in-Some.ensures.lookup.1 in
    let over = MovesOver-from cutter.frames.now cutter.pieces.now cutter.made piece cutter.at c.advance.new.at c.from-3.result piece_is c.from-3.ensures
    c.advance.ensures.placed c.self.invariant.place c.advance.ensures.moved in
    let P : ℕ → Type 0 = λ n. Points head.result.pfi head.result.pointer cutter.frames.now (place_at cutter.frames.now cutter.at) (chunk_at cutter.frames.now cutter.at n) in
    let number : head.result.sequence ≡ (cutter.first + cutter.made) % sequence_modulus = next_number cutter.first cutter.made c.from.result head.result.sequence c.from.ensures head.ensures.number in
    let after : CutUnderWay = record { frames = cutter.frames.now; pieces = cutter.pieces.now; first = cutter.first; fill = cutter.fill; made = cutter.made + 1 } in
    let Q : CutUnderWay → Type 0 = λ before. GivesNext before after (Some segment) in
    let R : Segment → Type 0 = λ given. GivesNext c.args.self.now after (Some given) in
    subst R (sym c.new-parts.ensures) (subst Q c.self.view_is (
      IsMade-at cutter.frames.now cutter.pieces.now cutter.first (fill_byte cutter.fill) cutter.made piece cutter.at c.advance.new.at segment c.self.invariant.lawful over
          refl (subst P c.from-2.ensures head.ensures.points) number
          record {
            payload = refl;
            no_pointer = head.ensures.no_pointer;
            reserved = head.ensures.reserved;
            cluster = head.ensures.cluster;
            request = head.ensures.request;
            hcs = head.ensures.hcs;
          },
      refl,
    ))
