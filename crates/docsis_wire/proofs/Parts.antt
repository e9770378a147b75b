-- The parts of a payload, one after another.
use Rattle.std.proofs.Common.{◌≡◌, ℕ, ◌+◌, ◌-◌, ◌≤◌, List, [], ◌++◌, length, replicate, sym, ap, ◌∙◌, arith}
use Rattle.std.proofs.lemmas.List.{append_assoc, length-replicate, replicate-append-replicate}
use Rattle.docsis_wire.specs.declared.cursor.Cursor.{Cursor}
use Rattle.docsis_wire.specs.declared.pieces.FillByte.{FillByte}
use Rattle.docsis_wire.specs.Pieces.{fill_byte}
use Rattle.docsis_wire.specs.Inside.Cursor.{place_at, chunk_at}
use Rattle.docsis_wire.specs.Inside.Parts.{payload_left}
use Rattle.docsis_wire.proofs.Cursors.{chunk_at-after}

-- a part of the frames is taken off what is left
pub payload_left-after : (frames : List (List ℕ)) (at to : Cursor) (bytes filling : ℕ) (fill : FillByte) (part : List ℕ) → length part ≤ bytes → place_at frames to ≡ place_at frames at + length part
    → part ≡ chunk_at frames at (length part) → payload_left frames at bytes filling fill ≡ part ++ payload_left frames to (bytes - length part) filling fill
payload_left-after frames at to bytes filling fill part within moved part_is =
    let filled : List ℕ = replicate filling (fill_byte fill) in
    ap (λ t. t ++ filled) (chunk_at-after frames at to bytes part within moved part_is) ∙ append_assoc part (chunk_at frames to (bytes - length part)) filled

-- where the frames have nothing left, some of the fill is taken off it
pub payload_left-filled : (frames : List (List ℕ)) (at : Cursor) (bytes n filling : ℕ) (fill : FillByte) (part : List ℕ) → chunk_at frames at bytes ≡ [] → part ≡ replicate n (fill_byte fill) → n ≤ filling
    → payload_left frames at bytes filling fill ≡ part ++ replicate (filling - length part) (fill_byte fill)
payload_left-filled frames at bytes n filling fill part none part_is within =
    let size : length part ≡ n = ap length part_is ∙ length-replicate n (fill_byte fill) in
    let whole : n + (filling - length part) ≡ filling = omega (arith, size) in
    ap (λ t. t ++ replicate filling (fill_byte fill)) none ∙ ap (λ k. replicate k (fill_byte fill)) (sym whole)
    ∙ sym (replicate-append-replicate n (filling - length part) (fill_byte fill)) ∙ ap (λ t. t ++ replicate (filling - length part) (fill_byte fill)) (sym part_is)

-- where there is no fill either, nothing is left
pub payload_left-none : (frames : List (List ℕ)) (at : Cursor) (bytes n filling : ℕ) (fill : FillByte) (part : List ℕ) → chunk_at frames at bytes ≡ [] → part ≡ replicate n (fill_byte fill)
    → (n ≡ 0 → filling ≡ 0) → length part ≡ 0 → payload_left frames at bytes filling fill ≡ []
payload_left-none frames at bytes n filling fill part none part_is whole empty =
    let size : length part ≡ n = ap length part_is ∙ length-replicate n (fill_byte fill) in
    ap (λ t. t ++ replicate filling (fill_byte fill)) none ∙ ap (λ k. replicate k (fill_byte fill)) (whole (omega (arith, size, empty)))
