-- Bytes of a capture that are read one after another.
use Rattle.std.proofs.Common.{◌≡◌, ℕ, List, [], ◌++◌, refl, sym, ap, subst, ◌∙◌, append-nil, append_assoc}
use Rattle.engines.specs.declared.fault.EngineFault.{EngineFault}
use Rattle.capture_engines.specs.Inside.Reading.{HasMapped, MapsSome, MapsPiece, IsPieceFault, CannotMap}
use Rattle.capture_engines.specs.declared.map_reading.MapReading.{MapReading}

-- nothing of a piece was read
pub some_none : (now : MapReading) (piece : List ℕ) → MapsSome now piece piece now
some_none now piece bytes has = ([], refl, subst (λ (all : List ℕ). HasMapped all now) (sym (append-nil bytes)) has)

-- and then more of it
pub some_more : (first now next : MapReading) (piece rest left : List ℕ) → MapsSome first piece rest now → MapsSome now rest left next → MapsSome first piece left next
some_more first now next piece rest left so_far more bytes has =
    let before = so_far bytes has in
    let after = more (bytes ++ before.0) before.2 in (
      before.0 ++ after.0,
      before.1 ∙ ap (λ (t : List ℕ). before.0 ++ t) after.1 ∙ sym (append_assoc before.0 after.0 left),
      subst (λ (all : List ℕ). HasMapped all next) (append_assoc bytes before.0 after.0) after.2,
    )

-- all of it
pub some_all : (first now : MapReading) (piece rest : List ℕ) → MapsSome first piece rest now → rest ≡ [] → MapsPiece first piece now
some_all first now piece rest so_far none bytes has =
    let before = so_far bytes has in
    subst (λ (all : List ℕ). HasMapped (bytes ++ all) now) (sym (before.1 ∙ ap (λ (t : List ℕ). before.0 ++ t) none ∙ append-nil before.0)) before.2

-- or a fault in it
pub some_fault : (first now : MapReading) (piece rest : List ℕ) (fault : EngineFault) → MapsSome first piece rest now → CannotMap now rest fault → CannotMap first piece fault
some_fault first now piece rest fault so_far cannot bytes has =
    let before = so_far bytes has in
    subst (λ (all : List ℕ). IsPieceFault all fault)
    (append_assoc bytes before.0 rest ∙ ap (λ (t : List ℕ). bytes ++ t) (sym before.1)) (cannot (bytes ++ before.0) before.2)
