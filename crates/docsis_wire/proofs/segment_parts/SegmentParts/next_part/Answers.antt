use Rattle.std.proofs.Common.{◌≡◌, [], length, sym, ap, ◌∙◌, arith}
use Rattle.std.proofs.lemmas.Bool.{eqb-true}
use Rattle.docsis_wire.specs.declared.segment.Segment.{Segment}
use Rattle.docsis_wire.specs.Inside.Cursor.{chunk_at}
use Rattle.docsis_wire.proofs.Cursors.{chunk_at-none}
use Rattle.docsis_wire.proofs.Parts.{payload_left-after, payload_left-filled, payload_left-none}
use Rattle.docsis_wire.proofs.segment_parts.SegmentParts.next_part.Goals as goal

pub returns-then-not-is_empty-clause-part : goal.returns-then-not-is_empty-clause-part
returns-then-not-is_empty-clause-part c =
    let parts = c.self.inside in
    let part = c.next_part-part in
    sym (ap (λ (s : Segment). s.payload) c.self.view_is)
    ∙ payload_left-after parts.frames.now parts.at part.new.at parts.bytes parts.filling parts.fill part.result.now part.ensures.within part.ensures.moved part.ensures.part

pub returns-then-is_empty-clause-all : goal.returns-then-is_empty-clause-all
returns-then-is_empty-clause-all c = λ _.
    let parts = c.self.inside in
    let part = c.next_part-part in
    let filled = c.fill_part-filled in
    let no_part : length part.result.now ≡ 0 = eqb-true _ _ (sym c.is_empty.ensures ∙ c.if-not-is_empty.false) in
    let no_fill : length filled.result.now ≡ 0 = eqb-true _ _ (sym c.is_empty-2.ensures ∙ c.if-is_empty.true) in
    let none : chunk_at parts.frames.now parts.at parts.bytes ≡ [] = chunk_at-none parts.frames.now parts.at parts.bytes (length part.result.now) c.self.invariant.placed no_part part.ensures.some in
    sym (ap (λ (s : Segment). s.payload) c.self.view_is)
    ∙ payload_left-none parts.frames.now parts.at parts.bytes _ parts.filling parts.fill filled.result.now none filled.ensures (λ no. omega (arith, no)) no_fill

pub returns-clause-part : goal.returns-clause-part
returns-clause-part c =
    let parts = c.self.inside in
    let part = c.next_part-part in
    let filled = c.fill_part-filled in
    let no_part : length part.result.now ≡ 0 = eqb-true _ _ (sym c.is_empty.ensures ∙ c.if-not-is_empty.false) in
    let none : chunk_at parts.frames.now parts.at parts.bytes ≡ [] = chunk_at-none parts.frames.now parts.at parts.bytes (length part.result.now) c.self.invariant.placed no_part part.ensures.some in
    sym (ap (λ (s : Segment). s.payload) c.self.view_is)
    ∙ payload_left-filled parts.frames.now parts.at parts.bytes _ parts.filling parts.fill filled.result.now none filled.ensures (omega arith)
