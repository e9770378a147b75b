-- One TLV after another, and none at the end.
use Rattle.std.proofs.Common.{◌≡◌, [], ◌∷◌, ◌++◌, length, sym, ap, ◌∙◌}
use Rattle.std.proofs.lemmas.Bool.{eq-eqb, eqb-true, false≢true}
use Rattle.std.proofs.lemmas.List.{nil_from_length, append-nil}
use Rattle.capture.specs.Fields.{fields_bytes}
use Rattle.capture.specs.Seen.{field}
use Rattle.capture.proofs.FieldLists.{passed, all_passed}
use Rattle.capture.proofs.tlv.are_tlvs.Goals as goal

pub loop-after-preserved : goal.loop-after-preserved
loop-after-preserved c =
    let front = c.loop-after.invariant.0 in
    let tlv = field c.in-Some.field-0-0 in
    (front ++ tlv ∷ [], passed _ _ _ front tlv c.loop-after.invariant.1 c.in-Some.ensures.found)

pub returns : goal.returns
returns c =
    let passed_by = c.loop-after.invariant in
    let rest = c.loop-after.rest.now in (
      λ empty.
          let none : rest ≡ [] = nil_from_length rest (eqb-true (length rest) 0 (sym c.is_empty.ensures ∙ empty)) in
          (passed_by.0, passed_by.1 ∙ ap (λ r. fields_bytes passed_by.0 ++ r) none ∙ append-nil (fields_bytes passed_by.0)),
      λ found.
          let all = all_passed found.0 passed_by.0 c.args.bytes.now rest found.1 passed_by.1 (λ any after h. false≢true (c.in_default.ensures.only any after h)) in
          c.is_empty.ensures ∙ eq-eqb (length rest) 0 (ap length all.1),
    )
