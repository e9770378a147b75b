-- One TLV after another, and none at the end.
use Rattle.std.proofs.Common.{[], ◌∷◌, ◌++◌, sym, ap, ◌∙◌}
use Rattle.std.proofs.lemmas.Bool.{false≢true}
use Rattle.capture.specs.Fields.{last_value}
use Rattle.capture.specs.Seen.{field}
use Rattle.capture.proofs.FieldLists.{passed, all_passed}
use Rattle.capture.proofs.LastValues.{newer_of}
use Rattle.capture.proofs.tlv.last_value.Goals as goal

pub loop-tlv-preserved : goal.loop-tlv-preserved
loop-tlv-preserved c =
    let front = c.loop-tlv.invariant.0 in
    let tlv = field c.in-Some.tlv in (
      front ++ tlv ∷ [],
      passed _ _ _ front tlv c.loop-tlv.invariant.1 c.in-Some.ensures.found,
      newer_of c.args.kind front tlv _ _ c.loop-tlv.invariant.2 c.newer-last.ensures,
    )

pub returns : goal.returns
returns c =
    let found = c.loop-tlv.invariant in
    λ fields e.
    let all = all_passed fields found.0 c.args.tlvs.now c.loop-tlv.rest.now e found.1 (λ any after h. false≢true (c.in_default.ensures.only any after h)) in
    found.2 ∙ ap (last_value c.args.kind) (sym all.0)
