-- One TLV after another, and none at the end.
use Rattle.std.proofs.Common.{[], ◌∷◌, ◌++◌, length, sym, ap, ◌∙◌}
use Rattle.std.proofs.lemmas.Bool.{eq-eqb, false≢true}
use Rattle.capture.specs.Burst.{values_of}
use Rattle.capture.specs.Seen.{field}
use Rattle.capture.proofs.FieldLists.{passed, all_passed}
use Rattle.capture.proofs.LastValues.{newer_of, same_values}
use Rattle.capture.proofs.burst.last_values.Goals as goal

pub loop-tlv-preserved : goal.loop-tlv-preserved
loop-tlv-preserved c =
    let front = c.loop-tlv.invariant.0 in
    let tlv = field c.in-Some.tlv in
    let before = c.loop-tlv.invariant.2 in (
      front ++ tlv ∷ [],
      passed _ _ _ front tlv c.loop-tlv.invariant.1 c.in-Some.ensures.found,
      same_values _ _
          (newer_of 18 front tlv _ _ (ap (λ v. v.segment_header) before) c.with_tlv-values.ensures.segment_header)
          (newer_of 10 front tlv _ _ (ap (λ v. v.channel) before) c.with_tlv-values.ensures.channel)
          (newer_of 11 front tlv _ _ (ap (λ v. v.sid) before) c.with_tlv-values.ensures.sid)
          (newer_of 17 front tlv _ _ (ap (λ v. v.grant) before) c.with_tlv-values.ensures.grant)
          (newer_of 13 front tlv _ _ (ap (λ v. v.burst_id) before) c.with_tlv-values.ensures.burst_id),
    )

pub returns-then-is_empty-clause-values : goal.returns-then-is_empty-clause-values
returns-then-is_empty-clause-values c =
    let found = c.loop-tlv.invariant in
    λ fields e.
    let all = all_passed fields found.0 c.args.tlvs.now c.loop-tlv.rest.now e found.1 (λ any after h. false≢true (c.in_default.ensures.only any after h)) in
    found.2 ∙ ap values_of (sym all.0)

pub returns-else-is_empty-clause-values : goal.returns-else-is_empty-clause-values
returns-else-is_empty-clause-values c =
    let found = c.loop-tlv.invariant in
    let rest = c.loop-tlv.rest.now in
    λ fields e.
    let all = all_passed fields found.0 c.args.tlvs.now rest e found.1 (λ any after h. false≢true (c.in_default.ensures.only any after h)) in
    false≢true (sym c.if-is_empty.false ∙ c.is_empty.ensures ∙ eq-eqb (length rest) 0 (ap length all.1))
