-- One TLV after another, up to the first that names a burst.
use Rattle.std.proofs.Common.{length, arith, ap, length-append}
use Rattle.std.proofs.lemmas.Bool.{false≢true}
use Rattle.capture.specs.Fields.{field_bytes}
use Rattle.capture.specs.Seen.{field}
use Rattle.frame_records.proofs.FirstIds.{one_passed, one_found, none_found, names_none}
use Rattle.frame_records.proofs.named_bursts.first_id.Goals as goal

pub loop-tlv-preserved : goal.loop-tlv-preserved
loop-tlv-preserved c =
    let tlv = field c.in-Some.tlv in
    let front = c.in-Some.ensures.found in
    record {
      left = λ fields e. one_passed fields tlv _ _ front (names_none tlv c.in_default-id_in.ensures.only) (c.loop-tlv.invariant.left fields e);
      shorter = omega (arith, ap length front, length-append (field_bytes tlv) c.in-Some.after.now);
    }

pub returns-in-Some-id_in-clause-first : goal.returns-in-Some-id_in-clause-first
returns-in-Some-id_in-clause-first c =
    λ fields e. one_found fields (field c.in-Some.tlv) _ _ _ c.in-Some.ensures.found c.in-Some-id_in.ensures.found (c.loop-tlv.invariant.left fields e)

pub returns-clause-first : goal.returns-clause-first
returns-clause-first c =
    λ fields e.
    none_found fields c.loop-tlv.rest.now (λ any after h. false≢true (c.in_default.ensures.only any after h)) (c.loop-tlv.invariant.left fields e)
