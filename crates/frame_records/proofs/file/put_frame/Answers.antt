-- What is put is the frame's record.
use Rattle.std.proofs.Common.{◌≡◌, length, ap, ◌∙◌, ◌∷◌, arith}
use Rattle.std.proofs.lemmas.Result.{on_ok_weaker}
use Rattle.capture.specs.Packet.{two_bytes}
use Rattle.frame_records.proofs.PutFrames.{docsis_put, xra_put}
use Rattle.frame_records.proofs.file.put_frame.Goals as goal

pub returns-in-Docsis-clause-ok : goal.returns-in-Docsis-clause-ok
returns-in-Docsis-clause-ok c =
    on_ok_weaker c.put_alone.result
    (docsis_put c.args.link c.args.out.now.items _ c.args.frame.now c.put_alone.new.out.items c.args.time _ c.args.origin.now c.in-Docsis.is
    c.record_head-head.ensures cc)
    c.put_alone.ensures.ok

pub returns-in_ok-tlvs-in-Xra-clause-ok : goal.returns-in_ok-tlvs-in-Xra-clause-ok
returns-in_ok-tlvs-in-Xra-clause-ok c =
    let size : c.len-in-Xra.result ≡ length c.in_ok-tlvs-in-Xra.tlvs.items = omega (arith, c.len-in-Xra.ensures) in
    on_ok_weaker c.put_parts.result
    (xra_put c.args.link c.args.out.now.items _ _ c.deref.result.now c.in_ok-tlvs-in-Xra.tlvs.items c.args.frame.now c.put_parts.new.out.items c.args.time _
    c.args.origin.now c.in-Xra.is c.record_head-head-in-Xra.ensures c.in_ok-tlvs-in-Xra.ensures.ok c.deref.ensures.value
    (c.packet_front-front.ensures ∙ ap (λ n. 1 ∷ 80 ∷ two_bytes n) size) (omega (arith, c.len.ensures)))
    c.put_parts.ensures.ok
