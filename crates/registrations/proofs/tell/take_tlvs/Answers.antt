-- One TLV after another, up to the end or to the first that tells nothing.
use Rattle.std.proofs.Common.{length, sym, ap, ◌∙◌}
use Rattle.std.proofs.lemmas.Bool.{eq-eqb, eqb-true, false≢true}
use Rattle.std.proofs.lemmas.List.{nil_from_length}
use Rattle.std.proofs.lemmas.Result.{err_from_is_err_and}
use Rattle.capture.specs.Seen.{field}
use Rattle.registrations.proofs.ToldSoFar.{ToldSoFar-none, ToldSoFar-more, ToldSoFar-all, ToldSoFar-broken, ToldSoFar-fault}
use Rattle.registrations.proofs.tell.take_tlvs.Goals as goal

pub loop-tlv-init : goal.loop-tlv-init
loop-tlv-init g c = ToldSoFar-none (g.T.TakeTlv.tells c.args.taker.now) c.args.tlvs.now c.args.told.now.items

pub loop-tlv-preserved : goal.loop-tlv-preserved
loop-tlv-preserved g c =
    ToldSoFar-more (g.T.TakeTlv.tells c.args.taker.now) c.args.tlvs.now c.loop-tlv.rest.now c.in-Some.after.now c.args.told.now.items c.loop-tlv.told.items c.take.new.told.items
    (field c.in-Some.tlv) c.loop-tlv.invariant c.in-Some.ensures.found c.in_ok-take.ensures.told

pub returns-in_err-take-clause-fault : goal.returns-in_err-take-clause-fault
returns-in_err-take-clause-fault g c =
    let p = err_from_is_err_and c.from_residual.result c.from_residual.ensures.1 in
    rw (p.1, p.2)
    (ToldSoFar-fault (g.T.TakeTlv.tells c.args.taker.now) c.args.tlvs.now c.loop-tlv.rest.now c.in-Some.after.now c.args.told.now.items c.loop-tlv.told.items
    (field c.in-Some.tlv) c.in_err-take.field-0.0 c.loop-tlv.invariant c.in-Some.ensures.found c.in_err-take.ensures.fault)

pub returns-then-is_empty-clause-told : goal.returns-then-is_empty-clause-told
returns-then-is_empty-clause-told g c =
    ToldSoFar-all (g.T.TakeTlv.tells c.args.taker.now) c.args.tlvs.now c.loop-tlv.rest.now c.args.told.now.items c.loop-tlv.told.items c.loop-tlv.invariant
    (nil_from_length c.loop-tlv.rest.now (eqb-true (length c.loop-tlv.rest.now) 0 (sym c.is_empty.ensures ∙ c.if-is_empty.true)))

pub returns-else-is_empty-clause-fault : goal.returns-else-is_empty-clause-fault
returns-else-is_empty-clause-fault g c =
    ToldSoFar-broken (g.T.TakeTlv.tells c.args.taker.now) c.args.tlvs.now c.loop-tlv.rest.now c.args.told.now.items c.loop-tlv.told.items c.loop-tlv.invariant
    (λ none. false≢true (sym c.if-is_empty.false ∙ c.is_empty.ensures ∙ eq-eqb (length c.loop-tlv.rest.now) 0 (ap length none)))
    (λ any after h. false≢true (c.in_default.ensures.only any after h))
