-- By the list of TLVs that the bytes are.
use Rattle.std.proofs.Common.{Some, sym, ap, ◌∙◌}
use Rattle.std.proofs.lemmas.Bool.{both_ways}
use Rattle.capture.specs.Fields.{last_value}
use Rattle.registrations.specs.Values.{◌>>=◌}
use Rattle.registrations.proofs.FieldsOfBytes.{fields_of-bytes, fields_of-none}
use Rattle.registrations.proofs.values.value_if_there.Goals as goal

pub returns-then-not-are_tlvs : goal.returns-then-not-are_tlvs
returns-then-not-are_tlvs c =
    sym (ap (λ found. found >>= (λ fields. Some (last_value c.args.kind fields)))
    (fields_of-none c.args.tlvs.now (λ fields e. both_ways c.are_tlvs.result (c.if-not-are_tlvs.true) (c.are_tlvs.ensures.1 (fields, e)))))

pub returns : goal.returns
returns c =
    let fields = c.are_tlvs.ensures.0 c.if-not-are_tlvs.false in
    ap Some (c.last_value.ensures fields.0 fields.1)
    ∙ sym (ap (λ found. found >>= (λ fs. Some (last_value c.args.kind fs))) (fields_of-bytes c.args.tlvs.now fields.0 fields.1))
