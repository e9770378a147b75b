use Rattle.registrations.proofs.FieldsOfBytes.{fields_of-bytes, fields_of-found}
use Rattle.registrations.proofs.laws.tlvs_that_are_found_spell_the_bytes.Goals as goal

pub returns : goal.returns
returns c = λ bytes fields. (fields_of-found bytes fields, fields_of-bytes bytes fields)
