-- A section was begun, and nothing is kept.
use Rattle.std.proofs.Common.{option_map, refl, ap, sym, arith}
use Rattle.std.proofs.lemmas.List.{nil_from_length}
use Rattle.std.proofs.lemmas.Bool.{eqb-true}
use Rattle.capture.specs.Inside.BlockStages.{passing_of}
use Rattle.capture.proofs.pcapng_reader.PcapngReader.finish.Goals as goal

pub returns-in-Head-Some-clause-end : goal.returns-in-Head-Some-clause-end
returns-in-Head-Some-clause-end c =
    let pending = c.self.inside.pending in
    let interfaces = c.self.inside.section.interfaces.items in
    let none = eqb-true _ 0 (sym c.if-is_empty.ensures) in (
      λ _. rw (← c.self.view_is) (record {
        section = record { endian = c.in-Head-Some.field-0-1; interfaces = interfaces };
        section_is = ap (λ o. option_map (λ endian. record { endian = endian; interfaces = interfaces }) o) c.in-Head-Some.is-1;
        none = ap passing_of c.in-Head-Some.is-0;
        nothing = nil_from_length pending.items (omega (arith, pending.ok.0, none));
        no_fault = c.in_default.is;
      }),
      λ _. refl,
    )
