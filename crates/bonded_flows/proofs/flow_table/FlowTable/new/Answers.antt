-- A new table stands for nothing.
use Rattle.std.proofs.Common.{[], ◌≡◌, ℕ, Some, length, slice_get, refl, sym, subst, arith, inl, inr}
use Rattle.std.proofs.lemmas.Option.{slice_get_within, slice_get_cases}
use Rattle.bonded_flows.specs.Slots.{IsNewSlot}
use Rattle.bonded_flows.proofs.NewTable.{new-stands}
use Rattle.bonded_flows.proofs.flow_table.FlowTable.new.Goals as goal

pub returns-clause-stands : goal.returns-clause-stands
returns-clause-stands g c = record {
  check_is = refl;
  flow_count = c.in_ok-slots.ensures.count;
  flows = λ k flow_record slot of_record there.
      let inside = slice_get_within c.args.records.now k flow_record of_record in
      let many : length c.in_ok-sets.sets.items ≡ length c.args.records.now = c.in_ok-sets.ensures.count in
      elim (slice_get_cases c.in_ok-sets.sets.items k).1 [
        | inl found ↦
            new-stands _ (record { rule = c.args.rule; records = c.args.records.now; channels = c.args.channels; rows = c.args.rows.now }) k flow_record slot found.0
            (subst (λ (n : ℕ). IsNewSlot k c.args.rule flow_record found.0 n slot) c.from.ensures
            (c.in_ok-slots.ensures.each k flow_record found.0 slot of_record (subst (λ sets. slice_get sets k ≡ Some found.0) (sym c.deref.ensures.value) found.2) there)) c.requires.channels (c.in_ok-sets.ensures.sets k found.0 found.2)
            (c.requires.records.1.each k flow_record of_record)
        | inr past ↦ let beyond = past.0 in absurd (omega arith)
      ];
  others = λ k beyond. refl;
}

pub returns-clause-in_use : goal.returns-clause-in_use
returns-clause-in_use g c = record { check = _; made = _; history = []; given = []; stands = returns-clause-stands g c }

pub returns-clause-at_rest : goal.returns-clause-at_rest
returns-clause-at_rest g c = λ k slot there.
    let inside = slice_get_within c.in_ok-slots.slots.items k slot there in
    let as_many = c.in_ok-slots.ensures.count in
    let many : length c.in_ok-sets.sets.items ≡ length c.args.records.now = c.in_ok-sets.ensures.count in
    elim (slice_get_cases c.args.records.now k).1 [
      | inl of_record ↦ elim (slice_get_cases c.in_ok-sets.sets.items k).1 [
        | inl found ↦
            let new = c.in_ok-slots.ensures.each k of_record.0 found.0 slot of_record.2 (subst (λ sets. slice_get sets k ≡ Some found.0) (sym c.deref.ensures.value) found.2) there in
            λ flow some. let none = new.none in absurd cc
        | inr past ↦ let beyond = past.0 in absurd (omega arith)
      ]
      | inr past ↦ let beyond = past.0 in absurd (omega arith)
    ]
