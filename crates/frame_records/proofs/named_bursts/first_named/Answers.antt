-- One number after another, up to the last or to the most that are looked at.
use Rattle.std.proofs.Common.{◌≡◌, ℕ, List, ◌++◌, length, sym, ap, subst, arith}
use Rattle.frame_records.proofs.FirstIds.{AreGivenOf, more_given, all_given, enough_given}
use Rattle.frame_records.proofs.named_bursts.first_named.Goals as goal

pub loop-ids-init : goal.loop-ids-init
loop-ids-init c = record {
  given = λ fields all e are. record {
    more = fields;
    later = all;
    left = e;
    named = are;
    all_is = sym (ap (λ (first : List ℕ). first ++ all) c.new-first.ensures);
  };
  few = omega (arith, ap length c.new-first.ensures);
}

pub loop-ids-preserved : goal.loop-ids-preserved
loop-ids-preserved c = record {
  given = λ fields all e are.
      subst (λ (first : List ℕ). AreGivenOf all first c.next.new.self.tlvs.now) (sym c.push.ensures.items)
      (more_given all c.loop-ids.first.items c.loop-ids.ids.tlvs.now c.next.new.self.tlvs.now c.in-Some.id (c.loop-ids.invariant.given fields all e are) c.in-Some.ensures.steps.first);
  few = omega (arith, c.push.ensures.len, c.loop-ids-test.true, c.len.ensures.value);
}

pub returns : goal.returns
returns c =
    λ fields all e are.
    enough_given all c.loop-ids.first.items c.loop-ids.ids.tlvs.now (c.loop-ids.invariant.given fields all e are)
    (omega (arith, c.loop-ids.invariant.few, c.loop-ids-test.false, c.len.ensures.value))

pub returns-in-None : goal.returns-in-None
returns-in-None c =
    λ fields all e are.
    all_given all c.loop-ids.first.items c.loop-ids.ids.tlvs.now (c.loop-ids.invariant.given fields all e are) c.loop-ids.invariant.few c.in-None.ensures.steps.first
