use Rattle.std.proofs.Common.{◌<◌, ◌≤◌, inl, inr, refl, sym, subst, ap, ◌∙◌, length, List, ℕ, take}
use Rattle.std.proofs.lemmas.Bool.{cases_lt}
use Rattle.docsis_wire.specs.Limits.{header_length}
use Rattle.docsis_wire.specs.SegmentBytes.{PointsPast}
use Rattle.lane.specs.Limits.{grant_max}
use Rattle.captured_flows.proofs.captured_burst.sound.Goals as goal

pub returns-clause-sound : goal.returns-clause-sound
returns-clause-sound c = record {
  check = c.if-not-burst.false;
  small = subst (λ n. n ≤ grant_max) c.granted_to-granted.ensures c.if-granted-gt-GRANT_MAX.false;
  long = elim (cases_lt (length c.args.burst.bytes) header_length) [
    | inl less ↦ let short = c.head_of.ensures.too_short.1 (subst (λ (bytes : List ℕ). length bytes < header_length) (sym c.as_slice.ensures) less) in let is = c.in-Ok.is in absurd (cc)
    | inr enough ↦ enough
  ];
  inside = λ past. (let beyond = c.head_of.ensures.pointer_past.1 (subst PointsPast (sym c.as_slice.ensures) past) in let is = c.in-Ok.is in absurd (cc));
  head = c.in-Ok.head;
  spelled = c.in-Ok.ensures.spelled ∙ ap (take header_length) c.as_slice.ensures;
  time = refl;
  channel_is = refl;
  number = refl;
  sid_is = refl;
  burst_id = refl;
  granted = c.granted_to-granted.ensures;
  bytes = refl;
}
