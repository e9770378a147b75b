use Rattle.std.proofs.Common.{ℕ, replicate, sym, subst}
use Rattle.docsis_wire.specs.Cut.{IsLawfulCut}
use Rattle.flow_core.specs.Fates.{Fates, no_fates, IsKept}
use Rattle.flow_core.specs.Events.{gap, IsAfter}
use Rattle.flow_core.specs.Near.{AreNear}
use Rattle.flow_core.proofs.Nearness.{numbered_of_cut}
use Rattle.flow_core.proofs.OneFates.{after-once}
use Rattle.flow_core.proofs.Turns.{leads-split}
use Rattle.loss_rule.specs.Rule.{no_lasts}
use Rattle.loss_rule.proofs.RuledTurns.{rules-lead}
use Rattle.loss_rule.proofs.Taking.{falls-taken}
use Rattle.loss_rule.proofs.AllKept.{kept-as, kept-came, events-near}
use Rattle.loss_rule.proofs.AllCame.{frames-all_came}
use Rattle.loss_rule.proofs.laws.closed_flow_gives_the_frames_that_all_came.Goals as goal

pub returns : goal.returns
returns c = λ check frames chunks fill n segments rule flow flow_record comings index_at events noted fates given counts looks narrow first width cut order fall safely are outcome closed.
    let numbered = numbered_of_cut check frames chunks flow.first fill segments cut in
    let within = falls-taken rule looks flow narrow segments comings index_at numbered order fall in
    let near : AreNear flow_record.first flow_record.window segments events =
    subst (λ (k : ℕ). AreNear k flow_record.window segments events) (sym first)
    (subst (λ (w : ℕ). AreNear flow.first w segments events) (sym width) (events-near rule looks flow segments comings index_at numbered order within safely events noted fates are)) in
    let led = rules-lead rule flow (no_lasts flow) no_fates comings events noted fates are in
    let after : IsAfter flow_record.first flow_record.window events led.0 fates =
    subst (λ (k : ℕ). IsAfter k flow_record.window events led.0 fates) (sym first) (subst (λ (w : ℕ). IsAfter flow.first w events led.0 fates) (sym width) led.1) in
    let s = leads-split flow_record.first flow_record.window events (replicate n gap) outcome.answers no_fates outcome.fates outcome.after in
    let same = (after-once flow_record.first flow_record.window events s.0 led.0 s.2 fates s.3 after).1 in
    let gaps = λ (i : ℕ). c.gaps_leave_what_was_kept.ensures flow_record.first flow_record.window n i s.1 s.2 outcome.fates s.4 in
    frames-all_came frames chunks comings index_at outcome.fates
    (λ p channel segment is. (gaps (index_at p)).1 (subst (λ (f : Fates). IsKept f (index_at p)) (sym same)
    (segment, kept-as rule looks flow segments comings index_at numbered order within safely events noted fates are p channel segment is)))
    (λ i kept. kept-came rule looks flow segments comings index_at numbered order within safely events noted fates are i (subst (λ (f : Fates). IsKept f i) same ((gaps i).0 kept)))
    given
    (c.closed_flow_gives_the_frames_that_were_all_kept.ensures check frames chunks fill n segments flow_record events given counts
    (subst (λ (k : ℕ). IsLawfulCut check frames k fill chunks segments) (sym first) cut) near outcome closed)
