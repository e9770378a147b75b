-- A burst is handed in.
use Rattle.std.proofs.Common.{◌≡◌, ℕ, Bool, true, false, List, [], ◌∷◌, ◌++◌, refl, ap, sym, subst, ◌∙◌, append_assoc}
use Rattle.bonded_flows.specs.Table.{TableSetup}
use Rattle.receiver.specs.declared.reply.Reply.{Reply}
use Rattle.captured_flows.specs.Acts.{Act, alone, with_burst}
use Rattle.capture_rules.specs.declared.held_time.HeldTime.{HeldTime}
use Rattle.capture_rules.specs.Held.{still_ahead}
use Rattle.captured_flows.specs.Flow.{Next, Expects, LetsGo, Holds, not_kept, kept, IsInput, grant_of, burst_of, says_kept, HandsIn}
use Rattle.captured_flows.proofs.Taken.{Then}

-- what is held besides, by whether it is kept
pub holds-if : (made : TableSetup) (wait k : ℕ) (one : Next) (entry : HeldTime) (held holding : List HeldTime) (is_kept : Bool) → entry.number ≡ one.arrival.number → entry.time ≡ one.time
    → (is_kept ≡ true → holding ≡ held ++ entry ∷ []) → (is_kept ≡ false → holding ≡ held) → Holds made wait k one held is_kept holding
holds-if made wait k one entry held holding true number time is_so is_not =
    subst (λ (h : List HeldTime). Holds made wait k one held true h) (sym (is_so refl)) (kept entry number time)
holds-if made wait k one entry held holding false number time is_so is_not =
    subst (λ (h : List HeldTime). Holds made wait k one held false h) (sym (is_not refl)) not_kept

pub hands-in : (made : TableSetup) (wait k : ℕ) (one : Next) (held between holding left : List HeldTime) (handed more : List Act) (granting answered : Reply) (expected : ℕ)
    → Then (λ m h l. LetsGo m wait k one.time held h l between) (Then (IsInput (with_burst k one.arrival) one.arrival.channel (grant_of one) granting) (IsInput alone one.arrival.channel (burst_of one) answered)) made handed more
    → Expects made k (handed ++ more) expected → Holds made wait k one between (says_kept answered) holding → left ≡ still_ahead expected holding
    → HandsIn made wait k one held handed more left
hands-in made wait k one held between holding left handed more granting answered expected (let_go, both, lets_go, (granted, coming, grant, burst, both_are), all) expects holds left_is =
    record {
      let_go = let_go;
      between = between;
      lets_go = lets_go;
      granting = granting;
      granted = granted;
      grant = grant;
      answered = answered;
      coming = coming;
      burst = burst;
      all = all ∙ ap (λ (b : List Act). let_go ++ b) both_are ∙ sym (append_assoc let_go granted coming);
      holding = holding;
      holds = holds;
      expected = expected;
      expects = expects;
      left_is = left_is;
    }
