-- What follows of the reply to an input: what is admitted of it, and that it was taken.
use Rattle.std.proofs.Common.{◌≡◌, ℕ, Bool, true, Some, None, List, [], ◌∷◌, ap, sym, ◌∙◌}
use Rattle.std.proofs.lemmas.Bool.{eqb-true}
use Rattle.std.proofs.lemmas.Option.{same_Some}
use Rattle.consumer.specs.declared.given.Given.{Given}
use Rattle.lane.specs.declared.admitted.Admitted.{Admitted}
use Rattle.lane.specs.declared.input.Input.{Input}
use Rattle.lane.specs.Inputs.{Answer}
use Rattle.lane.specs.Report.{admitted_by}
use Rattle.receiver.specs.declared.reply.Reply.{Reply}
use Rattle.receiver.specs.declared.reply.Reply.TheVariants as reply
use Rattle.receiver.specs.HandedIn.{came}
use Rattle.receiver.specs.Receiving.{Says}
use Rattle.selected_receiver.specs.declared.selected_receiver.SelectedReceiver.{SelectedReceiver}
use Rattle.selected_receiver.specs.Taking.{RepliesOfWhole, TakesSomeOfWhole}
use Rattle.captured_flows.specs.Replied.{admits_nothing, admits_of}

pub nothing-admitted : (told : Reply) (answer : Answer) → Says told answer → admits_nothing told ≡ true → admitted_by answer ≡ None
nothing-admitted reply.Granted answer says is = ap admitted_by says
nothing-admitted (reply.Refused refusal) answer says is = ap admitted_by says
nothing-admitted (reply.Admitted flow sequence told) answer says is = absurd (cc)

pub admitted-of : (k : ℕ) (told : Reply) (answer : Answer) → Says told answer → admits_of k told ≡ true → (admitted : Admitted) → admitted_by answer ≡ Some admitted
    → admitted.flow ≡ k
admitted-of k reply.Granted answer says is admitted by = let none = ap admitted_by says in absurd (cc)
admitted-of k (reply.Refused refusal) answer says is admitted by = let none = ap admitted_by says in absurd (cc)
admitted-of k (reply.Admitted flow sequence told) answer says is admitted by =
    ap (λ (a : Admitted). a.flow) (same_Some admitted says.0 (sym by ∙ ap admitted_by says.1)) ∙ sym says.2 ∙ eqb-true flow k is

module _ {C O : Type 0} (accepts : C → List ℕ → Bool) (after : O → List Given → O → Type 0) where
  -- an input that was replied to was taken
  pub takes-replied : (r r' : SelectedReceiver C) (o o' : O) (channel : ℕ) (input : Input) (told : Reply)
      → RepliesOfWhole accepts after r o channel input told r' o' → TakesSomeOfWhole accepts after r o r' o'
  takes-replied r r' o o' channel input told replies = record {
    seen = replies.seen;
    was_seen = replies.was_seen;
    selected = replies.selected;
    stands = λ check made handed given stands.
        let whole = replies.stands check made handed given stands in
        (came channel (record { input = input; answer = whole.0 }) ∷ [], whole.3, whole.4, whole.5);
  }
