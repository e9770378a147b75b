-- An input is handed in, and a refusal's number is kept.
use Rattle.std.proofs.Common.{◌≡◌, ℕ, ◌<◌, ◌==◌, get_or, true, false, None, Some, Ok, Err, List, Vec, Global, [], ◌∷◌, ◌++◌, length, is_some, refl, sym, ap, ◌∙◌, subst, arith, append-nil}
use Rattle.lane.specs.Inputs.{Answer, AnsweredInput}
use Rattle.lane.specs.Report.{refused_by}
use Rattle.consumer.specs.Collecting.{list_at}
use Rattle.std.specs.Vec.{with_item}
use Rattle.lane.specs.Report.{admitted_by}
use Rattle.receiver.specs.declared.reply.Reply.{Reply}
use Rattle.receiver.specs.HandedIn.{came}
use Rattle.receiver.specs.Receiving.{Says}
use Rattle.receiver.proofs.PlayingTurns.{RefusalsGrow, refusals-none, refusals-one, input-taken}
use Rattle.std.proofs.Math.ListN.{set}
use Rattle.consumer.proofs.Lists.{appends-at}
use Rattle.receiver.proofs.playing.Playing.take_input.Goals as goal

-- nothing is refused
unrefused : (refused : List (Vec ℕ Global)) (channel : ℕ) (one : AnsweredInput) → refused_by one.answer ≡ None → RefusalsGrow refused (came channel one) refused
unrefused refused channel one none = record {
  many = refl;
  grow = λ other below. sym (ap (λ (t : List ℕ). list_at refused other ++ t) (refusals-none (channel == other) one none) ∙ append-nil _);
}

-- the number of a refusal is appended to its channel's list
refused-one : (refused : List (Vec ℕ Global)) (channel : ℕ) (one : AnsweredInput) (number : ℕ) (list old : Vec ℕ Global) → refused_by one.answer ≡ Some number
    → channel < length refused → old ≡ get_or refused channel old → list.items ≡ old.items ++ number ∷ [] → RefusalsGrow refused (came channel one) (set refused channel list)
refused-one refused channel one number list old some within at pushed =
    let appends = appends-at refused channel number list old within at pushed in
    record {
      many = appends.many;
      grow = λ other below. appends.appended other ∙ ap (λ (t : List ℕ). list_at refused other ++ t) (sym (refusals-one (channel == other) one number some));
    }

pub returns-in-Granted : goal.returns-in-Granted
returns-in-Granted g c =
    let replies = c.in-Ok.ensures.replies in
    let says : replies.answer ≡ Ok None = subst (λ (reply : Reply). Says reply replies.answer) c.in-Granted.is replies.says in
    input-taken g.C.HeaderCheck.accepts c.args.self.now c.take.new.self c.take.new.out c.args.self.now.refused c.args.channel c.args.input replies.answer replies.takes
    false (sym (ap (λ (answer : Answer). is_some (admitted_by answer)) says))
    (unrefused c.args.self.now.refused.items c.args.channel (record { input = c.args.input; answer = replies.answer }) (ap refused_by says))

pub returns-in-Admitted : goal.returns-in-Admitted
returns-in-Admitted g c =
    let replies = c.in-Ok.ensures.replies in
    let says = subst (λ (reply : Reply). Says reply replies.answer) c.in-Admitted.is replies.says in
    input-taken g.C.HeaderCheck.accepts c.args.self.now c.take.new.self c.take.new.out c.args.self.now.refused c.args.channel c.args.input replies.answer replies.takes
    true (sym (ap (λ (answer : Answer). is_some (admitted_by answer)) says.1))
    (unrefused c.args.self.now.refused.items c.args.channel (record { input = c.args.input; answer = replies.answer }) (ap refused_by says.1))

pub returns-in_ok-push-in-Refused : goal.returns-in_ok-push-in-Refused
returns-in_ok-push-in-Refused g c =
    let replies = c.in-Ok.ensures.replies in
    let playing = c.args.self.now in
    let says : replies.answer ≡ Err c.in-Refused.refusal = subst (λ (reply : Reply). Says reply replies.answer) c.in-Refused.is replies.says in
    let within : c.args.channel < length playing.refused.items = let many = c.requires.playing.plays.many in let below = c.requires.channel in omega arith in
    input-taken g.C.HeaderCheck.accepts playing c.take.new.self c.take.new.out (with_item playing.refused c.args.channel c.push.new.self) c.args.channel c.args.input replies.answer replies.takes
    false (sym (ap (λ (answer : Answer). is_some (admitted_by answer)) says))
    (refused-one playing.refused.items c.args.channel (record { input = c.args.input; answer = replies.answer }) c.number.result c.push.new.self c.index_mut.result.now
    (ap refused_by says ∙ ap Some (sym c.number.ensures)) within c.index_mut.ensures.value c.in_ok-push-in-Refused.ensures.items)
