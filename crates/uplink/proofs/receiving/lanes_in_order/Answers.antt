-- One channel more.
use Rattle.std.proofs.Common.{◌≡◌, ◌<◌, ◌≤◌, ◌+◌, ⊎_elim, ◌∷◌, [], ◌++◌, Some, length, get_or, sym, ap, ◌∙◌, rules, arith}
use Rattle.std.proofs.lemmas.Bool.{cases_lt}
use Rattle.std.proofs.lemmas.List.{length_push, get_or_append_left, get_or_push}
use Rattle.std.proofs.lemmas.Option.{slice_get-get_or}
use Rattle.uplink.specs.Inside.Running.{notes_on}
use Rattle.uplink.proofs.receiving.lanes_in_order.Goals as goal

pub tally_on-requires : goal.tally_on-requires
tally_on-requires c = (c.args.channels, search rules, c.requires)

pub loop-channel-preserved : goal.loop-channel-preserved
loop-channel-preserved c =
    let loop = c.loop-channel in
    let lanes = loop.lanes.items in
    let tally = c.tally_on.result in
    let count = loop.invariant.count in
    let pushed : c.push.new.self.items ≡ lanes ++ tally ∷ [] = c.in_ok-push.ensures.items in
    let long : length c.push.new.self.items ≡ loop.channel + 1 = ap length pushed ∙ length_push lanes tally ∙ ap (λ n. n + 1) count in
    record {
      count = long;
      each = λ channel below.
          ⊎_elim
          (λ (before : channel < loop.channel).
          slice_get-get_or c.push.new.self.items channel tally (omega (arith, long, below))
          ∙ ap Some (ap (λ l. get_or l channel tally) pushed ∙ get_or_append_left lanes (tally ∷ []) tally channel (omega (arith, before, count)))
          ∙ sym (slice_get-get_or lanes channel tally (omega (arith, before, count))) ∙ loop.invariant.each channel before)
          (λ (here : loop.channel ≤ channel).
          let same : loop.channel ≡ channel = omega arith in
          slice_get-get_or c.push.new.self.items channel tally (omega (arith, long, below))
          ∙ ap Some (ap (λ l. get_or l channel tally) pushed ∙ get_or_push lanes tally tally channel (count ∙ same))
          ∙ sym c.tally_on.ensures ∙ ap (notes_on c.args.notes.now) same)
          (cases_lt channel loop.channel);
    }
