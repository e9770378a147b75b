use Rattle.std.proofs.Common.{◌≡◌, ◌==◌, false, Some, length, slice_get, get_or, refl, sym, ap, subst, ◌∙◌, ⊎_elim, eq-eqb, ne_eqb, arith}
use Rattle.std.proofs.lemmas.Bool.{cases_eq, and_from, and_left, and_right}
use Rattle.std.proofs.lemmas.Option.{slice_get_read, slice_get-get_or, same_Some}
use Rattle.capture_rules.specs.declared.arrival.Waiting.{Waiting}
use Rattle.capture_rules.specs.Inside.Numbers.{has}
use Rattle.capture_rules.proofs.Counts.{count-none}
use Rattle.capture_rules.proofs.channel_order.first_with.Goals as goal
use Rattle.capture_rules.proofs.channel_order.first_with.Goals.{else-arrival-channel-via-then-arrival-channel+else-arrival-number, else-arrival-channel-via-else-arrival-channel}

pub returns-then-arrival-number-clause-first : goal.returns-then-arrival-number-clause-first
returns-then-arrival-number-clause-first g c =
    let items = c.args.waiting.now.items in
    let one = c.index.result.now in
    let within = c.loop-at-test.true in
    let count = c.len-at-end.ensures in
    let size = c.args.waiting.now.ok.0 in
    record {
      one = one;
      stands = slice_get_read items (length items) c.loop-at.at one refl (omega (arith, within, count, size)) c.index.ensures;
      has_it = and_from (one.arrival.channel == c.args.channel) (one.arrival.number == c.args.number) (eq-eqb one.arrival.channel c.args.channel c.if-arrival-channel.true) (eq-eqb one.arrival.number c.args.number c.if-arrival-number.true);
      first = c.loop-at.invariant;
    }

pub loop-at-preserved : goal.loop-at-preserved
loop-at-preserved g c k other below stands =
    let items = c.args.waiting.now.items in
    let one = c.index.result.now in
    let within = c.loop-at-test.true in
    let count = c.len-at-end.ensures in
    let size = c.args.waiting.now.ok.0 in
    let here : slice_get items c.loop-at.at ≡ Some one = slice_get_read items (length items) c.loop-at.at one refl (omega (arith, within, count, size)) c.index.ensures in
    ⊎_elim
    (λ (last : k ≡ c.loop-at.at).
    let same : other ≡ one = same_Some other one (sym stands ∙ ap (slice_get items) last ∙ here) in
    subst (λ (x : Waiting _). has c.args.channel c.args.number x ≡ false) (sym same)
    (elim c.else-arrival-channel.branch [
      | else-arrival-channel-via-then-arrival-channel+else-arrival-number w ↦ and_right (one.arrival.channel == c.args.channel) (one.arrival.number == c.args.number) (ne_eqb one.arrival.number c.args.number w.if-arrival-number.false)
      | else-arrival-channel-via-else-arrival-channel w ↦ and_left (one.arrival.channel == c.args.channel) (one.arrival.number == c.args.number) (ne_eqb one.arrival.channel c.args.channel w.if-arrival-channel.false)
    ]))
    (λ (apart : k ≡ c.loop-at.at → ⊥). c.loop-at.invariant k other (omega (arith, below, apart)) stands)
    (cases_eq k c.loop-at.at)

pub returns-clause-none : goal.returns-clause-none
returns-clause-none g c =
    let items = c.args.waiting.now.items in
    let done = c.loop-at-test.false in
    let count = c.len-at-end.ensures in
    let size = c.args.waiting.now.ok.0 in
    count-none (has c.args.channel c.args.number) items
    (λ k d within. c.loop-at.invariant k (get_or items k d) (omega (arith, within, done, count, size)) (slice_get-get_or items k d within))
