-- The burst in a record, or why there is none.
use Rattle.std.proofs.Common.{◌≡◌, ◌-◌, ◌/◌, length, sym, ap, ◌∙◌, arith, rules}
use Rattle.std.specs.Prelude.{drop}
use Rattle.capture.specs.SeenBurst.{burst_parts}
use Rattle.capture.specs.SeenCapture.{capture_parts}
use Rattle.frame_engine.specs.Records.{other_link_type, cut_short, no_burst, is_burst}
use Rattle.frame_engine.proofs.CapturedBurst.{burst_within, burst_left, burst-made}
use Rattle.frame_engine.proofs.record_burst.captured.Goals as goal

pub returns-then-given-ne-XRA : goal.returns-then-given-ne-XRA
returns-then-given-ne-XRA c = other_link_type c.if-given-ne-XRA.true

pub returns-then-is_cut_short : goal.returns-then-is_cut_short
returns-then-is_cut_short c = cut_short (search rules) (c.is_cut_short.ensures.0 c.if-is_cut_short.true)

pub returns-in-Err : goal.returns-in-Err
returns-in-Err c =
    no_burst c.in-Err.why (search rules) (search rules)
    (λ parts spelled. c.in-Err.ensures.spelled parts (c.deref.ensures.value ∙ spelled))
    (λ none. let is = c.in-Err.ensures.unspelled (λ parts spelled. none parts (sym c.deref.ensures.value ∙ spelled)) in cc)

pub overflow_sub-front : goal.overflow_sub-front
overflow_sub-front c =
    let found = c.in-Ok.ensures.found in
    let within = burst_within c.deref.result.now found.parts (burst_parts c.in-Ok.burst) found.spelled found.burst_is in
    omega (arith, within, ap length c.deref.ensures.value, c.len.ensures)

pub returns : goal.returns
returns c =
    let found = c.in-Ok.ensures.found in
    let burst = burst_parts c.in-Ok.burst in
    let held = c.deref.result.now in
    let many : c.len.result ≡ length held = search rules in
    let left : c.without_front.result ≡ burst.bytes =
    c.without_front.ensures ∙ ap (λ bytes. drop (c.len.result - length burst.bytes) bytes) (c.from.ensures ∙ sym c.deref.ensures.value)
    ∙ ap (λ n. drop (n - length burst.bytes) held) many
    ∙ burst_left held found.parts burst found.spelled found.burst_is in
    burst-made (capture_parts c.args.given) burst c.short_sid-sid.result (c.unwrap_or-granted.result / 8) c.is_checked-check.result c.without_front.result
    c.short_sid-sid.ensures (ap (λ n. n / 8) c.unwrap_or-granted.ensures) c.is_checked-check.ensures left
    (is_burst found.parts burst (search rules) (search rules) (sym c.deref.ensures.value ∙ found.spelled) found.burst_is)
