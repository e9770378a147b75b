use Rattle.std.proofs.Common.{◌≡◌, length, List, false, refl, sym, subst, ◌∙◌, arith}
use Rattle.std.specs.Prelude.{remove}
use Rattle.std.proofs.lemmas.Bool.{both_ways}
use Rattle.std.proofs.lemmas.Option.{slice_get_read, slice_get_within, get_or_from_slice_get}
use Rattle.capture_rules.specs.declared.arrival.Waiting.{Waiting}
use Rattle.capture_rules.specs.Order.{IsNext}
use Rattle.capture_rules.specs.Inside.Numbers.{AreNumbersOf}
use Rattle.capture_rules.proofs.Taken.{next-is, numbers-taken-with, first-has_number, number-waits}
use Rattle.capture_rules.proofs.channel_order.take_next.Goals as goal

pub returns-in_err-number-clause-some : goal.returns-in_err-number-clause-some
returns-in_err-number-clause-some g c =
    absurd (first-has_number c.args.numbers.now c.args.waiting.now.items c.in_ok-oldest.oldest.now c.requires.numbered
    (slice_get_read c.args.waiting.now.items (length c.args.waiting.now.items) 0 c.in_ok-oldest.oldest.now refl (let some = c.in_ok-oldest.ensures.variant.0 refl in let size = c.args.waiting.now.ok.0 in omega (arith, some, size)) c.in_ok-oldest.ensures.lookup) c.in_err-number.ensures.some)

pub returns-in_err-number-clause-numbered : goal.returns-in_err-number-clause-numbered
returns-in_err-number-clause-numbered g c =
    absurd (first-has_number c.args.numbers.now c.args.waiting.now.items c.in_ok-oldest.oldest.now c.requires.numbered
    (slice_get_read c.args.waiting.now.items (length c.args.waiting.now.items) 0 c.in_ok-oldest.oldest.now refl (let some = c.in_ok-oldest.ensures.variant.0 refl in let size = c.args.waiting.now.ok.0 in omega (arith, some, size)) c.in_ok-oldest.ensures.lookup) c.in_err-number.ensures.some)

pub returns-in_err-at-clause-some : goal.returns-in_err-at-clause-some
returns-in_err-at-clause-some g c = absurd (number-waits c.args.numbers.now c.args.waiting.now.items _ c.in_ok-number.number _ c.requires.numbered c.in_ok-number.ensures.taken c.in_err-at.ensures.none)

pub returns-in_err-at-clause-numbered : goal.returns-in_err-at-clause-numbered
returns-in_err-at-clause-numbered g c = absurd (number-waits c.args.numbers.now c.args.waiting.now.items _ c.in_ok-number.number _ c.requires.numbered c.in_ok-number.ensures.taken c.in_err-at.ensures.none)

pub returns-in_err-one-clause-some : goal.returns-in_err-one-clause-some
returns-in_err-one-clause-some g c =
    let found = c.in_ok-at.ensures.first in
    let within = slice_get_within c.args.waiting.now.items c.in_ok-at.at found.one found.stands in
    absurd (both_ways false refl (c.in_err-one.ensures.some.1 within))

pub returns-in_err-one-clause-numbered : goal.returns-in_err-one-clause-numbered
returns-in_err-one-clause-numbered g c =
    let found = c.in_ok-at.ensures.first in
    let within = slice_get_within c.args.waiting.now.items c.in_ok-at.at found.one found.stands in
    absurd (both_ways false refl (c.in_err-one.ensures.some.1 within))

pub returns-clause-next : goal.returns-clause-next
returns-clause-next g c =
    let items = c.args.waiting.now.items in
    let oldest = c.in_ok-oldest.oldest.now in
    let found = c.in_ok-at.ensures.first in
    let same : c.in_ok-one.one ≡ found.one = c.in_ok-one.ensures.value ∙ get_or_from_slice_get items c.in_ok-at.at found.one c.in_ok-one.one found.stands in
    let stands_first = slice_get_read items (length items) 0 oldest refl (let some = c.in_ok-oldest.ensures.variant.0 refl in let size = c.args.waiting.now.ok.0 in omega (arith, some, size)) c.in_ok-oldest.ensures.lookup in
    let is = next-is c.args.numbers.now items oldest found.one c.in_ok-number.number c.in_ok-at.at c.requires.numbered stands_first c.in_ok-number.ensures.first found.stands found.has_it found.first in
    subst (λ (rest : List (Waiting _)). IsNext items (record { time = oldest.came; arrival = c.in_ok-one.one.arrival }) rest) (sym c.in_ok-one.ensures.items)
    (subst (λ (x : Waiting _). IsNext items (record { time = oldest.came; arrival = x.arrival }) (remove items c.in_ok-at.at)) (sym same) is)

pub returns-clause-numbered : goal.returns-clause-numbered
returns-clause-numbered g c =
    let items = c.args.waiting.now.items in
    let found = c.in_ok-at.ensures.first in
    subst (λ (rest : List (Waiting _)). AreNumbersOf c.take_first_from.new.self rest) (sym c.in_ok-one.ensures.items)
    (numbers-taken-with c.args.numbers.now c.take_first_from.new.self items found.one _ c.in_ok-number.number c.requires.numbered c.in_ok-number.ensures.others found.has_it c.in_ok-at.at found.stands c.in_ok-number.ensures.taken)
