-- The next input of a channel is handed in.
use Rattle.std.proofs.Common.{◌≡◌, ℕ, ◌+◌, ◌<◌, List, Vec, Global, ◌∷◌, [], ◌++◌, length, slice_get, get_or, slice_index_or, slice_set, refl, sym, ap, subst, ◌∙◌, rules, tests}
use Rattle.std.proofs.lemmas.List.{length-set}
use Rattle.lane.specs.declared.input.Input.{Input}
use Rattle.lane.specs.Inputs.{AnsweredInput}
use Rattle.std.proofs.lemmas.Option.{slice_get_read, get_or_from_slice_get}
use Rattle.receiver.specs.Items.{inputs_on, incoming_of}
use Rattle.receiver.specs.HandedIn.{came}
use Rattle.receiver.specs.HandedOrder.{IsHandedFrom}
use Rattle.receiver.proofs.PlayingTurns.{plays-placed, plays-next, still-playing, from-input, admitted-item}
use Rattle.receiver.proofs.PlayedOut.{list-there}
use Rattle.receiver.proofs.playing.Playing.take_next_input.Given.{Over}
use Rattle.receiver.proofs.playing.Playing.take_next_input.Goals as goal

-- it is the input at the channel's place
next-input : (g : Over) (c : goal.After-way_told-3-1 g)
    → c.index-inputs-place.result ≡ get_or (inputs_on c.args.lists.now c.args.channel) (slice_index_or c.args.self.now.places c.args.channel 0) c.index-inputs-place.result
next-input g c =
    let place = slice_index_or c.args.self.now.places c.args.channel 0 in
    let lists = c.args.lists.now.inputs in
    let list = c.index-lists-channel.result in
    let four : c.args.channel < length lists = search (rules, tests) in
    let its : inputs_on c.args.lists.now c.args.channel ≡ c.as_slice-inputs.result.now =
    list-there lists c.args.channel list (slice_get_read lists (length lists) c.args.channel list refl four c.index-lists-channel.is)
    ∙ ap (λ (one : Vec Input Global). one.items) c.index-lists-channel.is ∙ sym c.as_slice-inputs.ensures.value in
    let within : place < length c.as_slice-inputs.result.now = subst (λ (t : List Input). place < length t) its c.requires.left in
    sym (get_or_from_slice_get (inputs_on c.args.lists.now c.args.channel) place c.index-inputs-place.result c.index-inputs-place.result
    (ap (λ (t : List Input). slice_get t place) its
    ∙ slice_get_read c.as_slice-inputs.result.now (length c.as_slice-inputs.result.now) place c.index-inputs-place.result refl within c.index-inputs-place.is))

pub returns-clause-takes : goal.returns-clause-takes
returns-clause-takes g c =
    let accepts = g.C.HeaderCheck.accepts in
    let playing = c.args.self.now in
    let taken = c.in_ok-is_item.ensures in
    let one : AnsweredInput = record { input = c.in_ok-input.input; answer = taken.answer } in
    let incoming = incoming_of c.args.lists.now in
    let next = slice_index_or playing.places c.args.channel 0 + 1 in
    plays-next accepts playing _ (came c.args.channel one) incoming c.args.channel c.in_ok-is_item.is_item
    (plays-placed accepts playing c.take_input.new.self (came c.args.channel one) (slice_set c.take_input.new.self.places c.args.channel next) taken.plays)
    (λ handed from. subst (λ (places : List ℕ). IsHandedFrom incoming (slice_set places c.args.channel next) (handed ++ came c.args.channel one ∷ [])) (sym taken.places)
    (from-input incoming playing.places handed from c.args.channel one c.requires.channel c.requires.left
    (subst (λ (x : Input). x ≡ get_or (inputs_on c.args.lists.now c.args.channel) (slice_index_or playing.places c.args.channel 0) x) (sym c.in_ok-input.ensures) (next-input g c))))
    (λ rule check setup handed plays. taken.told ∙ admitted-item (length setup.flows.items) c.args.channel one)
    refl

pub returns-clause-playing : goal.returns-clause-playing
returns-clause-playing g c =
    let accepts = g.C.HeaderCheck.accepts in
    let playing = c.args.self.now in
    let taken = c.in_ok-is_item.ensures in
    let one : AnsweredInput = record { input = c.in_ok-input.input; answer = taken.answer } in
    let next = slice_index_or playing.places c.args.channel 0 + 1 in
    still-playing accepts playing _ (came c.args.channel one) c.requires.playing
    (plays-placed accepts playing c.take_input.new.self (came c.args.channel one) (slice_set c.take_input.new.self.places c.args.channel next) taken.plays)
    (length-set c.take_input.new.self.places c.args.channel next ∙ ap (λ (places : List ℕ). length places) taken.places ∙ c.requires.playing.five)
