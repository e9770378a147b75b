-- The tags of a trace are a lawful order of its inputs and decisions.
use Rattle.std.proofs.Common.{◌≡◌, ◌≢◌, ℕ, ◌+◌, ◌<◌, ◌≤◌, ◌==◌, zero, suc, ⊎_elim, Bool, true, false, cond, Some, None, List, [], ◌∷◌, length, map, refl, sym, ap, subst, ◌∙◌, arith, ne_eqb}
use Rattle.std.specs.Prelude.{All, filter_map, slice_index_or}
use Rattle.std.specs.List.{cons_option}
use Rattle.std.proofs.lemmas.Bool.{cases_lt}
use Rattle.std.proofs.lemmas.List.Sums.{sum_by-cons}
use Rattle.std.proofs.lemmas.List.Elements.{All-nil, All-head, All-tail, All-push, All-map, All-weaker}
use Rattle.lane.specs.Limits.{channel_limit}
use Rattle.receiver.specs.Entries.{Entry, came, decided, tag_of, came_on, decision_in}
use Rattle.receiver.specs.Items.{Incoming, incoming_of}
use Rattle.receiver.specs.Order.{times_of, IsLawfulOrder}
use Rattle.lane.specs.Limits.{senders}
use Rattle.receiver.specs.AdmittedOrder.{input_counts}
use Rattle.text_lines.specs.Format.{IsRead}
use Rattle.text_lines.proofs.KeptByEachLine.{Keeps, IsRead-keeps}
use Rattle.texts.specs.declared.trace.Trace.{Trace}
use Rattle.texts.specs.declared.trace.trace_line.TraceLine.{TraceLine}
use Rattle.texts.specs.declared.trace.trace_line.TraceLine.TheVariants as line
use Rattle.texts.specs.Trace.{IsGivenBy}
use Rattle.texts.specs.Trace.Line.{Carries}
use Rattle.texts.specs.Trace.Place.{Said, nothing_said, with_line, trace_format}
use Rattle.texts.proofs.OneTraceLine.{channel_in_range}

-- ---- each input came on one of the four channels

abbrev pub IsOfChannel : Entry → Type 0
IsOfChannel (came channel input) = channel < channel_limit
IsOfChannel (decided decision) = Unit {0}

abbrev AreOfChannels : Said → Type 0
AreOfChannels said = (said.shape.channels ≡ channel_limit) × All IsOfChannel said.entries

of_channels_with : (said : Said) (fields : List (List ℕ)) (line : TraceLine) → Carries said.shape fields line → AreOfChannels said
    → AreOfChannels (with_line said line)
of_channels_with said fields (line.Flow flow_record) carries each = each
of_channels_with said fields (line.Sid row) carries each = each
of_channels_with said fields (line.Input channel input) carries each =
    let within = channel_in_range said.shape fields channel input carries in
    let four = each.0 in
    (each.0, All-push IsOfChannel said.entries (came channel input) each.1 (omega arith))
of_channels_with said fields (line.Gap decision) carries each = (each.0, All-push IsOfChannel said.entries (decided decision) each.1 tt)

line_of_channel : Keeps trace_format AreOfChannels
line_of_channel before fields after takes each =
    subst AreOfChannels (sym takes.0.added) (of_channels_with before fields takes.0.line takes.0.carries each)

pub read_of_channels : (ring : ℕ) (lines : List (List ℕ)) (said : Said) → IsRead trace_format (nothing_said ring) lines said
    → All IsOfChannel said.entries
read_of_channels ring lines said read = (IsRead-keeps AreOfChannels line_of_channel read (refl, All-nil IsOfChannel)).1

-- ---- how often a sender stands in the tags

-- one more is counted, or is not
count-some : {T : Type 0} (b : Bool) (n : ℕ) (x : T) (xs : List T) → n ≡ length xs
    → cond {A = ℕ} b 1 0 + n ≡ length (cons_option (cond b (Some x) None) xs)
count-some true n x xs is = omega arith
count-some false n x xs is = omega arith

-- how often a sender stands in an order with one more before it
times_of-cons : (sender tag : ℕ) (order : List ℕ) → times_of sender (tag ∷ order) ≡ cond {A = ℕ} (tag == sender) 1 0 + times_of sender order
times_of-cons sender tag order = sum_by-cons (λ t. cond {A = ℕ} (t == sender) 1 0) tag order

-- another sender isn't counted
times_of-other : (sender tag : ℕ) (order : List ℕ) → tag ≢ sender → times_of sender (tag ∷ order) ≡ times_of sender order
times_of-other sender tag order other =
    let none : cond {A = ℕ} (tag == sender) 1 0 ≡ 0 = ap (λ b. cond {A = ℕ} b 1 0) (ne_eqb tag sender other) in
    omega (arith, none, times_of-cons sender tag order)

-- a channel stands in the tags once for each of its inputs
pub times_of-channel : (channel : ℕ) (entries : List Entry) → channel < channel_limit
    → times_of channel (map tag_of entries) ≡ length (filter_map (came_on channel) entries)
times_of-channel channel [] below = refl
times_of-channel channel (came other input ∷ entries) below =
    times_of-cons channel other (map tag_of entries)
    ∙ count-some (other == channel) (times_of channel (map tag_of entries)) input (filter_map (came_on channel) entries)
    (times_of-channel channel entries below)
times_of-channel channel (decided decision ∷ entries) below =
    times_of-other channel 4 (map tag_of entries) (omega arith) ∙ times_of-channel channel entries below

-- the last sender stands in them once for each decision
pub times_of-decisions : (entries : List Entry) → All IsOfChannel entries → times_of 4 (map tag_of entries) ≡ length (filter_map decision_in entries)
times_of-decisions [] each = refl
times_of-decisions (came other input ∷ entries) each =
    let below : other < channel_limit = All-head IsOfChannel (came other input) entries each in
    times_of-other 4 other (map tag_of entries) (omega arith) ∙ times_of-decisions entries (All-tail IsOfChannel (came other input) entries each)
times_of-decisions (decided decision ∷ entries) each =
    omega (arith, times_of-cons 4 4 (map tag_of entries), times_of-decisions entries (All-tail IsOfChannel (decided decision) entries each))

-- each tag names a sender
tag_below : (entry : Entry) → IsOfChannel entry → tag_of entry < senders
tag_below (came channel input) below = omega arith
tag_below (decided decision) below = omega arith

pub tags_name_senders : (entries : List Entry) → All IsOfChannel entries → All (λ tag. tag < senders) (map tag_of entries)
tags_name_senders entries each =
    All-map (λ tag. tag < senders) tag_of entries (All-weaker IsOfChannel (λ entry. tag_of entry < senders) tag_below entries each)

-- ---- how many inputs each channel has

-- a channel has as many inputs as came in on it
count-channel : (incoming : Incoming) (channel : ℕ) → channel < channel_limit
    → slice_index_or (input_counts incoming) channel 0 ≡ length (incoming.inputs channel)
count-channel incoming zero below = refl
count-channel incoming (suc zero) below = refl
count-channel incoming (suc (suc zero)) below = refl
count-channel incoming (suc (suc (suc zero))) below = refl
count-channel incoming (suc (suc (suc (suc channel)))) below = absurd (omega arith)

-- the tags of what lines say are a lawful order
pub tags_are_lawful : (mailbox : ℕ) (said : Said) (trace : Trace) → All IsOfChannel said.entries → IsGivenBy mailbox said trace
    → IsLawfulOrder (input_counts (incoming_of trace.lists)) (map tag_of said.entries)
tags_are_lawful mailbox said trace each given = record {
  named = tags_name_senders said.entries each;
  whole = λ sender below. ⊎_elim
      (λ (channel : sender < channel_limit).
      times_of-channel sender said.entries channel ∙ ap length (sym (given.lists.inputs sender channel))
      ∙ sym (count-channel (incoming_of trace.lists) sender channel))
      (λ (last : channel_limit ≤ sender).
      let is : sender ≡ 4 = omega arith in
      let decisions : times_of 4 (map tag_of said.entries) ≡ slice_index_or (input_counts (incoming_of trace.lists)) 4 0 =
      times_of-decisions said.entries each ∙ ap length (sym given.lists.decisions) in
      rw is decisions)
      (cases_lt sender channel_limit);
}
