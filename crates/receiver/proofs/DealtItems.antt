-- Items that bring a cut's segments in turn over all channels.
use Rattle.std.proofs.Common.{◌≡◌, ℕ, zero, suc, ◌+◌, ◌%◌, ◌<◌, true, All, List, [], ◌∷◌, length, replicate, if◌then◌else◌, refl, ap, ◌∙◌, arith, eq-eqb, mod-lt}
use Rattle.std.proofs.lemmas.List.Elements.{All-nil, All-cons}
use Rattle.docsis_wire.specs.declared.segment.Segment.{Segment}
use Rattle.lane.specs.declared.sids.SidRow.{SidRow}
use Rattle.lane.specs.Limits.{channel_limit}
use Rattle.loss_rule.specs.Rule.{on_channel}
use Rattle.loss_rule.specs.Dealing.{dealt_from}
use Rattle.receiver.specs.Channels.{HasRow}
use Rattle.receiver.specs.Modem.{turns_from, all_arrive}
use Rattle.bonded_flows.specs.Channels.{has_row}
use Rattle.receiver.specs.Ruled.{channels_of, comings_at}
use Rattle.receiver.proofs.FlowChannels.{row-found}

-- what comes of them is dealt in turn
pub comings-dealt : (k i : ℕ) (segments : List Segment) → comings_at k (turns_from i (length segments)) (all_arrive k segments) ≡ dealt_from channel_limit i segments
comings-dealt k i [] = refl
comings-dealt k i (segment ∷ segments) =
    let rest = comings_at k (turns_from (i + 1) (length segments)) (all_arrive k segments) in
    ap (λ own. if own then on_channel (i % channel_limit) segment ∷ rest else rest) (eq-eqb k k refl)
    ∙ ap (λ comings. on_channel (i % channel_limit) segment ∷ comings) (comings-dealt k (i + 1) segments)

-- each is of a channel
pub turns-named : (i n : ℕ) → All (λ tag. tag < channel_limit) (turns_from i n)
turns-named i zero = All-nil (λ tag. tag < channel_limit)
turns-named i (suc n) = All-cons (λ tag. tag < channel_limit) (i % channel_limit) (turns_from (i + 1) n) (mod-lt i (omega arith)) (turns-named (i + 1) n)

-- and there are as many turns as segments
pub turns-counted : (i n : ℕ) → length (turns_from i n) ≡ n
turns-counted i zero = refl
turns-counted i (suc n) = ap suc (turns-counted (i + 1) n)

-- a flow with a row on each channel has all channels
pub all-channels : (rows : List SidRow) (k : ℕ) → ((channel : ℕ) → channel < channel_limit → HasRow rows k channel) → channels_of rows k ≡ replicate channel_limit true
all-channels rows k has =
    let on = λ (channel : ℕ) (below : channel < channel_limit). row-found rows k channel (has channel below) in
    ap (λ b. b ∷ has_row rows k 1 ∷ has_row rows k 2 ∷ has_row rows k 3 ∷ []) (on 0 (omega arith))
    ∙ ap (λ b. true ∷ b ∷ has_row rows k 2 ∷ has_row rows k 3 ∷ []) (on 1 (omega arith))
    ∙ ap (λ b. true ∷ true ∷ b ∷ has_row rows k 3 ∷ []) (on 2 (omega arith))
    ∙ ap (λ b. true ∷ true ∷ true ∷ b ∷ []) (on 3 (omega arith))
