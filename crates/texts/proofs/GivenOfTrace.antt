-- What is told of a trace that is followed, and what comes to its flows.
use Rattle.std.proofs.Common.{◌≡◌, ℕ, ◌<◌, ◌≤◌, ◌==◌, Bool, true, false, cond, Option, Some, None, All, List, [], ◌∷◌, ◌++◌, length, map, filter_map, refl, sym, ap, subst, ◌∙◌, append-nil, ne_eqb, arith}
use Rattle.std.specs.Prelude.{◌&&◌, nat_lt, MatchOption, IfSome, slice_get}
use Rattle.std.specs.List.{cons_option}
use Rattle.std.specs.Option.{option_map}
use Rattle.std.proofs.lemmas.List.Elements.{All-nil, All-cons, All-head, All-tail, filter_map-append}
use Rattle.bonded_flows.specs.declared.decision.FlowDecision.{FlowDecision}
use Rattle.bonded_flows.specs.declared.decision.FlowDecision.TheVariants.{Gap, GapTo, SkipTo}
use Rattle.bonded_flows.specs.ByRule.{is_in_range, decision_event, GaveByRule}
use Rattle.bonded_flows.specs.Parts.{FlowInput, Part, comes, last_part}
use Rattle.bonded_flows.specs.Table.{TableSetup, TableInput, flow_setup, inputs_at}
use Rattle.consumer.specs.declared.given.Given.{Given}
use Rattle.flow_core.specs.declared.counts.FlowCounts.{FlowCounts}
use Rattle.flow_records.specs.declared.record.FlowRecord.{FlowRecord}
use Rattle.lane.specs.declared.admitted.Admitted.{Admitted}
use Rattle.lane.specs.Report.{admitted_by}
use Rattle.lane.specs.Limits.{channel_limit}
use Rattle.loss_rule.specs.Rule.{Coming, on_channel, handed_in}
use Rattle.receiver.specs.HandedIn.{HandedIn, came, decided, restarted, arrives_on, decides_of, flow_input_of, flow_inputs, answered_on}
use Rattle.receiver.specs.Received.{GaveAllParts}
use Rattle.receiver.specs.Replaying.{entry_of, IsRecorded}
use Rattle.receiver.proofs.TakenInOrder.{one-part_last, one-part_gave}
use Rattle.texts.specs.declared.follow.happening.Happening.{Happening}
use Rattle.texts.specs.declared.follow.happening.Happening.TheVariants.{Gave, Stands}
use Rattle.texts.specs.FollowedReport.{given_in, came_to}
use Rattle.texts.specs.Happened.{IsOfTrace, TellsStandingAfter, flow_admitted, flow_decided, Tells, HasHappened, nothing, one_more}
use Rattle.texts.proofs.TraceTags.{IsOfChannel}

-- ---- of what happened the receiver gave just what it gave

given_alone : (given : List Given) → filter_map given_in (map Gave given) ≡ given
given_alone [] = refl
given_alone (one ∷ given) = ap (λ (t : List Given). one ∷ t) (given_alone given)

none_in_standing : (flow : ℕ) (told : List Happening) (known : Option FlowRecord) (P : FlowRecord → ℕ → ℕ → Type 0)
    → MatchOption known (told ≡ []) (λ r. (expected : ℕ) × (held : ℕ) × (told ≡ Stands flow expected held ∷ []) × P r expected held)
    → filter_map given_in told ≡ []
none_in_standing flow told None P tells = ap (filter_map given_in) tells
none_in_standing flow told (Some r) P tells = ap (filter_map given_in) tells.2

none_after : (made : TableSetup) (handed : List HandedIn) (flow : Option ℕ) (told : List Happening)
    → TellsStandingAfter made handed flow told → filter_map given_in told ≡ []
none_after made handed None told tells = ap (filter_map given_in) tells
none_after made handed (Some flow) told tells = none_in_standing flow told (slice_get made.records flow) _ tells

none_told : (made : TableSetup) (handed : List HandedIn) (one : HandedIn) (told : List Happening) → Tells made handed one told
    → filter_map given_in told ≡ []
none_told made handed (came channel one) told tells =
    ap (filter_map given_in) tells.are ∙ none_after made (handed ++ came channel one ∷ []) (flow_admitted tells.reply) tells.standing tells.stands
none_told made handed (decided flow decision) told tells =
    ap (filter_map given_in) tells.are ∙ none_after made (handed ++ decided flow decision ∷ []) (flow_decided flow tells.reply) tells.standing tells.stands
none_told made handed (restarted flow first) told tells = absurd tells

pub given_told : {made : TableSetup} {handed : List HandedIn} {given : List Given} {happened : List Happening} → HasHappened made handed given happened
    → filter_map given_in happened ≡ given
given_told nothing = refl
given_told {made} (one_more {handed} {given} given_more one {happened} told before so_far tells) =
    filter_map-append given_in happened (map Gave given_more ++ told)
    ∙ ap (λ (t : List Given). t ++ filter_map given_in (map Gave given_more ++ told)) (given_told before)
    ∙ ap (λ (t : List Given). given ++ t)
    (filter_map-append given_in (map Gave given_more) told
    ∙ ap (λ (t : List Given). t ++ filter_map given_in told) (given_alone given_more)
    ∙ ap (λ (t : List Given). given_more ++ t) (none_told made handed one told tells) ∙ append-nil given_more)

-- ---- to a flow segments and decisions come, and nothing else

abbrev Comes : TableInput → Type 0
Comes one = (coming : Coming) × (one.input ≡ comes coming)

only_comes : (channels n : ℕ) (one : HandedIn) → IsOfTrace channels one → IfSome (flow_input_of n one) Comes
only_comes channels n (came channel one) is = admitted (admitted_by one.answer) where
  admitted : (by : Option Admitted) → IfSome (option_map (arrives_on channel) by) Comes
  admitted None = tt
  admitted (Some a) = (on_channel channel a.segment, refl)
only_comes channels n (decided flow decision) is = named (nat_lt flow n && is_in_range decision) where
  named : (is : Bool) → IfSome (cond is (Some (decides_of flow decision)) None) Comes
  named true = (handed_in (decision_event decision), refl)
  named false = tt
only_comes channels n (restarted flow first) is = absurd is

one_more_comes : (k : ℕ) (one : Option TableInput) (rest : List TableInput) (comings : List Coming) → IfSome one Comes → inputs_at k rest ≡ map comes comings
    → (more : List Coming) × (inputs_at k (cons_option one rest) ≡ map comes more)
one_more_comes k None rest comings is same = (comings, same)
one_more_comes k (Some one) rest comings is same = own (one.flow == k) where
  own : (b : Bool) → (more : List Coming) × (cons_option (cond b (Some one.input) None) (inputs_at k rest) ≡ map comes more)
  own true = (is.0 ∷ comings, ap (λ (t : List FlowInput). one.input ∷ t) same ∙ ap (λ (first : FlowInput). first ∷ map comes comings) is.1)
  own false = (comings, same)

pub all_come : (channels n k : ℕ) (handed : List HandedIn) → All (IsOfTrace channels) handed → (comings : List Coming) × (inputs_at k (flow_inputs n handed) ≡ map comes comings)
all_come channels n k [] each = ([], refl)
all_come channels n k (one ∷ handed) each =
    let rest = all_come channels n k handed (All-tail (IsOfTrace channels) one handed each) in
    one_more_comes k (flow_input_of n one) (flow_inputs n handed) rest.0 (only_comes channels n one (All-head (IsOfTrace channels) one handed each)) rest.1

-- so it gave what by the rule comes of all that came to it
pub gave_of_trace : (check : List ℕ → Bool) (made : TableSetup) (channels k : ℕ) (flow_record : FlowRecord) (handed : List HandedIn) (frames : List (List ℕ))
    (counts : FlowCounts) → All (IsOfTrace channels) handed
    → GaveAllParts check (flow_setup made k flow_record) (inputs_at k (flow_inputs (length made.records) handed)) frames counts
    → GaveByRule check (flow_setup made k flow_record) (came_to made handed k flow_record) frames counts
gave_of_trace check made channels k flow_record handed frames counts each gave =
    let setup = flow_setup made k flow_record in
    let found = all_come channels (length made.records) k handed each in
    let came_is : (last_part setup (inputs_at k (flow_inputs (length made.records) handed))).comings ≡ found.0 =
    ap (λ (inputs : List FlowInput). (last_part setup inputs).comings) found.1 ∙ ap (λ (part : Part). part.comings) (one-part_last setup found.0) in
    subst (λ (comings : List Coming). GaveByRule check setup comings frames counts) (sym came_is)
    (one-part_gave check setup found.0 frames counts
    (subst (λ (inputs : List FlowInput). GaveAllParts check setup inputs frames counts) found.1 gave))

-- ---- where the entries are of four channels, so is what is handed in

recorded_decision : (channels flow : ℕ) (decision : FlowDecision) → IsOfTrace channels (decided flow decision) → IsRecorded (decided flow decision)
recorded_decision channels flow Gap is = tt
recorded_decision channels flow (GapTo number) is = tt
recorded_decision channels flow (SkipTo number) is = is

entries_tail : (flow : ℕ) (decision : FlowDecision) (handed : List HandedIn) → All IsOfChannel (filter_map entry_of (decided flow decision ∷ handed))
    → All IsOfChannel (filter_map entry_of handed)
entries_tail flow Gap handed of = All-tail IsOfChannel _ (filter_map entry_of handed) of
entries_tail flow (GapTo number) handed of = All-tail IsOfChannel _ (filter_map entry_of handed) of
entries_tail flow (SkipTo number) handed of = of

pub all_recorded : (channels : ℕ) (handed : List HandedIn) → All (IsOfTrace channels) handed → All IsOfChannel (filter_map entry_of handed) → All IsRecorded handed
all_recorded channels [] each of = All-nil IsRecorded
all_recorded channels (came channel one ∷ handed) each of =
    All-cons IsRecorded (came channel one) handed (All-head IsOfChannel _ (filter_map entry_of handed) of)
    (all_recorded channels handed (All-tail (IsOfTrace channels) (came channel one) handed each) (All-tail IsOfChannel _ (filter_map entry_of handed) of))
all_recorded channels (decided flow decision ∷ handed) each of =
    All-cons IsRecorded (decided flow decision) handed
    (recorded_decision channels flow decision (All-head (IsOfTrace channels) (decided flow decision) handed each))
    (all_recorded channels handed (All-tail (IsOfTrace channels) (decided flow decision) handed each) (entries_tail flow decision handed of))
all_recorded channels (restarted flow first ∷ handed) each of = absurd (All-head (IsOfTrace channels) (restarted flow first) handed each)

-- and on other channels nothing came
pub none_on : (channel : ℕ) → channel_limit ≤ channel → (handed : List HandedIn) → All IsRecorded handed → answered_on channel handed ≡ []
none_on channel other [] recorded = refl
none_on channel other (came own one ∷ handed) recorded =
    let below : own < channel_limit = All-head IsRecorded (came own one) handed recorded in
    let differ : (own == channel) ≡ false = ne_eqb own channel (λ same. omega (arith, other, below, same)) in
    ap (λ (b : Bool). cons_option (cond b (Some one) None) (answered_on channel handed)) differ
    ∙ none_on channel other handed (All-tail IsRecorded (came own one) handed recorded)
none_on channel other (decided flow decision ∷ handed) recorded = none_on channel other handed (All-tail IsRecorded (decided flow decision) handed recorded)
none_on channel other (restarted flow first ∷ handed) recorded = absurd (All-head IsRecorded (restarted flow first) handed recorded)
