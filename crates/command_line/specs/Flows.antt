-- The options `--flows` and `--shard`, by which words ask for some flows.
use Rattle.std.specs.Prelude.{◌≡◌, ◌⊎◌, ◌<◌, ◌≤◌, ℕ, List, [], ◌∷◌, ◌++◌, codes}
use Rattle.flow_selection.specs.declared.range.FlowRange.{FlowRange}
use Rattle.flow_selection.specs.declared.shard.Shard.{Shard}
use Rattle.flow_selection.specs.declared.selection.Selection.{Selection}
use Rattle.flow_selection.specs.declared.selection.Selection.TheVariants as selected
use Rattle.text_lines.specs.Number.{IsNumber}
use Rattle.command_line.specs.OptionWords.{HasNoOption, HasOneValue}

-- how many shards there are at most
abbrev pub shards_max : ℕ
shards_max = 16384

-- the options; the value of one is a list of flows, that of the other a shard
abbrev pub flows_option : List ℕ
flows_option = codes "--flows"

abbrev pub shard_option : List ℕ
shard_option = codes "--shard"

-- the value `K/N` says the shard of the flows whose index leaves K when divided by N, and K is
-- below N
pub record SaysShard (value : List ℕ) (shard : Shard) : Type 0 where
  pub remainder_text : List ℕ
  pub count_text : List ℕ
  pub are : value ≡ remainder_text ++ codes "/" ++ count_text
  pub remainder : IsNumber remainder_text shards_max shard.remainder
  pub count : IsNumber count_text shards_max shard.count
  pub below : shard.remainder < shard.count

-- an index that is no greater than the last one says the flow with it
abbrev pub SaysFlow : ℕ → List ℕ → FlowRange → Type 0
SaysFlow last text range = IsNumber text last range.first × (range.last ≡ range.first)

-- two with a hyphen between them say the flows from one to the other, which is no smaller
pub record SaysFromTo (last : ℕ) (text : List ℕ) (range : FlowRange) : Type 0 where
  pub first_text : List ℕ
  pub last_text : List ℕ
  pub are : text ≡ first_text ++ codes "-" ++ last_text
  pub first : IsNumber first_text last range.first
  pub to : IsNumber last_text last range.last
  pub rising : range.first ≤ range.last

abbrev pub SaysRange : ℕ → List ℕ → FlowRange → Type 0
SaysRange last text range = SaysFlow last text range ⊎ SaysFromTo last text range

-- a list says as many ranges, one behind another, with commas between them
abbrev pub SaysRanges : ℕ → List ℕ → List FlowRange → Type 0
SaysRanges last value [] = ⊥
SaysRanges last value (range ∷ []) = SaysRange last value range
SaysRanges last value (range ∷ another ∷ more) =
    (part rest : List ℕ) × (value ≡ part ++ codes "," ++ rest) × SaysRange last part range × SaysRanges last rest (another ∷ more)

-- options ask for these flows, whose indexes go up to the last one: for all where neither option is
-- among them, and otherwise for those that the one option says which is; where both are, or one is
-- twice, they ask for no flows
abbrev pub AskForFlows : ℕ → Selection → List (List ℕ) → Type 0
AskForFlows last selected.All options = HasNoOption shard_option options × HasNoOption flows_option options
AskForFlows last (selected.Shard shard) options =
    HasNoOption flows_option options × ((value : List ℕ) × HasOneValue shard_option options value × SaysShard value shard)
AskForFlows last (selected.Listed ranges) options =
    HasNoOption shard_option options × ((value : List ℕ) × HasOneValue flows_option options value × SaysRanges last value ranges)
