-- What the values of the options for flows say.
use Rattle.std.proofs.Common.{◌≡◌, ◌≢◌, ◌<◌, ℕ, Option, Some, None, List, [], ◌∷◌, ◌++◌, length, get_or, sym, subst, ◌∙◌, append_assoc, arith}
use Rattle.std.proofs.Common.{Bor}
use Rattle.std.specs.Prelude.{codes, MatchOption}
use Rattle.std.proofs.lemmas.Str.Parse.{digit_at}
use Rattle.std.proofs.lemmas.Str.Pattern.{IsSplitOnceResult, split_after}
use Rattle.flow_selection.specs.declared.range.FlowRange.{FlowRange}
use Rattle.flow_selection.specs.declared.shard.Shard.{Shard}
use Rattle.text_lines.specs.Number.{IsNumber}
use Rattle.command_line.specs.Flows.{shards_max, SaysShard, SaysRange, SaysRanges}

-- a number has no byte below the digits
no_byte_below : (field : List ℕ) (most number byte : ℕ) → IsNumber field most number → byte < 48 → (i : ℕ) → i < length field → get_or field i 0 ≢ byte
no_byte_below field most number byte is below i within same = let digit = digit_at field i is.digits.1 within in omega (arith, digit.0, same, below)

-- a field is one number
pub same_number : (field : List ℕ) (most other_most number other : ℕ) → IsNumber field most number → IsNumber field other_most other → number ≡ other
same_number field most other_most number other is are = sym is.value ∙ are.value

-- a value that says a shard has a slash, and the numbers of the shard stand before it and behind it
pub split_says : (value : List ℕ) (parts : Option (Bor (List ℕ) × Bor (List ℕ))) → IsSplitOnceResult 47 value parts → (shard : Shard) → SaysShard value shard
    → MatchOption parts ⊥ (λ part. IsNumber part.0.now shards_max shard.remainder × IsNumber part.1.now shards_max shard.count)
split_says value parts split shard says =
    named parts (split_after 47 value says.remainder_text says.count_text parts split (omega arith) (says.are ∙ append_assoc says.remainder_text (codes "/") says.count_text)
    (no_byte_below says.remainder_text shards_max shard.remainder 47 says.remainder (omega arith)))
  where
    named : (parts : Option (Bor (List ℕ) × Bor (List ℕ)))
        → MatchOption parts ⊥ (λ part. (part.0.now ≡ says.remainder_text) × (part.1.now ≡ says.count_text))
        → MatchOption parts ⊥ (λ part. IsNumber part.0.now shards_max shard.remainder × IsNumber part.1.now shards_max shard.count)
    named None found = found
    named (Some part) found = (
      subst (λ (text : List ℕ). IsNumber text shards_max shard.remainder) (sym found.0) says.remainder,
      subst (λ (text : List ℕ). IsNumber text shards_max shard.count) (sym found.1) says.count,
    )

-- what stands in front of ranges that the rest says
abbrev pub SaysBehind : ℕ → List ℕ → List FlowRange → List ℕ → Type 0
SaysBehind last value ranges rest = (range : FlowRange) (more : List FlowRange) → SaysRanges last rest (range ∷ more) → SaysRanges last value (ranges ++ range ∷ more)

-- one more part was taken from the rest, with its comma
pub says_behind-more : (last : ℕ) (value part rest more_text : List ℕ) (ranges : List FlowRange) (found : FlowRange) → SaysBehind last value ranges rest
    → rest ≡ part ++ codes "," ++ more_text → SaysRange last part found → SaysBehind last value (ranges ++ found ∷ []) more_text
says_behind-more last value part rest more_text ranges found behind are says range more said =
    subst (SaysRanges last value) (sym (append_assoc ranges (found ∷ []) (range ∷ more))) (behind found (range ∷ more) (part, more_text, are, says, said))

-- the last part
pub says_behind-last : (last : ℕ) (value rest : List ℕ) (ranges : List FlowRange) (found : FlowRange) → SaysBehind last value ranges rest → SaysRange last rest found
    → SaysRanges last value (ranges ++ found ∷ [])
says_behind-last last value rest ranges found behind says = behind found [] says
