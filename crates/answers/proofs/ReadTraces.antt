-- What the lines of a trace say: its bursts are of bytes, and there is no more of it than there are
-- lines.
use Rattle.std.proofs.Common.{◌≡◌, ℕ, suc, ◌+◌, ◌≤◌, ◌==◌, inl, inr, Bool, true, false, cond, Some, None, List, [], ◌∷◌, length, map, filter_map, slice_index_or, lit<, sym, ap, subst, ◌∙◌, arith, length-append}
use Rattle.std.specs.List.{AllByRecursion}
use Rattle.std.proofs.lemmas.List.Elements.{All-from_recursion}
use Rattle.std.proofs.lemmas.Grind.{get_or_default_zero}
use Rattle.hex.proofs.HexLemmas.{decode_of-ok}
use Rattle.lane.specs.declared.input.Input.{Input}
use Rattle.lane.specs.declared.input.Input.TheVariants.{Grant, Burst}
use Rattle.lane.specs.Inputs.{HasBytes}
use Rattle.receiver.specs.Entries.{Entry, came, decided, tag_of, came_on, incoming_in}
use Rattle.receiver.specs.Order.{times_of, IsLawfulOrder}
use Rattle.receiver.specs.AdmittedOrder.{input_counts}
use Rattle.receiver.proofs.Senders.{five}
use Rattle.text_lines.specs.Field.{SpellsBytes}
use Rattle.text_lines.specs.Format.{IsRead, no_lines, skipped, taken}
use Rattle.text_lines.proofs.KeptByEachLine.{Keeps, IsRead-keeps}
use Rattle.texts.specs.declared.trace.trace_line.TraceLine.{TraceLine}
use Rattle.texts.specs.declared.trace.trace_line.TraceLine.TheVariants as line
use Rattle.texts.specs.Trace.Line.{TraceShape, AreFields, Carries, burst_line, fields_after, values_of}
use Rattle.texts.specs.Trace.Place.{Said, nothing_said, with_line, trace_format}
use Rattle.texts.proofs.TraceTags.{read_of_channels, times_of-channel, times_of-decisions, tags_name_senders}
use Rattle.answers.specs.Bytes.{AreBytes}
use Rattle.answers.specs.Room.{AreBurstsOfBytes, EntryHasBytes}
use Rattle.answers.proofs.Everywhere.{all_append, all_given, all_at}
use Rattle.answers.proofs.SomeWalk.{no_bytes}

-- a field spells bytes
pub spelled-bytes : (field bytes : List ℕ) → SpellsBytes field bytes → AreBytes bytes
spelled-bytes field bytes (inl none) = subst AreBytes (sym none.1) no_bytes
spelled-bytes field bytes (inr decoded) =
    λ k d within. let small = (decode_of-ok field bytes decoded).3 k in let same = get_or_default_zero bytes k d within in omega arith

burst-bytes : (shape : TraceShape) (fields : List (List ℕ)) (channel : ℕ) (input : Input) → Carries shape fields (line.Input channel input) → HasBytes input
burst-bytes shape fields channel (Grant number sid bytes) carries = tt
burst-bytes shape fields channel (Burst grant hcs_ok bytes) carries = last carries.after carries.values
  where
    last : (after : List (List ℕ)) → AreFields (fields_after shape burst_line) after (values_of (line.Input channel (Burst grant hcs_ok bytes))) → AreBytes bytes
    last (a ∷ b ∷ c ∷ d ∷ more) are = spelled-bytes d bytes are.1.1.1.0
    last (a ∷ b ∷ c ∷ []) are = absurd are.1.1.1
    last (a ∷ b ∷ []) are = absurd are.1.1
    last (a ∷ []) are = absurd are.1
    last [] are = absurd are

abbrev pub HaveBytes : Said → Type 0
HaveBytes said = AllByRecursion EntryHasBytes said.entries

bytes-with : (said : Said) (fields : List (List ℕ)) (one : TraceLine) → Carries said.shape fields one → HaveBytes said → HaveBytes (with_line said one)
bytes-with said fields (line.Flow flow_record) carries have = have
bytes-with said fields (line.Sid row) carries have = have
bytes-with said fields (line.Input channel input) carries have =
    all_append EntryHasBytes said.entries (came channel input ∷ []) have (burst-bytes said.shape fields channel input carries, tt)
bytes-with said fields (line.Gap decision) carries have = all_append EntryHasBytes said.entries (decided decision ∷ []) have (tt, tt)

pub line-bytes : Keeps trace_format HaveBytes
line-bytes before fields after takes have = subst HaveBytes (sym takes.0.added) (bytes-with before fields takes.0.line takes.0.carries have)

-- what came in on a channel
on-channel : (own : Bool) (input other : Input) → HasBytes input → cond own (Some input) None ≡ Some other → HasBytes other
on-channel true input other has is = let same : input ≡ other = cc in subst HasBytes same has
on-channel false input other has is = absurd cc

came-bytes : (channel : ℕ) (entry : Entry) (input : Input) → EntryHasBytes entry → came_on channel entry ≡ Some input → HasBytes input
came-bytes channel (came other one) input has is = on-channel (other == channel) one input has is
came-bytes channel (decided decision) input has is = absurd cc

-- the bursts of what is read are of bytes
pub read-bytes : (ring : ℕ) (lines : List (List ℕ)) (said : Said) → IsRead trace_format (nothing_said ring) lines said → AreBurstsOfBytes (incoming_in said.entries)
read-bytes ring lines said read channel below =
    let have = IsRead-keeps HaveBytes line-bytes read tt in
    All-from_recursion HasBytes (filter_map (came_on channel) said.entries)
    (all_given HasBytes (came_on channel) said.entries (λ k entry input there gives.
    came-bytes channel entry input (all_at EntryHasBytes said.entries k entry have there) gives))

-- the tags are a lawful order of it
pub read-tags : (ring : ℕ) (lines : List (List ℕ)) (said : Said) → IsRead trace_format (nothing_said ring) lines said
    → IsLawfulOrder (input_counts (incoming_in said.entries)) (map tag_of said.entries)
read-tags ring lines said read =
    let each = read_of_channels ring lines said read in
    let entries = said.entries in
    record {
      named = tags_name_senders entries each;
      whole = five (λ s. times_of s (map tag_of entries) ≡ slice_index_or (input_counts (incoming_in entries)) s 0)
          (times_of-channel 0 entries (lit< tt)) (times_of-channel 1 entries (lit< tt)) (times_of-channel 2 entries (lit< tt)) (times_of-channel 3 entries (lit< tt))
          (times_of-decisions entries each);
    }

-- how much lines say
abbrev pub said_count : Said → ℕ
said_count said = length said.flows + length said.sids + length said.entries

-- each line says one thing more
said-with : (said : Said) (one : TraceLine) → said_count (with_line said one) ≡ suc (said_count said)
said-with said (line.Flow flow_record) = omega (arith, length-append said.flows (flow_record ∷ []))
said-with said (line.Sid row) = omega (arith, length-append said.sids (row ∷ []))
said-with said (line.Input channel input) = omega (arith, length-append said.entries (came channel input ∷ []))
said-with said (line.Gap decision) = omega (arith, length-append said.entries (decided decision ∷ []))

said-taken : (before : Said) (fields : List (List ℕ)) (after : Said) → trace_format.Takes before fields after → said_count after ≡ suc (said_count before)
said-taken before fields after takes = ap said_count takes.0.added ∙ said-with before takes.0.line

pub read-more : {before after : Said} {lines : List (List ℕ)} → IsRead trace_format before lines after → said_count after ≤ said_count before + length lines
read-more no_lines = omega arith
read-more (skipped none read) = let rest = read-more read in omega arith
read-more (taken takes read) = let rest = read-more read in let first = said-taken _ _ _ takes in omega arith

-- so lines say no more than there are
pub read-few : (ring : ℕ) (lines : List (List ℕ)) (said : Said) → IsRead trace_format (nothing_said ring) lines said
    → length said.flows + length said.sids + length said.entries ≤ length lines
read-few ring lines said read = let few = read-more read in omega arith
