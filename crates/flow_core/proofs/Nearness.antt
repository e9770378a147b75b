-- Which segments near events keep: those of the cut, each at its own index.
use Rattle.std.proofs.Common.{◌≡◌, ℕ, ◌+◌, ◌<◌, ◌≤◌, ◌⊎◌, inl, inr, Bool, Option, Some, None, List, [], ◌∷◌, ◌++◌, length, slice_get, refl, ap, sym, subst, ◌∙◌, append_assoc, arith}
use Rattle.std.proofs.lemmas.Bool.{cases_eq, cases_lt}
use Rattle.std.proofs.lemmas.Option.{slice_get_within}
use Rattle.std.specs.Ordering.{nat_cmp}
use Rattle.std.specs.FinMap as map
use Rattle.docsis_wire.specs.declared.segment.Segment.{Segment}
use Rattle.docsis_wire.specs.Cut.{IsLawfulCut}
use Rattle.docsis_wire.proofs.StreamPlaces.{element_at}
use Rattle.reorder.specs.declared.verdict.Verdict.TheVariants.{Late, Beyond, Repeat, Kept}
use Rattle.reorder.specs.declared.verdict.Declared.TheVariants.{NextIsHere, NothingHeld, Lost}
use Rattle.reorder.proofs.Items.{get-insert_same, get-insert_other}
use Rattle.flow_core.specs.declared.event.Applied.{Applied}
use Rattle.flow_core.specs.declared.event.Applied.TheVariants.{Arrival, Decision, DecisionTo, DecisionSkip}
use Rattle.flow_core.specs.Fates.{Fates, no_fates, number_of, IsKeptAs, IsLost, IsExpected, HasLaterKept}
use Rattle.flow_core.specs.Events.{FlowEvent, arrives, gap, gap_to, skip_to, IsAhead, Changes, Leads, IsAfter}
use Rattle.flow_core.specs.Near.{IsNearTo, AreNear, AreOfCut, AreSkipsWithin}
use Rattle.flow_core.proofs.Deciding.{open_or_settled}
use Rattle.flow_core.proofs.Outcome.{IsSound, open_and_settled, expected-unique, sound-changes, sound-none, after-append, settled-stays, stays-leads}
use Rattle.flow_core.proofs.LaterKept.{IsLosing, lost-before}

-- segments that are numbered from the first on
abbrev pub AreNumbered : ℕ → List Segment → Type 0
AreNumbered first segments = (i : ℕ) (segment : Segment) → slice_get segments i ≡ Some segment → segment.head.sequence ≡ number_of first i

-- each kept segment is the cut's segment with its index
abbrev pub AreOfIndex : List Segment → Fates → Type 0
AreOfIndex segments fates = (i : ℕ) (segment : Segment) → IsKeptAs fates i segment → slice_get segments i ≡ Some segment

-- near events, where it is known of those before that what they kept is of the cut
abbrev pub AreNearSoFar : ℕ → ℕ → List Segment → List FlowEvent → Type 0
AreNearSoFar first width segments events =
    (before behind : List FlowEvent) (segment : Segment) (answers : List Applied) (fates : Fates) (x : ℕ)
    → events ≡ before ++ arrives segment ∷ behind → IsAfter first width before answers fates → IsExpected fates x → AreOfIndex segments fates
    → IsNearTo segments x segment

-- the segments of a lawful cut are numbered
pub numbered_of_cut : (check : List ℕ → Bool) (frames chunks : List (List ℕ)) (first fill : ℕ) (segments : List Segment)
    → IsLawfulCut check frames first fill chunks segments → AreNumbered first segments
numbered_of_cut check frames chunks first fill segments cut i segment at =
    let chunk = element_at chunks i (omega (arith, slice_get_within segments i segment at, cut.same_length)) in
    (cut.cut i chunk.0 segment chunk.1 at).number

-- what is kept after an event was kept before, or is the segment that arrives, at an index that its
-- number has ahead
kept-before : (first width x : ℕ) (event : FlowEvent) (answer : Applied) (fates after : Fates) → Changes first width x event answer fates after
    → (i : ℕ) (segment : Segment) → IsKeptAs after i segment
    → IsKeptAs fates i segment ⊎ ((event ≡ arrives segment) × IsAhead first x segment.head.sequence i)
kept-before first width x (arrives came) (Arrival (Late back)) fates after changes i segment kept = inl (ap (λ (f : Fates). map.get f i) (sym changes.1) ∙ kept)
kept-before first width x (arrives came) (Arrival (Beyond back)) fates after changes i segment kept = inl (ap (λ (f : Fates). map.get f i) (sym changes.1) ∙ kept)
kept-before first width x (arrives came) (Arrival (Repeat back)) fates after changes i segment kept = inl (ap (λ (f : Fates). map.get f i) (sym changes.1) ∙ kept)
kept-before first width x (arrives came) (Arrival Kept) fates after ((j, ahead, to, free), keeps) i segment kept =
    let there : map.get (map.insert fates j (Some came)) i ≡ Some (Some segment) = ap (λ (f : Fates). map.get f i) (sym (keeps j ahead)) ∙ kept in
    elim (cases_eq i j) [
      | inl same ↦
          let here : Some (Some came) ≡ Some (Some segment) = sym (get-insert_same fates j (Some came)) ∙ ap (map.get (map.insert fates j (Some came))) (sym same) ∙ there in
          let is : came ≡ segment = cc in
          inr (ap arrives is, subst (λ k. IsAhead first x segment.head.sequence k) (sym same) (subst (λ (s : Segment). IsAhead first x s.head.sequence j) is ahead))
      | inr differ ↦ inl (sym (get-insert_other fates j (Some came) i differ) ∙ there)
    ]
kept-before first width x (arrives came) (Decision declared) fates after changes i segment kept = absurd changes
kept-before first width x (arrives came) (DecisionTo declared) fates after changes i segment kept = absurd changes
kept-before first width x (arrives came) (DecisionSkip skipped) fates after changes i segment kept = absurd changes
kept-before first width x gap (Arrival verdict) fates after changes i segment kept = absurd changes
kept-before first width x gap (Decision NextIsHere) fates after changes i segment kept = absurd changes
kept-before first width x gap (Decision NothingHeld) fates after changes i segment kept = inl (ap (λ (f : Fates). map.get f i) (sym changes.1) ∙ kept)
kept-before first width x gap (Decision (Lost number)) fates after changes i segment kept =
    let there : map.get (map.insert fates x None) i ≡ Some (Some segment) = ap (λ (f : Fates). map.get f i) (sym changes.2) ∙ kept in
    elim (cases_eq i x) [
      | inl same ↦ let lost = get-insert_same fates x None in let here = ap (map.get (map.insert fates x None)) same in absurd cc
      | inr differ ↦ inl (sym (get-insert_other fates x None i differ) ∙ there)
    ]
kept-before first width x gap (DecisionTo declared) fates after changes i segment kept = absurd changes
kept-before first width x gap (DecisionSkip skipped) fates after changes i segment kept = absurd changes
kept-before first width x (gap_to number) (Arrival verdict) fates after changes i segment kept = absurd changes
kept-before first width x (gap_to number) (Decision declared) fates after changes i segment kept = absurd changes
kept-before first width x (gap_to number) (DecisionTo declared) fates after changes i segment kept =
    inl (sym (changes.others i (λ p. let lost = changes.lost i p in absurd cc)) ∙ kept)
kept-before first width x (gap_to number) (DecisionSkip skipped) fates after changes i segment kept = absurd changes
kept-before first width x (skip_to number) (Arrival verdict) fates after changes i segment kept = absurd changes
kept-before first width x (skip_to number) (Decision declared) fates after changes i segment kept = absurd changes
kept-before first width x (skip_to number) (DecisionTo declared) fates after changes i segment kept = absurd changes
kept-before first width x (skip_to number) (DecisionSkip skipped) fates after changes i segment kept =
    inl (sym (changes.others i (λ p. let lost = changes.lost i p in absurd cc)) ∙ kept)

-- within 4096 of the expected index a number has one index
near_index : (first x number i index : ℕ) → IsAhead first x number i → number ≡ number_of first index → x ≤ index + 4096 → index < x + 4096 → index ≡ i
near_index first x number i index ahead numbered from to = omega arith

-- a near event keeps a segment of the cut at its own index
of_index-step : (first width x : ℕ) (segments : List Segment) (event : FlowEvent) (answer : Applied) (fates after : Fates) → AreNumbered first segments
    → ((segment : Segment) → event ≡ arrives segment → IsNearTo segments x segment) → Changes first width x event answer fates after
    → AreOfIndex segments fates → AreOfIndex segments after
of_index-step first width x segments event answer fates after numbered near changes of_index i segment kept =
    elim (kept-before first width x event answer fates after changes i segment kept) [
      | inl before ↦ of_index i segment before
      | inr (is, ahead) ↦
          let n = near segment is in
          let same = near_index first x segment.head.sequence i n.index ahead (numbered n.index segment n.of_cut) n.from n.to in
          subst (λ k. slice_get segments k ≡ Some segment) same n.of_cut
    ]

of_index-leads : (first width x : ℕ) (segments : List Segment) (past rest : List FlowEvent) (answers more : List Applied) (fates after : Fates) → AreNumbered first segments
    → AreNearSoFar first width segments (past ++ rest) → IsAfter first width past answers fates → IsSound width fates x → AreOfIndex segments fates
    → Leads first width fates rest more after → AreOfIndex segments after
of_index-leads first width x segments past [] answers more fates after numbered near is sound of_index leads =
    subst (λ (f : Fates). AreOfIndex segments f) (sym leads.1) of_index
of_index-leads first width x segments past (event ∷ rest) answers more fates after numbered near is sound of_index (x', answer, behind, between, expected, changes, leads, are) =
    let same = expected-unique fates x' x expected sound.expected in
    let changed : Changes first width x event answer fates between = subst (λ k. Changes first width k event answer fates between) same changes in
    let next = sound-changes first width x event answer fates between sound changed in
    let here = of_index-step first width x segments event answer fates between numbered
    (λ segment came. near past rest segment answers fates x (ap (λ e. past ++ e ∷ rest) came) is sound.expected of_index) changed of_index in
    of_index-leads first width next.0 segments (past ++ event ∷ []) rest (answers ++ answer ∷ []) behind between after numbered
    (subst (AreNearSoFar first width segments) (sym (append_assoc past (event ∷ []) rest)) near)
    (after-append first width x past answers event answer fates between is sound.expected changed) next.2 here leads

pub of_index-after : (first width : ℕ) (segments : List Segment) (events : List FlowEvent) (answers : List Applied) (fates : Fates) → AreNumbered first segments
    → AreNearSoFar first width segments events → IsAfter first width events answers fates → AreOfIndex segments fates
of_index-after first width segments events answers fates numbered near is =
    of_index-leads first width 0 segments [] events [] answers no_fates fates numbered near (refl, refl) (sound-none width)
    (λ i segment kept. let none = map.get-empty {X = Option Segment} nat_cmp i in absurd cc) is

-- each index that was lost is one of the cut's
abbrev pub AreLostWithin : List Segment → Fates → Type 0
AreLostWithin segments fates = (i : ℕ) → IsLost fates i → i < length segments

-- then the expected index is at most the length of the cut
expected-within : (x : ℕ) (segments : List Segment) (fates : Fates) → IsExpected fates x → AreLostWithin segments fates → AreOfIndex segments fates → x ≤ length segments
expected-within x segments fates expected lost of_index =
    let n = length segments in
    elim (cases_lt n x) [
      | inr within ↦ within
      | inl below ↦ elim (open_or_settled fates n) [
        | inl free ↦ absurd (open_and_settled fates n free (expected.settled n below))
        | inr (Some segment, is) ↦ absurd (omega (arith, slice_get_within segments n segment (of_index n segment is)))
        | inr (None, is) ↦ absurd (omega (arith, lost n is))
      ]
    ]

-- the index of a number that is that of one of the cut's, where the cut is short
index-within : (first x number end i : ℕ) → IsAhead first x number end → number ≡ number_of first i → x ≤ 4096 → i ≤ 4096 → end ≡ i
index-within first x number end i ahead numbered near small = omega arith

-- an index with a later kept one is the cut's
later-within : (segments : List Segment) (fates : Fates) (i : ℕ) → AreOfIndex segments fates → HasLaterKept fates i → i < length segments
later-within segments fates i of_index later =
    let below = slice_get_within segments later.0 later.2.0 (of_index later.0 later.2.0 later.2.1) in
    let far = later.1 in
    omega arith

-- what an event loses is the cut's, if it skips no further
losing-within : (first x : ℕ) (segments : List Segment) (event : FlowEvent) (fates : Fates) (i : ℕ) → length segments ≤ 4096 → x ≤ length segments
    → AreOfIndex segments fates → ((number : ℕ) → event ≡ skip_to number → (j : ℕ) × (j ≤ length segments) × (number ≡ number_of first j))
    → IsLosing first x event fates i → i < length segments
losing-within first x segments (arrives segment) fates i short near of_index skips losing = later-within segments fates i of_index losing
losing-within first x segments gap fates i short near of_index skips losing = later-within segments fates i of_index losing
losing-within first x segments (gap_to number) fates i short near of_index skips losing = later-within segments fates i of_index losing
losing-within first x segments (skip_to number) fates i short near of_index skips losing =
    let upto = skips number refl in
    let small = upto.1 in
    let same = index-within first x number losing.end upto.0 losing.ahead upto.2 (omega arith) (omega arith) in
    let before = losing.before in
    omega arith

-- so is all that events lose, where what they keep is of the cut
lost_within-leads : (first width x : ℕ) (segments : List Segment) (events : List FlowEvent) (answers : List Applied) (fates after : Fates) → length segments ≤ 4096
    → IsSound width fates x → AreLostWithin segments fates → AreSkipsWithin first segments events → AreOfIndex segments after
    → Leads first width fates events answers after → AreLostWithin segments after
lost_within-leads first width x segments [] answers fates after short sound lost skips of_index leads = subst (AreLostWithin segments) (sym leads.1) lost
lost_within-leads first width x segments (event ∷ events) answers fates after short sound lost skips of_index (x', answer, rest, between, expected, changes, leads, are) =
    let same = expected-unique fates x' x expected sound.expected in
    let changed : Changes first width x event answer fates between = subst (λ k. Changes first width k event answer fates between) same changes in
    let next = sound-changes first width x event answer fates between sound changed in
    let here : AreOfIndex segments fates = λ i segment kept. of_index i segment
    (stays-leads first width next.0 events rest between after next.2 leads i (Some segment) (settled-stays first width x i event answer fates between (Some segment) sound changed kept)) in
    let within = expected-within x segments fates sound.expected lost here in
    lost_within-leads first width next.0 segments events rest between after short next.2
    (λ i is_lost. elim (lost-before first width x event answer fates between sound changed i is_lost) [
      | inl before ↦ lost i before
      | inr losing ↦ losing-within first x segments event fates i short within here (λ number is. skips [] events number (ap (λ e. e ∷ events) is)) losing
    ])
    (λ before behind number e. skips (event ∷ before) behind number (ap (λ t. event ∷ t) e)) of_index leads

lost_within-after : (first width : ℕ) (segments : List Segment) (events : List FlowEvent) (answers : List Applied) (fates : Fates) → length segments ≤ 4096
    → AreSkipsWithin first segments events → AreOfIndex segments fates → IsAfter first width events answers fates → AreLostWithin segments fates
lost_within-after first width segments events answers fates short skips of_index is =
    lost_within-leads first width 0 segments events answers no_fates fates short (sound-none width)
    (λ i lost. let free = map.get-empty {X = Option Segment} nat_cmp i in absurd cc) skips of_index is

-- in a short cut each index is near
short-near : (x : ℕ) (segments : List Segment) (segment : Segment) → length segments ≤ 4096 → x ≤ length segments → (i : ℕ) × (slice_get segments i ≡ Some segment)
    → IsNearTo segments x segment
short-near x segments segment short within (i, at) =
    let below = slice_get_within segments i segment at in
    record { index = i; of_cut = at; from = omega arith; to = omega arith }

-- what is skipped in the front of a list of events is skipped in the whole
skips-front : (first : ℕ) (segments : List Segment) (events before behind : List FlowEvent) (event : FlowEvent) → events ≡ before ++ event ∷ behind
    → AreSkipsWithin first segments events → AreSkipsWithin first segments before
skips-front first segments events before behind event e skips earlier later number is =
    skips earlier (later ++ event ∷ behind) number (e ∙ ap (λ t. t ++ event ∷ behind) is ∙ append_assoc earlier (skip_to number ∷ later) (event ∷ behind))

short-near_so_far : (first width : ℕ) (segments : List Segment) (events : List FlowEvent) → length segments ≤ 4096 → AreOfCut segments events
    → AreSkipsWithin first segments events → AreNearSoFar first width segments events
short-near_so_far first width segments events short of_cut skips before behind segment answers fates x e is expected of_index =
    let lost = lost_within-after first width segments before answers fates short (skips-front first segments events before behind (arrives segment) e skips) of_index is in
    short-near x segments segment short (expected-within x segments fates expected lost of_index) (of_cut before behind segment e)

-- what arrives in the front of a list of events arrives in the whole
of_cut-front : (segments : List Segment) (events before behind : List FlowEvent) (event : FlowEvent) → events ≡ before ++ event ∷ behind → AreOfCut segments events
    → AreOfCut segments before
of_cut-front segments events before behind event e of_cut earlier later segment is =
    of_cut earlier (later ++ event ∷ behind) segment (e ∙ ap (λ t. t ++ event ∷ behind) is ∙ append_assoc earlier (arrives segment ∷ later) (event ∷ behind))

pub near_of_short : (first width : ℕ) (segments : List Segment) (events : List FlowEvent) → AreNumbered first segments → length segments ≤ 4096
    → AreOfCut segments events → AreSkipsWithin first segments events → AreNear first width segments events
near_of_short first width segments events numbered short of_cut skips before behind segment answers fates x e is expected =
    let front = of_cut-front segments events before behind (arrives segment) e of_cut in
    let front_skips = skips-front first segments events before behind (arrives segment) e skips in
    short-near_so_far first width segments events short of_cut skips before behind segment answers fates x e is expected
    (of_index-after first width segments before answers fates numbered (short-near_so_far first width segments before short front front_skips) is)
