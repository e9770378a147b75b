-- What events make of a flow's fates: what is known after every list of them.
use Rattle.std.proofs.Common.{◌≡◌, ℕ, zero, suc, ◌+◌, ◌<◌, ◌≤◌, inl, inr, Bool, true, false, IsSome, is_some, Option, Some, None, List, [], ◌∷◌, ◌++◌, refl, ap, sym, subst, ◌∙◌, arith}
use Rattle.std.proofs.lemmas.Bool.{cases_eq, cases_lt, cases_order, false≢true}
use Rattle.std.specs.Ordering.{nat_cmp}
use Rattle.std.specs.FinMap as map
use Rattle.docsis_wire.specs.declared.segment.Segment.{Segment}
use Rattle.reorder.specs.declared.verdict.Verdict.TheVariants.{Late, Beyond, Repeat, Kept}
use Rattle.reorder.specs.declared.verdict.Declared.TheVariants.{NextIsHere, NothingHeld, Lost}
use Rattle.reorder.proofs.Items.{get-insert_same, get-insert_other}
use Rattle.flow_core.specs.declared.event.Applied.{Applied}
use Rattle.flow_core.specs.declared.event.Applied.TheVariants.{Arrival, Decision, DecisionTo, DecisionSkip}
use Rattle.flow_core.specs.Fates.{Fates, no_fates, IsKept, IsLost, IsOpen, IsExpected}
use Rattle.flow_core.specs.Events.{FlowEvent, arrives, gap, gap_to, skip_to, IsDeclaredTo, IsSkippedTo, LosesJust, Changes, DeclaresTo, SkipsTo, Leads, IsAfter}
use Rattle.flow_core.proofs.Deciding.{Decided, found-below, open_or_settled, IsDeclaredTo-decided, IsSkippedTo-decided, marked-lost}

-- what holds after every list of events, where x is the expected index
pub record IsSound (width : ℕ) (fates : Fates) (x : ℕ) : Type 0 where
  pub expected : IsExpected fates x
  pub lost_below : (i : ℕ) → IsLost fates i → i < x
  pub kept_within : (i : ℕ) → IsKept fates i → i < x + width

-- an open index is not settled
pub open_and_settled : (fates : Fates) (i : ℕ) → IsOpen fates i → IsSome (map.get fates i) → ⊥
open_and_settled fates i free settled = false≢true (sym (ap is_some free) ∙ settled)

-- there is one expected index
pub expected-unique : (fates : Fates) (x y : ℕ) → IsExpected fates x → IsExpected fates y → x ≡ y
expected-unique fates x y p q =
    elim (cases_order x y) [
      | inl same ↦ same
      | inr (inl less) ↦ absurd (open_and_settled fates x p.open_itself (q.settled x less))
      | inr (inr more) ↦ absurd (open_and_settled fates y q.open_itself (p.settled y more))
    ]

-- the indexes below n are settled, and so many are left up to the bound
expected-from : (fates : Fates) (bound n left : ℕ) → n + left ≡ bound → ((i : ℕ) → bound ≤ i → IsOpen fates i) → ((i : ℕ) → i < n → IsSome (map.get fates i))
    → (x : ℕ) × IsExpected fates x × (x ≤ bound)
expected-from fates bound n zero e open_from settled = (n, record { open_itself = open_from n (omega arith); settled = settled }, omega arith)
expected-from fates bound n (suc left) e open_from settled =
    elim (open_or_settled fates n) [
      | inl free ↦ (n, record { open_itself = free; settled = settled }, omega arith)
      | inr fate ↦ expected-from fates bound (n + 1) left (omega arith) open_from (λ i below. elim (cases_eq i n) [
        | inl same ↦ subst (λ k. IsSome (map.get fates k)) (sym same) (ap is_some fate.1)
        | inr differ ↦ settled i (omega arith)
      ])
    ]

-- and there is one at or before every index from which on all are open
pub expected-exists : (fates : Fates) (bound : ℕ) → ((i : ℕ) → bound ≤ i → IsOpen fates i) → (x : ℕ) × IsExpected fates x × (x ≤ bound)
expected-exists fates bound open_from = expected-from fates bound 0 bound (omega arith) open_from (λ i below. absurd (omega arith))

-- The fates after an event: what was settled stays, what is lost lies less than 4096 ahead and has
-- no open index up to it, and what is kept lies within the window.
record Grows (width x : ℕ) (fates after : Fates) : Type 0 where
  stays : (i : ℕ) (fate : Option Segment) → map.get fates i ≡ Some fate → map.get after i ≡ Some fate
  lost : (i j : ℕ) → IsLost after i → j ≤ i → IsSome (map.get after j)
  near : (i : ℕ) → IsLost after i → i < x + 4096
  within : (i : ℕ) → IsKept after i → i < x + width

-- nothing that was settled is open after
settled-after : (width x : ℕ) (fates after : Fates) → Grows width x fates after → (i : ℕ) → IsSome (map.get fates i) → IsSome (map.get after i)
settled-after width x fates after grows i settled =
    elim (open_or_settled fates i) [
      | inl free ↦ absurd (open_and_settled fates i free settled)
      | inr fate ↦ ap is_some (grows.stays i fate.0 fate.1)
    ]

-- from some index on all are open
open-behind : (width x : ℕ) (fates after : Fates) → Grows width x fates after → (i : ℕ) → x + width + 4096 ≤ i → IsOpen after i
open-behind width x fates after grows i from =
    elim (open_or_settled after i) [
      | inl free ↦ free
      | inr (None, is) ↦ let near = grows.near i is in absurd (omega arith)
      | inr (Some segment, is) ↦ let near = grows.within i (segment, is) in absurd (omega arith)
    ]

Grows-sound : (width x : ℕ) (fates after : Fates) → IsSound width fates x → Grows width x fates after → (y : ℕ) × (x ≤ y) × IsSound width after y
Grows-sound width x fates after sound grows =
    let found = expected-exists after (x + width + 4096) (open-behind width x fates after grows) in
    let y = found.0 in
    let is = found.1 in
    let onward : x ≤ y = elim (cases_lt y x) [
      | inl less ↦ absurd (open_and_settled after y is.open_itself (settled-after width x fates after grows y (sound.expected.settled y less)))
      | inr from ↦ from
    ] in (
      y,
      onward,
      record {
        expected = is;
        lost_below = λ i lost. elim (cases_lt i y) [ inl below ↦ below | inr from ↦ absurd (open_and_settled after y is.open_itself (grows.lost i y lost from)) ];
        kept_within = λ i kept. let near = grows.within i kept in omega arith;
      },
    )

-- nothing changes
Grows-same : (width x : ℕ) (fates : Fates) → IsSound width fates x → Grows width x fates fates
Grows-same width x fates sound = record {
  stays = λ i fate is. is;
  lost = λ i j lost up_to. sound.expected.settled j (let below = sound.lost_below i lost in omega arith);
  near = λ i lost. let below = sound.lost_below i lost in omega arith;
  within = sound.kept_within;
}

-- an open index is settled, and all others stay
stays-insert : (fates : Fates) (i : ℕ) (fate : Option Segment) → IsOpen fates i → (j : ℕ) (other : Option Segment) → map.get fates j ≡ Some other
    → map.get (map.insert fates i fate) j ≡ Some other
stays-insert fates i fate free j other is =
    get-insert_other fates i fate j (λ same. let there = ap (map.get fates) same in cc) ∙ is

-- an index that is not kept lies at or after the expected one only if it is open
open-ahead : (width x : ℕ) (fates : Fates) → IsSound width fates x → (i : ℕ) → x ≤ i → (IsKept fates i → ⊥) → IsOpen fates i
open-ahead width x fates sound i from not_so =
    elim (open_or_settled fates i) [
      | inl free ↦ free
      | inr (None, is) ↦ let below = sound.lost_below i is in absurd (omega arith)
      | inr (Some segment, is) ↦ absurd (not_so (segment, is))
    ]

-- a segment is kept
Grows-keeps : (width x i : ℕ) (fates : Fates) (segment : Segment) → IsSound width fates x → x ≤ i → i < x + width → (IsKept fates i → ⊥)
    → Grows width x fates (map.insert fates i (Some segment))
Grows-keeps width x i fates segment sound from to not_so =
    let after = map.insert fates i (Some segment) in
    let free = open-ahead width x fates sound i from not_so in
    let stays = stays-insert fates i (Some segment) free in
    let before : (j : ℕ) → IsLost after j → IsLost fates j = λ j lost. elim (cases_eq j i) [
      | inl same ↦ let there = ap (map.get after) same in let is = get-insert_same fates i (Some segment) in absurd cc
      | inr differ ↦ sym (get-insert_other fates i (Some segment) j differ) ∙ lost
    ] in
    record {
      stays = stays;
      lost = λ j k lost up_to.
          let below = sound.lost_below j (before j lost) in
          elim (open_or_settled fates k) [
            | inl none ↦ absurd (open_and_settled fates k none (sound.expected.settled k (omega arith)))
            | inr fate ↦ ap is_some (stays k fate.0 fate.1)
          ];
      near = λ j lost. let below = sound.lost_below j (before j lost) in omega arith;
      within = λ j kept. elim (cases_eq j i) [
        | inl same ↦ omega arith
        | inr differ ↦ sound.kept_within j (kept.0, sym (get-insert_other fates i (Some segment) j differ) ∙ kept.1)
      ];
    }

-- Some open indexes less than 4096 ahead are lost, each with no other open index before it.
record Loses (x : ℕ) (fates after : Fates) (P : ℕ → Type 0) : Type 0 where
  decide : (i : ℕ) → Decided (P i)
  lost : (i : ℕ) → P i → map.get after i ≡ Some None
  others : (i : ℕ) → (P i → ⊥) → map.get after i ≡ map.get fates i
  free : (i : ℕ) → P i → IsOpen fates i
  near : (i : ℕ) → P i → i < x + 4096
  down : (i j : ℕ) → P i → x ≤ j → j ≤ i → IsOpen fates j → P j

Loses-stays : (x : ℕ) (fates after : Fates) (P : ℕ → Type 0) → Loses x fates after P → (i : ℕ) (fate : Option Segment) → map.get fates i ≡ Some fate
    → map.get after i ≡ Some fate
Loses-stays x fates after P loses i fate is = loses.others i (λ p. let free = loses.free i p in cc) ∙ is

Loses-kept : (x : ℕ) (fates after : Fates) (P : ℕ → Type 0) → Loses x fates after P → (i : ℕ) → IsKept after i → IsKept fates i
Loses-kept x fates after P loses i kept =
    (kept.0, sym (loses.others i (λ p. let lost = loses.lost i p in let is = kept.1 in cc)) ∙ kept.1)

Grows-loses : (width x : ℕ) (fates after : Fates) (P : ℕ → Type 0) → IsSound width fates x → Loses x fates after P → Grows width x fates after
Grows-loses width x fates after P sound loses =
    let stays = Loses-stays x fates after P loses in
    let settled : (j : ℕ) → IsSome (map.get fates j) → IsSome (map.get after j) = λ j h. elim (open_or_settled fates j) [
      | inl none ↦ absurd (open_and_settled fates j none h)
      | inr fate ↦ ap is_some (stays j fate.0 fate.1)
    ] in
    record {
      stays = stays;
      lost = λ i j lost up_to. elim (cases_lt j x) [
        | inl below ↦ settled j (sound.expected.settled j below)
        | inr from ↦ elim (loses.decide i) [
          | inl p ↦ elim (open_or_settled fates j) [
            | inl none ↦ ap is_some (loses.lost j (loses.down i j p from up_to none))
            | inr fate ↦ ap is_some (stays j fate.0 fate.1)
          ]
          | inr not_so ↦ let below = sound.lost_below i (sym (loses.others i not_so) ∙ lost) in absurd (omega arith)
        ]
      ];
      near = λ i lost. elim (loses.decide i) [
        | inl p ↦ loses.near i p
        | inr not_so ↦ let below = sound.lost_below i (sym (loses.others i not_so) ∙ lost) in omega arith
      ];
      within = λ i kept. sound.kept_within i (Loses-kept x fates after P loses i kept);
    }

-- the expected index is declared lost
Loses-gap : (width x : ℕ) (fates : Fates) → IsSound width fates x → Loses x fates (map.insert fates x None) (λ i. i ≡ x)
Loses-gap width x fates sound = record {
  decide = λ i. cases_eq i x;
  lost = λ i same. ap (map.get (map.insert fates x None)) same ∙ get-insert_same fates x None;
  others = λ i differ. get-insert_other fates x None i differ;
  free = λ i same. ap (map.get fates) same ∙ sound.expected.open_itself;
  near = λ i same. omega arith;
  down = λ i j same from up_to free. omega arith;
}

-- a loss is declared up to a number
Loses-gap_to : (first width x number : ℕ) (declared : Bool) (fates after : Fates) → IsSound width fates x → DeclaresTo first x number declared fates after
    → Loses x fates after (IsDeclaredTo first x number fates)
Loses-gap_to first width x number declared fates after sound declares = record {
  decide = λ i. IsDeclaredTo-decided first x number fates (x + width) i sound.kept_within;
  lost = declares.lost;
  others = declares.others;
  free = λ i p. p.open_itself;
  near = λ i p. let to = p.ahead.to in let before = p.before in omega arith;
  down = λ i j p from up_to free. record {
    end = p.end;
    ahead = p.ahead;
    from = from;
    before = let before = p.before in omega arith;
    open_itself = free;
    later_kept = (p.later_kept.0, omega (arith, p.later_kept.1), p.later_kept.2);
  };
}

-- all is skipped up to a number
Loses-skip_to : (first x number : ℕ) (skipped : Bool) (fates after : Fates) → SkipsTo first x number skipped fates after
    → Loses x fates after (IsSkippedTo first x number fates)
Loses-skip_to first x number skipped fates after skips = record {
  decide = λ i. IsSkippedTo-decided first x number fates i;
  lost = skips.lost;
  others = skips.others;
  free = λ i p. p.open_itself;
  near = λ i p. let to = p.ahead.to in let before = p.before in omega arith;
  down = λ i j p from up_to free. record { end = p.end; ahead = p.ahead; from = from; before = let before = p.before in omega arith; open_itself = free };
}

-- each event changes fates in this way
Changes-grows : (first width x : ℕ) (event : FlowEvent) (answer : Applied) (fates after : Fates)
    → IsSound width fates x → Changes first width x event answer fates after → Grows width x fates after
Changes-grows first width x (arrives segment) (Arrival (Late back)) fates after sound changes = subst (Grows width x fates) (sym changes.1) (Grows-same width x fates sound)
Changes-grows first width x (arrives segment) (Arrival (Beyond back)) fates after sound changes = subst (Grows width x fates) (sym changes.1) (Grows-same width x fates sound)
Changes-grows first width x (arrives segment) (Arrival (Repeat back)) fates after sound changes = subst (Grows width x fates) (sym changes.1) (Grows-same width x fates sound)
Changes-grows first width x (arrives segment) (Arrival Kept) fates after sound ((i, ahead, to, not_so), keeps) =
    subst (Grows width x fates) (sym (keeps i ahead)) (Grows-keeps width x i fates segment sound ahead.from to not_so)
Changes-grows first width x (arrives segment) (Decision declared) fates after sound changes = absurd changes
Changes-grows first width x (arrives segment) (DecisionTo declared) fates after sound changes = absurd changes
Changes-grows first width x (arrives segment) (DecisionSkip skipped) fates after sound changes = absurd changes
Changes-grows first width x gap (Arrival verdict) fates after sound changes = absurd changes
Changes-grows first width x gap (Decision NextIsHere) fates after sound changes = absurd changes
Changes-grows first width x gap (Decision NothingHeld) fates after sound changes = subst (Grows width x fates) (sym changes.1) (Grows-same width x fates sound)
Changes-grows first width x gap (Decision (Lost number)) fates after sound changes =
    subst (Grows width x fates) (sym changes.2) (Grows-loses width x fates (map.insert fates x None) (λ i. i ≡ x) sound (Loses-gap width x fates sound))
Changes-grows first width x gap (DecisionTo declared) fates after sound changes = absurd changes
Changes-grows first width x gap (DecisionSkip skipped) fates after sound changes = absurd changes
Changes-grows first width x (gap_to number) (Arrival verdict) fates after sound changes = absurd changes
Changes-grows first width x (gap_to number) (Decision declared) fates after sound changes = absurd changes
Changes-grows first width x (gap_to number) (DecisionTo declared) fates after sound changes =
    Grows-loses width x fates after (IsDeclaredTo first x number fates) sound (Loses-gap_to first width x number declared fates after sound changes)
Changes-grows first width x (gap_to number) (DecisionSkip skipped) fates after sound changes = absurd changes
Changes-grows first width x (skip_to number) (Arrival verdict) fates after sound changes = absurd changes
Changes-grows first width x (skip_to number) (Decision declared) fates after sound changes = absurd changes
Changes-grows first width x (skip_to number) (DecisionTo declared) fates after sound changes = absurd changes
Changes-grows first width x (skip_to number) (DecisionSkip skipped) fates after sound changes =
    Grows-loses width x fates after (IsSkippedTo first x number fates) sound (Loses-skip_to first x number skipped fates after changes)

-- an event keeps what holds, and the expected index never goes back
pub sound-changes : (first width x : ℕ) (event : FlowEvent) (answer : Applied) (fates after : Fates)
    → IsSound width fates x → Changes first width x event answer fates after
    → (y : ℕ) × (x ≤ y) × IsSound width after y
sound-changes first width x event answer fates after sound changes =
    Grows-sound width x fates after sound (Changes-grows first width x event answer fates after sound changes)

-- Where the window is at most 4096 wide, the expected index moves on by at most 4096.
pub onward-changes : (first width x y : ℕ) (event : FlowEvent) (answer : Applied) (fates after : Fates) → width ≤ 4096
    → IsSound width fates x → Changes first width x event answer fates after → IsExpected after y
    → (x ≤ y) × (y ≤ x + 4096)
onward-changes first width x y event answer fates after narrow sound changes expected =
    let grows = Changes-grows first width x event answer fates after sound changes in
    let next = Grows-sound width x fates after sound grows in
    let same = expected-unique after y next.0 expected next.2.expected in
    let found = expected-exists after (x + 4096) (λ i from. elim (open_or_settled after i) [
      | inl free ↦ free
      | inr (None, is) ↦ let near = grows.near i is in absurd (omega arith)
      | inr (Some segment, is) ↦ let near = grows.within i (segment, is) in absurd (omega arith)
    ]) in
    let same' = expected-unique after y found.0 expected found.1 in
    (omega (arith, next.1), omega (arith, found.2))

-- and so do events one after another
pub sound-leads : (first width x : ℕ) (events : List FlowEvent) (answers : List Applied) (fates after : Fates)
    → IsSound width fates x → Leads first width fates events answers after
    → (y : ℕ) × (x ≤ y) × IsSound width after y
sound-leads first width x [] answers fates after sound is = (x, omega arith, subst (λ (f : Fates). IsSound width f x) (sym is.1) sound)
sound-leads first width x (event ∷ events) answers fates after sound (x', answer, rest, between, expected, changes, leads, are) =
    let same = expected-unique fates x' x expected sound.expected in
    let next = sound-changes first width x event answer fates between sound (subst (λ k. Changes first width k event answer fates between) same changes) in
    let last = sound-leads first width next.0 events rest between after next.2 leads in
    (last.0, omega (arith, next.1, last.1), last.2)

-- nothing came yet
pub sound-none : (width : ℕ) → IsSound width no_fates 0
sound-none width =
    let free : (i : ℕ) → IsOpen no_fates i = λ i. map.get-empty nat_cmp i in
    record {
      expected = record { open_itself = free 0; settled = λ i below. absurd (omega arith) };
      lost_below = λ i lost. let none = free i in absurd cc;
      kept_within = λ i kept. let none = free i in let is = kept.1 in absurd cc;
    }

pub sound-after : (first width : ℕ) (events : List FlowEvent) (answers : List Applied) (fates : Fates) (x : ℕ)
    → IsAfter first width events answers fates → IsExpected fates x → IsSound width fates x
sound-after first width events answers fates x is expected =
    let found = sound-leads first width 0 events answers no_fates fates (sound-none width) is in
    subst (IsSound width fates) (expected-unique fates found.0 x found.2.expected expected) found.2

-- events in front, and then one more
leads-append : (first width x : ℕ) (events : List FlowEvent) (answers : List Applied) (event : FlowEvent) (answer : Applied) (before fates after : Fates)
    → Leads first width before events answers fates → IsExpected fates x → Changes first width x event answer fates after
    → Leads first width before (events ++ event ∷ []) (answers ++ answer ∷ []) after
leads-append first width x [] answers event answer before fates after is expected changes = (
  x,
  answer,
  [],
  after,
  subst (λ (f : Fates). IsExpected f x) is.1 expected,
  subst (λ (f : Fates). Changes first width x event answer f after) is.1 changes,
  (refl, refl),
  ap (λ t. t ++ answer ∷ []) is.0,
)
leads-append first width x (e ∷ events) answers event answer before fates after (x', one, rest, between, expects, changed, leads, are) expected changes = (
  x',
  one,
  rest ++ answer ∷ [],
  between,
  expects,
  changed,
  leads-append first width x events rest event answer between fates after leads expected changes,
  ap (λ t. t ++ answer ∷ []) are,
)

-- one more event at the end
pub after-append : (first width x : ℕ) (events : List FlowEvent) (answers : List Applied) (event : FlowEvent) (answer : Applied) (fates after : Fates)
    → IsAfter first width events answers fates → IsExpected fates x → Changes first width x event answer fates after
    → IsAfter first width (events ++ event ∷ []) (answers ++ answer ∷ []) after
after-append first width x events answers event answer fates after is expected changes =
    leads-append first width x events answers event answer no_fates fates after is expected changes

-- indexes less than 4096 ahead can be lost, and no others
pub loses-just : (x : ℕ) (P : ℕ → Type 0) (fates : Fates) → ((i : ℕ) → Decided (P i)) → ((i : ℕ) → P i → i < x + 4096)
    → (after : Fates) × (any : Bool) × LosesJust P any fates after
loses-just x P fates decide near =
    let marked = marked-lost P decide fates (x + 4096) in
    elim (found-below P decide (x + 4096)) [
      | inl some ↦ (marked.0, true, record { lost = λ i p. marked.1 i (near i p) p; others = marked.2; answer = (λ _. (some.0, some.2), λ _. refl) })
      | inr none ↦ (
        marked.0,
        false,
        record { lost = λ i p. marked.1 i (near i p) p; others = marked.2; answer = (λ wrong. absurd (false≢true wrong), λ some. absurd (none some.0 (near some.0 some.1) some.1)) },
      )
    ]

-- so those of a skip up to a number
pub skipped-to : (first x number : ℕ) (fates : Fates) → (after : Fates) × (skipped : Bool) × SkipsTo first x number skipped fates after
skipped-to first x number fates =
    loses-just x (IsSkippedTo first x number fates) fates (IsSkippedTo-decided first x number fates)
    (λ i p. let to = p.ahead.to in let before = p.before in omega arith)

-- and those of a loss that is declared up to a number
pub declared-to : (first width x number : ℕ) (fates : Fates) → IsSound width fates x
    → (after : Fates) × (declared : Bool) × DeclaresTo first x number declared fates after
declared-to first width x number fates sound =
    loses-just x (IsDeclaredTo first x number fates) fates
    (λ i. IsDeclaredTo-decided first x number fates (x + width) i sound.kept_within)
    (λ i p. let to = p.ahead.to in let before = p.before in omega arith)

-- what is settled stays as it is
pub settled-stays : (first width x i : ℕ) (event : FlowEvent) (answer : Applied) (fates after : Fates) (fate : Option _)
    → IsSound width fates x → Changes first width x event answer fates after
    → map.get fates i ≡ Some fate → map.get after i ≡ Some fate
settled-stays first width x i event answer fates after fate sound changes is = (Changes-grows first width x event answer fates after sound changes).stays i fate is

-- also where events come one after another
pub stays-leads : (first width x : ℕ) (events : List FlowEvent) (answers : List Applied) (fates after : Fates) → IsSound width fates x
    → Leads first width fates events answers after → (i : ℕ) (fate : Option Segment) → map.get fates i ≡ Some fate → map.get after i ≡ Some fate
stays-leads first width x [] answers fates after sound leads i fate is = ap (λ (f : Fates). map.get f i) leads.1 ∙ is
stays-leads first width x (event ∷ events) answers fates after sound (x', answer, rest, between, expected, changes, leads, are) i fate is =
    let same = expected-unique fates x' x expected sound.expected in
    let changed : Changes first width x event answer fates between = subst (λ k. Changes first width k event answer fates between) same changes in
    let next = sound-changes first width x event answer fates between sound changed in
    stays-leads first width next.0 events rest between after next.2 leads i fate (settled-stays first width x i event answer fates between fate sound changed is)
