-- How far a decision up to a number takes a window, and which indexes it reaches.
use Rattle.std.proofs.Common.{◌≡◌, ◌≢◌, ℕ, ◌+◌, ◌<◌, ◌≤◌, ◌⊎◌, inl, inr, ⊎_elim, sym, ap, subst, ◌∙◌, arith}
use Rattle.std.specs.Bool.{⊤}
use Rattle.std.specs.FinMap as map
use Rattle.std.proofs.lemmas.Bool.{cases_eq, cases_lt}
use Rattle.docsis_wire.specs.declared.segment.ReadySegment.{ReadySegment}
use Rattle.reorder.specs.Number.{offset, number_ahead}
use Rattle.reorder.specs.View.{WindowView, offset_in, IsHeld, IsLawful}
use Rattle.reorder.specs.Verdicts.{declared_count, skipped_count}
use Rattle.reorder.proofs.AgreeingWindows.{free-none_held}
use Rattle.reorder.proofs.DeclaredCount.{declared_count-le, declared_count-le_held, declared_count-reaches, declared_count-none}
use Rattle.reorder.proofs.SkippedCount.{skipped_count-le, skipped_count-le_held, skipped_count-reaches, skipped_count-none}
use Rattle.flow_records.specs.declared.record.FlowRecord.{FlowRecord}
use Rattle.flow_core.specs.declared.sequence.SequenceNumber.{SequenceNumber}
use Rattle.flow_core.specs.declared.up_to.UpTo.{UpTo}
use Rattle.flow_core.specs.declared.up_to.UpTo.TheVariants.{Declare, Skip}
use Rattle.flow_core.specs.Fates.{Fates, number_of, IsKept, HasLaterKept}
use Rattle.flow_core.specs.Inside.Losses.{count_to}
use Rattle.flow_core.specs.Stands.{IsWindowFrom, number_to, Reaches}
use Rattle.flow_core.proofs.Deciding.{Decided, HasLaterKept-decided}
use Rattle.flow_core.proofs.IndexNumbers.{offset-index, index-offset, ahead-index}
use Rattle.flow_core.proofs.Windows.{held-kept, kept-held}
use Rattle.flow_core.proofs.Held.{some-held}

-- what a decision needs of a window: a declared loss something that is held, a skip nothing
abbrev pub CanLose : UpTo → WindowView ReadySegment → Type 0
CanLose (Declare _) w = 0 < map.len w.held
CanLose (Skip _) w = ⊤

-- something is held, or nothing
pub some-or-none : (w : WindowView ReadySegment) → (0 < map.len w.held) ⊎ (map.len w.held ≡ 0)
some-or-none w = ⊎_elim (λ (some : 0 < map.len w.held). inl some) (λ (none : map.len w.held ≤ 0). inr (omega arith)) (cases_lt 0 (map.len w.held))

pub CanLose-decided : (u : UpTo) (w : WindowView ReadySegment) → Decided (CanLose u w)
CanLose-decided (Declare sequence) w = ⊎_elim (λ some. inl some) (λ (none : map.len w.held ≡ 0). inr (λ some. omega arith)) (some-or-none w)
CanLose-decided (Skip sequence) w = inl tt

pub held-CanLose : (u : UpTo) (w : WindowView ReadySegment) → 0 < map.len w.held → CanLose u w
held-CanLose (Declare sequence) w some = some
held-CanLose (Skip sequence) w some = tt

-- the number of a decision is one
pub number-in_range : (u : UpTo) → number_to u < 8192
number-in_range (Declare sequence) = sequence.in_range
number-in_range (Skip sequence) = sequence.in_range

-- whether it reaches an index, where no segment from a bound on was kept
pub Reaches-decided : (u : UpTo) (fates : Fates) (bound i : ℕ) → ((j : ℕ) → IsKept fates j → j < bound) → Decided (Reaches u fates i)
Reaches-decided (Declare sequence) fates bound i within = HasLaterKept-decided fates bound i within
Reaches-decided (Skip sequence) fates bound i within = inl tt

-- it reaches the same where the same was kept
pub Reaches-still : (u : UpTo) (fates after : Fates) (i : ℕ) → ((j : ℕ) → IsKept fates j → IsKept after j) → Reaches u fates i → Reaches u after i
Reaches-still (Declare sequence) fates after i still later = (later.0, later.1, still later.0 later.2)
Reaches-still (Skip sequence) fates after i still reaches = tt

-- how many numbers of a window a decision passes
pub record Stops (u : UpTo) (w : WindowView ReadySegment) (count : ℕ) : Type 0 where
  pub up_to_number : count ≤ offset_in w (number_to u)
  pub up_to_held : (held : ℕ) → IsHeld w held → count ≤ offset_in w held
  pub reached : 0 < offset_in w (number_to u) → offset_in w (number_to u) < 4096 → CanLose u w
      → (count ≡ offset_in w (number_to u)) ⊎ IsHeld w (number_ahead w.expected count)
  pub none : (offset_in w (number_to u) ≡ 0) ⊎ (4096 ≤ offset_in w (number_to u)) → count ≡ 0
  pub none_held : (CanLose u w → ⊥) → count ≡ 0

-- so of each decision and window
abbrev pub StopsEverywhere : Type 0
StopsEverywhere = (u : UpTo) (w : WindowView ReadySegment) → IsLawful w → Stops u w (count_to w u)

module _ (sequence : SequenceNumber) (w : WindowView ReadySegment) where
  -- what the window's law says of declared losses
  pub declared-stops : declared_count w sequence.number ≤ offset_in w sequence.number
      → ((held : ℕ) → IsHeld w held → declared_count w sequence.number ≤ offset_in w held)
      → (0 < offset_in w sequence.number → offset_in w sequence.number < 4096 → 0 < map.len w.held
      → (declared_count w sequence.number ≡ offset_in w sequence.number) ⊎ IsHeld w (number_ahead w.expected (declared_count w sequence.number)))
      → (((offset_in w sequence.number ≡ 0) ⊎ (4096 ≤ offset_in w sequence.number)) ⊎ (map.len w.held ≡ 0) → declared_count w sequence.number ≡ 0)
      → Stops (Declare sequence) w (declared_count w sequence.number)
  declared-stops up_to_number up_to_held reached none =
      record {
        up_to_number = up_to_number;
        up_to_held = up_to_held;
        reached = reached;
        none = λ apart. none (inl apart);
        none_held = λ free. ⊎_elim (λ some. absurd (free some)) (λ empty. none (inr empty)) (some-or-none w);
      }

  -- and of skips
  pub skipped-stops : skipped_count w sequence.number ≤ offset_in w sequence.number
      → ((held : ℕ) → IsHeld w held → skipped_count w sequence.number ≤ offset_in w held)
      → (offset_in w sequence.number < 4096
      → (skipped_count w sequence.number ≡ offset_in w sequence.number) ⊎ IsHeld w (number_ahead w.expected (skipped_count w sequence.number)))
      → ((offset_in w sequence.number ≡ 0) ⊎ (4096 ≤ offset_in w sequence.number) → skipped_count w sequence.number ≡ 0)
      → Stops (Skip sequence) w (skipped_count w sequence.number)
  skipped-stops up_to_number up_to_held reached none =
      record {
        up_to_number = up_to_number;
        up_to_held = up_to_held;
        reached = λ _ near _. reached near;
        none = none;
        none_held = λ never. absurd (never tt);
      }

-- so of both, by what windows say of them
pub stops-everywhere : StopsEverywhere
stops-everywhere (Declare sequence) w lawful =
    declared-stops sequence w (declared_count-le w sequence.number lawful)
    (λ held is. declared_count-le_held w sequence.number lawful held is)
    (λ ahead near some. declared_count-reaches w sequence.number lawful ahead near some) (declared_count-none w sequence.number)
stops-everywhere (Skip sequence) w lawful =
    skipped-stops sequence w (skipped_count-le w sequence.number)
    (λ held is. skipped_count-le_held w sequence.number held is)
    (λ near. skipped_count-reaches w sequence.number lawful near) (skipped_count-none w sequence.number)

module _ (r : FlowRecord) (fates : Fates) (y : ℕ) (w : WindowView ReadySegment) (from_y : IsWindowFrom r fates y w) where
  -- an index from y on has as offset how far it lies after y
  index-offset_in : (i : ℕ) → y ≤ i → i < y + 8192 → y + offset_in w (number_of r.first i) ≡ i
  index-offset_in i from to = ap (λ e. y + offset e (number_of r.first i)) from_y.number ∙ offset-index r.first y i from to

  -- what is held somewhere was kept there
  held-index : (number : ℕ) → IsHeld w number → IsKept fates (y + offset_in w number)
  held-index number held =
      let near = from_y.lawful.held_within number held in
      let widest = from_y.lawful.width_in_range in
      let at : number_of r.first (y + offset_in w number) ≡ number =
      ap (λ e. number_of r.first (y + offset e number)) from_y.number ∙ index-offset r.first y number (from_y.lawful.held_in_range number held) in
      held-kept r fates y w from_y (y + offset_in w number) (omega arith) (omega arith) (subst (IsHeld w) (sym at) held)

  -- where nothing is held, nothing was kept from y on
  pub nothing-kept : map.len w.held ≡ 0 → (i : ℕ) → y ≤ i → ¬ (IsKept fates i)
  nothing-kept empty i from kept = free-none_held w (number_of r.first i) empty (kept-held r fates y w from_y i from kept)

  -- where something is held, something was kept
  something-kept : 0 < map.len w.held → (i : ℕ) × (y ≤ i) × IsKept fates i
  something-kept some = let held = some-held w some in (y + offset_in w held.0, omega arith, held-index held.0 held.1)

  -- something was kept after y exactly if something is held
  pub later-held : ¬ (IsKept fates y) → 0 < map.len w.held → HasLaterKept fates y
  later-held free some =
      let kept = something-kept some in
      ⊎_elim
      (λ (same : kept.0 ≡ y). absurd (free (subst (IsKept fates) same kept.2)))
      (λ (differ : kept.0 ≢ y). let from = kept.1 in (kept.0, omega arith, kept.2))
      (cases_eq kept.0 y)

  -- a decision that can lose reaches y, where it was not kept
  pub can-reach : (u : UpTo) → ¬ (IsKept fates y) → CanLose u w → Reaches u fates y
  can-reach (Declare sequence) free some = later-held free some
  can-reach (Skip sequence) free can = tt

  -- and one that reaches an index from y on can lose
  pub reach-can : (u : UpTo) (i : ℕ) → y ≤ i → Reaches u fates i → CanLose u w
  reach-can (Declare sequence) i from later =
      ⊎_elim (λ some. some) (λ none. absurd (nothing-kept none later.0 (let far = later.1 in omega arith) later.2)) (some-or-none w)
  reach-can (Skip sequence) i from reaches = tt

  -- it reaches each index that it passes
  pub passed-reached : (u : UpTo) (count i : ℕ) → Stops u w count → y ≤ i → i < y + count → Reaches u fates i
  passed-reached (Declare sequence) count i stops after before =
      ⊎_elim
      (λ some.
      let held = some-held w some in
      let upto = stops.up_to_held held.0 held.1 in
      (y + offset_in w held.0, omega arith, held-index held.0 held.1))
      (λ (none : map.len w.held ≡ 0). let nothing = stops.none_held (λ some. omega arith) in absurd (omega arith))
      (some-or-none w)
  passed-reached (Skip sequence) count i stops after before = tt

  -- What it does up to the number of an index.
  module _ (u : UpTo) (end count : ℕ) (numbered : number_of r.first end ≡ number_to u) (from : y ≤ end) (to : end < y + 4096) (stops : Stops u w count) where
    end-offset : y + offset_in w (number_to u) ≡ end
    end-offset = ap (λ n. y + offset_in w n) (sym numbered) ∙ index-offset_in end from (omega arith)

    pub count-to : y + count ≤ end
    count-to = let is = end-offset in let upto = stops.up_to_number in omega arith

    -- none of the indexes that it passes was kept
    pub passed-free : (i : ℕ) → y ≤ i → i < y + count → ¬ (IsKept fates i)
    passed-free i after before kept =
        let held = kept-held r fates y w from_y i after kept in
        let upto = stops.up_to_held (number_of r.first i) held in
        let short = count-to in
        let at = index-offset_in i after (omega arith) in
        omega arith

    -- and the end is reached, or a kept segment, where it can lose
    pub reached-end : CanLose u w → (y + count ≡ end) ⊎ IsKept fates (y + count)
    reached-end can =
        let is = end-offset in
        let short = count-to in
        ⊎_elim
        (λ (ahead : y < end).
        ⊎_elim
        (λ (all : count ≡ offset_in w (number_to u)). inl (omega arith))
        (λ held. inr (held-kept r fates y w from_y (y + count) (omega arith) (omega arith) (subst (IsHeld w) (ap (λ e. number_ahead e count) from_y.number ∙ ahead-index r.first y count) held)))
        (stops.reached (omega arith) (omega arith) can))
        (λ (here : end ≤ y). inl (omega arith))
        (cases_lt y end)
