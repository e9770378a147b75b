-- A segment that comes in channel order: its index was open, and it is kept or beyond the window.
use Rattle.std.proofs.Common.{◌≡◌, ℕ, ◌+◌, ◌<◌, ◌≤◌, ◌⊎◌, inl, inr, true, Some, None, List, refl, ap, sym, subst, ◌∙◌, arith}
use Rattle.std.proofs.lemmas.Bool.{cases_eq, cases_lt}
use Rattle.std.proofs.lemmas.Option.{slice_get_within}
use Rattle.std.specs.FinMap as map
use Rattle.docsis_wire.specs.declared.segment.Segment.{Segment}
use Rattle.reorder.specs.declared.verdict.Verdict.TheVariants.{Late, Beyond, Repeat, Kept}
use Rattle.reorder.proofs.Items.{get-insert_same, get-insert_other}
use Rattle.flow_core.specs.declared.event.Applied.{Applied}
use Rattle.flow_core.specs.declared.event.Applied.TheVariants.{Arrival, Decision, DecisionTo, DecisionSkip}
use Rattle.flow_core.specs.Fates.{Fates, IsKept, IsLost, IsOpen, IsExpected}
use Rattle.flow_core.specs.Events.{FlowEvent, arrives, IsAhead, Changes}
use Rattle.flow_core.proofs.Deciding.{IsAhead-once, open_or_settled}
use Rattle.flow_core.proofs.Nearness.{AreNumbered}
use Rattle.flow_core.proofs.Outcome.{open_and_settled}
use Rattle.loss_rule.specs.declared.rule.LossRule.{LossRule}
use Rattle.loss_rule.specs.Rule.{Coming, RuledFlow, Lasts, IsLastOn, Notes}
use Rattle.loss_rule.specs.InOrder.{Comes, AreInChannelOrder}
use Rattle.loss_rule.specs.Inside.Reached.{IsReached}
use Rattle.loss_rule.specs.Inside.Arrival.{AreBounded, IsUpToDate, ArrivesBy}
use Rattle.loss_rule.specs.Inside.Verdicts.{IsKeptOrBeyond}
use Rattle.loss_rule.specs.Inside.Order.{AreOfComings, IsInStep, Spares}
use Rattle.loss_rule.proofs.Reaching.{expected-onward, reached-leads}
use Rattle.loss_rule.proofs.Noting.{noted-other, noted-own, noted-bounded}
use Rattle.loss_rule.proofs.Passing.{passing-lost, passing-keeps}
use Rattle.loss_rule.proofs.ArrivalAnswers.{slides-no_arrival}
use Rattle.loss_rule.proofs.HandedIn.{no_arrival-kept}
use Rattle.loss_rule.proofs.ChannelOrder.{comes-once, number-at, passed-gone, noted-of}

-- a segment whose index is ahead and open is kept, or lies beyond the window
pub kept-or_beyond : (first width z k : ℕ) (segment : Segment) (answer : Applied) (fates after : Fates) → IsAhead first z segment.head.sequence k → IsOpen fates k
    → Changes first width z (arrives segment) answer fates after → IsKeptOrBeyond width z k segment answer fates after
kept-or_beyond first width z k segment (Arrival (Late back)) fates after ahead free changes = absurd (changes.0.0 k ahead)
kept-or_beyond first width z k segment (Arrival (Beyond back)) fates after ahead free ((i, ahead', far, same), stays) =
    let at : i ≡ k = IsAhead-once first z segment.head.sequence i k ahead' ahead in
    inr (ap (λ s. Arrival (Beyond s)) same, omega arith, stays)
kept-or_beyond first width z k segment (Arrival (Repeat back)) fates after ahead free ((i, ahead', near, kept, same), stays) =
    let at = ap (map.get fates) (IsAhead-once first z segment.head.sequence i k ahead' ahead) in
    let is = kept.1 in
    absurd cc
kept-or_beyond first width z k segment (Arrival Kept) fates after ahead free ((i, ahead', near, not_so), keeps) =
    let at : i ≡ k = IsAhead-once first z segment.head.sequence i k ahead' ahead in
    inl (refl, omega arith, keeps k ahead)
kept-or_beyond first width z k segment (Decision declared) fates after ahead free changes = absurd changes
kept-or_beyond first width z k segment (DecisionTo declared) fates after ahead free changes = absurd changes
kept-or_beyond first width z k segment (DecisionSkip skipped) fates after ahead free changes = absurd changes

module _ (flow : RuledFlow) (segments : List Segment) (comings : List Coming) (index_at : ℕ → ℕ) (numbered : AreNumbered flow.first segments)
    (order : AreInChannelOrder flow segments comings index_at)
    (n channel : ℕ) (segment : Segment) (here : Comes comings n channel segment) (lasts : Lasts) (fates : Fates)
    (known : IsUpToDate flow lasts fates) (in_step : IsInStep flow comings index_at n lasts fates) where
  -- its index was open
  pub index-open : (x : ℕ) → IsExpected fates x → IsOpen fates (index_at n)
  index-open x expected =
      elim (open_or_settled fates (index_at n)) [
        | inl free ↦ free
        | inr (Some kept, is) ↦
            let found = in_step.came (index_at n) (kept, is) in
            let same = order.once found.0 n found.1 channel found.2 segment found.4 here found.5 in
            let before = found.3 in
            absurd (omega arith)
        | inr (None, is) ↦ absurd (in_step.gone n channel segment (omega arith) here is)
      ]

  -- so it doesn't lie before the expected one
  pub index-from : (x : ℕ) → IsExpected fates x → x ≤ index_at n
  index-from x expected =
      elim (cases_lt (index_at n) x) [
        | inl below ↦ absurd (open_and_settled fates (index_at n) (index-open x expected) (expected.settled (index_at n) below))
        | inr from ↦ from
      ]

  -- once it is noted, where it lies less than 4096 ahead
  module _ (x : ℕ) (expected : IsExpected fates x) (noted : Lasts) (notes : Notes flow.first x channel segment.head.sequence lasts noted) (near : index_at n < x + 4096) where
    index-ahead : IsAhead flow.first x segment.head.sequence (index_at n)
    index-ahead = record { from = index-from x expected; to = near; numbered = sym (number-at flow segments comings index_at numbered order n channel segment here) }

    -- it is the last one of its channel
    pub own-last : IsLastOn noted channel (index_at n)
    own-last =
        noted-own flow.first x channel segment.head.sequence lasts noted notes (index_at n)
        (subst (λ l. channel < l) (sym known.size) (slice_get_within flow.channels channel true (order.on_flow n channel segment here))) index-ahead

    -- and each last index is still that of a coming on its channel
    pub still-of : AreOfComings comings index_at (n + 1) noted
    still-of =
        let from = index-from x expected in
        noted-of flow segments comings index_at numbered order n x channel segment lasts noted here in_step.of_comings notes (omega arith) near

    -- an earlier last index of a channel, or one later than it
    still-last : (other index : ℕ) → IsLastOn lasts other index → (later : ℕ) × IsLastOn noted other later × (index ≤ later)
    still-last other index is =
        elim (cases_eq other channel) [
          | inl same ↦
              let last = in_step.of_comings other index is in
              let later = order.in_order last.0 n channel last.1 segment last.2 (subst (λ k. Comes comings last.0 k last.1) same last.3) here in
              let there = last.4 in
              (index_at n, subst (λ k. IsLastOn noted k (index_at n)) (sym same) own-last, omega arith)
          | inr differ ↦ (index, noted-other flow.first x channel segment.head.sequence lasts noted notes other index differ is, omega arith)
        ]

    -- so each coming has a last index on its channel that is its own or later
    pub still-latest : (p other : ℕ) (another : Segment) → p < n + 1 → Comes comings p other another → (index : ℕ) × IsLastOn noted other index × (index_at p ≤ index)
    still-latest p other another before is =
        elim (cases_eq p n) [
          | inl same ↦
              let one = comes-once comings n other channel another segment (subst (λ k. Comes comings k other another) same is) here in
              (index_at n, subst (λ k. IsLastOn noted k (index_at n)) (sym one.0) own-last, (let e = ap index_at same in omega arith))
          | inr differ ↦
              let found = in_step.latest p other another (omega arith) is in
              let later = still-last other found.0 found.1 in
              (later.0, later.1, omega (arith, found.2, later.2))
        ]

  -- and once the rule has skipped what every channel has passed
  module _ (rule : LossRule) (events : List FlowEvent) (answers : List Applied) (noted : Lasts) (after : Fates) (r : IsReached flow.first flow.width fates)
      (t : ArrivesBy rule flow lasts fates channel segment events answers noted after) (near : index_at n < t.x + 4096) where
    -- last indexes lie less than 4096 ahead
    bounded : AreBounded noted t.x
    bounded = noted-bounded flow.first t.x channel segment.head.sequence lasts noted t.notes (known.bounded t.x t.expected)

    -- the index of each that comes then or later is still open
    later-open : (q other : ℕ) (another : Segment) → n ≤ q → Comes comings q other another → IsOpen t.between (index_at q)
    later-open q other another from is =
        elim (open_or_settled t.between (index_at q)) [
          | inl free ↦ free
          | inr (Some kept, there) ↦
              let same = (passing-keeps flow noted t.x fates t.between t.passing t.passing_answers t.expected bounded t.passes t.leads_passing (index_at q) kept).0 there in
              let found = in_step.came (index_at q) (kept, same) in
              let one = order.once found.0 q found.1 other found.2 another found.4 is found.5 in
              let before = found.3 in
              absurd (omega arith)
          | inr (None, there) ↦
              elim (passing-lost flow noted t.x fates t.between t.passing t.passing_answers t.expected bounded t.passes t.leads_passing (index_at q) there) [
                | inl before ↦ absurd (in_step.gone q other another from is before)
                | inr passed ↦
                    absurd (passed-gone flow segments comings index_at numbered order (n + 1) (index_at q) q other another noted
                    (still-of t.x t.expected noted t.notes near) passed (omega arith) is refl)
              ]
        ]

    between-open : IsOpen t.between (index_at n)
    between-open = later-open n channel segment (omega arith) here

    -- so it lies ahead then
    pub between-ahead : IsAhead flow.first t.y segment.head.sequence (index_at n)
    between-ahead =
        let onward = expected-onward flow.first flow.width t.x t.y t.passing t.passing_answers fates t.between r t.expected t.leads_passing t.expected_between in
        record {
          from = elim (cases_lt (index_at n) t.y) [
            | inl below ↦ absurd (open_and_settled t.between (index_at n) between-open (t.expected_between.settled (index_at n) below))
            | inr from ↦ from
          ];
          to = omega arith;
          numbered = sym (number-at flow segments comings index_at numbered order n channel segment here);
        }

    -- where the window slides, and so loses the index of none that comes then or later
    module _ (spares : Spares comings index_at n t.between t.slid) where
      -- what is kept then was kept before
      slid-kept : (i : ℕ) → IsKept t.slid i → IsKept t.between i
      slid-kept i =
          no_arrival-kept flow.first flow.width i t.sliding t.sliding_answers t.between t.slid
          (slides-no_arrival rule flow t.y segment.head.sequence t.sliding t.slides) t.leads_sliding

      -- each that comes then or later is still open
      pub slid-later_open : (q other : ℕ) (another : Segment) → n ≤ q → Comes comings q other another → IsOpen t.slid (index_at q)
      slid-later_open q other another from comes =
          let free = later-open q other another from comes in
          elim (open_or_settled t.slid (index_at q)) [
            | inl still ↦ still
            | inr (Some kept, is) ↦ let before = slid-kept (index_at q) (kept, is) in let there = before.1 in absurd cc
            | inr (None, is) ↦ let before = spares q other another from comes is in absurd cc
          ]

      slid-open : IsOpen t.slid (index_at n)
      slid-open = slid-later_open n channel segment (omega arith) here

      -- so it lies ahead then
      pub slid-ahead : IsAhead flow.first t.z segment.head.sequence (index_at n)
      slid-ahead =
          let before = between-ahead in
          let to = before.to in
          let led = reached-leads flow.first flow.width t.passing t.passing_answers fates t.between r t.leads_passing in
          let onward = expected-onward flow.first flow.width t.y t.z t.sliding t.sliding_answers t.between t.slid led t.expected_between t.leads_sliding t.expected_slid in
          record {
            from = elim (cases_lt (index_at n) t.z) [
              | inl below ↦ absurd (open_and_settled t.slid (index_at n) slid-open (t.expected_slid.settled (index_at n) below))
              | inr from ↦ from
            ];
            to = omega arith;
            numbered = before.numbered;
          }

      -- the answer to it
      pub own-answer : IsKeptOrBeyond flow.width t.z (index_at n) segment t.answer t.slid after
      own-answer = kept-or_beyond flow.first flow.width t.z (index_at n) segment t.answer t.slid after slid-ahead slid-open t.changes

      -- what is kept after it was kept before, or is this one; what is lost was lost by the skip or
      -- before
      kept-after : (i : ℕ) → IsKept after i → IsKept t.slid i ⊎ (i ≡ index_at n)
      kept-after i kept =
          elim own-answer [
            | inl (_, _, is) ↦ elim (cases_eq i (index_at n)) [
              | inl same ↦ inr same
              | inr differ ↦ inl (kept.0, sym (get-insert_other t.slid (index_at n) (Some segment) i differ) ∙ ap (λ (f : Fates). map.get f i) (sym is) ∙ kept.1)
            ]
            | inr (_, _, is) ↦ inl (kept.0, ap (λ (f : Fates). map.get f i) (sym is) ∙ kept.1)
          ]

      -- and what is lost after it was lost before
      lost-after : (i : ℕ) → IsLost after i → IsLost t.slid i
      lost-after i lost =
          elim own-answer [
            | inl (_, _, is) ↦
                let there : map.get (map.insert t.slid (index_at n) (Some segment)) i ≡ Some None = ap (λ (f : Fates). map.get f i) (sym is) ∙ lost in
                elim (cases_eq i (index_at n)) [
                  | inl same ↦
                      let kept = get-insert_same t.slid (index_at n) (Some segment) in
                      let at = ap (map.get (map.insert t.slid (index_at n) (Some segment))) same in
                      absurd cc
                  | inr differ ↦ sym (get-insert_other t.slid (index_at n) (Some segment) i differ) ∙ there
                ]
            | inr (_, _, is) ↦ ap (λ (f : Fates). map.get f i) (sym is) ∙ lost
          ]

      -- what held of the first n comings holds with it
      pub in_step-after : IsInStep flow comings index_at (n + 1) noted after
      in_step-after = record {
        of_comings = still-of t.x t.expected noted t.notes near;
        latest = still-latest t.x t.expected noted t.notes near;
        came = λ i kept. elim (kept-after i kept) [
          | inl slid ↦
              let before = slid-kept i slid in
              let same = (passing-keeps flow noted t.x fates t.between t.passing t.passing_answers t.expected bounded t.passes t.leads_passing i before.0).0 before.1 in
              let found = in_step.came i (before.0, same) in
              (found.0, found.1, found.2, (let past = found.3 in omega arith), found.4, found.5)
          | inr same ↦ (n, channel, segment, omega arith, here, sym same)
        ];
        gone = λ q other another from is lost.
            elim (passing-lost flow noted t.x fates t.between t.passing t.passing_answers t.expected bounded t.passes t.leads_passing (index_at q)
            (spares q other another (omega arith) is (lost-after (index_at q) lost))) [
              | inl before ↦ in_step.gone q other another (omega arith) is before
              | inr passed ↦
                  passed-gone flow segments comings index_at numbered order (n + 1) (index_at q) q other another noted
                  (still-of t.x t.expected noted t.notes near) passed (omega arith) is refl
            ];
      }

-- a window that doesn't slide loses nothing
pub stays-spares : (comings : List Coming) (index_at : ℕ → ℕ) (n : ℕ) (between slid : Fates) → slid ≡ between → Spares comings index_at n between slid
stays-spares comings index_at n between slid same q channel segment from is lost = subst (λ (f : Fates). IsLost f (index_at q)) same lost
