-- The identifiers of the first records, kept in a set.
use Rattle.std.proofs.Common.{◌≡◌, ◌≢◌, ℕ, ◌+◌, ◌<◌, ◌↔◌, inl, inr, Bool, true, false, not, IsTrue, Some, List, [], slice_get, refl, sym, ap, subst, ◌∙◌, arith}
use Rattle.std.proofs.lemmas.Bool.{cases_eq, cases_lt, ne_eqb, false≢true}
use Rattle.std.proofs.lemmas.Option.{same_Some}
use Rattle.std.specs.Cmp.{unsigned_tied}
use Rattle.std.specs.List.{list_any}
use Rattle.std.specs.Ordering.{nat_cmp}
use Rattle.std.specs.BTreeMap.{is_at}
use Rattle.std.specs.BTreeSet.{BTreeSet, contains, Updates}
use Rattle.flow_records.specs.declared.record.FlowRecord.{FlowRecord}
use Rattle.flow_records.specs.Setup.{IsRepeated}

-- one of the first n records has this identifier
abbrev pub IsSeen : List FlowRecord → ℕ → ℕ → Type 0
IsSeen records n sfid = (j : ℕ) × (j < n) × (flow_record : FlowRecord) × (slice_get records j ≡ Some flow_record) × (flow_record.sfid ≡ sfid)

-- the set has just the identifiers of the first n records
abbrev pub HasSeen : List FlowRecord → ℕ → BTreeSet ℕ → Type 0
HasSeen records n seen = (sfid : ℕ) → IsTrue (contains nat_cmp seen sfid) ↔ IsSeen records n sfid

-- one key is not at another
not-at : (k q : ℕ) → q ≢ k → is_at (nat_cmp k) q ≡ false
not-at k q apart = unsigned_tied k q ∙ ne_eqb k q (λ same. apart (sym same))

-- a key that wasn't added was there, and one that was wasn't
pub was-there : (added there : Bool) → added ≡ not there → added ≡ false → there ≡ true
was-there added true is none = refl
was-there added false is none = absurd (false≢true (sym none ∙ is))

pub was-new : (added there : Bool) → added ≡ not there → added ≡ true → there ≡ false
was-new added false is one = refl
was-new added true is one = absurd (false≢true (sym is ∙ one))

-- none is seen yet
pub none-seen : (records : List FlowRecord) (seen : BTreeSet ℕ) → seen.keys ≡ [] → HasSeen records 0 seen
none-seen records seen empty sfid = (
  λ yes. absurd (false≢true (sym (ap (list_any (is_at (nat_cmp sfid))) empty) ∙ yes)),
  λ one. let before = one.1 in absurd (omega arith),
)

module _ (records : List FlowRecord) (n : ℕ) (flow_record : FlowRecord) (seen : BTreeSet ℕ) (at : slice_get records n ≡ Some flow_record) (has : HasSeen records n seen) where
  -- one record more
  pub seen-more : (after : BTreeSet ℕ) → Updates nat_cmp seen after flow_record.sfid true → HasSeen records (n + 1) after
  seen-more after updates sfid =
      elim (cases_eq sfid flow_record.sfid) [
        | inl same ↦ (
          λ yes. (n, omega arith, flow_record, at, sym same),
          λ one. subst (λ q. IsTrue (contains nat_cmp after q)) (sym same) updates.1,
        )
        | inr differ ↦
            let stays : contains nat_cmp after sfid ≡ contains nat_cmp seen sfid = updates.2 sfid (not-at flow_record.sfid sfid differ) in (
              λ yes. (let before = (has sfid).0 (sym stays ∙ yes) in (before.0, omega (arith, before.1), before.2, before.3, before.4)),
              λ one.
                  let earlier : one.0 < n = elim (cases_lt one.0 n) [
                    | inl before ↦ before
                    | inr from ↦
                        let here : one.0 ≡ n = omega (arith, one.1) in
                        let is : one.2 ≡ flow_record = same_Some _ _ (sym one.3 ∙ ap (slice_get records) here ∙ at) in
                        absurd (differ (sym one.4 ∙ ap (λ (r : FlowRecord). r.sfid) is))
                  ] in
                  stays ∙ (has sfid).1 (one.0, earlier, one.2, one.3, one.4),
            )
      ]

  -- its identifier was seen exactly if it stands in an earlier record
  pub repeated-here : IsTrue (contains nat_cmp seen flow_record.sfid) → IsRepeated records n
  repeated-here there = let found = (has flow_record.sfid).0 there in (found.0, found.1, flow_record, found.2, at, found.3, found.4)

  pub repeated-not : contains nat_cmp seen flow_record.sfid ≡ false → IsRepeated records n → ⊥
  repeated-not not_so repeated =
      let is : repeated.2 ≡ flow_record = same_Some _ _ (sym repeated.4 ∙ at) in
      false≢true (sym not_so ∙ (has flow_record.sfid).1 (repeated.0, repeated.1, repeated.3, repeated.5, repeated.6 ∙ ap (λ (r : FlowRecord). r.sfid) is))
