-- Something happens as entries are handed in one after another.
use Rattle.std.proofs.Common.{◌≡◌, ℕ, ◌<◌, Option, Some, None, List, [], ◌∷◌, ◌++◌, length, map, filter_map, refl, sym, ap, subst, ◌∙◌, append-nil, append_assoc}
use Rattle.std.specs.List.{AllByRecursion, cons_option}
use Rattle.std.proofs.lemmas.List.Elements.{filter_map-append}
use Rattle.lane.specs.Rows.{CanBeOpenedWithin}
use Rattle.lane.specs.Inputs.{HasBytes}
use Rattle.consumer.specs.declared.given.Given.{Given}
use Rattle.bonded_flows.specs.declared.decision.FlowDecision.TheVariants.{Gap, GapTo}
use Rattle.bonded_flows.specs.Table.{TableSetup}
use Rattle.receiver.specs.Entries as entry
use Rattle.receiver.specs.Entries.{Entry}
use Rattle.receiver.specs.HandedIn.{HandedIn, decided}
use Rattle.receiver.specs.Replaying.{entry_of}
use Rattle.texts.specs.declared.follow.happening.Happening.{Happening}
use Rattle.texts.specs.declared.follow.happening.Happening.TheVariants.{Gave}
use Rattle.answers.specs.Beside.{HappenedSoFar}
use Rattle.answers.proofs.SomeHappening.{nothing_so_far, OneMore, happened_with, takes_input, takes_decision}

module _ (made : TableSetup) (can : CanBeOpenedWithin made.channels made.rows (length made.records)) where
  -- an input came on a channel that there is, and is of bytes
  abbrev pub IsSound : Entry → Type 0
  IsSound (entry.came channel input) = (channel < made.channels) × HasBytes input
  IsSound (entry.decided decision) = Unit {0}

  -- What happens up to here.
  pub record EntriesHappen (entries : List Entry) : Type 0 where
    pub handed : List HandedIn
    pub given : List Given
    pub happened : List Happening
    pub so_far : HappenedSoFar made handed given happened
    pub are : filter_map entry_of handed ≡ entries

  -- something is handed in that is the entry
  one_entry : (handed : List HandedIn) (given : List Given) (happened : List Happening) (was : HappenedSoFar made handed given happened) (e : Entry) → IsSound e
      → (one : HandedIn) × (entry_of one ≡ Some e) × OneMore made can handed given happened was one
  one_entry handed given happened was (entry.came channel input) sound = takes_input made can handed given happened was channel input sound.0 sound.1
  one_entry handed given happened was (entry.decided decision) sound = by_upto decision.upto refl where
    by_upto : (upto : Option ℕ) → decision.upto ≡ upto → (one : HandedIn) × (entry_of one ≡ Some (entry.decided decision)) × OneMore made can handed given happened was one
    by_upto None is = (
      decided decision.flow Gap,
      ap (λ (o : Option ℕ). Some (entry.decided (record { flow = decision.flow; upto = o }))) (sym is),
      takes_decision made can handed given happened was decision.flow Gap tt,
    )
    by_upto (Some number) is = (
      decided decision.flow (GapTo number),
      ap (λ (o : Option ℕ). Some (entry.decided (record { flow = decision.flow; upto = o }))) (sym is),
      takes_decision made can handed given happened was decision.flow (GapTo number) tt,
    )

  -- and so one after another
  entries_after : (before rest : List Entry) → EntriesHappen before → AllByRecursion IsSound rest → EntriesHappen (before ++ rest)
  entries_after before [] so sound = subst EntriesHappen (sym (append-nil before)) so
  entries_after before (e ∷ rest) so sound =
      let next = one_entry so.handed so.given so.happened so.so_far e sound.0 in
      let then_so : EntriesHappen (before ++ e ∷ []) = record {
        handed = so.handed ++ next.0 ∷ [];
        given = so.given ++ next.2.more;
        happened = so.happened ++ (map Gave next.2.more ++ next.2.told);
        so_far = happened_with made can so.handed so.given so.happened so.so_far next.0 next.2;
        are =
            filter_map-append entry_of so.handed (next.0 ∷ []) ∙ ap (λ (t : List Entry). t ++ cons_option (entry_of next.0) []) so.are
            ∙ ap (λ (o : Option Entry). before ++ cons_option o []) next.1;
      } in
      subst EntriesHappen (append_assoc before (e ∷ []) rest) (entries_after (before ++ e ∷ []) rest then_so sound.1)

  -- whatever comes in, something happens
  pub entries_happen : (entries : List Entry) → AllByRecursion IsSound entries → EntriesHappen entries
  entries_happen entries sound =
      entries_after [] entries (record { handed = []; given = []; happened = []; so_far = nothing_so_far made; are = refl }) sound
