-- What a flow gives that comes in parts is what each part gives, one after another.
use Rattle.std.proofs.Common.{◌≡◌, ℕ, Bool, List, [], ◌∷◌, ◌++◌, map, refl, sym, ap, subst, ◌∙◌, append-nil, append_assoc}
use Rattle.flow_core.specs.declared.counts.FlowCounts.{FlowCounts}
use Rattle.bonded_flows.specs.FlowSetup.{FlowSetup}
use Rattle.bonded_flows.specs.ByRule.{GaveByRule}
use Rattle.bonded_flows.specs.Parts.{FlowInput, Part, begun_at, parts_over, last_part, GaveInParts}
use Rattle.receiver.specs.Received.{GaveAllParts}
use Rattle.receiver.specs.SentParts.{GiveInTurn, all_parts}

module _ {S : Type 0} (Gives : S → List (List ℕ) → Type 0) (part_of : S → Part) (check : List ℕ → Bool) (setup : FlowSetup)
    (each : (one : S) (own : List (List ℕ)) (counts : FlowCounts) → GaveByRule check (begun_at setup (part_of one).first) (part_of one).comings own counts → Gives one own) where
  -- what a part gave that is this one's
  own-gives : (one : S) (part : Part) (own : List (List ℕ)) (counts : FlowCounts) → part_of one ≡ part
      → GaveByRule check (begun_at setup part.first) part.comings own counts → Gives one own
  own-gives one part own counts is gave = each one own counts (subst (λ (p : Part). GaveByRule check (begun_at setup p.first) p.comings own counts) (sym is) gave)

  parts-in-turn : (parts : List Part) (last : Part) (ones : List S) (earlier own : List (List ℕ)) (counts : FlowCounts) → map part_of ones ≡ parts ++ last ∷ []
      → GaveInParts check setup parts earlier → GaveByRule check (begun_at setup last.first) last.comings own counts → GiveInTurn Gives ones (earlier ++ own)
  parts-in-turn [] last [] earlier own counts are none gave = absurd cc
  parts-in-turn [] last (one ∷ []) earlier own counts are none gave =
      let is : part_of one ≡ last = cc in (own, [], own-gives one last own counts is gave, refl, ap (λ t. t ++ own) none ∙ sym (append-nil own))
  parts-in-turn [] last (one ∷ other ∷ ones) earlier own counts are none gave = absurd cc
  parts-in-turn (part ∷ parts) last [] earlier own counts are before gave = absurd cc
  parts-in-turn (part ∷ parts) last (one ∷ ones) earlier own counts are (first, rest, first_counts, first_gave, more, is) gave =
      let here : part_of one ≡ part = cc in
      let behind : map part_of ones ≡ parts ++ last ∷ [] = cc in (
        first,
        rest ++ own,
        own-gives one part first first_counts here first_gave,
        parts-in-turn parts last ones rest own counts behind more gave,
        ap (λ t. t ++ own) is ∙ append_assoc first rest own,
      )

  pub all-in-turn : (inputs : List FlowInput) (ones : List S) (frames : List (List ℕ)) (counts : FlowCounts) → map part_of ones ≡ all_parts setup inputs
      → GaveAllParts check setup inputs frames counts → GiveInTurn Gives ones frames
  all-in-turn inputs ones frames counts are gave =
      subst (GiveInTurn Gives ones) (sym gave.all)
      (parts-in-turn (parts_over setup inputs) (last_part setup inputs) ones gave.earlier gave.own counts are gave.gave gave.last)
