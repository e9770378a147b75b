-- What a flow gives part by part: with something more that comes to it, as it begins anew, and as
-- it is closed.
use Rattle.std.proofs.Common.{◌≡◌, ℕ, Bool, List, [], ◌∷◌, ◌++◌, refl, sym, ap, subst, ◌∙◌, append-nil, append_assoc}
use Rattle.flow_core.specs.declared.counts.FlowCounts.{FlowCounts}
use Rattle.loss_rule.specs.Rule.{Coming, own_event}
use Rattle.bonded_flows.specs.ByRule.{GaveByRule}
use Rattle.bonded_flows.specs.FlowSetup.{FlowSetup}
use Rattle.bonded_flows.specs.Parts.{FlowInput, comes, begins_anew, Part, parts_over, last_part, begun_at, GaveInParts}
use Rattle.bonded_flows.proofs.PartTurns.{last-comes, over-comes, last-anew, over-anew, gave-more}
use Rattle.receiver.specs.Received.{GaveAllParts}
use Rattle.answers.specs.Bytes.{AreBytes, Brings}
use Rattle.answers.specs.Beside.{GivesOfBytes}
use Rattle.answers.proofs.ClosedBeside.{GivesLast, gives_last}
use Rattle.answers.proofs.GivenFlows.{gives_nothing, gives_more, gives_then}
use Rattle.selected_receiver.specs.Whole.{GivesParts}

-- nothing, where nothing came
pub parts-nothing : (check : List ℕ → Bool) (setup : FlowSetup) → GivesParts check setup [] []
parts-nothing check setup =
    record { earlier = []; own = []; gave = refl; gives = gives_nothing check (begun_at setup setup.flow_record.first); all = refl }

module _ (check : List ℕ → Bool) (setup : FlowSetup) (inputs : List FlowInput) (frames : List (List ℕ)) (was : GivesParts check setup inputs frames) where
  -- the last part, and what it is made with
  abbrev last : Part
  last = last_part setup inputs

  abbrev begun : FlowSetup
  begun = begun_at setup last.first

  grouped : (more : List (List ℕ)) → frames ++ more ≡ was.earlier ++ (was.own ++ more)
  grouped more = ap (λ (t : List (List ℕ)). t ++ more) was.all ∙ append_assoc was.earlier was.own more

  -- something more comes to the last part
  pub parts-more : (coming : Coming) → Brings AreBytes (own_event coming)
      → (more : List (List ℕ)) × GivesParts check setup (inputs ++ comes coming ∷ []) (frames ++ more)
  parts-more coming brings =
      let more = gives_more check begun last.comings was.own was.gives coming brings in
      let first = setup.flow_record.first in (
        more,
        record {
          earlier = was.earlier;
          own = was.own ++ more;
          gave = subst (λ (parts : List Part). GaveInParts check setup parts was.earlier) (sym (over-comes first [] inputs (coming ∷ []))) was.gave;
          gives =
              subst (λ (part : Part). GivesOfBytes check (begun_at setup part.first) part.comings (was.own ++ more))
              (sym (last-comes first [] inputs (coming ∷ []))) (gives_then check begun last.comings was.own was.gives coming brings);
          all = grouped more;
        },
      )

  -- what the last part gives as it is closed
  closing : GivesLast check begun last.comings was.own
  closing = gives_last check begun last.comings was.own was.gives

  -- the last part is closed, and another begins
  pub parts-anew : (first : ℕ)
      → (more : List (List ℕ)) × (counts : FlowCounts) × GaveByRule check (begun_at setup (last_part setup inputs).first) (last_part setup inputs).comings (was.own ++ more) counts
      × GivesParts check setup (inputs ++ begins_anew first ∷ []) (frames ++ more)
  parts-anew first =
      let own = was.own ++ closing.more in
      let start = setup.flow_record.first in (
        closing.more,
        closing.counts,
        closing.gave,
        record {
          earlier = was.earlier ++ own;
          own = [];
          gave =
              subst (λ (parts : List Part). GaveInParts check setup parts (was.earlier ++ own)) (sym (over-anew start [] inputs first))
              (gave-more check setup (parts_over setup inputs) last was.earlier own closing.counts was.gave closing.gave);
          gives =
              subst (λ (part : Part). GivesOfBytes check (begun_at setup part.first) part.comings []) (sym (last-anew start [] inputs first))
              (gives_nothing check (begun_at setup first));
          all = grouped closing.more ∙ sym (append-nil (was.earlier ++ own));
        },
      )

  -- the flow is closed
  pub parts-closed : (more : List (List ℕ)) × (counts : FlowCounts) × GaveAllParts check setup inputs (frames ++ more) counts
  parts-closed = (
    closing.more,
    closing.counts,
    record { earlier = was.earlier; own = was.own ++ closing.more; gave = was.gave; last = closing.gave; all = grouped closing.more },
  )
