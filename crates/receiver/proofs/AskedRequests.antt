-- Requests that are given are no frames.
use Rattle.std.proofs.Common.{◌≡◌, ℕ, Bool, Option, Some, None, List, [], ◌++◌, refl, ap, sym, subst, ◌∙◌, append-nil}
use Rattle.std.proofs.lemmas.List.Elements.{filter_map-append}
use Rattle.lane.specs.declared.admitted.Request.{Request}
use Rattle.consumer.specs.declared.given.Given.{Given}
use Rattle.consumer.specs.Given.{frame_of, frames_of, asked_in}
use Rattle.bonded_flows.specs.declared.flow_table.FlowTable.{FlowTable}
use Rattle.bonded_flows.specs.Slots.{SlotStands}
use Rattle.bonded_flows.specs.Table.{TableSetup, TableInput, flow_setup, inputs_at, StandsFor}

no-frame : (k : ℕ) (request : Option Request) → frames_of k (asked_in request) ≡ []
no-frame k None = refl
no-frame k (Some request) = refl

pub frames-asked : (k : ℕ) (given : List Given) (request : Option Request) → frames_of k (given ++ asked_in request) ≡ frames_of k given
frames-asked k given request =
    filter_map-append (frame_of k) given (asked_in request) ∙ ap (λ t. frames_of k given ++ t) (no-frame k request) ∙ append-nil (frames_of k given)

-- what a table stands for it stands for when a request was given besides
pub table-asked : {C : Type 0} (accepts : C → List ℕ → Bool) (table : FlowTable C) (check : List ℕ → Bool) (made : TableSetup) (history : List TableInput) (given : List Given) (request : Option Request)
    → StandsFor accepts table check made history given → StandsFor accepts table check made history (given ++ asked_in request)
table-asked accepts table check made history given request stands = record {
  check_is = stands.check_is;
  flow_count = stands.flow_count;
  flows = λ k flow_record slot of_record there.
      subst (λ (f : List (List ℕ)). SlotStands check (flow_setup made k flow_record) slot (inputs_at k history) f) (sym (frames-asked k given request))
      (stands.flows k flow_record slot of_record there);
  others = λ k beyond. frames-asked k given request ∙ stands.others k beyond;
}
