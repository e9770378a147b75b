-- How many segments of a flow are held: by the definitions alone, of what came to it.
use Rattle.std.specs.Prelude.{◌≡◌, ℕ, ◌&&◌, nat_le, Bool, List, length, is_some, count_by}
use Rattle.std.specs.FinMap as map
use Rattle.flow_records.specs.declared.record.FlowRecord.{FlowRecord}
use Rattle.flow_core.specs.Fates.{Fates, kept_at, IsExpected}
use Rattle.flow_core.specs.Events.{FlowEvent}
use Rattle.loss_rule.specs.Rule.{Coming, Lasts, AreRuled}
use Rattle.bonded_flows.specs.FlowSetup.{FlowSetup, ruled_flow}
use Rattle.bonded_flows.specs.Table.{TableSetup}
use Rattle.receiver.specs.HandedIn.{HandedIn, flow_inputs, begun_with, came_since}

-- the segment of the index was kept
abbrev pub was_kept : Fates → ℕ → Bool
was_kept fates i = is_some (kept_at fates i)

-- **Held are the segments that were kept and are not joined yet**: where the index x is expected,
-- those of x and of later indexes. All before x are joined or were lost.
abbrev pub held_from : Fates → ℕ → ℕ
held_from fates x = count_by (λ i. nat_le x i && was_kept fates i) (map.keys fates)

-- So many segments a flow holds to which all this came, as long as it isn't closed: what became of
-- them follows by the rule.
pub record HoldsByRule (setup : FlowSetup) (comings : List Coming) (held : ℕ) : Type 0 where
  pub events : List FlowEvent
  pub lasts : Lasts
  pub fates : Fates
  pub ruled : AreRuled setup.rule (ruled_flow setup) comings events lasts fates
  pub x : ℕ
  pub expected : IsExpected fates x
  pub count : held ≡ held_from fates x

-- flow k holds so many segments of all that came to it since it was begun or began anew
abbrev pub HoldsSince : TableSetup → ℕ → FlowRecord → List HandedIn → ℕ → Type 0
HoldsSince made k flow_record handed held =
    HoldsByRule (begun_with made k flow_record (flow_inputs (length made.records) handed)) (came_since made k flow_record (flow_inputs (length made.records) handed)) held
