-- What is drawn of one flow.
use Rattle.std.specs.Prelude.{ℕ, zero, suc, ◌+◌, ◌-◌, max, List, [], ◌∷◌}
use Rattle.capture_picture.specs.Marking.{kept_within, with_marks}
use Rattle.capture_picture.specs.Index.{first_index, nearest_index}
use Rattle.capture_picture.specs.Columns.{empty_columns, with_span, halved}
use Rattle.capture_picture.specs.declared.marks.Mark.{Mark}
use Rattle.capture_picture.specs.declared.column.Column.{Column}

-- so many flows are shown
abbrev pub flows_most : ℕ
flows_most = 8

-- its index in the map, its service flow identifier, its greatest index, how many bursts it had,
-- and its columns
pub record ShownFlow : Type 0 where
  pub flow : ℕ
  pub sfid : ℕ
  pub newest : ℕ
  pub bursts : ℕ
  pub columns : List Column

-- the element at a place is changed
abbrev pub changed_at : {T : Type 0} → ℕ → (T → T) → List T → List T
changed_at place change [] = []
changed_at zero change (first ∷ others) = change first ∷ others
changed_at (suc place) change (first ∷ others) = first ∷ changed_at place change others

-- nothing came of a flow yet, whose first segment has this number
abbrev pub new_flow : ℕ → ℕ → ℕ → ShownFlow
new_flow flow sfid number = record { flow = flow; sfid = sfid; newest = first_index number; bursts = 0; columns = empty_columns }

-- the segment with this index came on a channel in the time of this column
abbrev pub with_index : ℕ → ℕ → ℕ → ShownFlow → ShownFlow
with_index column channel index flow = record flow {
  newest = max flow.newest index;
  bursts = kept_within (flow.bursts + 1);
  columns = changed_at column (with_span channel (record { low = index; high = index; behind = max flow.newest index - index })) flow.columns;
}

-- **A segment with this number came**: its index is the one that is nearest to the newest one
unfoldable pub with_segment : ℕ → ℕ → ℕ → ShownFlow → ShownFlow
with_segment column channel number flow = with_index column channel (nearest_index flow.newest number) flow

-- so many marks were made in the time of this column
unfoldable pub with_mark_in : ℕ → Mark → ℕ → ShownFlow → ShownFlow
with_mark_in column mark count flow =
    record flow { columns = changed_at column (λ (one : Column). record one { marks = with_marks mark count one.marks }) flow.columns }

-- each two neighbouring columns become one
abbrev pub halved_flow : ShownFlow → ShownFlow
halved_flow flow = record flow { columns = halved flow.columns }
