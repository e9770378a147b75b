-- What is drawn of a capture.
use Rattle.std.specs.Prelude.{ℕ, zero, suc, ◌+◌, ◌-◌, ◌*◌, ◌/◌, ◌==◌, max, nat_lt, Bool, true, false, List, [], ◌∷◌, ◌++◌, length, take, map, replicate, slice_set, count_by, Option, Some, None, unwrap_or, if◌then◌else◌}
use Rattle.std.specs.List.{position_or_len}
use Rattle.capture_picture.specs.Columns.{channels_most, columns_most}
use Rattle.capture_picture.specs.ShownFlow.{ShownFlow, flows_most, changed_at, new_flow, halved_flow, with_segment, with_mark_in}
use Rattle.capture_picture.specs.declared.marks.Mark.{Mark}
use Rattle.capture_picture.specs.declared.picture.PictureChannel.{PictureChannel}
use Rattle.capture_picture.specs.declared.picture.PictureBurst.{PictureBurst}
use Rattle.capture_picture.specs.declared.picture.CapturePicture.{CapturePicture}

-- when the first burst came, how long a column is, how long after the first burst the last thing
-- came, the flows that are shown, whether a burst came of each that isn't, by its index, and the
-- channels of the map. Times are in nanoseconds
pub record Picture : Type 0 where
  pub first : Option ℕ
  pub column_width : ℕ
  pub latest : ℕ
  pub flows : List ShownFlow
  pub others : List Bool
  pub channels : List PictureChannel

abbrev pub picture_in : CapturePicture → Picture
picture_in picture = record {
  first = picture.first;
  column_width = picture.column_width;
  latest = picture.latest;
  flows = picture.flows.items;
  others = picture.others.items;
  channels = picture.channels.items;
}

abbrev pub new_picture : List PictureChannel → Picture
new_picture channels = record { first = None; column_width = 1000; latest = 0; flows = []; others = []; channels = take channels_most channels }

-- the place of a flow among those that are shown, or how many are shown where it isn't
abbrev pub place_of_flow : ℕ → List ShownFlow → ℕ
place_of_flow flow flows = position_or_len (λ (one : ShownFlow). one.flow == flow) flows

-- a column is twice as long
abbrev pub doubled : Picture → Picture
doubled picture = record picture { column_width = 2 * picture.column_width; flows = map halved_flow picture.flows }

-- doubled, at most so often, until so many nanoseconds lie within the columns
abbrev pub doubled_within : ℕ → ℕ → Picture → Picture
doubled_within zero age picture = picture
doubled_within (suc most) age picture =
    if nat_lt (age / columns_most) picture.column_width then picture else doubled_within most age (doubled picture)

-- **The columns are wide enough for so many nanoseconds after the first burst**: a width of 1 and
-- more that doubles is above age / 256 after fewer than age steps
unfoldable pub reached : ℕ → Picture → Picture
reached age picture =
    let wide = doubled_within age age picture in record wide { latest = max picture.latest age }

-- how long after the first burst a time lies; 0 before it
abbrev pub age_of : Picture → ℕ → ℕ
age_of picture time = time - unwrap_or picture.first time

-- the flow at a place is changed in the column of an age
abbrev pub changed_in_flow : ℕ → (ShownFlow → ShownFlow) → Picture → Picture
changed_in_flow place change picture = record picture { flows = changed_at place change picture.flows }

unfoldable pub drawn_at : ℕ → ℕ → (ℕ → ShownFlow → ShownFlow) → Picture → Picture
drawn_at place age change picture =
    changed_in_flow place (change (age / (reached age picture).column_width)) (reached age picture)

-- a burst of the flow at this place
abbrev pub with_segment_at : ℕ → PictureBurst → Picture → Picture
with_segment_at place burst picture =
    drawn_at place (age_of picture burst.time) (λ column. with_segment column burst.channel burst.number)
    (record picture { first = Some (unwrap_or picture.first burst.time) })

-- marks of the flow at this place
abbrev pub with_mark_at : ℕ → ℕ → Mark → ℕ → Picture → Picture
with_mark_at place time mark count picture = drawn_at place (age_of picture time) (λ column. with_mark_in column mark count) picture

-- a flow is shown from now on, whose first burst this is
abbrev pub with_flow : PictureBurst → Picture → Picture
with_flow burst picture = record picture { flows = picture.flows ++ new_flow burst.flow burst.sfid burst.number ∷ [] }

-- a burst came of a flow that isn't shown
abbrev pub with_other : ℕ → Picture → Picture
with_other flow picture =
    record picture { others = slice_set (picture.others ++ replicate (flow + 1 - length picture.others) false) flow true }

-- of how many flows that aren't shown one came
abbrev pub other_count : Picture → ℕ
other_count picture = count_by (λ came. came) picture.others

-- **A burst is taken**: of a flow that is shown, or is from now on, or of one past the eighth
abbrev pub with_burst_at : ℕ → PictureBurst → Picture → Picture
with_burst_at place burst picture =
    if nat_lt place (length picture.flows) then with_segment_at place burst picture
    else (if nat_lt place flows_most then with_segment_at place burst (with_flow burst picture) else with_other burst.flow picture)

abbrev pub with_burst : PictureBurst → Picture → Picture
with_burst burst picture = with_burst_at (place_of_flow burst.flow picture.flows) burst picture

-- **Marks are made** in a flow, if it is shown
abbrev pub with_mark : ℕ → ℕ → Mark → ℕ → Picture → Picture
with_mark flow time mark count picture =
    let place = place_of_flow flow picture.flows in
    if nat_lt place (length picture.flows) then with_mark_at place time mark count picture else picture
