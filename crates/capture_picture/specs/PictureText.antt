-- The picture of a capture, as SVG.
use Rattle.std.specs.Prelude.{ℕ, ◌+◌, ◌-◌, ◌*◌, ◌/◌, ◌%◌, ◌==◌, List, [], ◌++◌, length, codes, if◌then◌else◌}
use Rattle.capture_picture.specs.ShownFlow.{ShownFlow}
use Rattle.capture_picture.specs.Picture.{Picture, other_count}
use Rattle.capture_picture.specs.Svg.{valued, colour_text}
use Rattle.capture_picture.specs.Grid.{grid_of, end_of}
use Rattle.capture_picture.specs.Panel.{panel_text}
use Rattle.capture_picture.specs.declared.grid.Grid.{Grid}
use Rattle.capture_picture.specs.declared.picture.PictureChannel.{PictureChannel}
use Rattle.text_lines.specs.Putting.{numbered_texts}

-- how far down the first flow is drawn: below the legend, with six channels in a row
abbrev pub panels_top : ℕ → ℕ
panels_top channels = 64 + 20 * ((channels + 5) / 6)

-- how high the picture of so many channels and flows is
abbrev pub picture_height : ℕ → ℕ → ℕ
picture_height channels flows = panels_top channels + 430 * flows + 30

-- the entry of a channel in the legend
abbrev pub entry_text : ℕ → PictureChannel → List ℕ
entry_text place channel =
    valued (codes "<g transform='translate(") (190 * (place % 6)) ++ valued (codes ",") (20 * (place / 6))
    ++ codes ")'><rect width='14' height='14' fill='" ++ colour_text channel.channel
    ++ valued (codes "'/><text x='20' y='12'>channel ") channel.channel ++ valued (codes " (id ") channel.id ++ codes ")</text></g>\n"

abbrev pub entries_text : List PictureChannel → List ℕ
entries_text channels = numbered_texts entry_text channels

abbrev pub legend_text : List PictureChannel → List ℕ
legend_text channels = codes "<g transform='translate(20,44)'>\n" ++ entries_text channels ++ codes "</g>\n"

-- what is drawn of flows, one below the other
abbrev pub panels_text : Grid → ℕ → List PictureChannel → List ShownFlow → List ℕ
panels_text grid end channels flows =
    numbered_texts (λ place (flow : ShownFlow). panel_text grid end channels (panels_top (length channels) + 430 * place) flow) flows

-- how many flows aren't shown, if some aren't
abbrev pub others_text : ℕ → ℕ → List ℕ
others_text height others =
    if others == 0 then []
    else (valued (codes "<text x='20' y='") (height - 14) ++ valued (codes "'>flows that are not shown: ") others ++ codes "</text>\n")

-- how the picture begins, with a title
abbrev pub opening_text : ℕ → List ℕ
opening_text height =
    valued (codes "<svg xmlns='http://www.w3.org/2000/svg' viewBox='0 0 1200 ") height ++ valued (codes "' width='1200' height='") height
    ++ valued (codes "' font-family='sans-serif' font-size='12' shape-rendering='crispEdges'>\n<rect width='1200' height='") height
    ++ codes "' fill='white'/>\n<text x='20' y='28' font-size='18'>Segments of a capture</text>\n"

-- **The picture of a capture**: a title, a legend of the channels, what is drawn of each flow that
-- is shown, and how many aren't
abbrev pub picture_text : Picture → List ℕ
picture_text picture =
    opening_text (picture_height (length picture.channels) (length picture.flows)) ++ legend_text picture.channels
    ++ panels_text (grid_of picture) (end_of picture) picture.channels picture.flows
    ++ others_text (picture_height (length picture.channels) (length picture.flows)) (other_count picture) ++ codes "</svg>\n"
