-- Requests as CSV.
use Rattle.std.specs.Prelude.{◌≡◌, ℕ, List, [], ◌∷◌, ◌++◌, codes, false, Vec}
use Rattle.std.specs.Fmt.{decimal}
use Rattle.text_lines.specs.Lines.{line_feed}
use Rattle.text_lines.specs.Putting.{seconds_text}
use Rattle.lane.specs.declared.admitted.Request.{Request}
use Rattle.std.specs.declared.alloc.Global.{Global}
use Rattle.csv.specs.declared.writer.Writer.{Writer}
use Rattle.csv.specs.Writing.{default_writer, needs_quotes, writer_setup, fields_written, has_written}

-- a comma and a number
abbrev pub field_text : ℕ → List ℕ
field_text number = codes "," ++ decimal number

-- the line of names
abbrev pub names_line : List ℕ
names_line = codes "time,channel,sid,flow,cluster,units" ++ line_feed ∷ []

-- `<seconds>,<channel>,<sid>,<flow>,<cluster>,<units>`
abbrev pub request_line : ℕ → ℕ → Request → List ℕ
request_line nanoseconds sid request =
    seconds_text nanoseconds ++ field_text request.channel ++ field_text sid ++ field_text request.flow ++ field_text request.cluster
    ++ field_text request.units ++ line_feed ∷ []

-- a writer with the library's own settings that has begun no line
pub record IsReady (writer : Writer (Vec ℕ Global)) : Type 0 where
  pub settings : writer_setup writer ≡ default_writer
  pub unbegun : fields_written writer ≡ 0
  pub unshown : has_written writer ≡ false

-- a number as a field of a line: its digits, which need no quotes
pub record IsNumberField (number : ℕ) (field : List ℕ) : Type 0 where
  pub digits : field ≡ decimal number
  pub plain : needs_quotes default_writer field ≡ false
