-- Lines of requests in memory.
use Rattle.std.specs.Prelude.{◌≡◌, ℕ, List, ◌++◌, IsTrue}
use Rattle.csv.specs.Writing.{writer_under, writer_pending}
use Rattle.capture_summary.specs.declared.requests.RequestLines.{RequestLines}

-- the lines in memory: what was written and what its writer still holds
abbrev pub lines_text : RequestLines → List ℕ
lines_text lines = (writer_under lines.writer).items ++ writer_pending lines.writer

-- lines that are whole were whole before, and gained just this one
abbrev pub HasGained : RequestLines → List ℕ → RequestLines → Type 0
HasGained before line now = IsTrue now.whole → IsTrue before.whole × (lines_text now ≡ lines_text before ++ line)
