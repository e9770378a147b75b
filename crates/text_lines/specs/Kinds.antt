-- The words for the kinds of faults of a line.
use Rattle.std.specs.Prelude.{ℕ, ◌<◌, List, codes}
use Rattle.text_lines.specs.declared.fault.TraceKind.{TraceKind}
use Rattle.text_lines.specs.declared.fault.TraceKind.TheVariants.{UnknownLine, SetupLate, FieldCount, BadNumber, BadWord, NotHex, UnknownFlow, TooManyFlows, SameFlow, SameSid, TooShort, PointerPast}

-- the words for a kind of fault
abbrev pub kind_text : TraceKind → List ℕ
kind_text UnknownLine = codes "unknown line"
kind_text SetupLate = codes "setup after input"
kind_text FieldCount = codes "wrong number of fields"
kind_text BadNumber = codes "bad number"
kind_text BadWord = codes "not ok or bad"
kind_text NotHex = codes "not hexadecimal"
kind_text UnknownFlow = codes "unknown flow"
kind_text TooManyFlows = codes "too many flows"
kind_text SameFlow = codes "flow given before"
kind_text SameSid = codes "sid given before"
kind_text TooShort = codes "too short"
kind_text PointerPast = codes "pointer past the end"

-- the number of a kind: of several faults of a line the one with the least number is reported
abbrev pub kind_number : TraceKind → ℕ
kind_number UnknownLine = 1
kind_number SetupLate = 2
kind_number FieldCount = 3
kind_number BadNumber = 4
kind_number BadWord = 5
kind_number NotHex = 6
kind_number UnknownFlow = 7
kind_number TooManyFlows = 8
kind_number SameFlow = 9
kind_number SameSid = 10
kind_number TooShort = 11
kind_number PointerPast = 12

-- of the faults that a line has, the one with the least number
abbrev pub IsLeastFault : (TraceKind → Type 0) → TraceKind → Type 0
IsLeastFault Has kind = Has kind × ((other : TraceKind) → kind_number other < kind_number kind → ¬ (Has other))
