-- What a line of a trace says by itself, and the faults that it has by itself.
use Rattle.std.specs.Prelude.{◌≡◌, ◌≢◌, ◌-◌, ◌⊎◌, ℕ, Bool, true, false, Option, Some, None, List, [], ◌∷◌, length, codes}
use Rattle.flow_records.specs.Limits.{flows_max}
use Rattle.lane.specs.Limits.{channel_limit}
use Rattle.lane.specs.declared.input.Input.TheVariants.{Grant, Burst}
use Rattle.receiver.specs.declared.width.Width.{Width}
use Rattle.text_lines.specs.declared.fault.TraceKind.{TraceKind}
use Rattle.text_lines.specs.declared.fault.TraceKind.TheVariants.{UnknownLine, SetupLate, FieldCount, BadNumber, BadWord, NotHex, UnknownFlow, TooManyFlows, SameFlow, SameSid, TooShort, PointerPast}
use Rattle.text_lines.specs.Field.{SpellsBytes}
use Rattle.text_lines.specs.Number.{IsNumberIn}
use Rattle.texts.specs.declared.trace.trace_line.TraceLine.{TraceLine}
use Rattle.texts.specs.declared.trace.trace_line.TraceLine.TheVariants.{Flow, Sid, Input, Gap}

-- ---- what no line says

-- The shape of a trace, which is given before it is read: how many channels and flows it may have,
-- and the capacity of each flow's ring.
pub record TraceShape : Type 0 where
  pub channels : ℕ
  pub flows : ℕ
  pub ring : ℕ

-- that of a trace for a receiver of this width, and for one of the profile's width
abbrev pub shape_of : Width → ℕ → TraceShape
shape_of width ring = record { channels = width.channels; flows = width.flows; ring = ring }

abbrev pub profile_shape : ℕ → TraceShape
profile_shape ring = record { channels = channel_limit; flows = flows_max; ring = ring }

-- ---- the forms of lines and of their fields

-- what a field is to be: a number from the first to the second, one of the words for a burst's
-- check, or hexadecimal
pub data FieldForm : Type 0 where
  number_in : ℕ → ℕ → FieldForm
  check_word : FieldForm
  hex_field : FieldForm

-- the forms of a line; a gap may name a number up to which it goes
pub data LineForm : Type 0 where
  flow_line : LineForm
  sid_line : LineForm
  grant_line : LineForm
  burst_line : LineForm
  gap_line : LineForm
  gap_to_line : LineForm

-- the word with which a line begins
abbrev pub word_of : LineForm → List ℕ
word_of flow_line = codes "flow"
word_of sid_line = codes "sid"
word_of grant_line = codes "grant"
word_of burst_line = codes "burst"
word_of gap_line = codes "gap"
word_of gap_to_line = codes "gap"

-- numbers of 32 bits, of a segment, of a channel, of a service identifier, and of a flow's place
-- among the flows
abbrev pub any_number : FieldForm
any_number = number_in 0 4294967295

abbrev pub sequence_number : FieldForm
sequence_number = number_in 0 8191

abbrev pub channel_number : TraceShape → FieldForm
channel_number shape = number_in 0 (shape.channels - 1)

abbrev pub sid_number : FieldForm
sid_number = number_in 0 16383

abbrev pub flow_number : TraceShape → FieldForm
flow_number shape = number_in 0 (shape.flows - 1)

-- The fields that follow that word:
--   flow <sfid> <first> <window> <clusters>
--   sid <channel> <sid> <flow>
--   grant <channel> <number> <sid> <bytes>
--   burst <channel> <number> <check> <hex>
--   gap <flow>
--   gap <flow> <number>
abbrev pub fields_after : TraceShape → LineForm → List FieldForm
fields_after shape flow_line = any_number ∷ sequence_number ∷ number_in 1 4096 ∷ number_in 1 8 ∷ []
fields_after shape sid_line = channel_number shape ∷ sid_number ∷ flow_number shape ∷ []
fields_after shape grant_line = channel_number shape ∷ any_number ∷ sid_number ∷ any_number ∷ []
fields_after shape burst_line = channel_number shape ∷ any_number ∷ check_word ∷ hex_field ∷ []
fields_after shape gap_line = flow_number shape ∷ []
fields_after shape gap_to_line = flow_number shape ∷ sequence_number ∷ []

-- ---- what a line says

-- what a field says: a number, whether a check is right, or bytes
pub data Value : Type 0 where
  a_number : ℕ → Value
  a_check : Bool → Value
  some_bytes : List ℕ → Value

-- the word says whether the check is right
abbrev pub SaysCheck : List ℕ → Bool → Type 0
SaysCheck word true = word ≡ codes "ok"
SaysCheck word false = word ≡ codes "bad"

-- the field has this form, and says this
abbrev pub IsField : FieldForm → List ℕ → Value → Type 0
IsField (number_in least most) field (a_number number) = IsNumberIn field least most number
IsField check_word field (a_check right) = SaysCheck field right
IsField hex_field field (some_bytes bytes) = SpellsBytes field bytes
IsField _ field _ = ⊥

-- so do the fields, each in its place
abbrev pub AreFields : List FieldForm → List (List ℕ) → List Value → Type 0
AreFields [] [] [] = Unit {0}
AreFields (form ∷ forms) (field ∷ fields) (value ∷ values) = IsField form field value × AreFields forms fields values
AreFields _ _ _ = ⊥

-- a gap's form, and the number that it names
abbrev pub gap_form : Option ℕ → LineForm
gap_form None = gap_line
gap_form (Some number) = gap_to_line

abbrev pub upto_values : Option ℕ → List Value
upto_values None = []
upto_values (Some number) = a_number number ∷ []

-- the form of the line that says this
abbrev pub form_of : TraceLine → LineForm
form_of (Flow flow_record) = flow_line
form_of (Sid row) = sid_line
form_of (Input channel (Grant number sid bytes)) = grant_line
form_of (Input channel (Burst grant hcs_ok bytes)) = burst_line
form_of (Gap decision) = gap_form decision.upto

-- and what its fields say
abbrev pub values_of : TraceLine → List Value
values_of (Flow flow_record) =
    a_number flow_record.sfid ∷ a_number flow_record.first ∷ a_number flow_record.window ∷ a_number flow_record.clusters ∷ []
values_of (Sid row) = a_number row.channel ∷ a_number row.sid ∷ a_number row.flow ∷ []
values_of (Input channel (Grant number sid bytes)) = a_number channel ∷ a_number number ∷ a_number sid ∷ a_number bytes ∷ []
values_of (Input channel (Burst grant hcs_ok bytes)) = a_number channel ∷ a_number grant ∷ a_check hcs_ok ∷ some_bytes bytes ∷ []
values_of (Gap decision) = a_number decision.flow ∷ upto_values decision.upto

-- a flow has a ring of this capacity, which no line says
abbrev pub HasRing : ℕ → TraceLine → Type 0
HasRing ring (Flow flow_record) = flow_record.ring ≡ ring
HasRing ring _ = Unit {0}

-- the fields of a line say this
pub record Carries (shape : TraceShape) (fields : List (List ℕ)) (line : TraceLine) : Type 0 where
  pub after : List (List ℕ)
  pub are : fields ≡ word_of (form_of line) ∷ after
  pub values : AreFields (fields_after shape (form_of line)) after (values_of line)
  pub ring_is : HasRing shape.ring line

-- ---- the faults of a line by itself

-- the first word begins no line
pub record IsUnknown (fields : List (List ℕ)) : Type 0 where
  pub word : List ℕ
  pub after : List (List ℕ)
  pub are : fields ≡ word ∷ after
  pub unknown : (form : LineForm) → word ≢ word_of form

-- it begins a line, but more or fewer fields follow it than follow it in any form of line
pub record HasWrongCount (shape : TraceShape) (fields : List (List ℕ)) : Type 0 where
  pub form : LineForm
  pub after : List (List ℕ)
  pub are : fields ≡ word_of form ∷ after
  pub wrong : (other : LineForm) → word_of form ≡ word_of other → length after ≢ length (fields_after shape other)

-- the fault of a field that does not have its form
abbrev pub fault_of : FieldForm → TraceKind
fault_of (number_in least most) = BadNumber
fault_of check_word = BadWord
fault_of hex_field = NotHex

abbrev pub IsBadField : FieldForm → List ℕ → Type 0
IsBadField form field = (value : Value) → ¬ (IsField form field value)

-- one of the fields does not have the form of its place, and its fault is of this kind
abbrev pub HasBadAmong : List FieldForm → List (List ℕ) → TraceKind → Type 0
HasBadAmong (form ∷ forms) (field ∷ fields) kind = ((fault_of form ≡ kind) × IsBadField form field) ⊎ HasBadAmong forms fields kind
HasBadAmong _ _ kind = ⊥

-- as many fields as in a form of line follow its word, and one of them has this fault
pub record HasBadField (shape : TraceShape) (fields : List (List ℕ)) (kind : TraceKind) : Type 0 where
  pub form : LineForm
  pub after : List (List ℕ)
  pub are : fields ≡ word_of form ∷ after
  pub count : length after ≡ length (fields_after shape form)
  pub bad : HasBadAmong (fields_after shape form) after kind

-- the faults that a line with these fields has, whatever the lines above say
abbrev pub HasFaultByItself : TraceShape → List (List ℕ) → TraceKind → Type 0
HasFaultByItself shape fields UnknownLine = IsUnknown fields
HasFaultByItself shape fields SetupLate = ⊥
HasFaultByItself shape fields FieldCount = HasWrongCount shape fields
HasFaultByItself shape fields BadNumber = HasBadField shape fields BadNumber
HasFaultByItself shape fields BadWord = HasBadField shape fields BadWord
HasFaultByItself shape fields NotHex = HasBadField shape fields NotHex
HasFaultByItself shape fields UnknownFlow = ⊥
HasFaultByItself shape fields TooManyFlows = ⊥
HasFaultByItself shape fields SameFlow = ⊥
HasFaultByItself shape fields SameSid = ⊥
HasFaultByItself shape fields TooShort = ⊥
HasFaultByItself shape fields PointerPast = ⊥
