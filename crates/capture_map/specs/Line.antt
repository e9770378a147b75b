-- What a line of a map says by itself, and the faults that it has by itself.
use Rattle.std.specs.Prelude.{◌≡◌, ◌≢◌, ℕ, Option, Some, None, List, [], ◌∷◌, length, codes}
use Rattle.text_lines.specs.Number.{IsNumber, IsNumberIn}
use Rattle.capture_map.specs.declared.map.MapFlow.{MapFlow}
use Rattle.capture_map.specs.declared.map.MapSid.{MapSid}
use Rattle.capture_map.specs.declared.map.MapChannel.{MapChannel}
use Rattle.capture_map.specs.declared.map_line.MapLine.{MapLine}
use Rattle.capture_map.specs.declared.map_line.MapLine.TheVariants.{Flow, Channel, Sid}
use Rattle.capture_map.specs.declared.map_fault.MapKind.{MapKind}
use Rattle.capture_map.specs.declared.map_fault.MapKind.TheVariants.{UnknownLine, FieldCount, BadNumber, UnknownChannel, UnknownFlow, TooManyFlows, SameFlow, SameChannel, SameSid}

-- the forms of a line
pub data MapForm : Type 0 where
  flow_form : MapForm
  channel_form : MapForm
  sid_form : MapForm

-- the word with which a line begins, and how many fields follow it
abbrev pub word_of : MapForm → List ℕ
word_of flow_form = codes "flow"
word_of channel_form = codes "channel"
word_of sid_form = codes "sid"

abbrev pub count_after : MapForm → ℕ
count_after flow_form = 4
count_after channel_form = 2
count_after sid_form = 3

-- a first number, or `auto`
abbrev pub IsFirst : List ℕ → Option ℕ → Type 0
IsFirst field None = field ≡ codes "auto"
IsFirst field (Some first) = IsNumber field 8191 first

-- flow <sfid> <first>|auto <window> <clusters>
abbrev pub SaysFlow : List ℕ → List ℕ → List ℕ → List ℕ → MapFlow → Type 0
SaysFlow sfid first window clusters flow =
    IsNumber sfid 4294967295 flow.sfid × IsFirst first flow.first × IsNumberIn window 1 4096 flow.window × IsNumberIn clusters 1 8 flow.clusters

-- channel <channel> <id>
abbrev pub SaysChannel : List ℕ → List ℕ → MapChannel → Type 0
SaysChannel channel id one = IsNumber channel 15 one.channel × IsNumber id 4294967295 one.id

-- sid <channel> <sid> <flow>
abbrev pub SaysSid : List ℕ → List ℕ → List ℕ → MapSid → Type 0
SaysSid channel sid flow row = IsNumber channel 15 row.channel × IsNumber sid 16383 row.sid × IsNumber flow 16383 row.flow

-- the fields of a line say this
abbrev pub Says : MapLine → List (List ℕ) → Type 0
Says (Flow flow) (word ∷ a ∷ b ∷ c ∷ d ∷ []) = (word ≡ word_of flow_form) × SaysFlow a b c d flow
Says (Channel channel) (word ∷ a ∷ b ∷ []) = (word ≡ word_of channel_form) × SaysChannel a b channel
Says (Sid row) (word ∷ a ∷ b ∷ c ∷ []) = (word ≡ word_of sid_form) × SaysSid a b c row
Says line fields = ⊥

-- the first word begins no line
abbrev pub IsUnknown : List (List ℕ) → Type 0
IsUnknown fields = (word : List ℕ) × (after : List (List ℕ)) × (fields ≡ word ∷ after) × ((form : MapForm) → word ≢ word_of form)

-- it begins a line, but more or fewer fields follow it than in its form
pub record HasWrongCount (fields : List (List ℕ)) : Type 0 where
  pub form : MapForm
  pub after : List (List ℕ)
  pub are : fields ≡ word_of form ∷ after
  pub wrong : length after ≢ count_after form

-- as many fields follow it as in its form, and one isn't what it has to be: they say nothing
pub record SaysNothing (fields : List (List ℕ)) : Type 0 where
  pub form : MapForm
  pub after : List (List ℕ)
  pub are : fields ≡ word_of form ∷ after
  pub count : length after ≡ count_after form
  pub nothing : (line : MapLine) → ¬ (Says line fields)

-- the faults that a line has by itself, whatever the lines above say
abbrev pub HasFaultByItself : List (List ℕ) → MapKind → Type 0
HasFaultByItself fields UnknownLine = IsUnknown fields
HasFaultByItself fields FieldCount = HasWrongCount fields
HasFaultByItself fields BadNumber = SaysNothing fields
HasFaultByItself fields UnknownChannel = ⊥
HasFaultByItself fields UnknownFlow = ⊥
HasFaultByItself fields TooManyFlows = ⊥
HasFaultByItself fields SameFlow = ⊥
HasFaultByItself fields SameChannel = ⊥
HasFaultByItself fields SameSid = ⊥
