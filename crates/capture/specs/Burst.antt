-- The burst that a packet of link type 273 holds, or why it is passed over.
use Rattle.std.specs.Prelude.{◌≡◌, ℕ, ◌%◌, List, length, Option, Some, None, Result, Ok, Err, unwrap_or, option_map, nat_lt, ◌==◌, if◌then◌else◌}
use Rattle.capture.specs.Fields.{Field, last_value}
use Rattle.capture.specs.Packet.{Parts}
use Rattle.capture.specs.Numbers.{number_in}
use Rattle.capture.specs.declared.burst.BurstKind.{BurstKind}
use Rattle.capture.specs.declared.burst.BurstKind.TheVariants.{Tdma, Ofdma}
use Rattle.capture.specs.declared.burst.Passed.{Passed}
use Rattle.capture.specs.declared.burst.Passed.TheVariants.{OtherType, Malformed, NoSegmentHeader, NoChannelOrSid}

-- a burst, without where its bytes lie in memory
pub record BurstParts : Type 0 where
  pub kind : BurstKind
  pub channel : ℕ
  pub sid : ℕ
  pub grant_bits : Option ℕ
  pub burst_id : Option ℕ
  pub bytes : List ℕ

-- one after another, up to the first reason to pass the packet over
infixl 10 ◌>>=◌
abbrev pub ◌>>=◌ : {A B : Type 0} → Result A Passed → (A → Result B Passed) → Result B Passed
(Ok x) >>= next = next x
(Err why) >>= next = Err why

-- what was returned, seen by view, is what is to be read
abbrev pub Gives : {X Y : Type 0} → (X → Y) → Result X Passed → Result Y Passed → Type 0
Gives view (Ok x) read = read ≡ Ok (view x)
Gives view (Err why) read = read ≡ Err why

-- packet types 65 and 72, both upstream
abbrev pub kind_of : ℕ → Result BurstKind Passed
kind_of kind = if kind == 65 then Ok Tdma else (if kind == 72 then Ok Ofdma else Err OtherType)

-- the values of a burst's TLVs, each the last of its type
pub record Values : Type 0 where
  pub segment_header : Option (List ℕ)
  pub channel : Option (List ℕ)
  pub sid : Option (List ℕ)
  pub grant : Option (List ℕ)
  pub burst_id : Option (List ℕ)

-- TLV 18 says whether there is a segment header, 10 is the channel, 11 the SID, 17 the grant's size
-- in bits, 13 the burst's id
abbrev pub values_of : List Field → Values
values_of fields = record {
  segment_header = last_value 18 fields;
  channel = last_value 10 fields;
  sid = last_value 11 fields;
  grant = last_value 17 fields;
  burst_id = last_value 13 fields;
}

-- the number that a value says, if there is a value
abbrev pub number_from : Option ℕ → Result (Option ℕ) Passed
number_from None = Err Malformed
number_from (Some n) = Ok (Some n)

abbrev pub number_said : ℕ → Option (List ℕ) → Result (Option ℕ) Passed
number_said most None = Ok None
number_said most (Some value) = number_from (number_in most value)

-- the numbers that these values say
pub record Numbers : Type 0 where
  pub segment_header : Option ℕ
  pub channel : Option ℕ
  pub sid : Option ℕ
  pub grant : Option ℕ
  pub burst_id : Option ℕ

-- a burst's id has up to 8 bytes, all others up to 4
abbrev pub numbers_of : Values → Result Numbers Passed
numbers_of values = do
  segment_header ← number_said 4 values.segment_header
  channel ← number_said 4 values.channel
  sid ← number_said 4 values.sid
  grant ← number_said 4 values.grant
  burst_id ← number_said 8 values.burst_id
  Ok (record { segment_header = segment_header; channel = channel; sid = sid; grant = grant; burst_id = burst_id })

abbrev pub low_24_bits : Option ℕ → Option ℕ
low_24_bits bits = option_map (λ n. n % 0x1000000) bits

-- a channel and a SID, or the reason that one isn't there
abbrev pub address_of : Option ℕ → Option ℕ → Result (ℕ × ℕ) Passed
address_of (Some channel) (Some sid) = Ok (channel, sid)
address_of (Some channel) None = Err NoChannelOrSid
address_of None sid = Err NoChannelOrSid

-- a burst with a segment header has its eight bytes, a channel and a SID
abbrev pub burst_from : BurstKind → Numbers → List ℕ → Result BurstParts Passed
burst_from kind numbers bytes =
    if unwrap_or numbers.segment_header 0 == 0 then Err NoSegmentHeader
    else (if nat_lt (length bytes) 8 then Err Malformed
    else (address_of numbers.channel numbers.sid >>= (λ address. Ok (record {
      kind = kind;
      channel = address.0;
      sid = address.1;
      grant_bits = low_24_bits numbers.grant;
      burst_id = numbers.burst_id;
      bytes = bytes;
    }))))

abbrev pub burst_of_values : ℕ → Values → List ℕ → Result BurstParts Passed
burst_of_values kind values payload = do
  how ← kind_of kind
  numbers ← numbers_of values
  burst_from how numbers payload

-- the burst that a packet of these parts holds
abbrev pub burst_of : Parts → Result BurstParts Passed
burst_of parts = burst_of_values parts.kind (values_of parts.fields) parts.payload
