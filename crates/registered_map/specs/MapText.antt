-- The text of a map that was registered.
use Rattle.std.specs.Prelude.{ℕ, ◌==◌, List, [], ◌∷◌, ◌++◌, drop, slice_range, flat_map, codes, if◌then◌else◌}
use Rattle.std.specs.Int.{w64, to_be_bytes}
use Rattle.std.specs.Fmt.{decimal}
use Rattle.hex.specs.Hex.{encode_lower}
use Rattle.text_lines.specs.Lines.{line_feed}
use Rattle.text_lines.specs.Putting.{spaced, seconds_text}
use Rattle.registrations.specs.declared.part.MessageName.{MessageName}
use Rattle.registrations.specs.declared.part.MessageName.TheVariants.{RegRspMp, DbcReq}
use Rattle.registered_map.specs.Registered.{Registered, RemarksMade}
use Rattle.registered_map.specs.declared.telling.Telling.{Telling}
use Rattle.registered_map.specs.declared.telling.RegisteredFlow.{RegisteredFlow}
use Rattle.registered_map.specs.declared.telling.RegisteredChannel.{RegisteredChannel}
use Rattle.registered_map.specs.declared.telling.RegisteredSid.{RegisteredSid}
use Rattle.registered_map.specs.declared.telling.Remark.{Remark}
use Rattle.registered_map.specs.declared.telling.RemarkKind.{RemarkKind}
use Rattle.registered_map.specs.declared.telling.RemarkKind.TheVariants.{Deleted, OfAnotherFlow, LeftOut}

-- an octet in hexadecimal, behind a colon
abbrev pub colon_octet : ℕ → List ℕ
colon_octet octet = codes ":" ++ encode_lower (octet ∷ [])

-- the address of a modem: the lower six of eight octets
abbrev pub modem_text : ℕ → List ℕ
modem_text modem = encode_lower (slice_range (to_be_bytes w64 modem) 2 3) ++ flat_map colon_octet (drop 3 (to_be_bytes w64 modem))

abbrev pub message_text : MessageName → List ℕ
message_text (RegRspMp sid response) = codes "REG-RSP-MP"
message_text (DbcReq transaction) = codes "DBC-REQ, transaction" ++ spaced transaction

-- by which message something was told, and the end of the line
abbrev pub telling_text : Telling → List ℕ
telling_text telling =
    codes "modem " ++ modem_text telling.modem ++ codes " at " ++ seconds_text telling.nanoseconds ++ codes ", record" ++ spaced telling.place
    ++ codes ", by " ++ message_text telling.message ++ line_feed ∷ []

-- the window and the first number that a flow is given, which no registration says
abbrev pub usual_window : ℕ
usual_window = 1024

-- `flow <sfid> auto 1024 <clusters>`, below a comment
abbrev pub flow_lines : RegisteredFlow → List ℕ
flow_lines flow =
    codes "# " ++ telling_text flow.telling ++ codes "flow" ++ spaced flow.sfid ++ codes " auto" ++ spaced usual_window ++ spaced flow.clusters
    ++ line_feed ∷ []

-- `channel <channel> <id>`
abbrev pub channel_lines : RegisteredChannel → List ℕ
channel_lines one =
    codes "# " ++ telling_text one.telling ++ codes "channel" ++ spaced one.channel ++ spaced one.id ++ line_feed ∷ []

-- `sid <channel> <sid> <flow>`
abbrev pub sid_lines : RegisteredSid → List ℕ
sid_lines row =
    codes "# " ++ telling_text row.telling ++ codes "sid" ++ spaced row.channel ++ spaced row.sid ++ spaced row.flow ++ line_feed ∷ []

-- a remark is a comment
abbrev pub remark_words : RemarkKind → List ℕ
remark_words Deleted = codes "deleted later: "
remark_words OfAnotherFlow = codes "of another flow before: "
remark_words LeftOut = codes "left out, as a map can't say it: "

abbrev pub remark_line : Remark → List ℕ
remark_line remark =
    codes "# " ++ remark_words remark.kind ++ codes "upstream channel" ++ spaced remark.told.channel ++ codes ", SID" ++ spaced remark.told.sid
    ++ codes ", flow" ++ spaced remark.told.sfid ++ codes ", cluster" ++ spaced remark.told.cluster ++ codes ", " ++ telling_text remark.telling

-- how many remarks are not kept, if there are any
abbrev pub more_line : ℕ → List ℕ
more_line more = if more == 0 then [] else (codes "# and" ++ spaced more ++ codes " more like these" ++ line_feed ∷ [])

abbrev pub remarks_text : RemarksMade → List ℕ
remarks_text made = flat_map remark_line made.noted ++ more_line made.more

-- **The text of a map**: flows, channels and SIDs, each in its order, and the remarks.
abbrev pub map_text : Registered → List ℕ
map_text map =
    flat_map flow_lines map.flows ++ flat_map channel_lines map.channels ++ flat_map sid_lines map.sids ++ remarks_text map.remarks
