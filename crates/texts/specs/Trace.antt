-- A trace: what its lines say, and the receiver's setup, lists and tags that they give.
pub mod Line
pub mod Place
use Rattle.std.specs.Prelude.{◌≡◌, ◌<◌, ℕ, List, length, map, filter_map}
use Rattle.lane.specs.Limits.{channel_limit}
use Rattle.receiver.specs.declared.setup.Lists.{Lists}
use Rattle.receiver.specs.Entries.{Entry, tag_of, came_on, decision_in}
use Rattle.receiver.specs.Items.{inputs_on}
use Rattle.text_lines.specs.declared.fault.ParseFault.{ParseFault}
use Rattle.text_lines.specs.Lines.{lines_of}
use Rattle.text_lines.specs.Format.{IsRead, IsReadingFault}
use Rattle.texts.specs.declared.trace.Trace.{Trace}
use Rattle.texts.specs.Trace.Place.{Said, nothing_said, trace_format}

-- The lists that these entries give: of each of the four channels its inputs, and the decisions,
-- each in order.
pub record AreListsOf (entries : List Entry) (lists : Lists) : Type 0 where
  pub channels : length lists.inputs ≡ channel_limit
  pub inputs : (channel : ℕ) → channel < channel_limit → inputs_on lists channel ≡ filter_map (came_on channel) entries
  pub decisions : lists.decisions.items ≡ filter_map decision_in entries

-- The trace that lines give which say this, with mailboxes of this capacity: the flows, the rows
-- and the lists, and for each input line its sender.
pub record IsGivenBy (mailbox : ℕ) (said : Said) (trace : Trace) : Type 0 where
  pub flows : trace.setup.flows.items ≡ said.flows
  pub sids : trace.setup.sids.items ≡ said.sids
  pub mailbox_is : trace.setup.mailbox ≡ mailbox
  pub lists : AreListsOf said.entries trace.lists
  pub tags : trace.tags.items ≡ map tag_of said.entries

-- the bytes are a trace, and it is this one
pub record IsTrace (ring mailbox : ℕ) (input : List ℕ) (trace : Trace) : Type 0 where
  pub said : Said
  pub read : IsRead trace_format (nothing_said ring) (lines_of input) said
  pub given : IsGivenBy mailbox said trace

-- why an input is no trace: its first faulty line, with the least kind of its faults; or an
-- allocation failed
abbrev pub IsTraceFault : ℕ → List ℕ → ParseFault → Type 0
IsTraceFault ring input = IsReadingFault trace_format (nothing_said ring) (lines_of input)

-- two traces say the same: their vectors have the same items
pub record AreSameTraces (trace other : Trace) : Type 0 where
  pub flows : trace.setup.flows.items ≡ other.setup.flows.items
  pub sids : trace.setup.sids.items ≡ other.setup.sids.items
  pub mailbox : trace.setup.mailbox ≡ other.setup.mailbox
  pub inputs : (channel : ℕ) → channel < channel_limit → inputs_on trace.lists channel ≡ inputs_on other.lists channel
  pub decisions : trace.lists.decisions.items ≡ other.lists.decisions.items
  pub tags : trace.tags.items ≡ other.tags.items
