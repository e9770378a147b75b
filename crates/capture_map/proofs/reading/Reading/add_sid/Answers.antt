-- The set says whether a line above gives the channel and the service identifier.
use Rattle.std.proofs.Common.{◌≡◌, ◌<◌, ◌==◌, ◌&&◌, true, cond, Some, None, List, length, sym, ap, subst, ◌∙◌, arith}
use Rattle.std.specs.List.{list_any}
use Rattle.capture_map.specs.declared.map_fault.MapKind.TheVariants.{SameSid}
use Rattle.capture_map.specs.declared.map_line.MapLine.TheVariants.{Sid}
use Rattle.capture_map.specs.declared.map.MapFlow.{MapFlow}
use Rattle.capture_map.specs.declared.map.MapChannel.{MapChannel}
use Rattle.capture_map.specs.declared.map.MapSid.{MapSid}
use Rattle.capture_map.specs.Reading.{Said, said_by, with_line, fault_of_sid}
use Rattle.capture_map.proofs.SidsSoFar.{any-push, was_there, was_new, same_sid, new_sid}
use Rattle.capture_map.proofs.reading.Reading.add_sid.Goals as goal

-- what lists say
said_with : List MapFlow → List MapChannel → List MapSid → Said
said_with flows channels sids = record { flows = flows; channels = channels; sids = sids }

pub returns-then-not-branch : goal.returns-then-not-branch
returns-then-not-branch c = λ said has.
    let map = c.args.self.now.map in
    let row = c.args.row in
    let known : row.flow < length map.flows.items = omega (arith, c.if-from-len.false, c.from.ensures, c.len.ensures, map.flows.ok.0) in
    let there = was_there _ _ c.in_ok-insert.ensures.added c.if-not-branch.true in
    let same = ap (λ (s : Said). list_any (λ (other : MapSid). other.channel == row.channel && other.sid == row.sid) s.sids) has.said_is in
    subst (λ s. fault_of_sid s row ≡ Some SameSid) has.said_is
    (same_sid (said_by map) row (sym c.has_channel.ensures ∙ c.if-not-has_channel.false) known (same ∙ sym (has.sids row.channel row.sid) ∙ there))

pub returns : goal.returns
unfolding said_with
returns c = λ said has.
    let map = c.args.self.now.map in
    let row = c.args.row in
    let known : row.flow < length map.flows.items = omega (arith, c.if-from-len.false, c.from.ensures, c.len.ensures, map.flows.ok.0) in
    let there = was_new _ _ c.in_ok-insert.ensures.added c.if-not-branch.false in
    let same = ap (λ (s : Said). list_any (λ (other : MapSid). other.channel == row.channel && other.sid == row.sid) s.sids) has.said_is in
    record {
      faultless = subst (λ s. fault_of_sid s row ≡ None) has.said_is
          (new_sid (said_by map) row (sym c.has_channel.ensures ∙ c.if-not-has_channel.false) known (same ∙ sym (has.sids row.channel row.sid) ∙ there));
      read = record {
        said_is = ap (said_with map.flows.items map.channels.items) c.in_ok-push.ensures.items ∙ ap (λ s. with_line s (Sid row)) has.said_is;
        sfids = has.sfids;
        sids = λ channel sid.
            c.in_ok-insert.ensures.updates.0 (channel, sid) ∙ ap (cond (row.channel == channel && row.sid == sid) true) (has.sids channel sid)
            ∙ sym (any-push (λ (other : MapSid). other.channel == channel && other.sid == sid) said.sids row);
      };
    }
