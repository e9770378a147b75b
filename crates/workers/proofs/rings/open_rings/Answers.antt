-- One ring more.
use Rattle.std.proofs.Common.{rules, ◌≡◌, ◌+◌, [], ◌∷◌, ◌++◌, map, length, take, get_or, ap, sym, ◌∙◌}
use Rattle.std.proofs.lemmas.List.{length_push, map-append, take_more}
use Rattle.std.proofs.lemmas.List.Elements.{All-push, All-same}
use Rattle.flow_records.specs.declared.record.FlowRecord.{FlowRecord}
use Rattle.delivery.specs.Feeders.{feeder_ring, offered, room}
use Rattle.delivery.specs.Takers.{taker_ring, taken}
use Rattle.delivery.specs.declared.feeder.Feeder.{Feeder}
use Rattle.delivery.specs.declared.taker.Taker.{Taker}
use Rattle.workers.specs.Inside.Opening.{ring_of}
use Rattle.workers.proofs.AlikeLists.{alike_pushed}
use Rattle.workers.proofs.rings.open_rings.Goals as goal

pub loop-flow-preserved : goal.loop-flow-preserved
loop-flow-preserved c =
    let was = c.loop-flow.invariant in
    let feeders = c.loop-flow.feeders.items in
    let takers = c.loop-flow.takers.items in
    let flows = c.args.flows.now in
    let n = c.loop-flow.flow-index in
    let nothing : FlowRecord = record { sfid = 0; first = 0; window = 0; clusters = 0; ring = 0 } in
    let said = c.in_ok-feeder.ensures in
    let feeder = c.in_ok-feeder.feeder in
    let taker = c.in_ok-feeder.taker in
    let first : c.push_reserved.new.self.items ≡ feeders ++ feeder ∷ [] = c.push_reserved.ensures.items in
    let second : c.push_reserved-in-loop-flow.new.self.items ≡ takers ++ taker ∷ [] = c.push_reserved-in-loop-flow.ensures.items in
    let NoneOffered = λ (one : Feeder). offered one ≡ [] in
    let NoneTaken = λ (one : Taker). taken one ≡ [] in
    record {
      feeder_count = ap length first ∙ length_push feeders feeder ∙ ap (λ n. n + 1) was.feeder_count;
      taker_count = ap length second ∙ length_push takers taker ∙ ap (λ n. n + 1) was.taker_count;
      feeder_room = search rules;
      rooms = ap (map room) first ∙ map-append room feeders (feeder ∷ []) ∙ ap (λ l. l ++ room feeder ∷ []) was.rooms
          ∙ ap (λ entries. map ring_of (take n flows) ++ entries ∷ []) said.room
          ∙ sym (ap (map ring_of) (take_more flows n nothing c.loop-flow-test.true) ∙ map-append ring_of (take n flows) (get_or flows n nothing ∷ []));
      taker_room = search rules;
      same = ap (map feeder_ring) first ∙ alike_pushed feeder_ring taker_ring feeders takers feeder taker was.same c.in_ok-feeder.ensures.ring
          ∙ sym (ap (map taker_ring) second);
      none_offered = All-same NoneOffered c.push_reserved.new.self.items (feeders ++ feeder ∷ []) first
          (All-push NoneOffered feeders feeder was.none_offered c.in_ok-feeder.ensures.offered);
      none_taken = All-same NoneTaken c.push_reserved-in-loop-flow.new.self.items (takers ++ taker ∷ []) second
          (All-push NoneTaken takers taker was.none_taken c.in_ok-feeder.ensures.taken);
    }
