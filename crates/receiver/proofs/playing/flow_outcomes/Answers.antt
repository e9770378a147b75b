-- The outcome of the next flow.
use Rattle.std.proofs.Common.{◌≡◌, suc, [], ◌∷◌, ◌++◌, length, drop, slice_get, slice_index_or, refl, sym, ap, subst, ◌∙◌, add-one, arith}
use Rattle.std.specs.Iterator.Adapters.{zip_first, zip_second}
use Rattle.std.specs.Slice.Iter.{iter_rest}
use Rattle.std.specs.Vec.Iter.{into_iter_items}
use Rattle.std.proofs.lemmas.List.{length_push}
use Rattle.std.proofs.lemmas.Option.{slice_get-get_or, slice_get_within}
use Rattle.receiver.specs.declared.outcome.FlowOutcome.{FlowOutcome}
use Rattle.receiver.specs.Playing.{HaveGiven}
use Rattle.receiver.proofs.PlayedOut.{first_left, given-more}
use Rattle.receiver.proofs.playing.flow_outcomes.Goals as goal

pub loop-record-preserved : goal.loop-record-preserved
loop-record-preserved c =
    let loop = c.loop-record in
    let flows = loop.flows.items in
    let records = c.args.setup.now.flows.items in
    let lists = c.args.frames.items in
    let r = c.in-Some.record.now in
    let frames = c.in-Some.frames in
    let steps = c.in-Some.ensures.steps in
    let of_flow = first_left records (length flows) r (iter_rest (zip_first c.next.new.self)) (sym loop.invariant.records_left ∙ steps.0) in
    let its = first_left lists (length flows) frames (into_iter_items (zip_second c.next.new.self)) (sym loop.invariant.frames_left ∙ steps.1.0) in
    let is : c.len-in-loop-record.result ≡ length flows = c.len-in-loop-record.ensures ∙ loop.flows.ok.0 in
    let within = slice_get_within records (length flows) r of_flow.0 in
    let flow : FlowOutcome = record { sfid = r.sfid; frames = frames; counts = slice_index_or c.args.counts.now c.len-in-loop-record.result _ } in
    let pushed : c.push_reserved.new.self.items ≡ flows ++ flow ∷ [] = c.push_reserved.ensures.items in
    let long : length c.push_reserved.new.self.items ≡ suc (length flows) = ap length pushed ∙ length_push flows flow ∙ add-one (length flows) in
    let capacity = c.push_reserved.ensures.capacity in
    record {
      room = omega (arith, loop.invariant.room);
      records_left = sym of_flow.1 ∙ ap (λ k. drop k records) (sym long);
      frames_left = sym its.1 ∙ ap (λ k. drop k lists) (sym long);
      frames_count = omega (arith, long, steps.1.1, loop.invariant.frames_count);
      given = subst (HaveGiven records lists c.args.counts.now) (sym pushed)
          (given-more records lists c.args.counts.now flows r flow of_flow.0 refl its.0
          (ap (slice_get c.args.counts.now) (sym is) ∙ slice_get-get_or c.args.counts.now c.len-in-loop-record.result _ (omega (arith, is, within, c.requires.counts))) loop.invariant.given);
    }
