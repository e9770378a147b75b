-- What was counted is what was given.
use Rattle.std.proofs.Common.{[], length, ap, ◌∙◌, zero-add, arith}
use Rattle.std.specs.Prelude.{count_by, sum_by}
use Rattle.flow_records.specs.Counted.{counted}
use Rattle.consumer.specs.Counting.{HasCounted, is_frame, is_request, bytes_in}
use Rattle.consumer.specs.Given.{requests_given}
use Rattle.lane.specs.Report.{requests_of}
use Rattle.uses.proofs.CountedByFlow.{frames-by-flow, bytes-by-flow, requests-by-channel, sum-same}
use Rattle.uses.proofs.counted_run.count_received.Goals as goal

pub returns-in-Ok-clause-counted : goal.returns-in-Ok-clause-counted
returns-in-Ok-clause-counted g c =
    let has = c.in-Ok.ensures.received in
    let begin = c.consumers_begin_with_nothing_given.ensures.counts (record { frames = 0; bytes = 0; requests = 0 }) (omega arith) (omega arith) (omega arith) in
    let taken : HasCounted (record { frames = 0; bytes = 0; requests = 0 }) has.frames c.in-Ok.received.consumer =
    has.were_given.consumer_became (record { frames = 0; bytes = 0; requests = 0 }) [] begin in
    let asked : HasCounted (record { frames = 0; bytes = 0; requests = 0 }) has.requests c.in-Ok.received.scheduler =
    has.were_given.scheduler_became (record { frames = 0; bytes = 0; requests = 0 }) [] begin in
    let flow_count = length c.args.setup.flows.items in
    let of_flows = has.answer.frames_only.of_flows in
    record {
      sources = has.sources;
      incoming = has.incoming;
      came = has.came;
      order = has.order;
      frames = has.frames;
      requests = has.requests;
      headline = has.headline;
      answer = has.answer;
      lane_count = has.lane_count;
      strays = has.strays;
      frame_count = taken.frames ∙ ap counted (zero-add (count_by is_frame has.frames) ∙ frames-by-flow flow_count has.frames of_flows);
      byte_count = taken.bytes ∙ ap counted (zero-add (sum_by bytes_in has.frames) ∙ bytes-by-flow flow_count has.frames of_flows);
      request_count =
          asked.requests
          ∙ ap counted (zero-add (count_by is_request has.requests)
          ∙ requests-by-channel c.args.width.channels has.requests has.answer.requests_only.of_channels
          ∙ sum-same c.args.width.channels (λ channel. length (requests_given channel has.requests)) (λ channel. length (requests_of (has.headline.intake.answered channel)))
          (λ channel within. ap (λ requests. length requests) (has.headline.requested channel within)));
    }
