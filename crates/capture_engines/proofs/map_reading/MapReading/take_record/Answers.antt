use Rattle.std.proofs.Common.{refl, arith}
use Rattle.std.proofs.lemmas.Result.{on_ok_weaker}
use Rattle.capture.specs.SeenCapture.{capture_parts}
use Rattle.capture_engines.specs.declared.map_reading.MapReading.{MapReading}
use Rattle.capture_engines.proofs.Records.{told_more, told_nothing}
use Rattle.capture_engines.proofs.map_reading.MapReading.take_record.Goals as goal
use Rattle.capture_engines.proofs.map_reading.MapReading.take_record.Goals.{then-given-ne-XRA-via-then-given-ne-XRA, then-given-ne-XRA-via-else-given-ne-XRA+then-is_cut_short}

pub returns-then-given-ne-XRA-clause-taken : goal.returns-then-given-ne-XRA-clause-taken
returns-then-given-ne-XRA-clause-taken c = λ records has.
    let old = c.args.self.now in
    let mid : MapReading = record old { records = c.saturating_add-self.result } in
    let one = capture_parts c.args.given.now in
    elim c.then-given-ne-XRA.branch [
      | then-given-ne-XRA-via-then-given-ne-XRA w ↦
          told_nothing records old mid one has (λ counts. w.if-given-ne-XRA.true counts.of_xra) c.saturating_add-self.ensures refl refl refl
      | then-given-ne-XRA-via-else-given-ne-XRA+then-is_cut_short w ↦
          told_nothing records old mid one has
          (λ counts. omega (arith, counts.whole, w.is_cut_short.ensures.0 w.if-is_cut_short.true)) c.saturating_add-self.ensures refl refl refl
    ]

pub returns-clause-taken : goal.returns-clause-taken
returns-clause-taken c =
    let old = c.args.self.now in
    let mid : MapReading = record old { records = c.saturating_add-self.result } in
    let one = capture_parts c.args.given.now in
    let message = c.in_ok-take_message.ensures in
    let burst = c.take_burst.ensures in
    on_ok_weaker c.take_burst.result
    (λ shows. λ records has.
    told_more records old mid c.take_message.new.self c.take_burst.new.self one has c.saturating_add-self.ensures refl refl refl message.taken message.seen message.records shows
    burst.unfinished burst.map burst.records)
    burst.shown
