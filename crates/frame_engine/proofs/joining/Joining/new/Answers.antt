-- Nothing came, and the header is in the file.
use Rattle.std.proofs.Common.{◌≡◌, ℕ, [], List, Option, None, replicate, length, refl, sym, ap, subst, ◌∙◌, map, append-nil, rules}
use Rattle.capture.specs.Pcap.{header_bytes}
use Rattle.captured_flows.specs.declared.burst_taken.BurstTaken.{BurstTaken}
use Rattle.captured_flows.specs.Captures.{SpellsBursts, none_comes}
use Rattle.captured_flows.specs.Flow.{FlowView}
use Rattle.captured_flows.specs.Plays.{nothing}
use Rattle.captured_flows.specs.Together.{view_begun}
use Rattle.frame_records.specs.Frames.{file_header}
use Rattle.timed_frames.specs.declared.timed_step.LastBurst.{LastBurst}
use Rattle.timed_frames.specs.Timed.{Timed, nothing_came}
use Rattle.frame_engine.specs.Records.{no_records}
use Rattle.frame_engine.specs.Compared.{nothing_yet}
use Rattle.frame_engine.specs.Joined.{made, none_handed_in}
use Rattle.frame_engine.specs.Comparing.{Compares}
use Rattle.frame_engine.specs.Reasoned.{nothing_told}
use Rattle.frame_engine.proofs.Reasoned.{answers-none, known-nothing}
use Rattle.frame_engine.proofs.joining.Joining.new.Goals as goal

pub returns-clause-begun : goal.returns-clause-begun
returns-clause-begun c =
    let settings = c.args.settings in
    let capture_map = c.args.capture_map in
    let seen = c.in_ok-timed.ensures in
    let many : c.len.result ≡ length capture_map.flows.items = search rules in
    record {
      bursts = [];
      are = no_records;
      taken_in = record {
        handed = [];
        steps = [];
        comes = record {
          spelled =
              subst
              (λ (views : List FlowView). SpellsBursts capture_map (made settings capture_map) settings.waits.wait
              (map (view_begun settings.waits) capture_map.flows.items) [] [] [] views)
              (sym c.in_ok-flows.ensures.views) none_comes;
          plays = nothing;
        };
        stands = c.in_ok-flows.ensures.stands;
        map_is = c.in_ok-flows.ensures.map;
        waits_are = c.in_ok-flows.ensures.waits;
        selected_are = c.in_ok-flows.ensures.selected;
        filed = record {
          came = [];
          is_timed =
              subst (λ (lasts : List (Option LastBurst)). Timed (none_handed_in settings capture_map) [] [] lasts)
              (sym (seen.lasts ∙ ap (λ (n : ℕ). replicate n None) many)) nothing_came;
          whole = seen.whole;
          none_waits = seen.waiting;
          link = c.in_ok-file.ensures.link;
          channels = c.in_ok-file.ensures.channels ∙ search rules;
          text = append-nil (header_bytes (file_header settings.link)) ∙ sym c.in_ok-file.ensures.bytes;
        };
      };
      count = refl;
    }

pub returns-clause-begun_beside : goal.returns-clause-begun_beside
unfolding returns-clause-begun
returns-clause-begun_beside c = λ comparing none.
    let joined = returns-clause-begun c in
    let settings = c.args.settings in
    let capture_map = c.args.capture_map in
    record {
      joined = joined;
      compares =
          subst (λ (answers : List BurstTaken). Compares settings capture_map [] [] answers [] comparing) (sym (answers-none joined.taken_in.comes.spelled)) (record {
            arrivals = [];
            are = nothing_yet;
            compared = none.0;
            explained = λ whole. record { told = []; reasons = []; are = nothing_told; knows = known-nothing comparing.reasons none.1 };
          });
    }
