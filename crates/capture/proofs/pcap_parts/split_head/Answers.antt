-- What stands at the front is the header, and the rest is behind it.
use Rattle.std.proofs.Common.{◌++◌, drop, sym, ap, ◌∙◌, take-append-drop}
use Rattle.capture.specs.Pcap.{head_bytes}
use Rattle.capture.proofs.pcap_parts.split_head.Goals as goal

pub returns-clause-found : goal.returns-clause-found
returns-clause-found c =
    let piece = c.args.piece.now in
    let cut = c.in_ok-head.ensures.cases in
    let head = head_bytes c.args.endian c.read_record_head.result in
    sym (take-append-drop 16 piece) ∙ ap (λ t. t ++ drop 16 piece) (sym cut.1 ∙ c.read_record_head.ensures.spelled)
    ∙ ap (λ t. head ++ t) (sym cut.2)
