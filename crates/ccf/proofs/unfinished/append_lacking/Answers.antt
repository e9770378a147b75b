-- What completes the head is appended, and then what the frame lacks.
use Rattle.std.proofs.Common.{◌++◌, drop, sym, ap, ◌∙◌, append_assoc}
use Rattle.std.proofs.lemmas.List.{take-append-drop}
use Rattle.ccf.proofs.unfinished.append_lacking.Goals as goal

pub returns-in-Ok-clause-appends : goal.returns-in-Ok-clause-appends
returns-in-Ok-clause-appends c =
    let before = c.args.unfinished.now.items in
    let next = c.args.next.now in
    let head = c.split_at.result.0.now in
    let rest = c.split_at.result.1.now in
    let more = c.in-Ok.ensures.appends in
    record {
      front = head ++ more.front;
      appended = more.appended ∙ ap (λ t. t ++ more.front) c.in_ok-extend_from_slice.ensures.items ∙ append_assoc before head more.front;
      split = sym (take-append-drop c.min.result next) ∙ ap (λ t. t ++ drop c.min.result next) (sym c.split_at.ensures.front)
          ∙ ap (λ t. head ++ t) (sym c.split_at.ensures.back ∙ more.split) ∙ sym (append_assoc head more.front c.in-Ok.left.now);
    }
