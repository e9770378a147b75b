-- An item that was pushed is at the end of its list.
use Rattle.std.proofs.Common.{◌∙◌, ap, sym, ◌++◌, ◌∷◌, [], if◌then◌else◌, arith}
use Rattle.consumer.proofs.Lists.{appends-at}
use Rattle.consumer.proofs.collected.append.Goals as goal

pub returns : goal.returns
returns g c = λ kept.
    appends-at c.args.lists.now.items c.args.index c.args.item c.push.new.self c.index_mut.result.now
    (omega (arith, c.if-index-len.false, c.len.ensures)) c.index_mut.ensures.value
    (c.push.ensures.items ∙ ap (λ b. if b then c.index_mut.result.now.items ++ c.args.item ∷ [] else c.index_mut.result.now.items) (sym c.is_ok.ensures.value ∙ kept))
