use Rattle.std.proofs.Common.{◌≡◌, sym, subst}
use Rattle.std.proofs.lemmas.Result.{IfOk-weaker}
use Rattle.texts.specs.Cut.{IsPrinted}
use Rattle.texts.proofs.PutLines.{buffer-finished}
use Rattle.texts.proofs.cut.whole_text.Goals as goal

pub returns : goal.returns
returns c =
    let put = c.put_cut.ensures in
    IfOk-weaker c.finish.result (λ one. one.items ≡ put.0) (λ one. IsPrinted c.args.cutter one.items) (λ one same. subst (IsPrinted c.args.cutter) (sym same) put.1)
    (buffer-finished c.finish.result c.in_ok-text.text c.put_cut.new.out put.0 c.in_ok-text.ensures.empty put.2 c.finish.ensures.whole c.finish.ensures.text)
