use Rattle.std.proofs.Common.{◌≡◌, ◌++◌, ◌*◌, ◌≤◌, is_ok, if◌then◌else◌, List, ℕ, length, drop, ap, sym, subst, ◌∙◌, arith}
use Rattle.text_lines.specs.Inside.DigitBlocks.{SpellsFront}
use Rattle.text_lines.proofs.DigitBlocks.{block_more, block_more-rest, block_more-within}
use Rattle.text_lines.proofs.digits.append_blocks.Goals as goal

pub loop-block-preserved : goal.loop-block-preserved
loop-block-preserved c =
    let digits = c.args.digits.now in
    let bytes = c.loop-block.bytes.items in
    let rest = c.loop-block.rest.now in
    let block = c.in-Some.block.now in
    let others = c.in-Some.others.now in
    let spelled = c.in-Some-spell_block.spelled in
    let so_far = c.loop-block.invariant in
    let parts = c.in-Some.ensures.cases in
    let grown : c.extend_from_slice.new.self.items ≡ bytes ++ spelled =
    c.extend_from_slice.ensures.items ∙ ap (λ r. if is_ok r then bytes ++ spelled else bytes) c.unwrap.ensures in
    record {
      rest_is = block_more-rest digits bytes rest block others so_far.rest_is parts.0 parts.1 parts.2 so_far.spelled spelled c.in-Some-spell_block.ensures
          ∙ ap (λ (l : List ℕ). drop (2 * length l) digits) (sym grown);
      spelled = subst (λ (l : List ℕ). SpellsFront digits l) (sym grown)
          (block_more digits bytes rest block others so_far.rest_is parts.0 parts.1 parts.2 so_far.spelled spelled c.in-Some-spell_block.ensures);
      within = subst (λ (l : List ℕ). 2 * length l ≤ length digits) (sym grown)
          (block_more-within digits bytes rest block others so_far.rest_is parts.0 parts.1 parts.2 so_far.spelled spelled c.in-Some-spell_block.ensures so_far.within);
      room = (let kept = c.extend_from_slice.ensures.capacity in let enough = so_far.room in omega arith);
    }
