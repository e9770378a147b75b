use Rattle.std.proofs.Common.{◌≡◌, ℕ, ◌-◌, List, length, take, drop, refl, sym, subst, ◌∙◌, arith, length-drop}
use Rattle.std.proofs.lemmas.List.{take_all}
use Rattle.docsis_wire.specs.Checks.{frame_generator}
use Rattle.docsis_wire.specs.Inside.Pending.{pair_sum, to_add}
use Rattle.docsis_wire.proofs.Dividing.{IsLeftOf}
use Rattle.docsis_wire.proofs.TakenAway.{pair_taken_away, left_by-rest}
use Rattle.docsis_wire.proofs.frame_sequence.after_front.Goals as goal

pub loop-rest-init : goal.loop-rest-init
loop-rest-init c =
    let P : ℕ → Type 0 = λ m. IsLeftOf frame_generator c.args.remainder c.args.bytes.now m c.args.bytes.now in
    record {
      left = subst P (sym c.new-pending.ensures) (record { small = λ i. omega (arith, c.type_inv.bytes i); same = refl });
      enough = omega arith;
    }

pub loop-rest-preserved : goal.loop-rest-preserved
loop-rest-preserved c =
    let rest = c.loop-rest.rest.now in
    let size = length-drop 16 rest in
    let behind : take (length rest - 16) (drop 16 rest) ≡ drop 16 rest = take_all (length rest - 16) (drop 16 rest) (omega arith) in
    let next = to_add c.take_away-pending.result in
    let P : List ℕ → Type 0 = λ r. IsLeftOf frame_generator c.args.remainder c.args.bytes.now next r in
    record {
      left = subst P (sym behind) (pair_taken_away c.args.remainder (to_add c.loop-rest.pending) next (pair_sum c.words_at.result) c.args.bytes.now rest
          c.loop-rest.invariant.left c.loop-rest-test.true c.words_at.ensures c.take_away-pending.ensures);
      enough = rw behind (omega arith);
    }

pub returns : goal.returns
returns c =
    c.after_pending.ensures
    ∙ left_by-rest c.args.remainder (to_add c.loop-rest.pending) c.args.bytes.now c.loop-rest.rest.now (λ i. omega (arith, c.type_inv.bytes i)) c.loop-rest.invariant.left
