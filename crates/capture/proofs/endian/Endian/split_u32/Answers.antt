-- The bytes of the number that was read of them are those bytes.
use Rattle.std.proofs.Common.{◌≡◌, ◌++◌, length, drop, sym, ap, ◌∙◌, arith, take-append-drop}
use Rattle.std.specs.Int.{w32}
use Rattle.std.proofs.lemmas.List.{length-take-le}
use Rattle.std.proofs.lemmas.Nat.{be_bytes_4, le_bytes_4}
use Rattle.capture.specs.Endian.{number_bytes}
use Rattle.capture.proofs.PcapBytes.{small_front}
use Rattle.capture.proofs.endian.Endian.split_u32.Goals.{in-Big, in-Little}
use Rattle.capture.proofs.endian.Endian.split_u32.Goals as goal

pub returns-clause-spelled : goal.returns-clause-spelled
returns-clause-spelled c =
    let bytes = c.args.bytes.now in
    let front = c.in-Some.front.now in
    let rest = c.in-Some.rest.now in
    let number = c.match-self.number in
    let cut = c.in-Some.ensures.cases in
    let whole : bytes ≡ front ++ rest = sym (take-append-drop 4 bytes) ∙ ap (λ t. t ++ drop 4 bytes) (sym cut.0) ∙ ap (λ t. front ++ t) (sym cut.1) in
    let size : length front ≡ 4 = ap length cut.0 ∙ length-take-le 4 bytes c.requires in
    let small = rw (← cut.0) at (small_front 4 bytes (λ i. omega (arith, c.type_inv.bytes i))) in
    let word : number_bytes c.args.self w32 number ≡ front =
    elim c.match-self.branch [
      | in-Big w ↦ ap (λ e. number_bytes e w32 number) w.in-Big.is ∙ be_bytes_4 front number size small (w.number-is ∙ w.from_be_bytes-number.ensures)
      | in-Little w ↦ ap (λ e. number_bytes e w32 number) w.in-Little.is ∙ le_bytes_4 front number size small (w.number-is ∙ w.from_le_bytes-number.ensures)
    ] in
    whole ∙ ap (λ t. t ++ rest) (sym word)
