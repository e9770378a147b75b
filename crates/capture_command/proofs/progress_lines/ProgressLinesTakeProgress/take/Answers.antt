use Rattle.std.proofs.Common.{◌≡◌, None, false, inr, refl, ◌∙◌, rules}
use Rattle.engines.specs.Device.{has_failed}
use Rattle.capture_command.proofs.Said.{told-line}
use Rattle.capture_command.proofs.progress_lines.ProgressLinesTakeProgress.take.Goals as goal

pub returns-in-Ok : goal.returns-in-Ok
returns-in-Ok g c = λ start told was.
    let text = c.deref.ensures.value ∙ c.in-Ok.ensures in
    let timed : c.args.self.now.last ≡ None → ⊥ = search rules in
    let sound : has_failed c.args.self.now.writer.now ≡ false = search rules in
    inr (told-line g.W.Write.contents start told c.args.progress c.args.self.now _ c.write_text.result refl timed sound
    (rw text at c.write_text.ensures.written) (rw text at c.write_text.ensures.front) c.write_text.ensures.failed was)
