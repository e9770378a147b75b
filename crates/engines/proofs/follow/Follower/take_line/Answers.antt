-- A piece was followed, or none of it was told of.
use Rattle.std.proofs.Common.{ℕ, [], List, sym, ap, subst, ◌∙◌}
use Rattle.std.specs.Prelude.{map, flat_map}
use Rattle.text_lines.specs.Putting.{Puts}
use Rattle.texts.specs.declared.follow.settings.FollowSettings.{FollowSettings}
use Rattle.texts.specs.Follow.{lines_told}
use Rattle.texts.specs.Happened.{happening_of}
use Rattle.std.proofs.lemmas.Result.{err_from_is_err_and}
use Rattle.engines.specs.declared.fault.EngineFault.TheVariants.{OutOfMemory}
use Rattle.engines.specs.Inside.Following.{HasFollowedSoFar, all_at}
use Rattle.engines.proofs.NumberedHappenings.{lines_at}
use Rattle.engines.proofs.FollowedLines.{retaken, taken_told, settings_of, told_above, fault_of_piece, followed_line}
use Rattle.text_lines.proofs.PutTexts.{puts-nothing}
use Rattle.engines.proofs.follow.Follower.take_line.Goals as goal

pub returns-in_err-take_one_line : goal.returns-in_err-take_one_line
returns-in_err-take_one_line g c = λ rule width settings bytes told has.
    let p = err_from_is_err_and c.from_residual.result c.from_residual.ensures.1 in
    let fault =
    fault_of_piece _ c.args.self.now.input settings rule width bytes c.args.piece.now (map happening_of told) c.args.self.now.lines _
    (retaken _ _ HasFollowedSoFar _ c.args.self.now c.args.self.now.input (λ state stands. stands) _ bytes has.taken) c.in_err-take_one_line.ensures.fault in
    rw (p.1, p.2) (
      [],
      puts-nothing g.O.PutText.after c.args.out.now,
      (
        told_above rule width settings bytes c.args.piece.now told _ _ has c.requires fault,
        fault,
      ),
    )

pub returns-in_err-put_happened : goal.returns-in_err-put_happened
returns-in_err-put_happened g c = λ rule width settings bytes told has.
    let p = err_from_is_err_and c.from_residual-in_err-put_happened.result c.from_residual-in_err-put_happened.ensures.1 in
    rw (p.1, p.2) (
      [],
      rw c.in_err-put_happened.ensures.unchanged (puts-nothing g.O.PutText.after c.args.out.now),
      (told_above rule width settings bytes c.args.piece.now told _ OutOfMemory has c.requires tt, tt),
    )

pub returns : goal.returns
returns g c = λ rule width settings bytes told has.
    let put = c.in_ok-put_happened.ensures.put in
    let line = c.line_count-line.result in
    let was = retaken _ _ HasFollowedSoFar _ c.args.self.now c.args.self.now.input (λ state stands. stands) c.args.self.now.lines bytes has.taken in
    let taken = c.in_ok-take_one_line.ensures.taken _ bytes was in
    let tells = put.told taken.1.state taken.1.stands in
    let happened = tells.0 in
    let same = settings_of settings rule width (map happening_of told) _ taken.1.read taken.1.stands in (
      all_at line happened,
      subst (λ (text : List ℕ). Puts g.O.PutText.after c.args.out.now text c.put_happened.new.out)
          (tells.1 ∙ ap (λ (told_of : FollowSettings). flat_map (lines_told told_of line) happened) same ∙ sym (lines_at settings line happened)) put.put,
      followed_line rule width settings bytes c.args.piece.now told c.args.self.now _ happened line has c.requires c.line_count-line.ensures
          (taken_told settings rule width (map happening_of told) happened _ _ _ _ _ _ taken tells.2) put.none,
    )
