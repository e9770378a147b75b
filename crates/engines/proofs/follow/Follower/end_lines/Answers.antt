-- All lines were taken, or the last line is at fault.
use Rattle.std.specs.Prelude.{map}
use Rattle.std.proofs.lemmas.Result.{err_from_is_err_and}
use Rattle.texts.specs.Happened.{happening_of}
use Rattle.engines.specs.Inside.Following.{HasFollowedSoFar}
use Rattle.engines.proofs.FollowedLines.{retaken, settings_of, end_fault}
use Rattle.engines.proofs.FollowedEnd.{numbered_end}
use Rattle.engines.proofs.follow.Follower.end_lines.Goals as goal

pub returns-in_err-finish-clause-fault : goal.returns-in_err-finish-clause-fault
returns-in_err-finish-clause-fault c =
    let p = err_from_is_err_and c.from_residual.result c.from_residual.ensures.1 in
    rw (p.1, p.2) (λ rule width settings bytes told has.
    end_fault settings rule width (map happening_of told) bytes c.in_err-finish.field-0.0
    (c.in_err-finish.ensures.fault _ bytes
    (retaken _ _ HasFollowedSoFar _ c.args.self c.args.self.input (λ state stands. stands) c.args.self.lines bytes has.taken)))

pub returns-clause-end : goal.returns-clause-end
returns-clause-end c = λ rule width settings bytes told has.
    let read = c.in_ok-finish.ensures.read _ bytes
    (retaken _ _ HasFollowedSoFar _ c.args.self c.args.self.input (λ state stands. stands) c.args.self.lines bytes has.taken) in
    record {
      settings_are = settings_of settings rule width (map happening_of told) _ read.1 read.2;
      state = read.0;
      read = read.1;
      stands = read.2;
      numbered = numbered_end rule width settings bytes told c.args.self c.last_line-line.result has c.last_line-line.ensures;
    }
