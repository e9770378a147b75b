-- What all lines gave, where others stand for some.
use Rattle.std.proofs.lemmas.Result.{IfOk-weaker}
use Rattle.texts.specs.Inside.InPlace.{other_lines}
use Rattle.texts.proofs.ReplayedInPart.{played_in_part}
use Rattle.texts.proofs.replay.selected_replay.SelectedReplay.finish.Goals as goal

pub finish_replay-requires : goal.finish_replay-requires
finish_replay-requires c =
    let has = c.requires.1 in
    (other_lines c.requires.0 has.others, has.replayed)

pub returns : goal.returns
returns c =
    IfOk-weaker c.finish_replay.result _ _
    (λ outcome played given has.
    let lines = other_lines given has.others in
    let input = c.args.self.input in
    played_in_part given c.args.self.selected.now input.width input.rule input.setup input.taker has outcome (played lines has.replayed))
    c.finish_replay.ensures
