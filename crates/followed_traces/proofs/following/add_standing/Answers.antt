-- How the flow stands was added, or there is no such flow.
use Rattle.std.proofs.Common.{◌∷◌, [], sym, ◌∙◌, append-nil}
use Rattle.std.proofs.lemmas.Option.{none-some}
use Rattle.texts.specs.declared.follow.happening.Happening.TheVariants.{Stands}
use Rattle.followed_traces.proofs.FollowedTrace.{no_standing, one_standing}
use Rattle.followed_traces.proofs.following.add_standing.Goals as goal

pub returns-in_default : goal.returns-in_default
returns-in_default c = (
  [],
  no_standing c.args.receiver.now c.args.flow (c.expected.ensures.none.0 c.in_default.is),
  λ whole. (whole, sym (append-nil c.args.happened.now.happened.items)),
)

pub returns : goal.returns
returns c = (
  Stands c.args.flow c.in-Some.expected c.in-Some-held.held ∷ [],
  one_standing c.args.receiver.now c.args.flow c.in-Some.expected c.in-Some-held.held
      (λ past. none-some c.in-Some.expected (sym (c.expected.ensures.none.1 past) ∙ c.in-Some.is)) c.in-Some.ensures.number c.in-Some-held.ensures.count,
  c.add.ensures,
)
