-- One blank note more, and at last as many as there are channels.
use Rattle.std.proofs.Common.{◌≡◌, ◌∷◌, [], ◌++◌, sym, ap, subst, length, All, rules, arith}
use Rattle.std.proofs.lemmas.List.{length_push}
use Rattle.std.proofs.lemmas.List.Elements.{All-push, All-get_or}
use Rattle.std.proofs.lemmas.Option.{slice_get_within, get_or_from_slice_get}
use Rattle.workers.proofs.lane_notes.blank_notes.Goals as goal

pub loop-preserved : goal.loop-preserved
loop-preserved g c =
    let lanes = c.loop.lanes.items in
    let pushed : c.push.new.self.items ≡ lanes ++ c.blank.result ∷ [] = search rules in
    record {
      count = let long = ap length pushed in let more = length_push lanes c.blank.result in let count = c.loop.invariant.count in omega (arith, long, more, count);
      blank = subst (All (g.N.LaneNotes.are_of [])) (sym pushed) (All-push (g.N.LaneNotes.are_of []) lanes c.blank.result c.loop.invariant.blank c.blank.ensures);
    }

pub returns : goal.returns
returns g c = λ flags many. record {
  count = search rules;
  of_lanes = λ channel one at.
      let lanes = c.loop.lanes.items in
      let within = slice_get_within lanes channel one at in
      subst (g.N.LaneNotes.are_of []) (get_or_from_slice_get lanes channel one one at) (All-get_or (g.N.LaneNotes.are_of []) lanes channel one within c.loop.invariant.blank);
  strays = record { foreign = search rules; absent = search rules };
}
