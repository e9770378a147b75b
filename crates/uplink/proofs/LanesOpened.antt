-- The lanes of a source, opened one after another.
use Rattle.std.proofs.Common.{◌≡◌, ℕ, ◌+◌, ◌<◌, ◌≤◌, ◌==◌, ◌%◌, ◌&&◌, ⊎_elim, false, Option, Some, IfSome, is_some, List, [], ◌∷◌, ◌++◌, length, slice_get, refl, sym, ap, subst, ◌∙◌, arith}
use Rattle.std.proofs.lemmas.Bool.{cases_lt, lt-ltb, le-ltb}
use Rattle.std.proofs.lemmas.List.{length-map, length_push, map-append, get_or_append_left, get_or_push, get_or_past}
use Rattle.std.proofs.lemmas.Option.{slice_get_within}
use Rattle.lane.specs.declared.lane.Lane.{Lane}
use Rattle.lane.specs.Stands.{StandsFor}
use Rattle.lane.proofs.LaneTaking.{from-pushed}
use Rattle.receiver.specs.declared.setup.Setup.{Setup}
use Rattle.receiver.specs.Items.{lane_setup}
use Rattle.workers.specs.Inside.Working.{owned, is_own}
use Rattle.uplink.specs.Inside.Running.{AreOpenLanesOf}

-- no channel is there
pub none-opened : (source : ℕ) (setup : Setup) → AreOpenLanesOf 0 source setup []
none-opened source setup = record {
  count = refl;
  own = λ channel. sym (ap (λ b. b && (channel % 4 == source)) (le-ltb channel 0 (omega arith)));
  stand = λ channel lane at. let within = slice_get_within [] channel (Some lane) at in absurd (omega arith);
}

-- one channel more
pub one-opened : (channel source : ℕ) (setup : Setup) (lanes : List (Option Lane)) (lane : Option Lane) → AreOpenLanesOf channel source setup lanes
    → is_some lane ≡ (channel % 4 == source) → IfSome lane (λ one. StandsFor (lane_setup setup channel) one [])
    → AreOpenLanesOf (channel + 1) source setup (lanes ++ lane ∷ [])
one-opened channel source setup lanes lane are own stands =
    let flags = owned lanes in
    let long : length flags ≡ channel = length-map lanes (λ (l : Option Lane). is_some l) ∙ are.count in
    let pushed : owned (lanes ++ lane ∷ []) ≡ flags ++ is_some lane ∷ [] = map-append (λ (l : Option Lane). is_some l) lanes (lane ∷ []) in
    record {
      count = length_push lanes lane ∙ ap (λ n. n + 1) are.count;
      own = λ other.
          ap (λ f. is_own f other) pushed
          ∙ ⊎_elim
          (λ (before : other < channel).
          get_or_append_left flags (is_some lane ∷ []) false other (omega (arith, before, long)) ∙ are.own other
          ∙ ap (λ b. b && (other % 4 == source)) (lt-ltb other channel before ∙ sym (lt-ltb other (channel + 1) (omega arith))))
          (λ (from : channel ≤ other).
          ⊎_elim
          (λ (here : other < channel + 1).
          let same : channel ≡ other = omega arith in
          get_or_push flags (is_some lane) false other (long ∙ same) ∙ own ∙ ap (λ n. n % 4 == source) same
          ∙ ap (λ b. b && (other % 4 == source)) (sym (lt-ltb other (channel + 1) here)))
          (λ (past : channel + 1 ≤ other).
          get_or_past (flags ++ is_some lane ∷ []) other false (let n = length_push flags (is_some lane) in omega (arith, n, long, past))
          ∙ ap (λ b. b && (other % 4 == source)) (sym (le-ltb other (channel + 1) past)))
          (cases_lt other (channel + 1)))
          (cases_lt other channel);
      stand = λ other one at.
          ⊎_elim
          (λ (before : slice_get lanes other ≡ Some (Some one)). are.stand other one before)
          (λ last.
          let same : channel ≡ other = sym are.count ∙ sym last.0 in
          subst (λ n. StandsFor (lane_setup setup n) one []) same
          (subst (λ (l : Option Lane). IfSome l (λ one. StandsFor (lane_setup setup channel) one [])) (sym last.1) stands))
          (from-pushed lanes lane other (Some one) at);
    }
