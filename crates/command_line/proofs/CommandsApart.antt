-- No words ask for two commands.
use Rattle.std.proofs.Common.{◌≡◌, ◌≢◌, ℕ, length, List, [], ◌∷◌, get_or, sym, ap, ◌∙◌, arith}
use Rattle.std.specs.Prelude.{codes}
use Rattle.command_line.specs.Command.{IsCommand, AsksToJoin, AsksToMap}

-- no words begin with two commands
pub commands_apart : (command other : List ℕ) → command ≢ other → (words : List (List ℕ)) → IsCommand command words → IsCommand other words → ⊥
commands_apart command other differ [] is are = is
commands_apart command other differ (name ∷ []) is are = is
commands_apart command other differ (name ∷ word ∷ options) is are = differ (sym is ∙ are)

-- the commands' words begin with different letters
pub cut_is_not_run : codes "cut" ≢ codes "run"
cut_is_not_run e = let first : 99 ≡ 114 = ap (λ text. get_or text 0 0) e in omega (arith, first)

pub cut_is_not_replay : codes "cut" ≢ codes "replay"
cut_is_not_replay e = let first : 99 ≡ 114 = ap (λ text. get_or text 0 0) e in omega (arith, first)

pub follow_is_not_cut : codes "follow" ≢ codes "cut"
follow_is_not_cut e = let first : 102 ≡ 99 = ap (λ text. get_or text 0 0) e in omega (arith, first)

pub follow_is_not_run : codes "follow" ≢ codes "run"
follow_is_not_run e = let first : 102 ≡ 114 = ap (λ text. get_or text 0 0) e in omega (arith, first)

pub follow_is_not_replay : codes "follow" ≢ codes "replay"
follow_is_not_replay e = let first : 102 ≡ 114 = ap (λ text. get_or text 0 0) e in omega (arith, first)

pub cut_is_not_map : codes "cut" ≢ codes "map"
cut_is_not_map e = let first : 99 ≡ 109 = ap (λ text. get_or text 0 0) e in omega (arith, first)

pub replay_is_not_map : codes "replay" ≢ codes "map"
replay_is_not_map e = let first : 114 ≡ 109 = ap (λ text. get_or text 0 0) e in omega (arith, first)

pub run_is_not_map : codes "run" ≢ codes "map"
run_is_not_map e = let first : 114 ≡ 109 = ap (λ text. get_or text 0 0) e in omega (arith, first)

pub follow_is_not_map : codes "follow" ≢ codes "map"
follow_is_not_map e = let first : 102 ≡ 109 = ap (λ text. get_or text 0 0) e in omega (arith, first)

-- or have different lengths
pub replay_is_not_run : codes "replay" ≢ codes "run"
replay_is_not_run e = let long : 6 ≡ 3 = ap length e in omega (arith, long)

-- no words ask both to join and for a command whose word is another
pub join_is_another : (command : List ℕ) → codes "join" ≢ command → (words : List (List ℕ)) → AsksToJoin words → IsCommand command words → ⊥
join_is_another command differ [] joins asks = asks
join_is_another command differ (name ∷ []) joins asks = asks
join_is_another command differ (name ∷ word ∷ []) joins asks = differ (sym joins ∙ asks)
join_is_another command differ (name ∷ word ∷ another ∷ more) joins asks = joins

pub join_is_not_cut : codes "join" ≢ codes "cut"
join_is_not_cut e = let long : 4 ≡ 3 = ap length e in omega (arith, long)

pub join_is_not_run : codes "join" ≢ codes "run"
join_is_not_run e = let long : 4 ≡ 3 = ap length e in omega (arith, long)

pub join_is_not_replay : codes "join" ≢ codes "replay"
join_is_not_replay e = let long : 4 ≡ 6 = ap length e in omega (arith, long)

pub join_is_not_map : codes "join" ≢ codes "map"
join_is_not_map e = let long : 4 ≡ 3 = ap length e in omega (arith, long)

-- words that ask for a map begin with its command
pub maps_alone : (words : List (List ℕ)) → AsksToMap words → IsCommand (codes "map") words
maps_alone [] asks = absurd asks
maps_alone (name ∷ []) asks = absurd asks
maps_alone (name ∷ word ∷ []) asks = asks
maps_alone (name ∷ word ∷ another ∷ more) asks = absurd asks

pub join_is_not_follow : codes "join" ≢ codes "follow"
join_is_not_follow e = let long : 4 ≡ 6 = ap length e in omega (arith, long)
