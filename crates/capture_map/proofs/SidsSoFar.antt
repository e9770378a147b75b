-- The service identifiers that lines gave, and one more.
use Rattle.std.proofs.Common.{◌≡◌, ◌<◌, ◌==◌, ◌&&◌, ◌||◌, not, Bool, true, false, cond, leb, List, [], ◌∷◌, ◌++◌, length, Some, None, refl, sym, ap, ◌∙◌}
use Rattle.std.specs.List.{list_any}
use Rattle.std.proofs.lemmas.Bool.{cond-true, cond-false, lt-leb, false≢true}
use Rattle.capture_map.specs.declared.map.MapSid.{MapSid}
use Rattle.capture_map.specs.declared.map_fault.MapKind.TheVariants.{UnknownChannel, UnknownFlow, SameSid}
use Rattle.capture_map.specs.Reading.{Said, fault_of_sid}

-- a test more, and one before another
or-cond : (b c : Bool) → (b || c) ≡ cond b true c
or-cond true c = refl
or-cond false c = refl

or-swap : (a b c : Bool) → (a || cond b true c) ≡ cond b true (a || c)
or-swap true true c = refl
or-swap true false c = refl
or-swap false true c = refl
or-swap false false c = refl

-- one element more
pub any-push : {X : Type 0} (p : X → Bool) (xs : List X) (x : X) → list_any p (xs ++ x ∷ []) ≡ cond (p x) true (list_any p xs)
any-push p [] x = or-cond (p x) false
any-push p (y ∷ xs) x = ap (λ b. p y || b) (any-push p xs x) ∙ or-swap (p y) (p x) (list_any p xs)

-- a key that wasn't added was there, and one that was wasn't
pub was_there : (added there : Bool) → added ≡ not there → added ≡ false → there ≡ true
was_there added true is none = refl
was_there added false is none = absurd (false≢true (sym none ∙ is))

pub was_new : (added there : Bool) → added ≡ not there → added ≡ true → there ≡ false
was_new added false is one = refl
was_new added true is one = absurd (false≢true (sym is ∙ one))

module _ (said : Said) (row : MapSid) (channel : list_any (λ other. other.channel == row.channel) said.channels ≡ true) (flow : row.flow < length said.flows) where
  -- whether the channel and the service identifier stand in a line above
  is_above : Bool
  is_above = list_any (λ other. other.channel == row.channel && other.sid == row.sid) said.sids

  -- what is left to ask of a row with a channel and a flow
  left_to_ask : fault_of_sid said row ≡ cond is_above (Some SameSid) None
  unfolding is_above
  left_to_ask =
      cond-true (list_any (λ other. other.channel == row.channel) said.channels) _ (Some UnknownChannel) channel
      ∙ cond-false (leb (length said.flows) row.flow) (Some UnknownFlow) _ (lt-leb (length said.flows) row.flow flow)

  pub same_sid : list_any (λ other. other.channel == row.channel && other.sid == row.sid) said.sids ≡ true → fault_of_sid said row ≡ Some SameSid
  unfolding is_above
  same_sid there = left_to_ask ∙ cond-true is_above (Some SameSid) None there

  pub new_sid : list_any (λ other. other.channel == row.channel && other.sid == row.sid) said.sids ≡ false → fault_of_sid said row ≡ None
  unfolding is_above
  new_sid there = left_to_ask ∙ cond-false is_above (Some SameSid) None there
