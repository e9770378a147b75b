-- What is given of the selected flows and of none for stand-ins, and with it what is given of the
-- other flows for the whole.
use Rattle.std.proofs.Common.{◌≡◌, ◌≢◌, ℕ, Bool, true, false, not, Option, Some, None, List, [], ◌∷◌, ◌++◌, filter, filter_map, refl, sym, ap, ◌∙◌, append-nil, ne_eqb}
use Rattle.std.specs.Prelude.{if◌then◌else◌}
use Rattle.std.specs.List.{cons_option}
use Rattle.std.proofs.lemmas.Bool.{false≢true}
use Rattle.std.proofs.lemmas.List.Elements.{filter-append, filter_map-append}
use Rattle.flow_selection.specs.declared.selection.Selection.{Selection}
use Rattle.flow_selection.specs.Selection.{is_selected}
use Rattle.lane.specs.declared.admitted.Request.{Request}
use Rattle.consumer.specs.declared.given.Given.{Given}
use Rattle.consumer.specs.declared.given.Given.TheVariants.{Frame, Asked}
use Rattle.consumer.specs.Given.{frame_of, frames_of, request_on, requests_given}
use Rattle.answers.specs.ToldAlike.{AreGivenFor}
use Rattle.answers.specs.Beside.{is_told_if_given}

-- ---- what a test keeps

not_true : (b : Bool) → not b ≡ true → b ≡ false
not_true true is = sym is
not_true false is = refl

not_false : (b : Bool) → not b ≡ false → b ≡ true
not_false true is = refl
not_false false is = sym is

module _ {X Y : Type 0} (p : X → Bool) (f : X → Option Y) where
  -- of what is kept as much is picked as of all, where nothing is picked of what isn't kept
  one_kept : ((x : X) → p x ≡ false → f x ≡ None) → (x : X) (xs : List X) → filter_map f (filter p xs) ≡ filter_map f xs → (b : Bool) → p x ≡ b
      → filter_map f (if b then x ∷ filter p xs else filter p xs) ≡ filter_map f (x ∷ xs)
  one_kept none x xs rest true is = ap (λ (t : List Y). cons_option (f x) t) rest
  one_kept none x xs rest false is = rest ∙ ap (λ (o : Option Y). cons_option o (filter_map f xs)) (sym (none x is))

  picked_of_kept : ((x : X) → p x ≡ false → f x ≡ None) → (xs : List X) → filter_map f (filter p xs) ≡ filter_map f xs
  picked_of_kept none [] = refl
  picked_of_kept none (x ∷ xs) = one_kept none x xs (picked_of_kept none xs) (p x) refl

  -- and nothing, where nothing is picked of what is
  one_passed : ((x : X) → p x ≡ true → f x ≡ None) → (x : X) (xs : List X) → filter_map f (filter p xs) ≡ [] → (b : Bool) → p x ≡ b
      → filter_map f (if b then x ∷ filter p xs else filter p xs) ≡ []
  one_passed none x xs rest true is = ap (λ (o : Option Y). cons_option o (filter_map f (filter p xs))) (none x is) ∙ rest
  one_passed none x xs rest false is = rest

  none_of_kept : ((x : X) → p x ≡ true → f x ≡ None) → (xs : List X) → filter_map f (filter p xs) ≡ []
  none_of_kept none [] = refl
  none_of_kept none (x ∷ xs) = one_passed none x xs (none_of_kept none xs) (p x) refl

module _ {X : Type 0} (p : X → Bool) where
  -- the rest
  abbrev pub left_out : X → Bool
  left_out x = not (p x)

  -- what is kept is kept again
  one_again : (x : X) (xs : List X) → filter p (filter p xs) ≡ filter p xs → (b : Bool) → p x ≡ b
      → filter p (if b then x ∷ filter p xs else filter p xs) ≡ (if b then x ∷ filter p xs else filter p xs)
  one_again x xs rest true is =
      ap (λ (c : Bool). if c then x ∷ filter p (filter p xs) else filter p (filter p xs)) is ∙ ap (λ (t : List X). x ∷ t) rest
  one_again x xs rest false is = rest

  kept_again : (xs : List X) → filter p (filter p xs) ≡ filter p xs
  kept_again [] = refl
  kept_again (x ∷ xs) = one_again x xs (kept_again xs) (p x) refl

  -- and nothing of the rest
  one_left : (x : X) (xs : List X) → filter p (filter left_out xs) ≡ [] → (b : Bool) → p x ≡ b
      → filter p (if not b then x ∷ filter left_out xs else filter left_out xs) ≡ []
  one_left x xs rest true is = rest
  one_left x xs rest false is = ap (λ (c : Bool). if c then x ∷ filter p (filter left_out xs) else filter p (filter left_out xs)) is ∙ rest

  none_kept_of_rest : (xs : List X) → filter p (filter left_out xs) ≡ []
  none_kept_of_rest [] = refl
  none_kept_of_rest (x ∷ xs) = one_left x xs (none_kept_of_rest xs) (p x) refl

module _ (selected : Selection) where
  -- ---- what is given of the selected flows, and of none

  other_flow : (flow k : ℕ) (frame : List ℕ) → flow ≢ k → frame_of k (Frame flow frame) ≡ None
  other_flow flow k frame apart = ap (λ (b : Bool). if b then Some frame else None) (ne_eqb flow k apart)

  module _ (k : ℕ) (is : is_selected selected k ≡ true) where
    -- a frame that is left out is of another flow
    not_of : (given : Given) → is_told_if_given selected given ≡ false → frame_of k given ≡ None
    not_of (Frame flow frame) out = other_flow flow k frame (λ same. false≢true (sym out ∙ ap (is_selected selected) same ∙ is))
    not_of (Asked request) out = refl

    kept_frames : (given : List Given) → frames_of k (filter (is_told_if_given selected) given) ≡ frames_of k given
    kept_frames = picked_of_kept (is_told_if_given selected) (frame_of k) not_of

    no_rest_frames : (given : List Given) → frames_of k (filter (left_out (is_told_if_given selected)) given) ≡ []
    no_rest_frames = none_of_kept (left_out (is_told_if_given selected)) (frame_of k) (λ given out. not_of given (not_true (is_told_if_given selected given) out))

  module _ (k : ℕ) (is : is_selected selected k ≡ false) where
    -- a frame that is kept is of another flow
    not_kept : (given : Given) → is_told_if_given selected given ≡ true → frame_of k given ≡ None
    not_kept (Frame flow frame) kept = other_flow flow k frame (λ same. false≢true (sym is ∙ ap (is_selected selected) (sym same) ∙ kept))
    not_kept (Asked request) kept = refl

    no_kept_frames : (given : List Given) → frames_of k (filter (is_told_if_given selected) given) ≡ []
    no_kept_frames = none_of_kept (is_told_if_given selected) (frame_of k) not_kept

    rest_frames : (given : List Given) → frames_of k (filter (left_out (is_told_if_given selected)) given) ≡ frames_of k given
    rest_frames = picked_of_kept (left_out (is_told_if_given selected)) (frame_of k) (λ given out. not_kept given (not_false (is_told_if_given selected given) out))

  module _ (channel : ℕ) where
    -- no request is left out
    no_request_out : (given : Given) → is_told_if_given selected given ≡ false → request_on channel given ≡ None
    no_request_out (Frame flow frame) out = refl
    no_request_out (Asked request) out = absurd cc

    kept_requests : (given : List Given) → requests_given channel (filter (is_told_if_given selected) given) ≡ requests_given channel given
    kept_requests = picked_of_kept (is_told_if_given selected) (request_on channel) no_request_out

    no_rest_requests : (given : List Given) → requests_given channel (filter (left_out (is_told_if_given selected)) given) ≡ []
    no_rest_requests = none_of_kept (left_out (is_told_if_given selected)) (request_on channel) (λ given out. no_request_out given (not_true (is_told_if_given selected given) out))

  -- ---- with what is given of the other flows

  -- the first of the selected flows and of none, and the second of the other flows
  abbrev pub of_both : List Given → List Given → List Given
  of_both also own = filter (is_told_if_given selected) also ++ filter (left_out (is_told_if_given selected)) own

  pub kept_of_both : (also own : List Given) → filter (is_told_if_given selected) (of_both also own) ≡ filter (is_told_if_given selected) also
  kept_of_both also own =
      let kept = filter (is_told_if_given selected) also in
      let rest = filter (left_out (is_told_if_given selected)) own in
      filter-append (is_told_if_given selected) kept rest
      ∙ ap (λ (t : List Given). t ++ filter (is_told_if_given selected) rest) (kept_again (is_told_if_given selected) also)
      ∙ ap (λ (t : List Given). kept ++ t) (none_kept_of_rest (is_told_if_given selected) own) ∙ append-nil kept

  module _ (given also also_more own : List Given) (same : AreGivenFor selected also given) where
    abbrev kept : List Given
    kept = filter (is_told_if_given selected) also_more

    abbrev rest : List Given
    rest = filter (left_out (is_told_if_given selected)) own

    pub frames_selected : (k : ℕ) → is_selected selected k ≡ true → frames_of k (given ++ of_both also_more own) ≡ frames_of k (also ++ also_more)
    frames_selected k is =
        filter_map-append (frame_of k) given (kept ++ rest)
        ∙ ap (λ (t : List (List ℕ)). frames_of k given ++ t)
        (filter_map-append (frame_of k) kept rest ∙ ap (λ (t : List (List ℕ)). t ++ frames_of k rest) (kept_frames k is also_more)
        ∙ ap (λ (t : List (List ℕ)). frames_of k also_more ++ t) (no_rest_frames k is own) ∙ append-nil (frames_of k also_more))
        ∙ ap (λ (t : List (List ℕ)). t ++ frames_of k also_more) (sym (same.frames k is)) ∙ sym (filter_map-append (frame_of k) also also_more)

    pub frames_unselected : (k : ℕ) → is_selected selected k ≡ false → frames_of k (given ++ of_both also_more own) ≡ frames_of k (given ++ own)
    frames_unselected k is =
        filter_map-append (frame_of k) given (kept ++ rest)
        ∙ ap (λ (t : List (List ℕ)). frames_of k given ++ t)
        (filter_map-append (frame_of k) kept rest ∙ ap (λ (t : List (List ℕ)). t ++ frames_of k rest) (no_kept_frames k is also_more) ∙ rest_frames k is own)
        ∙ sym (filter_map-append (frame_of k) given own)

    pub requests_of_both : (channel : ℕ) → requests_given channel (given ++ of_both also_more own) ≡ requests_given channel (also ++ also_more)
    requests_of_both channel =
        filter_map-append (request_on channel) given (kept ++ rest)
        ∙ ap (λ (t : List Request). requests_given channel given ++ t)
        (filter_map-append (request_on channel) kept rest ∙ ap (λ (t : List Request). t ++ requests_given channel rest) (kept_requests channel also_more)
        ∙ ap (λ (t : List Request). requests_given channel also_more ++ t) (no_rest_requests channel own) ∙ append-nil (requests_given channel also_more))
        ∙ ap (λ (t : List Request). t ++ requests_given channel also_more) (sym (same.requests channel))
        ∙ sym (filter_map-append (request_on channel) also also_more)
