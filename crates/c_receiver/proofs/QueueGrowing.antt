-- What waits grows by what is given.
use Rattle.std.proofs.Common.{◌≡◌, true, false, T, Option, Result, Ok, Err, is_ok, is_err, if◌then◌else◌, List, [], ◌∷◌, ◌++◌, filter_map, ap, refl, sym, subst, ◌∙◌, append_assoc, ℕ}
use Rattle.std.proofs.lemmas.List.{append-nil}
use Rattle.std.proofs.lemmas.List.Elements.{filter_map-append}
use Rattle.lane.specs.declared.admitted.Request.{Request}
use Rattle.consumer.specs.declared.given.Given.{Given}
use Rattle.consumer.specs.declared.given.Given.TheVariants.{Frame, Asked}
use Rattle.c_receiver.specs.declared.queue.Queue.{Queue}
use Rattle.c_receiver.specs.Queued.{GrewBy, HasQueued, one_kept, one_missed, as_frame, as_request, plain_request}

-- what was pushed is last
pub pushed : {A X E : Type 0} (result : Result X E) (items : List A) (item : A) (after : List A) → is_err result ≡ false
    → after ≡ (if is_ok result then items ++ item ∷ [] else items) → after ≡ items ++ item ∷ []
pushed (Ok x) items item after e is = is
pushed (Err x) items item after e is = absurd (subst T e tt)

-- what wasn't pushed isn't there
pub not-pushed : {A X E : Type 0} (result : Result X E) (items : List A) (item : A) (after : List A) → is_err result ≡ true
    → after ≡ (if is_ok result then items ++ item ∷ [] else items) → after ≡ items
not-pushed (Ok x) items item after e is = absurd (subst T (sym e) tt)
not-pushed (Err x) items item after e is = is

-- what is given more is kept at the end
at-the-end : {A : Type 0} (f : Given → Option A) (given more : List Given) (before now after one : List A)
    → now ≡ before ++ filter_map f given → after ≡ now ++ one → filter_map f more ≡ one
    → after ≡ before ++ filter_map f (given ++ more)
at-the-end f given more before now after one grew appended is =
    appended
    ∙ ap (λ list. list ++ one) grew
    ∙ append_assoc before (filter_map f given) one
    ∙ ap (λ list. before ++ (filter_map f given ++ list)) (sym is)
    ∙ ap (λ list. before ++ list) (sym (filter_map-append f given more))

-- a frame more
pub grew-by-frame : (start now end : Queue) (given : List Given) (flow : ℕ) (frame : List ℕ)
    → GrewBy start given now → end.frames.items ≡ now.frames.items ++ record { flow = flow; frame = frame } ∷ [] → end.requests.items ≡ now.requests.items
    → GrewBy start (given ++ Frame flow frame ∷ []) end
grew-by-frame start now end given flow frame grew is same = record {
  frames = at-the-end as_frame given (Frame flow frame ∷ []) _ _ _ _ grew.frames is refl;
  requests = at-the-end as_request given (Frame flow frame ∷ []) _ _ _ [] grew.requests (same ∙ sym (append-nil _)) refl;
}

-- a request more
pub grew-by-request : (start now end : Queue) (given : List Given) (request : Request)
    → GrewBy start given now → end.requests.items ≡ now.requests.items ++ plain_request request ∷ [] → end.frames.items ≡ now.frames.items
    → GrewBy start (given ++ Asked request ∷ []) end
grew-by-request start now end given request grew is same = record {
  frames = at-the-end as_frame given (Asked request ∷ []) _ _ _ [] grew.frames (same ∙ sym (append-nil _)) refl;
  requests = at-the-end as_request given (Asked request ∷ []) _ _ _ _ grew.requests is refl;
}

-- one more is kept, or missed
pub queued-one : (start now end : Queue) (given : List Given) (one : Given) → HasQueued start given now
    → ((kept : List Given) → GrewBy start kept now → GrewBy start (kept ++ one ∷ []) end) → end.whole ≡ now.whole → HasQueued start (given ++ one ∷ []) end
queued-one start now end given one has grows same = record {
  kept = has.kept ++ one ∷ [];
  some = one_kept one has.some;
  grew = grows has.kept has.grew;
  all = λ whole. let before = has.all (sym same ∙ whole) in (before.0, ap (λ list. list ++ one ∷ []) before.1);
}

pub missed-one : (start now end : Queue) (given : List Given) (one : Given) → HasQueued start given now
    → end.frames.items ≡ now.frames.items → end.requests.items ≡ now.requests.items → end.whole ≡ false → HasQueued start (given ++ one ∷ []) end
missed-one start now end given one has frames requests missing = record {
  kept = has.kept;
  some = one_missed one has.some;
  grew = record { frames = frames ∙ has.grew.frames; requests = requests ∙ has.grew.requests };
  all = λ whole. absurd (subst T (sym (sym missing ∙ whole)) tt);
}
