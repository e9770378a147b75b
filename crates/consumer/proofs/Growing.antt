-- What is kept grows by what is given.
use Rattle.std.proofs.Common.{◌≡◌, ℕ, ◌==◌, Bool, true, false, Option, Some, None, List, [], ◌∷◌, ◌++◌, filter_map, if◌then◌else◌, Vec, Global}
use Rattle.std.proofs.Common.{ap, refl, sym, ◌∙◌, append_assoc}
use Rattle.std.proofs.lemmas.List.{append-nil}
use Rattle.std.proofs.lemmas.List.Elements.{filter_map-append}
use Rattle.lane.specs.declared.admitted.Request.{Request}
use Rattle.consumer.specs.declared.given.Given.{Given}
use Rattle.consumer.specs.declared.given.Given.TheVariants.{Frame, Asked}
use Rattle.consumer.specs.declared.collected.Collected.{Collected}
use Rattle.consumer.specs.Given.{frame_of, request_on}
use Rattle.consumer.specs.Collecting.{Appends, GrewBy}

-- an item that is passed on or not is a list of one item or of none
one-kept : {A : Type 0} (kept : Bool) (item : A) → filter_map (λ x. x) ((if kept then Some item else None) ∷ []) ≡ (if kept then item ∷ [] else [])
one-kept true item = refl
one-kept false item = refl

-- what is given more is kept at the end
at-the-end : {A : Type 0} (f : Given → Option A) (given more : List Given) (before now after one : List A)
    → now ≡ before ++ filter_map f given → after ≡ now ++ one → filter_map f more ≡ one
    → after ≡ before ++ filter_map f (given ++ more)
at-the-end f given more before now after one grew appended is =
    appended
    ∙ ap (λ list. list ++ one) grew
    ∙ append_assoc before (filter_map f given) one
    ∙ ap (λ list. before ++ (filter_map f given ++ list)) (sym is)
    ∙ ap (λ list. before ++ list) (sym (filter_map-append f given more))

-- a frame more
pub grew-by-frame : (start now : Collected) (given : List Given) (flow : ℕ) (frame : List ℕ) (frames : Vec (Vec (List ℕ) Global) Global)
    → GrewBy start given now → Appends now.frames.items flow frame frames.items
    → GrewBy start (given ++ Frame flow frame ∷ []) (record { frames = frames; requests = now.requests; whole = now.whole })
grew-by-frame start now given flow frame frames grew appends = record {
  flow_count = appends.many ∙ grew.flow_count;
  channel_count = grew.channel_count;
  frames = λ k. at-the-end (frame_of k) given (Frame flow frame ∷ []) _ _ _ _ (grew.frames k) (appends.appended k) (one-kept (flow == k) frame);
  requests = λ channel. at-the-end (request_on channel) given (Frame flow frame ∷ []) _ _ _ [] (grew.requests channel) (sym (append-nil _)) refl;
}

-- a request more
pub grew-by-request : (start now : Collected) (given : List Given) (request : Request) (requests : Vec (Vec Request Global) Global)
    → GrewBy start given now → Appends now.requests.items request.channel request requests.items
    → GrewBy start (given ++ Asked request ∷ []) (record { frames = now.frames; requests = requests; whole = now.whole })
grew-by-request start now given request requests grew appends = record {
  flow_count = grew.flow_count;
  channel_count = appends.many ∙ grew.channel_count;
  frames = λ k. at-the-end (frame_of k) given (Asked request ∷ []) _ _ _ [] (grew.frames k) (sym (append-nil _)) refl;
  requests = λ channel. at-the-end (request_on channel) given (Asked request ∷ []) _ _ _ _ (grew.requests channel) (appends.appended channel) (one-kept (request.channel == channel) request);
}

-- two lists, one after the other
pub grew-twice : (start middle end : Collected) (given more : List Given) → GrewBy start given middle → GrewBy middle more end → GrewBy start (given ++ more) end
grew-twice start middle end given more first second = record {
  flow_count = second.flow_count ∙ first.flow_count;
  channel_count = second.channel_count ∙ first.channel_count;
  frames = λ k. at-the-end (frame_of k) given more _ _ _ _ (first.frames k) (second.frames k) refl;
  requests = λ channel. at-the-end (request_on channel) given more _ _ _ _ (first.requests channel) (second.requests channel) refl;
}
