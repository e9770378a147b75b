-- What the worker of frames takes is given to the consumer.
use Rattle.std.proofs.Common.{◌≡◌, ℕ, ◌<◌, ◌==◌, Bool, true, false, Some, None, List, [], ◌∷◌, ◌++◌, length, map, if◌then◌else◌, Vec, Global, get_or, arith, refl, ap, sym, subst, ◌∙◌, append_assoc, append-nil}
use Rattle.std.specs.List.{cons_option}
use Rattle.std.specs.Vec.{with_items}
use Rattle.std.proofs.Math.ListN.{set}
use Rattle.std.proofs.Math.Seq.{map-set_same}
use Rattle.std.proofs.lemmas.Bool.{cases_eq}
use Rattle.std.proofs.lemmas.Bool.Decides.{nat_tests}
use Rattle.std.proofs.lemmas.List.{map-set, length-map, get_or-map, get_or-set_same, get_or-set_other, with_items_is}
use Rattle.std.proofs.lemmas.List.Elements.{filter_map-append}
use Rattle.delivery.specs.Takers.{taker_ring, taken}
use Rattle.delivery.specs.declared.taker.Taker.{Taker}
use Rattle.consumer.specs.declared.given.Given.{Given}
use Rattle.consumer.specs.declared.given.Given.TheVariants.{Frame}
use Rattle.consumer.specs.Given.{frame_of, frames_of, request_on, requests_given}
use Rattle.workers.specs.Inside.Consuming.{taken_of, HaveTaken, FeedsOne, HasFed}
use Rattle.workers.proofs.GivenInParts.{given-nothing, given-on}

-- of frames of one flow, those of a flow are all or none
all-or-none : (flow k : ℕ) (own : Bool) → (flow == k) ≡ own → (frames : List (List ℕ)) → frames_of k (map (Frame flow) frames) ≡ (if own then frames else [])
all-or-none flow k true is [] = refl
all-or-none flow k false is [] = refl
all-or-none flow k true is (frame ∷ frames) =
    ap (λ b. cons_option (if b then Some frame else None) (frames_of k (map (Frame flow) frames))) is
    ∙ ap (λ (l : List (List ℕ)). frame ∷ l) (all-or-none flow k true is frames)
all-or-none flow k false is (frame ∷ frames) =
    ap (λ b. cons_option (if b then Some frame else None) (frames_of k (map (Frame flow) frames))) is
    ∙ all-or-none flow k false is frames

frames-of-flow : (flow k : ℕ) (frames : List (List ℕ)) → frames_of k (map (Frame flow) frames) ≡ (if flow == k then frames else [])
frames-of-flow flow k frames = all-or-none flow k (flow == k) refl frames

-- and no request
no-request : (channel flow : ℕ) (frames : List (List ℕ)) → requests_given channel (map (Frame flow) frames) ≡ []
no-request channel flow [] = refl
no-request channel flow (frame ∷ frames) = no-request channel flow frames

-- nothing was taken
none-taken : (takers : List Taker) → HaveTaken takers [] takers
none-taken takers = record { rings_are = refl; taken_are = λ k. sym (append-nil (taken_of takers k)); only_frames = λ channel. refl }

-- frames were taken, and then others
taken-on : (takers between takers' : List Taker) (first second : List Given) → HaveTaken takers first between → HaveTaken between second takers'
    → HaveTaken takers (first ++ second) takers'
taken-on takers between takers' first second one other = record {
  rings_are = other.rings_are ∙ one.rings_are;
  taken_are = λ k.
      other.taken_are k ∙ ap (λ l. l ++ frames_of k second) (one.taken_are k)
      ∙ append_assoc (taken_of takers k) (frames_of k first) (frames_of k second)
      ∙ ap (λ l. taken_of takers k ++ l) (sym (filter_map-append (frame_of k) first second));
  only_frames = λ channel.
      filter_map-append (request_on channel) first second ∙ ap (λ l. l ++ requests_given channel second) (one.only_frames channel) ∙ other.only_frames channel;
}

-- frames were taken by one of the takers
taken-by-one : (takers : List Taker) (flow : ℕ) (old new : Taker) (frames : List (List ℕ)) → flow < length takers → old ≡ get_or takers flow old
    → taker_ring new ≡ taker_ring old → taken new ≡ taken old ++ frames → HaveTaken takers (map (Frame flow) frames) (set takers flow new)
taken-by-one takers flow old new frames within at ring took = record {
  rings_are = map-set_same taker_ring takers flow new old (ring ∙ ap taker_ring at);
  taken_are = λ k.
      let there = map-set taken takers flow new in
      let same = get_or-map taken takers flow old [] within in
      let items = ap taken at in
      let of_flow = frames-of-flow flow k frames in
      let long : length (map taken takers) ≡ length takers = length-map takers taken in
      rw there (grind (arith, nat_tests, cases_eq flow k, get_or-set_same, get_or-set_other, append-nil, same, items, took, of_flow, long));
  only_frames = λ channel. no-request channel flow frames;
}

module _ {F : Type 0} (after : F → List Given → F → Type 0) where
  -- nothing was given
  pub none-fed : (takers : List Taker) (consumer : F) → HasFed after takers consumer takers consumer
  none-fed takers consumer = record { given = []; became = given-nothing after consumer; have = none-taken takers }

  -- something was given, and then something else
  pub fed-on : (takers between takers' : List Taker) (consumer middle consumer' : F) → HasFed after takers consumer between middle
      → HasFed after between middle takers' consumer' → HasFed after takers consumer takers' consumer'
  fed-on takers between takers' consumer middle consumer' one other = record {
    given = one.given ++ other.given;
    became = given-on after consumer middle consumer' one.given other.given one.became other.became;
    have = taken-on takers between takers' one.given other.given one.have other.have;
  }

  -- what one taker took was given
  pub fed-by-one : (takers : List Taker) (flow : ℕ) (old new : Taker) (consumer consumer' : F) → flow < length takers → old ≡ get_or takers flow old
      → FeedsOne after flow old consumer new consumer' → HasFed after takers consumer (set takers flow new) consumer'
  fed-by-one takers flow old new consumer consumer' within at feeds = record {
    given = map (Frame flow) feeds.frames;
    became = feeds.became;
    have = taken-by-one takers flow old new feeds.frames within at feeds.ring_is feeds.taken_is;
  }

  -- the takers are written back
  pub fed-written : (first : List Taker) (all : Vec Taker Global) (seen now : List Taker) (consumer middle consumer' : F) → seen ≡ all.items
      → HasFed after first consumer all.items middle → HasFed after seen middle now consumer'
      → HasFed after first consumer (with_items all now).items consumer'
  fed-written first all seen now consumer middle consumer' is one other =
      let as_long : length now ≡ all.len =
      omega (arith, ap length other.have.rings_are, length-map now taker_ring, length-map seen taker_ring, ap length is, all.ok.0) in
      subst (λ takers. HasFed after first consumer takers consumer') (sym (with_items_is all now as_long))
      (fed-on first all.items now consumer middle consumer' one (subst (λ takers. HasFed after takers middle now consumer') is other))
