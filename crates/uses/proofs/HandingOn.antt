-- A consumer that hands the frames of one flow on.
use Rattle.std.proofs.Common.{◌≡◌, ℕ, ◌==◌, Bool, true, false, IsTrue, List, [], ◌∷◌, ◌++◌, if◌then◌else◌}
use Rattle.std.proofs.Common.{ap, refl, sym, ◌∙◌, append-nil, append_assoc}
use Rattle.std.proofs.lemmas.List.Elements.{filter_map-append}
use Rattle.std.proofs.lemmas.Bool.{eq-eqb, ne_eqb}
use Rattle.delivery.specs.Feeders.{feeder_ring, offered}
use Rattle.consumer.specs.declared.given.Given.{Given}
use Rattle.consumer.specs.declared.given.Given.TheVariants.{Frame, Asked}
use Rattle.consumer.specs.Given.{frame_of, frames_of}
use Rattle.lane.specs.declared.admitted.Request.{Request}
use Rattle.uses.specs.declared.handed_on.HandsOn.{HandsOn}
use Rattle.uses.specs.HandedOn.{HasHandedOn}

-- a frame that is one of a flow or not
one-frame : (kept : Bool) (k flow : ℕ) (frame : List ℕ) → (flow == k) ≡ kept → frames_of k (Frame flow frame ∷ []) ≡ (if kept then frame ∷ [] else [])
one-frame true k flow frame is = rw is refl
one-frame false k flow frame is = rw is refl

-- what a list of things that were given gives more
frames-more : (k : ℕ) (given more : List Given) → frames_of k (given ++ more) ≡ frames_of k given ++ frames_of k more
frames-more k given more = filter_map-append (frame_of k) given more

module _ {R : Type 0} (start : HandsOn R) (given : List Given) (old : HandsOn R) (has : HasHandedOn start given old) where
  -- what is not of the flow changes nothing
  pub hands-on-nothing : (more : List Given) → frames_of start.flow more ≡ [] → HasHandedOn start (given ++ more) old
  hands-on-nothing more none = record {
    flow = has.flow;
    ring = has.ring;
    was_whole = has.was_whole;
    handed = λ whole.
        has.handed whole
        ∙ ap (λ frames. offered start.feeder ++ frames)
        (sym (frames-more start.flow given more ∙ ap (λ frames. frames_of start.flow given ++ frames) none ∙ append-nil (frames_of start.flow given)));
  }

  pub hands-on-another : (flow : ℕ) (frame : List ℕ) → (flow ≡ old.flow → ⊥) → HasHandedOn start (given ++ Frame flow frame ∷ []) old
  hands-on-another flow frame other =
      hands-on-nothing (Frame flow frame ∷ []) (one-frame false start.flow flow frame (ne_eqb flow start.flow (λ same. other (same ∙ sym has.flow))))

  pub hands-on-request : (request : Request) → HasHandedOn start (given ++ Asked request ∷ []) old
  hands-on-request request = hands-on-nothing (Asked request ∷ []) refl

  -- a frame of the flow is offered, unless it says from now on that something was left out
  pub hands-on-own : (now : HandsOn R) (flow : ℕ) (frame : List ℕ) → flow ≡ old.flow → now.flow ≡ old.flow → feeder_ring now.feeder ≡ feeder_ring old.feeder
      → (IsTrue now.is_whole → IsTrue old.is_whole × (offered now.feeder ≡ offered old.feeder ++ frame ∷ [])) → HasHandedOn start (given ++ Frame flow frame ∷ []) now
  hands-on-own now flow frame own same ring grew = record {
    flow = same ∙ has.flow;
    ring = ring ∙ has.ring;
    was_whole = λ whole. has.was_whole (grew whole).0;
    handed = λ whole.
        (grew whole).1
        ∙ ap (λ frames. frames ++ frame ∷ []) (has.handed (grew whole).0)
        ∙ append_assoc (offered start.feeder) (frames_of start.flow given) (frame ∷ [])
        ∙ ap (λ frames. offered start.feeder ++ frames)
        (sym (frames-more start.flow given (Frame flow frame ∷ [])
        ∙ ap (λ frames. frames_of start.flow given ++ frames) (one-frame true start.flow flow frame (eq-eqb flow start.flow (own ∙ has.flow)))));
  }

-- at first nothing was given
pub hands-on-begins : {R : Type 0} (start : HandsOn R) → HasHandedOn start [] start
hands-on-begins start = record {
  flow = refl;
  ring = refl;
  was_whole = λ whole. whole;
  handed = λ _. sym (append-nil (offered start.feeder));
}

pub ruleset handing = (hands-on-another, hands-on-own, hands-on-request)
