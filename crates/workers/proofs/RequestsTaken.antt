-- What the worker of requests takes is given to the scheduler.
use Rattle.std.proofs.Common.{◌≡◌, ℕ, ◌<◌, ◌==◌, Bool, true, false, Some, None, List, [], ◌∷◌, ◌++◌, filter_map, if◌then◌else◌, refl, ap, sym, subst, ◌∙◌, append_assoc, append-nil}
use Rattle.std.proofs.lemmas.List.{map-append}
use Rattle.std.proofs.lemmas.List.Elements.{All-nil, All-push, filter_map-append}
use Rattle.mailbox.specs.Mouths.{places, taken}
use Rattle.mailbox.specs.declared.mouth.Mouth.{Mouth}
use Rattle.lane.specs.declared.admitted.Request.{Request}
use Rattle.lane.specs.Limits.{senders}
use Rattle.consumer.specs.declared.given.Given.{Given}
use Rattle.consumer.specs.declared.given.Given.TheVariants.{Asked}
use Rattle.workers.specs.Given.{BecameBy}
use Rattle.workers.specs.Inside.Scheduling.{Sent, request_from, requests_from, given_of, HasScheduled}
use Rattle.workers.proofs.GivenInParts.{given-nothing, given-on}

-- a request that came from one sender is one of that sender's
one-more : (own : Bool) (before : List Request) (request : Request)
    → (if own then before ++ request ∷ [] else before) ≡ before ++ filter_map (λ o. o) ((if own then Some request else None) ∷ [])
one-more true before request = refl
one-more false before request = sym (append-nil before)

module _ {Q : Type 0} (asks : Q → List Given → Q → Type 0) where
  -- nothing was taken
  pub none-scheduled : (mouth : Mouth Request) (scheduler : Q) → HasScheduled asks mouth scheduler mouth scheduler
  none-scheduled mouth scheduler = record {
    all = [];
    became = given-nothing asks scheduler;
    has = record {
      places_are = refl;
      named = All-nil (λ (sent : Sent). sent.from < senders);
      taken_are = λ sender. sym (append-nil (taken mouth sender));
    };
  }

  module _ (first old new : Mouth Request) (scheduler before : Q) (so_far : HasScheduled asks first scheduler old before) (same : places new ≡ places old) where
    -- one request was taken, and given
    pub one-scheduled : (from : ℕ) (request : Request) (after : Q) → from < senders
        → ((sender : ℕ) → taken new sender ≡ (if sender == from then taken old sender ++ request ∷ [] else taken old sender))
        → BecameBy asks before (Asked request ∷ []) after → HasScheduled asks first scheduler new after
    one-scheduled from request after named takes became =
        let sent : Sent = record { from = from; request = request } in
        record {
          all = so_far.all ++ sent ∷ [];
          became =
              subst (λ given. BecameBy asks scheduler given after) (sym (map-append (λ (s : Sent). Asked s.request) so_far.all (sent ∷ [])))
              (given-on asks scheduler before after (given_of so_far.all) (Asked request ∷ []) so_far.became became);
          has = record {
            places_are = same ∙ so_far.has.places_are;
            named = All-push (λ (s : Sent). s.from < senders) so_far.all sent so_far.has.named named;
            taken_are = λ sender.
                takes sender ∙ one-more (sender == from) (taken old sender) request
                ∙ ap (λ l. l ++ requests_from sender (sent ∷ [])) (so_far.has.taken_are sender)
                ∙ append_assoc (taken first sender) (requests_from sender so_far.all) (requests_from sender (sent ∷ []))
                ∙ ap (λ l. taken first sender ++ l) (sym (filter_map-append (request_from sender) so_far.all (sent ∷ [])));
          };
        }

    -- nothing more was taken
    pub same-scheduled : ((sender : ℕ) → taken new sender ≡ taken old sender) → HasScheduled asks first scheduler new before
    same-scheduled stays = record {
      all = so_far.all;
      became = so_far.became;
      has = record {
        places_are = same ∙ so_far.has.places_are;
        named = so_far.has.named;
        taken_are = λ sender. stays sender ∙ so_far.has.taken_are sender;
      };
    }
