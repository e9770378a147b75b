-- What is offered grows by what is given.
use Rattle.std.proofs.Common.{◌≡◌, ℕ, ◌==◌, ◌<◌, Bool, true, false, IsTrue, Option, Some, None, Result, Ok, Err, OnOk, OnErr, IfOk, IfErr, is_ok, List, [], ◌∷◌, ◌++◌, length, map, filter_map, slice_get, slice_index_or, if◌then◌else◌, refl, ap, sym, subst, ◌∙◌, append_assoc, get_or, arith}
use Rattle.std.proofs.Math.ListN.{set}
use Rattle.std.proofs.lemmas.Bool.{cases_eq, false≢true}
use Rattle.std.proofs.lemmas.Bool.Decides.{nat_tests}
use Rattle.std.specs.Vec.{with_items}
use Rattle.std.proofs.lemmas.List.{with_items_is, append-nil, map-set, length-map, get_or-map, get_or-set_same, get_or-set_other}
use Rattle.std.proofs.lemmas.List.Elements.{filter_map-append}
use Rattle.std.specs.Result.{result_ok}
use Rattle.std.proofs.lemmas.Option.{slice_get_within, get_or_from_slice_get, same_Some}
use Rattle.lane.specs.declared.admitted.Request.{Request}
use Rattle.consumer.specs.declared.given.Given.{Given}
use Rattle.consumer.specs.declared.given.Given.TheVariants.{Frame, Asked}
use Rattle.consumer.specs.Given.{frame_of, frames_of}
use Rattle.delivery.specs.Feeders.{feeder_ring, offered}
use Rattle.delivery.specs.declared.feeder.Feeder.{Feeder}
use Rattle.bonded_flows.specs.declared.flow_slot.DecideFault.{DecideFault}
use Rattle.bonded_flows.specs.declared.flow_slot.DecideFault.TheVariants.{NotTaken, Unfinished}
use Rattle.bonded_flows.specs.declared.flow_table.FlowTable.{FlowTable}
use Rattle.bonded_flows.specs.Slots.{LeavesOf}
use Rattle.bonded_flows.specs.Table.{TableInput, TakesMore}
use Rattle.uplink.specs.declared.feeding.Feeding.{Feeding}
use Rattle.uplink.specs.Fronts.{ComesFirstIn}
use Rattle.uplink.specs.Inside.Feeding.{offered_to, Offers, rings_of, HasOffered}

-- what is offered to a feeder that is there
pub offered-there : (feeders : List Feeder) (k : ℕ) (feeder : Feeder) → slice_get feeders k ≡ Some feeder → offered_to feeders k ≡ offered feeder
offered-there feeders k feeder there =
    get_or-map offered feeders k feeder [] (slice_get_within feeders k feeder there) ∙ ap offered (get_or_from_slice_get feeders k feeder feeder there)

-- what holds of a good result holds where it is good
pub on-good : {T E : Type 0} {P : Type 0} (result : Result T E) → is_ok result ≡ true → OnOk result P → P
on-good (Ok t) is holds = holds
on-good (Err e) is holds = absurd (false≢true is)

-- and so of a bad one
pub on-bad : {T E : Type 0} {P : Type 0} (result : Result T E) → is_ok result ≡ false → OnErr result P → P
on-bad (Ok t) is holds = absurd (false≢true (sym is))
on-bad (Err e) is holds = holds

-- and so it holds of what is there
pub of-good : {T E : Type 0} (P : T → Type 0) (result : Result T E) (t : T) → Some t ≡ result_ok result → IfOk result P → P t
of-good P (Ok x) t is holds = subst P (same_Some x t (sym is)) holds
of-good P (Err e) t is holds = absurd (cc)

-- one frame more is offered to the feeder of this index
pub offers-at : (feeders : List Feeder) (flow : ℕ) (frame : List ℕ) (old new : Feeder) → flow < length feeders → old ≡ get_or feeders flow old
    → offered new ≡ offered old ++ frame ∷ [] → Offers feeders flow frame (set feeders flow new)
offers-at feeders flow frame old new within at more k =
    let there = map-set offered feeders flow new in
    let same = get_or-map offered feeders flow old [] within in
    let frames = ap offered at in
    let long : length (map offered feeders) ≡ length feeders = length-map feeders offered in
    rw there (grind (arith, nat_tests, cases_eq flow k, get_or-set_same, get_or-set_other, append-nil, same, frames, more, long))

-- feeders of the same rings that are written in place of others are those
pub feeders-written : (feeding : Feeding) (after : List Feeder) → map feeder_ring after ≡ rings_of feeding → (with_items feeding.feeders after).items ≡ after
feeders-written feeding after rings =
    let as_long : length after ≡ feeding.feeders.len =
    omega (arith, ap length rings, length-map after feeder_ring, length-map feeding.feeders.items feeder_ring, feeding.feeders.ok.0) in
    with_items_is feeding.feeders after as_long

-- nothing is offered yet
pub none-offered : (feeding : Feeding) → HasOffered feeding [] feeding
none-offered feeding = record {
  rings = refl;
  front = λ k. ([], refl);
  halted = λ not. (not, λ k. refl);
  offers = λ whole. (whole, λ k. sym (append-nil (offered_to feeding.feeders.items k)));
}

-- nothing more is offered to feeders that are flushed
pub only-flushed : (old new : Feeding) → rings_of new ≡ rings_of old → map offered new.feeders.items ≡ map offered old.feeders.items → new.whole ≡ old.whole
    → HasOffered old [] new
only-flushed old new rings same whole = record {
  rings = rings;
  front = λ k. ([], ap (λ lists. slice_index_or lists k [] ++ []) (sym same));
  halted = λ not. ((λ is. not (sym whole ∙ is)), λ k. ap (λ lists. slice_index_or lists k []) same);
  offers = λ is. (sym whole ∙ is, λ k. ap (λ lists. slice_index_or lists k []) same ∙ sym (append-nil (offered_to old.feeders.items k)));
}

-- what is given of a flow in two parts
in-parts : (k : ℕ) (first second : List Given) (before between after : List (List ℕ)) → between ≡ before ++ frames_of k first → after ≡ between ++ frames_of k second
    → after ≡ before ++ frames_of k (first ++ second)
in-parts k first second before between after grew more =
    more ∙ ap (λ l. l ++ frames_of k second) grew ∙ append_assoc before (frames_of k first) (frames_of k second)
    ∙ ap (λ l. before ++ l) (sym (filter_map-append (frame_of k) first second))

-- What is offered of a flow comes first of what is given of it in two parts: if nothing was left
-- out of the first, the second goes on, and otherwise nothing more is offered.
front-on : (start between end : Feeding) (first second : List Given) (k : ℕ) → HasOffered start first between → HasOffered between second end → (whole : Bool) → between.whole ≡ whole
    → ComesFirstIn (offered_to end.feeders.items k) (offered_to start.feeders.items k ++ frames_of k (first ++ second))
front-on start between end first second k one other true is =
    let before = offered_to start.feeders.items k in
    let rest = other.front k in (
      rest.0,
      ap (λ l. before ++ l) (filter_map-append (frame_of k) first second) ∙ sym (append_assoc before (frames_of k first) (frames_of k second))
          ∙ ap (λ l. l ++ frames_of k second) (sym ((one.offers is).1 k)) ∙ rest.1,
    )
front-on start between end first second k one other false is =
    let before = offered_to start.feeders.items k in
    let rest = one.front k in
    let same = (other.halted (λ whole. false≢true (sym is ∙ whole))).1 k in (
      rest.0 ++ frames_of k second,
      ap (λ l. before ++ l) (filter_map-append (frame_of k) first second) ∙ sym (append_assoc before (frames_of k first) (frames_of k second))
          ∙ ap (λ l. l ++ frames_of k second) rest.1 ∙ append_assoc (offered_to between.feeders.items k) rest.0 (frames_of k second)
          ∙ ap (λ l. l ++ (rest.0 ++ frames_of k second)) (sym same),
    )

-- two lists are offered, one after the other
pub offered-on : (start between end : Feeding) (first second : List Given) → HasOffered start first between → HasOffered between second end → HasOffered start (first ++ second) end
offered-on start between end first second one other = record {
  rings = other.rings ∙ one.rings;
  front = λ k. front-on start between end first second k one other between.whole refl;
  halted = λ not.
      let was = one.halted not in
      let now = other.halted was.0 in
      (now.0, λ k. now.1 k ∙ was.1 k);
  offers = λ whole.
      let now = other.offers whole in
      let was = one.offers now.0 in
      (was.0, λ k. in-parts k first second (offered_to start.feeders.items k) (offered_to between.feeders.items k) (offered_to end.feeders.items k) (was.1 k) (now.1 k));
}

-- a frame is given of its flow
one-frame : (own : Bool) (frame : List ℕ) → filter_map (λ (o : Option (List ℕ)). o) ((if own then Some frame else None) ∷ []) ≡ (if own then frame ∷ [] else [])
one-frame true frame = refl
one-frame false frame = refl

-- one frame more
pub frame-offered : (old new : Feeding) (flow : ℕ) (frame : List ℕ) → rings_of new ≡ rings_of old → IsTrue old.whole
    → Offers old.feeders.items flow frame new.feeders.items → HasOffered old (Frame flow frame ∷ []) new
frame-offered old new flow frame rings whole offers =
    let Is : ℕ → Type 0 = λ k. offered_to new.feeders.items k ≡ offered_to old.feeders.items k ++ frames_of k (Frame flow frame ∷ []) in
    let grew : (k : ℕ) → Is k = λ k. offers k ∙ ap (λ l. offered_to old.feeders.items k ++ l) (sym (one-frame (flow == k) frame)) in
    record {
      rings = rings;
      front = λ k. ([], sym (grew k) ∙ sym (append-nil (offered_to new.feeders.items k)));
      halted = λ not. absurd (not whole);
      offers = λ is. (whole, grew);
    }

-- one frame more was given, and it isn't offered
pub frame-dropped : (old new : Feeding) (flow : ℕ) (frame : List ℕ) → rings_of new ≡ rings_of old → new.whole ≡ false
    → map offered new.feeders.items ≡ map offered old.feeders.items → HasOffered old (Frame flow frame ∷ []) new
frame-dropped old new flow frame rings dropped same =
    let kept : (k : ℕ) → offered_to new.feeders.items k ≡ offered_to old.feeders.items k = λ k. ap (λ lists. slice_index_or lists k []) same in
    record {
      rings = rings;
      front = λ k. (frames_of k (Frame flow frame ∷ []), ap (λ l. l ++ frames_of k (Frame flow frame ∷ [])) (sym (kept k)));
      halted = λ not. ((λ is. false≢true (sym dropped ∙ is)), kept);
      offers = λ is. absurd (false≢true (sym dropped ∙ is));
    }

-- a request is offered to no feeder
pub request-offered : (feeding : Feeding) (request : Request) → HasOffered feeding (Asked request ∷ []) feeding
request-offered feeding request = record {
  rings = refl;
  front = λ k. ([], refl);
  halted = λ not. (not, λ k. refl);
  offers = λ whole. (whole, λ k. sym (append-nil (offered_to feeding.feeders.items k)));
}

module _ {C : Type 0} (accepts : C → List ℕ → Bool) (flows flows' : FlowTable C) (feeding feeding' : Feeding) where
  -- whatever the flows take, the rings stay
  pub rings-stay : (k : ℕ) (inputs : List TableInput) → TakesMore HasOffered accepts flows feeding k inputs flows' feeding' → rings_of feeding' ≡ rings_of feeding
  rings-stay k inputs takes = (takes.was_given feeding [] (none-offered feeding)).rings

  -- so they do whatever is answered to a decision
  pub rings-decided : (k : ℕ) (inputs : List TableInput) (result : Result Bool DecideFault)
      → IfOk result (λ _. TakesMore HasOffered accepts flows feeding k inputs flows' feeding')
      → IfErr result (λ fault. LeavesOf fault (TakesMore HasOffered accepts flows feeding k [] flows' feeding')
      (TakesMore HasOffered accepts flows feeding k inputs flows' feeding'))
      → rings_of feeding' ≡ rings_of feeding
  rings-decided k inputs (Ok lost) takes left = rings-stay k inputs takes
  rings-decided k inputs (Err (NotTaken why)) takes left = rings-stay k [] left
  rings-decided k inputs (Err Unfinished) takes left = rings-stay k inputs left
