-- What is handed in in the place of something else: an input that stands in for another.
use Rattle.std.proofs.Common.{◌≡◌, ◌≢◌, ℕ, ◌==◌, ◌⊎◌, inl, inr, Bool, true, false, Option, Some, None, Ok, Err, List, [], ◌∷◌, ◌++◌, get_or, refl, sym, ap, subst, ◌∙◌, ne_eqb}
use Rattle.std.specs.Prelude.{if◌then◌else◌}
use Rattle.std.specs.List.{AllZip, cons_option}
use Rattle.std.specs.Option.{option_map}
use Rattle.std.proofs.lemmas.Bool.{cases_eq}
use Rattle.docsis_wire.specs.declared.segment.Segment.{Segment}
use Rattle.lane.specs.declared.admitted.Admitted.{Admitted}
use Rattle.lane.specs.declared.input.Input.{Input}
use Rattle.lane.specs.declared.input.Input.TheVariants.{Grant, Burst}
use Rattle.lane.specs.declared.refusal.Refusal.{Refusal}
use Rattle.lane.specs.declared.refusal.Refusal.TheVariants as refusal
use Rattle.lane.specs.Inputs.{Answer, AnsweredInput}
use Rattle.lane.specs.Report.{admitted_by, refused_by, refusal_number}
use Rattle.loss_rule.specs.Rule.{on_channel}
use Rattle.bonded_flows.specs.Parts.{FlowInput, comes}
use Rattle.bonded_flows.specs.Table.{TableInput, inputs_at}
use Rattle.receiver.specs.declared.reply.Reply.{Reply}
use Rattle.receiver.specs.declared.reply.Reply.TheVariants as reply
use Rattle.receiver.specs.Elsewhere.{LooksLike}
use Rattle.receiver.specs.HandedIn.{HandedIn, came, decided, restarted, answered_on, arrives_on, flow_input_of, flow_inputs}
use Rattle.receiver.specs.Receiving.{Says}
use Rattle.texts.specs.Happening.{name_of_input}
use Rattle.texts.specs.Happened.{flow_admitted}
use Rattle.answers.specs.Beside.{AreAdmittedFor, AnswersInPlaceOf, InPlace}

-- ---- pairs

-- the last of each of two lists
pub zip_pop : {X Y : Type 0} (R : X → Y → Type 0) (xs : List X) (ys : List Y) (x : X) (y : Y) → AllZip R (xs ++ x ∷ []) (ys ++ y ∷ []) → AllZip R xs ys × R x y
zip_pop R [] [] x y all = (tt, all.0)
zip_pop R [] (b ∷ []) x y all = absurd all.1
zip_pop R [] (b ∷ c ∷ ys) x y all = absurd all.1
zip_pop R (a ∷ []) [] x y all = absurd all.1
zip_pop R (a ∷ b ∷ xs) [] x y all = absurd all.1
zip_pop R (a ∷ xs) (b ∷ ys) x y all = let rest = zip_pop R xs ys x y all.1 in ((all.0, rest.0), rest.1)

-- no list ends with another where one is empty
pub none_zipped : {X Y : Type 0} (R : X → Y → Type 0) (ys : List Y) (y : Y) → AllZip R [] (ys ++ y ∷ []) → ⊥
none_zipped R [] y all = all
none_zipped R (b ∷ ys) y all = all

pub some_zipped : {X Y : Type 0} (R : X → Y → Type 0) (xs : List X) (x : X) → AllZip R (xs ++ x ∷ []) [] → ⊥
some_zipped R [] x all = all
some_zipped R (a ∷ xs) x all = all

-- ---- refusals

-- the refusal of this number
abbrev refusal_at : ℕ → Refusal
refusal_at number =
    get_or
    (
    refusal.GrantRange ∷ refusal.GrantRange ∷ refusal.GrantKnown ∷ refusal.UnknownSid ∷ refusal.TooManyGrants ∷ refusal.GrantOutOfMemory ∷ refusal.NoGrant
    ∷ refusal.TooLong ∷ refusal.BadCheck ∷ refusal.TooShort ∷ refusal.PointerPast ∷ refusal.BurstOutOfMemory ∷ []
    )
    number refusal.GrantRange

-- each has its own number
refusal_at-number : (why : Refusal) → refusal_at (refusal_number why) ≡ why
refusal_at-number refusal.GrantRange = refl
refusal_at-number refusal.GrantKnown = refl
refusal_at-number refusal.UnknownSid = refl
refusal_at-number refusal.TooManyGrants = refl
refusal_at-number refusal.GrantOutOfMemory = refl
refusal_at-number refusal.NoGrant = refl
refusal_at-number refusal.TooLong = refl
refusal_at-number refusal.BadCheck = refl
refusal_at-number refusal.TooShort = refl
refusal_at-number refusal.PointerPast = refl
refusal_at-number refusal.BurstOutOfMemory = refl

same_refusal : (why other : Refusal) → Some (refusal_number why) ≡ Some (refusal_number other) → why ≡ other
same_refusal why other same =
    let numbers : refusal_number why ≡ refusal_number other = cc in
    sym (refusal_at-number why) ∙ ap refusal_at numbers ∙ refusal_at-number other

-- ---- names

pub same_name : (channel : ℕ) (input other : Input) → LooksLike input other → name_of_input channel other ≡ name_of_input channel input
same_name channel (Grant number sid bytes) other looks = ap (name_of_input channel) looks
same_name channel (Burst number hcs_ok bytes) (Grant n sid size) looks = absurd looks
same_name channel (Burst number hcs_ok bytes) (Burst n also more) looks = ap (λ (m : ℕ). name_of_input channel (Burst m hcs_ok bytes)) looks.0

module _ (chosen : ℕ → Bool) where
  -- ---- answers in place of others

  -- what is told of one answer is of the same flow as what is told of the other
  says_flow : (one : Reply) (answer : Answer) → Says one answer → flow_admitted one ≡ option_map (λ (a : Admitted). a.flow) (admitted_by answer)
  says_flow reply.Granted answer says = ap (λ (a : Answer). option_map (λ (x : Admitted). x.flow) (admitted_by a)) (sym says)
  says_flow (reply.Refused why) answer says = ap (λ (a : Answer). option_map (λ (x : Admitted). x.flow) (admitted_by a)) (sym says)
  says_flow (reply.Admitted flow sequence told) answer says =
      ap Some says.2 ∙ ap (λ (a : Answer). option_map (λ (x : Admitted). x.flow) (admitted_by a)) (sym says.1)

  -- it is of the flow of what is admitted
  flow_same : (one other : Option Admitted) → AreAdmittedFor chosen one other
      → option_map (λ (a : Admitted). a.flow) other ≡ option_map (λ (a : Admitted). a.flow) one
  flow_same None None are = refl
  flow_same None (Some other) are = absurd are
  flow_same (Some one) None are = absurd are
  flow_same (Some one) (Some other) are = ap Some are.flow

  -- and so is what is replied
  pub replies_same : (one other : AnsweredInput) (first second : Reply) → AnswersInPlaceOf chosen one other → Says first one.answer → Says second other.answer
      → flow_admitted second ≡ flow_admitted first
  replies_same one other first second answers says also =
      says_flow second other.answer also ∙ flow_same (admitted_by one.answer) (admitted_by other.answer) answers.admitted ∙ sym (says_flow first one.answer says)

  -- an answer that admits nothing is the same
  pub granted_too : (answer : Answer) → AreAdmittedFor chosen (admitted_by answer) None → None ≡ refused_by answer → answer ≡ Ok None
  granted_too (Ok None) are refused = refl
  granted_too (Ok (Some admitted)) are refused = absurd are
  granted_too (Err why) are refused = absurd cc

  -- a refusal is the same
  pub refused_too : (answer : Answer) (why : Refusal) → AreAdmittedFor chosen (admitted_by answer) None → Some (refusal_number why) ≡ refused_by answer → answer ≡ Err why
  refused_too (Ok None) why are refused = absurd cc
  refused_too (Ok (Some admitted)) why are refused = absurd are
  refused_too (Err other) why are refused = ap (λ (r : Refusal). Err r) (same_refusal other why (sym refused))

  -- and what is admitted is of the same flow, with the same segment if that is selected
  pub admitted_too : (answer : Answer) (other : Admitted) → AreAdmittedFor chosen (admitted_by answer) (Some other)
      → (admitted : Admitted) × (answer ≡ Ok (Some admitted)) × (other.flow ≡ admitted.flow) × (chosen admitted.flow ≡ true → other.segment ≡ admitted.segment)
  admitted_too (Ok None) other are = absurd are
  admitted_too (Ok (Some admitted)) other are = (admitted, refl, are.flow, are.segment)
  admitted_too (Err why) other are = absurd are

  -- ---- one thing in place of another

  -- one input more, on this channel or on another
  zip_if : (own : Bool) (one other : AnsweredInput) (ones others : List AnsweredInput) → AnswersInPlaceOf chosen one other → AllZip (AnswersInPlaceOf chosen) ones others
      → AllZip (AnswersInPlaceOf chosen) (cons_option (if own then Some one else None) ones) (cons_option (if own then Some other else None) others)
  zip_if true one other ones others here rest = (here, rest)
  zip_if false one other ones others here rest = rest

  -- on each channel came inputs in place of others
  pub answers_for : (handed others : List HandedIn) → AllZip (InPlace chosen) handed others → (on : ℕ) → AllZip (AnswersInPlaceOf chosen) (answered_on on handed) (answered_on on others)
  answers_for [] [] all on = tt
  answers_for [] (other ∷ others) all on = absurd all
  answers_for (one ∷ handed) [] all on = absurd all
  answers_for (came channel one ∷ handed) (came place other ∷ others) all on =
      subst (λ (n : ℕ). AllZip (AnswersInPlaceOf chosen) (answered_on on (came channel one ∷ handed)) (answered_on on (came n other ∷ others))) (sym all.0.channel_is)
      (zip_if (channel == on) one other (answered_on on handed) (answered_on on others) all.0.answers (answers_for handed others all.1 on))
  answers_for (came channel one ∷ handed) (decided flow decision ∷ others) all on = absurd all.0
  answers_for (came channel one ∷ handed) (restarted flow first ∷ others) all on = absurd all.0
  answers_for (decided flow decision ∷ handed) (other ∷ others) all on =
      subst (λ (o : HandedIn). AllZip (AnswersInPlaceOf chosen) (answered_on on handed) (answered_on on (o ∷ others))) (sym all.0) (answers_for handed others all.1 on)
  answers_for (restarted flow first ∷ handed) (other ∷ others) all on = absurd all.0

  module _ (k : ℕ) (is : chosen k ≡ true) where
    -- what is admitted of a selected flow is the same
    abbrev segment_to : ℕ → ℕ → Segment → Option FlowInput
    segment_to channel flow segment = if flow == k then Some (comes (on_channel channel segment)) else None

    arrives_same : (channel : ℕ) (one other : Admitted) → other.flow ≡ one.flow → (chosen one.flow ≡ true → other.segment ≡ one.segment)
        → segment_to channel other.flow other.segment ≡ segment_to channel one.flow one.segment
    arrives_same channel one other flow segment = ap (λ (f : ℕ). segment_to channel f other.segment) flow ∙ of_one (cases_eq one.flow k) where
      of_one : (one.flow ≡ k) ⊎ (one.flow ≢ k) → segment_to channel one.flow other.segment ≡ segment_to channel one.flow one.segment
      of_one (inl here) = ap (λ (s : Segment). segment_to channel one.flow s) (segment (ap chosen here ∙ is))
      of_one (inr apart) =
          ap (λ (b : Bool). if b then Some (comes (on_channel channel other.segment)) else None) (ne_eqb one.flow k apart)
          ∙ sym (ap (λ (b : Bool). if b then Some (comes (on_channel channel one.segment)) else None) (ne_eqb one.flow k apart))

    admitted_same_input : (channel : ℕ) (one other : Option Admitted) → AreAdmittedFor chosen one other → (xs ys : List TableInput) → inputs_at k ys ≡ inputs_at k xs
        → inputs_at k (cons_option (option_map (arrives_on channel) other) ys) ≡ inputs_at k (cons_option (option_map (arrives_on channel) one) xs)
    admitted_same_input channel None None are xs ys same = same
    admitted_same_input channel None (Some other) are xs ys same = absurd are
    admitted_same_input channel (Some one) None are xs ys same = absurd are
    admitted_same_input channel (Some one) (Some other) are xs ys same =
        ap (λ (o : Option FlowInput). cons_option o (inputs_at k ys)) (arrives_same channel one other are.flow are.segment)
        ∙ ap (λ (t : List FlowInput). cons_option (segment_to channel one.flow one.segment) t) same

    -- the same comes behind the same
    same_behind : (one : Option TableInput) (xs ys : List TableInput) → inputs_at k ys ≡ inputs_at k xs → inputs_at k (cons_option one ys) ≡ inputs_at k (cons_option one xs)
    same_behind None xs ys same = same
    same_behind (Some one) xs ys same = ap (λ (t : List FlowInput). cons_option (if one.flow == k then Some one.input else None) t) same

    -- and so is all that comes to it
    pub inputs_for : (n : ℕ) (handed others : List HandedIn) → AllZip (InPlace chosen) handed others → inputs_at k (flow_inputs n others) ≡ inputs_at k (flow_inputs n handed)
    inputs_for n [] [] all = refl
    inputs_for n [] (other ∷ others) all = absurd all
    inputs_for n (one ∷ handed) [] all = absurd all
    inputs_for n (came channel one ∷ handed) (came place other ∷ others) all =
        ap (λ (c : ℕ). inputs_at k (flow_inputs n (came c other ∷ others))) all.0.channel_is
        ∙ admitted_same_input channel (admitted_by one.answer) (admitted_by other.answer) all.0.answers.admitted (flow_inputs n handed) (flow_inputs n others)
        (inputs_for n handed others all.1)
    inputs_for n (came channel one ∷ handed) (decided flow decision ∷ others) all = absurd all.0
    inputs_for n (came channel one ∷ handed) (restarted flow first ∷ others) all = absurd all.0
    inputs_for n (decided flow decision ∷ handed) (other ∷ others) all =
        ap (λ (o : HandedIn). inputs_at k (flow_inputs n (o ∷ others))) all.0
        ∙ same_behind (flow_input_of n (decided flow decision)) (flow_inputs n handed) (flow_inputs n others) (inputs_for n handed others all.1)
    inputs_for n (restarted flow first ∷ handed) (other ∷ others) all = absurd all.0
