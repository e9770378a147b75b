-- A burst is handed on.
use Rattle.std.proofs.Common.{◌≡◌, ℕ, Bool, Option, Some, None, is_some, List, [], ◌∷◌, ◌++◌, refl, ap, sym, subst, ◌∙◌, append_assoc, append-nil}
use Rattle.std.specs.Prelude.{IfSome, IfNone, OnSome}
use Rattle.bonded_flows.specs.Table.{TableSetup}
use Rattle.captured_flows.specs.Acts.{Act}
use Rattle.capture_rules.specs.declared.held_time.HeldTime.{HeldTime}
use Rattle.capture_rules.specs.declared.beginning.Begun.{Begun}
use Rattle.capture_rules.specs.Begin.{BeginningView, IsEnded, is_over, is_silent, after_end, after_hand_on, to_hand_in}
use Rattle.captured_flows.specs.declared.sound_burst.SoundBurst.{SoundBurst}
use Rattle.captured_flows.specs.Flow.{Next, Expects, EndsIf, goes_on_beginning, ends, BeginsIf, LetsGoIf, HandsInIf, IsHandedOn, AreHandedOn, no_more, next_one}
use Rattle.captured_flows.proofs.Taken.{Then}

-- a beginning that ends or doesn't
pub ends-if : (is_to_end : Bool) (old new : BeginningView SoundBurst) (begun : Option (Begun SoundBurst)) → is_some begun ≡ is_to_end → IfSome begun (IsEnded old)
    → OnSome begun (new ≡ after_end old) → IfNone begun (new ≡ old) → EndsIf is_to_end old begun new
ends-if is_to_end old new (Some begun) some ended after unchanged =
    subst (λ (n : BeginningView SoundBurst). EndsIf is_to_end old (Some begun) n) (sym after) (ends begun (sym some) ended)
ends-if is_to_end old new None some ended after unchanged =
    subst (λ (n : BeginningView SoundBurst). EndsIf is_to_end old None n) (sym unchanged) (goes_on_beginning (sym some))

module _ (made : TableSetup) (wait k window : ℕ) (one : Next) where
  pub handed_on-is : (beginning ended beginning' : BeginningView SoundBurst) (held after_ending between held' : List HeldTime) (begun : Option (Begun SoundBurst)) (handed more : List Act) (expected : ℕ)
      → EndsIf (is_over beginning.kept one.time) beginning begun ended
      → Then (Then (λ m h l. BeginsIf m wait k held h begun l after_ending) (λ m h l. LetsGoIf m wait k (is_silent ended one.time) one.time after_ending h l between))
      (λ m h l. Expects m k h expected × HandsInIf m wait k between h (to_hand_in ended expected window one) l held') made handed more
      → beginning' ≡ after_hand_on ended expected window one
      → IsHandedOn made wait k window one beginning held handed more beginning' held'
  handed_on-is beginning ended beginning' held after_ending between held' begun handed more expected ends_if (before, last, (ending, let_go, begins_if, lets_go_if, before_is), (expects, hands_in), all) beginning_is =
      let there : handed ++ before ≡ (handed ++ ending) ++ let_go = ap (λ (b : List Act). handed ++ b) before_is ∙ sym (append_assoc handed ending let_go) in
      record {
        begun = begun;
        ended = ended;
        ends = ends_if;
        ending = ending;
        after_ending = after_ending;
        begins_if = begins_if;
        between = between;
        let_go = let_go;
        lets_go_if = lets_go_if;
        expected = expected;
        expects = subst (λ (h : List Act). Expects made k h expected) there expects;
        last = last;
        hands_in = subst (λ (h : List Act). HandsInIf made wait k between h (to_hand_in ended expected window one) last held') there hands_in;
        beginning_is = beginning_is;
        all = all ∙ ap (λ (b : List Act). b ++ last) before_is;
      }

-- bursts that are handed on one after another
module _ (made : TableSetup) (wait k window : ℕ) where
  -- none is, and nothing is handed in
  pub none-handed_on : (beginning : BeginningView SoundBurst) (held : List HeldTime) (handed more : List Act) → [] ≡ more → AreHandedOn made wait k window [] beginning held handed more beginning held
  none-handed_on beginning held handed more none = subst (λ (m : List Act). AreHandedOn made wait k window [] beginning held handed m beginning held) none no_more

  -- one is
  pub one-handed_on : (one : Next) (beginning beginning' : BeginningView SoundBurst) (held held' : List HeldTime) (handed more : List Act)
      → IsHandedOn made wait k window one beginning held handed more beginning' held' → AreHandedOn made wait k window (one ∷ []) beginning held handed more beginning' held'
  one-handed_on one beginning beginning' held held' handed more is =
      next_one no_more (subst (λ (h : List Act). IsHandedOn made wait k window one beginning held h more beginning' held') (sym (append-nil handed)) is)

  -- some are, and then others
  others-handed_on : {due others : List Next} {beginning between beginning' : BeginningView SoundBurst} {held holding held' : List HeldTime} {handed first after later : List Act}
      → AreHandedOn made wait k window due beginning held handed first between holding → AreHandedOn made wait k window others between holding after later beginning' held' → after ≡ handed ++ first
      → AreHandedOn made wait k window (due ++ others) beginning held handed (first ++ later) beginning' held'
  others-handed_on {due = due} {beginning = beginning} {held = held} {handed = handed} {first = first} are (no_more {beginning = b} {held = h}) same =
      subst (λ (ds : List Next). AreHandedOn made wait k window ds beginning held handed (first ++ []) b h) (sym (append-nil due))
      (subst (λ (m : List Act). AreHandedOn made wait k window due beginning held handed m b h) (sym (append-nil first)) are)
  others-handed_on {due = due} {beginning = beginning} {held = held} {handed = handed} {first = first} are
      (next_one {one = one} {before = before} {between = b} {beginning' = b'} {holding = h} {held' = h'} {first = second} {later = later} rest is) same =
      subst (λ (ds : List Next). AreHandedOn made wait k window ds beginning held handed (first ++ (second ++ later)) b' h') (append_assoc due before (one ∷ []))
      (subst (λ (m : List Act). AreHandedOn made wait k window ((due ++ before) ++ one ∷ []) beginning held handed m b' h') (append_assoc first second later)
      (next_one (others-handed_on are rest same)
      (subst (λ (hs : List Act). IsHandedOn made wait k window one b h hs later b' h') (ap (λ (hs : List Act). hs ++ second) same ∙ append_assoc handed first second) is)))

  pub more-handed_on : {due others : List Next} {beginning between beginning' : BeginningView SoundBurst} {held holding held' : List HeldTime} {handed first later : List Act}
      → AreHandedOn made wait k window due beginning held handed first between holding → AreHandedOn made wait k window others between holding (handed ++ first) later beginning' held'
      → AreHandedOn made wait k window (due ++ others) beginning held handed (first ++ later) beginning' held'
  more-handed_on are then = others-handed_on are then refl
