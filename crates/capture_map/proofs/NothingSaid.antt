-- Lines whose fields don't say what they have to.
use Rattle.std.proofs.Common.{◌≡◌, ℕ, List, [], ◌∷◌, length, refl, ap, subst}
use Rattle.capture_map.specs.declared.map.MapFlow.{MapFlow}
use Rattle.capture_map.specs.declared.map.MapSid.{MapSid}
use Rattle.capture_map.specs.declared.map.MapChannel.{MapChannel}
use Rattle.capture_map.specs.declared.map_line.MapLine.{MapLine}
use Rattle.capture_map.specs.declared.map_line.MapLine.TheVariants.{Flow, Channel, Sid}
use Rattle.capture_map.specs.Line.{flow_form, channel_form, sid_form, word_of, SaysFlow, SaysChannel, SaysSid, Says, SaysNothing}

-- fields that say no flow
no_flow : (a b c d : List ℕ) → ((flow : MapFlow) → ¬ (SaysFlow a b c d flow)) → (line : MapLine) → Says line (word_of flow_form ∷ a ∷ b ∷ c ∷ d ∷ []) → ⊥
no_flow a b c d none (Flow flow) says = none flow says.1
no_flow a b c d none (Channel channel) says = says
no_flow a b c d none (Sid row) says = says

pub SaysNothing-flow : (words : List (List ℕ)) (a b c d : List ℕ) → words ≡ a ∷ b ∷ c ∷ d ∷ [] → ((flow : MapFlow) → ¬ (SaysFlow a b c d flow))
    → SaysNothing (word_of flow_form ∷ words)
SaysNothing-flow words a b c d are none = record {
  form = flow_form;
  after = words;
  are = refl;
  count = ap length are;
  nothing = λ line says. no_flow a b c d none line (subst (λ w. Says line (word_of flow_form ∷ w)) are says);
}

-- no channel
no_channel : (a b : List ℕ) → ((one : MapChannel) → ¬ (SaysChannel a b one)) → (line : MapLine) → Says line (word_of channel_form ∷ a ∷ b ∷ []) → ⊥
no_channel a b none (Flow flow) says = says
no_channel a b none (Channel channel) says = none channel says.1
no_channel a b none (Sid row) says = says

pub SaysNothing-channel : (words : List (List ℕ)) (a b : List ℕ) → words ≡ a ∷ b ∷ [] → ((one : MapChannel) → ¬ (SaysChannel a b one))
    → SaysNothing (word_of channel_form ∷ words)
SaysNothing-channel words a b are none = record {
  form = channel_form;
  after = words;
  are = refl;
  count = ap length are;
  nothing = λ line says. no_channel a b none line (subst (λ w. Says line (word_of channel_form ∷ w)) are says);
}

-- no service identifier
no_sid : (a b c : List ℕ) → ((row : MapSid) → ¬ (SaysSid a b c row)) → (line : MapLine) → Says line (word_of sid_form ∷ a ∷ b ∷ c ∷ []) → ⊥
no_sid a b c none (Flow flow) says = says
no_sid a b c none (Channel channel) says = says
no_sid a b c none (Sid row) says = none row says.1

pub SaysNothing-sid : (words : List (List ℕ)) (a b c : List ℕ) → words ≡ a ∷ b ∷ c ∷ [] → ((row : MapSid) → ¬ (SaysSid a b c row))
    → SaysNothing (word_of sid_form ∷ words)
SaysNothing-sid words a b c are none = record {
  form = sid_form;
  after = words;
  are = refl;
  count = ap length are;
  nothing = λ line says. no_sid a b c none line (subst (λ w. Says line (word_of sid_form ∷ w)) are says);
}
