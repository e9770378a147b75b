-- A receiver that takes a list of inputs, one after another.
use Rattle.std.proofs.Common.{◌≡◌, ℕ, ◌+◌, Bool, List, [], ◌∷◌, ◌++◌, length, filter_map, refl, ap, sym, subst, ◌∙◌, append-nil, append_assoc, length-append}
use Rattle.std.proofs.lemmas.List.Elements.{filter_map-append}
use Rattle.lane.specs.declared.input.Input.{Input}
use Rattle.consumer.specs.declared.given.Given.{Given}
use Rattle.bonded_flows.specs.Table.{TableSetup}
use Rattle.receiver.specs.declared.receiver.Receiver.{Receiver}
use Rattle.receiver.specs.declared.closing.Closed.{Closed}
use Rattle.receiver.specs.declared.reply.Reply.{Reply}
use Rattle.receiver.specs.HandedIn.{HandedIn, came}
use Rattle.receiver.specs.Receiving.{StandsFor, Replies}
use Rattle.receiver.specs.Received.{IsReceived, Closes}
use Rattle.uses.specs.OneAtATime.{input_in, AreInputs, TakesInputs, ReceivesInputs}

-- inputs behind others
are-joined : (handed more : List HandedIn) (inputs others : List (ℕ × Input)) → AreInputs handed inputs → AreInputs more others → AreInputs (handed ++ more) (inputs ++ others)
are-joined handed more inputs others are besides = record {
  are = filter_map-append input_in handed more ∙ ap (λ t. t ++ filter_map input_in more) are.are ∙ ap (λ t. inputs ++ t) besides.are;
  no_more =
      length-append handed more ∙ ap (λ n. n + length more) are.no_more ∙ ap (λ n. length inputs + n) besides.no_more
      ∙ sym (length-append inputs others);
}

module _ {C O : Type 0} (after : O → List Given → O → Type 0) (accepts : C → List ℕ → Bool) where
  pub inputs-none : (receiver : Receiver C) (out : O) → TakesInputs after accepts receiver out [] receiver out
  inputs-none receiver out = record {
    given_more = [];
    was_given = λ start given was. subst (λ g. after start g out) (sym (append-nil given)) was;
    stands = λ check made handed given stands. (
      [],
      record { are = refl; no_more = refl },
      subst (λ h. StandsFor accepts receiver check made h (given ++ [])) (sym (append-nil handed))
          (subst (λ g. StandsFor accepts receiver check made handed g) (sym (append-nil given)) stands),
    );
  }

  pub inputs-one : (receiver receiver' : Receiver C) (out out' : O) (channel : ℕ) (input : Input) (reply : Reply)
      → Replies after accepts receiver out channel input reply receiver' out' → TakesInputs after accepts receiver out ((channel, input) ∷ []) receiver' out'
  inputs-one receiver receiver' out out' channel input reply replies = record {
    given_more = replies.takes.given_more;
    was_given = replies.takes.was_given;
    stands = λ check made handed given stands. (
      came channel (record { input = input; answer = replies.answer }) ∷ [],
      record { are = refl; no_more = refl },
      replies.takes.stands check made handed given stands,
    );
  }

  module _ (first second third : Receiver C) (out out' out'' : O) (inputs : List (ℕ × Input)) (takes : TakesInputs after accepts first out inputs second out') where
    pub inputs-more : (others : List (ℕ × Input)) → TakesInputs after accepts second out' others third out''
        → TakesInputs after accepts first out (inputs ++ others) third out''
    inputs-more others more = record {
      given_more = takes.given_more ++ more.given_more;
      was_given = λ start given was.
          subst (λ g. after start g out'') (append_assoc given takes.given_more more.given_more)
          (more.was_given start (given ++ takes.given_more) (takes.was_given start given was));
      stands = λ check made handed given stands.
          let before = takes.stands check made handed given stands in
          let behind = more.stands check made (handed ++ before.0) (given ++ takes.given_more) before.2 in (
            before.0 ++ behind.0,
            are-joined before.0 behind.0 inputs others before.1 behind.1,
            subst (λ h. StandsFor accepts third check made h (given ++ (takes.given_more ++ more.given_more))) (append_assoc handed before.0 behind.0)
                (subst (λ g. StandsFor accepts third check made ((handed ++ before.0) ++ behind.0) g) (append_assoc given takes.given_more more.given_more) behind.2),
          );
    }

    pub inputs-received : (closed : Closed) → Closes after accepts second out' closed out'' → ReceivesInputs after accepts first out inputs closed out''
    inputs-received closed closes = record {
      given_more = takes.given_more ++ closes.given_more;
      was_given = λ start given was.
          subst (λ g. after start g out'') (append_assoc given takes.given_more closes.given_more)
          (closes.was_given start (given ++ takes.given_more) (takes.was_given start given was));
      received = λ check made handed given stands.
          let before = takes.stands check made handed given stands in (
            before.0,
            before.1,
            subst (λ g. IsReceived check made (handed ++ before.0) g closed) (append_assoc given takes.given_more closes.given_more)
                (closes.received check made (handed ++ before.0) (given ++ takes.given_more) before.2),
          );
    }
