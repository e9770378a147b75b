-- What stood flushed in an output at the reads of a reader, one behind another.
use Rattle.std.proofs.Common.{◌≡◌, ℕ, inl, inr, Option, List, [], ◌∷◌, ◌++◌, refl, sym, ap, subst, ◌∙◌, append-nil, append_assoc}
use Rattle.std.specs.Io.KnownBytes.{Appends, Consumes}
use Rattle.std.proofs.KnownBytes.{Consumes-nil, Consumes-trans}
use Rattle.std.proofs.lemmas.Grind.{flat_map-append}
use Rattle.engines.specs.FlushedReads.{FlushedRead, given_by, AreCallsFor, MakesReads, AreBehindText, ReadsBehindText}

-- calls that gave nothing, and then some for these bytes
calls-then : (held : Option (List ℕ)) (bytes : List ℕ) (calls more : List FlushedRead) → AreCallsFor held [] calls → AreCallsFor held bytes more
    → AreCallsFor held bytes (calls ++ more)
calls-then held bytes [] more none then = then
calls-then held bytes (one ∷ calls) more (is, inl (none, others)) then = (is, inl (none, calls-then held bytes calls more others then))
calls-then held bytes (one ∷ calls) more (is, inr (none, last)) then =
    (is, inl (none, subst (λ (calls : List FlushedRead). AreCallsFor held bytes (calls ++ more)) (sym last) then))

-- calls for some bytes gave them
calls-gave : (held : Option (List ℕ)) (bytes : List ℕ) (calls : List FlushedRead) → AreCallsFor held bytes calls → given_by calls ≡ bytes
calls-gave held bytes [] is = sym is
calls-gave held bytes (one ∷ calls) (is, inl (none, others)) = ap (λ (given : List ℕ). given ++ given_by calls) none ∙ calls-gave held bytes calls others
calls-gave held bytes (one ∷ calls) (is, inr (gave, last)) =
    ap (λ (calls : List FlushedRead). one.given ++ given_by calls) last ∙ append-nil one.given ∙ gave

module _ {R : Type 0} (after : R → List FlushedRead → R → Type 0) (held : Option (List ℕ)) where
  -- no call was made
  pub makes-none : (now : R) → MakesReads after held now now []
  makes-none now = λ start reads was. ([], refl, subst (λ (all : List FlushedRead). after start all now) (sym (append-nil reads)) was)

  -- calls that gave nothing, and one more
  pub makes-one : (first old new : R) (bytes : List ℕ) → MakesReads after held first old []
      → ((start : R) (reads : List FlushedRead) → after start reads old → after start (reads ++ record { held = held; given = bytes } ∷ []) new)
      → MakesReads after held first new bytes
  makes-one first old new bytes before one = λ start reads was.
      let made = before start reads was in
      let last : FlushedRead = record { held = held; given = bytes } in (
        made.0 ++ last ∷ [],
        calls-then held bytes made.0 (last ∷ []) made.1 (refl, inr (refl, refl)),
        subst (λ (all : List FlushedRead). after start all new) (append_assoc reads made.0 (last ∷ [])) (one start (reads ++ made.0) made.2),
      )

module _ (IsTextOf : List ℕ → List ℕ → Type 0) (first : Option (List ℕ)) where
  -- reads behind some bytes, and more of them
  behind-then : (bytes : List ℕ) (reads more : List FlushedRead) → AreBehindText IsTextOf first bytes reads
      → AreBehindText IsTextOf first (bytes ++ given_by reads) more → AreBehindText IsTextOf first bytes (reads ++ more)
  behind-then bytes [] more was then = subst (λ (bytes : List ℕ). AreBehindText IsTextOf first bytes more) (append-nil bytes) then
  behind-then bytes (one ∷ reads) more was then = (
    was.0,
    behind-then (bytes ++ one.given) reads more was.1
        (subst (λ (bytes : List ℕ). AreBehindText IsTextOf first bytes more) (sym (append_assoc bytes one.given (given_by reads))) then),
  )

  -- calls that were made where the text of the bytes stood in the output
  behind-calls : (bytes piece text : List ℕ) (held : Option (List ℕ)) (calls : List FlushedRead) → IsTextOf bytes text → Appends first held text
      → AreCallsFor held piece calls → AreBehindText IsTextOf first bytes calls
  behind-calls bytes piece text held [] is wrote for = tt
  behind-calls bytes piece text held (one ∷ calls) is wrote (same, inl (none, others)) = (
    (text, is, subst (λ (held : Option (List ℕ)). Appends first held text) (sym same) wrote),
    subst (λ (bytes : List ℕ). AreBehindText IsTextOf first bytes calls) (sym (ap (λ (given : List ℕ). bytes ++ given) none ∙ append-nil bytes))
        (behind-calls bytes piece text held calls is wrote others),
  )
  behind-calls bytes piece text held (one ∷ calls) is wrote (same, inr (gave, last)) = (
    (text, is, subst (λ (held : Option (List ℕ)). Appends first held text) (sym same) wrote),
    subst (λ (calls : List FlushedRead). AreBehindText IsTextOf first (bytes ++ one.given) calls) (sym last) tt,
  )

  module _ {R : Type 0} (after : R → List FlushedRead → R → Type 0) (start : R) (known : Option (List ℕ)) where
    -- so far a reader gave these bytes, and at each of its reads just their text stood flushed
    pub record ReadsSoFar (left : Option (List ℕ)) (now : R) (bytes : List ℕ) : Type 0 where
      pub all : ReadsBehindText IsTextOf first after known left start now
      pub are : given_by all.reads ≡ bytes

    -- no read was made
    pub reads-none : (now : R) → after start [] now → ReadsSoFar known now []
    reads-none now made = record { all = record { reads = []; made = made; behind = tt; consumed = Consumes-nil known }; are = refl }

    -- calls were made for some bytes
    pub reads-more : (left left' held : Option (List ℕ)) (old new : R) (bytes piece text : List ℕ) → ReadsSoFar left old bytes → IsTextOf bytes text → Appends first held text
        → MakesReads after held old new piece → Consumes left left' piece → ReadsSoFar left' new (bytes ++ piece)
    reads-more left left' held old new bytes piece text far is wrote makes read =
        let was = far.all in
        let made = makes start was.reads was.made in
        let are : given_by (was.reads ++ made.0) ≡ bytes ++ piece =
        flat_map-append (λ (one : FlushedRead). one.given) was.reads made.0 ∙ ap (λ (given : List ℕ). given_by was.reads ++ given) (calls-gave held piece made.0 made.1)
        ∙ ap (λ (given : List ℕ). given ++ piece) far.are in
        record {
          all = record {
            reads = was.reads ++ made.0;
            made = made.2;
            behind =
                behind-then [] was.reads made.0 was.behind
                (behind-calls (given_by was.reads) piece text held made.0 (subst (λ (bytes : List ℕ). IsTextOf bytes text) (sym far.are) is) wrote made.1);
            consumed =
                subst (λ (all : List ℕ). Consumes known left' all) (ap (λ (given : List ℕ). given ++ piece) far.are ∙ sym are)
                (Consumes-trans known left left' (given_by was.reads) piece was.consumed read);
          };
          are = are;
        }
