-- Frames and pieces have one first fault, or none.
use Rattle.std.proofs.Common.{◌≡◌, Bool, ℕ, ◌<◌, inl, inr, ◌⊎◌, Result, Ok, Err, OnOk, IfOk, IfErr, IsOk, ◌↔◌, List, refl, sym, ap, subst, arith}
use Rattle.std.specs.List.{AllByRecursion}
use Rattle.std.specs.Result.{result_or}
use Rattle.std.proofs.lemmas.Bool.{cases_lt, false≢true}
use Rattle.docsis_wire.specs.declared.pieces.Piece.{Piece}
use Rattle.docsis_wire.specs.declared.pieces.CutFault.{CutFault}
use Rattle.docsis_wire.specs.declared.pieces.CutFault.TheVariants.{BadFrame, FillInsideFrame, PointerTooFar, OutOfMemory}
use Rattle.docsis_wire.specs.Frame.{IsFrame}
use Rattle.docsis_wire.specs.Pieces.{FillsInsideFrame, IsUnlawful, IsFirstBadFrame, IsFirstFillInsideFrame, IsFirstPointerTooFar, IsCuttable, Reports}
use Rattle.docsis_wire.proofs.Stretches.{AllByRecursion-at}

-- the first of some indexes is one
one_first : (P : ℕ → Type 0) (k i : ℕ) → P k → ((j : ℕ) → j < k → ¬ P j) → P i → ((j : ℕ) → j < i → ¬ P j) → k ≡ i
one_first P k i at_k before_k at_i before_i =
    elim (cases_lt k i) [
      | inl less ↦ absurd (before_i k less at_k)
      | inr more ↦ elim (cases_lt i k) [
        | inl less ↦ absurd (before_k i less at_i)
        | inr same ↦ omega (arith, more, same)
      ]
    ]

-- where all frames are well formed none is bad
none_bad : (check : List ℕ → Bool) (frames : List (List ℕ)) (k : ℕ) → AllByRecursion (IsFrame check) frames → IsFirstBadFrame check frames k → ⊥
none_bad check frames k each h = h.bad (AllByRecursion-at (IsFrame check) frames k h.frame each h.frame_is)

-- the first bad frame is one
one_bad : (check : List ℕ → Bool) (frames : List (List ℕ)) (k i : ℕ) → IsFirstBadFrame check frames k → IsFirstBadFrame check frames i → k ≡ i
one_bad check frames k i h g =
    elim (cases_lt k i) [
      | inl less ↦ absurd (h.bad (g.earlier k h.frame less h.frame_is))
      | inr more ↦ elim (cases_lt i k) [
        | inl less ↦ absurd (g.bad (h.earlier i g.frame less g.frame_is))
        | inr same ↦ omega (arith, more, same)
      ]
    ]

-- one piece is at fault by its fill, or by its pointer alone
fill_first : (check : List ℕ → Bool) (frames : List (List ℕ)) (pieces : List Piece) (k i : ℕ) → IsFirstFillInsideFrame check frames pieces k → IsFirstPointerTooFar check frames pieces i → ⊥
fill_first check frames pieces k i h g =
    let same = one_first (IsUnlawful frames pieces) k i (inl h.here) h.earlier (inr g.here) g.earlier in
    let P : ℕ → Type 0 = λ n. ¬ FillsInsideFrame frames pieces n in
    subst P (sym same) g.fill_lawful h.here

-- of frames and pieces one thing is reported
pub one_fault : (check : List ℕ → Bool) (frames : List (List ℕ)) (pieces : List Piece) (e d : CutFault) → Reports check frames pieces e → Reports check frames pieces d → e ≡ d
one_fault check frames pieces (BadFrame k) (BadFrame i) h g = ap BadFrame (one_bad check frames k i h g)
one_fault check frames pieces (BadFrame k) (FillInsideFrame i) h g = absurd (none_bad check frames k g.each h)
one_fault check frames pieces (BadFrame k) (PointerTooFar i) h g = absurd (none_bad check frames k g.each h)
one_fault check frames pieces (BadFrame k) OutOfMemory h g = absurd (none_bad check frames k g.each h)
one_fault check frames pieces (FillInsideFrame k) (BadFrame i) h g = absurd (none_bad check frames i h.each g)
one_fault check frames pieces (FillInsideFrame k) (FillInsideFrame i) h g = ap FillInsideFrame (one_first (IsUnlawful frames pieces) k i (inl h.here) h.earlier (inl g.here) g.earlier)
one_fault check frames pieces (FillInsideFrame k) (PointerTooFar i) h g = absurd (fill_first check frames pieces k i h g)
one_fault check frames pieces (FillInsideFrame k) OutOfMemory h g = absurd (g.lawful k (inl h.here))
one_fault check frames pieces (PointerTooFar k) (BadFrame i) h g = absurd (none_bad check frames i h.each g)
one_fault check frames pieces (PointerTooFar k) (FillInsideFrame i) h g = absurd (fill_first check frames pieces i k g h)
one_fault check frames pieces (PointerTooFar k) (PointerTooFar i) h g = ap PointerTooFar (one_first (IsUnlawful frames pieces) k i (inr h.here) h.earlier (inr g.here) g.earlier)
one_fault check frames pieces (PointerTooFar k) OutOfMemory h g = absurd (g.lawful k (inr h.here))
one_fault check frames pieces OutOfMemory (BadFrame i) h g = absurd (none_bad check frames i h.each g)
one_fault check frames pieces OutOfMemory (FillInsideFrame i) h g = absurd (h.lawful i (inl g.here))
one_fault check frames pieces OutOfMemory (PointerTooFar i) h g = absurd (h.lawful i (inr g.here))
one_fault check frames pieces OutOfMemory OutOfMemory h g = refl

-- what an answer reports: that frames and pieces can be cut, or a fault
pub record Answers {T : Type 0} (check : List ℕ → Bool) (frames : List (List ℕ)) (pieces : List Piece) (result : Result T CutFault) : Type 0 where
  pub ok : OnOk result (IsCuttable check frames pieces)
  pub err : IfErr result (Reports check frames pieces)

-- an answer that reports rightly reports each fault exactly where it is
pub reported_exactly : {T : Type 0} (check : List ℕ → Bool) (frames : List (List ℕ)) (pieces : List Piece) (result : Result T CutFault) (e : CutFault) → Answers check frames pieces result → (e ≡ OutOfMemory → ⊥)
    → (result ≡ Err e) ↔ Reports check frames pieces e
reported_exactly check frames pieces (Ok x) e answers other = (λ is. absurd cc, λ reports. absurd (other (one_fault check frames pieces e OutOfMemory reports answers.ok)))
reported_exactly check frames pieces (Err d) e answers other = (
  λ is. let same : d ≡ e = cc in let P : CutFault → Type 0 = Reports check frames pieces in subst P same answers.err,
  λ reports. ap Err (one_fault check frames pieces d e answers.err reports),
)

-- and it is no fault, or out of memory, just where they can be cut
pub cuttable_exactly : {T : Type 0} (check : List ℕ → Bool) (frames : List (List ℕ)) (pieces : List Piece) (result : Result T CutFault) → Answers check frames pieces result
    → (IsOk result ⊎ (result ≡ Err OutOfMemory)) ↔ IsCuttable check frames pieces
cuttable_exactly check frames pieces (Ok x) answers = (λ _. answers.ok, λ _. inl refl)
cuttable_exactly check frames pieces (Err d) answers = (
  λ is. elim is [
    | inl ok ↦ absurd (false≢true ok)
    | inr full ↦ let same : d ≡ OutOfMemory = cc in let P : CutFault → Type 0 = Reports check frames pieces in subst P same answers.err
  ],
  λ cuttable. inr (ap Err (one_fault check frames pieces d OutOfMemory answers.err cuttable)),
)

-- an answer that is this fault reports it
pub Answers-fault : {T : Type 0} (check : List ℕ → Bool) (frames : List (List ℕ)) (pieces : List Piece) (result : Result T CutFault) (e : CutFault) → result ≡ Err e → Reports check frames pieces e → Answers check frames pieces result
Answers-fault check frames pieces (Ok x) e is reports = absurd cc
Answers-fault check frames pieces (Err d) e is reports = let same : d ≡ e = cc in let P : CutFault → Type 0 = Reports check frames pieces in record { ok = tt; err = subst P (sym same) reports }

-- an answer that is what was made, or out of memory, reports that they can be cut
pub Answers-made : {T E : Type 0} (check : List ℕ → Bool) (frames : List (List ℕ)) (pieces : List Piece) (made : Result T E) (result : Result T CutFault) → result ≡ result_or made (Err OutOfMemory) → IsCuttable check frames pieces
    → Answers check frames pieces result
Answers-made {T} check frames pieces (Ok x) result is cuttable =
    let P : Result T CutFault → Type 0 = λ r. Answers check frames pieces r in subst P (sym is) record { ok = cuttable; err = tt }
Answers-made {T} check frames pieces (Err d) result is cuttable =
    let P : Result T CutFault → Type 0 = λ r. Answers check frames pieces r in subst P (sym is) record { ok = tt; err = cuttable }

-- what holds of what was made holds of the answer
pub IfOk-made : {T E : Type 0} (P : T → Type 0) (made : Result T E) (result : Result T CutFault) → result ≡ result_or made (Err OutOfMemory) → IfOk made P → IfOk result P
IfOk-made {T} P (Ok x) result is holds = let Q : Result T CutFault → Type 0 = λ r. IfOk r P in subst Q (sym is) holds
IfOk-made {T} P (Err d) result is holds = let Q : Result T CutFault → Type 0 = λ r. IfOk r P in subst Q (sym is) tt

-- what follows from what holds of an answer holds of it
pub IfOk-at : {T E : Type 0} (result : Result T E) (P Q : T → Type 0) → ((x : T) → P x → Q x) → IfOk result P → IfOk result Q
IfOk-at (Ok x) P Q why h = why x h
IfOk-at (Err e) P Q why h = tt
