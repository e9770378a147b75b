-- Unfinished bytes to which only what their frame lacks is appended.
use Rattle.std.proofs.Common.{Bool, ◌≡◌, ◌≢◌, ℕ, ◌+◌, ◌≤◌, ◌==◌, IsTrue, true, false, List, [], ◌∷◌, ◌++◌, length, take, cond, refl, sym, ap, subst, ◌∙◌, inl, inr, arith, append-nil, length-append}
use Rattle.std.proofs.lemmas.Bool.{cond-true, false_from_ne_true}
use Rattle.std.proofs.lemmas.List.{take-append-le}
use Rattle.std.proofs.Math.Seq.{take-length}
use Rattle.docsis_wire.specs.declared.frame.HeadRead.{HeadRead}
use Rattle.docsis_wire.specs.declared.frame.HeadRead.TheVariants.{Short, Fill, Bad, Head}
use Rattle.docsis_wire.specs.Frame.{IsFrame, header_front}
use Rattle.docsis_wire.specs.Head.{head_of}
use Rattle.ccf.specs.Walk.{Ends, EndsAs}
use Rattle.ccf.specs.Inside.Rooms.{EndsFrame}

-- bytes of which the first is the fill byte 255 are fill
fill-first : (b : ℕ) (more : List ℕ) → (b == 255) ≡ true → head_of (b ∷ more) ≡ Fill
fill-first b [] e = cond-true (b == 255) Fill Short e
fill-first b (c ∷ []) e = cond-true (b == 255) Fill Short e
fill-first b (c ∷ d ∷ []) e = cond-true (b == 255) Fill Short e
fill-first b (c ∷ d ∷ f ∷ more) e = cond-true (b == 255) Fill _ e

-- bytes too few for a head that are dropped begin with the fill byte
dropped-first : (check : List ℕ → Bool) (b : Bool) (bytes : List ℕ) → bytes ≢ [] → EndsAs check (cond b Fill Short) bytes [] → b ≡ true
dropped-first check true bytes some e = refl
dropped-first check false bytes some e = absurd (some (sym e))

-- and are dropped with more behind them too
few-further : (check : List ℕ → Bool) (b : ℕ) (bytes more : List ℕ) → (b == 255) ≡ true → Ends check (b ∷ bytes ++ more) []
few-further check b bytes more e = let P : HeadRead → Type 0 = λ head. EndsAs check head (b ∷ bytes ++ more) [] in subst P (sym (fill-first b (bytes ++ more) e)) refl

-- bytes that are dropped by their head are dropped with more behind them
head-further : (check : List ℕ → Bool) (head : HeadRead) (bytes more : List ℕ) → bytes ≢ [] → EndsAs check head bytes [] → EndsAs check head (bytes ++ more) []
head-further check Short bytes more some e = absurd (some (sym e))
head-further check Fill bytes more some e = refl
head-further check (Bad fault) bytes more some e = refl
head-further check (Head ehdr total) bytes more some (inl h) =
    let within = h.0.0 in
    inl ((omega (arith, length-append bytes more), ap check (take-append-le (6 + ehdr) bytes more within) ∙ h.0.1), refl)
head-further check (Head ehdr total) bytes more some (inr h) = absurd (some (sym h.2))

pub Ends-further : (check : List ℕ → Bool) (bytes more : List ℕ) → bytes ≢ [] → Ends check bytes [] → Ends check (bytes ++ more) []
Ends-further check [] more some ends = absurd (some refl)
Ends-further check (a ∷ []) more some ends = few-further check a [] more (dropped-first check (a == 255) (a ∷ []) some ends)
Ends-further check (a ∷ b ∷ []) more some ends = few-further check a (b ∷ []) more (dropped-first check (a == 255) (a ∷ b ∷ []) some ends)
Ends-further check (a ∷ b ∷ c ∷ []) more some ends = few-further check a (b ∷ c ∷ []) more (dropped-first check (a == 255) (a ∷ b ∷ c ∷ []) some ends)
Ends-further check (a ∷ b ∷ c ∷ d ∷ rest) more some ends = head-further check (head_of (a ∷ b ∷ c ∷ d ∷ rest)) (a ∷ b ∷ c ∷ d ∷ rest) more some ends

-- bytes that wait have nothing left behind them
nothing-left : (check : List ℕ → Bool) (bytes left : List ℕ) → (left ≢ [] → EndsFrame bytes) → Ends check bytes bytes → left ≡ []
nothing-left check bytes [] reached waits = refl
nothing-left check bytes (b ∷ left) reached waits = absurd (reached (λ q. cc) check waits)

pub Ends-waiting : (check : List ℕ → Bool) (bytes left after : List ℕ) → (left ≢ [] → EndsFrame bytes) → Ends check bytes bytes → after ≡ bytes → Ends check (bytes ++ left) after
Ends-waiting check bytes left after reached waits same =
    let none = nothing-left check bytes left reached waits in
    let all : bytes ++ left ≡ bytes = ap (λ t. bytes ++ t) none ∙ append-nil bytes in
    let P : List ℕ → List ℕ → Type 0 = Ends check in
    subst (λ t. P t after) (sym all) (subst (P bytes) (sym same) waits)

-- some bytes and more are some
pub some-more : (before front after : List ℕ) → (before ≡ [] → ⊥) → after ≡ before ++ front → after ≢ []
some-more [] front after some is = absurd (some refl)
some-more (b ∷ bs) front after some is = λ none. cc

-- bytes that announce one frame of their length and are none are dropped
pub no-frame-Ends : (check : List ℕ → Bool) (bytes : List ℕ) (ehdr total : ℕ) → Head ehdr total ≡ head_of bytes → 6 + ehdr ≤ total → total ≡ length bytes
    → (IsTrue (check (header_front ehdr bytes)) → IsFrame check (take total bytes)) → (IsFrame check bytes → ⊥) → Ends check bytes []
no-frame-Ends check bytes ehdr total announced header same whole none =
    let all : take total bytes ≡ bytes = ap (λ n. take n bytes) same ∙ take-length bytes in
    let fails : check (header_front ehdr bytes) ≡ false = false_from_ne_true (check (header_front ehdr bytes)) (λ yes. none (subst (IsFrame check) all (whole yes))) in
    let P : HeadRead → Type 0 = λ head. EndsAs check head bytes [] in
    subst P announced (inl ((omega arith, fails), refl))
