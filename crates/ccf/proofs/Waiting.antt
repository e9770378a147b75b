-- What waits for more bytes: the front of a frame, and up to three zeros of fill.
use Rattle.std.proofs.Common.{Bool, IsTrue, ◌≡◌, ◌≢◌, ℕ, zero, suc, ◌+◌, ◌<◌, ◌==◌, false, List, [], ◌∷◌, ◌++◌, length, replicate, refl, sym, ap, ◌∙◌, subst, inl, inr, arith, length-append}
use Rattle.std.proofs.lemmas.Bool.{cond-false, ne_eqb}
use Rattle.std.proofs.lemmas.List.{length-replicate, replicate-append-replicate, take-append-le}
use Rattle.docsis_wire.specs.declared.frame.HeadRead.{HeadRead}
use Rattle.docsis_wire.specs.declared.frame.HeadRead.TheVariants.{Short, Fill, Head}
use Rattle.docsis_wire.specs.Frame.{IsGenericFrame, IsFrame, header_front}
use Rattle.docsis_wire.specs.Head.{head_of}
use Rattle.docsis_wire.specs.Cut.{IsFillByte}
use Rattle.docsis_wire.proofs.FrameHeads.{head_of-frame, length-frame}
use Rattle.ccf.specs.Walk.{Ends, EndsAs, PassesSoFar}
use Rattle.ccf.specs.Unfinished.{IsFillLeft}

-- some bytes have a length
pub length-some : (bytes : List ℕ) → bytes ≢ [] → 0 < length bytes
length-some [] some = absurd (some refl)
length-some (b ∷ bs) some = omega arith

-- bytes of some length are some
pub some_by_length : (bytes : List ℕ) → 0 < length bytes → bytes ≢ []
some_by_length bytes h e = omega (arith, ap length e)

-- a frame does not begin with the fill byte 255
first_byte : (b : ℕ) (bytes : List ℕ) → IsGenericFrame (b ∷ bytes) → (b == 255) ≡ false
first_byte b bytes h =
    let is : b ≡ h.fc = (let s = h.spelled in cc) in
    ne_eqb b 255 (λ e. h.fc_is.not_ff (sym is ∙ e))

-- bytes too short for a head wait
short_waits : (check : List ℕ → Bool) (bytes : List ℕ) → head_of bytes ≡ Short → Ends check bytes bytes
short_waits check bytes e = let P : HeadRead → Type 0 = λ head. EndsAs check head bytes bytes in subst P (sym e) refl

-- bytes whose head announces more wait, where the check says yes of what is there of their header
long_waits : (check : List ℕ → Bool) (bytes : List ℕ) (ehdr total : ℕ) → head_of bytes ≡ Head ehdr total → PassesSoFar check ehdr bytes → length bytes < total → Ends check bytes bytes
long_waits check bytes ehdr total e passes more = let P : HeadRead → Type 0 = λ head. EndsAs check head bytes bytes in subst P (sym e) (inr (passes, more, refl))

-- the check says yes of what is there of a frame's header
passes_front : (check : List ℕ → Bool) (front back : List ℕ) (ehdr : ℕ) → IsTrue (check (header_front ehdr (front ++ back))) → PassesSoFar check ehdr front
passes_front check front back ehdr checked = λ whole. ap check (sym (take-append-le (6 + ehdr) front back whole)) ∙ checked

-- the front of a frame waits for the rest of it
pub front_waits : (check : List ℕ → Bool) (front back : List ℕ) → IsFrame check (front ++ back) → back ≢ [] → Ends check front front
front_waits check [] back h some = refl
front_waits check (a ∷ []) back h some = short_waits check (a ∷ []) (cond-false (a == 255) Fill Short (first_byte a back h.generic))
front_waits check (a ∷ b ∷ []) back h some = short_waits check (a ∷ b ∷ []) (cond-false (a == 255) Fill Short (first_byte a (b ∷ back) h.generic))
front_waits check (a ∷ b ∷ c ∷ []) back h some = short_waits check (a ∷ b ∷ c ∷ []) (cond-false (a == 255) Fill Short (first_byte a (b ∷ c ∷ back) h.generic))
front_waits check (a ∷ b ∷ c ∷ d ∷ more) back h some =
    let front : List ℕ = a ∷ b ∷ c ∷ d ∷ more in
    let head = head_of-frame check (front ++ back) [] h in
    long_waits check front head.0 (length (front ++ back)) head.1 (passes_front check front back head.0 head.2) (omega (arith, length-append more back, length-some back some))

-- nothing is left of fill
pub no_fill_left : (fill : ℕ) → IsFillLeft fill []
no_fill_left fill = record { count = 0; few = omega arith; zeros = refl; zero_fill = λ h. absurd (omega (arith, h)) }

-- What these bytes of fill leave unfinished.
pub record LeavesFill (check : List ℕ → Bool) (fill : ℕ) (bytes : List ℕ) : Type 0 where
  pub left : List ℕ
  pub ends : Ends check bytes left
  pub is_left : IsFillLeft fill left

-- zeros leave at most three
zeros_left : (check : List ℕ → Bool) (n : ℕ) → LeavesFill check 0 (replicate n 0)
zeros_left check zero = record { left = []; ends = refl; is_left = no_fill_left 0 }
zeros_left check (suc zero) = record { left = 0 ∷ []; ends = refl; is_left = record { count = 1; few = omega arith; zeros = refl; zero_fill = λ h. refl } }
zeros_left check (suc (suc zero)) = record { left = 0 ∷ 0 ∷ []; ends = refl; is_left = record { count = 2; few = omega arith; zeros = refl; zero_fill = λ h. refl } }
zeros_left check (suc (suc (suc zero))) = record { left = 0 ∷ 0 ∷ 0 ∷ []; ends = refl; is_left = record { count = 3; few = omega arith; zeros = refl; zero_fill = λ h. refl } }
zeros_left check (suc (suc (suc (suc n)))) = record { left = []; ends = refl; is_left = no_fill_left 0 }

-- bytes of which each bit is set leave nothing
ones_left : (check : List ℕ → Bool) (n : ℕ) → LeavesFill check 255 (replicate n 255)
ones_left check zero = record { left = []; ends = refl; is_left = no_fill_left 255 }
ones_left check (suc zero) = record { left = []; ends = refl; is_left = no_fill_left 255 }
ones_left check (suc (suc zero)) = record { left = []; ends = refl; is_left = no_fill_left 255 }
ones_left check (suc (suc (suc zero))) = record { left = []; ends = refl; is_left = no_fill_left 255 }
ones_left check (suc (suc (suc (suc n)))) = record { left = []; ends = refl; is_left = no_fill_left 255 }

-- fill leaves at most three zeros
pub fill_left : (check : List ℕ → Bool) (fill n : ℕ) → IsFillByte fill → LeavesFill check fill (replicate n fill)
fill_left check fill n (inl e) = let P : ℕ → Type 0 = λ f. LeavesFill check f (replicate n f) in subst P (sym e) (zeros_left check n)
fill_left check fill n (inr e) = let P : ℕ → Type 0 = λ f. LeavesFill check f (replicate n f) in subst P (sym e) (ones_left check n)

-- zeros are fill where the fill byte is zero, or where there are none
zeros_are_fill : (fill count : ℕ) → (0 < count → fill ≡ 0) → replicate count 0 ≡ replicate count fill
zeros_are_fill fill zero h = refl
zeros_are_fill fill (suc count) h = ap (replicate (suc count)) (sym (h (omega arith)))

-- what is left of fill, and more fill after it, leaves at most three zeros again
pub fill_goes_on : (check : List ℕ → Bool) (fill n : ℕ) (before : List ℕ) → IsFillByte fill → IsFillLeft fill before → LeavesFill check fill (before ++ replicate n fill)
fill_goes_on check fill n before fill_is h =
    let all : before ++ replicate n fill ≡ replicate (h.count + n) fill =
    ap (λ t. t ++ replicate n fill) (h.zeros ∙ zeros_are_fill fill h.count h.zero_fill) ∙ replicate-append-replicate h.count n fill in
    subst (LeavesFill check fill) (sym all) (fill_left check fill (h.count + n) fill_is)

-- what is left of fill is no frame
pub fill_left_no_frame : (check : List ℕ → Bool) (fill : ℕ) (bytes : List ℕ) → IsFillLeft fill bytes → IsFrame check bytes → ⊥
fill_left_no_frame check fill bytes h frame = omega (arith, length-frame bytes frame.generic, ap length h.zeros, length-replicate {A = ℕ} h.count 0, h.few)

-- a number of fill bytes that is not positive makes no fill
pub no_fill : (fill n : ℕ) → (0 < n → ⊥) → replicate n fill ≡ []
no_fill fill zero none = refl
no_fill fill (suc n) none = absurd (none (omega arith))
