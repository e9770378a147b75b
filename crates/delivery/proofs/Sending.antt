-- One parcel more.
use Rattle.std.specs.Prelude.{◌≡◌, ℕ, true, false, List, [], ◌∷◌, ◌++◌, length, Vec, refl}
use Rattle.std.specs.declared.alloc.Global.{Global}
use Rattle.std.proofs.Common.{ap, sym, ◌∙◌, append-nil, append_assoc, arith}
use Rattle.delivery.specs.Frames.{frames_in}
use Rattle.delivery.specs.Parcels.{frames_of}
use Rattle.delivery.specs.Inside.Ends.{has_end, ends_once}
use Rattle.delivery.specs.declared.parcel.Parcel.{Parcel}
use Rattle.delivery.specs.declared.parcel.Parcel.TheVariants.{Frame, End}

pub frames_of-append : (xs ys : List Parcel) → frames_of (xs ++ ys) ≡ frames_of xs ++ frames_of ys
frames_of-append [] ys = refl
frames_of-append (Frame x ∷ xs) ys = ap (λ l. x.items ∷ l) (frames_of-append xs ys)
frames_of-append (End ∷ xs) ys = frames_of-append xs ys

pub has_end-frame : (xs : List Parcel) (x : Vec ℕ Global) → has_end (xs ++ Frame x ∷ []) ≡ has_end xs
has_end-frame [] x = refl
has_end-frame (Frame y ∷ xs) x = has_end-frame xs x
has_end-frame (End ∷ xs) x = refl

pub has_end-end : (xs : List Parcel) → has_end (xs ++ End ∷ []) ≡ true
has_end-end [] = refl
has_end-end (Frame y ∷ xs) = has_end-end xs
has_end-end (End ∷ xs) = refl

pub ends_once-end : (xs : List Parcel) → has_end xs ≡ false → ends_once (xs ++ End ∷ []) ≡ true
ends_once-end [] none = refl
ends_once-end (Frame y ∷ xs) none = ends_once-end xs none
ends_once-end (End ∷ xs) none = cc

pub frames_of-frame : (xs : List Parcel) (x : Vec ℕ Global) → frames_of (xs ++ Frame x ∷ []) ≡ frames_of xs ++ x.items ∷ []
frames_of-frame xs x = frames_of-append xs (Frame x ∷ [])

pub frames_of-end : (xs : List Parcel) → frames_of (xs ++ End ∷ []) ≡ frames_of xs
frames_of-end xs = frames_of-append xs (End ∷ []) ∙ append-nil (frames_of xs)

-- an end mark that is taken gives no frame
pub frames_of-end-none : (xs : List Parcel) → frames_of (xs ++ End ∷ []) ≡ frames_of xs ++ []
frames_of-end-none xs = frames_of-append xs (End ∷ [])

pub frames_in-append : (xs ys : List (Vec ℕ Global)) → frames_in (xs ++ ys) ≡ frames_in xs ++ frames_in ys
frames_in-append [] ys = refl
frames_in-append (x ∷ xs) ys = ap (λ l. x.items ∷ l) (frames_in-append xs ys)

pub length-frames_in : (xs : List (Vec ℕ Global)) → length (frames_in xs) ≡ length xs
length-frames_in [] = refl
length-frames_in (x ∷ xs) = let h = length-frames_in xs in omega (arith, h)

-- no frame is left where the list is empty
pub frames_in-none : (xs : List (Vec ℕ Global)) → length xs ≡ 0 → frames_in xs ≡ []
frames_in-none [] none = refl
frames_in-none (x ∷ xs) none = absurd (omega arith)

-- a frame goes into the ring after an empty backlog
pub offers : (sent : List Parcel) (backlog : List (Vec ℕ Global)) (x : Vec ℕ Global)
    → length backlog ≡ 0 → frames_of (sent ++ Frame x ∷ []) ++ frames_in backlog ≡ (frames_of sent ++ frames_in backlog) ++ x.items ∷ []
offers sent [] x none =
    append-nil (frames_of (sent ++ Frame x ∷ [])) ∙ frames_of-frame sent x ∙ ap (λ l. l ++ x.items ∷ []) (sym (append-nil (frames_of sent)))
offers sent (y ∷ ys) x none = absurd (omega arith)

-- a frame goes to the end of the backlog
pub waits : (sent : List Parcel) (backlog : List (Vec ℕ Global)) (x : Vec ℕ Global)
    → frames_of sent ++ frames_in (backlog ++ x ∷ []) ≡ (frames_of sent ++ frames_in backlog) ++ x.items ∷ []
waits sent backlog x =
    ap (λ l. frames_of sent ++ l) (frames_in-append backlog (x ∷ [])) ∙ sym (append_assoc (frames_of sent) (frames_in backlog) (x.items ∷ []))

-- the front of the backlog goes into the ring
pub moves : (sent : List Parcel) (rest : List (Vec ℕ Global)) (x : Vec ℕ Global)
    → frames_of (sent ++ Frame x ∷ []) ++ frames_in rest ≡ frames_of sent ++ (x.items ∷ frames_in rest)
moves sent rest x = ap (λ l. l ++ frames_in rest) (frames_of-frame sent x) ∙ append_assoc (frames_of sent) (x.items ∷ []) (frames_in rest)

-- the end mark goes into the ring after an empty backlog
pub closes : (sent : List Parcel) (backlog : List (Vec ℕ Global)) → length backlog ≡ 0 → frames_of (sent ++ End ∷ []) ≡ frames_of sent ++ frames_in backlog
closes sent [] none = frames_of-end sent ∙ sym (append-nil (frames_of sent))
closes sent (y ∷ ys) none = absurd (omega arith)

pub ruleset sending = (closes, offers, waits, moves, has_end-frame, has_end-end, ends_once-end, frames_of-frame, frames_of-end, frames_of-end-none, frames_in-append, length-frames_in, frames_in-none)
