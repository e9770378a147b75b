-- The end mark stands last.
use Rattle.std.specs.Prelude.{◌≡◌, ◌+◌, true, false, List, [], ◌∷◌, ◌++◌, length, refl}
use Rattle.std.proofs.Common.{ap, sym, ◌∙◌, append-nil, arith}
use Rattle.delivery.proofs.Sending.{frames_of-append}
use Rattle.delivery.specs.Parcels.{frames_of}
use Rattle.delivery.specs.Inside.Ends.{has_end, ends_once}
use Rattle.delivery.specs.declared.parcel.Parcel.{Parcel}
use Rattle.delivery.specs.declared.parcel.Parcel.TheVariants.{Frame, End}

-- nothing stands after the end mark
pub none_after_end : (taken known : List Parcel) → ends_once (taken ++ known) ≡ true → has_end taken ≡ true → known ≡ []
none_after_end [] known once ended = cc
none_after_end (Frame x ∷ taken) known once ended = none_after_end taken known once ended
none_after_end (End ∷ []) [] once ended = refl
none_after_end (End ∷ []) (x ∷ known) once ended = cc
none_after_end (End ∷ (x ∷ taken)) known once ended = cc

-- all parcels but one are frames
pub length-frames_of : (parcels : List Parcel) → ends_once parcels ≡ true → length parcels ≡ length (frames_of parcels) + 1
length-frames_of [] once = cc
length-frames_of (Frame x ∷ parcels) once = let h = length-frames_of parcels once in omega (arith, h)
length-frames_of (End ∷ []) once = omega arith
length-frames_of (End ∷ (x ∷ parcels)) once = cc

-- where the end mark was not taken, it stands last in what is left
pub end_not_taken : (taken known : List Parcel) → ends_once (taken ++ known) ≡ true → has_end taken ≡ false → ends_once known ≡ true
end_not_taken [] known once open_still = once
end_not_taken (Frame x ∷ taken) known once open_still = end_not_taken taken known once open_still
end_not_taken (End ∷ taken) known once open_still = cc

-- where the end mark was taken, all frames were
pub all_taken : (sent taken known : List Parcel) → taken ++ known ≡ sent → ends_once sent ≡ true → has_end taken ≡ true → frames_of taken ≡ frames_of sent
all_taken sent taken known whole once ended =
    let none = none_after_end taken known (ap ends_once whole ∙ once) ended in
    ap frames_of (sym (append-nil taken) ∙ ap (λ l. taken ++ l) (sym none) ∙ whole)

pub ruleset ends = (all_taken, none_after_end, length-frames_of, end_not_taken, frames_of-append)
