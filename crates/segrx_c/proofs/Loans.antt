-- A loan is made, and ends. Assumes `Logic`.
use Rattle.segrx_c.proofs.Steps.{◌∷◌, [], ℕ, full_share, Ura, Logic, sem, sep, ent, flft, Ptr, block_ptr, null_ptr, ‵, ◌$◌, ◌∵◌, !, qed, move, drop, fsplit, fjoin, updating, now, done, lft_end, lent_back}
use base.Logic.{never_e}
use Rattle.c_receiver.specs.declared.held.HeldReceiver.{HeldReceiver}
use Rattle.segrx_c.specs.Handle.{handle_at}
use Rattle.segrx_c.specs.Loan.{read_at, back_at, lent_at}

module _ {M : Type 1} {𝓤 : Ura M} (𝓛 : Logic 𝓤) (lifetime b o : ℕ) (held : HeldReceiver) where
  open 𝓛 use {H}

  pub loan_made : (to from : ℕ) → ent 𝓤 (sep 𝓤 (sem 𝓛 (flft (lifetime ∷ []) full_share)) (sep 𝓤 (sem 𝓛 (read_at lifetime to from held)) (sem 𝓛 (back_at lifetime (block_ptr b o) held))))
      (sem 𝓛 (lent_at lifetime (block_ptr b o) (block_ptr to from) held))
  loan_made to from =
      qed 𝓛 (‵ (flft (lifetime ∷ []) full_share) ∷ ‵ (read_at lifetime to from held) ∷ ‵ (back_at lifetime (block_ptr b o) held) ∷ []) ∵
      move ! (1 ∷ 2 ∷ []) $ fjoin ! $ move ! (1 ∷ 0 ∷ []) $ fjoin ! $ done !

  -- **Who ends a loan has the receiver again**, as the next call asks, just as it was left; and
  -- what was lent can't be read any more, since its lifetime is over
  pub loan_ends : (bytes : Ptr) → ent 𝓤 (sem 𝓛 (lent_at lifetime (block_ptr b o) bytes held)) (H.⇛ (sem 𝓛 (handle_at (block_ptr b o) held)))
  loan_ends null_ptr = never_e 𝓤 _
  loan_ends (block_ptr to from) =
      qed 𝓛 (‵ (lent_at lifetime (block_ptr b o) (block_ptr to from) held) ∷ []) ∵ updating ! $ fsplit ! $ lft_end ! tt $ move ! (1 ∷ []) $ fsplit ! $ drop ! $ fsplit ! $ move ! (2 ∷ 0 ∷ []) $ lent_back ! tt $ now ! $ fjoin ! $ done !
