-- What the walks of the exports share: the names that they cite, and how they end. Assumes `Logic`.
pub use Rattle.std.proofs.Common.{◌≡◌, ℕ, ◌+◌, ◌*◌, ◌^◌, ◌<◌, ◌≤◌, List, [], ◌∷◌, ◌++◌, length, Bool, true, false, refl, sym, ap, subst, ◌∙◌, lit<, arith, w8, w16, w32, w64, MutBor, Bor, nltb→le}
pub use seplogic.Ra.Ura.{Ura}
pub use base.Fraction.{full_share}
pub use mir.Syntax.{named}
pub use mir.Val.{Val, vint, vbool, vptr, vnull}
pub use base.Logic.{SProp, ent, sep, ex, ex_i, emp, via, id⊢, fst∗, snd∗}
pub use base.Fml.{Lft, Share, Fml, ftrue, fsep, feq, flft, flent, Incl-refl}
pub use prog.Memory.{Memory}
pub use prog.Routine.{Routine}
pub use prog.Wp.{Calls, Loops, WpFn}
pub use types.Logic.{Logic, sem}
pub use contract.Monad.{Fun, fact, fact_i, fact_use}
pub use contract.Running.{tables}
pub use types.Kit.{‵, raw, ◌⊛◌, some, later, at_ret, ◌$◌, ◌∵◌, !, qed, by, move, keep, drop, use0, use1, use2, use3, split, split3, join, pick, show, fsplit, fjoin, feq_i, feq_l, rewrite, await, updating, now, frame, done}
pub use types.Tokens.{lft_new, lft_end, lent_back}
pub use types.SemTy.{Body, Arr, cells}
pub use types.Run.{of_opd, bin, lit, addr, from, stop, and_then, no_more, first, branches, skips, exec, assigns, store, fld, hop, returns, returns_within, enter}
pub use types.Part.{agg, sub, whole}
pub use types.ByLocal.{alloc_all, pass_all, free_all, look_at, look_in_at, get, get_in, through, sets, lands_as, env}
pub use sound.WpLaws.{FmC}
pub use denote.Exit.{yes}
pub use denote.Laws.{Is, shows}
pub use denote.Memory.{mem, lone}
pub use denote.Plain.{uint_vals, uint_Tells, uint_Makes, uint_Lawful, bool_vals, bool_Tells, bool_Makes}
pub use denote.Builtin.{u8, u16, u32, u64, usize, bool}
pub use denote.Memory.{part_at}
pub use denote.Ref.{MutRef, mut_vals, ShrRef, shr_vals}
pub use denote.Lend.{lends_ref, ref_back, lends_shr, lends_slice, slice_back, lends_shr_slice, Held as LentSlice}
pub use denote.RawPtr.{Ptr, block_ptr, null_ptr, ptr_val, RawPtr, rawptr_vals, rawptr_Tells, Testable, tests_null, InBlock}
pub use denote.Signature.{plain}
pub use denote.Steps.{owned, only, peeks, heard, nothing}
pub use denote.Triple.Statement.{Contract, Triple}
pub use denote.Triple.Call.{calls_at}
pub use denote.Triple.Clauses.{Clauses, Lasts, lasts}
pub use denote.Triple.Entry.{on_entry}
pub use denote.Triple.Spec.{triple_of}
pub use denote.Triple.Table.{framed}
pub use denote.Triple.Walked.{says, Stays, stay_dropped, walk_of, Goes-dropped}
pub use Rattle.std.proofs.raw_atomic.Walks.{proved, leaves}
pub use lib.Dec.{T}
use mir.Syntax.{ty_ptr, int_big, Width}
use mir.Val.{has_ty, WT, Fits}
use base.Logic.{guard_i}
use base.Fml.{fat}
use borrow.Table.OneValue.{part_out, part_in}
use prog.Wp.{Env}
use types.Kit.{Item}
use types.Run.{Opd}
use mir.Raw.{raw as bare}
pub use Rattle.std.specs.Prelude.{nat_lt, not}
pub use Rattle.std.specs.Ptr.{points_to}
pub use denote.Array.{Array}
pub use denote.ArrayMemory.{Array-apart, Array-whole}
pub use denote.Copied.{uint_Copied}
pub use denote.Index.{whole_in}
pub use denote.Slice.{ShrSlice, MutSlice, slice_val, shr_slice_vals}
use denote.ArrayMemory.{Single}
use denote.Index.{whole_out}
use denote.Memory.{shares}
use denote.RattleType.{RattleType}
use types.Share.{parts}
use Rattle.std.proofs.GlobalToken.{dealloc_token-Testable}
use Rattle.c_receiver.specs.declared.held.HeldReceiver.{HeldReceiver}
use Rattle.c_receiver.specs.contracts.held.HeldReceiver.{the_row as R}
use Rattle.c_receiver.specs.declared.status.Status.TheVariants as status
use Rattle.c_receiver.specs.Statuses.{status_number}
use Rattle.segrx_c.specs.Handle.{boxed_at, row_at, unless_so}
use Rattle.segrx_c.specs.Answers.{Unless, length_refused}

-- a pointer is a machine value of its type
pub typed : (p : Ptr) → T (has_ty ty_ptr (ptr_val p)) × WT (ptr_val p)
typed (block_ptr b o) = (tt, tt)
typed null_ptr = (tt, record { fits = lit< tt })

-- a pointer in memory is its machine value, each way
module _ {M : Type 1} {𝓤 : Ura M} (𝓛 : Logic 𝓤) (p : Ptr) (b o : ℕ) where
  pub pointer_out : ent 𝓤 (sem 𝓛 (points_to RawPtr (block_ptr b o) p)) (sem 𝓛 (fat full_share ty_ptr b o (ptr_val p)))
  pointer_out =
      qed 𝓛 (‵ (points_to RawPtr (block_ptr b o) p) ∷ []) ∵ use1 𝓛 (some (λ (v : Val). ‵ (fat full_share ty_ptr b o v) ⊛ ‵ (RawPtr.own_val p (v ∷ [])))) (part_out 𝓛 RawPtr refl full_share p b o) $
      pick ! (λ v. split ! $ move ! (1 ∷ []) $ feq_l ! (λ e. rewrite ! 0 (λ (u : Val). ‵ (fat full_share ty_ptr b o u)) (ap only e) refl $ done !))

  pub pointer_in : ent 𝓤 (sem 𝓛 (fat full_share ty_ptr b o (ptr_val p))) (sem 𝓛 (points_to RawPtr (block_ptr b o) p))
  pointer_in = qed 𝓛 (‵ (fat full_share ty_ptr b o (ptr_val p)) ∷ []) ∵ feq_i ! (List Val) (ptr_val p ∷ []) (ptr_val p ∷ []) refl $ move ! (1 ∷ 0 ∷ []) $ by ! (part_in 𝓛 RawPtr refl full_share p b o (ptr_val p))

-- what is said of a call where no more of a length is passed than may be, and where more is
module _ (y : Bool) (lengths : List Bool) (number : ℕ) (Same P : Type 0) where
  abbrev Said : Bool → Type 0
  Said z = Unless (length_refused (z ∷ lengths)) number Same P

  pub within : y ≡ false → Unless (length_refused lengths) number Same P → Said y
  within e p = subst Said (sym e) p

  pub beyond : y ≡ true → number ≡ status_number status.LengthRange → Same → Said y
  beyond e told same = subst Said (sym e) (told, same)

-- a constant of more than a few digits, as `lit` is of others
module _ {M : Type 1} {𝓤 : Ura M} {K : Type 0} {𝓛 : Logic 𝓤} {Γ : List (Item 𝓤)} {E : Env 𝓤 𝓛.H} where
  pub big_lit : K → {w : Width} {n : ℕ} → Fits w n → Opd K 𝓛 Γ E (int_big w n) (vint w n)
  big_lit t {w} {n} z = record { go = λ Kt h. via 𝓤 (Kt (vint w n)) h (guard_i 𝓤 (Fits w n) (Kt (vint w n)) z) }

-- values side by side, and so many of them
abbrev pub apart : (R : RattleType) → List R.Denot → ℕ → ℕ → Fml
apart R xs b o = parts (mem R) (shares R) full_share xs b o

abbrev pub counted : (R : RattleType) → List R.Denot → ℕ → ℕ → Fml
counted R xs b o = fsep (feq ℕ (length xs) (length xs)) (apart R xs b o)

module _ {M : Type 1} {𝓤 : Ura M} (𝓛 : Logic 𝓤) (R : RattleType) where
  -- a row where no more is passed than may be
  unless-out : (y : Bool) (F : Fml) → y ≡ false → ent 𝓤 (sem 𝓛 (unless_so y F)) (sem 𝓛 F)
  unless-out true F e = absurd (subst T e tt)
  unless-out false F e = id⊢ 𝓤 (sem 𝓛 F)

  unless-in : (y : Bool) (F : Fml) → ent 𝓤 (sem 𝓛 F) (sem 𝓛 (unless_so y F))
  unless-in true F = qed 𝓛 (‵ F ∷ []) ∵ drop ! $ nothing ! $ done !
  unless-in false F = id⊢ 𝓤 (sem 𝓛 F)

  pub row_out : (most : ℕ) (p : Ptr) (n : ℕ) (xs : List R.Denot) → nat_lt most n ≡ false → InBlock p → ent 𝓤 (sem 𝓛 (row_at R most p n xs)) (sem 𝓛 (points_to (Array R n) p xs))
  row_out most (block_ptr b o) n xs e i = unless-out (nat_lt most n) (points_to (Array R n) (block_ptr b o) xs) e
  row_out most null_ptr n xs e i = absurd i

  pub row_in : (most : ℕ) (p : Ptr) (n : ℕ) (xs : List R.Denot) → ent 𝓤 (sem 𝓛 (points_to (Array R n) p xs)) (sem 𝓛 (row_at R most p n xs))
  row_in most (block_ptr b o) n xs = unless-in (nat_lt most n) (points_to (Array R n) (block_ptr b o) xs)
  row_in most null_ptr n xs = qed 𝓛 (‵ (points_to (Array R n) null_ptr xs) ∷ []) ∵ drop ! $ nothing ! $ done !

  -- what a slice was lent of comes back as an array
  pub rejoined : Single R.mir → (n : ℕ) (xs : List R.Denot) (b o : ℕ) → ent 𝓤 (sem 𝓛 ((Arr (mem R) n).own_at xs b o)) (sem 𝓛 (points_to (Array R n) (block_ptr b o) xs))
  rejoined s n xs b o =
      qed 𝓛 (‵ ((Arr (mem R) n).own_at xs b o) ∷ []) ∵ fsplit ! $ move ! (1 ∷ []) $ use1 𝓛 (‵ (apart R xs b o)) (whole_out 𝓛 R xs b o) $ move ! (1 ∷ 0 ∷ []) $ fjoin ! $
      use1 𝓛 (‵ (points_to (Array R n) (block_ptr b o) xs)) (Array-whole 𝓛 R full_share n xs b o) $ done !

module _ {M : Type 1} {𝓤 : Ura M} (𝓛 : Logic 𝓤) where
  -- a handle may be compared with NULL
  pub boxed-Testable : (p : Ptr) (held : HeldReceiver) → ent 𝓤 (sem 𝓛 (boxed_at p held)) (fact 𝓤 (Testable p))
  boxed-Testable p held = via 𝓤 _ (snd∗ 𝓤 (sem 𝓛 (points_to R p held)) _) (dealloc_token-Testable 𝓛 held.alloc (bare (lone R.mir)) p)

  -- how an export ends: some last values lie in the memories, and so much is said of them
  module _ {X : Type 0} (F : X → Fml) where
    pub ended-1 : (Q : X → Type 0) (x : X) → Q x → ent 𝓤 (sem 𝓛 (F x)) (ex 𝓤 (λ (x' : X). sep 𝓤 (sem 𝓛 (F x')) (fact 𝓤 (Q x'))))
    ended-1 Q x q = qed 𝓛 (‵ (F x) ∷ []) ∵ show ! (λ (x' : X). sep 𝓤 (sem 𝓛 (F x')) (fact 𝓤 (Q x'))) x $ says ! q $ done !

    module _ (F' : X → Fml) where
      pub ended-2 : (Q : X → Type 0) (x : X) → Q x → ent 𝓤 (sep 𝓤 (sem 𝓛 (F x)) (sem 𝓛 (F' x))) (ex 𝓤 (λ (x' : X). sep 𝓤 (sem 𝓛 (F x')) (sep 𝓤 (sem 𝓛 (F' x')) (fact 𝓤 (Q x')))))
      ended-2 Q x q = qed 𝓛 (‵ (F x) ∷ ‵ (F' x) ∷ []) ∵ show ! (λ (x' : X). sep 𝓤 (sem 𝓛 (F x')) (sep 𝓤 (sem 𝓛 (F' x')) (fact 𝓤 (Q x')))) x $ frame ! $ says ! q $ done !

      module _ (F'' : X → Fml) where
        pub ended-3 : (Q : X → Type 0) (x : X) → Q x → ent 𝓤 (sep 𝓤 (sem 𝓛 (F x)) (sep 𝓤 (sem 𝓛 (F' x)) (sem 𝓛 (F'' x)))) (ex 𝓤 (λ (x' : X). sep 𝓤 (sem 𝓛 (F x')) (sep 𝓤 (sem 𝓛 (F' x')) (sep 𝓤 (sem 𝓛 (F'' x')) (fact 𝓤 (Q x'))))))
        ended-3 Q x q = qed 𝓛 (‵ (F x) ∷ ‵ (F' x) ∷ ‵ (F'' x) ∷ []) ∵ show ! (λ (x' : X). sep 𝓤 (sem 𝓛 (F x')) (sep 𝓤 (sem 𝓛 (F' x')) (sep 𝓤 (sem 𝓛 (F'' x')) (fact 𝓤 (Q x'))))) x $ frame ! $ frame ! $ says ! q $ done !

        pub ended-4 : (F3 : X → Fml) (Q : X → Type 0) (x : X) → Q x
            → ent 𝓤 (sep 𝓤 (sem 𝓛 (F x)) (sep 𝓤 (sem 𝓛 (F' x)) (sep 𝓤 (sem 𝓛 (F'' x)) (sem 𝓛 (F3 x)))))
            (ex 𝓤 (λ (x' : X). sep 𝓤 (sem 𝓛 (F x')) (sep 𝓤 (sem 𝓛 (F' x')) (sep 𝓤 (sem 𝓛 (F'' x')) (sep 𝓤 (sem 𝓛 (F3 x')) (fact 𝓤 (Q x')))))))
        ended-4 F3 Q x q = qed 𝓛 (‵ (F x) ∷ ‵ (F' x) ∷ ‵ (F'' x) ∷ ‵ (F3 x) ∷ []) ∵
            show ! (λ (x' : X). sep 𝓤 (sem 𝓛 (F x')) (sep 𝓤 (sem 𝓛 (F' x')) (sep 𝓤 (sem 𝓛 (F'' x')) (sep 𝓤 (sem 𝓛 (F3 x')) (fact 𝓤 (Q x')))))) x $ frame ! $ frame ! $ frame ! $ says ! q $ done !
