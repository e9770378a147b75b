-- A pointer that is handed out, taken apart and put together. Assumes `Logic`.
use Rattle.std.proofs.Common.{◌≡◌, ℕ, ◌^◌, ◌<◌, List, [], ◌∷◌, ◌++◌, refl, ◌∙◌, Option, w32}
use seplogic.Ra.Ura.{Ura}
use mir.Val.{Val, vint, vstruct, vcons, vnil, of_list}
use types.Logic.{Logic}
use types.Kit.{Goal, Seq, Item, ‵, ◌$◌, move, drop, fsplit, fjoin, fpick, fpack, feq_l, feq_i, flt_l, flt_i}
use denote.RattleType.{RattleType, Valss}
use denote.Builtin.{u32, RawPtr}
use denote.RawPtr.{Ptr, block_ptr, null_ptr, ptr_val}
use base.Logic.{ent, id⊢}
use types.Logic.{sem}
use Rattle.std.proofs.Common.{Some, None, lit<}
use Rattle.std.specs.declared.alloc.Global.{Global}
use Rattle.std.specs.contracts.impls.GlobalAllocator.TheImpl.{ghosts}
use Rattle.c_receiver.specs.declared.held.HeldReceiver.{HeldReceiver}
use Rattle.c_receiver.specs.contracts.held.HeldReceiver as held
use Rattle.segrx_c.specs.Made.{made_at}
use denote.Steps.{nothing}
use denote.Struct.Struct.{within}
use denote.Struct.Owning.{shape}
use Rattle.std.proofs.alloc.Calls.{Al, α, Fits, handle_tells}
use lib.Dec.{T}
use mir.Syntax.{ty_struct, ty_int, ty_ptr, tcons, tnil}
use mir.Val.{has_ty, WT}
use Rattle.std.proofs.ResultValues.{and_tt}
use Rattle.std.specs.declared.alloc.Allocator.{Ghosts}
use Rattle.segrx_c.specs.Handed.{given_at}
use Rattle.segrx_c.specs.declared.handed.Handed.{Handed}
use Rattle.segrx_c.specs.contracts.handed.Handed as handed

-- its machine value
abbrev pub word : ℕ → Ptr → Val → Val
word n p hv = vstruct (vcons (vint w32 n) (vcons (ptr_val p) (vcons hv vnil)))

module _ (R P : RattleType) where
  abbrev pub made : ℕ → Ptr → P.Denot → Option R.Denot → Handed R.Denot P.Denot
  made n p a x = record { number = n; at = p; alloc = a; value = x }

module _ (R P : RattleType) (g : Ghosts P.Denot) {M : Type 1} {𝓤 : Ura M} {𝓛 : Logic 𝓤} {K : Type 0} {Γ : List (Item 𝓤)} {G : Goal 𝓤 𝓛.H} where
  pub handed_in : K → (n : ℕ) → n < 2 ^ 32 → (p : Ptr) (hv : Val) (a : P.Denot) (x : Option R.Denot)
      → Seq K 𝓛 (‵ ((handed.the_row R P g).own_val (made R P n p a x) (word n p hv ∷ [])) ∷ Γ) G
      → Seq K 𝓛 (‵ (P.own_val a (hv ∷ [])) ∷ ‵ (given_at (g.dealloc_token a) R p x) ∷ Γ) G
  handed_in t n fits p hv a x k =
      nothing t $ move t (1 ∷ 0 ∷ []) $ fjoin t $ feq_i t (List Val) (ptr_val p ∷ []) (ptr_val p ∷ []) refl $ fjoin t $
      flt_i t n (2 ^ 32) fits $ feq_i t (List Val) (vint w32 n ∷ []) (vint w32 n ∷ []) refl $ fjoin t $ fjoin t $
      feq_i t (List Val) (word n p hv ∷ []) (word n p hv ∷ []) refl $ fjoin t $
      fpack t (Valss (u32 ∷ RawPtr ∷ P ∷ [])) (within (shape (handed.the_type R P g)) (n, (p, (a, tt))) (word n p hv ∷ [])) (vint w32 n ∷ [], (ptr_val p ∷ [], (hv ∷ [], tt))) $
      fjoin t $ k

module _ (R : RattleType) (Z : Al) {M : Type 1} {𝓤 : Ura M} {𝓛 : Logic 𝓤} {K : Type 0} {Γ : List (Item 𝓤)} {G : Goal 𝓤 𝓛.H} where
  pub handed_out : K → (d : Handed R.Denot Z.row.Denot) (vs : List Val)
      → ((hv : Val) → vs ≡ word d.number d.at hv ∷ [] → d.number < 2 ^ 32 → Fits Z hv
      → Seq K 𝓛 (‵ (Z.row.own_val d.alloc (hv ∷ [])) ∷ ‵ (given_at (Z.g.dealloc_token d.alloc) R d.at d.value) ∷ Γ) G)
      → Seq K 𝓛 (‵ ((handed.the_row R Z.row Z.g).own_val d vs) ∷ Γ) G
  handed_out t d vs k =
      fsplit t $ fpick t (λ vss. fsplit t $ feq_l t (λ ev. fsplit t $ fsplit t $ feq_l t (λ en. flt_l t (λ small. fsplit t $ feq_l t (λ ep. fsplit t $
      handle_tells Z t d.alloc vss.1.1.0 (λ hv ea fits. move t (1 ∷ []) $ drop t $
      k hv (ev ∙ (λ i. vstruct (of_list (en i ++ (ep i ++ (ea i ++ [])))) ∷ [])) small fits))))))

-- it is of its type
pub handed_typed : (Z : Al) (n : ℕ) → n < 2 ^ 32 → (hv : Val) (b o : ℕ) → Fits Z hv
    → T (has_ty (ty_struct [] (tcons (ty_int w32) (tcons ty_ptr (tcons (α Z) tnil)))) (word n (block_ptr b o) hv)) × WT (word n (block_ptr b o) hv)
handed_typed Z n small hv b o fa = (and_tt (has_ty (α Z) hv) fa.0, (record { fits = small }, (tt, (fa.1, tt))))

pub handed_typed_at : (Z : Al) (n : ℕ) → n < 2 ^ 32 → (hv : Val) (p : Ptr) → Fits Z hv
    → T (has_ty (ty_struct [] (tcons (ty_int w32) (tcons ty_ptr (tcons (α Z) tnil)))) (word n p hv)) × WT (word n p hv)
handed_typed_at Z n small hv (block_ptr b o) fa = handed_typed Z n small hv b o fa
handed_typed_at Z n small hv null_ptr fa = (and_tt (has_ty (α Z) hv) fa.0, (record { fits = small }, (record { fits = lit< tt }, (fa.1, tt))))

-- what is handed out of a receiver is its handle, or NULL
pub made-in : {M : Type 1} {𝓤 : Ura M} (𝓛 : Logic 𝓤) (a : Global) (p : Ptr) (x : Option HeldReceiver) → ent 𝓤 (sem 𝓛 (given_at (ghosts.dealloc_token a) held.the_row p x)) (sem 𝓛 (made_at p x))
made-in {𝓤 = 𝓤} 𝓛 a p None = id⊢ 𝓤 _
made-in {𝓤 = 𝓤} 𝓛 a p (Some held) = id⊢ 𝓤 _
