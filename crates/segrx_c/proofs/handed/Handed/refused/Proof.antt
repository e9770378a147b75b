-- `refused` makes NULL, which owns nothing.
use mathlib.Core.Path.{refl, sym, subst}
use mathlib.Core.List.{List, [], ◌∷◌, ◌++◌}
use lib.Dec.{T}
use seplogic.Ra.Ura.{Ura}
use mir.Syntax.{Fn, ty_struct, ty_int, ty_ptr, tcons, tnil}
use mir.MapTy.{inst_fn}
use mir.Val.{Val, has_ty, WT}
use base.Logic.{SProp, ent}
use base.Fml.{ftrue, fsep, flft}
use prog.Memory.{Memory}
use prog.Routine.{Routine}
use prog.Wp.{WpFn, Tables}
use types.Logic.{Logic}
use contract.Monad.{Fun}
use contract.Running.{tables, tables_of}
use sound.WpLaws.{WpFn-mono}
use types.Kit.{Item, ‵, raw, ◌⊛◌, ◌$◌, ◌∵◌, !, qed, by, move, keep, join, split, fsplit, fjoin, feq_l, flt_l, suffices, done}
use types.Run.{no_more, and_then, of_opd, returns, enter}
use types.ByLocal.{alloc_all, pass_all, free_all, look_at, get, sets}
use denote.RattleType.{RattleType}
use denote.Exit.{no}
use denote.Signature.{plain}
use denote.Steps.{nothing}
use denote.Triple.Clauses.{Ended, Clauses}
use denote.Triple.Spec.{triple_of}
use denote.Triple.Table.{entered}
use denote.Triple.Walked.{says, Stays, stay_dropped, walk_of, ends_at, walk_Meets, Goes-dropped}
use Rattle.std.proofs.BoxSteps.Form.{Bx, R, P, args}
use Rattle.segrx_c.specs.contracts.handed.Handed as parts
use Rattle.std.proofs.Common.{ℕ, ◌^◌, ◌<◌, lit<, None, w32}
use Rattle.std.proofs.alloc.Calls.{α, Fits, handle_tells}
use Rattle.std.proofs.ResultValues.{and_tt}
use Rattle.segrx_c.proofs.HandedSteps.{word as word', made, handed_in}
use mir.Val.{vint}
use types.Run.{lit}
use types.Part.{agg}
use denote.Builtin.{u32}
use denote.RawPtr.{null_ptr}
use denote.Exit.{yes}
use Rattle.segrx_c.specs.contracts.handed.Handed.refused as F
use Rattle.segrx_c.specs.contracts.handed.Handed.refused.Key.{name as #self}
use Rattle.segrx_c.proofs.handed.Handed.refused.Statement as stated
use Rattle.segrx_c.proofs.handed.Handed.refused.Code as code

module _ (E : Bx) where
  abbrev fn' : Fn
  fn' = inst_fn (args E) code.function

  abbrev ended : Ended
  ended = F.ended E.row E.al.row E.al.g E.al.d E.al.drops

  abbrev To : RattleType
  To = parts.the_row (R E) (P E) E.al.g

  abbrev stayed : Stays ended.signature.params ended.kept
  stayed = (stay_dropped (plain (λ _. P E)) no, (stay_dropped (plain (λ _. u32)) yes, tt))

  typed : (n : ℕ) → n < 2 ^ 32 → (hv : Val) → Fits E.al hv → T (has_ty (ty_struct [] (tcons (ty_int w32) (tcons ty_ptr (tcons (α E.al) tnil)))) (word' n null_ptr hv)) × WT (word' n null_ptr hv)
  typed n small hv fa = (and_tt (has_ty (α E.al) hv) fa.0, (record { fits = small }, (record { fits = lit< tt }, (fa.1, tt))))

  module _ {M : Type 1} {𝓤 : Ura M} (𝓛 : Logic 𝓤) (at_mem : Memory → SProp 𝓤) (run : Routine → Fun 𝓤) (𝓣 : Tables 𝓤 𝓛.H) where
    open 𝓛 use {H}

    abbrev held : Clauses 𝓤 ended
    held = F.clauses E.row E.al.row E.al.g E.al.d E.al.drops 𝓛 at_mem run

    walk : (z : (walk_of 𝓛 ended stayed held).Ghost) → ent 𝓤 ((walk_of 𝓛 ended stayed held).pre z) (WpFn 𝓤 H 𝓣.C 𝓣.Λ fn' (z.0.4.0 ++ (z.0.4.1.0 ++ [])) ((walk_of 𝓛 ended stayed held).post z))
    walk z =
        let κs = z.0.0 in let qs = z.0.1 in let a = z.0.3.0 in let n = z.0.3.1.0 in let Post = (walk_of 𝓛 ended stayed held).post z in
        let ts : Item 𝓤 = ‵ (flft κs.0 qs.0) ⊛ ‵ (flft κs.1.0 qs.1.0) ⊛ ‵ ftrue in
        let asked : Item 𝓤 = raw ((held κs z.0.3).requires z.1) in
        qed 𝓛 ((ts ⊛ ‵ (fsep ((P E).own_val a z.0.4.0) (fsep (u32.own_val n z.0.4.1.0) ftrue))) ∷ asked ∷ []) ∵
        split ! $ move ! (1 ∷ []) $ fsplit ! $ handle_tells E.al ! a z.0.4.0 (λ hv ws fa. move ! (1 ∷ []) $ fsplit ! $ fsplit ! $ feq_l ! (λ en. flt_l ! (λ small.
        -- [true; the handle; the tokens; what was asked]
        let Γ : List (Item 𝓤) = ‵ ((P E).own_val a (hv ∷ [])) ∷ ts ∷ [] in
        keep ! (1 ∷ 2 ∷ []) $
        by ! (subst (λ (us : List Val × List Val). ent 𝓤 (types.Kit.⋆ 𝓛 Γ) (WpFn 𝓤 H 𝓣.C 𝓣.Λ fn' (us.0 ++ (us.1 ++ [])) Post)) (λ i. (sym ws i, sym en i))
        (qed 𝓛 Γ ∵ enter ! 𝓣.C 𝓣.Λ fn' (hv ∷ vint w32 n ∷ []) _ $ alloc_all ! (λ ls. pass_all ! refl (fa, ((tt, record { fits = small }), tt)) $
        sets ! (of_opd ! (get ! refl)) refl fa $
        sets ! (agg ! (and_then ! (get ! refl) (and_then ! (lit ! tt) (and_then ! (get ! refl) (no_more !))))) refl (typed n small hv fa) $ returns ! (look_at ! 0 refl) $ free_all ! refl $
        nothing ! $ move ! (1 ∷ 0 ∷ []) $ handed_in (R E) (P E) E.al.g ! n small null_ptr hv a None (
        suffices ! _ (ends_at 𝓛 ended stayed held z (word' n null_ptr hv) (made (R E) (P E) n null_ptr a None) (tt, (tt, tt)) (tt, (tt, tt))) $ says ! (refl, refl) $
        nothing ! $ nothing ! $ fjoin ! $ nothing ! $ fjoin ! $ join ! $ move ! (1 ∷ 0 ∷ []) $ join ! $ done !)))))))

pub refused_spec : {M : Type 1} → stated.statement M
unfolding tables_of
refused_spec 𝓤 𝓛 𝓜 𝓡 wired X Z LX LZ g d dd allocator md =
    let E : Bx = record { row = X; laws = LX; al = record { row = Z; laws = LZ; g = g; d = d; drops = dd } } in
    let 𝓣 : Tables 𝓤 𝓛.H = tables_of 𝓤 𝓛.H 𝓜 (tables 𝓤 𝓛.H 𝓜 𝓡 𝓡.env) in
    let fn = fn' E in
    entered 𝓤 𝓛.H (triple_of 𝓛 (ended E).signature (F.spec X Z g d dd 𝓛 𝓜.mem 𝓡.returns)) 𝓣.C 𝓣.Λ (#self (args E)) fn (code.unfolded 𝓤 𝓛.H 𝓜 𝓡 wired (X, (Z, tt)) d dd)
    (walk_Meets 𝓛 (ended E) (stayed E) (Goes-dropped 𝓛 2 (plain (λ _. P E)) no (λ κs x f. refl), (Goes-dropped 𝓛 2 (plain (λ _. u32)) yes (λ κs x f. refl), tt)) (held E 𝓛 𝓜.mem 𝓡.returns 𝓣) (WpFn 𝓤 𝓛.H 𝓣.C 𝓣.Λ fn) (WpFn-mono 𝓤 𝓛.H 𝓛.laws 𝓣 fn)
    (walk E 𝓛 𝓜.mem 𝓡.returns 𝓣))
