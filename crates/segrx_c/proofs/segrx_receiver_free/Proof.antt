-- The receiver behind the handle becomes a box again, and is let go.
use Rattle.segrx_c.proofs.Steps.{Memory, Routine, Calls, Loops, Logic, Fun, FmC, Contract, Triple, Clauses, Lasts, proved, rawptr_vals, rawptr_Tells, ◌≡◌, ℕ, [], ◌∷◌, ◌++◌, refl, lit<, w32, Ura, Val, vint, vptr, vnull, SProp, ent, sep, id⊢, via, snd∗, ftrue, fsep, WpFn, sem, fact, fact_i, fact_use, emp, tables, framed, ‵, raw, ◌⊛◌, some, later, at_ret, ◌$◌, ◌∵◌, !, qed, by, move, keep, drop, use0, use1, use2, split, join, pick, fsplit, fjoin, await, of_opd, bin, lit, and_then, no_more, first, branches, skips, exec, returns, returns_within, enter, agg, alloc_all, pass_all, free_all, look_at, get, sets, lands_as, env, yes, Is, shows, uint_Makes, uint_Lawful, u32, Ptr, block_ptr, null_ptr, RawPtr, Testable, tests_null, plain, owned, peeks, heard, nothing, calls_at, lasts, triple_of, Stays, stay_dropped, walk_of, Goes-dropped, leaves, boxed-Testable}
use Rattle.std.proofs.Common.{Some}
use Rattle.std.specs.declared.alloc.Global.{Global}
use Rattle.std.proofs.alloc.Calls.{Al, Fits}
use Rattle.std.specs.contracts.alloc.Global as heap
use Rattle.std.proofs.alloc.Global.TheLaws as heap_laws
use Rattle.std.specs.contracts.impls.GlobalAllocator.TheImpl.{ghosts}
use mir.Syntax.{given as dict_at}
use Rattle.c_receiver.specs.declared.held.HeldReceiver.{HeldReceiver}
use Rattle.c_receiver.specs.contracts.held.HeldReceiver.{the_row as R}
use Rattle.segrx_c.specs.Handle.{boxed_at, handle_at}
use Rattle.segrx_c.proofs.HandedSteps.{word, made, handed_in, handed_typed}
use Rattle.segrx_c.specs.contracts.calls.free as g
use Rattle.segrx_c.proofs.calls.free.Met as callee
use Rattle.segrx_c.proofs.calls.free.Symbol.{name as #callee}
use Rattle.segrx_c.specs.contracts.segrx_receiver_free as f
use Rattle.segrx_c.proofs.segrx_receiver_free.Statement.{statement}
use Rattle.segrx_c.proofs.segrx_receiver_free.Code as code

abbrev stayed : Stays f.ended.signature.params f.ended.kept
stayed = (stay_dropped (plain (λ _. heap.the_row)) yes, (stay_dropped (plain (λ _. RawPtr)) yes, tt))

-- the allocator's machine value, whichever it is
abbrev word-of : Global → Val
word-of a = heap_laws.the_told.val a

abbrev Z : Al
Z = record { row = heap.the_row; laws = heap_laws.the_row_laws; g = ghosts; d = dict_at 0; drops = dict_at 0 }

module _ {M : Type 1} {𝓤 : Ura M} (𝓛 : Logic 𝓤) (at_mem : Memory → SProp 𝓤) (run : Routine → Fun 𝓤) where
  open 𝓛 use {H}

  abbrev c : Clauses 𝓤 f.ended
  c = f.clauses 𝓛 at_mem run

  abbrev G : Contract 𝓤
  G = triple_of 𝓛 g.signature (g.spec 𝓛 at_mem run)

  module _ (C : Calls 𝓤 H) (Λ : Loops 𝓤 H) (fm : FmC 𝓤 H 𝓛.laws C) (known : Triple 𝓤 (C #callee) G) (alloc : Global) (fits : Fits Z (word-of alloc)) (was : HeldReceiver) where
    abbrev y : Ptr → (walk_of 𝓛 f.ended stayed c).Ghost
    y handle = ((tt, tt, tt, (alloc, (handle, tt)), (word-of alloc ∷ [], (rawptr_vals handle, tt))), was)

    abbrev Post : Ptr → Val → SProp 𝓤
    Post handle = (walk_of 𝓛 f.ended stayed c).post (y handle)

    abbrev Runs : Ptr → SProp 𝓤
    Runs handle = WpFn 𝓤 H C Λ code.function (word-of alloc ∷ (rawptr_vals handle ++ [])) (Post handle)

    null_handle : ent 𝓤 (sem 𝓛 (handle_at null_ptr was)) (Runs null_ptr)
    null_handle =
        qed 𝓛 (‵ (handle_at null_ptr was) ∷ []) ∵ drop ! $ enter ! C Λ code.function (word-of alloc ∷ vnull ∷ []) _ $
        alloc_all ! (λ l. let En = env code.function.locals l in pass_all ! refl (fits, ((tt, record { fits = lit< tt }), tt)) $
        sets ! (bin ! (get ! refl) (lit ! tt) (tests_null null_ptr (lit< tt))) refl (tt, tt) $ first ! $ branches ! (get ! refl)
        (λ t. sets ! (of_opd ! (lit ! tt)) refl (tt, record { fits = lit< tt }) $
        use0 𝓛 (raw (fact 𝓤 (1 ≡ 1))) (fact_i 𝓤 (1 ≡ 1) (emp 𝓤) refl) $ owned ! u32 (Is u32) (uint_Makes 𝓛 w32) 1 _ (refl, lit< tt) $
        returns_within ! (Post null_ptr) refl (look_at ! 0 refl) $ free_all ! refl $ nothing ! $ nothing ! $ fjoin ! $ nothing ! $ fjoin ! $ nothing ! $
        by ! (leaves 𝓛 f.ended stayed c (y null_ptr) (vint w32 1) 1 (tt, (tt, tt)) (tt, (tt, tt)))) (λ t. absurd t))

    held_there : (b o : ℕ) → Testable (block_ptr b o) → ent 𝓤 (sep 𝓤 (sem 𝓛 (Z.row.own_val alloc (word-of alloc ∷ []))) (sem 𝓛 (boxed_at (block_ptr b o) was))) (Runs (block_ptr b o))
    held_there b o may =
        let p : Ptr = block_ptr b o in let hv = word-of alloc in
        qed 𝓛 (‵ (Z.row.own_val alloc (hv ∷ [])) ∷ ‵ (boxed_at p was) ∷ []) ∵ enter ! C Λ code.function (hv ∷ vptr b o ∷ []) _ $
        alloc_all ! (λ l. let En = env code.function.locals l in pass_all ! refl (fits, ((tt, tt), tt)) $
        sets ! (bin ! (get ! refl) (lit ! tt) (tests_null p may)) refl (tt, tt) $ first ! $ branches ! (get ! refl)
        (λ t. absurd t) (λ t. skips ! $ exec ! C Λ En code.Mir.t-3 (at_ret En (Post p)) $
        sets ! (of_opd ! (get ! refl)) refl (tt, tt) $
        sets ! (agg ! (and_then ! (lit ! tt) (and_then ! (get ! refl) (and_then ! (get ! refl) (no_more !))))) refl (handed_typed Z 0 (lit< tt) hv b o fits) $
        handed_in R Z.row ghosts ! 0 (lit< tt) p hv alloc (Some was) (
        let h = made R Z.row 0 p alloc (Some was) in
        let z : G.Ghost = ((tt, tt, tt, (h, tt), (word 0 p hv ∷ [], tt)), was) in
        nothing ! $ move ! (1 ∷ 0 ∷ []) $ fjoin ! $ nothing ! $ join ! $ use0 𝓛 (raw (fact 𝓤 (h.value ≡ Some was))) (fact_i 𝓤 (h.value ≡ Some was) (emp 𝓤) refl) $
        move ! (1 ∷ 0 ∷ []) $ use2 𝓛 (raw (G.pre z)) (id⊢ 𝓤 _) $
        calls_at ! fm G known z (and_then ! (get ! refl) (no_more !)) (λ v.
        use1 𝓛 (later (some (λ (r' : ℕ). (‵ ftrue ⊛ ‵ (u32.own_val r' (v ∷ []))) ⊛ some (λ (ws : Lasts g.ended tt (h, tt)). ‵ (lasts g.ended tt (h, tt) ws) ⊛ raw (fact 𝓤 (r' ≡ 0)))))) (id⊢ 𝓤 _) $
        await ! tt $ pick ! (λ r'. split ! $ move ! (1 ∷ []) $ pick ! (λ ws. split ! $ drop ! $ heard ! _ (λ done'. split ! $ drop ! $
        peeks ! u32 (Is u32) (shows 𝓛 u32) r' (v ∷ []) (λ is. lands_as ! refl refl ((uint_Lawful 𝓛 w32).typed r' _ is).0 $
        use0 𝓛 (raw (fact 𝓤 (r' ≡ 0))) (fact_i 𝓤 (r' ≡ 0) (emp 𝓤) done') $
        returns ! (look_at ! 0 refl) $ free_all ! refl $ keep ! (1 ∷ 0 ∷ []) $ nothing ! $ nothing ! $ fjoin ! $ nothing ! $ fjoin ! $ nothing ! $
        by ! (leaves 𝓛 f.ended stayed c (y p) v r' (tt, (tt, tt)) (tt, (tt, tt)))))))))))

    at : (handle : Ptr) → ent 𝓤 (sep 𝓤 (sem 𝓛 (Z.row.own_val alloc (word-of alloc ∷ []))) (sem 𝓛 (handle_at handle was))) (Runs handle)
    at null_ptr = qed 𝓛 (‵ (Z.row.own_val alloc (word-of alloc ∷ [])) ∷ ‵ (handle_at null_ptr was) ∷ []) ∵ drop ! $ by ! null_handle
    at (block_ptr b o) = fact_use 𝓤 (Testable (block_ptr b o)) (via 𝓤 _ (snd∗ 𝓤 (sem 𝓛 (Z.row.own_val alloc (word-of alloc ∷ []))) (sem 𝓛 (boxed_at (block_ptr b o) was))) (boxed-Testable 𝓛 (block_ptr b o) was)) (held_there b o)

pub segrx_receiver_free_spec : {M : Type 1} → statement M
segrx_receiver_free_spec 𝓤 𝓛 𝓜 𝓡 wired =
    let 𝓣 = tables 𝓤 𝓛.H 𝓜 𝓡 𝓡.env in
    proved 𝓛 f.ended stayed (c 𝓛 𝓜.mem 𝓡.returns) 𝓜 𝓡 (Goes-dropped 𝓛 0 (plain (λ _. heap.the_row)) yes (λ κs x w. refl), (Goes-dropped 𝓛 0 (plain (λ _. RawPtr)) yes (λ κs x w. refl), tt))
    f.Key.name code.function (code.unfolded 𝓤 𝓛.H 𝓜 𝓡 wired) (λ κs. ((λ a. word-of a ∷ []), (rawptr_vals, tt))) (λ κs. (heap_laws.the_told.tells, (rawptr_Tells, tt))) (λ κs qs bounds a was are.
    qed 𝓛 ((‵ ftrue ⊛ ‵ (fsep (Z.row.own_val a.0 (word-of a.0 ∷ [])) (fsep (RawPtr.own_val a.1.0 (rawptr_vals a.1.0)) ftrue))) ∷ ‵ (handle_at a.1.0 was) ∷ []) ∵
    split ! $ move ! (1 ∷ []) $ fsplit ! $ keep ! (0 ∷ 3 ∷ []) $
    by ! (at 𝓛 𝓜.mem 𝓡.returns 𝓣.C 𝓣.Λ (framed 𝓤 𝓛.H 𝓜 𝓣) (callee.met 𝓤 𝓛 𝓜 𝓡 (code.calls-segrx_c::calls::free 𝓡.env wired)) a.0 (((heap_laws.the_row_laws.lawful 𝓛).typed a.0 (word-of a.0 ∷ []) are.0).0) was a.1.0))
