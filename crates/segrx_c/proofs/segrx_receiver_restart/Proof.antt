-- A flow of the receiver behind the handle begins anew.
use Rattle.segrx_c.proofs.Steps.{◌≡◌, ℕ, ◌^◌, ◌<◌, [], ◌∷◌, ◌++◌, refl, lit<, w16, w32, w64, MutBor, Ura, full_share, named, Val, vint, vptr, vnull, SProp, ent, sep, ex, id⊢, via, fst∗, Lft, Fml, ftrue, flft, flent, Memory, Routine, Calls, Loops, WpFn, Logic, sem, Fun, fact, fact_i, fact_use, emp, tables, framed, ‵, raw, ◌⊛◌, some, later, at_ret, ◌$◌, ◌∵◌, !, qed, by, move, keep, drop, use0, use1, use2, use3, split, split3, join, pick, fsplit, fjoin, await, lft_new, lft_end, Body, of_opd, bin, lit, addr, stop, and_then, no_more, first, branches, skips, exec, returns, returns_within, enter, alloc_all, pass_all, free_all, look_at, get, through, sets, lands_as, env, FmC, yes, Is, shows, mem, uint_vals, uint_Tells, uint_Makes, uint_Lawful, u16, u32, usize, MutRef, mut_vals, lends_ref, ref_back, Ptr, block_ptr, null_ptr, ptr_val, RawPtr, rawptr_vals, rawptr_Tells, Testable, tests_null, plain, owned, peeks, heard, nothing, Contract, Triple, calls_at, Clauses, lasts, on_entry, triple_of, Stays, stay_dropped, walk_of, Goes-dropped, proved, leaves, typed, boxed-Testable, ended-2, points_to}
use Rattle.segrx_c.specs.Handle.{boxed_at, handle_at, value_at}
use Rattle.segrx_c.specs.Answers.{Numbered, Unless, refused}
use Rattle.c_receiver.specs.declared.held.HeldReceiver.{HeldReceiver}
use Rattle.c_receiver.specs.contracts.held.HeldReceiver.{the_row as R}
use Rattle.c_receiver.specs.Held.{IsInUse}
use Rattle.c_receiver.specs.Held.{Restarts}
use Rattle.c_receiver.specs.declared.plain.PlainCounts.{PlainCounts}
use Rattle.c_receiver.specs.contracts.plain.PlainCounts as out_type
use Rattle.segrx_c.specs.contracts.calls.restart as g
use Rattle.segrx_c.proofs.calls.restart.Symbol.{name as #callee}
use Rattle.segrx_c.proofs.calls.restart.Met as callee
use Rattle.segrx_c.specs.contracts.segrx_receiver_restart as f
use Rattle.segrx_c.proofs.segrx_receiver_restart.Statement.{statement}
use Rattle.segrx_c.proofs.segrx_receiver_restart.Code as code

abbrev stayed : Stays f.ended.signature.params f.ended.kept
stayed = (stay_dropped (plain (λ _. RawPtr)) yes, (stay_dropped (plain (λ _. usize)) yes, (stay_dropped (plain (λ _. u16)) yes, (stay_dropped (plain (λ _. RawPtr)) yes, tt))))

module _ {M : Type 1} {𝓤 : Ura M} (𝓛 : Logic 𝓤) (at_mem : Memory → SProp 𝓤) (run : Routine → Fun 𝓤) where
  open 𝓛 use {H}

  abbrev c : Clauses 𝓤 f.ended
  c = f.clauses 𝓛 at_mem run

  abbrev G : Contract 𝓤
  G = triple_of 𝓛 g.signature (g.spec 𝓛 at_mem run)

  module _ (C : Calls 𝓤 H) (Λ : Loops 𝓤 H) (fm : FmC 𝓤 H 𝓛.laws C) (known : Triple 𝓤 (C #callee) G)
      (flow : ℕ) (fits-flow : flow < 2 ^ 64) (number : ℕ) (fits-number : number < 2 ^ 16) (was : (HeldReceiver × PlainCounts)) (in_use : IsInUse was.0) where
    abbrev y : Ptr → Ptr → (walk_of 𝓛 f.ended stayed c).Ghost
    y handle counts = ((tt, tt, tt, (handle, (flow, (number, (counts, tt)))), (rawptr_vals handle, (vint w64 flow ∷ [], (vint w16 number ∷ [], (rawptr_vals counts, tt))))), was)

    abbrev Post : Ptr → Ptr → Val → SProp 𝓤
    Post handle counts = (walk_of 𝓛 f.ended stayed c).post (y handle counts)

    abbrev Runs : Ptr → Ptr → SProp 𝓤
    Runs handle counts = WpFn 𝓤 H C Λ code.function (rawptr_vals handle ++ ((vint w64 flow ∷ []) ++ ((vint w16 number ∷ []) ++ (rawptr_vals counts ++ [])))) (Post handle counts)

    abbrev F0 : Ptr → (HeldReceiver × PlainCounts) → Fml
    F0 handle after = handle_at handle after.0

    abbrev F1 : Ptr → (HeldReceiver × PlainCounts) → Fml
    F1 counts after = value_at out_type.the_row counts after.1

    abbrev Q : Ptr → Ptr → ℕ → (HeldReceiver × PlainCounts) → Type 0
    Q handle counts answer after = Unless (refused (handle ∷ counts ∷ []) []) answer (after ≡ was) (Numbered (λ answer. Restarts was.0 flow number was.1 answer after.0 after.1) answer × IsInUse after.0)

    abbrev Ends : Ptr → Ptr → ℕ → SProp 𝓤
    Ends handle counts answer = ex 𝓤 (λ (after : (HeldReceiver × PlainCounts)). sep 𝓤 (sem 𝓛 (F0 handle after)) (sep 𝓤 (sem 𝓛 (F1 counts after)) (fact 𝓤 (Q handle counts answer after))))

    null_handle : (counts : Ptr) → ent 𝓤 (sep 𝓤 (sem 𝓛 (handle_at null_ptr was.0)) (sem 𝓛 (value_at out_type.the_row counts was.1))) (Runs null_ptr counts)
    null_handle counts =
        qed 𝓛 (‵ (handle_at null_ptr was.0) ∷ ‵ (value_at out_type.the_row counts was.1) ∷ []) ∵ enter ! C Λ code.function (vnull ∷ vint w64 flow ∷ vint w16 number ∷ ptr_val counts ∷ []) _ $
        alloc_all ! (λ l. let En = env code.function.locals l in pass_all ! refl ((tt, record { fits = lit< tt }), ((tt, record { fits = fits-flow }), ((tt, record { fits = fits-number }), (typed counts, tt)))) $
        sets ! (bin ! (get ! refl) (lit ! tt) (tests_null null_ptr (lit< tt))) refl (tt, tt) $ first ! $ branches ! (get ! refl)
        (λ t. sets ! (of_opd ! (lit ! tt)) refl (tt, record { fits = lit< tt }) $ use2 𝓛 (raw (Ends null_ptr counts 1)) (ended-2 𝓛 (F0 null_ptr) (F1 counts) (Q null_ptr counts 1) was (refl, refl)) $
        owned ! u32 (Is u32) (uint_Makes 𝓛 w32) 1 _ (refl, lit< tt) $ returns_within ! (Post null_ptr counts) refl (look_at ! 0 refl) $ free_all ! refl $ keep ! (0 ∷ 1 ∷ []) $ nothing ! $ nothing ! $ fjoin ! $ nothing ! $ fjoin ! $ nothing ! $ fjoin ! $ nothing ! $ fjoin ! $ nothing ! $
        by ! (leaves 𝓛 f.ended stayed c (y null_ptr counts) (vint w32 1) 1 (tt, (tt, (tt, (tt, tt)))) (tt, (tt, (tt, (tt, tt)))))) (λ t. absurd t))

    null_counts : (b0 o0 : ℕ) (may-handle : Testable (block_ptr b0 o0)) → ent 𝓤 (sep 𝓤 (sem 𝓛 (handle_at (block_ptr b0 o0) was.0)) (sem 𝓛 (value_at out_type.the_row null_ptr was.1))) (Runs (block_ptr b0 o0) null_ptr)
    null_counts b0 o0 may-handle =
        qed 𝓛 (‵ (handle_at (block_ptr b0 o0) was.0) ∷ ‵ (value_at out_type.the_row null_ptr was.1) ∷ []) ∵ enter ! C Λ code.function (vptr b0 o0 ∷ vint w64 flow ∷ vint w16 number ∷ vnull ∷ []) _ $
        alloc_all ! (λ l. let En = env code.function.locals l in pass_all ! refl ((tt, tt), ((tt, record { fits = fits-flow }), ((tt, record { fits = fits-number }), ((tt, record { fits = lit< tt }), tt)))) $
        sets ! (bin ! (get ! refl) (lit ! tt) (tests_null (block_ptr b0 o0) may-handle)) refl (tt, tt) $ first ! $ branches ! (get ! refl)
        (λ t. absurd t) (λ t. skips ! $ exec ! C Λ En code.Mir.t-3 (at_ret En (Post (block_ptr b0 o0) null_ptr)) $
        sets ! (bin ! (get ! refl) (lit ! tt) (tests_null null_ptr (lit< tt))) refl (tt, tt) $ first ! $ branches ! (get ! refl)
        (λ t. sets ! (of_opd ! (lit ! tt)) refl (tt, record { fits = lit< tt }) $ use2 𝓛 (raw (Ends (block_ptr b0 o0) null_ptr 1)) (ended-2 𝓛 (F0 (block_ptr b0 o0)) (F1 null_ptr) (Q (block_ptr b0 o0) null_ptr 1) was (refl, refl)) $
        owned ! u32 (Is u32) (uint_Makes 𝓛 w32) 1 _ (refl, lit< tt) $ returns_within ! (Post (block_ptr b0 o0) null_ptr) refl (look_at ! 0 refl) $ free_all ! refl $ keep ! (0 ∷ 1 ∷ []) $ nothing ! $ nothing ! $ fjoin ! $ nothing ! $ fjoin ! $ nothing ! $ fjoin ! $ nothing ! $ fjoin ! $ nothing ! $
        by ! (leaves 𝓛 f.ended stayed c (y (block_ptr b0 o0) null_ptr) (vint w32 1) 1 (tt, (tt, (tt, (tt, tt)))) (tt, (tt, (tt, (tt, tt)))))) (λ t. absurd t)))

    held_there : (b0 o0 b1 o1 : ℕ) (may-handle : Testable (block_ptr b0 o0)) (may-counts : Testable (block_ptr b1 o1)) → ent 𝓤 (sep 𝓤 (sem 𝓛 (boxed_at (block_ptr b0 o0) was.0)) (sem 𝓛 (points_to out_type.the_row (block_ptr b1 o1) was.1))) (Runs (block_ptr b0 o0) (block_ptr b1 o1))
    held_there b0 o0 b1 o1 may-handle may-counts =
        qed 𝓛 (‵ (boxed_at (block_ptr b0 o0) was.0) ∷ ‵ (points_to out_type.the_row (block_ptr b1 o1) was.1) ∷ []) ∵ enter ! C Λ code.function (vptr b0 o0 ∷ vint w64 flow ∷ vint w16 number ∷ vptr b1 o1 ∷ []) _ $
        alloc_all ! (λ l. let En = env code.function.locals l in pass_all ! refl ((tt, tt), ((tt, record { fits = fits-flow }), ((tt, record { fits = fits-number }), ((tt, tt), tt)))) $
        sets ! (bin ! (get ! refl) (lit ! tt) (tests_null (block_ptr b0 o0) may-handle)) refl (tt, tt) $ first ! $ branches ! (get ! refl)
        (λ t. absurd t) (λ t. skips ! $ exec ! C Λ En code.Mir.t-3 (at_ret En (Post (block_ptr b0 o0) (block_ptr b1 o1))) $
        sets ! (bin ! (get ! refl) (lit ! tt) (tests_null (block_ptr b1 o1) may-counts)) refl (tt, tt) $ first ! $ branches ! (get ! refl)
        (λ t. absurd t) (λ t. skips ! $ exec ! C Λ En code.Mir.t-5 (at_ret En (Post (block_ptr b0 o0) (block_ptr b1 o1))) $
        sets ! (of_opd ! (get ! refl)) refl (tt, tt) $ sets ! (addr ! (through ! refl (stop !))) refl (tt, tt) $ sets ! (addr ! (through ! refl (stop !))) refl (tt, tt) $
        fsplit ! $ lft_new ! tt (λ α0. let κ0 : Lft = α0 ∷ [] in move ! (1 ∷ []) $
        use1 𝓛 (later (some (λ (γ : ℕ). ‵ ((MutRef (named 0) κ0 R).own_val (record { ref_ptr = (b0, o0); ghost_name = γ; now = was.0 }) (vptr b0 o0 ∷ [])) ⊛ ‵ (flent κ0 (Body (mem R) b0 o0 γ)))))
        (lends_ref 𝓛 R (named 0) κ0 was.0 b0 o0) $ await ! tt $ pick ! (λ γ0. split ! $ let r0 : MutBor HeldReceiver = record { ref_ptr = (b0, o0); ghost_name = γ0; now = was.0 } in
        move ! (4 ∷ []) $ lft_new ! tt (λ α1. let κ1 : Lft = α1 ∷ [] in move ! (1 ∷ []) $
        use1 𝓛 (later (some (λ (γ : ℕ). ‵ ((MutRef (named 0) κ1 out_type.the_row).own_val (record { ref_ptr = (b1, o1); ghost_name = γ; now = was.1 }) (vptr b1 o1 ∷ [])) ⊛ ‵ (flent κ1 (Body (mem out_type.the_row) b1 o1 γ)))))
        (lends_ref 𝓛 out_type.the_row (named 0) κ1 was.1 b1 o1) $ await ! tt $ pick ! (λ γ1. split ! $ let r1 : MutBor PlainCounts = record { ref_ptr = (b1, o1); ghost_name = γ1; now = was.1 } in
        let z : G.Ghost = (((κ0, (κ1, tt)), (full_share, (full_share, tt)), tt, (r0, (flow, (number, (r1, tt)))), (mut_vals r0, (vint w64 flow ∷ [], (vint w16 number ∷ [], (mut_vals r1, tt))))), tt) in
        nothing ! $ move ! (1 ∷ 0 ∷ []) $ fjoin ! $ owned ! u16 (Is u16) (uint_Makes 𝓛 w16) number _ (refl, fits-number) $ fjoin ! $ owned ! usize (Is usize) (uint_Makes 𝓛 w64) flow _ (refl, fits-flow) $ fjoin ! $ move ! (3 ∷ 0 ∷ []) $ fjoin ! $
        nothing ! $ move ! (3 ∷ 0 ∷ []) $ join ! $ move ! (4 ∷ 0 ∷ []) $ join ! $ join ! $ use0 𝓛 (raw (fact 𝓤 (IsInUse was.0))) (fact_i 𝓤 (IsInUse was.0) (emp 𝓤) in_use) $ move ! (1 ∷ 0 ∷ []) $ use2 𝓛 (raw (G.pre z)) (id⊢ 𝓤 _) $
        calls_at ! fm G known z (and_then ! (get ! refl) (and_then ! (get ! refl) (and_then ! (get ! refl) (and_then ! (get ! refl) (no_more !))))) (λ v.
        use1 𝓛 (later (some (λ (r' : ℕ). ((‵ (flft κ0 full_share) ⊛ (‵ (flft κ1 full_share) ⊛ ‵ ftrue)) ⊛ ‵ (u32.own_val r' (v ∷ []))) ⊛ some (λ (ws : (HeldReceiver × (Unit {0} × (Unit {0} × (PlainCounts × Unit {0}))))).
        ‵ (lasts g.ended (κ0, (κ1, tt)) (r0, (flow, (number, (r1, tt)))) ws) ⊛ (raw (fact 𝓤 (Numbered (λ answer. Restarts was.0 flow number was.1 answer ws.0 ws.1.1.1.0) r')) ⊛ raw (fact 𝓤 (IsInUse ws.0))))))) (id⊢ 𝓤 _) $
        await ! tt $ pick ! (λ r'. split ! $ split ! $ split ! $ lft_end ! tt $ move ! (1 ∷ []) $ split ! $ lft_end ! tt $ move ! (3 ∷ []) $
        peeks ! u32 (Is u32) (shows 𝓛 u32) r' (v ∷ []) (λ is. lands_as ! refl refl ((uint_Lawful 𝓛 w32).typed r' _ is).0 $ move ! (4 ∷ []) $ pick ! (λ ws. split3 ! $ move ! (1 ∷ []) $ heard ! _ (λ does. move ! (1 ∷ []) $ heard ! _ (λ still.
        fsplit ! $ fsplit ! $ move ! (1 ∷ []) $ drop ! $ move ! (1 ∷ []) $ fsplit ! $ drop ! $ fsplit ! $ drop ! $ fsplit ! $ fsplit ! $ move ! (1 ∷ []) $ drop ! $
        move ! (6 ∷ 8 ∷ 2 ∷ []) $ use3 𝓛 (later (‵ ((mem R).own_at ws.0 b0 o0))) (ref_back 𝓛 R κ0 γ0 ws.0 b0 o0) $ await ! tt $ move ! (0 ∷ 7 ∷ []) $ fjoin ! $
        move ! (4 ∷ 6 ∷ 1 ∷ []) $ use3 𝓛 (later (‵ ((mem out_type.the_row).own_at ws.1.1.1.0 b1 o1))) (ref_back 𝓛 out_type.the_row κ1 γ1 ws.1.1.1.0 b1 o1) $ await ! tt $
        move ! (1 ∷ 0 ∷ []) $ use2 𝓛 (raw (Ends (block_ptr b0 o0) (block_ptr b1 o1) r')) (ended-2 𝓛 (F0 (block_ptr b0 o0)) (F1 (block_ptr b1 o1)) (Q (block_ptr b0 o0) (block_ptr b1 o1) r') ((ws.0, ws.1.1.1.0)) (does, still)) $
        move ! (2 ∷ 0 ∷ []) $ returns ! (look_at ! 0 refl) $ free_all ! refl $ keep ! (0 ∷ 1 ∷ []) $ nothing ! $ nothing ! $ fjoin ! $ nothing ! $ fjoin ! $ nothing ! $ fjoin ! $ nothing ! $ fjoin ! $ nothing ! $
        by ! (leaves 𝓛 f.ended stayed c (y (block_ptr b0 o0) (block_ptr b1 o1)) v r' (tt, (tt, (tt, (tt, tt)))) (tt, (tt, (tt, (tt, tt))))))))))))))))))

    at : (handle counts : Ptr) → Testable counts → ent 𝓤 (sep 𝓤 (sem 𝓛 (handle_at handle was.0)) (sem 𝓛 (value_at out_type.the_row counts was.1))) (Runs handle counts)
    at null_ptr counts may-counts = null_handle counts
    at (block_ptr b0 o0) null_ptr may-counts = fact_use 𝓤 (Testable (block_ptr b0 o0)) (via 𝓤 _ (fst∗ 𝓤 (sem 𝓛 (boxed_at (block_ptr b0 o0) was.0)) (sem 𝓛 (value_at out_type.the_row null_ptr was.1))) (boxed-Testable 𝓛 (block_ptr b0 o0) was.0)) (λ may-handle. null_counts b0 o0 may-handle)
    at (block_ptr b0 o0) (block_ptr b1 o1) may-counts = fact_use 𝓤 (Testable (block_ptr b0 o0)) (via 𝓤 _ (fst∗ 𝓤 (sem 𝓛 (boxed_at (block_ptr b0 o0) was.0)) (sem 𝓛 (value_at out_type.the_row (block_ptr b1 o1) was.1))) (boxed-Testable 𝓛 (block_ptr b0 o0) was.0)) (λ may-handle. held_there b0 o0 b1 o1 may-handle may-counts)

pub segrx_receiver_restart_spec : {M : Type 1} → statement M
segrx_receiver_restart_spec 𝓤 𝓛 𝓜 𝓡 wired =
    let 𝓣 = tables 𝓤 𝓛.H 𝓜 𝓡 𝓡.env in
    proved 𝓛 f.ended stayed (c 𝓛 𝓜.mem 𝓡.returns) 𝓜 𝓡 (Goes-dropped 𝓛 0 (plain (λ _. RawPtr)) yes (λ κs x w. refl), (Goes-dropped 𝓛 0 (plain (λ _. usize)) yes (λ κs x w. refl), (Goes-dropped 𝓛 0 (plain (λ _. u16)) yes (λ κs x w. refl), (Goes-dropped 𝓛 0 (plain (λ _. RawPtr)) yes (λ κs x w. refl), tt))))
    f.Key.name code.function (code.unfolded 𝓤 𝓛.H 𝓜 𝓡 wired) (λ κs. (rawptr_vals, (uint_vals w64, (uint_vals w16, (rawptr_vals, tt))))) (λ κs. (rawptr_Tells, (uint_Tells w64, (uint_Tells w16, (rawptr_Tells, tt))))) (λ κs qs bounds a was are.
    qed 𝓛 (raw (on_entry 𝓛 f.signature κs qs a (rawptr_vals a.0, (vint w64 a.1.0 ∷ [], (vint w16 a.1.1.0 ∷ [], (rawptr_vals a.1.1.1.0, tt))))) ∷ (raw (fact 𝓤 (Testable a.1.1.1.0)) ⊛ (‵ (handle_at a.0 was.0) ⊛ ‵ (value_at out_type.the_row a.1.1.1.0 was.1) ⊛ raw (fact 𝓤 (IsInUse was.0)))) ∷ []) ∵ move ! (1 ∷ []) $ split ! $ heard ! (Testable a.1.1.1.0) (λ may-counts. split ! $ move ! (1 ∷ []) $ split ! $ move ! (1 ∷ []) $ heard ! (IsInUse was.0) (λ in_use. move ! (2 ∷ []) $ drop ! $ move ! (1 ∷ 0 ∷ []) $
    by ! (at 𝓛 𝓜.mem 𝓡.returns 𝓣.C 𝓣.Λ (framed 𝓤 𝓛.H 𝓜 𝓣) (callee.met 𝓤 𝓛 𝓜 𝓡 (code.calls-segrx_c::calls::restart 𝓡.env wired)) a.1.0 are.1.0.1 a.1.1.0 are.1.1.0.1 was in_use a.0 a.1.1.1.0 may-counts))))
