-- A grant goes to the receiver behind the handle.
use Rattle.segrx_c.proofs.Steps.{◌≡◌, ℕ, ◌^◌, ◌<◌, [], ◌∷◌, ◌++◌, refl, lit<, w16, w32, w64, MutBor, Ura, full_share, named, Val, vint, vptr, vnull, SProp, ent, sep, ex, id⊢, Lft, Fml, ftrue, flft, flent, Memory, Routine, Calls, Loops, WpFn, Logic, sem, Fun, fact, fact_i, fact_use, emp, tables, framed, ‵, raw, ◌⊛◌, some, later, at_ret, ◌$◌, ◌∵◌, !, qed, by, move, keep, drop, use0, use1, use2, use3, split, split3, join, pick, fsplit, fjoin, await, lft_new, lft_end, Body, of_opd, bin, lit, addr, stop, and_then, no_more, first, branches, skips, exec, returns, returns_within, enter, alloc_all, pass_all, free_all, look_at, get, through, sets, lands_as, env, FmC, yes, Is, shows, mem, uint_vals, uint_Tells, uint_Makes, uint_Lawful, u16, u32, usize, MutRef, mut_vals, lends_ref, ref_back, Ptr, block_ptr, null_ptr, RawPtr, rawptr_vals, rawptr_Tells, Testable, tests_null, plain, owned, peeks, heard, nothing, Contract, Triple, calls_at, Clauses, lasts, on_entry, triple_of, Stays, stay_dropped, walk_of, Goes-dropped, proved, leaves, boxed-Testable, ended-1}
use Rattle.segrx_c.specs.Handle.{boxed_at, handle_at}
use Rattle.segrx_c.specs.Answers.{Numbered, Unless, refused}
use Rattle.c_receiver.specs.declared.held.HeldReceiver.{HeldReceiver}
use Rattle.c_receiver.specs.contracts.held.HeldReceiver.{the_row as R}
use Rattle.c_receiver.specs.Held.{IsInUse}
use Rattle.c_receiver.specs.Held.{TakesGrant}
use Rattle.segrx_c.specs.contracts.calls.grant as g
use Rattle.segrx_c.proofs.calls.grant.Symbol.{name as #callee}
use Rattle.segrx_c.proofs.calls.grant.Met as callee
use Rattle.segrx_c.specs.contracts.segrx_receiver_grant as f
use Rattle.segrx_c.proofs.segrx_receiver_grant.Statement.{statement}
use Rattle.segrx_c.proofs.segrx_receiver_grant.Code as code

abbrev stayed : Stays f.ended.signature.params f.ended.kept
stayed = (stay_dropped (plain (λ _. RawPtr)) yes, (stay_dropped (plain (λ _. usize)) yes, (stay_dropped (plain (λ _. u32)) yes, (stay_dropped (plain (λ _. u16)) yes, (stay_dropped (plain (λ _. u32)) yes, tt)))))

module _ {M : Type 1} {𝓤 : Ura M} (𝓛 : Logic 𝓤) (at_mem : Memory → SProp 𝓤) (run : Routine → Fun 𝓤) where
  open 𝓛 use {H}

  abbrev c : Clauses 𝓤 f.ended
  c = f.clauses 𝓛 at_mem run

  abbrev G : Contract 𝓤
  G = triple_of 𝓛 g.signature (g.spec 𝓛 at_mem run)

  module _ (C : Calls 𝓤 H) (Λ : Loops 𝓤 H) (fm : FmC 𝓤 H 𝓛.laws C) (known : Triple 𝓤 (C #callee) G)
      (channel : ℕ) (fits-channel : channel < 2 ^ 64) (number : ℕ) (fits-number : number < 2 ^ 32) (sid : ℕ) (fits-sid : sid < 2 ^ 16) (bytes : ℕ) (fits-bytes : bytes < 2 ^ 32) (was : HeldReceiver) (in_use : IsInUse was) where
    abbrev y : Ptr → (walk_of 𝓛 f.ended stayed c).Ghost
    y handle = ((tt, tt, tt, (handle, (channel, (number, (sid, (bytes, tt))))), (rawptr_vals handle, (vint w64 channel ∷ [], (vint w32 number ∷ [], (vint w16 sid ∷ [], (vint w32 bytes ∷ [], tt)))))), was)

    abbrev Post : Ptr → Val → SProp 𝓤
    Post handle = (walk_of 𝓛 f.ended stayed c).post (y handle)

    abbrev Runs : Ptr → SProp 𝓤
    Runs handle = WpFn 𝓤 H C Λ code.function (rawptr_vals handle ++ ((vint w64 channel ∷ []) ++ ((vint w32 number ∷ []) ++ ((vint w16 sid ∷ []) ++ ((vint w32 bytes ∷ []) ++ []))))) (Post handle)

    abbrev F0 : Ptr → HeldReceiver → Fml
    F0 handle after = handle_at handle after

    abbrev Q : Ptr → ℕ → HeldReceiver → Type 0
    Q handle answer after = Unless (refused (handle ∷ []) []) answer (after ≡ was) (Numbered (λ answer. TakesGrant was channel number sid bytes answer after) answer × IsInUse after)

    abbrev Ends : Ptr → ℕ → SProp 𝓤
    Ends handle answer = ex 𝓤 (λ (after : HeldReceiver). sep 𝓤 (sem 𝓛 (F0 handle after)) (fact 𝓤 (Q handle answer after)))

    null_handle : ent 𝓤 (sem 𝓛 (handle_at null_ptr was)) (Runs null_ptr)
    null_handle =
        qed 𝓛 (‵ (handle_at null_ptr was) ∷ []) ∵ enter ! C Λ code.function (vnull ∷ vint w64 channel ∷ vint w32 number ∷ vint w16 sid ∷ vint w32 bytes ∷ []) _ $
        alloc_all ! (λ l. let En = env code.function.locals l in pass_all ! refl ((tt, record { fits = lit< tt }), ((tt, record { fits = fits-channel }), ((tt, record { fits = fits-number }), ((tt, record { fits = fits-sid }), ((tt, record { fits = fits-bytes }), tt))))) $
        sets ! (bin ! (get ! refl) (lit ! tt) (tests_null null_ptr (lit< tt))) refl (tt, tt) $ first ! $ branches ! (get ! refl)
        (λ t. sets ! (of_opd ! (lit ! tt)) refl (tt, record { fits = lit< tt }) $ use1 𝓛 (raw (Ends null_ptr 1)) (ended-1 𝓛 (F0 null_ptr) (Q null_ptr 1) was (refl, refl)) $
        owned ! u32 (Is u32) (uint_Makes 𝓛 w32) 1 _ (refl, lit< tt) $ returns_within ! (Post null_ptr) refl (look_at ! 0 refl) $ free_all ! refl $ keep ! (0 ∷ 1 ∷ []) $ nothing ! $ nothing ! $ fjoin ! $ nothing ! $ fjoin ! $ nothing ! $ fjoin ! $ nothing ! $ fjoin ! $ nothing ! $ fjoin ! $ nothing ! $
        by ! (leaves 𝓛 f.ended stayed c (y null_ptr) (vint w32 1) 1 (tt, (tt, (tt, (tt, (tt, tt))))) (tt, (tt, (tt, (tt, (tt, tt))))))) (λ t. absurd t))

    held_there : (b0 o0 : ℕ) (may-handle : Testable (block_ptr b0 o0)) → ent 𝓤 (sem 𝓛 (boxed_at (block_ptr b0 o0) was)) (Runs (block_ptr b0 o0))
    held_there b0 o0 may-handle =
        qed 𝓛 (‵ (boxed_at (block_ptr b0 o0) was) ∷ []) ∵ enter ! C Λ code.function (vptr b0 o0 ∷ vint w64 channel ∷ vint w32 number ∷ vint w16 sid ∷ vint w32 bytes ∷ []) _ $
        alloc_all ! (λ l. let En = env code.function.locals l in pass_all ! refl ((tt, tt), ((tt, record { fits = fits-channel }), ((tt, record { fits = fits-number }), ((tt, record { fits = fits-sid }), ((tt, record { fits = fits-bytes }), tt))))) $
        sets ! (bin ! (get ! refl) (lit ! tt) (tests_null (block_ptr b0 o0) may-handle)) refl (tt, tt) $ first ! $ branches ! (get ! refl)
        (λ t. absurd t) (λ t. skips ! $ exec ! C Λ En code.Mir.t-3 (at_ret En (Post (block_ptr b0 o0))) $
        sets ! (of_opd ! (get ! refl)) refl (tt, tt) $ sets ! (addr ! (through ! refl (stop !))) refl (tt, tt) $
        fsplit ! $ lft_new ! tt (λ α0. let κ0 : Lft = α0 ∷ [] in move ! (1 ∷ []) $
        use1 𝓛 (later (some (λ (γ : ℕ). ‵ ((MutRef (named 0) κ0 R).own_val (record { ref_ptr = (b0, o0); ghost_name = γ; now = was }) (vptr b0 o0 ∷ [])) ⊛ ‵ (flent κ0 (Body (mem R) b0 o0 γ)))))
        (lends_ref 𝓛 R (named 0) κ0 was b0 o0) $ await ! tt $ pick ! (λ γ0. split ! $ let r0 : MutBor HeldReceiver = record { ref_ptr = (b0, o0); ghost_name = γ0; now = was } in
        let z : G.Ghost = (((κ0, tt), (full_share, tt), tt, (r0, (channel, (number, (sid, (bytes, tt))))), (mut_vals r0, (vint w64 channel ∷ [], (vint w32 number ∷ [], (vint w16 sid ∷ [], (vint w32 bytes ∷ [], tt)))))), tt) in
        nothing ! $ owned ! u32 (Is u32) (uint_Makes 𝓛 w32) bytes _ (refl, fits-bytes) $ fjoin ! $ owned ! u16 (Is u16) (uint_Makes 𝓛 w16) sid _ (refl, fits-sid) $ fjoin ! $ owned ! u32 (Is u32) (uint_Makes 𝓛 w32) number _ (refl, fits-number) $ fjoin ! $ owned ! usize (Is usize) (uint_Makes 𝓛 w64) channel _ (refl, fits-channel) $ fjoin ! $ move ! (1 ∷ 0 ∷ []) $ fjoin ! $
        nothing ! $ move ! (3 ∷ 0 ∷ []) $ join ! $ join ! $ use0 𝓛 (raw (fact 𝓤 (IsInUse was))) (fact_i 𝓤 (IsInUse was) (emp 𝓤) in_use) $ move ! (1 ∷ 0 ∷ []) $ use2 𝓛 (raw (G.pre z)) (id⊢ 𝓤 _) $
        calls_at ! fm G known z (and_then ! (get ! refl) (and_then ! (get ! refl) (and_then ! (get ! refl) (and_then ! (get ! refl) (and_then ! (get ! refl) (no_more !)))))) (λ v.
        use1 𝓛 (later (some (λ (r' : ℕ). ((‵ (flft κ0 full_share) ⊛ ‵ ftrue) ⊛ ‵ (u32.own_val r' (v ∷ []))) ⊛ some (λ (ws : (HeldReceiver × (Unit {0} × (Unit {0} × (Unit {0} × (Unit {0} × Unit {0})))))).
        ‵ (lasts g.ended (κ0, tt) (r0, (channel, (number, (sid, (bytes, tt))))) ws) ⊛ (raw (fact 𝓤 (Numbered (λ answer. TakesGrant was channel number sid bytes answer ws.0) r')) ⊛ raw (fact 𝓤 (IsInUse ws.0))))))) (id⊢ 𝓤 _) $
        await ! tt $ pick ! (λ r'. split ! $ split ! $ split ! $ lft_end ! tt $ move ! (2 ∷ []) $
        peeks ! u32 (Is u32) (shows 𝓛 u32) r' (v ∷ []) (λ is. lands_as ! refl refl ((uint_Lawful 𝓛 w32).typed r' _ is).0 $ move ! (3 ∷ []) $ pick ! (λ ws. split3 ! $ move ! (1 ∷ []) $ heard ! _ (λ does. move ! (1 ∷ []) $ heard ! _ (λ still.
        fsplit ! $ fsplit ! $ move ! (1 ∷ []) $ drop ! $ move ! (1 ∷ []) $ fsplit ! $ drop ! $ fsplit ! $ drop ! $ fsplit ! $ drop ! $ fsplit ! $ drop ! $
        move ! (3 ∷ 5 ∷ 1 ∷ []) $ use3 𝓛 (later (‵ ((mem R).own_at ws.0 b0 o0))) (ref_back 𝓛 R κ0 γ0 ws.0 b0 o0) $ await ! tt $ move ! (0 ∷ 4 ∷ []) $ fjoin ! $
        use1 𝓛 (raw (Ends (block_ptr b0 o0) r')) (ended-1 𝓛 (F0 (block_ptr b0 o0)) (Q (block_ptr b0 o0) r') ws.0 (does, still)) $
        move ! (2 ∷ 0 ∷ []) $ returns ! (look_at ! 0 refl) $ free_all ! refl $ keep ! (0 ∷ 1 ∷ []) $ nothing ! $ nothing ! $ fjoin ! $ nothing ! $ fjoin ! $ nothing ! $ fjoin ! $ nothing ! $ fjoin ! $ nothing ! $ fjoin ! $ nothing ! $
        by ! (leaves 𝓛 f.ended stayed c (y (block_ptr b0 o0)) v r' (tt, (tt, (tt, (tt, (tt, tt))))) (tt, (tt, (tt, (tt, (tt, tt))))))))))))))))

    at : (handle : Ptr) → ent 𝓤 (sem 𝓛 (handle_at handle was)) (Runs handle)
    at null_ptr = null_handle
    at (block_ptr b0 o0) = fact_use 𝓤 (Testable (block_ptr b0 o0)) (boxed-Testable 𝓛 (block_ptr b0 o0) was) (λ may-handle. held_there b0 o0 may-handle)

pub segrx_receiver_grant_spec : {M : Type 1} → statement M
segrx_receiver_grant_spec 𝓤 𝓛 𝓜 𝓡 wired =
    let 𝓣 = tables 𝓤 𝓛.H 𝓜 𝓡 𝓡.env in
    proved 𝓛 f.ended stayed (c 𝓛 𝓜.mem 𝓡.returns) 𝓜 𝓡 (Goes-dropped 𝓛 0 (plain (λ _. RawPtr)) yes (λ κs x w. refl), (Goes-dropped 𝓛 0 (plain (λ _. usize)) yes (λ κs x w. refl), (Goes-dropped 𝓛 0 (plain (λ _. u32)) yes (λ κs x w. refl), (Goes-dropped 𝓛 0 (plain (λ _. u16)) yes (λ κs x w. refl), (Goes-dropped 𝓛 0 (plain (λ _. u32)) yes (λ κs x w. refl), tt)))))
    f.Key.name code.function (code.unfolded 𝓤 𝓛.H 𝓜 𝓡 wired) (λ κs. (rawptr_vals, (uint_vals w64, (uint_vals w32, (uint_vals w16, (uint_vals w32, tt)))))) (λ κs. (rawptr_Tells, (uint_Tells w64, (uint_Tells w32, (uint_Tells w16, (uint_Tells w32, tt)))))) (λ κs qs bounds a was are.
    qed 𝓛 (raw (on_entry 𝓛 f.signature κs qs a (rawptr_vals a.0, (vint w64 a.1.0 ∷ [], (vint w32 a.1.1.0 ∷ [], (vint w16 a.1.1.1.0 ∷ [], (vint w32 a.1.1.1.1.0 ∷ [], tt)))))) ∷ (‵ (handle_at a.0 was) ⊛ raw (fact 𝓤 (IsInUse was))) ∷ []) ∵ move ! (1 ∷ []) $ split ! $ move ! (1 ∷ []) $ heard ! (IsInUse was) (λ in_use. move ! (1 ∷ []) $ drop ! $
    by ! (at 𝓛 𝓜.mem 𝓡.returns 𝓣.C 𝓣.Λ (framed 𝓤 𝓛.H 𝓜 𝓣) (callee.met 𝓤 𝓛 𝓜 𝓡 (code.calls-segrx_c::calls::grant 𝓡.env wired)) a.1.0 are.1.0.1 a.1.1.0 are.1.1.0.1 a.1.1.1.0 are.1.1.1.0.1 a.1.1.1.1.0 are.1.1.1.1.0.1 was in_use a.0)))
