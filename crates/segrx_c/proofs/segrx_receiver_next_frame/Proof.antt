-- The next frame is told, and its bytes are put into the caller's room, which is lent for the call.
use Rattle.segrx_c.proofs.Steps.{◌≡◌, ℕ, ◌^◌, ◌<◌, ◌*◌, ◌≤◌, List, [], ◌∷◌, ◌++◌, length, Bool, true, false, refl, lit<, arith, w32, w64, MutBor, Ura, full_share, named, Val, vint, vptr, vnull, SProp, ent, sep, ex, id⊢, via, fst∗, Lft, Fml, ftrue, fsep, flft, flent, Memory, Routine, Calls, Loops, WpFn, Logic, sem, Fun, fact, fact_i, fact_use, emp, tables, framed, ‵, raw, ◌⊛◌, some, later, at_ret, ◌$◌, ◌∵◌, !, qed, by, move, keep, drop, use0, use1, use2, use3, split, split3, join, pick, fsplit, fjoin, await, lft_new, lft_end, Body, of_opd, bin, lit, addr, stop, and_then, no_more, first, branches, skips, exec, returns, returns_within, enter, agg, alloc_all, pass_all, free_all, look_at, get, through, sets, lands_as, env, FmC, yes, Is, shows, mem, uint_vals, uint_Tells, uint_Makes, uint_Lawful, u8, u32, usize, MutRef, mut_vals, lends_ref, ref_back, Ptr, block_ptr, null_ptr, ptr_val, RawPtr, rawptr_vals, rawptr_Tells, Testable, tests_null, plain, owned, peeks, heard, nothing, Contract, Triple, calls_at, Clauses, lasts, on_entry, triple_of, Stays, stay_dropped, walk_of, Goes-dropped, proved, leaves, typed, boxed-Testable, ended-3, apart, row_in, row_out, rejoined, within, beyond, nat_lt, not, T, subst, sym, nltb→le, feq, feq_l, cells, Arr, Array, Array-apart, whole_in, lends_slice, slice_back, MutSlice, slice_val, LentSlice, big_lit, points_to}
use Rattle.segrx_c.specs.Handle.{boxed_at, handle_at, value_at, row_at}
use Rattle.segrx_c.specs.Answers.{Numbered, Unless, refused}
use Rattle.c_receiver.specs.declared.held.HeldReceiver.{HeldReceiver}
use Rattle.c_receiver.specs.contracts.held.HeldReceiver.{the_row as R}
use Rattle.c_receiver.specs.Held.{IsInUse}
use Rattle.c_receiver.specs.Held.{GivesFrame}
use Rattle.c_receiver.specs.declared.plain.PlainFrame.{PlainFrame}
use Rattle.c_receiver.specs.contracts.plain.PlainFrame as out_type
use Rattle.segrx_c.specs.contracts.calls.next_frame as g
use Rattle.segrx_c.proofs.calls.next_frame.Symbol.{name as #callee}
use Rattle.segrx_c.proofs.calls.next_frame.Met as callee
use Rattle.segrx_c.specs.contracts.segrx_receiver_next_frame as f
use Rattle.segrx_c.proofs.segrx_receiver_next_frame.Statement.{statement}
use Rattle.segrx_c.proofs.segrx_receiver_next_frame.Code as code

abbrev stayed : Stays f.ended.signature.params f.ended.kept
stayed = (stay_dropped (plain (λ _. RawPtr)) yes, (stay_dropped (plain (λ _. RawPtr)) yes, (stay_dropped (plain (λ _. usize)) yes, (stay_dropped (plain (λ _. RawPtr)) yes, tt))))

module _ {M : Type 1} {𝓤 : Ura M} (𝓛 : Logic 𝓤) (at_mem : Memory → SProp 𝓤) (run : Routine → Fun 𝓤) where
  open 𝓛 use {H}

  abbrev c : Clauses 𝓤 f.ended
  c = f.clauses 𝓛 at_mem run

  abbrev G : Contract 𝓤
  G = triple_of 𝓛 g.signature (g.spec 𝓛 at_mem run)

  module _ (C : Calls 𝓤 H) (Λ : Loops 𝓤 H) (fm : FmC 𝓤 H 𝓛.laws C) (known : Triple 𝓤 (C #callee) G)
      (was : (HeldReceiver × List ℕ × PlainFrame)) (in_use : IsInUse was.0) where
    abbrev y : Ptr → Ptr → Ptr → ℕ → (walk_of 𝓛 f.ended stayed c).Ghost
    y handle room frame capacity = ((tt, tt, tt, (handle, (room, (capacity, (frame, tt)))), (rawptr_vals handle, (rawptr_vals room, (vint w64 capacity ∷ [], (rawptr_vals frame, tt))))), was)

    abbrev Post : Ptr → Ptr → Ptr → ℕ → Val → SProp 𝓤
    Post handle room frame capacity = (walk_of 𝓛 f.ended stayed c).post (y handle room frame capacity)

    abbrev Runs : Ptr → Ptr → Ptr → ℕ → SProp 𝓤
    Runs handle room frame capacity = WpFn 𝓤 H C Λ code.function (rawptr_vals handle ++ (rawptr_vals room ++ ((vint w64 capacity ∷ []) ++ (rawptr_vals frame ++ [])))) (Post handle room frame capacity)

    abbrev F0 : Ptr → (HeldReceiver × List ℕ × PlainFrame) → Fml
    F0 handle after = handle_at handle after.0

    abbrev F1 : Ptr → ℕ → (HeldReceiver × List ℕ × PlainFrame) → Fml
    F1 room capacity after = row_at u8 2147483647 room capacity after.1

    abbrev F2 : Ptr → (HeldReceiver × List ℕ × PlainFrame) → Fml
    F2 frame after = value_at out_type.the_row frame after.2

    abbrev Q : Ptr → Ptr → Ptr → ℕ → ℕ → (HeldReceiver × List ℕ × PlainFrame) → Type 0
    Q handle room frame capacity answer after = Unless (refused (handle ∷ room ∷ frame ∷ []) (nat_lt 2147483647 capacity ∷ [])) answer (after ≡ was) (Numbered (λ answer. GivesFrame was.0 was.1 was.2 answer after.0 after.1 after.2) answer × IsInUse after.0)

    abbrev Ends : Ptr → Ptr → Ptr → ℕ → ℕ → SProp 𝓤
    Ends handle room frame capacity answer = ex 𝓤 (λ (after : (HeldReceiver × List ℕ × PlainFrame)). sep 𝓤 (sem 𝓛 (F0 handle after)) (sep 𝓤 (sem 𝓛 (F1 room capacity after)) (sep 𝓤 (sem 𝓛 (F2 frame after)) (fact 𝓤 (Q handle room frame capacity answer after)))))

    null_handle : (room frame : Ptr) (capacity : ℕ) (fits-capacity : capacity < 2 ^ 64) → ent 𝓤 (sep 𝓤 (sem 𝓛 (handle_at null_ptr was.0)) (sep 𝓤 (sem 𝓛 (row_at u8 2147483647 room capacity was.1)) (sem 𝓛 (value_at out_type.the_row frame was.2)))) (Runs null_ptr room frame capacity)
    null_handle room frame capacity fits-capacity =
        qed 𝓛 (‵ (handle_at null_ptr was.0) ∷ ‵ (row_at u8 2147483647 room capacity was.1) ∷ ‵ (value_at out_type.the_row frame was.2) ∷ []) ∵ enter ! C Λ code.function (vnull ∷ ptr_val room ∷ vint w64 capacity ∷ ptr_val frame ∷ []) _ $
        alloc_all ! (λ l. let En = env code.function.locals l in pass_all ! refl ((tt, record { fits = lit< tt }), (typed room, ((tt, record { fits = fits-capacity }), (typed frame, tt)))) $
        sets ! (bin ! (get ! refl) (lit ! tt) (tests_null null_ptr (lit< tt))) refl (tt, tt) $ first ! $ branches ! (get ! refl)
        (λ t. sets ! (of_opd ! (lit ! tt)) refl (tt, record { fits = lit< tt }) $ use3 𝓛 (raw (Ends null_ptr room frame capacity 1)) (ended-3 𝓛 (F0 null_ptr) (F1 room capacity) (F2 frame) (Q null_ptr room frame capacity 1) was (refl, refl)) $
        owned ! u32 (Is u32) (uint_Makes 𝓛 w32) 1 _ (refl, lit< tt) $ returns_within ! (Post null_ptr room frame capacity) refl (look_at ! 0 refl) $ free_all ! refl $ keep ! (0 ∷ 1 ∷ []) $ nothing ! $ nothing ! $ fjoin ! $ nothing ! $ fjoin ! $ nothing ! $ fjoin ! $ nothing ! $ fjoin ! $ nothing ! $
        by ! (leaves 𝓛 f.ended stayed c (y null_ptr room frame capacity) (vint w32 1) 1 (tt, (tt, (tt, (tt, tt)))) (tt, (tt, (tt, (tt, tt)))))) (λ t. absurd t))

    null_room : (b0 o0 : ℕ) (may-handle : Testable (block_ptr b0 o0)) (frame : Ptr) (capacity : ℕ) (fits-capacity : capacity < 2 ^ 64) → ent 𝓤 (sep 𝓤 (sem 𝓛 (handle_at (block_ptr b0 o0) was.0)) (sep 𝓤 (sem 𝓛 (row_at u8 2147483647 null_ptr capacity was.1)) (sem 𝓛 (value_at out_type.the_row frame was.2)))) (Runs (block_ptr b0 o0) null_ptr frame capacity)
    null_room b0 o0 may-handle frame capacity fits-capacity =
        qed 𝓛 (‵ (handle_at (block_ptr b0 o0) was.0) ∷ ‵ (row_at u8 2147483647 null_ptr capacity was.1) ∷ ‵ (value_at out_type.the_row frame was.2) ∷ []) ∵ enter ! C Λ code.function (vptr b0 o0 ∷ vnull ∷ vint w64 capacity ∷ ptr_val frame ∷ []) _ $
        alloc_all ! (λ l. let En = env code.function.locals l in pass_all ! refl ((tt, tt), ((tt, record { fits = lit< tt }), ((tt, record { fits = fits-capacity }), (typed frame, tt)))) $
        sets ! (bin ! (get ! refl) (lit ! tt) (tests_null (block_ptr b0 o0) may-handle)) refl (tt, tt) $ first ! $ branches ! (get ! refl)
        (λ t. absurd t) (λ t. skips ! $ exec ! C Λ En code.Mir.t-3 (at_ret En (Post (block_ptr b0 o0) null_ptr frame capacity)) $
        sets ! (bin ! (get ! refl) (lit ! tt) (tests_null null_ptr (lit< tt))) refl (tt, tt) $ first ! $ branches ! (get ! refl)
        (λ t. sets ! (of_opd ! (lit ! tt)) refl (tt, record { fits = lit< tt }) $ use3 𝓛 (raw (Ends (block_ptr b0 o0) null_ptr frame capacity 1)) (ended-3 𝓛 (F0 (block_ptr b0 o0)) (F1 null_ptr capacity) (F2 frame) (Q (block_ptr b0 o0) null_ptr frame capacity 1) was (refl, refl)) $
        owned ! u32 (Is u32) (uint_Makes 𝓛 w32) 1 _ (refl, lit< tt) $ returns_within ! (Post (block_ptr b0 o0) null_ptr frame capacity) refl (look_at ! 0 refl) $ free_all ! refl $ keep ! (0 ∷ 1 ∷ []) $ nothing ! $ nothing ! $ fjoin ! $ nothing ! $ fjoin ! $ nothing ! $ fjoin ! $ nothing ! $ fjoin ! $ nothing ! $
        by ! (leaves 𝓛 f.ended stayed c (y (block_ptr b0 o0) null_ptr frame capacity) (vint w32 1) 1 (tt, (tt, (tt, (tt, tt)))) (tt, (tt, (tt, (tt, tt)))))) (λ t. absurd t)))

    null_frame : (b0 o0 b1 o1 : ℕ) (may-handle : Testable (block_ptr b0 o0)) (may-room : Testable (block_ptr b1 o1)) (capacity : ℕ) (fits-capacity : capacity < 2 ^ 64) → ent 𝓤 (sep 𝓤 (sem 𝓛 (handle_at (block_ptr b0 o0) was.0)) (sep 𝓤 (sem 𝓛 (row_at u8 2147483647 (block_ptr b1 o1) capacity was.1)) (sem 𝓛 (value_at out_type.the_row null_ptr was.2)))) (Runs (block_ptr b0 o0) (block_ptr b1 o1) null_ptr capacity)
    null_frame b0 o0 b1 o1 may-handle may-room capacity fits-capacity =
        qed 𝓛 (‵ (handle_at (block_ptr b0 o0) was.0) ∷ ‵ (row_at u8 2147483647 (block_ptr b1 o1) capacity was.1) ∷ ‵ (value_at out_type.the_row null_ptr was.2) ∷ []) ∵ enter ! C Λ code.function (vptr b0 o0 ∷ vptr b1 o1 ∷ vint w64 capacity ∷ vnull ∷ []) _ $
        alloc_all ! (λ l. let En = env code.function.locals l in pass_all ! refl ((tt, tt), ((tt, tt), ((tt, record { fits = fits-capacity }), ((tt, record { fits = lit< tt }), tt)))) $
        sets ! (bin ! (get ! refl) (lit ! tt) (tests_null (block_ptr b0 o0) may-handle)) refl (tt, tt) $ first ! $ branches ! (get ! refl)
        (λ t. absurd t) (λ t. skips ! $ exec ! C Λ En code.Mir.t-3 (at_ret En (Post (block_ptr b0 o0) (block_ptr b1 o1) null_ptr capacity)) $
        sets ! (bin ! (get ! refl) (lit ! tt) (tests_null (block_ptr b1 o1) may-room)) refl (tt, tt) $ first ! $ branches ! (get ! refl)
        (λ t. absurd t) (λ t. skips ! $ exec ! C Λ En code.Mir.t-5 (at_ret En (Post (block_ptr b0 o0) (block_ptr b1 o1) null_ptr capacity)) $
        sets ! (bin ! (get ! refl) (lit ! tt) (tests_null null_ptr (lit< tt))) refl (tt, tt) $ first ! $ branches ! (get ! refl)
        (λ t. sets ! (of_opd ! (lit ! tt)) refl (tt, record { fits = lit< tt }) $ use3 𝓛 (raw (Ends (block_ptr b0 o0) (block_ptr b1 o1) null_ptr capacity 1)) (ended-3 𝓛 (F0 (block_ptr b0 o0)) (F1 (block_ptr b1 o1) capacity) (F2 null_ptr) (Q (block_ptr b0 o0) (block_ptr b1 o1) null_ptr capacity 1) was (refl, refl)) $
        owned ! u32 (Is u32) (uint_Makes 𝓛 w32) 1 _ (refl, lit< tt) $ returns_within ! (Post (block_ptr b0 o0) (block_ptr b1 o1) null_ptr capacity) refl (look_at ! 0 refl) $ free_all ! refl $ keep ! (0 ∷ 1 ∷ []) $ nothing ! $ nothing ! $ fjoin ! $ nothing ! $ fjoin ! $ nothing ! $ fjoin ! $ nothing ! $ fjoin ! $ nothing ! $
        by ! (leaves 𝓛 f.ended stayed c (y (block_ptr b0 o0) (block_ptr b1 o1) null_ptr capacity) (vint w32 1) 1 (tt, (tt, (tt, (tt, tt)))) (tt, (tt, (tt, (tt, tt)))))) (λ t. absurd t))))

    held_there : (b0 o0 b1 o1 b2 o2 : ℕ) (may-handle : Testable (block_ptr b0 o0)) (may-room : Testable (block_ptr b1 o1)) (may-frame : Testable (block_ptr b2 o2)) (fits-capacity : length was.1 < 2 ^ 64) (e-capacity : nat_lt 2147483647 (length was.1) ≡ false) → ent 𝓤 (sep 𝓤 (sem 𝓛 (boxed_at (block_ptr b0 o0) was.0)) (sep 𝓤 (sem 𝓛 (apart u8 was.1 b1 o1)) (sem 𝓛 (points_to out_type.the_row (block_ptr b2 o2) was.2)))) (Runs (block_ptr b0 o0) (block_ptr b1 o1) (block_ptr b2 o2) (length was.1))
    held_there b0 o0 b1 o1 b2 o2 may-handle may-room may-frame fits-capacity e-capacity =
        qed 𝓛 (‵ (boxed_at (block_ptr b0 o0) was.0) ∷ ‵ (apart u8 was.1 b1 o1) ∷ ‵ (points_to out_type.the_row (block_ptr b2 o2) was.2) ∷ []) ∵ enter ! C Λ code.function (vptr b0 o0 ∷ vptr b1 o1 ∷ vint w64 (length was.1) ∷ vptr b2 o2 ∷ []) _ $
        alloc_all ! (λ l. let En = env code.function.locals l in pass_all ! refl ((tt, tt), ((tt, tt), ((tt, record { fits = fits-capacity }), ((tt, tt), tt)))) $
        sets ! (bin ! (get ! refl) (lit ! tt) (tests_null (block_ptr b0 o0) may-handle)) refl (tt, tt) $ first ! $ branches ! (get ! refl)
        (λ t. absurd t) (λ t. skips ! $ exec ! C Λ En code.Mir.t-3 (at_ret En (Post (block_ptr b0 o0) (block_ptr b1 o1) (block_ptr b2 o2) (length was.1))) $
        sets ! (bin ! (get ! refl) (lit ! tt) (tests_null (block_ptr b1 o1) may-room)) refl (tt, tt) $ first ! $ branches ! (get ! refl)
        (λ t. absurd t) (λ t. skips ! $ exec ! C Λ En code.Mir.t-5 (at_ret En (Post (block_ptr b0 o0) (block_ptr b1 o1) (block_ptr b2 o2) (length was.1))) $
        sets ! (bin ! (get ! refl) (lit ! tt) (tests_null (block_ptr b2 o2) may-frame)) refl (tt, tt) $ first ! $ branches ! (get ! refl)
        (λ t. absurd t) (λ t. skips ! $ exec ! C Λ En code.Mir.t-7 (at_ret En (Post (block_ptr b0 o0) (block_ptr b1 o1) (block_ptr b2 o2) (length was.1))) $
        sets ! (bin ! (big_lit ! (record { fits = lit< tt })) (get ! refl) tt) refl (tt, tt) $ first ! $ branches ! (get ! refl)
        (λ t. absurd (subst T e-capacity t)) (λ t. skips ! $ exec ! C Λ En code.Mir.t-9 (at_ret En (Post (block_ptr b0 o0) (block_ptr b1 o1) (block_ptr b2 o2) (length was.1))) $
        sets ! (of_opd ! (get ! refl)) refl (tt, tt) $ sets ! (addr ! (through ! refl (stop !))) refl (tt, tt) $ sets ! (agg ! (and_then ! (get ! refl) (and_then ! (get ! refl) (no_more !)))) refl (tt, (tt, (record { fits = fits-capacity }, tt))) $ sets ! (addr ! (through ! refl (stop !))) refl (tt, tt) $
        let few-capacity : length was.1 ≤ 2147483647 = nltb→le 2147483647 (length was.1) (subst (λ (y : Bool). T (not y)) (sym e-capacity) tt) in let room-capacity : length was.1 * 1 < 2 ^ 63 = omega arith in
        fsplit ! $ lft_new ! tt (λ α0. let κ0 : Lft = α0 ∷ [] in move ! (1 ∷ []) $
        use1 𝓛 (later (some (λ (γ : ℕ). ‵ ((MutRef (named 0) κ0 R).own_val (record { ref_ptr = (b0, o0); ghost_name = γ; now = was.0 }) (vptr b0 o0 ∷ [])) ⊛ ‵ (flent κ0 (Body (mem R) b0 o0 γ)))))
        (lends_ref 𝓛 R (named 0) κ0 was.0 b0 o0) $ await ! tt $ pick ! (λ γ0. split ! $ let r0 : MutBor HeldReceiver = record { ref_ptr = (b0, o0); ghost_name = γ0; now = was.0 } in
        move ! (4 ∷ []) $ use1 𝓛 (‵ (cells (mem u8) was.1 b1 o1)) (whole_in 𝓛 u8 was.1 b1 o1) $ lft_new ! tt (λ α1. let κ1 : Lft = α1 ∷ [] in move ! (1 ∷ []) $
        use1 𝓛 (later (some (λ (γ : ℕ). ‵ ((MutSlice (named 0) κ1 u8).own_val (record { ref_ptr = (b1, o1); ghost_name = γ; now = was.1 }) (slice_val (b1, o1) (length was.1) ∷ [])) ⊛ ‵ (flent κ1 (LentSlice u8 (length was.1) b1 o1 γ)))))
        (lends_slice 𝓛 u8 (named 0) κ1 was.1 b1 o1 (fits-capacity, room-capacity)) $ await ! tt $ pick ! (λ γ1. split ! $ let r1 : MutBor (List ℕ) = record { ref_ptr = (b1, o1); ghost_name = γ1; now = was.1 } in
        move ! (7 ∷ []) $ lft_new ! tt (λ α2. let κ2 : Lft = α2 ∷ [] in move ! (1 ∷ []) $
        use1 𝓛 (later (some (λ (γ : ℕ). ‵ ((MutRef (named 0) κ2 out_type.the_row).own_val (record { ref_ptr = (b2, o2); ghost_name = γ; now = was.2 }) (vptr b2 o2 ∷ [])) ⊛ ‵ (flent κ2 (Body (mem out_type.the_row) b2 o2 γ)))))
        (lends_ref 𝓛 out_type.the_row (named 0) κ2 was.2 b2 o2) $ await ! tt $ pick ! (λ γ2. split ! $ let r2 : MutBor PlainFrame = record { ref_ptr = (b2, o2); ghost_name = γ2; now = was.2 } in
        let z : G.Ghost = (((κ0, (κ1, (κ2, tt))), (full_share, (full_share, (full_share, tt))), tt, (r0, (r1, (r2, tt))), (mut_vals r0, (slice_val (b1, o1) (length was.1) ∷ [], (mut_vals r2, tt)))), tt) in
        nothing ! $ move ! (1 ∷ 0 ∷ []) $ fjoin ! $ move ! (3 ∷ 0 ∷ []) $ fjoin ! $ move ! (5 ∷ 0 ∷ []) $ fjoin ! $
        nothing ! $ move ! (3 ∷ 0 ∷ []) $ join ! $ move ! (4 ∷ 0 ∷ []) $ join ! $ move ! (5 ∷ 0 ∷ []) $ join ! $ join ! $ use0 𝓛 (raw (fact 𝓤 (IsInUse was.0))) (fact_i 𝓤 (IsInUse was.0) (emp 𝓤) in_use) $ move ! (1 ∷ 0 ∷ []) $ use2 𝓛 (raw (G.pre z)) (id⊢ 𝓤 _) $
        calls_at ! fm G known z (and_then ! (get ! refl) (and_then ! (get ! refl) (and_then ! (get ! refl) (no_more !)))) (λ v.
        use1 𝓛 (later (some (λ (r' : ℕ). ((‵ (flft κ0 full_share) ⊛ (‵ (flft κ1 full_share) ⊛ (‵ (flft κ2 full_share) ⊛ ‵ ftrue))) ⊛ ‵ (u32.own_val r' (v ∷ []))) ⊛ some (λ (ws : (HeldReceiver × (List ℕ × (PlainFrame × Unit {0})))).
        ‵ (lasts g.ended (κ0, (κ1, (κ2, tt))) (r0, (r1, (r2, tt))) ws) ⊛ (raw (fact 𝓤 (Numbered (λ answer. GivesFrame was.0 was.1 was.2 answer ws.0 ws.1.0 ws.1.1.0) r')) ⊛ raw (fact 𝓤 (IsInUse ws.0))))))) (id⊢ 𝓤 _) $
        await ! tt $ pick ! (λ r'. split ! $ split ! $ split ! $ lft_end ! tt $ move ! (1 ∷ []) $ split ! $ lft_end ! tt $ move ! (1 ∷ []) $ split ! $ lft_end ! tt $ move ! (4 ∷ []) $
        peeks ! u32 (Is u32) (shows 𝓛 u32) r' (v ∷ []) (λ is. lands_as ! refl refl ((uint_Lawful 𝓛 w32).typed r' _ is).0 $ move ! (5 ∷ []) $ pick ! (λ ws. split3 ! $ move ! (1 ∷ []) $ heard ! _ (λ does. move ! (1 ∷ []) $ heard ! _ (λ still.
        fsplit ! $ fsplit ! $ move ! (1 ∷ []) $ drop ! $ move ! (1 ∷ []) $ fsplit ! $ fsplit ! $ fsplit ! $ move ! (1 ∷ []) $ drop ! $ move ! (1 ∷ []) $ drop ! $ move ! (1 ∷ []) $ fsplit ! $ fsplit ! $ move ! (1 ∷ []) $ drop ! $
        move ! (8 ∷ 11 ∷ 3 ∷ []) $ use3 𝓛 (later (‵ ((mem R).own_at ws.0 b0 o0))) (ref_back 𝓛 R κ0 γ0 ws.0 b0 o0) $ await ! tt $ move ! (0 ∷ 10 ∷ []) $ fjoin ! $
        move ! (7 ∷ 9 ∷ 3 ∷ []) $ use3 𝓛 (later (‵ ((Arr (mem u8) (length was.1)).own_at ws.1.0 b1 o1))) (slice_back 𝓛 u8 κ1 γ1 ws.1.0 (length was.1) b1 o1) $ await ! tt $ use1 𝓛 (‵ (points_to (Array u8 (length was.1)) (block_ptr b1 o1) ws.1.0)) (rejoined 𝓛 u8 tt (length was.1) ws.1.0 b1 o1) $ use1 𝓛 (‵ (F1 (block_ptr b1 o1) (length was.1) (ws.0, ws.1.0, ws.1.1.0))) (row_in 𝓛 u8 2147483647 (block_ptr b1 o1) (length was.1) ws.1.0) $
        move ! (5 ∷ 7 ∷ 2 ∷ []) $ use3 𝓛 (later (‵ ((mem out_type.the_row).own_at ws.1.1.0 b2 o2))) (ref_back 𝓛 out_type.the_row κ2 γ2 ws.1.1.0 b2 o2) $ await ! tt $
        move ! (2 ∷ 1 ∷ 0 ∷ []) $ use3 𝓛 (raw (Ends (block_ptr b0 o0) (block_ptr b1 o1) (block_ptr b2 o2) (length was.1) r')) (ended-3 𝓛 (F0 (block_ptr b0 o0)) (F1 (block_ptr b1 o1) (length was.1)) (F2 (block_ptr b2 o2)) (Q (block_ptr b0 o0) (block_ptr b1 o1) (block_ptr b2 o2) (length was.1) r') ((ws.0, ws.1.0, ws.1.1.0)) (within (nat_lt 2147483647 (length was.1)) [] _ _ _ e-capacity (does, still))) $
        move ! (2 ∷ 0 ∷ []) $ returns ! (look_at ! 0 refl) $ free_all ! refl $ keep ! (0 ∷ 1 ∷ []) $ nothing ! $ nothing ! $ fjoin ! $ nothing ! $ fjoin ! $ nothing ! $ fjoin ! $ nothing ! $ fjoin ! $ nothing ! $
        by ! (leaves 𝓛 f.ended stayed c (y (block_ptr b0 o0) (block_ptr b1 o1) (block_ptr b2 o2) (length was.1)) v r' (tt, (tt, (tt, (tt, tt)))) (tt, (tt, (tt, (tt, tt))))))))))))))))))))))

    beyond_room : (b0 o0 b1 o1 b2 o2 : ℕ) (may-handle : Testable (block_ptr b0 o0)) (may-room : Testable (block_ptr b1 o1)) (may-frame : Testable (block_ptr b2 o2)) (capacity : ℕ) (fits-capacity : capacity < 2 ^ 64) (e-capacity : nat_lt 2147483647 capacity ≡ true) → ent 𝓤 (sep 𝓤 (sem 𝓛 (handle_at (block_ptr b0 o0) was.0)) (sep 𝓤 (sem 𝓛 (row_at u8 2147483647 (block_ptr b1 o1) capacity was.1)) (sem 𝓛 (value_at out_type.the_row (block_ptr b2 o2) was.2)))) (Runs (block_ptr b0 o0) (block_ptr b1 o1) (block_ptr b2 o2) capacity)
    beyond_room b0 o0 b1 o1 b2 o2 may-handle may-room may-frame capacity fits-capacity e-capacity =
        qed 𝓛 (‵ (handle_at (block_ptr b0 o0) was.0) ∷ ‵ (row_at u8 2147483647 (block_ptr b1 o1) capacity was.1) ∷ ‵ (value_at out_type.the_row (block_ptr b2 o2) was.2) ∷ []) ∵ enter ! C Λ code.function (vptr b0 o0 ∷ vptr b1 o1 ∷ vint w64 capacity ∷ vptr b2 o2 ∷ []) _ $
        alloc_all ! (λ l. let En = env code.function.locals l in pass_all ! refl ((tt, tt), ((tt, tt), ((tt, record { fits = fits-capacity }), ((tt, tt), tt)))) $
        sets ! (bin ! (get ! refl) (lit ! tt) (tests_null (block_ptr b0 o0) may-handle)) refl (tt, tt) $ first ! $ branches ! (get ! refl)
        (λ t. absurd t) (λ t. skips ! $ exec ! C Λ En code.Mir.t-3 (at_ret En (Post (block_ptr b0 o0) (block_ptr b1 o1) (block_ptr b2 o2) capacity)) $
        sets ! (bin ! (get ! refl) (lit ! tt) (tests_null (block_ptr b1 o1) may-room)) refl (tt, tt) $ first ! $ branches ! (get ! refl)
        (λ t. absurd t) (λ t. skips ! $ exec ! C Λ En code.Mir.t-5 (at_ret En (Post (block_ptr b0 o0) (block_ptr b1 o1) (block_ptr b2 o2) capacity)) $
        sets ! (bin ! (get ! refl) (lit ! tt) (tests_null (block_ptr b2 o2) may-frame)) refl (tt, tt) $ first ! $ branches ! (get ! refl)
        (λ t. absurd t) (λ t. skips ! $ exec ! C Λ En code.Mir.t-7 (at_ret En (Post (block_ptr b0 o0) (block_ptr b1 o1) (block_ptr b2 o2) capacity)) $
        sets ! (bin ! (big_lit ! (record { fits = lit< tt })) (get ! refl) tt) refl (tt, tt) $ first ! $ branches ! (get ! refl)
        (λ t. sets ! (of_opd ! (lit ! tt)) refl (tt, record { fits = lit< tt }) $ use3 𝓛 (raw (Ends (block_ptr b0 o0) (block_ptr b1 o1) (block_ptr b2 o2) capacity 17)) (ended-3 𝓛 (F0 (block_ptr b0 o0)) (F1 (block_ptr b1 o1) capacity) (F2 (block_ptr b2 o2)) (Q (block_ptr b0 o0) (block_ptr b1 o1) (block_ptr b2 o2) capacity 17) was (beyond (nat_lt 2147483647 capacity) [] _ _ _ e-capacity refl refl)) $
        owned ! u32 (Is u32) (uint_Makes 𝓛 w32) 17 _ (refl, lit< tt) $ returns_within ! (Post (block_ptr b0 o0) (block_ptr b1 o1) (block_ptr b2 o2) capacity) refl (look_at ! 0 refl) $ free_all ! refl $ keep ! (0 ∷ 1 ∷ []) $ nothing ! $ nothing ! $ fjoin ! $ nothing ! $ fjoin ! $ nothing ! $ fjoin ! $ nothing ! $ fjoin ! $ nothing ! $
        by ! (leaves 𝓛 f.ended stayed c (y (block_ptr b0 o0) (block_ptr b1 o1) (block_ptr b2 o2) capacity) (vint w32 17) 17 (tt, (tt, (tt, (tt, tt)))) (tt, (tt, (tt, (tt, tt)))))) (λ t. absurd (subst (λ (y : Bool). T (not y)) e-capacity t))))))

    by_capacity : (b0 o0 b1 o1 b2 o2 : ℕ) (may-handle : Testable (block_ptr b0 o0)) (may-room : Testable (block_ptr b1 o1)) (may-frame : Testable (block_ptr b2 o2)) (capacity : ℕ) (fits-capacity : capacity < 2 ^ 64) → (y : Bool) → nat_lt 2147483647 capacity ≡ y → ent 𝓤 (sep 𝓤 (sem 𝓛 (handle_at (block_ptr b0 o0) was.0)) (sep 𝓤 (sem 𝓛 (row_at u8 2147483647 (block_ptr b1 o1) capacity was.1)) (sem 𝓛 (value_at out_type.the_row (block_ptr b2 o2) was.2)))) (Runs (block_ptr b0 o0) (block_ptr b1 o1) (block_ptr b2 o2) capacity)
    by_capacity b0 o0 b1 o1 b2 o2 may-handle may-room may-frame capacity fits-capacity true e = beyond_room b0 o0 b1 o1 b2 o2 may-handle may-room may-frame capacity fits-capacity e
    by_capacity b0 o0 b1 o1 b2 o2 may-handle may-room may-frame capacity fits-capacity false e =
        qed 𝓛 (‵ (handle_at (block_ptr b0 o0) was.0) ∷ ‵ (row_at u8 2147483647 (block_ptr b1 o1) capacity was.1) ∷ ‵ (value_at out_type.the_row (block_ptr b2 o2) was.2) ∷ []) ∵ move ! (1 ∷ []) $ use1 𝓛 (‵ (points_to (Array u8 capacity) (block_ptr b1 o1) was.1)) (row_out 𝓛 u8 2147483647 (block_ptr b1 o1) capacity was.1 e tt) $ use1 𝓛 (‵ (fsep (feq ℕ (length was.1) capacity) (apart u8 was.1 b1 o1))) (Array-apart 𝓛 u8 full_share tt capacity was.1 b1 o1) $ fsplit ! $ feq_l ! (λ long. move ! (1 ∷ 0 ∷ 2 ∷ []) $
        by ! (subst (λ (n : ℕ). n < 2 ^ 64 → nat_lt 2147483647 n ≡ false → ent 𝓤 (sep 𝓤 (sem 𝓛 (boxed_at (block_ptr b0 o0) was.0)) (sep 𝓤 (sem 𝓛 (apart u8 was.1 b1 o1)) (sem 𝓛 (points_to out_type.the_row (block_ptr b2 o2) was.2)))) (Runs (block_ptr b0 o0) (block_ptr b1 o1) (block_ptr b2 o2) n)) long (held_there b0 o0 b1 o1 b2 o2 may-handle may-room may-frame) fits-capacity e))

    at : (handle room frame : Ptr) → (capacity : ℕ) → capacity < 2 ^ 64 → Testable room → Testable frame → ent 𝓤 (sep 𝓤 (sem 𝓛 (handle_at handle was.0)) (sep 𝓤 (sem 𝓛 (row_at u8 2147483647 room capacity was.1)) (sem 𝓛 (value_at out_type.the_row frame was.2)))) (Runs handle room frame capacity)
    at null_ptr room frame capacity fits-capacity may-room may-frame = null_handle room frame capacity fits-capacity
    at (block_ptr b0 o0) null_ptr frame capacity fits-capacity may-room may-frame = fact_use 𝓤 (Testable (block_ptr b0 o0)) (via 𝓤 _ (fst∗ 𝓤 (sem 𝓛 (boxed_at (block_ptr b0 o0) was.0)) (sep 𝓤 (sem 𝓛 (row_at u8 2147483647 null_ptr capacity was.1)) (sem 𝓛 (value_at out_type.the_row frame was.2)))) (boxed-Testable 𝓛 (block_ptr b0 o0) was.0)) (λ may-handle. null_room b0 o0 may-handle frame capacity fits-capacity)
    at (block_ptr b0 o0) (block_ptr b1 o1) null_ptr capacity fits-capacity may-room may-frame = fact_use 𝓤 (Testable (block_ptr b0 o0)) (via 𝓤 _ (fst∗ 𝓤 (sem 𝓛 (boxed_at (block_ptr b0 o0) was.0)) (sep 𝓤 (sem 𝓛 (row_at u8 2147483647 (block_ptr b1 o1) capacity was.1)) (sem 𝓛 (value_at out_type.the_row null_ptr was.2)))) (boxed-Testable 𝓛 (block_ptr b0 o0) was.0)) (λ may-handle. null_frame b0 o0 b1 o1 may-handle may-room capacity fits-capacity)
    at (block_ptr b0 o0) (block_ptr b1 o1) (block_ptr b2 o2) capacity fits-capacity may-room may-frame = fact_use 𝓤 (Testable (block_ptr b0 o0)) (via 𝓤 _ (fst∗ 𝓤 (sem 𝓛 (boxed_at (block_ptr b0 o0) was.0)) (sep 𝓤 (sem 𝓛 (row_at u8 2147483647 (block_ptr b1 o1) capacity was.1)) (sem 𝓛 (value_at out_type.the_row (block_ptr b2 o2) was.2)))) (boxed-Testable 𝓛 (block_ptr b0 o0) was.0)) (λ may-handle. by_capacity b0 o0 b1 o1 b2 o2 may-handle may-room may-frame capacity fits-capacity (nat_lt 2147483647 capacity) refl)

pub segrx_receiver_next_frame_spec : {M : Type 1} → statement M
segrx_receiver_next_frame_spec 𝓤 𝓛 𝓜 𝓡 wired =
    let 𝓣 = tables 𝓤 𝓛.H 𝓜 𝓡 𝓡.env in
    proved 𝓛 f.ended stayed (c 𝓛 𝓜.mem 𝓡.returns) 𝓜 𝓡 (Goes-dropped 𝓛 0 (plain (λ _. RawPtr)) yes (λ κs x w. refl), (Goes-dropped 𝓛 0 (plain (λ _. RawPtr)) yes (λ κs x w. refl), (Goes-dropped 𝓛 0 (plain (λ _. usize)) yes (λ κs x w. refl), (Goes-dropped 𝓛 0 (plain (λ _. RawPtr)) yes (λ κs x w. refl), tt))))
    f.Key.name code.function (code.unfolded 𝓤 𝓛.H 𝓜 𝓡 wired) (λ κs. (rawptr_vals, (rawptr_vals, (uint_vals w64, (rawptr_vals, tt))))) (λ κs. (rawptr_Tells, (rawptr_Tells, (uint_Tells w64, (rawptr_Tells, tt))))) (λ κs qs bounds a was are.
    qed 𝓛 (raw (on_entry 𝓛 f.signature κs qs a (rawptr_vals a.0, (rawptr_vals a.1.0, (vint w64 a.1.1.0 ∷ [], (rawptr_vals a.1.1.1.0, tt))))) ∷ (raw (fact 𝓤 (Testable a.1.0)) ⊛ (raw (fact 𝓤 (Testable a.1.1.1.0)) ⊛ (‵ (handle_at a.0 was.0) ⊛ ‵ (row_at u8 2147483647 a.1.0 a.1.1.0 was.1) ⊛ ‵ (value_at out_type.the_row a.1.1.1.0 was.2) ⊛ raw (fact 𝓤 (IsInUse was.0))))) ∷ []) ∵ move ! (1 ∷ []) $ split ! $ heard ! (Testable a.1.0) (λ may-room. split ! $ heard ! (Testable a.1.1.1.0) (λ may-frame. split ! $ move ! (1 ∷ []) $ split ! $ move ! (1 ∷ []) $ split ! $ move ! (1 ∷ []) $ heard ! (IsInUse was.0) (λ in_use. move ! (3 ∷ []) $ drop ! $ move ! (2 ∷ 1 ∷ 0 ∷ []) $
    by ! (at 𝓛 𝓜.mem 𝓡.returns 𝓣.C 𝓣.Λ (framed 𝓤 𝓛.H 𝓜 𝓣) (callee.met 𝓤 𝓛 𝓜 𝓡 (code.calls-segrx_c::calls::next_frame 𝓡.env wired)) was in_use a.0 a.1.0 a.1.1.1.0 a.1.1.0 are.1.1.0.1 may-room may-frame)))))
