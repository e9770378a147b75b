-- The first frame is lent: the receiver is shared for a lifetime that doesn't end here, and what is
-- read of it is where the frame's bytes are.
use Rattle.segrx_c.proofs.Steps.{◌≡◌, ℕ, ◌^◌, ◌<◌, List, [], ◌∷◌, ◌++◌, length, refl, ap, lit<, w32, w64, MutBor, Bor, Ura, full_share, named, Val, vint, vptr, vnull, SProp, ent, sep, ex, id⊢, via, fst∗, Lft, Fml, ftrue, flft, flent, Incl-refl, Memory, Routine, Calls, Loops, WpFn, Logic, sem, Fun, fact, fact_i, fact_use, emp, tables, framed, ‵, raw, ◌⊛◌, some, later, at_ret, ◌$◌, ◌∵◌, !, qed, by, move, keep, drop, use0, use1, use2, use3, split, split3, join, pick, fsplit, fjoin, rewrite, await, lft_new, lft_end, Body, of_opd, bin, lit, addr, from, stop, fld, hop, and_then, no_more, first, branches, skips, exec, assigns, store, returns, returns_within, enter, sub, whole, alloc_all, pass_all, free_all, look_at, look_in_at, get, through, sets, lands_as, env, FmC, yes, Is, shows, mem, uint_Makes, uint_Lawful, u8, u32, MutRef, mut_vals, ShrRef, shr_vals, lends_ref, ref_back, lends_shr, part_at, Ptr, block_ptr, null_ptr, ptr_val, RawPtr, rawptr_vals, rawptr_Tells, Testable, tests_null, plain, owned, peeks, heard, nothing, only, Contract, Triple, calls_at, Clauses, lasts, on_entry, triple_of, Stays, stay_dropped, walk_of, Goes-dropped, proved, leaves, typed, boxed-Testable, ended-3, pointer_out, pointer_in, points_to, ShrSlice, slice_val, shr_slice_vals}
use Rattle.std.proofs.Common.{Option, Some, None}
use base.Fml.{fat}
use mir.Syntax.{ty_ptr}
use Rattle.segrx_c.specs.Handle.{boxed_at, handle_at, value_at}
use Rattle.segrx_c.specs.Loan.{lent_at, perhaps_lent_at}
use Rattle.segrx_c.specs.Answers.{Numbered, Unless, refused}
use Rattle.segrx_c.proofs.Loans.{loan_made}
use Rattle.std.specs.Prelude.{IsSome}
use Rattle.c_receiver.specs.declared.held.HeldReceiver.{HeldReceiver}
use Rattle.c_receiver.specs.contracts.held.HeldReceiver.{the_row as R}
use Rattle.c_receiver.proofs.held.HeldReceiver.TheLaws as held_laws
use Rattle.c_receiver.specs.Held.{IsInUse}
use Rattle.c_receiver.specs.Held.{LendsFrame, bytes_lent}
use Rattle.c_receiver.specs.declared.plain.PlainFrame.{PlainFrame}
use Rattle.c_receiver.specs.contracts.plain.PlainFrame as out_type
use Rattle.segrx_c.specs.contracts.calls.lend_frame as g
use Rattle.segrx_c.proofs.calls.lend_frame.Symbol.{name as #callee}
use Rattle.segrx_c.proofs.calls.lend_frame.Met as callee
use Rattle.segrx_c.specs.contracts.calls.lent_bytes as read
use Rattle.segrx_c.proofs.calls.lent_bytes.Symbol.{name as #reader}
use Rattle.segrx_c.proofs.calls.lent_bytes.Met as reader
use Rattle.segrx_c.specs.contracts.segrx_receiver_lend_frame as f
use Rattle.segrx_c.proofs.segrx_receiver_lend_frame.Statement.{statement}
use Rattle.segrx_c.proofs.segrx_receiver_lend_frame.Code as code

abbrev stayed : Stays f.ended.signature.params f.ended.kept
stayed = (stay_dropped (plain (λ _. RawPtr)) yes, (stay_dropped (plain (λ _. RawPtr)) yes, (stay_dropped (plain (λ _. RawPtr)) yes, tt)))

module _ {M : Type 1} {𝓤 : Ura M} (𝓛 : Logic 𝓤) (at_mem : Memory → SProp 𝓤) (run : Routine → Fun 𝓤) where
  open 𝓛 use {H}

  abbrev c : Clauses 𝓤 f.ended
  c = f.clauses 𝓛 at_mem run

  abbrev G : Contract 𝓤
  G = triple_of 𝓛 g.signature (g.spec 𝓛 at_mem run)

  abbrev Reads : Contract 𝓤
  Reads = triple_of 𝓛 read.signature (read.spec 𝓛 at_mem run)

  module _ (C : Calls 𝓤 H) (Λ : Loops 𝓤 H) (fm : FmC 𝓤 H 𝓛.laws C) (known : Triple 𝓤 (C #callee) G) (read_known : Triple 𝓤 (C #reader) Reads)
      (was : (HeldReceiver × Ptr × PlainFrame)) (in_use : IsInUse was.0) where
    abbrev y : Ptr → Ptr → Ptr → (walk_of 𝓛 f.ended stayed c).Ghost
    y handle bytes frame = ((tt, tt, tt, (handle, (bytes, (frame, tt))), (rawptr_vals handle, (rawptr_vals bytes, (rawptr_vals frame, tt)))), was)

    abbrev Post : Ptr → Ptr → Ptr → Val → SProp 𝓤
    Post handle bytes frame = (walk_of 𝓛 f.ended stayed c).post (y handle bytes frame)

    abbrev Runs : Ptr → Ptr → Ptr → SProp 𝓤
    Runs handle bytes frame = WpFn 𝓤 H C Λ code.function (rawptr_vals handle ++ (rawptr_vals bytes ++ (rawptr_vals frame ++ []))) (Post handle bytes frame)

    abbrev After : Type 0
    After = HeldReceiver × Ptr × PlainFrame × Option ℕ

    abbrev F0 : Ptr → After → Fml
    F0 handle after = perhaps_lent_at after.3 handle after.1 after.0

    abbrev F1 : Ptr → After → Fml
    F1 bytes after = value_at RawPtr bytes after.1

    abbrev F2 : Ptr → After → Fml
    F2 frame after = value_at out_type.the_row frame after.2

    abbrev Q : Ptr → Ptr → Ptr → ℕ → After → Type 0
    Q handle bytes frame answer after = Unless (refused (handle ∷ bytes ∷ frame ∷ []) []) answer (after ≡ (was.0, was.1, was.2, None)) (Numbered (λ answer. LendsFrame was.0 was.2 answer after.0 after.2) answer × IsInUse after.0 × IsSome after.3)

    abbrev Ends : Ptr → Ptr → Ptr → ℕ → SProp 𝓤
    Ends handle bytes frame answer = ex 𝓤 (λ (after : After). sep 𝓤 (sem 𝓛 (F0 handle after)) (sep 𝓤 (sem 𝓛 (F1 bytes after)) (sep 𝓤 (sem 𝓛 (F2 frame after)) (fact 𝓤 (Q handle bytes frame answer after)))))

    null_handle : (bytes frame : Ptr) → ent 𝓤 (sep 𝓤 (sem 𝓛 (handle_at null_ptr was.0)) (sep 𝓤 (sem 𝓛 (value_at RawPtr bytes was.1)) (sem 𝓛 (value_at out_type.the_row frame was.2)))) (Runs null_ptr bytes frame)
    null_handle bytes frame =
        qed 𝓛 (‵ (handle_at null_ptr was.0) ∷ ‵ (value_at RawPtr bytes was.1) ∷ ‵ (value_at out_type.the_row frame was.2) ∷ []) ∵ enter ! C Λ code.function (vnull ∷ ptr_val bytes ∷ ptr_val frame ∷ []) _ $
        alloc_all ! (λ l. let En = env code.function.locals l in pass_all ! refl ((tt, record { fits = lit< tt }), (typed bytes, (typed frame, tt))) $
        sets ! (bin ! (get ! refl) (lit ! tt) (tests_null null_ptr (lit< tt))) refl (tt, tt) $ first ! $ branches ! (get ! refl)
        (λ t. sets ! (of_opd ! (lit ! tt)) refl (tt, record { fits = lit< tt }) $ use3 𝓛 (raw (Ends null_ptr bytes frame 1)) (ended-3 𝓛 (F0 null_ptr) (F1 bytes) (F2 frame) (Q null_ptr bytes frame 1) (was.0, was.1, was.2, None) (refl, refl)) $
        owned ! u32 (Is u32) (uint_Makes 𝓛 w32) 1 _ (refl, lit< tt) $ returns_within ! (Post null_ptr bytes frame) refl (look_at ! 0 refl) $ free_all ! refl $ keep ! (0 ∷ 1 ∷ []) $ nothing ! $ nothing ! $ fjoin ! $ nothing ! $ fjoin ! $ nothing ! $ fjoin ! $ nothing ! $
        by ! (leaves 𝓛 f.ended stayed c (y null_ptr bytes frame) (vint w32 1) 1 (tt, (tt, (tt, tt))) (tt, (tt, (tt, tt))))) (λ t. absurd t))

    null_bytes : (b0 o0 : ℕ) (may-handle : Testable (block_ptr b0 o0)) (frame : Ptr) → ent 𝓤 (sep 𝓤 (sem 𝓛 (handle_at (block_ptr b0 o0) was.0)) (sep 𝓤 (sem 𝓛 (value_at RawPtr null_ptr was.1)) (sem 𝓛 (value_at out_type.the_row frame was.2)))) (Runs (block_ptr b0 o0) null_ptr frame)
    null_bytes b0 o0 may-handle frame =
        qed 𝓛 (‵ (handle_at (block_ptr b0 o0) was.0) ∷ ‵ (value_at RawPtr null_ptr was.1) ∷ ‵ (value_at out_type.the_row frame was.2) ∷ []) ∵ enter ! C Λ code.function (vptr b0 o0 ∷ vnull ∷ ptr_val frame ∷ []) _ $
        alloc_all ! (λ l. let En = env code.function.locals l in pass_all ! refl ((tt, tt), ((tt, record { fits = lit< tt }), (typed frame, tt))) $
        sets ! (bin ! (get ! refl) (lit ! tt) (tests_null (block_ptr b0 o0) may-handle)) refl (tt, tt) $ first ! $ branches ! (get ! refl)
        (λ t. absurd t) (λ t. skips ! $ exec ! C Λ En code.Mir.t-3 (at_ret En (Post (block_ptr b0 o0) null_ptr frame)) $
        sets ! (bin ! (get ! refl) (lit ! tt) (tests_null null_ptr (lit< tt))) refl (tt, tt) $ first ! $ branches ! (get ! refl)
        (λ t. sets ! (of_opd ! (lit ! tt)) refl (tt, record { fits = lit< tt }) $ use3 𝓛 (raw (Ends (block_ptr b0 o0) null_ptr frame 1)) (ended-3 𝓛 (F0 (block_ptr b0 o0)) (F1 null_ptr) (F2 frame) (Q (block_ptr b0 o0) null_ptr frame 1) (was.0, was.1, was.2, None) (refl, refl)) $
        owned ! u32 (Is u32) (uint_Makes 𝓛 w32) 1 _ (refl, lit< tt) $ returns_within ! (Post (block_ptr b0 o0) null_ptr frame) refl (look_at ! 0 refl) $ free_all ! refl $ keep ! (0 ∷ 1 ∷ []) $ nothing ! $ nothing ! $ fjoin ! $ nothing ! $ fjoin ! $ nothing ! $ fjoin ! $ nothing ! $
        by ! (leaves 𝓛 f.ended stayed c (y (block_ptr b0 o0) null_ptr frame) (vint w32 1) 1 (tt, (tt, (tt, tt))) (tt, (tt, (tt, tt))))) (λ t. absurd t)))

    null_frame : (b0 o0 b1 o1 : ℕ) (may-handle : Testable (block_ptr b0 o0)) (may-bytes : Testable (block_ptr b1 o1)) → ent 𝓤 (sep 𝓤 (sem 𝓛 (handle_at (block_ptr b0 o0) was.0)) (sep 𝓤 (sem 𝓛 (value_at RawPtr (block_ptr b1 o1) was.1)) (sem 𝓛 (value_at out_type.the_row null_ptr was.2)))) (Runs (block_ptr b0 o0) (block_ptr b1 o1) null_ptr)
    null_frame b0 o0 b1 o1 may-handle may-bytes =
        qed 𝓛 (‵ (handle_at (block_ptr b0 o0) was.0) ∷ ‵ (value_at RawPtr (block_ptr b1 o1) was.1) ∷ ‵ (value_at out_type.the_row null_ptr was.2) ∷ []) ∵ enter ! C Λ code.function (vptr b0 o0 ∷ vptr b1 o1 ∷ vnull ∷ []) _ $
        alloc_all ! (λ l. let En = env code.function.locals l in pass_all ! refl ((tt, tt), ((tt, tt), ((tt, record { fits = lit< tt }), tt))) $
        sets ! (bin ! (get ! refl) (lit ! tt) (tests_null (block_ptr b0 o0) may-handle)) refl (tt, tt) $ first ! $ branches ! (get ! refl)
        (λ t. absurd t) (λ t. skips ! $ exec ! C Λ En code.Mir.t-3 (at_ret En (Post (block_ptr b0 o0) (block_ptr b1 o1) null_ptr)) $
        sets ! (bin ! (get ! refl) (lit ! tt) (tests_null (block_ptr b1 o1) may-bytes)) refl (tt, tt) $ first ! $ branches ! (get ! refl)
        (λ t. absurd t) (λ t. skips ! $ exec ! C Λ En code.Mir.t-5 (at_ret En (Post (block_ptr b0 o0) (block_ptr b1 o1) null_ptr)) $
        sets ! (bin ! (get ! refl) (lit ! tt) (tests_null null_ptr (lit< tt))) refl (tt, tt) $ first ! $ branches ! (get ! refl)
        (λ t. sets ! (of_opd ! (lit ! tt)) refl (tt, record { fits = lit< tt }) $ use3 𝓛 (raw (Ends (block_ptr b0 o0) (block_ptr b1 o1) null_ptr 1)) (ended-3 𝓛 (F0 (block_ptr b0 o0)) (F1 (block_ptr b1 o1)) (F2 null_ptr) (Q (block_ptr b0 o0) (block_ptr b1 o1) null_ptr 1) (was.0, was.1, was.2, None) (refl, refl)) $
        owned ! u32 (Is u32) (uint_Makes 𝓛 w32) 1 _ (refl, lit< tt) $ returns_within ! (Post (block_ptr b0 o0) (block_ptr b1 o1) null_ptr) refl (look_at ! 0 refl) $ free_all ! refl $ keep ! (0 ∷ 1 ∷ []) $ nothing ! $ nothing ! $ fjoin ! $ nothing ! $ fjoin ! $ nothing ! $ fjoin ! $ nothing ! $
        by ! (leaves 𝓛 f.ended stayed c (y (block_ptr b0 o0) (block_ptr b1 o1) null_ptr) (vint w32 1) 1 (tt, (tt, (tt, tt))) (tt, (tt, (tt, tt))))) (λ t. absurd t))))

    held_there : (b0 o0 b1 o1 b2 o2 : ℕ) (may-handle : Testable (block_ptr b0 o0)) (may-bytes : Testable (block_ptr b1 o1)) (may-frame : Testable (block_ptr b2 o2)) → ent 𝓤 (sep 𝓤 (sem 𝓛 (boxed_at (block_ptr b0 o0) was.0)) (sep 𝓤 (sem 𝓛 (points_to RawPtr (block_ptr b1 o1) was.1)) (sem 𝓛 (points_to out_type.the_row (block_ptr b2 o2) was.2)))) (Runs (block_ptr b0 o0) (block_ptr b1 o1) (block_ptr b2 o2))
    held_there b0 o0 b1 o1 b2 o2 may-handle may-bytes may-frame =
        qed 𝓛 (‵ (boxed_at (block_ptr b0 o0) was.0) ∷ ‵ (points_to RawPtr (block_ptr b1 o1) was.1) ∷ ‵ (points_to out_type.the_row (block_ptr b2 o2) was.2) ∷ []) ∵ enter ! C Λ code.function (vptr b0 o0 ∷ vptr b1 o1 ∷ vptr b2 o2 ∷ []) _ $
        alloc_all ! (λ l. let En = env code.function.locals l in pass_all ! refl ((tt, tt), ((tt, tt), ((tt, tt), tt))) $
        move ! (1 ∷ []) $ use1 𝓛 (‵ (fat full_share ty_ptr b1 o1 (ptr_val was.1))) (pointer_out 𝓛 was.1 b1 o1) $
        sets ! (bin ! (get ! refl) (lit ! tt) (tests_null (block_ptr b0 o0) may-handle)) refl (tt, tt) $ first ! $ branches ! (get ! refl)
        (λ t. absurd t) (λ t. skips ! $ exec ! C Λ En code.Mir.t-3 (at_ret En (Post (block_ptr b0 o0) (block_ptr b1 o1) (block_ptr b2 o2))) $
        sets ! (bin ! (get ! refl) (lit ! tt) (tests_null (block_ptr b1 o1) may-bytes)) refl (tt, tt) $ first ! $ branches ! (get ! refl)
        (λ t. absurd t) (λ t. skips ! $ exec ! C Λ En code.Mir.t-5 (at_ret En (Post (block_ptr b0 o0) (block_ptr b1 o1) (block_ptr b2 o2))) $
        sets ! (bin ! (get ! refl) (lit ! tt) (tests_null (block_ptr b2 o2) may-frame)) refl (tt, tt) $ first ! $ branches ! (get ! refl)
        (λ t. absurd t) (λ t. skips ! $ exec ! C Λ En code.Mir.t-7 (at_ret En (Post (block_ptr b0 o0) (block_ptr b1 o1) (block_ptr b2 o2))) $
        sets ! (of_opd ! (get ! refl)) refl (tt, tt) $ sets ! (addr ! (through ! refl (stop !))) refl (tt, tt) $ sets ! (addr ! (through ! refl (stop !))) refl (tt, tt) $
        -- the receiver is lent for the first call, and comes back
        move ! (1 ∷ []) $ fsplit ! $ lft_new ! tt (λ α0. let κ0 : Lft = α0 ∷ [] in move ! (1 ∷ []) $
        use1 𝓛 (later (some (λ (γ : ℕ). ‵ ((MutRef (named 0) κ0 R).own_val (record { ref_ptr = (b0, o0); ghost_name = γ; now = was.0 }) (vptr b0 o0 ∷ [])) ⊛ ‵ (flent κ0 (Body (mem R) b0 o0 γ)))))
        (lends_ref 𝓛 R (named 0) κ0 was.0 b0 o0) $ await ! tt $ pick ! (λ γ0. split ! $ let r0 : MutBor HeldReceiver = record { ref_ptr = (b0, o0); ghost_name = γ0; now = was.0 } in
        move ! (5 ∷ []) $ lft_new ! tt (λ α1. let κ1 : Lft = α1 ∷ [] in move ! (1 ∷ []) $
        use1 𝓛 (later (some (λ (γ : ℕ). ‵ ((MutRef (named 0) κ1 out_type.the_row).own_val (record { ref_ptr = (b2, o2); ghost_name = γ; now = was.2 }) (vptr b2 o2 ∷ [])) ⊛ ‵ (flent κ1 (Body (mem out_type.the_row) b2 o2 γ)))))
        (lends_ref 𝓛 out_type.the_row (named 0) κ1 was.2 b2 o2) $ await ! tt $ pick ! (λ γ1. split ! $ let r1 : MutBor PlainFrame = record { ref_ptr = (b2, o2); ghost_name = γ1; now = was.2 } in
        let z : G.Ghost = (((κ0, (κ1, tt)), (full_share, (full_share, tt)), tt, (r0, (r1, tt)), (mut_vals r0, (mut_vals r1, tt))), tt) in
        nothing ! $ move ! (1 ∷ 0 ∷ []) $ fjoin ! $ move ! (3 ∷ 0 ∷ []) $ fjoin ! $
        nothing ! $ move ! (3 ∷ 0 ∷ []) $ join ! $ move ! (4 ∷ 0 ∷ []) $ join ! $ join ! $ use0 𝓛 (raw (fact 𝓤 (IsInUse was.0))) (fact_i 𝓤 (IsInUse was.0) (emp 𝓤) in_use) $ move ! (1 ∷ 0 ∷ []) $ use2 𝓛 (raw (G.pre z)) (id⊢ 𝓤 _) $
        calls_at ! fm G known z (and_then ! (get ! refl) (and_then ! (get ! refl) (no_more !))) (λ v.
        use1 𝓛 (later (some (λ (r' : ℕ). ((‵ (flft κ0 full_share) ⊛ (‵ (flft κ1 full_share) ⊛ ‵ ftrue)) ⊛ ‵ (u32.own_val r' (v ∷ []))) ⊛ some (λ (ws : (HeldReceiver × (PlainFrame × Unit {0}))).
        ‵ (lasts g.ended (κ0, (κ1, tt)) (r0, (r1, tt)) ws) ⊛ (raw (fact 𝓤 (Numbered (λ answer. LendsFrame was.0 was.2 answer ws.0 ws.1.0) r')) ⊛ raw (fact 𝓤 (IsInUse ws.0))))))) (id⊢ 𝓤 _) $
        await ! tt $ pick ! (λ r'. split ! $ split ! $ split ! $ lft_end ! tt $ move ! (1 ∷ []) $ split ! $ lft_end ! tt $ move ! (3 ∷ []) $
        peeks ! u32 (Is u32) (shows 𝓛 u32) r' (v ∷ []) (λ is. lands_as ! refl refl ((uint_Lawful 𝓛 w32).typed r' _ is).0 $ move ! (4 ∷ []) $ pick ! (λ ws. split3 ! $ move ! (1 ∷ []) $ heard ! _ (λ does. move ! (1 ∷ []) $ heard ! _ (λ still.
        fsplit ! $ fsplit ! $ move ! (1 ∷ []) $ drop ! $ move ! (1 ∷ []) $ fsplit ! $ fsplit ! $ move ! (1 ∷ []) $ drop ! $
        move ! (6 ∷ 8 ∷ 2 ∷ []) $ use3 𝓛 (later (‵ ((mem R).own_at ws.0 b0 o0))) (ref_back 𝓛 R κ0 γ0 ws.0 b0 o0) $ await ! tt $
        move ! (4 ∷ 6 ∷ 1 ∷ []) $ use3 𝓛 (later (‵ ((mem out_type.the_row).own_at ws.1.0 b2 o2))) (ref_back 𝓛 out_type.the_row κ1 γ1 ws.1.0 b2 o2) $ await ! tt $
        -- it is shared for a lifetime that stays
        sets ! (addr ! (through ! refl (stop !))) refl (tt, tt) $
        lft_new ! tt (λ α2. let κ2 : Lft = α2 ∷ [] in move ! (2 ∷ 0 ∷ []) $
        use2 𝓛 (later ((‵ ((ShrRef (named 0) κ2 R).own_val (record { ref_ptr = (b0, o0); now = ws.0 }) (vptr b0 o0 ∷ [])) ⊛ ‵ (flent κ2 (part_at R full_share ws.0 b0 o0))) ⊛ ‵ (flft κ2 full_share)))
        (lends_shr 𝓛 R (named 0) κ2 full_share ws.0 b0 o0 R.lives (held_laws.the_row_laws.shares 𝓛 ws.0) ((κ2, full_share) ∷ []) (held_laws.the_within κ2) (Incl-refl κ2)) $ await ! tt $ split ! $ split ! $
        let s : Bor HeldReceiver = record { ref_ptr = (b0, o0); now = ws.0 } in
        let z2 : Reads.Ghost = (((κ2, tt), (full_share, tt), tt, (s, tt), (shr_vals s, tt)), tt) in
        nothing ! $ move ! (1 ∷ 0 ∷ []) $ fjoin ! $ nothing ! $ move ! (3 ∷ 0 ∷ []) $ join ! $ join ! $ nothing ! $ move ! (1 ∷ 0 ∷ []) $ use2 𝓛 (raw (Reads.pre z2)) (id⊢ 𝓤 _) $
        calls_at ! fm Reads read_known z2 (and_then ! (get ! refl) (no_more !)) (λ v2.
        use1 𝓛 (later (some (λ (r : Bor (List ℕ)). ((‵ (flft κ2 full_share) ⊛ ‵ ftrue) ⊛ ‵ ((ShrSlice (named 0) κ2 u8).own_val r (v2 ∷ []))) ⊛ some (λ (us : (Unit {0} × Unit {0})).
        ‵ (lasts read.ended (κ2, tt) (s, tt) us) ⊛ raw (fact 𝓤 (r.now ≡ bytes_lent ws.0.lent)))))) (id⊢ 𝓤 _) $
        await ! tt $ pick ! (λ r. split ! $ split ! $ split ! $ move ! (3 ∷ []) $ pick ! (λ us. split ! $ drop ! $ heard ! (r.now ≡ bytes_lent ws.0.lent) (λ e. move ! (2 ∷ []) $
        peeks ! (ShrSlice (named 0) κ2 u8) (Is (ShrSlice (named 0) κ2 u8)) (shows 𝓛 (ShrSlice (named 0) κ2 u8)) r (v2 ∷ []) (λ at.
        rewrite ! 0 (λ (vs : List Val). ‵ ((ShrSlice (named 0) κ2 u8).own_val r vs)) at.0.0 refl $
        rewrite ! 0 (λ (xs : List ℕ). ‵ ((ShrSlice (named 0) κ2 u8).own_val (record { ref_ptr = r.ref_ptr; now = xs }) (slice_val r.ref_ptr (length xs) ∷ []))) e refl $
        lands_as ! (ap only at.0.0) refl (tt, (tt, (record { fits = at.0.1.0 }, tt))) $
        let to : Ptr = block_ptr r.ref_ptr.0 r.ref_ptr.1 in
        move ! (9 ∷ []) $ sets ! (addr ! (from ! (fld ! refl (hop ! (look_in_at ! 9 (sub ! 0 refl (whole !))) (stop !))))) refl (tt, tt) $ assigns ! (of_opd ! (get ! refl)) (through ! refl (stop !)) (store ! 0 refl (tt, tt)) $
        use1 𝓛 (‵ (points_to RawPtr (block_ptr b1 o1) to)) (pointer_in 𝓛 to b1 o1) $
        sets ! (of_opd ! (get ! refl)) refl ((uint_Lawful 𝓛 w32).typed r' _ is).0 $
        move ! (4 ∷ 9 ∷ []) $ fjoin ! $ move ! (3 ∷ 2 ∷ 0 ∷ []) $ use3 𝓛 (‵ (lent_at α2 (block_ptr b0 o0) to ws.0)) (loan_made 𝓛 α2 b0 o0 ws.0 r.ref_ptr.0 r.ref_ptr.1) $
        move ! (0 ∷ 1 ∷ 3 ∷ []) $ use3 𝓛 (raw (Ends (block_ptr b0 o0) (block_ptr b1 o1) (block_ptr b2 o2) r')) (ended-3 𝓛 (F0 (block_ptr b0 o0)) (F1 (block_ptr b1 o1)) (F2 (block_ptr b2 o2)) (Q (block_ptr b0 o0) (block_ptr b1 o1) (block_ptr b2 o2) r') (ws.0, to, ws.1.0, Some α2) (does, still, refl)) $
        move ! (3 ∷ 0 ∷ []) $ returns ! (look_at ! 0 refl) $ free_all ! refl $ keep ! (0 ∷ 1 ∷ []) $ nothing ! $ nothing ! $ fjoin ! $ nothing ! $ fjoin ! $ nothing ! $ fjoin ! $ nothing ! $
        by ! (leaves 𝓛 f.ended stayed c (y (block_ptr b0 o0) (block_ptr b1 o1) (block_ptr b2 o2)) v r' (tt, (tt, (tt, tt))) (tt, (tt, (tt, tt))))))))))))))))))))))))

    at : (handle bytes frame : Ptr) → Testable bytes → Testable frame → ent 𝓤 (sep 𝓤 (sem 𝓛 (handle_at handle was.0)) (sep 𝓤 (sem 𝓛 (value_at RawPtr bytes was.1)) (sem 𝓛 (value_at out_type.the_row frame was.2)))) (Runs handle bytes frame)
    at null_ptr bytes frame may-bytes may-frame = null_handle bytes frame
    at (block_ptr b0 o0) null_ptr frame may-bytes may-frame = fact_use 𝓤 (Testable (block_ptr b0 o0)) (via 𝓤 _ (fst∗ 𝓤 (sem 𝓛 (boxed_at (block_ptr b0 o0) was.0)) (sep 𝓤 (sem 𝓛 (value_at RawPtr null_ptr was.1)) (sem 𝓛 (value_at out_type.the_row frame was.2)))) (boxed-Testable 𝓛 (block_ptr b0 o0) was.0)) (λ may-handle. null_bytes b0 o0 may-handle frame)
    at (block_ptr b0 o0) (block_ptr b1 o1) null_ptr may-bytes may-frame = fact_use 𝓤 (Testable (block_ptr b0 o0)) (via 𝓤 _ (fst∗ 𝓤 (sem 𝓛 (boxed_at (block_ptr b0 o0) was.0)) (sep 𝓤 (sem 𝓛 (value_at RawPtr (block_ptr b1 o1) was.1)) (sem 𝓛 (value_at out_type.the_row null_ptr was.2)))) (boxed-Testable 𝓛 (block_ptr b0 o0) was.0)) (λ may-handle. null_frame b0 o0 b1 o1 may-handle may-bytes)
    at (block_ptr b0 o0) (block_ptr b1 o1) (block_ptr b2 o2) may-bytes may-frame = fact_use 𝓤 (Testable (block_ptr b0 o0)) (via 𝓤 _ (fst∗ 𝓤 (sem 𝓛 (boxed_at (block_ptr b0 o0) was.0)) (sep 𝓤 (sem 𝓛 (value_at RawPtr (block_ptr b1 o1) was.1)) (sem 𝓛 (value_at out_type.the_row (block_ptr b2 o2) was.2)))) (boxed-Testable 𝓛 (block_ptr b0 o0) was.0)) (λ may-handle. held_there b0 o0 b1 o1 b2 o2 may-handle may-bytes may-frame)

pub segrx_receiver_lend_frame_spec : {M : Type 1} → statement M
segrx_receiver_lend_frame_spec 𝓤 𝓛 𝓜 𝓡 wired =
    let 𝓣 = tables 𝓤 𝓛.H 𝓜 𝓡 𝓡.env in
    proved 𝓛 f.ended stayed (c 𝓛 𝓜.mem 𝓡.returns) 𝓜 𝓡 (Goes-dropped 𝓛 0 (plain (λ _. RawPtr)) yes (λ κs x w. refl), (Goes-dropped 𝓛 0 (plain (λ _. RawPtr)) yes (λ κs x w. refl), (Goes-dropped 𝓛 0 (plain (λ _. RawPtr)) yes (λ κs x w. refl), tt)))
    f.Key.name code.function (code.unfolded 𝓤 𝓛.H 𝓜 𝓡 wired) (λ κs. (rawptr_vals, (rawptr_vals, (rawptr_vals, tt)))) (λ κs. (rawptr_Tells, (rawptr_Tells, (rawptr_Tells, tt)))) (λ κs qs bounds a was are.
    qed 𝓛 (raw (on_entry 𝓛 f.signature κs qs a (rawptr_vals a.0, (rawptr_vals a.1.0, (rawptr_vals a.1.1.0, tt)))) ∷ (raw (fact 𝓤 (Testable a.1.0)) ⊛ (raw (fact 𝓤 (Testable a.1.1.0)) ⊛ (‵ (handle_at a.0 was.0) ⊛ ‵ (value_at RawPtr a.1.0 was.1) ⊛ ‵ (value_at out_type.the_row a.1.1.0 was.2) ⊛ raw (fact 𝓤 (IsInUse was.0))))) ∷ []) ∵ move ! (1 ∷ []) $ split ! $ heard ! (Testable a.1.0) (λ may-bytes. split ! $ heard ! (Testable a.1.1.0) (λ may-frame. split ! $ move ! (1 ∷ []) $ split ! $ move ! (1 ∷ []) $ split ! $ move ! (1 ∷ []) $ heard ! (IsInUse was.0) (λ in_use. move ! (3 ∷ []) $ drop ! $ move ! (2 ∷ 1 ∷ 0 ∷ []) $
    by ! (at 𝓛 𝓜.mem 𝓡.returns 𝓣.C 𝓣.Λ (framed 𝓤 𝓛.H 𝓜 𝓣) (callee.met 𝓤 𝓛 𝓜 𝓡 (code.calls-segrx_c::calls::lend_frame 𝓡.env wired)) (reader.met 𝓤 𝓛 𝓜 𝓡 (code.calls-segrx_c::calls::lent_bytes 𝓡.env wired)) was in_use a.0 a.1.0 a.1.1.0 may-bytes may-frame)))))
