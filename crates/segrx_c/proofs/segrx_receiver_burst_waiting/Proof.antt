-- A burst goes to the receiver behind the handle, its bytes lent for the call, and how much waits
-- then is told.
use Rattle.segrx_c.proofs.Steps.{◌≡◌, ℕ, ◌^◌, ◌<◌, ◌*◌, ◌≤◌, List, [], ◌∷◌, ◌++◌, length, Bool, true, false, refl, lit<, arith, w8, w32, w64, MutBor, Bor, Ura, full_share, named, Val, vint, vbool, vptr, vnull, SProp, ent, sep, ex, id⊢, via, fst∗, Lft, Fml, ftrue, fsep, flft, flent, Memory, Routine, Calls, Loops, WpFn, Logic, sem, Fun, fact, fact_i, fact_use, emp, tables, framed, ‵, raw, ◌⊛◌, some, later, at_ret, ◌$◌, ◌∵◌, !, qed, by, move, keep, drop, use0, use1, use2, use3, split, split3, join, pick, fsplit, fjoin, await, lft_new, lft_end, Body, of_opd, bin, lit, addr, stop, and_then, no_more, first, branches, skips, exec, returns, returns_within, enter, agg, alloc_all, pass_all, free_all, look_at, get, through, sets, lands_as, env, FmC, yes, Is, shows, mem, uint_vals, uint_Tells, uint_Makes, uint_Lawful, bool_vals, bool_Tells, bool_Makes, u8, u32, usize, bool, MutRef, mut_vals, lends_ref, ref_back, Ptr, block_ptr, null_ptr, ptr_val, RawPtr, rawptr_vals, rawptr_Tells, Testable, tests_null, plain, owned, peeks, heard, nothing, Contract, Triple, calls_at, Clauses, lasts, on_entry, triple_of, Stays, stay_dropped, walk_of, Goes-dropped, proved, leaves, typed, boxed-Testable, ended-3, apart, counted, row_in, row_out, within, beyond, nat_lt, not, T, subst, sym, nltb→le, feq, feq_i, feq_l, Array, Array-apart, Array-whole, lends_shr_slice, lent_back, Incl-refl, ShrSlice, slice_val, big_lit, points_to, uint_Copied}
use Rattle.segrx_c.specs.Handle.{boxed_at, handle_at, value_at, row_at}
use Rattle.segrx_c.specs.Answers.{Numbered, Unless, refused}
use Rattle.c_receiver.specs.declared.held.HeldReceiver.{HeldReceiver}
use Rattle.c_receiver.specs.contracts.held.HeldReceiver.{the_row as R}
use Rattle.c_receiver.specs.Held.{IsInUse}
use Rattle.c_receiver.specs.Held.{TakesBurst, waiting_in}
use Rattle.c_receiver.specs.declared.plain.PlainWaiting.{PlainWaiting}
use Rattle.c_receiver.specs.contracts.plain.PlainWaiting as out_type
use Rattle.segrx_c.specs.contracts.calls.burst_waiting as g
use Rattle.segrx_c.proofs.calls.burst_waiting.Symbol.{name as #callee}
use Rattle.segrx_c.proofs.calls.burst_waiting.Met as callee
use Rattle.segrx_c.specs.contracts.segrx_receiver_burst_waiting as f
use Rattle.segrx_c.proofs.segrx_receiver_burst_waiting.Statement.{statement}
use Rattle.segrx_c.proofs.segrx_receiver_burst_waiting.Code as code

abbrev stayed : Stays f.ended.signature.params f.ended.kept
stayed = (stay_dropped (plain (λ _. RawPtr)) yes, (stay_dropped (plain (λ _. usize)) yes, (stay_dropped (plain (λ _. u32)) yes, (stay_dropped (plain (λ _. bool)) yes, (stay_dropped (plain (λ _. RawPtr)) yes, (stay_dropped (plain (λ _. usize)) yes, (stay_dropped (plain (λ _. RawPtr)) yes, tt)))))))

module _ {M : Type 1} {𝓤 : Ura M} (𝓛 : Logic 𝓤) (at_mem : Memory → SProp 𝓤) (run : Routine → Fun 𝓤) where
  open 𝓛 use {H}

  abbrev c : Clauses 𝓤 f.ended
  c = f.clauses 𝓛 at_mem run

  abbrev G : Contract 𝓤
  G = triple_of 𝓛 g.signature (g.spec 𝓛 at_mem run)

  module _ (C : Calls 𝓤 H) (Λ : Loops 𝓤 H) (fm : FmC 𝓤 H 𝓛.laws C) (known : Triple 𝓤 (C #callee) G)
      (channel : ℕ) (fits-channel : channel < 2 ^ 64) (number : ℕ) (fits-number : number < 2 ^ 32) (hcs_ok : Bool) (was : (HeldReceiver × List ℕ × PlainWaiting)) (in_use : IsInUse was.0) where
    abbrev y : Ptr → Ptr → ℕ → Ptr → (walk_of 𝓛 f.ended stayed c).Ghost
    y handle bytes count waiting = ((tt, tt, tt, (handle, (channel, (number, (hcs_ok, (bytes, (count, (waiting, tt))))))), (rawptr_vals handle, (vint w64 channel ∷ [], (vint w32 number ∷ [], (vbool hcs_ok ∷ [], (rawptr_vals bytes, (vint w64 count ∷ [], (rawptr_vals waiting, tt)))))))), was)

    abbrev Post : Ptr → Ptr → ℕ → Ptr → Val → SProp 𝓤
    Post handle bytes count waiting = (walk_of 𝓛 f.ended stayed c).post (y handle bytes count waiting)

    abbrev Runs : Ptr → Ptr → ℕ → Ptr → SProp 𝓤
    Runs handle bytes count waiting = WpFn 𝓤 H C Λ code.function (rawptr_vals handle ++ ((vint w64 channel ∷ []) ++ ((vint w32 number ∷ []) ++ ((vbool hcs_ok ∷ []) ++ (rawptr_vals bytes ++ ((vint w64 count ∷ []) ++ (rawptr_vals waiting ++ []))))))) (Post handle bytes count waiting)

    abbrev F0 : Ptr → (HeldReceiver × PlainWaiting) → Fml
    F0 handle after = handle_at handle after.0

    abbrev F1 : Ptr → ℕ → (HeldReceiver × PlainWaiting) → Fml
    F1 bytes count after = row_at u8 65535 bytes count was.1

    abbrev F2 : Ptr → (HeldReceiver × PlainWaiting) → Fml
    F2 waiting after = value_at out_type.the_row waiting after.1

    abbrev Q : Ptr → Ptr → ℕ → Ptr → ℕ → (HeldReceiver × PlainWaiting) → Type 0
    Q handle bytes count waiting answer after = Unless (refused (handle ∷ bytes ∷ waiting ∷ []) (nat_lt 65535 count ∷ [])) answer (after ≡ (was.0, was.2)) (Numbered (λ answer. TakesBurst was.0 channel number hcs_ok was.1 answer after.0 × (after.1 ≡ waiting_in after.0.queue)) answer × IsInUse after.0)

    abbrev Ends : Ptr → Ptr → ℕ → Ptr → ℕ → SProp 𝓤
    Ends handle bytes count waiting answer = ex 𝓤 (λ (after : (HeldReceiver × PlainWaiting)). sep 𝓤 (sem 𝓛 (F0 handle after)) (sep 𝓤 (sem 𝓛 (F1 bytes count after)) (sep 𝓤 (sem 𝓛 (F2 waiting after)) (fact 𝓤 (Q handle bytes count waiting answer after)))))

    null_handle : (bytes waiting : Ptr) (count : ℕ) (fits-count : count < 2 ^ 64) → ent 𝓤 (sep 𝓤 (sem 𝓛 (handle_at null_ptr was.0)) (sep 𝓤 (sem 𝓛 (row_at u8 65535 bytes count was.1)) (sem 𝓛 (value_at out_type.the_row waiting was.2)))) (Runs null_ptr bytes count waiting)
    null_handle bytes waiting count fits-count =
        qed 𝓛 (‵ (handle_at null_ptr was.0) ∷ ‵ (row_at u8 65535 bytes count was.1) ∷ ‵ (value_at out_type.the_row waiting was.2) ∷ []) ∵ enter ! C Λ code.function (vnull ∷ vint w64 channel ∷ vint w32 number ∷ vbool hcs_ok ∷ ptr_val bytes ∷ vint w64 count ∷ ptr_val waiting ∷ []) _ $
        alloc_all ! (λ l. let En = env code.function.locals l in pass_all ! refl ((tt, record { fits = lit< tt }), ((tt, record { fits = fits-channel }), ((tt, record { fits = fits-number }), ((tt, tt), (typed bytes, ((tt, record { fits = fits-count }), (typed waiting, tt))))))) $
        sets ! (bin ! (get ! refl) (lit ! tt) (tests_null null_ptr (lit< tt))) refl (tt, tt) $ first ! $ branches ! (get ! refl)
        (λ t. sets ! (of_opd ! (lit ! tt)) refl (tt, record { fits = lit< tt }) $ use3 𝓛 (raw (Ends null_ptr bytes count waiting 1)) (ended-3 𝓛 (F0 null_ptr) (F1 bytes count) (F2 waiting) (Q null_ptr bytes count waiting 1) (was.0, was.2) (refl, refl)) $
        owned ! u32 (Is u32) (uint_Makes 𝓛 w32) 1 _ (refl, lit< tt) $ returns_within ! (Post null_ptr bytes count waiting) refl (look_at ! 0 refl) $ free_all ! refl $ keep ! (0 ∷ 1 ∷ []) $ nothing ! $ nothing ! $ fjoin ! $ nothing ! $ fjoin ! $ nothing ! $ fjoin ! $ nothing ! $ fjoin ! $ nothing ! $ fjoin ! $ nothing ! $ fjoin ! $ nothing ! $ fjoin ! $ nothing ! $
        by ! (leaves 𝓛 f.ended stayed c (y null_ptr bytes count waiting) (vint w32 1) 1 (tt, (tt, (tt, (tt, (tt, (tt, (tt, tt))))))) (tt, (tt, (tt, (tt, (tt, (tt, (tt, tt))))))))) (λ t. absurd t))

    null_bytes : (b0 o0 : ℕ) (may-handle : Testable (block_ptr b0 o0)) (waiting : Ptr) (count : ℕ) (fits-count : count < 2 ^ 64) → ent 𝓤 (sep 𝓤 (sem 𝓛 (handle_at (block_ptr b0 o0) was.0)) (sep 𝓤 (sem 𝓛 (row_at u8 65535 null_ptr count was.1)) (sem 𝓛 (value_at out_type.the_row waiting was.2)))) (Runs (block_ptr b0 o0) null_ptr count waiting)
    null_bytes b0 o0 may-handle waiting count fits-count =
        qed 𝓛 (‵ (handle_at (block_ptr b0 o0) was.0) ∷ ‵ (row_at u8 65535 null_ptr count was.1) ∷ ‵ (value_at out_type.the_row waiting was.2) ∷ []) ∵ enter ! C Λ code.function (vptr b0 o0 ∷ vint w64 channel ∷ vint w32 number ∷ vbool hcs_ok ∷ vnull ∷ vint w64 count ∷ ptr_val waiting ∷ []) _ $
        alloc_all ! (λ l. let En = env code.function.locals l in pass_all ! refl ((tt, tt), ((tt, record { fits = fits-channel }), ((tt, record { fits = fits-number }), ((tt, tt), ((tt, record { fits = lit< tt }), ((tt, record { fits = fits-count }), (typed waiting, tt))))))) $
        sets ! (bin ! (get ! refl) (lit ! tt) (tests_null (block_ptr b0 o0) may-handle)) refl (tt, tt) $ first ! $ branches ! (get ! refl)
        (λ t. absurd t) (λ t. skips ! $ exec ! C Λ En code.Mir.t-3 (at_ret En (Post (block_ptr b0 o0) null_ptr count waiting)) $
        sets ! (bin ! (get ! refl) (lit ! tt) (tests_null null_ptr (lit< tt))) refl (tt, tt) $ first ! $ branches ! (get ! refl)
        (λ t. sets ! (of_opd ! (lit ! tt)) refl (tt, record { fits = lit< tt }) $ use3 𝓛 (raw (Ends (block_ptr b0 o0) null_ptr count waiting 1)) (ended-3 𝓛 (F0 (block_ptr b0 o0)) (F1 null_ptr count) (F2 waiting) (Q (block_ptr b0 o0) null_ptr count waiting 1) (was.0, was.2) (refl, refl)) $
        owned ! u32 (Is u32) (uint_Makes 𝓛 w32) 1 _ (refl, lit< tt) $ returns_within ! (Post (block_ptr b0 o0) null_ptr count waiting) refl (look_at ! 0 refl) $ free_all ! refl $ keep ! (0 ∷ 1 ∷ []) $ nothing ! $ nothing ! $ fjoin ! $ nothing ! $ fjoin ! $ nothing ! $ fjoin ! $ nothing ! $ fjoin ! $ nothing ! $ fjoin ! $ nothing ! $ fjoin ! $ nothing ! $ fjoin ! $ nothing ! $
        by ! (leaves 𝓛 f.ended stayed c (y (block_ptr b0 o0) null_ptr count waiting) (vint w32 1) 1 (tt, (tt, (tt, (tt, (tt, (tt, (tt, tt))))))) (tt, (tt, (tt, (tt, (tt, (tt, (tt, tt))))))))) (λ t. absurd t)))

    null_waiting : (b0 o0 b1 o1 : ℕ) (may-handle : Testable (block_ptr b0 o0)) (may-bytes : Testable (block_ptr b1 o1)) (count : ℕ) (fits-count : count < 2 ^ 64) → ent 𝓤 (sep 𝓤 (sem 𝓛 (handle_at (block_ptr b0 o0) was.0)) (sep 𝓤 (sem 𝓛 (row_at u8 65535 (block_ptr b1 o1) count was.1)) (sem 𝓛 (value_at out_type.the_row null_ptr was.2)))) (Runs (block_ptr b0 o0) (block_ptr b1 o1) count null_ptr)
    null_waiting b0 o0 b1 o1 may-handle may-bytes count fits-count =
        qed 𝓛 (‵ (handle_at (block_ptr b0 o0) was.0) ∷ ‵ (row_at u8 65535 (block_ptr b1 o1) count was.1) ∷ ‵ (value_at out_type.the_row null_ptr was.2) ∷ []) ∵ enter ! C Λ code.function (vptr b0 o0 ∷ vint w64 channel ∷ vint w32 number ∷ vbool hcs_ok ∷ vptr b1 o1 ∷ vint w64 count ∷ vnull ∷ []) _ $
        alloc_all ! (λ l. let En = env code.function.locals l in pass_all ! refl ((tt, tt), ((tt, record { fits = fits-channel }), ((tt, record { fits = fits-number }), ((tt, tt), ((tt, tt), ((tt, record { fits = fits-count }), ((tt, record { fits = lit< tt }), tt))))))) $
        sets ! (bin ! (get ! refl) (lit ! tt) (tests_null (block_ptr b0 o0) may-handle)) refl (tt, tt) $ first ! $ branches ! (get ! refl)
        (λ t. absurd t) (λ t. skips ! $ exec ! C Λ En code.Mir.t-3 (at_ret En (Post (block_ptr b0 o0) (block_ptr b1 o1) count null_ptr)) $
        sets ! (bin ! (get ! refl) (lit ! tt) (tests_null (block_ptr b1 o1) may-bytes)) refl (tt, tt) $ first ! $ branches ! (get ! refl)
        (λ t. absurd t) (λ t. skips ! $ exec ! C Λ En code.Mir.t-5 (at_ret En (Post (block_ptr b0 o0) (block_ptr b1 o1) count null_ptr)) $
        sets ! (bin ! (get ! refl) (lit ! tt) (tests_null null_ptr (lit< tt))) refl (tt, tt) $ first ! $ branches ! (get ! refl)
        (λ t. sets ! (of_opd ! (lit ! tt)) refl (tt, record { fits = lit< tt }) $ use3 𝓛 (raw (Ends (block_ptr b0 o0) (block_ptr b1 o1) count null_ptr 1)) (ended-3 𝓛 (F0 (block_ptr b0 o0)) (F1 (block_ptr b1 o1) count) (F2 null_ptr) (Q (block_ptr b0 o0) (block_ptr b1 o1) count null_ptr 1) (was.0, was.2) (refl, refl)) $
        owned ! u32 (Is u32) (uint_Makes 𝓛 w32) 1 _ (refl, lit< tt) $ returns_within ! (Post (block_ptr b0 o0) (block_ptr b1 o1) count null_ptr) refl (look_at ! 0 refl) $ free_all ! refl $ keep ! (0 ∷ 1 ∷ []) $ nothing ! $ nothing ! $ fjoin ! $ nothing ! $ fjoin ! $ nothing ! $ fjoin ! $ nothing ! $ fjoin ! $ nothing ! $ fjoin ! $ nothing ! $ fjoin ! $ nothing ! $ fjoin ! $ nothing ! $
        by ! (leaves 𝓛 f.ended stayed c (y (block_ptr b0 o0) (block_ptr b1 o1) count null_ptr) (vint w32 1) 1 (tt, (tt, (tt, (tt, (tt, (tt, (tt, tt))))))) (tt, (tt, (tt, (tt, (tt, (tt, (tt, tt))))))))) (λ t. absurd t))))

    held_there : (b0 o0 b1 o1 b2 o2 : ℕ) (may-handle : Testable (block_ptr b0 o0)) (may-bytes : Testable (block_ptr b1 o1)) (may-waiting : Testable (block_ptr b2 o2)) (fits-count : length was.1 < 2 ^ 64) (e-count : nat_lt 65535 (length was.1) ≡ false) → ent 𝓤 (sep 𝓤 (sem 𝓛 (boxed_at (block_ptr b0 o0) was.0)) (sep 𝓤 (sem 𝓛 (apart u8 was.1 b1 o1)) (sem 𝓛 (points_to out_type.the_row (block_ptr b2 o2) was.2)))) (Runs (block_ptr b0 o0) (block_ptr b1 o1) (length was.1) (block_ptr b2 o2))
    held_there b0 o0 b1 o1 b2 o2 may-handle may-bytes may-waiting fits-count e-count =
        qed 𝓛 (‵ (boxed_at (block_ptr b0 o0) was.0) ∷ ‵ (apart u8 was.1 b1 o1) ∷ ‵ (points_to out_type.the_row (block_ptr b2 o2) was.2) ∷ []) ∵ enter ! C Λ code.function (vptr b0 o0 ∷ vint w64 channel ∷ vint w32 number ∷ vbool hcs_ok ∷ vptr b1 o1 ∷ vint w64 (length was.1) ∷ vptr b2 o2 ∷ []) _ $
        alloc_all ! (λ l. let En = env code.function.locals l in pass_all ! refl ((tt, tt), ((tt, record { fits = fits-channel }), ((tt, record { fits = fits-number }), ((tt, tt), ((tt, tt), ((tt, record { fits = fits-count }), ((tt, tt), tt))))))) $
        sets ! (bin ! (get ! refl) (lit ! tt) (tests_null (block_ptr b0 o0) may-handle)) refl (tt, tt) $ first ! $ branches ! (get ! refl)
        (λ t. absurd t) (λ t. skips ! $ exec ! C Λ En code.Mir.t-3 (at_ret En (Post (block_ptr b0 o0) (block_ptr b1 o1) (length was.1) (block_ptr b2 o2))) $
        sets ! (bin ! (get ! refl) (lit ! tt) (tests_null (block_ptr b1 o1) may-bytes)) refl (tt, tt) $ first ! $ branches ! (get ! refl)
        (λ t. absurd t) (λ t. skips ! $ exec ! C Λ En code.Mir.t-5 (at_ret En (Post (block_ptr b0 o0) (block_ptr b1 o1) (length was.1) (block_ptr b2 o2))) $
        sets ! (bin ! (get ! refl) (lit ! tt) (tests_null (block_ptr b2 o2) may-waiting)) refl (tt, tt) $ first ! $ branches ! (get ! refl)
        (λ t. absurd t) (λ t. skips ! $ exec ! C Λ En code.Mir.t-7 (at_ret En (Post (block_ptr b0 o0) (block_ptr b1 o1) (length was.1) (block_ptr b2 o2))) $
        sets ! (bin ! (big_lit ! (record { fits = lit< tt })) (get ! refl) tt) refl (tt, tt) $ first ! $ branches ! (get ! refl)
        (λ t. absurd (subst T e-count t)) (λ t. skips ! $ exec ! C Λ En code.Mir.t-9 (at_ret En (Post (block_ptr b0 o0) (block_ptr b1 o1) (length was.1) (block_ptr b2 o2))) $
        sets ! (of_opd ! (get ! refl)) refl (tt, tt) $ sets ! (addr ! (through ! refl (stop !))) refl (tt, tt) $ sets ! (agg ! (and_then ! (get ! refl) (and_then ! (get ! refl) (no_more !)))) refl (tt, (tt, (record { fits = fits-count }, tt))) $ sets ! (addr ! (through ! refl (stop !))) refl (tt, tt) $
        let few-count : length was.1 ≤ 65535 = nltb→le 65535 (length was.1) (subst (λ (y : Bool). T (not y)) (sym e-count) tt) in let room-count : length was.1 * 1 < 2 ^ 63 = omega arith in
        fsplit ! $ lft_new ! tt (λ α0. let κ0 : Lft = α0 ∷ [] in move ! (1 ∷ []) $
        use1 𝓛 (later (some (λ (γ : ℕ). ‵ ((MutRef (named 0) κ0 R).own_val (record { ref_ptr = (b0, o0); ghost_name = γ; now = was.0 }) (vptr b0 o0 ∷ [])) ⊛ ‵ (flent κ0 (Body (mem R) b0 o0 γ)))))
        (lends_ref 𝓛 R (named 0) κ0 was.0 b0 o0) $ await ! tt $ pick ! (λ γ0. split ! $ let r0 : MutBor HeldReceiver = record { ref_ptr = (b0, o0); ghost_name = γ0; now = was.0 } in
        move ! (4 ∷ []) $ feq_i ! ℕ (length was.1) (length was.1) refl $ fjoin ! $ lft_new ! tt (λ α1. let κ1 : Lft = α1 ∷ [] in move ! (1 ∷ []) $
        use2 𝓛 (later ((‵ ((ShrSlice (named 0) κ1 u8).own_val (record { ref_ptr = (b1, o1); now = was.1 }) (slice_val (b1, o1) (length was.1) ∷ [])) ⊛ ‵ (flent κ1 (counted u8 was.1 b1 o1))) ⊛ ‵ (flft κ1 full_share)))
        (lends_shr_slice 𝓛 u8 (named 0) κ1 full_share was.1 b1 o1 (fits-count, room-count) κ1 ((uint_Copied 𝓛 w8).shares full_share κ1) ((κ1, full_share) ∷ []) (Incl-refl κ1) (Incl-refl κ1)) $ await ! tt $ split ! $ split ! $ let r1 : Bor (List ℕ) = record { ref_ptr = (b1, o1); now = was.1 } in
        move ! (7 ∷ []) $ lft_new ! tt (λ α2. let κ2 : Lft = α2 ∷ [] in move ! (1 ∷ []) $
        use1 𝓛 (later (some (λ (γ : ℕ). ‵ ((MutRef (named 0) κ2 out_type.the_row).own_val (record { ref_ptr = (b2, o2); ghost_name = γ; now = was.2 }) (vptr b2 o2 ∷ [])) ⊛ ‵ (flent κ2 (Body (mem out_type.the_row) b2 o2 γ)))))
        (lends_ref 𝓛 out_type.the_row (named 0) κ2 was.2 b2 o2) $ await ! tt $ pick ! (λ γ2. split ! $ let r2 : MutBor PlainWaiting = record { ref_ptr = (b2, o2); ghost_name = γ2; now = was.2 } in
        let z : G.Ghost = (((κ0, (κ1, (κ2, tt))), (full_share, (full_share, (full_share, tt))), tt, (r0, (channel, (number, (hcs_ok, (r1, (r2, tt)))))), (mut_vals r0, (vint w64 channel ∷ [], (vint w32 number ∷ [], (vbool hcs_ok ∷ [], (slice_val (b1, o1) (length was.1) ∷ [], (mut_vals r2, tt))))))), tt) in
        nothing ! $ move ! (1 ∷ 0 ∷ []) $ fjoin ! $ move ! (3 ∷ 0 ∷ []) $ fjoin ! $ owned ! bool (Is bool) (bool_Makes 𝓛) hcs_ok _ refl $ fjoin ! $ owned ! u32 (Is u32) (uint_Makes 𝓛 w32) number _ (refl, fits-number) $ fjoin ! $ owned ! usize (Is usize) (uint_Makes 𝓛 w64) channel _ (refl, fits-channel) $ fjoin ! $ move ! (5 ∷ 0 ∷ []) $ fjoin ! $
        nothing ! $ move ! (3 ∷ 0 ∷ []) $ join ! $ move ! (4 ∷ 0 ∷ []) $ join ! $ move ! (5 ∷ 0 ∷ []) $ join ! $ join ! $ use0 𝓛 (raw (fact 𝓤 (IsInUse was.0))) (fact_i 𝓤 (IsInUse was.0) (emp 𝓤) in_use) $ move ! (1 ∷ 0 ∷ []) $ use2 𝓛 (raw (G.pre z)) (id⊢ 𝓤 _) $
        calls_at ! fm G known z (and_then ! (get ! refl) (and_then ! (get ! refl) (and_then ! (get ! refl) (and_then ! (get ! refl) (and_then ! (get ! refl) (and_then ! (get ! refl) (no_more !))))))) (λ v.
        use1 𝓛 (later (some (λ (r' : ℕ). ((‵ (flft κ0 full_share) ⊛ (‵ (flft κ1 full_share) ⊛ (‵ (flft κ2 full_share) ⊛ ‵ ftrue))) ⊛ ‵ (u32.own_val r' (v ∷ []))) ⊛ some (λ (ws : (HeldReceiver × (Unit {0} × (Unit {0} × (Unit {0} × (Unit {0} × (PlainWaiting × Unit {0}))))))).
        ‵ (lasts g.ended (κ0, (κ1, (κ2, tt))) (r0, (channel, (number, (hcs_ok, (r1, (r2, tt)))))) ws) ⊛ (raw (fact 𝓤 (Numbered (λ answer. TakesBurst was.0 channel number hcs_ok was.1 answer ws.0 × (ws.1.1.1.1.1.0 ≡ waiting_in ws.0.queue)) r')) ⊛ raw (fact 𝓤 (IsInUse ws.0))))))) (id⊢ 𝓤 _) $
        await ! tt $ pick ! (λ r'. split ! $ split ! $ split ! $ lft_end ! tt $ move ! (1 ∷ []) $ split ! $ lft_end ! tt $ move ! (1 ∷ []) $ split ! $ lft_end ! tt $ move ! (4 ∷ []) $
        peeks ! u32 (Is u32) (shows 𝓛 u32) r' (v ∷ []) (λ is. lands_as ! refl refl ((uint_Lawful 𝓛 w32).typed r' _ is).0 $ move ! (5 ∷ []) $ pick ! (λ ws. split3 ! $ move ! (1 ∷ []) $ heard ! _ (λ does. move ! (1 ∷ []) $ heard ! _ (λ still.
        fsplit ! $ fsplit ! $ move ! (1 ∷ []) $ drop ! $ move ! (1 ∷ []) $ fsplit ! $ drop ! $ fsplit ! $ drop ! $ fsplit ! $ drop ! $ fsplit ! $ drop ! $ fsplit ! $ fsplit ! $ move ! (1 ∷ []) $ drop ! $
        move ! (7 ∷ 10 ∷ 2 ∷ []) $ use3 𝓛 (later (‵ ((mem R).own_at ws.0 b0 o0))) (ref_back 𝓛 R κ0 γ0 ws.0 b0 o0) $ await ! tt $ move ! (0 ∷ 9 ∷ []) $ fjoin ! $
        move ! (6 ∷ 8 ∷ []) $ lent_back ! tt $ use1 𝓛 (‵ (points_to (Array u8 (length was.1)) (block_ptr b1 o1) was.1)) (Array-whole 𝓛 u8 full_share (length was.1) was.1 b1 o1) $ use1 𝓛 (‵ (F1 (block_ptr b1 o1) (length was.1) (ws.0, ws.1.1.1.1.1.0))) (row_in 𝓛 u8 65535 (block_ptr b1 o1) (length was.1) was.1) $
        move ! (5 ∷ 7 ∷ 2 ∷ []) $ use3 𝓛 (later (‵ ((mem out_type.the_row).own_at ws.1.1.1.1.1.0 b2 o2))) (ref_back 𝓛 out_type.the_row κ2 γ2 ws.1.1.1.1.1.0 b2 o2) $ await ! tt $
        move ! (2 ∷ 1 ∷ 0 ∷ []) $ use3 𝓛 (raw (Ends (block_ptr b0 o0) (block_ptr b1 o1) (length was.1) (block_ptr b2 o2) r')) (ended-3 𝓛 (F0 (block_ptr b0 o0)) (F1 (block_ptr b1 o1) (length was.1)) (F2 (block_ptr b2 o2)) (Q (block_ptr b0 o0) (block_ptr b1 o1) (length was.1) (block_ptr b2 o2) r') (ws.0, ws.1.1.1.1.1.0) (within (nat_lt 65535 (length was.1)) [] _ _ _ e-count (does, still))) $
        move ! (2 ∷ 0 ∷ []) $ returns ! (look_at ! 0 refl) $ free_all ! refl $ keep ! (0 ∷ 1 ∷ []) $ nothing ! $ nothing ! $ fjoin ! $ nothing ! $ fjoin ! $ nothing ! $ fjoin ! $ nothing ! $ fjoin ! $ nothing ! $ fjoin ! $ nothing ! $ fjoin ! $ nothing ! $ fjoin ! $ nothing ! $
        by ! (leaves 𝓛 f.ended stayed c (y (block_ptr b0 o0) (block_ptr b1 o1) (length was.1) (block_ptr b2 o2)) v r' (tt, (tt, (tt, (tt, (tt, (tt, (tt, tt))))))) (tt, (tt, (tt, (tt, (tt, (tt, (tt, tt))))))))))))))))))))))))

    beyond_bytes : (b0 o0 b1 o1 b2 o2 : ℕ) (may-handle : Testable (block_ptr b0 o0)) (may-bytes : Testable (block_ptr b1 o1)) (may-waiting : Testable (block_ptr b2 o2)) (count : ℕ) (fits-count : count < 2 ^ 64) (e-count : nat_lt 65535 count ≡ true) → ent 𝓤 (sep 𝓤 (sem 𝓛 (handle_at (block_ptr b0 o0) was.0)) (sep 𝓤 (sem 𝓛 (row_at u8 65535 (block_ptr b1 o1) count was.1)) (sem 𝓛 (value_at out_type.the_row (block_ptr b2 o2) was.2)))) (Runs (block_ptr b0 o0) (block_ptr b1 o1) count (block_ptr b2 o2))
    beyond_bytes b0 o0 b1 o1 b2 o2 may-handle may-bytes may-waiting count fits-count e-count =
        qed 𝓛 (‵ (handle_at (block_ptr b0 o0) was.0) ∷ ‵ (row_at u8 65535 (block_ptr b1 o1) count was.1) ∷ ‵ (value_at out_type.the_row (block_ptr b2 o2) was.2) ∷ []) ∵ enter ! C Λ code.function (vptr b0 o0 ∷ vint w64 channel ∷ vint w32 number ∷ vbool hcs_ok ∷ vptr b1 o1 ∷ vint w64 count ∷ vptr b2 o2 ∷ []) _ $
        alloc_all ! (λ l. let En = env code.function.locals l in pass_all ! refl ((tt, tt), ((tt, record { fits = fits-channel }), ((tt, record { fits = fits-number }), ((tt, tt), ((tt, tt), ((tt, record { fits = fits-count }), ((tt, tt), tt))))))) $
        sets ! (bin ! (get ! refl) (lit ! tt) (tests_null (block_ptr b0 o0) may-handle)) refl (tt, tt) $ first ! $ branches ! (get ! refl)
        (λ t. absurd t) (λ t. skips ! $ exec ! C Λ En code.Mir.t-3 (at_ret En (Post (block_ptr b0 o0) (block_ptr b1 o1) count (block_ptr b2 o2))) $
        sets ! (bin ! (get ! refl) (lit ! tt) (tests_null (block_ptr b1 o1) may-bytes)) refl (tt, tt) $ first ! $ branches ! (get ! refl)
        (λ t. absurd t) (λ t. skips ! $ exec ! C Λ En code.Mir.t-5 (at_ret En (Post (block_ptr b0 o0) (block_ptr b1 o1) count (block_ptr b2 o2))) $
        sets ! (bin ! (get ! refl) (lit ! tt) (tests_null (block_ptr b2 o2) may-waiting)) refl (tt, tt) $ first ! $ branches ! (get ! refl)
        (λ t. absurd t) (λ t. skips ! $ exec ! C Λ En code.Mir.t-7 (at_ret En (Post (block_ptr b0 o0) (block_ptr b1 o1) count (block_ptr b2 o2))) $
        sets ! (bin ! (big_lit ! (record { fits = lit< tt })) (get ! refl) tt) refl (tt, tt) $ first ! $ branches ! (get ! refl)
        (λ t. sets ! (of_opd ! (lit ! tt)) refl (tt, record { fits = lit< tt }) $ use3 𝓛 (raw (Ends (block_ptr b0 o0) (block_ptr b1 o1) count (block_ptr b2 o2) 17)) (ended-3 𝓛 (F0 (block_ptr b0 o0)) (F1 (block_ptr b1 o1) count) (F2 (block_ptr b2 o2)) (Q (block_ptr b0 o0) (block_ptr b1 o1) count (block_ptr b2 o2) 17) (was.0, was.2) (beyond (nat_lt 65535 count) [] _ _ _ e-count refl refl)) $
        owned ! u32 (Is u32) (uint_Makes 𝓛 w32) 17 _ (refl, lit< tt) $ returns_within ! (Post (block_ptr b0 o0) (block_ptr b1 o1) count (block_ptr b2 o2)) refl (look_at ! 0 refl) $ free_all ! refl $ keep ! (0 ∷ 1 ∷ []) $ nothing ! $ nothing ! $ fjoin ! $ nothing ! $ fjoin ! $ nothing ! $ fjoin ! $ nothing ! $ fjoin ! $ nothing ! $ fjoin ! $ nothing ! $ fjoin ! $ nothing ! $ fjoin ! $ nothing ! $
        by ! (leaves 𝓛 f.ended stayed c (y (block_ptr b0 o0) (block_ptr b1 o1) count (block_ptr b2 o2)) (vint w32 17) 17 (tt, (tt, (tt, (tt, (tt, (tt, (tt, tt))))))) (tt, (tt, (tt, (tt, (tt, (tt, (tt, tt))))))))) (λ t. absurd (subst (λ (y : Bool). T (not y)) e-count t))))))

    by_count : (b0 o0 b1 o1 b2 o2 : ℕ) (may-handle : Testable (block_ptr b0 o0)) (may-bytes : Testable (block_ptr b1 o1)) (may-waiting : Testable (block_ptr b2 o2)) (count : ℕ) (fits-count : count < 2 ^ 64) → (y : Bool) → nat_lt 65535 count ≡ y → ent 𝓤 (sep 𝓤 (sem 𝓛 (handle_at (block_ptr b0 o0) was.0)) (sep 𝓤 (sem 𝓛 (row_at u8 65535 (block_ptr b1 o1) count was.1)) (sem 𝓛 (value_at out_type.the_row (block_ptr b2 o2) was.2)))) (Runs (block_ptr b0 o0) (block_ptr b1 o1) count (block_ptr b2 o2))
    by_count b0 o0 b1 o1 b2 o2 may-handle may-bytes may-waiting count fits-count true e = beyond_bytes b0 o0 b1 o1 b2 o2 may-handle may-bytes may-waiting count fits-count e
    by_count b0 o0 b1 o1 b2 o2 may-handle may-bytes may-waiting count fits-count false e =
        qed 𝓛 (‵ (handle_at (block_ptr b0 o0) was.0) ∷ ‵ (row_at u8 65535 (block_ptr b1 o1) count was.1) ∷ ‵ (value_at out_type.the_row (block_ptr b2 o2) was.2) ∷ []) ∵ move ! (1 ∷ []) $ use1 𝓛 (‵ (points_to (Array u8 count) (block_ptr b1 o1) was.1)) (row_out 𝓛 u8 65535 (block_ptr b1 o1) count was.1 e tt) $ use1 𝓛 (‵ (fsep (feq ℕ (length was.1) count) (apart u8 was.1 b1 o1))) (Array-apart 𝓛 u8 full_share tt count was.1 b1 o1) $ fsplit ! $ feq_l ! (λ long. move ! (1 ∷ 0 ∷ 2 ∷ []) $
        by ! (subst (λ (n : ℕ). n < 2 ^ 64 → nat_lt 65535 n ≡ false → ent 𝓤 (sep 𝓤 (sem 𝓛 (boxed_at (block_ptr b0 o0) was.0)) (sep 𝓤 (sem 𝓛 (apart u8 was.1 b1 o1)) (sem 𝓛 (points_to out_type.the_row (block_ptr b2 o2) was.2)))) (Runs (block_ptr b0 o0) (block_ptr b1 o1) n (block_ptr b2 o2))) long (held_there b0 o0 b1 o1 b2 o2 may-handle may-bytes may-waiting) fits-count e))

    at : (handle bytes waiting : Ptr) → (count : ℕ) → count < 2 ^ 64 → Testable bytes → Testable waiting → ent 𝓤 (sep 𝓤 (sem 𝓛 (handle_at handle was.0)) (sep 𝓤 (sem 𝓛 (row_at u8 65535 bytes count was.1)) (sem 𝓛 (value_at out_type.the_row waiting was.2)))) (Runs handle bytes count waiting)
    at null_ptr bytes waiting count fits-count may-bytes may-waiting = null_handle bytes waiting count fits-count
    at (block_ptr b0 o0) null_ptr waiting count fits-count may-bytes may-waiting = fact_use 𝓤 (Testable (block_ptr b0 o0)) (via 𝓤 _ (fst∗ 𝓤 (sem 𝓛 (boxed_at (block_ptr b0 o0) was.0)) (sep 𝓤 (sem 𝓛 (row_at u8 65535 null_ptr count was.1)) (sem 𝓛 (value_at out_type.the_row waiting was.2)))) (boxed-Testable 𝓛 (block_ptr b0 o0) was.0)) (λ may-handle. null_bytes b0 o0 may-handle waiting count fits-count)
    at (block_ptr b0 o0) (block_ptr b1 o1) null_ptr count fits-count may-bytes may-waiting = fact_use 𝓤 (Testable (block_ptr b0 o0)) (via 𝓤 _ (fst∗ 𝓤 (sem 𝓛 (boxed_at (block_ptr b0 o0) was.0)) (sep 𝓤 (sem 𝓛 (row_at u8 65535 (block_ptr b1 o1) count was.1)) (sem 𝓛 (value_at out_type.the_row null_ptr was.2)))) (boxed-Testable 𝓛 (block_ptr b0 o0) was.0)) (λ may-handle. null_waiting b0 o0 b1 o1 may-handle may-bytes count fits-count)
    at (block_ptr b0 o0) (block_ptr b1 o1) (block_ptr b2 o2) count fits-count may-bytes may-waiting = fact_use 𝓤 (Testable (block_ptr b0 o0)) (via 𝓤 _ (fst∗ 𝓤 (sem 𝓛 (boxed_at (block_ptr b0 o0) was.0)) (sep 𝓤 (sem 𝓛 (row_at u8 65535 (block_ptr b1 o1) count was.1)) (sem 𝓛 (value_at out_type.the_row (block_ptr b2 o2) was.2)))) (boxed-Testable 𝓛 (block_ptr b0 o0) was.0)) (λ may-handle. by_count b0 o0 b1 o1 b2 o2 may-handle may-bytes may-waiting count fits-count (nat_lt 65535 count) refl)

pub segrx_receiver_burst_waiting_spec : {M : Type 1} → statement M
segrx_receiver_burst_waiting_spec 𝓤 𝓛 𝓜 𝓡 wired =
    let 𝓣 = tables 𝓤 𝓛.H 𝓜 𝓡 𝓡.env in
    proved 𝓛 f.ended stayed (c 𝓛 𝓜.mem 𝓡.returns) 𝓜 𝓡 (Goes-dropped 𝓛 0 (plain (λ _. RawPtr)) yes (λ κs x w. refl), (Goes-dropped 𝓛 0 (plain (λ _. usize)) yes (λ κs x w. refl), (Goes-dropped 𝓛 0 (plain (λ _. u32)) yes (λ κs x w. refl), (Goes-dropped 𝓛 0 (plain (λ _. bool)) yes (λ κs x w. refl), (Goes-dropped 𝓛 0 (plain (λ _. RawPtr)) yes (λ κs x w. refl), (Goes-dropped 𝓛 0 (plain (λ _. usize)) yes (λ κs x w. refl), (Goes-dropped 𝓛 0 (plain (λ _. RawPtr)) yes (λ κs x w. refl), tt)))))))
    f.Key.name code.function (code.unfolded 𝓤 𝓛.H 𝓜 𝓡 wired) (λ κs. (rawptr_vals, (uint_vals w64, (uint_vals w32, (bool_vals, (rawptr_vals, (uint_vals w64, (rawptr_vals, tt)))))))) (λ κs. (rawptr_Tells, (uint_Tells w64, (uint_Tells w32, (bool_Tells, (rawptr_Tells, (uint_Tells w64, (rawptr_Tells, tt)))))))) (λ κs qs bounds a was are.
    qed 𝓛 (raw (on_entry 𝓛 f.signature κs qs a (rawptr_vals a.0, (vint w64 a.1.0 ∷ [], (vint w32 a.1.1.0 ∷ [], (vbool a.1.1.1.0 ∷ [], (rawptr_vals a.1.1.1.1.0, (vint w64 a.1.1.1.1.1.0 ∷ [], (rawptr_vals a.1.1.1.1.1.1.0, tt)))))))) ∷ (raw (fact 𝓤 (Testable a.1.1.1.1.0)) ⊛ (raw (fact 𝓤 (Testable a.1.1.1.1.1.1.0)) ⊛ (‵ (handle_at a.0 was.0) ⊛ ‵ (row_at u8 65535 a.1.1.1.1.0 a.1.1.1.1.1.0 was.1) ⊛ ‵ (value_at out_type.the_row a.1.1.1.1.1.1.0 was.2) ⊛ raw (fact 𝓤 (IsInUse was.0))))) ∷ []) ∵ move ! (1 ∷ []) $ split ! $ heard ! (Testable a.1.1.1.1.0) (λ may-bytes. split ! $ heard ! (Testable a.1.1.1.1.1.1.0) (λ may-waiting. split ! $ move ! (1 ∷ []) $ split ! $ move ! (1 ∷ []) $ split ! $ move ! (1 ∷ []) $ heard ! (IsInUse was.0) (λ in_use. move ! (3 ∷ []) $ drop ! $ move ! (2 ∷ 1 ∷ 0 ∷ []) $
    by ! (at 𝓛 𝓜.mem 𝓡.returns 𝓣.C 𝓣.Λ (framed 𝓤 𝓛.H 𝓜 𝓣) (callee.met 𝓤 𝓛 𝓜 𝓡 (code.calls-segrx_c::calls::burst_waiting 𝓡.env wired)) a.1.0 are.1.0.1 a.1.1.0 are.1.1.0.1 a.1.1.1.0 was in_use a.0 a.1.1.1.1.0 a.1.1.1.1.1.1.0 a.1.1.1.1.1.0 are.1.1.1.1.1.0.1 may-bytes may-waiting)))))
