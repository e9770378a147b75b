-- The flows and the rows are lent for the call; what is made goes to the caller's variable, which
-- is NULL until then.
use Rattle.segrx_c.proofs.Steps.{Memory, Routine, Calls, Loops, Logic, Fun, FmC, Contract, Triple, Clauses, Lasts, lasts, proved, rawptr_vals, rawptr_Tells, ◌≡◌, ℕ, ◌^◌, ◌<◌, ◌*◌, ◌≤◌, List, [], ◌∷◌, ◌++◌, length, Bool, true, false, refl, sym, ap, subst, lit<, arith, w32, w64, Ura, Val, vint, vptr, vnull, SProp, ent, sep, ex, id⊢, Fml, Lft, ftrue, fsep, feq, flft, flent, Incl-refl, named, full_share, Bor, WpFn, sem, fact, tables, framed, ‵, raw, ◌⊛◌, some, later, at_ret, ◌$◌, ◌∵◌, !, qed, by, move, keep, drop, use1, use2, use3, split, split3, join, pick, fsplit, fjoin, feq_i, feq_l, await, of_opd, bin, lit, big_lit, and_then, no_more, first, branches, skips, exec, returns, returns_within, enter, agg, alloc_all, pass_all, free_all, look_at, get, get_in, through, stop, fld, sub, whole, sets, assigns, store, lands_as, env, yes, Is, uint_vals, uint_Tells, uint_Makes, u32, usize, Ptr, block_ptr, null_ptr, ptr_val, RawPtr, Testable, tests_null, plain, owned, only, heard, nothing, calls_at, triple_of, Stays, stay_dropped, walk_of, Goes-dropped, leaves, typed, ended-4, apart, counted, row_in, row_out, within, beyond, pointer_out, pointer_in, nat_lt, not, T, nltb→le, points_to, Array, Array-apart, Array-whole, ShrSlice, slice_val, lends_shr_slice, lent_back, lft_new, lft_end}
use Rattle.std.proofs.Common.{Option, None}
use Rattle.std.proofs.alloc.Calls.{Al, Fits}
use Rattle.std.specs.declared.alloc.Global.{Global}
use Rattle.std.specs.contracts.alloc.Global as heap
use Rattle.std.proofs.alloc.Global.TheLaws as heap_laws
use Rattle.std.specs.contracts.impls.GlobalAllocator.TheImpl.{ghosts}
use mir.Syntax.{given as dict_at}
use Rattle.c_receiver.specs.declared.held.HeldReceiver.{HeldReceiver}
use Rattle.c_receiver.specs.contracts.held.HeldReceiver.{the_row as R}
use Rattle.c_receiver.specs.declared.plain.PlainFlow.{PlainFlow}
use Rattle.c_receiver.specs.declared.plain.PlainRow.{PlainRow}
use Rattle.c_receiver.specs.contracts.plain.PlainFlow as flow
use Rattle.c_receiver.specs.contracts.plain.PlainRow as row
use Rattle.c_receiver.proofs.plain.PlainFlow.TheLaws as flow_laws
use Rattle.c_receiver.proofs.plain.PlainRow.TheLaws as row_laws
use base.Fml.{fat}
use mir.Syntax.{ty_ptr}
use denote.RattleType.{owns}
use denote.Signature.{types_at}
use Rattle.segrx_c.specs.Answers.{Unless, refused}
use Rattle.segrx_c.specs.Handle.{value_at, row_at}
use Rattle.segrx_c.specs.Made.{Gives, made_at}
use Rattle.segrx_c.specs.declared.handed.Handed.{Handed}
use Rattle.segrx_c.specs.contracts.handed.Handed as handed
use Rattle.segrx_c.proofs.HandedSteps.{handed_out, handed_typed_at, made-in}
use Rattle.segrx_c.specs.contracts.calls.make as g
use Rattle.segrx_c.proofs.calls.make.Symbol.{name as #callee}
use Rattle.segrx_c.proofs.calls.make.Met as callee
use Rattle.segrx_c.specs.contracts.segrx_receiver_new as f
use Rattle.segrx_c.proofs.segrx_receiver_new.Statement.{statement}
use Rattle.segrx_c.proofs.segrx_receiver_new.Code as code

abbrev stayed : Stays f.ended.signature.params f.ended.kept
stayed = (stay_dropped (plain (λ _. heap.the_row)) yes, (stay_dropped (plain (λ _. u32)) yes, (stay_dropped (plain (λ _. RawPtr)) yes, (stay_dropped (plain (λ _. usize)) yes, (stay_dropped (plain (λ _. RawPtr)) yes, (stay_dropped (plain (λ _. usize)) yes, (stay_dropped (plain (λ _. u32)) yes, (stay_dropped (plain (λ _. RawPtr)) yes, tt))))))))

-- the allocator's machine value, whichever it is
abbrev word-of : Global → Val
word-of a = heap_laws.the_told.val a

abbrev Z : Al
Z = record { row = heap.the_row; laws = heap_laws.the_row_laws; g = ghosts; d = dict_at 0; drops = dict_at 0 }

abbrev Was : Type 0
Was = List PlainFlow × List PlainRow × Ptr

abbrev After : Type 0
After = Ptr × Option HeldReceiver

module _ {M : Type 1} {𝓤 : Ura M} (𝓛 : Logic 𝓤) (at_mem : Memory → SProp 𝓤) (run : Routine → Fun 𝓤) where
  open 𝓛 use {H}

  abbrev c : Clauses 𝓤 f.ended
  c = f.clauses 𝓛 at_mem run

  abbrev G : Contract 𝓤
  G = triple_of 𝓛 g.signature (g.spec 𝓛 at_mem run)

  module _ (C : Calls 𝓤 H) (Λ : Loops 𝓤 H) (fm : FmC 𝓤 H 𝓛.laws C) (known : Triple 𝓤 (C #callee) G)
      (alloc : Global) (fits : Fits Z (word-of alloc)) (channels : ℕ) (fits-channels : channels < 2 ^ 32) (rule : ℕ) (fits-rule : rule < 2 ^ 32) (was : Was) where
    abbrev hv : Val
    hv = word-of alloc

    abbrev y : Ptr → ℕ → Ptr → ℕ → Ptr → (walk_of 𝓛 f.ended stayed c).Ghost
    y flows n rows m handle = (
      (
        tt,
        tt,
        tt,
        (alloc, (channels, (flows, (n, (rows, (m, (rule, (handle, tt)))))))),
        (hv ∷ [], (vint w32 channels ∷ [], (rawptr_vals flows, (vint w64 n ∷ [], (rawptr_vals rows, (vint w64 m ∷ [], (vint w32 rule ∷ [], (rawptr_vals handle, tt)))))))),
      ),
      was,
    )

    abbrev Post : Ptr → ℕ → Ptr → ℕ → Ptr → Val → SProp 𝓤
    Post flows n rows m handle = (walk_of 𝓛 f.ended stayed c).post (y flows n rows m handle)

    abbrev Runs : Ptr → ℕ → Ptr → ℕ → Ptr → SProp 𝓤
    Runs flows n rows m handle = WpFn 𝓤 H C Λ code.function (hv ∷ vint w32 channels ∷ (rawptr_vals flows ++ (vint w64 n ∷ (rawptr_vals rows ++ (vint w64 m ∷ vint w32 rule ∷ (rawptr_vals handle ++ [])))))) (Post flows n rows m handle)

    abbrev F0 : Ptr → ℕ → After → Fml
    F0 flows n after = row_at flow.the_row 16384 flows n was.0

    abbrev F1 : Ptr → ℕ → After → Fml
    F1 rows m after = row_at row.the_row 262144 rows m was.1

    abbrev F2 : Ptr → After → Fml
    F2 handle after = value_at RawPtr handle after.0

    abbrev F3 : After → Fml
    F3 after = made_at after.0 after.1

    abbrev Q : Ptr → ℕ → Ptr → ℕ → Ptr → ℕ → After → Type 0
    Q flows n rows m handle answer after =
        Unless (refused (handle ∷ flows ∷ rows ∷ []) (nat_lt 16384 n ∷ nat_lt 262144 m ∷ [])) answer (after.1 ≡ None)
        (Gives channels was.0 was.1 rule answer after.1)

    abbrev Ends : Ptr → ℕ → Ptr → ℕ → Ptr → ℕ → SProp 𝓤
    Ends flows n rows m handle answer =
        ex 𝓤 (λ (after : After). sep 𝓤 (sem 𝓛 (F0 flows n after)) (sep 𝓤 (sem 𝓛 (F1 rows m after)) (sep 𝓤 (sem 𝓛 (F2 handle after)) (sep 𝓤 (sem 𝓛 (F3 after)) (fact 𝓤 (Q flows n rows m handle answer after))))))

    null_handle : (flows rows : Ptr) (n : ℕ) (fits-n : n < 2 ^ 64) (m : ℕ) (fits-m : m < 2 ^ 64) → ent 𝓤 (sep 𝓤 (sem 𝓛 (row_at flow.the_row 16384 flows n was.0)) (sep 𝓤 (sem 𝓛 (row_at row.the_row 262144 rows m was.1)) (sem 𝓛 (value_at RawPtr null_ptr was.2)))) (Runs flows n rows m null_ptr)
    null_handle flows rows n fits-n m fits-m =
        qed 𝓛 (‵ (row_at flow.the_row 16384 flows n was.0) ∷ ‵ (row_at row.the_row 262144 rows m was.1) ∷ ‵ (value_at RawPtr null_ptr was.2) ∷ []) ∵ enter ! C Λ code.function (hv ∷ vint w32 channels ∷ ptr_val flows ∷ vint w64 n ∷ ptr_val rows ∷ vint w64 m ∷ vint w32 rule ∷ vnull ∷ []) _ $
        alloc_all ! (λ l. let En = env code.function.locals l in pass_all ! refl (fits, ((tt, record { fits = fits-channels }), (typed flows, ((tt, record { fits = fits-n }), (typed rows, ((tt, record { fits = fits-m }), ((tt, record { fits = fits-rule }), ((tt, record { fits = lit< tt }), tt)))))))) $
        sets ! (bin ! (get ! refl) (lit ! tt) (tests_null null_ptr (lit< tt))) refl (tt, tt) $ first ! $ branches ! (get ! refl)
        (λ t. sets ! (of_opd ! (lit ! tt)) refl (tt, record { fits = lit< tt }) $ nothing ! $ move ! (1 ∷ 2 ∷ 3 ∷ 0 ∷ []) $ move ! (2 ∷ 3 ∷ []) $ join ! $ move ! (1 ∷ 2 ∷ 0 ∷ []) $ use3 𝓛 (raw (Ends flows n rows m null_ptr 1)) (ended-4 𝓛 (F0 flows n) (F1 rows m) (F2 null_ptr) F3 (Q flows n rows m null_ptr 1) (null_ptr, None) (refl, refl)) $
        owned ! u32 (Is u32) (uint_Makes 𝓛 w32) 1 _ (refl, lit< tt) $ returns_within ! (Post flows n rows m null_ptr) refl (look_at ! 0 refl) $ free_all ! refl $ keep ! (0 ∷ 1 ∷ []) $ nothing ! $ nothing ! $ fjoin ! $ nothing ! $ fjoin ! $ nothing ! $ fjoin ! $ nothing ! $ fjoin ! $ nothing ! $ fjoin ! $ nothing ! $ fjoin ! $ nothing ! $ fjoin ! $ nothing ! $ fjoin ! $ nothing ! $
        by ! (leaves 𝓛 f.ended stayed c (y flows n rows m null_ptr) (vint w32 1) 1 (tt, (tt, (tt, (tt, (tt, (tt, (tt, (tt, tt)))))))) (tt, (tt, (tt, (tt, (tt, (tt, (tt, (tt, tt)))))))))) (λ t. absurd t))

    null_flows : (bh oh : ℕ) (may-handle : Testable (block_ptr bh oh)) (rows : Ptr) (n : ℕ) (fits-n : n < 2 ^ 64) (m : ℕ) (fits-m : m < 2 ^ 64) → ent 𝓤 (sep 𝓤 (sem 𝓛 (row_at flow.the_row 16384 null_ptr n was.0)) (sep 𝓤 (sem 𝓛 (row_at row.the_row 262144 rows m was.1)) (sem 𝓛 (value_at RawPtr (block_ptr bh oh) was.2)))) (Runs null_ptr n rows m (block_ptr bh oh))
    null_flows bh oh may-handle rows n fits-n m fits-m =
        qed 𝓛 (‵ (row_at flow.the_row 16384 null_ptr n was.0) ∷ ‵ (row_at row.the_row 262144 rows m was.1) ∷ ‵ (value_at RawPtr (block_ptr bh oh) was.2) ∷ []) ∵ enter ! C Λ code.function (hv ∷ vint w32 channels ∷ vnull ∷ vint w64 n ∷ ptr_val rows ∷ vint w64 m ∷ vint w32 rule ∷ vptr bh oh ∷ []) _ $
        alloc_all ! (λ l. let En = env code.function.locals l in pass_all ! refl (fits, ((tt, record { fits = fits-channels }), ((tt, record { fits = lit< tt }), ((tt, record { fits = fits-n }), (typed rows, ((tt, record { fits = fits-m }), ((tt, record { fits = fits-rule }), ((tt, tt), tt)))))))) $
        move ! (2 ∷ []) $ use1 𝓛 (‵ (fat full_share ty_ptr bh oh (ptr_val was.2))) (pointer_out 𝓛 was.2 bh oh) $
        sets ! (bin ! (get ! refl) (lit ! tt) (tests_null (block_ptr bh oh) may-handle)) refl (tt, tt) $ first ! $ branches ! (get ! refl)
        (λ t. absurd t) (λ t. skips ! $ exec ! C Λ En code.Mir.t-3 (at_ret En (Post null_ptr n rows m (block_ptr bh oh))) $
        assigns ! (of_opd ! (lit ! tt)) (through ! refl (stop !)) (store ! 0 refl (tt, record { fits = lit< tt })) $
        sets ! (bin ! (get ! refl) (lit ! tt) (tests_null null_ptr (lit< tt))) refl (tt, tt) $ first ! $ branches ! (get ! refl)
        (λ t. sets ! (of_opd ! (lit ! tt)) refl (tt, record { fits = lit< tt }) $ use1 𝓛 (‵ (points_to RawPtr (block_ptr bh oh) null_ptr)) (pointer_in 𝓛 null_ptr bh oh) $ nothing ! $ move ! (2 ∷ 3 ∷ 1 ∷ 0 ∷ []) $ move ! (2 ∷ 3 ∷ []) $ join ! $ move ! (1 ∷ 2 ∷ 0 ∷ []) $ use3 𝓛 (raw (Ends null_ptr n rows m (block_ptr bh oh) 1)) (ended-4 𝓛 (F0 null_ptr n) (F1 rows m) (F2 (block_ptr bh oh)) F3 (Q null_ptr n rows m (block_ptr bh oh) 1) (null_ptr, None) (refl, refl)) $
        owned ! u32 (Is u32) (uint_Makes 𝓛 w32) 1 _ (refl, lit< tt) $ returns_within ! (Post null_ptr n rows m (block_ptr bh oh)) refl (look_at ! 0 refl) $ free_all ! refl $ keep ! (0 ∷ 1 ∷ []) $ nothing ! $ nothing ! $ fjoin ! $ nothing ! $ fjoin ! $ nothing ! $ fjoin ! $ nothing ! $ fjoin ! $ nothing ! $ fjoin ! $ nothing ! $ fjoin ! $ nothing ! $ fjoin ! $ nothing ! $ fjoin ! $ nothing ! $
        by ! (leaves 𝓛 f.ended stayed c (y null_ptr n rows m (block_ptr bh oh)) (vint w32 1) 1 (tt, (tt, (tt, (tt, (tt, (tt, (tt, (tt, tt)))))))) (tt, (tt, (tt, (tt, (tt, (tt, (tt, (tt, tt)))))))))) (λ t. absurd t)))

    null_rows : (bh oh : ℕ) (may-handle : Testable (block_ptr bh oh)) (bf of' : ℕ) (may-flows : Testable (block_ptr bf of')) (n : ℕ) (fits-n : n < 2 ^ 64) (m : ℕ) (fits-m : m < 2 ^ 64) → ent 𝓤 (sep 𝓤 (sem 𝓛 (row_at flow.the_row 16384 (block_ptr bf of') n was.0)) (sep 𝓤 (sem 𝓛 (row_at row.the_row 262144 null_ptr m was.1)) (sem 𝓛 (value_at RawPtr (block_ptr bh oh) was.2)))) (Runs (block_ptr bf of') n null_ptr m (block_ptr bh oh))
    null_rows bh oh may-handle bf of' may-flows n fits-n m fits-m =
        qed 𝓛 (‵ (row_at flow.the_row 16384 (block_ptr bf of') n was.0) ∷ ‵ (row_at row.the_row 262144 null_ptr m was.1) ∷ ‵ (value_at RawPtr (block_ptr bh oh) was.2) ∷ []) ∵ enter ! C Λ code.function (hv ∷ vint w32 channels ∷ vptr bf of' ∷ vint w64 n ∷ vnull ∷ vint w64 m ∷ vint w32 rule ∷ vptr bh oh ∷ []) _ $
        alloc_all ! (λ l. let En = env code.function.locals l in pass_all ! refl (fits, ((tt, record { fits = fits-channels }), ((tt, tt), ((tt, record { fits = fits-n }), ((tt, record { fits = lit< tt }), ((tt, record { fits = fits-m }), ((tt, record { fits = fits-rule }), ((tt, tt), tt)))))))) $
        move ! (2 ∷ []) $ use1 𝓛 (‵ (fat full_share ty_ptr bh oh (ptr_val was.2))) (pointer_out 𝓛 was.2 bh oh) $
        sets ! (bin ! (get ! refl) (lit ! tt) (tests_null (block_ptr bh oh) may-handle)) refl (tt, tt) $ first ! $ branches ! (get ! refl)
        (λ t. absurd t) (λ t. skips ! $ exec ! C Λ En code.Mir.t-3 (at_ret En (Post (block_ptr bf of') n null_ptr m (block_ptr bh oh))) $
        assigns ! (of_opd ! (lit ! tt)) (through ! refl (stop !)) (store ! 0 refl (tt, record { fits = lit< tt })) $
        sets ! (bin ! (get ! refl) (lit ! tt) (tests_null (block_ptr bf of') may-flows)) refl (tt, tt) $ first ! $ branches ! (get ! refl)
        (λ t. absurd t) (λ t. skips ! $ exec ! C Λ En code.Mir.t-6 (at_ret En (Post (block_ptr bf of') n null_ptr m (block_ptr bh oh))) $
        sets ! (bin ! (get ! refl) (lit ! tt) (tests_null null_ptr (lit< tt))) refl (tt, tt) $ first ! $ branches ! (get ! refl)
        (λ t. sets ! (of_opd ! (lit ! tt)) refl (tt, record { fits = lit< tt }) $ use1 𝓛 (‵ (points_to RawPtr (block_ptr bh oh) null_ptr)) (pointer_in 𝓛 null_ptr bh oh) $ nothing ! $ move ! (2 ∷ 3 ∷ 1 ∷ 0 ∷ []) $ move ! (2 ∷ 3 ∷ []) $ join ! $ move ! (1 ∷ 2 ∷ 0 ∷ []) $ use3 𝓛 (raw (Ends (block_ptr bf of') n null_ptr m (block_ptr bh oh) 1)) (ended-4 𝓛 (F0 (block_ptr bf of') n) (F1 null_ptr m) (F2 (block_ptr bh oh)) F3 (Q (block_ptr bf of') n null_ptr m (block_ptr bh oh) 1) (null_ptr, None) (refl, refl)) $
        owned ! u32 (Is u32) (uint_Makes 𝓛 w32) 1 _ (refl, lit< tt) $ returns_within ! (Post (block_ptr bf of') n null_ptr m (block_ptr bh oh)) refl (look_at ! 0 refl) $ free_all ! refl $ keep ! (0 ∷ 1 ∷ []) $ nothing ! $ nothing ! $ fjoin ! $ nothing ! $ fjoin ! $ nothing ! $ fjoin ! $ nothing ! $ fjoin ! $ nothing ! $ fjoin ! $ nothing ! $ fjoin ! $ nothing ! $ fjoin ! $ nothing ! $ fjoin ! $ nothing ! $
        by ! (leaves 𝓛 f.ended stayed c (y (block_ptr bf of') n null_ptr m (block_ptr bh oh)) (vint w32 1) 1 (tt, (tt, (tt, (tt, (tt, (tt, (tt, (tt, tt)))))))) (tt, (tt, (tt, (tt, (tt, (tt, (tt, (tt, tt)))))))))) (λ t. absurd t))))

    many_flows : (bh oh : ℕ) (may-handle : Testable (block_ptr bh oh)) (bf of' : ℕ) (may-flows : Testable (block_ptr bf of')) (br or' : ℕ) (may-rows : Testable (block_ptr br or')) (n : ℕ) (fits-n : n < 2 ^ 64) (m : ℕ) (fits-m : m < 2 ^ 64) → nat_lt 16384 n ≡ true → ent 𝓤 (sep 𝓤 (sem 𝓛 (row_at flow.the_row 16384 (block_ptr bf of') n was.0)) (sep 𝓤 (sem 𝓛 (row_at row.the_row 262144 (block_ptr br or') m was.1)) (sem 𝓛 (value_at RawPtr (block_ptr bh oh) was.2)))) (Runs (block_ptr bf of') n (block_ptr br or') m (block_ptr bh oh))
    many_flows bh oh may-handle bf of' may-flows br or' may-rows n fits-n m fits-m e =
        qed 𝓛 (‵ (row_at flow.the_row 16384 (block_ptr bf of') n was.0) ∷ ‵ (row_at row.the_row 262144 (block_ptr br or') m was.1) ∷ ‵ (value_at RawPtr (block_ptr bh oh) was.2) ∷ []) ∵ enter ! C Λ code.function (hv ∷ vint w32 channels ∷ vptr bf of' ∷ vint w64 n ∷ vptr br or' ∷ vint w64 m ∷ vint w32 rule ∷ vptr bh oh ∷ []) _ $
        alloc_all ! (λ l. let En = env code.function.locals l in pass_all ! refl (fits, ((tt, record { fits = fits-channels }), ((tt, tt), ((tt, record { fits = fits-n }), ((tt, tt), ((tt, record { fits = fits-m }), ((tt, record { fits = fits-rule }), ((tt, tt), tt)))))))) $
        move ! (2 ∷ []) $ use1 𝓛 (‵ (fat full_share ty_ptr bh oh (ptr_val was.2))) (pointer_out 𝓛 was.2 bh oh) $
        sets ! (bin ! (get ! refl) (lit ! tt) (tests_null (block_ptr bh oh) may-handle)) refl (tt, tt) $ first ! $ branches ! (get ! refl)
        (λ t. absurd t) (λ t. skips ! $ exec ! C Λ En code.Mir.t-3 (at_ret En (Post (block_ptr bf of') n (block_ptr br or') m (block_ptr bh oh))) $
        assigns ! (of_opd ! (lit ! tt)) (through ! refl (stop !)) (store ! 0 refl (tt, record { fits = lit< tt })) $
        sets ! (bin ! (get ! refl) (lit ! tt) (tests_null (block_ptr bf of') may-flows)) refl (tt, tt) $ first ! $ branches ! (get ! refl)
        (λ t. absurd t) (λ t. skips ! $ exec ! C Λ En code.Mir.t-6 (at_ret En (Post (block_ptr bf of') n (block_ptr br or') m (block_ptr bh oh))) $
        sets ! (bin ! (get ! refl) (lit ! tt) (tests_null (block_ptr br or') may-rows)) refl (tt, tt) $ first ! $ branches ! (get ! refl)
        (λ t. absurd t) (λ t. skips ! $ exec ! C Λ En code.Mir.t-8 (at_ret En (Post (block_ptr bf of') n (block_ptr br or') m (block_ptr bh oh))) $
        sets ! (bin ! (big_lit ! (record { fits = lit< tt })) (get ! refl) tt) refl (tt, tt) $ first ! $ branches ! (get ! refl)
        (λ t. sets ! (of_opd ! (lit ! tt)) refl (tt, record { fits = lit< tt }) $ use1 𝓛 (‵ (points_to RawPtr (block_ptr bh oh) null_ptr)) (pointer_in 𝓛 null_ptr bh oh) $ nothing ! $ move ! (2 ∷ 3 ∷ 1 ∷ 0 ∷ []) $ move ! (2 ∷ 3 ∷ []) $ join ! $ move ! (1 ∷ 2 ∷ 0 ∷ []) $ use3 𝓛 (raw (Ends (block_ptr bf of') n (block_ptr br or') m (block_ptr bh oh) 17)) (ended-4 𝓛 (F0 (block_ptr bf of') n) (F1 (block_ptr br or') m) (F2 (block_ptr bh oh)) F3 (Q (block_ptr bf of') n (block_ptr br or') m (block_ptr bh oh) 17) (null_ptr, None) (beyond (nat_lt 16384 n) (nat_lt 262144 m ∷ []) _ _ _ e refl refl)) $
        owned ! u32 (Is u32) (uint_Makes 𝓛 w32) 17 _ (refl, lit< tt) $ returns_within ! (Post (block_ptr bf of') n (block_ptr br or') m (block_ptr bh oh)) refl (look_at ! 0 refl) $ free_all ! refl $ keep ! (0 ∷ 1 ∷ []) $ nothing ! $ nothing ! $ fjoin ! $ nothing ! $ fjoin ! $ nothing ! $ fjoin ! $ nothing ! $ fjoin ! $ nothing ! $ fjoin ! $ nothing ! $ fjoin ! $ nothing ! $ fjoin ! $ nothing ! $ fjoin ! $ nothing ! $
        by ! (leaves 𝓛 f.ended stayed c (y (block_ptr bf of') n (block_ptr br or') m (block_ptr bh oh)) (vint w32 17) 17 (tt, (tt, (tt, (tt, (tt, (tt, (tt, (tt, tt)))))))) (tt, (tt, (tt, (tt, (tt, (tt, (tt, (tt, tt)))))))))) (λ t. absurd (subst (λ (z : Bool). T (not z)) e t))))))

    many_rows : (bh oh : ℕ) (may-handle : Testable (block_ptr bh oh)) (bf of' : ℕ) (may-flows : Testable (block_ptr bf of')) (br or' : ℕ) (may-rows : Testable (block_ptr br or')) (n : ℕ) (fits-n : n < 2 ^ 64) (m : ℕ) (fits-m : m < 2 ^ 64) → nat_lt 16384 n ≡ false → nat_lt 262144 m ≡ true → ent 𝓤 (sep 𝓤 (sem 𝓛 (row_at flow.the_row 16384 (block_ptr bf of') n was.0)) (sep 𝓤 (sem 𝓛 (row_at row.the_row 262144 (block_ptr br or') m was.1)) (sem 𝓛 (value_at RawPtr (block_ptr bh oh) was.2)))) (Runs (block_ptr bf of') n (block_ptr br or') m (block_ptr bh oh))
    many_rows bh oh may-handle bf of' may-flows br or' may-rows n fits-n m fits-m e-n e =
        qed 𝓛 (‵ (row_at flow.the_row 16384 (block_ptr bf of') n was.0) ∷ ‵ (row_at row.the_row 262144 (block_ptr br or') m was.1) ∷ ‵ (value_at RawPtr (block_ptr bh oh) was.2) ∷ []) ∵ enter ! C Λ code.function (hv ∷ vint w32 channels ∷ vptr bf of' ∷ vint w64 n ∷ vptr br or' ∷ vint w64 m ∷ vint w32 rule ∷ vptr bh oh ∷ []) _ $
        alloc_all ! (λ l. let En = env code.function.locals l in pass_all ! refl (fits, ((tt, record { fits = fits-channels }), ((tt, tt), ((tt, record { fits = fits-n }), ((tt, tt), ((tt, record { fits = fits-m }), ((tt, record { fits = fits-rule }), ((tt, tt), tt)))))))) $
        move ! (2 ∷ []) $ use1 𝓛 (‵ (fat full_share ty_ptr bh oh (ptr_val was.2))) (pointer_out 𝓛 was.2 bh oh) $
        sets ! (bin ! (get ! refl) (lit ! tt) (tests_null (block_ptr bh oh) may-handle)) refl (tt, tt) $ first ! $ branches ! (get ! refl)
        (λ t. absurd t) (λ t. skips ! $ exec ! C Λ En code.Mir.t-3 (at_ret En (Post (block_ptr bf of') n (block_ptr br or') m (block_ptr bh oh))) $
        assigns ! (of_opd ! (lit ! tt)) (through ! refl (stop !)) (store ! 0 refl (tt, record { fits = lit< tt })) $
        sets ! (bin ! (get ! refl) (lit ! tt) (tests_null (block_ptr bf of') may-flows)) refl (tt, tt) $ first ! $ branches ! (get ! refl)
        (λ t. absurd t) (λ t. skips ! $ exec ! C Λ En code.Mir.t-6 (at_ret En (Post (block_ptr bf of') n (block_ptr br or') m (block_ptr bh oh))) $
        sets ! (bin ! (get ! refl) (lit ! tt) (tests_null (block_ptr br or') may-rows)) refl (tt, tt) $ first ! $ branches ! (get ! refl)
        (λ t. absurd t) (λ t. skips ! $ exec ! C Λ En code.Mir.t-8 (at_ret En (Post (block_ptr bf of') n (block_ptr br or') m (block_ptr bh oh))) $
        sets ! (bin ! (big_lit ! (record { fits = lit< tt })) (get ! refl) tt) refl (tt, tt) $ first ! $ branches ! (get ! refl)
        (λ t. absurd (subst T e-n t)) (λ t. skips ! $ exec ! C Λ En code.Mir.t-10 (at_ret En (Post (block_ptr bf of') n (block_ptr br or') m (block_ptr bh oh))) $
        sets ! (bin ! (big_lit ! (record { fits = lit< tt })) (get ! refl) tt) refl (tt, tt) $ first ! $ branches ! (get ! refl)
        (λ t. sets ! (of_opd ! (lit ! tt)) refl (tt, record { fits = lit< tt }) $ use1 𝓛 (‵ (points_to RawPtr (block_ptr bh oh) null_ptr)) (pointer_in 𝓛 null_ptr bh oh) $ nothing ! $ move ! (2 ∷ 3 ∷ 1 ∷ 0 ∷ []) $ move ! (2 ∷ 3 ∷ []) $ join ! $ move ! (1 ∷ 2 ∷ 0 ∷ []) $ use3 𝓛 (raw (Ends (block_ptr bf of') n (block_ptr br or') m (block_ptr bh oh) 17)) (ended-4 𝓛 (F0 (block_ptr bf of') n) (F1 (block_ptr br or') m) (F2 (block_ptr bh oh)) F3 (Q (block_ptr bf of') n (block_ptr br or') m (block_ptr bh oh) 17) (null_ptr, None) (within (nat_lt 16384 n) (nat_lt 262144 m ∷ []) _ _ _ e-n (beyond (nat_lt 262144 m) [] _ _ _ e refl refl))) $
        owned ! u32 (Is u32) (uint_Makes 𝓛 w32) 17 _ (refl, lit< tt) $ returns_within ! (Post (block_ptr bf of') n (block_ptr br or') m (block_ptr bh oh)) refl (look_at ! 0 refl) $ free_all ! refl $ keep ! (0 ∷ 1 ∷ []) $ nothing ! $ nothing ! $ fjoin ! $ nothing ! $ fjoin ! $ nothing ! $ fjoin ! $ nothing ! $ fjoin ! $ nothing ! $ fjoin ! $ nothing ! $ fjoin ! $ nothing ! $ fjoin ! $ nothing ! $ fjoin ! $ nothing ! $
        by ! (leaves 𝓛 f.ended stayed c (y (block_ptr bf of') n (block_ptr br or') m (block_ptr bh oh)) (vint w32 17) 17 (tt, (tt, (tt, (tt, (tt, (tt, (tt, (tt, tt)))))))) (tt, (tt, (tt, (tt, (tt, (tt, (tt, (tt, tt)))))))))) (λ t. absurd (subst (λ (z : Bool). T (not z)) e t)))))))

    all_there : (bh oh : ℕ) (may-handle : Testable (block_ptr bh oh)) (bf of' : ℕ) (may-flows : Testable (block_ptr bf of')) (br or' : ℕ) (may-rows : Testable (block_ptr br or')) (fits-n : length was.0 < 2 ^ 64) (fits-m : length was.1 < 2 ^ 64) → nat_lt 16384 (length was.0) ≡ false → nat_lt 262144 (length was.1) ≡ false → ent 𝓤 (sep 𝓤 (sem 𝓛 (apart flow.the_row was.0 bf of')) (sep 𝓤 (sem 𝓛 (apart row.the_row was.1 br or')) (sep 𝓤 (sem 𝓛 (points_to RawPtr (block_ptr bh oh) was.2)) (sem 𝓛 (Z.row.own_val alloc (hv ∷ [])))))) (Runs (block_ptr bf of') (length was.0) (block_ptr br or') (length was.1) (block_ptr bh oh))
    all_there bh oh may-handle bf of' may-flows br or' may-rows fits-n fits-m e-n e-m =
        let few-n : length was.0 ≤ 16384 = nltb→le 16384 (length was.0) (subst (λ (z : Bool). T (not z)) (sym e-n) tt) in let room-n : length was.0 * 12 < 2 ^ 63 = omega arith in
        let few-m : length was.1 ≤ 262144 = nltb→le 262144 (length was.1) (subst (λ (z : Bool). T (not z)) (sym e-m) tt) in let room-m : length was.1 * 16 < 2 ^ 63 = omega arith in
        qed 𝓛 (‵ (apart flow.the_row was.0 bf of') ∷ ‵ (apart row.the_row was.1 br or') ∷ ‵ (points_to RawPtr (block_ptr bh oh) was.2) ∷ ‵ (Z.row.own_val alloc (hv ∷ [])) ∷ []) ∵ enter ! C Λ code.function (hv ∷ vint w32 channels ∷ vptr bf of' ∷ vint w64 (length was.0) ∷ vptr br or' ∷ vint w64 (length was.1) ∷ vint w32 rule ∷ vptr bh oh ∷ []) _ $
        alloc_all ! (λ l. let En = env code.function.locals l in pass_all ! refl (fits, ((tt, record { fits = fits-channels }), ((tt, tt), ((tt, record { fits = fits-n }), ((tt, tt), ((tt, record { fits = fits-m }), ((tt, record { fits = fits-rule }), ((tt, tt), tt)))))))) $
        move ! (2 ∷ []) $ use1 𝓛 (‵ (fat full_share ty_ptr bh oh (ptr_val was.2))) (pointer_out 𝓛 was.2 bh oh) $
        sets ! (bin ! (get ! refl) (lit ! tt) (tests_null (block_ptr bh oh) may-handle)) refl (tt, tt) $ first ! $ branches ! (get ! refl)
        (λ t. absurd t) (λ t. skips ! $ exec ! C Λ En code.Mir.t-3 (at_ret En (Post (block_ptr bf of') (length was.0) (block_ptr br or') (length was.1) (block_ptr bh oh))) $
        assigns ! (of_opd ! (lit ! tt)) (through ! refl (stop !)) (store ! 0 refl (tt, record { fits = lit< tt })) $
        sets ! (bin ! (get ! refl) (lit ! tt) (tests_null (block_ptr bf of') may-flows)) refl (tt, tt) $ first ! $ branches ! (get ! refl)
        (λ t. absurd t) (λ t. skips ! $ exec ! C Λ En code.Mir.t-6 (at_ret En (Post (block_ptr bf of') (length was.0) (block_ptr br or') (length was.1) (block_ptr bh oh))) $
        sets ! (bin ! (get ! refl) (lit ! tt) (tests_null (block_ptr br or') may-rows)) refl (tt, tt) $ first ! $ branches ! (get ! refl)
        (λ t. absurd t) (λ t. skips ! $ exec ! C Λ En code.Mir.t-8 (at_ret En (Post (block_ptr bf of') (length was.0) (block_ptr br or') (length was.1) (block_ptr bh oh))) $
        sets ! (bin ! (big_lit ! (record { fits = lit< tt })) (get ! refl) tt) refl (tt, tt) $ first ! $ branches ! (get ! refl)
        (λ t. absurd (subst T e-n t)) (λ t. skips ! $ exec ! C Λ En code.Mir.t-10 (at_ret En (Post (block_ptr bf of') (length was.0) (block_ptr br or') (length was.1) (block_ptr bh oh))) $
        sets ! (bin ! (big_lit ! (record { fits = lit< tt })) (get ! refl) tt) refl (tt, tt) $ first ! $ branches ! (get ! refl)
        (λ t. absurd (subst T e-m t)) (λ t. skips ! $ exec ! C Λ En code.Mir.t-12 (at_ret En (Post (block_ptr bf of') (length was.0) (block_ptr br or') (length was.1) (block_ptr bh oh))) $
        sets ! (agg ! (and_then ! (get ! refl) (and_then ! (get ! refl) (no_more !)))) refl (tt, (tt, (record { fits = fits-n }, tt))) $
        sets ! (agg ! (and_then ! (get ! refl) (and_then ! (get ! refl) (no_more !)))) refl (tt, (tt, (record { fits = fits-m }, tt))) $
        -- [the variable's cell; the flows; the rows; the allocator; the locals]
        move ! (1 ∷ []) $ feq_i ! ℕ (length was.0) (length was.0) refl $ fjoin ! $ lft_new ! tt (λ α0. let κ0 : Lft = α0 ∷ [] in move ! (1 ∷ 0 ∷ []) $
        use2 𝓛 (later ((‵ ((ShrSlice (named 0) κ0 flow.the_row).own_val (record { ref_ptr = (bf, of'); now = was.0 }) (slice_val (bf, of') (length was.0) ∷ [])) ⊛ ‵ (flent κ0 (counted flow.the_row was.0 bf of'))) ⊛ ‵ (flft κ0 full_share)))
        (lends_shr_slice 𝓛 flow.the_row (named 0) κ0 full_share was.0 bf of' (fits-n, room-n) flow.the_row.lives (flow_laws.the_row_laws.shares 𝓛) ((κ0, full_share) ∷ []) (flow_laws.the_within κ0) (Incl-refl κ0)) $ await ! tt $ split ! $ split ! $
        let s0 : Bor (List PlainFlow) = record { ref_ptr = (bf, of'); now = was.0 } in
        -- [the flows' slice; the way back; its token; the cell; the rows; the allocator]
        move ! (4 ∷ []) $ feq_i ! ℕ (length was.1) (length was.1) refl $ fjoin ! $ lft_new ! tt (λ α1. let κ1 : Lft = α1 ∷ [] in move ! (1 ∷ 0 ∷ []) $
        use2 𝓛 (later ((‵ ((ShrSlice (named 0) κ1 row.the_row).own_val (record { ref_ptr = (br, or'); now = was.1 }) (slice_val (br, or') (length was.1) ∷ [])) ⊛ ‵ (flent κ1 (counted row.the_row was.1 br or'))) ⊛ ‵ (flft κ1 full_share)))
        (lends_shr_slice 𝓛 row.the_row (named 0) κ1 full_share was.1 br or' (fits-m, room-m) row.the_row.lives (row_laws.the_row_laws.shares 𝓛) ((κ1, full_share) ∷ []) (row_laws.the_within κ1) (Incl-refl κ1)) $ await ! tt $ split ! $ split ! $
        let s1 : Bor (List PlainRow) = record { ref_ptr = (br, or'); now = was.1 } in
        -- [the rows' slice; the way back; its token; the flows' slice; the way back; its token; the
        -- cell; the allocator]
        let z : G.Ghost = (((κ0, (κ1, tt)), (full_share, (full_share, tt)), tt, (alloc, (channels, (s0, (s1, (rule, tt))))), (hv ∷ [], (vint w32 channels ∷ [], (slice_val (bf, of') (length was.0) ∷ [], (slice_val (br, or') (length was.1) ∷ [], (vint w32 rule ∷ [], tt)))))), tt) in
        nothing ! $ owned ! u32 (Is u32) (uint_Makes 𝓛 w32) rule _ (refl, fits-rule) $ fjoin ! $ move ! (1 ∷ 0 ∷ []) $ fjoin ! $
        -- [acc; the way back 1; token 1; slice 0; way back 0; token 0; the cell; the allocator]
        move ! (3 ∷ 0 ∷ []) $ fjoin ! $ owned ! u32 (Is u32) (uint_Makes 𝓛 w32) channels _ (refl, fits-channels) $ fjoin ! $
        -- [acc; way back 1; token 1; way back 0; token 0; the cell; the allocator]
        move ! (6 ∷ 0 ∷ []) $ fjoin ! $ nothing ! $ move ! (3 ∷ 0 ∷ []) $ join ! $
        -- [token 1 ..; acc; way back 1; way back 0; token 0; the cell]
        move ! (4 ∷ 0 ∷ []) $ join ! $ join ! $ nothing ! $ move ! (1 ∷ 0 ∷ []) $ use2 𝓛 (raw (G.pre z)) (id⊢ 𝓤 _) $
        calls_at ! fm G known z (and_then ! (get ! refl) (and_then ! (get ! refl) (and_then ! (get ! refl) (and_then ! (get ! refl) (and_then ! (get ! refl) (no_more !)))))) (λ v.
        use1 𝓛 (later (some (λ (h : Handed HeldReceiver Global). ((‵ (flft κ0 full_share) ⊛ (‵ (flft κ1 full_share) ⊛ ‵ ftrue)) ⊛ ‵ ((handed.the_row R Z.row ghosts).own_val h (v ∷ []))) ⊛ some (λ (ws : Lasts g.ended (κ0, (κ1, tt)) (alloc, (channels, (s0, (s1, (rule, tt)))))).
        ‵ (lasts g.ended (κ0, (κ1, tt)) (alloc, (channels, (s0, (s1, (rule, tt))))) ws) ⊛ raw (fact 𝓤 (Gives channels was.0 was.1 rule h.number h.value)))))) (id⊢ 𝓤 _) $
        await ! tt $ pick ! (λ h. split ! $ split ! $ split ! $ lft_end ! tt $ move ! (1 ∷ []) $ split ! $ lft_end ! tt $
        -- [κ1 is over; true; κ0 is over; what was made; ..; way back 1; way back 0; the cell]
        move ! (4 ∷ []) $ pick ! (λ ws. split ! $ drop ! $ heard ! _ (λ gives.
        -- [κ1 is over; true; κ0 is over; what was made; way back 1; way back 0; the cell]
        move ! (0 ∷ 4 ∷ []) $ lent_back ! tt $ use1 𝓛 (‵ (points_to (Array row.the_row (length was.1)) (block_ptr br or') was.1)) (Array-whole 𝓛 row.the_row full_share (length was.1) was.1 br or') $
        use1 𝓛 (‵ (F1 (block_ptr br or') (length was.1) (null_ptr, None))) (row_in 𝓛 row.the_row 262144 (block_ptr br or') (length was.1) was.1) $
        -- [the rows; true; κ0 is over; what was made; way back 0; the cell]
        move ! (2 ∷ 4 ∷ []) $ lent_back ! tt $ use1 𝓛 (‵ (points_to (Array flow.the_row (length was.0)) (block_ptr bf of') was.0)) (Array-whole 𝓛 flow.the_row full_share (length was.0) was.0 bf of') $
        use1 𝓛 (‵ (F0 (block_ptr bf of') (length was.0) (null_ptr, None))) (row_in 𝓛 flow.the_row 16384 (block_ptr bf of') (length was.0) was.0) $
        -- [the flows; the rows; true; what was made; the cell]
        move ! (3 ∷ []) $ handed_out R Z ! h (v ∷ []) (λ hv' told small fa.
        lands_as ! (ap only told) refl (handed_typed_at Z h.number small hv' h.at fa) $
        sets ! (of_opd ! (get_in ! (fld ! refl (stop !)) (sub ! 0 refl (whole !)))) refl (tt, record { fits = small }) $
        sets ! (of_opd ! (get_in ! (fld ! refl (stop !)) (sub ! 1 refl (whole !)))) refl (typed h.at) $
        sets ! (of_opd ! (get ! refl)) refl (typed h.at) $
        -- [the allocator; what it owns; the flows; the rows; true; the cell]
        move ! (5 ∷ []) $ assigns ! (of_opd ! (get ! refl)) (through ! refl (stop !)) (store ! 0 refl (typed h.at)) $
        sets ! (of_opd ! (get ! refl)) refl (tt, record { fits = small }) $
        use1 𝓛 (‵ (points_to RawPtr (block_ptr bh oh) h.at)) (pointer_in 𝓛 h.at bh oh) $
        move ! (2 ∷ []) $ use1 𝓛 (‵ (made_at h.at h.value)) (made-in 𝓛 h.alloc h.at h.value) $ move ! (3 ∷ 4 ∷ 1 ∷ 0 ∷ []) $
        move ! (2 ∷ 3 ∷ []) $ join ! $ move ! (1 ∷ 2 ∷ 0 ∷ []) $ use3 𝓛 (raw (Ends (block_ptr bf of') (length was.0) (block_ptr br or') (length was.1) (block_ptr bh oh) h.number)) (ended-4 𝓛 (F0 (block_ptr bf of') (length was.0)) (F1 (block_ptr br or') (length was.1)) (F2 (block_ptr bh oh)) F3 (Q (block_ptr bf of') (length was.0) (block_ptr br or') (length was.1) (block_ptr bh oh) h.number) (h.at, h.value) (within (nat_lt 16384 (length was.0)) (nat_lt 262144 (length was.1) ∷ []) _ _ _ e-n (within (nat_lt 262144 (length was.1)) [] _ _ _ e-m gives))) $
        owned ! u32 (Is u32) (uint_Makes 𝓛 w32) h.number _ (refl, small) $ returns ! (look_at ! 0 refl) $ free_all ! refl $ keep ! (0 ∷ 1 ∷ []) $ nothing ! $ nothing ! $ fjoin ! $ nothing ! $ fjoin ! $ nothing ! $ fjoin ! $ nothing ! $ fjoin ! $ nothing ! $ fjoin ! $ nothing ! $ fjoin ! $ nothing ! $ fjoin ! $ nothing ! $ fjoin ! $ nothing ! $
        by ! (leaves 𝓛 f.ended stayed c (y (block_ptr bf of') (length was.0) (block_ptr br or') (length was.1) (block_ptr bh oh)) (vint w32 h.number) h.number (tt, (tt, (tt, (tt, (tt, (tt, (tt, (tt, tt)))))))) (tt, (tt, (tt, (tt, (tt, (tt, (tt, (tt, tt))))))))))))))))))))))

    counted_out : (bh oh : ℕ) (may-handle : Testable (block_ptr bh oh)) (bf of' : ℕ) (may-flows : Testable (block_ptr bf of')) (br or' : ℕ) (may-rows : Testable (block_ptr br or')) (n : ℕ) (fits-n : n < 2 ^ 64) (m : ℕ) (fits-m : m < 2 ^ 64) → nat_lt 16384 n ≡ false → nat_lt 262144 m ≡ false → ent 𝓤 (sep 𝓤 (sem 𝓛 (row_at flow.the_row 16384 (block_ptr bf of') n was.0)) (sep 𝓤 (sem 𝓛 (row_at row.the_row 262144 (block_ptr br or') m was.1)) (sep 𝓤 (sem 𝓛 (value_at RawPtr (block_ptr bh oh) was.2)) (sem 𝓛 (Z.row.own_val alloc (hv ∷ [])))))) (Runs (block_ptr bf of') n (block_ptr br or') m (block_ptr bh oh))
    counted_out bh oh may-handle bf of' may-flows br or' may-rows n fits-n m fits-m e-n e-m =
        qed 𝓛 (‵ (row_at flow.the_row 16384 (block_ptr bf of') n was.0) ∷ ‵ (row_at row.the_row 262144 (block_ptr br or') m was.1) ∷ ‵ (value_at RawPtr (block_ptr bh oh) was.2) ∷ ‵ (Z.row.own_val alloc (hv ∷ [])) ∷ []) ∵ use1 𝓛 (‵ (points_to (Array flow.the_row n) (block_ptr bf of') was.0)) (row_out 𝓛 flow.the_row 16384 (block_ptr bf of') n was.0 e-n tt) $
        use1 𝓛 (‵ (fsep (feq ℕ (length was.0) n) (apart flow.the_row was.0 bf of'))) (Array-apart 𝓛 flow.the_row full_share tt n was.0 bf of') $ fsplit ! $ feq_l ! (λ long-n. move ! (1 ∷ []) $
        use1 𝓛 (‵ (points_to (Array row.the_row m) (block_ptr br or') was.1)) (row_out 𝓛 row.the_row 262144 (block_ptr br or') m was.1 e-m tt) $
        use1 𝓛 (‵ (fsep (feq ℕ (length was.1) m) (apart row.the_row was.1 br or'))) (Array-apart 𝓛 row.the_row full_share tt m was.1 br or') $ fsplit ! $ feq_l ! (λ long-m. move ! (1 ∷ 0 ∷ []) $
        by ! (subst (λ (k : ℕ × ℕ). k.0 < 2 ^ 64 → k.1 < 2 ^ 64 → nat_lt 16384 k.0 ≡ false → nat_lt 262144 k.1 ≡ false → ent 𝓤 (sep 𝓤 (sem 𝓛 (apart flow.the_row was.0 bf of')) (sep 𝓤 (sem 𝓛 (apart row.the_row was.1 br or')) (sep 𝓤 (sem 𝓛 (points_to RawPtr (block_ptr bh oh) was.2)) (sem 𝓛 (Z.row.own_val alloc (hv ∷ [])))))) (Runs (block_ptr bf of') k.0 (block_ptr br or') k.1 (block_ptr bh oh)))
        (λ i. (long-n i, long-m i)) (all_there bh oh may-handle bf of' may-flows br or' may-rows) fits-n fits-m e-n e-m)))

    by_rows : (bh oh : ℕ) (may-handle : Testable (block_ptr bh oh)) (bf of' : ℕ) (may-flows : Testable (block_ptr bf of')) (br or' : ℕ) (may-rows : Testable (block_ptr br or')) (n : ℕ) (fits-n : n < 2 ^ 64) (m : ℕ) (fits-m : m < 2 ^ 64) → nat_lt 16384 n ≡ false → (more : Bool) → nat_lt 262144 m ≡ more → ent 𝓤 (sep 𝓤 (sem 𝓛 (row_at flow.the_row 16384 (block_ptr bf of') n was.0)) (sep 𝓤 (sem 𝓛 (row_at row.the_row 262144 (block_ptr br or') m was.1)) (sep 𝓤 (sem 𝓛 (value_at RawPtr (block_ptr bh oh) was.2)) (sem 𝓛 (Z.row.own_val alloc (hv ∷ [])))))) (Runs (block_ptr bf of') n (block_ptr br or') m (block_ptr bh oh))
    by_rows bh oh may-handle bf of' may-flows br or' may-rows n fits-n m fits-m e-n true e = qed 𝓛 (‵ (row_at flow.the_row 16384 (block_ptr bf of') n was.0) ∷ ‵ (row_at row.the_row 262144 (block_ptr br or') m was.1) ∷ ‵ (value_at RawPtr (block_ptr bh oh) was.2) ∷ ‵ (Z.row.own_val alloc (hv ∷ [])) ∷ []) ∵ keep ! (0 ∷ 1 ∷ 2 ∷ []) $ by ! (many_rows bh oh may-handle bf of' may-flows br or' may-rows n fits-n m fits-m e-n e)
    by_rows bh oh may-handle bf of' may-flows br or' may-rows n fits-n m fits-m e-n false e = counted_out bh oh may-handle bf of' may-flows br or' may-rows n fits-n m fits-m e-n e

    by_flows : (bh oh : ℕ) (may-handle : Testable (block_ptr bh oh)) (bf of' : ℕ) (may-flows : Testable (block_ptr bf of')) (br or' : ℕ) (may-rows : Testable (block_ptr br or')) (n : ℕ) (fits-n : n < 2 ^ 64) (m : ℕ) (fits-m : m < 2 ^ 64) → (more : Bool) → nat_lt 16384 n ≡ more → ent 𝓤 (sep 𝓤 (sem 𝓛 (row_at flow.the_row 16384 (block_ptr bf of') n was.0)) (sep 𝓤 (sem 𝓛 (row_at row.the_row 262144 (block_ptr br or') m was.1)) (sep 𝓤 (sem 𝓛 (value_at RawPtr (block_ptr bh oh) was.2)) (sem 𝓛 (Z.row.own_val alloc (hv ∷ [])))))) (Runs (block_ptr bf of') n (block_ptr br or') m (block_ptr bh oh))
    by_flows bh oh may-handle bf of' may-flows br or' may-rows n fits-n m fits-m true e = qed 𝓛 (‵ (row_at flow.the_row 16384 (block_ptr bf of') n was.0) ∷ ‵ (row_at row.the_row 262144 (block_ptr br or') m was.1) ∷ ‵ (value_at RawPtr (block_ptr bh oh) was.2) ∷ ‵ (Z.row.own_val alloc (hv ∷ [])) ∷ []) ∵ keep ! (0 ∷ 1 ∷ 2 ∷ []) $ by ! (many_flows bh oh may-handle bf of' may-flows br or' may-rows n fits-n m fits-m e)
    by_flows bh oh may-handle bf of' may-flows br or' may-rows n fits-n m fits-m false e = by_rows bh oh may-handle bf of' may-flows br or' may-rows n fits-n m fits-m e (nat_lt 262144 m) refl

    at : (flows rows handle : Ptr) (n : ℕ) (fits-n : n < 2 ^ 64) (m : ℕ) (fits-m : m < 2 ^ 64) → Testable flows → Testable rows → Testable handle → ent 𝓤 (sep 𝓤 (sem 𝓛 (row_at flow.the_row 16384 flows n was.0)) (sep 𝓤 (sem 𝓛 (row_at row.the_row 262144 rows m was.1)) (sep 𝓤 (sem 𝓛 (value_at RawPtr handle was.2)) (sem 𝓛 (Z.row.own_val alloc (hv ∷ [])))))) (Runs flows n rows m handle)
    at flows rows null_ptr n fits-n m fits-m may-flows may-rows may-handle = qed 𝓛 (‵ (row_at flow.the_row 16384 flows n was.0) ∷ ‵ (row_at row.the_row 262144 rows m was.1) ∷ ‵ (value_at RawPtr null_ptr was.2) ∷ ‵ (Z.row.own_val alloc (hv ∷ [])) ∷ []) ∵ keep ! (0 ∷ 1 ∷ 2 ∷ []) $ by ! (null_handle flows rows n fits-n m fits-m)
    at null_ptr rows (block_ptr bh oh) n fits-n m fits-m may-flows may-rows may-handle = qed 𝓛 (‵ (row_at flow.the_row 16384 null_ptr n was.0) ∷ ‵ (row_at row.the_row 262144 rows m was.1) ∷ ‵ (value_at RawPtr (block_ptr bh oh) was.2) ∷ ‵ (Z.row.own_val alloc (hv ∷ [])) ∷ []) ∵ keep ! (0 ∷ 1 ∷ 2 ∷ []) $ by ! (null_flows bh oh may-handle rows n fits-n m fits-m)
    at (block_ptr bf of') null_ptr (block_ptr bh oh) n fits-n m fits-m may-flows may-rows may-handle = qed 𝓛 (‵ (row_at flow.the_row 16384 (block_ptr bf of') n was.0) ∷ ‵ (row_at row.the_row 262144 null_ptr m was.1) ∷ ‵ (value_at RawPtr (block_ptr bh oh) was.2) ∷ ‵ (Z.row.own_val alloc (hv ∷ [])) ∷ []) ∵ keep ! (0 ∷ 1 ∷ 2 ∷ []) $ by ! (null_rows bh oh may-handle bf of' may-flows n fits-n m fits-m)
    at (block_ptr bf of') (block_ptr br or') (block_ptr bh oh) n fits-n m fits-m may-flows may-rows may-handle = by_flows bh oh may-handle bf of' may-flows br or' may-rows n fits-n m fits-m (nat_lt 16384 n) refl

pub segrx_receiver_new_spec : {M : Type 1} → statement M
segrx_receiver_new_spec 𝓤 𝓛 𝓜 𝓡 wired =
    let 𝓣 = tables 𝓤 𝓛.H 𝓜 𝓡 𝓡.env in
    proved 𝓛 f.ended stayed (c 𝓛 𝓜.mem 𝓡.returns) 𝓜 𝓡 (Goes-dropped 𝓛 0 (plain (λ _. heap.the_row)) yes (λ κs x w. refl), (Goes-dropped 𝓛 0 (plain (λ _. u32)) yes (λ κs x w. refl), (Goes-dropped 𝓛 0 (plain (λ _. RawPtr)) yes (λ κs x w. refl), (Goes-dropped 𝓛 0 (plain (λ _. usize)) yes (λ κs x w. refl), (Goes-dropped 𝓛 0 (plain (λ _. RawPtr)) yes (λ κs x w. refl), (Goes-dropped 𝓛 0 (plain (λ _. usize)) yes (λ κs x w. refl), (Goes-dropped 𝓛 0 (plain (λ _. u32)) yes (λ κs x w. refl), (Goes-dropped 𝓛 0 (plain (λ _. RawPtr)) yes (λ κs x w. refl), tt))))))))
    f.Key.name code.function (code.unfolded 𝓤 𝓛.H 𝓜 𝓡 wired) (λ κs. ((λ a. word-of a ∷ []), (uint_vals w32, (rawptr_vals, (uint_vals w64, (rawptr_vals, (uint_vals w64, (uint_vals w32, (rawptr_vals, tt)))))))))
    (λ κs. (heap_laws.the_told.tells, (uint_Tells w32, (rawptr_Tells, (uint_Tells w64, (rawptr_Tells, (uint_Tells w64, (uint_Tells w32, (rawptr_Tells, tt))))))))) (λ κs qs bounds a was are.
    qed 𝓛 ((‵ ftrue ⊛ ‵ (owns (types_at f.signature.params κs) a (word-of a.0 ∷ [], (vint w32 a.1.0 ∷ [], (rawptr_vals a.1.1.0, (vint w64 a.1.1.1.0 ∷ [], (rawptr_vals a.1.1.1.1.0, (vint w64 a.1.1.1.1.1.0 ∷ [], (vint w32 a.1.1.1.1.1.1.0 ∷ [], (rawptr_vals a.1.1.1.1.1.1.1.0, tt))))))))))
    ∷ (raw (fact 𝓤 (Testable a.1.1.0)) ⊛ (raw (fact 𝓤 (Testable a.1.1.1.1.0)) ⊛ (raw (fact 𝓤 (Testable a.1.1.1.1.1.1.1.0)) ⊛ (‵ (row_at flow.the_row 16384 a.1.1.0 a.1.1.1.0 was.0) ⊛ (‵ (row_at row.the_row 262144 a.1.1.1.1.0 a.1.1.1.1.1.0 was.1) ⊛ ‵ (value_at RawPtr a.1.1.1.1.1.1.1.0 was.2)))))) ∷ []) ∵
    move ! (1 ∷ []) $ split ! $ heard ! (Testable a.1.1.0) (λ may-flows. split ! $ heard ! (Testable a.1.1.1.1.0) (λ may-rows. split ! $ heard ! (Testable a.1.1.1.1.1.1.1.0) (λ may-handle.
    split3 ! $ move ! (3 ∷ []) $ split ! $ drop ! $ fsplit ! $ keep ! (2 ∷ 3 ∷ 4 ∷ 0 ∷ []) $
    by ! (at 𝓛 𝓜.mem 𝓡.returns 𝓣.C 𝓣.Λ (framed 𝓤 𝓛.H 𝓜 𝓣) (callee.met 𝓤 𝓛 𝓜 𝓡 (code.calls-segrx_c::calls::make 𝓡.env wired)) a.0 (((heap_laws.the_row_laws.lawful 𝓛).typed a.0 (word-of a.0 ∷ []) are.0).0)
    a.1.0 are.1.0.1 a.1.1.1.1.1.1.0 are.1.1.1.1.1.1.0.1 was a.1.1.0 a.1.1.1.1.0 a.1.1.1.1.1.1.1.0 a.1.1.1.0 are.1.1.1.0.1 a.1.1.1.1.1.0 are.1.1.1.1.1.0.1 may-flows may-rows may-handle)))))
