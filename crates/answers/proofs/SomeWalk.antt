-- Bytes are walked in one way at least: they begin with a whole frame, or don't.
use Rattle.std.proofs.Common.{◌≡◌, ℕ, zero, suc, ◌+◌, ◌<◌, ◌⊎◌, inl, inr, Bool, true, false, List, [], ◌∷◌, ◌++◌, length, take, drop, get_or, refl, ap, sym, subst, ◌∙◌, arith, length-append, append_assoc, append-nil}
use Rattle.std.specs.List.{concat}
use Rattle.std.proofs.lemmas.Bool.{cases_lt}
use Rattle.std.proofs.lemmas.List.{take-append-drop, get_or_past}
use Rattle.std.proofs.lemmas.List.Elements.{All-get_or, All-drop}
use Rattle.docsis_wire.specs.declared.frame.HeadRead.{HeadRead}
use Rattle.docsis_wire.specs.declared.frame.HeadRead.TheVariants.{Short, Fill, Bad, Head}
use Rattle.docsis_wire.specs.Frame.{IsFrame, header_front}
use Rattle.docsis_wire.specs.Head.{head_of}
use Rattle.docsis_wire.proofs.FrameHeads.{IsFrame-from_head, header_announced, length-frame}
use Rattle.ccf.specs.Walk.{Ends, EndsAs, Walks}
use Rattle.ccf.proofs.OneJoining.{same_front, no_frame_in_front}
use Rattle.answers.specs.Bytes.{AreBytes}

-- A frame in front, and what stands behind it.
pub record BeginsWithFrame (check : List ℕ → Bool) (bytes : List ℕ) : Type 0 where
  pub frame : List ℕ
  pub behind : List ℕ
  pub split : bytes ≡ frame ++ behind
  pub is_frame : IsFrame check frame
  pub behind_bytes : AreBytes behind

-- Nothing in front that is a whole frame, and what of it is left unfinished.
pub record EndsThere (check : List ℕ → Bool) (bytes : List ℕ) : Type 0 where
  pub after : List ℕ
  pub ends : Ends check bytes after
  pub after_bytes : AreBytes after

-- no bytes are bytes
pub no_bytes : AreBytes []
no_bytes k d within = absurd (omega arith)

-- what stands anywhere in bytes, or behind them
byte_at : (bytes : List ℕ) → AreBytes bytes → (i : ℕ) → get_or bytes i 0 < 256
byte_at bytes are i = elim (cases_lt i (length bytes)) [
  | inl within ↦ All-get_or (λ byte. byte < 256) bytes i 0 within are
  | inr past ↦ let none = get_or_past bytes i 0 past in omega arith
]

-- by what the head says
by_head : (check : List ℕ → Bool) (bytes : List ℕ) (head : HeadRead) → head_of bytes ≡ head → AreBytes bytes → BeginsWithFrame check bytes ⊎ EndsThere check bytes
by_head check bytes Short e are = inr record { after = bytes; ends = subst (λ (h : HeadRead). EndsAs check h bytes bytes) (sym e) refl; after_bytes = are }
by_head check bytes Fill e are = inr record { after = []; ends = subst (λ (h : HeadRead). EndsAs check h bytes []) (sym e) refl; after_bytes = no_bytes }
by_head check bytes (Bad fault) e are = inr record { after = []; ends = subst (λ (h : HeadRead). EndsAs check h bytes []) (sym e) refl; after_bytes = no_bytes }
by_head check bytes (Head ehdr total) e are =
    let within = header_announced bytes ehdr total e in
    let P : List ℕ → HeadRead → Type 0 = λ after h. EndsAs check h bytes after in
    elim (cases_lt (length bytes) (6 + ehdr)) [
      | inl short ↦ inr record { after = bytes; ends = subst (P bytes) (sym e) (inr (λ enough. absurd (omega arith), omega arith, refl)); after_bytes = are }
      | inr enough ↦
          elim (check (header_front ehdr bytes)) as (λ b. check (header_front ehdr bytes) ≡ b → BeginsWithFrame check bytes ⊎ EndsThere check bytes) [
            | false ↦ λ fails. inr record { after = []; ends = subst (P []) (sym e) (inl ((enough, fails), refl)); after_bytes = no_bytes }
            | true ↦ λ passes. elim (cases_lt (length bytes) total) [
              | inl less ↦ inr record { after = bytes; ends = subst (P bytes) (sym e) (inr (λ _. passes, less, refl)); after_bytes = are }
              | inr whole ↦ inl record {
                frame = take total bytes;
                behind = drop total bytes;
                split = sym (take-append-drop total bytes);
                is_frame = IsFrame-from_head check bytes ehdr total (byte_at bytes are) e whole passes;
                behind_bytes = All-drop (λ byte. byte < 256) total bytes are;
              }
            ]
          ] refl
    ]

pub front_or_end : (check : List ℕ → Bool) (bytes : List ℕ) → AreBytes bytes → BeginsWithFrame check bytes ⊎ EndsThere check bytes
front_or_end check bytes are = by_head check bytes (head_of bytes) refl are

-- behind a frame something is left, or it is all
frame_or_more : (check : List ℕ → Bool) (bytes frame behind : List ℕ) → bytes ≡ frame ++ behind → IsFrame check frame → IsFrame check bytes ⊎ (IsFrame check bytes → ⊥)
frame_or_more check bytes frame [] split is_frame = inl (subst (IsFrame check) (sym (split ∙ append-nil frame)) is_frame)
frame_or_more check bytes frame (b ∷ bs) split is_frame = inr (λ is.
    let same = same_front check bytes frame [] (b ∷ bs) is is_frame (append-nil bytes ∙ split) in
    let e = same.1 in cc)

-- bytes are a whole frame, or they aren't
pub frame_or_not : (check : List ℕ → Bool) (bytes : List ℕ) → AreBytes bytes → IsFrame check bytes ⊎ (IsFrame check bytes → ⊥)
frame_or_not check bytes are = elim (front_or_end check bytes are) [
  | inl front ↦ frame_or_more check bytes front.frame front.behind front.split front.is_frame
  | inr end ↦ inr (λ is. no_frame_in_front check bytes end.after bytes [] end.ends is (sym (append-nil bytes)))
]

-- Frames end to end, what is unfinished behind them, and that it is of bytes.
pub record SomeWalk (check : List ℕ → Bool) (bytes : List ℕ) : Type 0 where
  pub frames : List (List ℕ)
  pub after : List ℕ
  pub walks : Walks check bytes frames after
  pub after_bytes : AreBytes after

-- one frame more in front of a walk
one_more : (check : List ℕ → Bool) (bytes : List ℕ) (front : BeginsWithFrame check bytes) → SomeWalk check front.behind → SomeWalk check bytes
one_more check bytes front walk = record {
  frames = front.frame ∷ walk.frames;
  after = walk.after;
  walks = record {
    rest = walk.walks.rest;
    whole = front.split ∙ ap (λ t. front.frame ++ t) walk.walks.whole ∙ sym (append_assoc front.frame (concat walk.frames) walk.walks.rest);
    each = (front.is_frame, walk.walks.each);
    ends = walk.walks.ends;
  };
  after_bytes = walk.after_bytes;
}

-- what stands behind a frame is shorter
shorter : (check : List ℕ → Bool) (bytes : List ℕ) (front : BeginsWithFrame check bytes) → length front.behind < length bytes
shorter check bytes front = omega (arith, ap length front.split, length-append front.frame front.behind, length-frame front.frame front.is_frame.generic)

walk_below : (check : List ℕ → Bool) (n : ℕ) (bytes : List ℕ) → length bytes < n → AreBytes bytes → SomeWalk check bytes
walk_below check zero bytes below are = absurd (omega arith)
walk_below check (suc n) bytes below are = elim (front_or_end check bytes are) [
  | inl front ↦ one_more check bytes front (walk_below check n front.behind (omega (arith, shorter check bytes front)) front.behind_bytes)
  | inr end ↦ record { frames = []; after = end.after; walks = record { rest = bytes; whole = refl; each = tt; ends = end.ends }; after_bytes = end.after_bytes }
]

-- bytes are walked
pub some_walk : (check : List ℕ → Bool) (bytes : List ℕ) → AreBytes bytes → SomeWalk check bytes
some_walk check bytes are = walk_below check (suc (length bytes)) bytes (omega arith) are
