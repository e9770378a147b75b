-- Rows that are put one behind another.
use Rattle.std.proofs.Common.{◌≡◌, ℕ, ◌+◌, ◌<◌, List, [], ◌∷◌, ◌++◌, length, take, get_or, sym, ap, subst, ◌∙◌, append-nil, append_assoc}
use Rattle.std.proofs.lemmas.List.{take_more}
use Rattle.text_lines.specs.Putting.{Puts}
use Rattle.seen_sids.specs.declared.seen_sid.SeenSid.{SeenSid}
use Rattle.seen_sids.specs.SeenText.{row_line, rows_after, rows_text}
use Rattle.text_lines.proofs.PutTexts.{puts-then}

-- the line of the row behind those that are there
rows_after-push : (above rows : List SeenSid) (row : SeenSid) → rows_after above (rows ++ row ∷ []) ≡ rows_after above rows ++ row_line (above ++ rows) row
rows_after-push above [] row = append-nil (row_line above row) ∙ ap (λ (all : List SeenSid). row_line all row) (sym (append-nil above))
rows_after-push above (first ∷ rows) row =
    ap (λ (text : List ℕ). row_line above first ++ text)
    (rows_after-push (above ++ first ∷ []) rows row ∙ ap (λ (all : List SeenSid). rows_after (above ++ first ∷ []) rows ++ row_line all row) (append_assoc above (first ∷ []) rows))
    ∙ sym (append_assoc (row_line above first) (rows_after (above ++ first ∷ []) rows) (row_line (above ++ first ∷ rows) row))

rows_text-push : (rows : List SeenSid) (row : SeenSid) → rows_text (rows ++ row ∷ []) ≡ rows_text rows ++ row_line rows row
rows_text-push rows row = rows_after-push [] rows row

module _ {T : Type 0} (after : T → List ℕ → T → Type 0) where
  -- one row more was put
  pub puts-row : (rows : List SeenSid) (place : ℕ) (any : SeenSid) → place < length rows → (first middle last : T)
      → Puts after first (rows_text (take place rows)) middle → Puts after middle (row_line (take place rows) (get_or rows place any)) last
      → Puts after first (rows_text (take (place + 1) rows)) last
  puts-row rows place any within first middle last puts one =
      let row = get_or rows place any in
      subst (λ (all : List ℕ). Puts after first all last)
      (sym (rows_text-push (take place rows) row) ∙ ap rows_text (sym (take_more rows place any within)))
      (puts-then after puts one)
