-- Texts that are put one behind another.
use Rattle.std.proofs.Common.{◌≡◌, ℕ, ◌+◌, ◌<◌, List, [], ◌∷◌, ◌++◌, length, take, drop, get_or, sym, ap, subst, ◌∙◌, append_assoc, append-nil, add-zero, arith, length-take}
use Rattle.std.specs.Prelude.{flat_map}
use Rattle.std.specs.List.{enumerate_from}
use Rattle.std.proofs.lemmas.List.{take_more, take-append-drop}
use Rattle.std.proofs.lemmas.Grind.{flat_map-append}
use Rattle.text_lines.specs.Putting.{Puts, IsClosed, numbered_texts}

-- one more item has the next place
enumerate_from-push : {T : Type 0} → (n : ℕ) (items : List T) (item : T)
    → enumerate_from n (items ++ item ∷ []) ≡ enumerate_from n items ++ (n + length items, item) ∷ []
enumerate_from-push n [] item = ap (λ k. (k, item) ∷ []) (sym (add-zero n))
enumerate_from-push n (first ∷ items) item =
    let place : n + 1 + length items ≡ n + length (first ∷ items) = omega arith in
    ap (λ others. (n, first) ∷ others) (enumerate_from-push (n + 1) items item ∙ ap (λ k. enumerate_from (n + 1) items ++ (k, item) ∷ []) place)

-- the text of one more item comes after those of the others
numbered_texts-push : {T : Type 0} (text : ℕ → T → List ℕ) (items : List T) (item : T)
    → numbered_texts text (items ++ item ∷ []) ≡ numbered_texts text items ++ text (length items) item
numbered_texts-push {T} text items item =
    let of_one : ℕ × T → List ℕ = λ one. text one.0 one.1 in
    let place : 0 + length items ≡ length items = omega arith in
    ap (flat_map of_one) (enumerate_from-push 0 items item)
    ∙ flat_map-append of_one (enumerate_from 0 items) ((0 + length items, item) ∷ [])
    ∙ ap (λ others. numbered_texts text items ++ others) (append-nil (text (0 + length items) item) ∙ ap (λ k. text k item) place)

module _ {T : Type 0} (after : T → List ℕ → T → Type 0) where
  -- nothing was put
  pub puts-nothing : (now : T) → Puts after now [] now
  puts-nothing now start text was = subst (λ (all : List ℕ). after start all now) (sym (append-nil text)) was

  -- one text was put, and another behind it
  pub puts-then : {first middle last : T} {more others : List ℕ} → Puts after first more middle → Puts after middle others last → Puts after first (more ++ others) last
  puts-then {first} {middle} {last} {more} {others} puts next start text was =
      subst (λ (all : List ℕ). after start all last) (append_assoc text more others) (next start (text ++ more) (puts start text was))

  -- the text of one more item was put
  pub puts-one-more : {A : Type 0} (items : List A) (i : ℕ) (any : A) → i < length items → (text : A → List ℕ) (first middle last : T)
      → Puts after first (flat_map text (take i items)) middle → Puts after middle (text (get_or items i any)) last → Puts after first (flat_map text (take (i + 1) items)) last
  puts-one-more {A} items i any within text first middle last puts one =
      let item = get_or items i any in
      subst (λ (all : List ℕ). Puts after first all last)
      (ap (λ (t : List ℕ). flat_map text (take i items) ++ t) (sym (append-nil (text item))) ∙ sym (flat_map-append text (take i items) (item ∷ []))
      ∙ ap (flat_map text) (sym (take_more items i any within)))
      (puts-then puts one)

  -- what takes the text is closed: the texts of the other items make no difference
  pub puts-closed : {A : Type 0} (text : A → List ℕ) (items : List A) (i : ℕ) (first middle : T) → Puts after first (flat_map text (take i items)) middle
      → IsClosed after middle → Puts after first (flat_map text items) middle
  puts-closed {A} text items i first middle puts closed =
      subst (λ (all : List ℕ). Puts after first all middle)
      (sym (flat_map-append text (take i items) (drop i items)) ∙ ap (flat_map text) (take-append-drop i items))
      (puts-then puts (closed (flat_map text (drop i items))))

  -- the text of one more item was put, made with its place
  pub puts-one-more-numbered : {A : Type 0} (items : List A) (i : ℕ) (any : A) → i < length items → (text : ℕ → A → List ℕ)
      (first middle last : T) → Puts after first (numbered_texts text (take i items)) middle → Puts after middle (text i (get_or items i any)) last
      → Puts after first (numbered_texts text (take (i + 1) items)) last
  puts-one-more-numbered {A} items i any within text first middle last puts one =
      let item = get_or items i any in
      subst (λ (all : List ℕ). Puts after first all last)
      (ap (λ (k : ℕ). numbered_texts text (take i items) ++ text k item) (sym place) ∙ sym (numbered_texts-push text (take i items) item)
      ∙ ap (numbered_texts text) (sym (take_more items i any within)))
      (puts-then puts one)
    where
      place : length (take i items) ≡ i
      place = omega (arith, length-take i items, within)
