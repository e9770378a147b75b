-- What is drawn within something else.
use Rattle.std.proofs.Common.{◌≡◌, ℕ, ◌+◌, ◌*◌, ◌/◌, ◌%◌, ◌<◌, ◌⊎◌, inl, inr, List, length, get_or, Option, Some, None, Bool, true, false, nat_eq, refl, sym, ap, ◌∙◌, subst, arith, get_or-set_same}
use Rattle.std.proofs.lemmas.Bool.Decides.{nat_tests}
use Rattle.std.specs.List.{All}
use Rattle.std.proofs.lemmas.List.Elements.{All-get_or}
use Rattle.std.proofs.lemmas.List.FromFn.{get_or-map-range_with_len}
use Rattle.capture_picture.specs.Spans.{both_spans}
use Rattle.capture_picture.specs.Columns.{no_column, with_span, pair_at, halved}
use Rattle.capture_picture.specs.Covering.{Covers, span_at, HasAllChannels}
use Rattle.capture_picture.specs.ShownFlow.{changed_at}
use Rattle.capture_picture.specs.declared.span.Span.{Span}
use Rattle.capture_picture.specs.declared.column.Column.{Column}
use Rattle.capture_picture.proofs.Changed.{get_or-changed_at}

-- each of two is within both
covers-first : (one other : Option Span) → Covers (both_spans one other) one
covers-first None other = tt
covers-first (Some one) None = (omega arith, omega arith, omega arith)
covers-first (Some one) (Some other) = (omega arith, omega arith, omega arith)

covers-second : (one other : Option Span) → Covers (both_spans one other) other
covers-second one None = tt
covers-second None (Some other) = (omega arith, omega arith, omega arith)
covers-second (Some one) (Some other) = (omega arith, omega arith, omega arith)

pub span_is_drawn : (columns : List Column) (column channel : ℕ) (span : Span) → All HasAllChannels columns → column < length columns → channel < 16
    → Covers (span_at (changed_at column (with_span channel span) columns) column channel) (Some span)
span_is_drawn columns column channel span all within known =
    let one = get_or columns column no_column in
    let long : length one.spans ≡ 16 = All-get_or HasAllChannels columns column no_column within all in
    let room : channel < length one.spans = omega (arith, long, known) in
    let was = get_or one.spans channel None in
    let is : span_at (changed_at column (with_span channel span) columns) column channel ≡ both_spans was (Some span) =
    ap (λ (c : Column). get_or c.spans channel None) (get_or-changed_at column (with_span channel span) columns no_column within)
    ∙ get_or-set_same one.spans channel (both_spans was (Some span)) None room
    in
    subst (λ (s : Option Span). Covers s (Some span)) (sym is) (covers-second was (Some span))

-- what is drawn of a channel where two columns became one
span_at-halved : (columns : List Column) (place channel : ℕ) → All HasAllChannels columns → 2 * place < length columns → channel < 16
    → span_at (halved columns) place channel ≡ both_spans (span_at columns (2 * place) channel) (span_at columns (2 * place + 1) channel)
unfolding halved pair_at
span_at-halved columns place channel all within known =
    let one = get_or columns (2 * place) no_column in
    let other = get_or columns (2 * place + 1) no_column in
    let long : length one.spans ≡ 16 = All-get_or HasAllChannels columns (2 * place) no_column within all in
    ap (λ (c : Column). get_or c.spans channel None) (get_or-map-range_with_len (pair_at columns) 0 (length columns) place place no_column (omega arith) (omega arith))
    ∙ get_or-map-range_with_len (λ k. both_spans (get_or one.spans k None) (get_or other.spans k None)) 0 (length one.spans) channel channel None
    (omega (arith, long, known)) (omega arith)

even_or_odd : (n : ℕ) → (n ≡ 2 * (n / 2)) ⊎ (n ≡ 2 * (n / 2) + 1)
even_or_odd n = by_test (nat_eq (n % 2) 0) refl
  where
    by_test : (test : Bool) → nat_eq (n % 2) 0 ≡ test → (n ≡ 2 * (n / 2)) ⊎ (n ≡ 2 * (n / 2) + 1)
    by_test true is =
        let even : n % 2 ≡ 0 = grind (arith, nat_tests) in
        inl (omega (arith, even))
    by_test false is =
        let odd : 0 < n % 2 = grind (arith, nat_tests) in
        inr (omega (arith, odd))

pub span_stays : (columns : List Column) (column channel : ℕ) → All HasAllChannels columns → column < length columns → channel < 16
    → Covers (span_at (halved columns) (column / 2) channel) (span_at columns column channel)
span_stays columns column channel all within known =
    let place = column / 2 in
    let is = span_at-halved columns place channel all (omega arith) known in
    by_half (even_or_odd column) is
  where
    by_half : (column ≡ 2 * (column / 2)) ⊎ (column ≡ 2 * (column / 2) + 1)
        → span_at (halved columns) (column / 2) channel ≡ both_spans (span_at columns (2 * (column / 2)) channel) (span_at columns (2 * (column / 2) + 1) channel)
        → Covers (span_at (halved columns) (column / 2) channel) (span_at columns column channel)
    by_half (inl even) is =
        subst (λ (whole : Option Span). Covers whole (span_at columns column channel)) (sym is)
        (subst (λ n. Covers (both_spans (span_at columns (2 * (column / 2)) channel) (span_at columns (2 * (column / 2) + 1) channel)) (span_at columns n channel)) (sym even)
        (covers-first (span_at columns (2 * (column / 2)) channel) (span_at columns (2 * (column / 2) + 1) channel)))
    by_half (inr odd) is =
        subst (λ (whole : Option Span). Covers whole (span_at columns column channel)) (sym is)
        (subst (λ n. Covers (both_spans (span_at columns (2 * (column / 2)) channel) (span_at columns (2 * (column / 2) + 1) channel)) (span_at columns n channel)) (sym odd)
        (covers-second (span_at columns (2 * (column / 2)) channel) (span_at columns (2 * (column / 2) + 1) channel)))
