-- What is left of lines where some flows are selected.
use Rattle.std.proofs.Common.{◌≡◌, ℕ, true, false, Option, Some, None, List, [], ◌∷◌, ◌++◌, refl, ap, ◌∙◌}
use Rattle.std.specs.Prelude.{map, flat_map}
use Rattle.std.proofs.lemmas.Grind.{flat_map-append}
use Rattle.std.proofs.lemmas.List.Elements.{filter-append}
use Rattle.flow_selection.specs.declared.selection.Selection.{Selection}
use Rattle.flow_selection.specs.declared.selection.Selection.TheVariants.{All}
use Rattle.flow_selection.specs.Selection.{is_selected}
use Rattle.flow_selection.specs.Lines.{FlowLine, line_of_flow, line_of_none, text_of_lines, is_left, lines_left, text_left}

pub text_left-append : (selected : Selection) (lines others : List FlowLine) → text_left selected (lines ++ others) ≡ text_left selected lines ++ text_left selected others
text_left-append selected lines others =
    ap text_of_lines (filter-append (λ line. is_left selected line.flow) lines others)
    ∙ flat_map-append (λ line. line.text) (lines_left selected lines) (lines_left selected others)

-- of the lines of many things it is what is left of those of each
pub text_left-each : {T : Type 0} (selected : Selection) (lines : T → List FlowLine) (items : List T)
    → text_left selected (flat_map lines items) ≡ flat_map (λ item. text_left selected (lines item)) items
text_left-each selected lines [] = refl
text_left-each selected lines (item ∷ items) =
    text_left-append selected (lines item) (flat_map lines items) ∙ ap (λ more. text_left selected (lines item) ++ more) (text_left-each selected lines items)

-- two texts of each thing are the same text of all
pub flat_map-same : {T : Type 0} (text other : T → List ℕ) → ((item : T) → text item ≡ other item) → (items : List T) → flat_map text items ≡ flat_map other items
flat_map-same text other same [] = refl
flat_map-same text other same (item ∷ items) =
    ap (λ first. first ++ flat_map text items) (same item) ∙ ap (λ more. other item ++ more) (flat_map-same text other same items)

-- lines of no flow are left
pub text_left-none : {T : Type 0} (selected : Selection) (text : T → List ℕ) (items : List T)
    → text_left selected (map (λ item. line_of_none (text item)) items) ≡ flat_map text items
text_left-none selected text [] = refl
text_left-none selected text (item ∷ items) = ap (λ more. text item ++ more) (text_left-none selected text items)

-- lines of a flow that is selected are, and those of another aren't
pub text_left-selected : {T : Type 0} (selected : Selection) (k : ℕ) → is_selected selected k ≡ true → (text : T → List ℕ) (items : List T)
    → text_left selected (map (λ item. line_of_flow k (text item)) items) ≡ flat_map text items
text_left-selected selected k is text [] = refl
text_left-selected selected k is text (item ∷ items) = rw is (ap (λ more. text item ++ more) (text_left-selected selected k is text items))

pub text_left-other : {T : Type 0} (selected : Selection) (k : ℕ) → is_selected selected k ≡ false → (text : T → List ℕ) (items : List T)
    → text_left selected (map (λ item. line_of_flow k (text item)) items) ≡ []
text_left-other selected k is text [] = refl
text_left-other selected k is text (item ∷ items) = rw is (text_left-other selected k is text items)

-- a line is left where all flows are selected
left_all-first : (flow : Option ℕ) (line : FlowLine) (lines : List FlowLine) → line.flow ≡ flow → text_left All lines ≡ text_of_lines lines
    → text_left All (line ∷ lines) ≡ text_of_lines (line ∷ lines)
left_all-first None line lines is more = rw is (ap (λ rest. line.text ++ rest) more)
left_all-first (Some k) line lines is more = rw is (ap (λ rest. line.text ++ rest) more)

-- so all lines are
pub text_left-all : (lines : List FlowLine) → text_left All lines ≡ text_of_lines lines
text_left-all [] = refl
text_left-all (line ∷ lines) = left_all-first line.flow line lines refl (text_left-all lines)
