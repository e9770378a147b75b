-- The elements of an extended header.
use Rattle.std.specs.Prelude.{◌≡◌, ℕ, zero, suc, ◌+◌, ◌*◌, ◌/◌, ◌%◌, ◌<◌, nat_le, List, [], ◌∷◌, ◌++◌, length, take, drop, flat_map, Option, Some, None, if◌then◌else◌}
use Rattle.std.specs.List.{AllByRecursion}

-- an element: its type and its value
pub record Element : Type 0 where
  pub kind : ℕ
  pub value : List ℕ

-- type and length are the two halves of its first byte
abbrev pub element_bytes : Element → List ℕ
element_bytes element = (16 * element.kind + length element.value) ∷ element.value

abbrev pub IsElement : Element → Type 0
IsElement element = length element.value < 16

-- bytes that end before the element at their front does, if they have one
abbrev pub Overruns : List ℕ → Type 0
Overruns [] = Unit {0}
Overruns (head ∷ others) = length others < head % 16

-- **The bytes are these elements, end to end, up to one that overruns them**
pub record HasElements (bytes : List ℕ) (elements : List Element) : Type 0 where
  pub rest : List ℕ
  pub spelled : bytes ≡ flat_map element_bytes elements ++ rest
  pub each : AllByRecursion IsElement elements
  pub overrun : Overruns rest

-- the element at the front and what follows it, unless it overruns the bytes
abbrev pub front_element : List ℕ → Option (Element × List ℕ)
front_element [] = None
front_element (head ∷ others) =
    if nat_le (head % 16) (length others) then Some (record { kind = head / 16; value = take (head % 16) others }, drop (head % 16) others) else None

abbrev pub then_elements : (List ℕ → List Element) → Option (Element × List ℕ) → List Element
then_elements more None = []
then_elements more (Some front) = front.0 ∷ more front.1

-- the elements, where there are at most so many; there are no more than bytes
abbrev pub elements_within : ℕ → List ℕ → List Element
elements_within zero bytes = []
elements_within (suc most) bytes = then_elements (elements_within most) (front_element bytes)

abbrev pub elements_of : List ℕ → List Element
elements_of bytes = elements_within (length bytes) bytes
