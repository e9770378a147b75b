-- What is appended to unfinished bytes, and what room there is for them.
use Rattle.std.specs.Prelude.{◌≡◌, ℕ, Bool, List, [], ◌++◌, vec_capacity}
use Rattle.std.specs.Global.{Vec}
use Rattle.docsis_wire.specs.declared.frame.HeadRead.{HeadRead}
use Rattle.docsis_wire.specs.declared.frame.HeadRead.TheVariants.{Short, Fill, Bad, Head}
use Rattle.ccf.specs.Walk.{Ends}

-- how many bytes a head announces, if it announces a frame
abbrev pub announced_by : HeadRead → ℕ
announced_by Short = 0
announced_by Fill = 0
announced_by (Bad fault) = 0
announced_by (Head ehdr total) = total

-- a front of the bytes that come next was appended, and these are left
pub record Appends (before next after left : List ℕ) : Type 0 where
  pub front : List ℕ
  pub appended : after ≡ before ++ front
  pub split : next ≡ front ++ left

-- Whatever the check, these bytes don't wait for more: they reach to the end of the frame that they
-- announce, or they announce none.
abbrev pub EndsFrame : List ℕ → Type 0
EndsFrame bytes = (check : List ℕ → Bool) → ¬ (Ends check bytes bytes)

-- where there are no bytes there is no room for any
abbrev pub FreesAll : Vec ℕ → Type 0
FreesAll bytes = bytes.items ≡ [] → vec_capacity bytes ≡ 0
