-- What the consumers of a running receiver were given, and what its sources gave.
use Rattle.std.specs.Prelude.{List, ◌++◌}

module _ {O X : Type 0} (after : O → List X → O → Type 0) where
  -- Whatever a consumer was given before, or a source gave, it became that one by this list
  -- besides, in order.
  abbrev pub BecameBy : O → List X → O → Type 0
  BecameBy old given new = (start : O) (earlier : List X) → after start earlier old → after start (earlier ++ given) new

  -- by giving this list, in order, a source became one that is over
  pub record Yields (is_over : O → Type 0) (source : O) (given : List X) : Type 0 where
    pub end : O
    pub became : BecameBy source given end
    pub over : is_over end

  -- this list is what a source gave first, in order
  pub record HasGivenFirst (source : O) (given : List X) : Type 0 where
    pub more : List X
    pub end : O
    pub became : BecameBy source (given ++ more) end
