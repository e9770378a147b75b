-- What may be handed in in the place of a burst that a line says, where some flows are selected.
use Rattle.std.specs.Prelude.{◌≡◌, ◌⊎◌, ℕ, Bool, false, Option, Some, None, List, IfSome}
use Rattle.lane.specs.declared.input.Input.{Input}
use Rattle.receiver.specs.declared.width.Width.{Width}
use Rattle.receiver.specs.Elsewhere.{LooksLike}
use Rattle.texts.specs.declared.trace.trace_line.TraceLine.TheVariants as line
use Rattle.texts.specs.Trace.Line.{shape_of, Carries}

module _ {P : Type 0} (would_come : P → ℕ → Input → Option ℕ → Type 0) (selected : ℕ → Bool) where
  -- What takes the entries, if something does yet, says that this input, if it came on this channel
  -- now, would come to no selected flow.
  abbrev pub IsForAnother : Option P → ℕ → Input → Type 0
  IsForAnother None channel input = ⊥
  IsForAnother (Some taker) channel input = (flow : Option ℕ) × would_come taker channel input flow × IfSome flow (λ k. selected k ≡ false)

  -- **An input may stand in for the one that came** on this channel: it is that one, or it looks
  -- like it, and would come to no selected flow.
  abbrev pub MayStandFor : Option P → ℕ → Input → Input → Type 0
  MayStandFor taker channel came input = (input ≡ came) ⊎ (LooksLike input came × IsForAnother taker channel input)

  -- this may be handed in, on this channel, in the place of what a line with these fields says that
  -- came
  pub record StandsInForLine (width : Width) (taker : Option P) (fields : List (List ℕ)) (channel : ℕ) (input : Input) : Type 0 where
    pub came : Input
    pub carries : (ring : ℕ) → Carries (shape_of width ring) fields (line.Input channel came)
    pub may : MayStandFor taker channel came input
