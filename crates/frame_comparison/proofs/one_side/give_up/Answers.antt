use Rattle.std.proofs.Common.{◌≡◌, ◌++◌, ◌∷◌, [], ℕ, List, get_or, drop, ap, sym, ◌∙◌, refl}
use Rattle.std.proofs.lemmas.List.{drop-drop}
use Rattle.frame_comparison.specs.Frames.{CameFrame, ShownFrame, shown_of}
use Rattle.frame_comparison.specs.Seen.{listed}
use Rattle.frame_comparison.proofs.Listing.{listed-none, listed-more, front-read}
use Rattle.frame_comparison.proofs.one_side.give_up.Goals as goal

pub loop-init : goal.loop-init
loop-init c = (refl, listed-none c.args.only.now.frames.items c.args.only.now.few)

pub loop-preserved : goal.loop-preserved
loop-preserved c =
    let waited : List CameFrame = c.args.waiting.now.items in
    let only : List ShownFrame = c.args.only.now.frames.items in
    let flow : ℕ = c.args.flow in
    let k : ℕ = c.loop.counter in
    let frame : CameFrame = c.in-Some.frame in
    let read = front-read k waited frame c.pop_front.new.self.items (sym c.loop.invariant.0 ∙ c.in-Some.ensures.items) in
    let told : c.into_lonely.result ≡ shown_of flow (get_or waited k frame) = c.into_lonely.ensures ∙ ap (shown_of flow) (sym read.1) in (
      c.pop_front.ensures.rest ∙ (ap (drop 1) c.loop.invariant.0 ∙ drop-drop 1 k waited),
      c.list.ensures ∙ (ap (λ (one : ShownFrame). listed (c.loop.only.frames.items ++ one ∷ [])) told
          ∙ (ap (λ (all : List ShownFrame). listed (all ++ shown_of flow (get_or waited k frame) ∷ [])) c.loop.invariant.1
          ∙ listed-more flow only waited k frame read.0)),
    )
