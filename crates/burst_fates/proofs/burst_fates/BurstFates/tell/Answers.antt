use Rattle.std.proofs.Common.{◌≡◌, ℕ, List, [], ◌∷◌, ◌++◌, ap, ◌∙◌}
use Rattle.circular_buffer.specs.Buffer.{Buffer, keep_last}
use Rattle.burst_fates.specs.Room.{most_told}
use Rattle.burst_fates.specs.declared.burst_fate.ToldFate.{ToldFate}
use Rattle.burst_fates.proofs.Known.{keep-more}
use Rattle.burst_fates.proofs.burst_fates.BurstFates.tell.Goals as goal

pub returns : goal.returns
returns c =
    λ told is.
    let old = c.args.self.now in
    let one : ToldFate = record { id = c.args.id; fate = c.args.fate } in
    ap (λ (all : Buffer ToldFate). all.items) c.push_back.ensures.items
    ∙ ap (λ (n : ℕ). keep_last n (old.told.items ++ one ∷ [])) old.room
    ∙ ap (λ (items : List ToldFate). keep_last most_told (items ++ one ∷ [])) is
    ∙ keep-more most_told told one
