-- It is what the worker of the channel's source noted.
use Rattle.std.proofs.Common.{◌≡◌, ℕ, ◌<◌, ◌%◌, Some, List, [], map, length, get_or, slice_get, slice_index_or, refl, sym, ap, ◌∙◌, arith}
use Rattle.std.proofs.lemmas.Bool.Decides.{nat_tests}
use Rattle.std.proofs.lemmas.Option.{slice_get-get_or}
use Rattle.receiver.specs.declared.tally.LaneTally.{LaneTally}
use Rattle.workers.specs.declared.lane_notes.SourceNotes.{SourceNotes}
use Rattle.uplink.specs.declared.finish.FourNotes.{FourNotes}
use Rattle.uplink.specs.Inside.Running.{in_order, notes_on}
use Rattle.uplink.proofs.receiving.tally_on.Goals as goal

-- what stands at a channel of its source's notes
on-source : (all : FourNotes LaneTally) (source channel place : ℕ) (one : LaneTally) (items : List LaneTally) → channel % 4 ≡ source
    → slice_index_or (map (λ (notes : SourceNotes LaneTally). notes.lanes.items) (in_order all)) source [] ≡ items → place ≡ channel → place < length items
    → one ≡ get_or items place one → notes_on all channel ≡ Some one
on-source all source channel place one items is lists same within value =
    ap (λ k. slice_get (slice_index_or (map (λ (notes : SourceNotes LaneTally). notes.lanes.items) (in_order all)) k []) channel) is
    ∙ ap (λ l. slice_get l channel) lists
    ∙ slice_get-get_or items channel one (omega (arith, same, within))
    ∙ ap Some (sym (value ∙ ap (λ k. get_or items k one) same))

pub index-requires : goal.index-requires
index-requires c =
    let notes = c.args.notes.now.n0 in
    let long = c.requires.2 0 notes refl in
    omega (arith, c.from-place.ensures, c.requires.1, long, notes.lanes.ok.0)

pub returns-in-0 : goal.returns-in-0
returns-in-0 c =
    let notes = c.args.notes.now.n0 in
    let long = c.requires.2 0 notes refl in
    on-source c.args.notes.now 0 c.args.channel c.from-place.result c.index.result.now notes.lanes.items (omega (arith, c.in-0.is))
    refl c.from-place.ensures (omega (arith, c.from-place.ensures, c.requires.1, long)) c.index.ensures

pub index-requires-in-1 : goal.index-requires-in-1
index-requires-in-1 c =
    let notes = c.args.notes.now.n1 in
    let long = c.requires.2 1 notes refl in
    omega (arith, c.from-place.ensures, c.requires.1, long, notes.lanes.ok.0)

pub returns-in-1 : goal.returns-in-1
returns-in-1 c =
    let notes = c.args.notes.now.n1 in
    let long = c.requires.2 1 notes refl in
    on-source c.args.notes.now 1 c.args.channel c.from-place.result c.index-in-1.result.now notes.lanes.items (omega (arith, c.in-1.is))
    refl c.from-place.ensures (omega (arith, c.from-place.ensures, c.requires.1, long)) c.index-in-1.ensures

pub index-requires-in-2 : goal.index-requires-in-2
index-requires-in-2 c =
    let notes = c.args.notes.now.n2 in
    let long = c.requires.2 2 notes refl in
    omega (arith, c.from-place.ensures, c.requires.1, long, notes.lanes.ok.0)

pub returns-in-2 : goal.returns-in-2
returns-in-2 c =
    let notes = c.args.notes.now.n2 in
    let long = c.requires.2 2 notes refl in
    on-source c.args.notes.now 2 c.args.channel c.from-place.result c.index-in-2.result.now notes.lanes.items (omega (arith, c.in-2.is))
    refl c.from-place.ensures (omega (arith, c.from-place.ensures, c.requires.1, long)) c.index-in-2.ensures

pub index-requires-in_default : goal.index-requires-in_default
index-requires-in_default c =
    let notes = c.args.notes.now.n3 in
    let long = c.requires.2 3 notes refl in
    omega (arith, c.from-place.ensures, c.requires.1, long, notes.lanes.ok.0)

pub returns-in_default : goal.returns-in_default
returns-in_default c =
    let notes = c.args.notes.now.n3 in
    let long = c.requires.2 3 notes refl in
    on-source c.args.notes.now 3 c.args.channel c.from-place.result c.index-in_default.result.now notes.lanes.items (grind (arith, nat_tests, c.in_default))
    refl c.from-place.ensures (omega (arith, c.from-place.ensures, c.requires.1, long)) c.index-in_default.ensures
