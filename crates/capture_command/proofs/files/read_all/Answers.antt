-- All bytes of the reader were read.
use Rattle.std.proofs.Common.{◌≡◌, ◌++◌, [], is_ok, if◌then◌else◌, refl, sym, ap, subst, ◌∙◌, rules, take, length, append-nil}
use Rattle.std.specs.Io.KnownBytes.{Consumes}
use Rattle.std.proofs.KnownBytes.{Consumes-trans, Consumes-whole}
use Rattle.engines.specs.Device.{inner_of}
use Rattle.engines.proofs.ReadLines.{of_room}
use Rattle.capture_command.proofs.files.read_all.Goals as goal

pub returns-then-count-eq0 : goal.returns-then-count-eq0
returns-then-count-eq0 g c =
    let old = g.R.Read.remaining (inner_of c.args.reader.now) in
    let before = g.R.Read.remaining (inner_of c.loop.reader) in
    let new = g.R.Read.remaining (inner_of c.read_some.new.reader) in
    let none : c.in-Ok.count ≡ 0 = search rules in
    let read = subst (λ n. Consumes before new (take n c.read_some.new.room)) none c.in-Ok.ensures.taken in
    let whole = subst (λ bytes. Consumes old new bytes) (append-nil c.loop.text.items) (Consumes-trans old before new c.loop.text.items [] c.loop.invariant read) in
    Consumes-whole old new c.loop.text.items (λ bytes. bytes ≡ c.loop.text.items) whole (c.in-Ok.ensures.end none) refl

pub loop-preserved : goal.loop-preserved
loop-preserved g c =
    let old = g.R.Read.remaining (inner_of c.args.reader.now) in
    let before = g.R.Read.remaining (inner_of c.loop.reader) in
    let new = g.R.Read.remaining (inner_of c.read_some.new.reader) in
    let front = c.read_some.new.room in
    let piece = take c.in-Ok.count front in
    let long : length front ≡ c.loop.piece.len = search rules in
    let front_is = of_room c.in-Ok.count c.loop.piece.len front _ c.in-Ok.ensures.within long in
    let slice_is : take c.in-Ok.count c.deref.result.now ≡ piece = ap (take c.in-Ok.count) c.deref.ensures.value ∙ front_is in
    let grown =
    c.extend_from_slice.ensures.items
    ∙ ap (λ r. if is_ok r then c.loop.text.items ++ take c.in-Ok.count c.deref.result.now else c.loop.text.items) c.in_ok-extend_from_slice.was
    ∙ ap (λ bytes. c.loop.text.items ++ bytes) slice_is
    in
    subst (λ bytes. Consumes old new bytes) (sym grown) (Consumes-trans old before new c.loop.text.items piece c.loop.invariant c.in-Ok.ensures.taken)
