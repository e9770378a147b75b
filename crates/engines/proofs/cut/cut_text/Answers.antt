use Rattle.std.proofs.Common.{◌≡◌, List, ℕ, sym, subst}
use Rattle.std.proofs.lemmas.Result.{err_from_is_err_and}
use Rattle.docsis_wire.specs.declared.pieces.FillByte.{FillByte}
use Rattle.docsis_wire.specs.declared.pieces.Piece.{Piece}
use Rattle.docsis_wire.specs.CutUnderWay.{CutUnderWay}
use Rattle.text_lines.specs.Format.{IsRead}
use Rattle.text_lines.specs.Lines.{lines_of}
use Rattle.texts.specs.Cut.{IsCutInto, IsCutText, IsCutFault, IsPrinted}
use Rattle.texts.specs.Cut.Line.{nothing, cut_format}
use Rattle.texts.proofs.CutOfLines.{cut_text, cut_fault}
use Rattle.engines.proofs.EngineRan.{ran-unread, ran-faulty, ran-written, ran-failed}
use Rattle.engines.proofs.CutText.{carries_nothing, read_cut, lines_fault}
use Rattle.engines.proofs.cut.cut_text.Goals as goal

pub returns-in_err-read : goal.returns-in_err-read
returns-in_err-read g c =
    let p = err_from_is_err_and c.from_residual.result c.from_residual.ensures.1 in
    let fresh = carries_nothing c.new.result.frames.items c.new.result.pieces.items c.new.ensures.frames c.new.ensures.pieces in
    rw (p.1, p.2) (ran-unread g.R.Read.remaining g.W.Write.contents (IsCutText c.args.first c.args.fill) IsCutFault cut_format nothing lines_fault c.args.reader.now
    c.read_lines.new.reader c.args.writer.now c.in_err-read.field-0.0 (c.in_err-read.ensures.cause nothing fresh) c.in_err-read.ensures.read_first)

pub returns-in_err-cutter : goal.returns-in_err-cutter
returns-in_err-cutter g c =
    let p = err_from_is_err_and c.from_residual-in_err-cutter.result c.from_residual-in_err-cutter.ensures.1 in
    let fresh = carries_nothing c.new.result.frames.items c.new.result.pieces.items c.new.ensures.frames c.new.ensures.pieces in
    let read = c.in_ok-read.ensures.read nothing fresh in
    let faulty = cut_fault read.input c.in_ok-read.read.frames.items c.in_ok-read.read.pieces.items (read_cut _ c.in_ok-read.read read) c.in_err-cutter.field-0.0
    c.in_err-cutter.ensures.fault in
    rw (p.1, p.2) (ran-faulty g.R.Read.remaining g.W.Write.contents (IsCutText c.args.first c.args.fill) IsCutFault c.args.reader.now c.read_lines.new.reader c.args.writer.now
    read.input read.is c.in_ok-read.ensures.to_end c.in_err-cutter.field-0.0 faulty)

-- the text that was written is that of the cut
cut_of : (first : ℕ) (fill : FillByte) (input : List ℕ) (frames : List (List ℕ)) (pieces : List Piece) (cut : CutUnderWay) (text : List ℕ)
    → IsRead cut_format nothing (lines_of input) (record { frames = frames; pieces = pieces })
    → cut ≡ record { frames = frames; pieces = pieces; first = first; fill = fill; made = 0 } → IsPrinted cut text → IsCutText first fill input text
cut_of first fill input frames pieces cut text read begins printed =
    let into = subst (λ (one : CutUnderWay). IsCutInto one.first one.fill one.frames one.pieces printed.segments) begins printed.made in
    subst (IsCutText first fill input) (sym printed.printed) (cut_text input frames pieces read first fill printed.segments into)

pub returns-in_err-write_segments : goal.returns-in_err-write_segments
returns-in_err-write_segments g c =
    let p = err_from_is_err_and c.from_residual-in_err-write_segments.result c.from_residual-in_err-write_segments.ensures.1 in
    let fresh = carries_nothing c.new.result.frames.items c.new.result.pieces.items c.new.ensures.frames c.new.ensures.pieces in
    let read = c.in_ok-read.ensures.read nothing fresh in
    let written = c.write_segments.ensures in
    let stands =
    cut_of c.args.first c.args.fill read.input c.in_ok-read.read.frames.items c.in_ok-read.read.pieces.items c.in_ok-cutter.cutter written.0 (read_cut _ c.in_ok-read.read read)
    c.in_ok-cutter.ensures.begins written.1
    in
    rw (p.1, p.2) (ran-failed g.R.Read.remaining g.W.Write.contents (IsCutText c.args.first c.args.fill) IsCutFault c.args.reader.now c.read_lines.new.reader c.args.writer.now
    c.write_segments.new.writer read.input written.0 read.is stands c.in_ok-read.ensures.to_end c.in_err-write_segments.field-0.0
    (rw c.in_err-write_segments.was at written.2))

pub returns : goal.returns
returns g c =
    let fresh = carries_nothing c.new.result.frames.items c.new.result.pieces.items c.new.ensures.frames c.new.ensures.pieces in
    let read = c.in_ok-read.ensures.read nothing fresh in
    let written = c.write_segments.ensures in
    let stands =
    cut_of c.args.first c.args.fill read.input c.in_ok-read.read.frames.items c.in_ok-read.read.pieces.items c.in_ok-cutter.cutter written.0 (read_cut _ c.in_ok-read.read read)
    c.in_ok-cutter.ensures.begins written.1
    in
    ran-written g.R.Read.remaining g.W.Write.contents (IsCutText c.args.first c.args.fill) IsCutFault c.args.reader.now c.read_lines.new.reader c.args.writer.now
    c.write_segments.new.writer read.input written.0 read.is stands c.in_ok-read.ensures.to_end c.in_ok-write_segments.field-0 c.requires.writer.0
    (rw c.in_ok-write_segments.was at written.2)
