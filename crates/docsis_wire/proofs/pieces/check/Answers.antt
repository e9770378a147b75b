-- Each frame is judged by itself, and then the pieces.
use Rattle.std.proofs.Common.{◌≡◌, ℕ, ◌<◌, ◌≤◌, Some, List, Result, Ok, Err, OnOk, IfErr, Bool, length, slice_get, sym, ap, ◌∙◌, subst, inl, inr, arith}
use Rattle.std.specs.List.{AllByRecursion}
use Rattle.std.proofs.lemmas.Bool.{false≢true, cases_lt}
use Rattle.std.proofs.lemmas.Option.{same_Some}
use Rattle.docsis_wire.specs.declared.pieces.CutFault.{CutFault}
use Rattle.docsis_wire.specs.declared.pieces.Piece.{Piece}
use Rattle.docsis_wire.specs.Frame.{IsFrame}
use Rattle.docsis_wire.specs.Pieces.{IsUnlawful, IsCuttable, Reports}
use Rattle.docsis_wire.proofs.Cursors.{frame_found}
use Rattle.docsis_wire.proofs.StreamPlaces.{each_generic}
use Rattle.docsis_wire.proofs.Stretches.{AllByRecursion-from}
use Rattle.docsis_wire.proofs.pieces.check.Goals as goal

-- frames each of which was looked at are all frames
all_frames : (check : List ℕ → Bool) (frames : List (List ℕ)) (n : ℕ) → length frames ≤ n → ((i : ℕ) (frame : List ℕ) → i < n → slice_get frames i ≡ Some frame → IsFrame check frame)
    → AllByRecursion (IsFrame check) frames
all_frames check frames n all each = AllByRecursion-from (IsFrame check) frames (λ k x within e. each k x (omega arith) e)

-- pieces without a fault and frames make a cut
cuttable_from : (check : List ℕ → Bool) (frames : List (List ℕ)) (pieces : List Piece) (result : Result (Unit {0}) CutFault) → AllByRecursion (IsFrame check) frames
    → OnOk result ((k : ℕ) → ¬ IsUnlawful frames pieces k) → OnOk result (IsCuttable check frames pieces)
cuttable_from check frames pieces (Ok x) each lawful = record { each = each; lawful = lawful }
cuttable_from check frames pieces (Err e) each lawful = tt

-- a fault of the pieces is one where the frames are frames
faults_from : (check : List ℕ → Bool) (frames : List (List ℕ)) (pieces : List Piece) (result : Result (Unit {0}) CutFault) → AllByRecursion (IsFrame check) frames
    → IfErr result (λ fault. (check : List ℕ → Bool) → AllByRecursion (IsFrame check) frames → Reports check frames pieces fault) → IfErr result (Reports check frames pieces)
faults_from check frames pieces (Ok x) each faults = tt
faults_from check frames pieces (Err e) each faults = faults check each

pub loop-k-preserved : goal.loop-k-preserved
loop-k-preserved g c i frame below e =
    elim (cases_lt i c.loop-k.k) [
      | inl earlier ↦ c.loop-k.invariant i frame earlier e
      | inr here ↦
          let same : c.loop-k.k ≡ i = omega (arith, below, here) in
          let found = frame_found c.args.frames.now c.loop-k.k c.index-frames-k.result c.as_slice.result.now c.loop-k-test.true c.index-frames-k.is c.as_slice.ensures in
          let is : c.as_slice.result.now ≡ frame = same_Some _ _ (sym found ∙ ap (slice_get c.args.frames.now) same ∙ e) in
          subst (IsFrame (g.C.HeaderCheck.accepts c.args.header_check.now)) is (c.well_formed-in-loop-k.ensures.0 c.if-not-well_formed.false)
    ]

pub check_pieces-requires : goal.check_pieces-requires
check_pieces-requires g c =
    let check = g.C.HeaderCheck.accepts c.args.header_check.now in
    each_generic check c.args.frames.now (all_frames check c.args.frames.now c.loop-k.k (omega arith) c.loop-k.invariant)

pub returns-then-not-well_formed-clause-faults : goal.returns-then-not-well_formed-clause-faults
returns-then-not-well_formed-clause-faults g c = record {
  frame = c.as_slice.result.now;
  frame_is = frame_found c.args.frames.now c.loop-k.k c.index-frames-k.result c.as_slice.result.now c.loop-k-test.true c.index-frames-k.is c.as_slice.ensures;
  bad = λ is_frame. false≢true (sym c.if-not-well_formed.true ∙ c.well_formed-in-loop-k.ensures.1 is_frame);
  earlier = c.loop-k.invariant;
}

pub returns-clause-cuttable : goal.returns-clause-cuttable
returns-clause-cuttable g c =
    let check = g.C.HeaderCheck.accepts c.args.header_check.now in
    cuttable_from check c.args.frames.now c.args.pieces.now c.check_pieces.result (all_frames check c.args.frames.now c.loop-k.k (omega arith) c.loop-k.invariant) c.check_pieces.ensures.cuttable

pub returns-clause-faults : goal.returns-clause-faults
returns-clause-faults g c =
    let check = g.C.HeaderCheck.accepts c.args.header_check.now in
    faults_from check c.args.frames.now c.args.pieces.now c.check_pieces.result (all_frames check c.args.frames.now c.loop-k.k (omega arith) c.loop-k.invariant) c.check_pieces.ensures.faults
