-- Each gap so far has declared a segment lost, and the frames that came after it were given.
use Rattle.std.proofs.Common.{◌≡◌, ℕ, List}
use Rattle.bonded_flows.specs.Stands.{IsUpToDate}
use Rattle.bonded_flows.specs.Taking.{WasGiven}
use Rattle.bonded_flows.proofs.GapsTaken.{LosesGaps}
use Rattle.bonded_flows.proofs.bonded_flow.BondedFlow.close.Given as goal

abbrev pub invariant-loop-closed : goal.invariant-loop-closed
invariant-loop-closed g l =
    record {
      up_to_date : IsUpToDate l.self;
      pending : l.self.pending ≡ l.fn.self.pending;
      index : l.self.index ≡ l.fn.self.index;
      more : List (List ℕ);
      was_given : WasGiven g.O.Consumer.after l.fn.self.index l.fn.out more l.out;
      gaps : LosesGaps (g.C.HeaderCheck.accepts l.fn.check) l.fn.self l._closed more l.self;
    }
