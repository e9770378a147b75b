-- The first of the segments were taken.
use Rattle.std.proofs.Common.{◌≡◌, ◌++◌, List, map, length}
use Rattle.std.specs.Vec.Iter.{into_iter_items}
use Rattle.bonded_flows.specs.Table.{IsInUse}
use Rattle.uses.specs.declared.midstream.OnChannel.{OnChannel}
use Rattle.uses.specs.Midstream.{arrival, TakesAll}
use Rattle.uses.proofs.midstream.take_all.Given as goal

abbrev pub invariant-loop-one : goal.invariant-loop-one
invariant-loop-one g l =
    record {
      done : List OnChannel;
      came_are : done ++ into_iter_items l.one-iterator ≡ l.fn.came.items;
      takes : TakesAll g.O.Consumer.after g.C.HeaderCheck.accepts l.fn.flows l.fn.out (map (arrival l.fn.flow) done) l.flows l.out;
      many : length l.flows.slots.items ≡ length l.fn.flows.slots.items;
      in_use : IsInUse g.C.HeaderCheck.accepts l.flows;
    }
