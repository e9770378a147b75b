-- One segment after another is taken.
use Rattle.std.proofs.Common.{◌≡◌, ◌∷◌, [], ◌++◌, List, map, refl, ap, sym, subst, ◌∙◌, append_assoc, append-nil, arith}
use Rattle.std.specs.Vec.Iter.{into_iter_items}
use Rattle.std.proofs.lemmas.Grind.{common_steps}
use Rattle.std.proofs.lemmas.List.{map-append}
use Rattle.bonded_flows.specs.Table.{TableInput}
use Rattle.uses.specs.declared.midstream.OnChannel.{OnChannel}
use Rattle.uses.specs.Midstream.{arrival, TakesAll}
use Rattle.uses.proofs.TableTakes.{takes-nothing, takes-both}
use Rattle.uses.proofs.midstream.take_all.Goals as goal

pub loop-one-init : goal.loop-one-init
loop-one-init g c =
    record {
      done = [];
      came_are = grind (arith, common_steps);
      takes = takes-nothing g.O.Consumer.after g.C.HeaderCheck.accepts c.args.flows.now c.args.out.now;
      many = refl;
      in_use = c.requires.in_use;
    }

pub take_one-requires-clause-exists : goal.take_one-requires-clause-exists
take_one-requires-clause-exists g c = let many = c.loop-one.invariant.many in omega (arith, many, c.requires.exists)

pub loop-one-preserved : goal.loop-one-preserved
loop-one-preserved g c =
    let loop = c.loop-one in
    let inv = loop.invariant in
    let one = c.in-Some.one in
    let flow = c.args.flow in
    let step : into_iter_items loop.one-iterator ≡ one ∷ into_iter_items c.next.new.self = grind (arith, common_steps) in
    record {
      done = inv.done ++ one ∷ [];
      came_are = append_assoc inv.done (one ∷ []) (into_iter_items c.next.new.self) ∙ ap (λ rest. inv.done ++ rest) (sym step) ∙ inv.came_are;
      takes =
          subst (λ (inputs : List TableInput). TakesAll g.O.Consumer.after g.C.HeaderCheck.accepts c.args.flows.now c.args.out.now inputs c.take_one.new.flows c.take_one.new.out)
          (sym (map-append (arrival flow) inv.done (one ∷ [])))
          (takes-both g.O.Consumer.after g.C.HeaderCheck.accepts c.args.flows.now loop.flows c.take_one.new.flows c.args.out.now loop.out c.take_one.new.out
          (map (arrival flow) inv.done) (arrival flow one ∷ []) inv.takes c.in_ok-take_one.ensures.takes);
      many = c.take_one.ensures.flows ∙ inv.many;
      in_use = c.take_one.ensures.in_use;
    }

pub returns-clause-takes : goal.returns-clause-takes
returns-clause-takes g c =
    let loop = c.loop-one in
    let inv = loop.invariant in
    let none : into_iter_items loop.one-iterator ≡ [] = grind (arith, common_steps) in
    let all : inv.done ≡ c.args.came.items = sym (append-nil inv.done) ∙ ap (λ rest. inv.done ++ rest) (sym none) ∙ inv.came_are in
    subst (λ (came : List OnChannel). TakesAll g.O.Consumer.after g.C.HeaderCheck.accepts c.args.flows.now c.args.out.now (map (arrival c.args.flow) came) loop.flows loop.out) all inv.takes
