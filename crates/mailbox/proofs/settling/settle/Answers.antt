use Rattle.std.proofs.Common.{◌≤◌, ap, inl, inr, arith, refl}
use Rattle.crossbeam_queue.specs.Passes.{view}
use Rattle.mailbox.specs.Entries.{own}
use Rattle.mailbox.specs.Mouths.{ends_taken}
use Rattle.mailbox.proofs.PassJoining.{step, leaves, ends_at_most_once, of_each, each_of}
use Rattle.mailbox.proofs.settling.settle.Goals as goal

pub returns : goal.returns
returns g c =
    let p = c.args.ports in
    let at = each_of c.requires in
    let one = step _ _ _ _ _ _ _ 0 _ c.join.ensures.joined c.args.mouth.knows p.p0.knows (ap (λ a. a.1) at.0) in
    let two = step _ _ _ _ _ _ _ 1 _ c.join-2.ensures.joined one p.p1.knows (ap (λ a. a.1) at.1) in
    let three = step _ _ _ _ _ _ _ 2 _ c.join-3.ensures.joined two p.p2.knows (ap (λ a. a.1) at.2) in
    let four = step _ _ _ _ _ _ _ 3 _ c.join-4.ensures.joined three p.p3.knows (ap (λ a. a.1) at.3) in
    let five = step _ _ _ _ _ _ _ 4 _ c.join-5.ensures.joined four p.p4.knows (ap (λ a. a.1) at.4) in
    let counts = c.count_left.ensures in
    record {
      p0 = leaves _ _ _ _ _ five counts 0 (own (view p.p0.pass)) (omega arith) (inl refl) p.p0.closed;
      p1 = leaves _ _ _ _ _ five counts 1 (own (view p.p1.pass)) (omega arith) (inr (inl refl)) p.p1.closed;
      p2 = leaves _ _ _ _ _ five counts 2 (own (view p.p2.pass)) (omega arith) (inr (inr (inl refl))) p.p2.closed;
      p3 = leaves _ _ _ _ _ five counts 3 (own (view p.p3.pass)) (omega arith) (inr (inr (inr (inl refl)))) p.p3.closed;
      p4 = leaves _ _ _ _ _ five counts 4 (own (view p.p4.pass)) (omega arith) (inr (inr (inr (inr (inl refl))))) p.p4.closed;
      once = of_each (λ k. ends_taken c.args.mouth k ≤ 1)
          (ends_at_most_once _ _ _ _ _ five counts 0 (own (view p.p0.pass)) (inl refl) p.p0.closed)
          (ends_at_most_once _ _ _ _ _ five counts 1 (own (view p.p1.pass)) (inr (inl refl)) p.p1.closed)
          (ends_at_most_once _ _ _ _ _ five counts 2 (own (view p.p2.pass)) (inr (inr (inl refl))) p.p2.closed)
          (ends_at_most_once _ _ _ _ _ five counts 3 (own (view p.p3.pass)) (inr (inr (inr (inl refl)))) p.p3.closed)
          (ends_at_most_once _ _ _ _ _ five counts 4 (own (view p.p4.pass)) (inr (inr (inr (inr (inl refl))))) p.p4.closed);
    }
