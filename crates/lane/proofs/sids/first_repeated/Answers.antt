use Rattle.std.proofs.Common.{◌≡◌, ⊎_elim, inl, inr, true, below_more, arith}
use Rattle.std.proofs.lemmas.Option.{slice_get_within, slice_get-get_or}
use Rattle.lane.specs.Limits.{channel_limit}
use Rattle.lane.proofs.SeenRows.{in-range, repeated, unrepeated, among-more}
use Rattle.lane.proofs.sids.first_repeated.Goals as goal

pub contains-requires-clause-channel : goal.contains-requires-clause-channel
contains-requires-clause-channel c =
    (in-range c.args.rows.now c.loop-k.k _ (slice_get-get_or c.args.rows.now c.loop-k.k _ c.loop-k-test.true) channel_limit c.requires.in_range).0

pub contains-requires-clause-sid : goal.contains-requires-clause-sid
contains-requires-clause-sid c =
    (in-range c.args.rows.now c.loop-k.k _ (slice_get-get_or c.args.rows.now c.loop-k.k _ c.loop-k-test.true) channel_limit c.requires.in_range).1

pub insert-requires-clause-channel : goal.insert-requires-clause-channel
insert-requires-clause-channel c =
    (in-range c.args.rows.now c.loop-k.k _ (slice_get-get_or c.args.rows.now c.loop-k.k _ c.loop-k-test.true) channel_limit c.requires.in_range).0

pub insert-requires-clause-sid : goal.insert-requires-clause-sid
insert-requires-clause-sid c =
    (in-range c.args.rows.now c.loop-k.k _ (slice_get-get_or c.args.rows.now c.loop-k.k _ c.loop-k-test.true) channel_limit c.requires.in_range).1

pub returns-then-contains : goal.returns-then-contains
returns-then-contains c = (
  repeated c.args.rows.now c.loop-k.k _ (slice_get-get_or c.args.rows.now c.loop-k.k _ c.loop-k-test.true)
      ((c.loop-k.invariant.1 _ _).0 (c.contains.ensures.0 c.if-contains.true)),
  c.loop-k.invariant.0,
)

pub loop-k-preserved : goal.loop-k-preserved
loop-k-preserved c =
    let at = slice_get-get_or c.args.rows.now c.loop-k.k (record { channel = 0; sid = 0; flow = 0 }) c.loop-k-test.true in (
      below_more _ _ c.loop-k.invariant.0
          (unrepeated c.args.rows.now c.loop-k.k _ at (λ among. let found : c.contains.result ≡ true = c.contains.ensures.1 ((c.loop-k.invariant.1 _ _).1 among) in cc)),
      λ channel sid. (
        λ seen. (among-more c.args.rows.now c.loop-k.k _ at channel sid).1
            (⊎_elim (λ was. inl ((c.loop-k.invariant.1 channel sid).0 was)) (λ is. inr is) ((c.insert.ensures.inserted channel sid).0 seen)),
        λ among. (c.insert.ensures.inserted channel sid).1
            (⊎_elim (λ was. inl ((c.loop-k.invariant.1 channel sid).1 was)) (λ is. inr is) ((among-more c.args.rows.now c.loop-k.k _ at channel sid).0 among)),
      ),
    )

pub returns : goal.returns
returns c k bad =
    let below = slice_get_within c.args.rows.now k bad.2 bad.4 in
    c.loop-k.invariant.0 k (omega arith) bad

pub loop-k-init : goal.loop-k-init
loop-k-init c = (λ j below. absurd (omega arith), λ channel sid. (λ seen. absurd (c.new-seen.ensures channel sid seen), λ among. let none = among.1 in absurd (omega arith)))
