-- An identifier that the table has already stands in an earlier row.
use Rattle.std.proofs.Common.{◌≡◌, ⊎_elim, inl, inr, true, below_more, ◌∙◌, arith}
use Rattle.std.proofs.lemmas.Option.{slice_get_within, slice_get-get_or}
use Rattle.lane.proofs.SeenRows.{in-range, repeated, unrepeated, among-more}
use Rattle.lane.proofs.sids.first_repeated_of_many.Goals as goal

pub contains-requires : goal.contains-requires
contains-requires c =
    let fits = in-range c.args.rows.now c.loop-k.k _ (slice_get-get_or c.args.rows.now c.loop-k.k (record { channel = 0; sid = 0; flow = 0 }) c.loop-k-test.true) c.args.channels c.requires.in_range in
    let same = c.loop-k.invariant.channels in
    let below = fits.0 in
    record { channel = omega arith; sid = fits.1 }

pub insert-requires : goal.insert-requires
insert-requires c =
    let fits = in-range c.args.rows.now c.loop-k.k _ (slice_get-get_or c.args.rows.now c.loop-k.k (record { channel = 0; sid = 0; flow = 0 }) c.loop-k-test.true) c.args.channels c.requires.in_range in
    let same = c.loop-k.invariant.channels in
    let below = fits.0 in
    record { channel = omega arith; sid = fits.1 }

pub returns-then-contains : goal.returns-then-contains
returns-then-contains c =
    let at = slice_get-get_or c.args.rows.now c.loop-k.k (record { channel = 0; sid = 0; flow = 0 }) c.loop-k-test.true in
    let fits = in-range c.args.rows.now c.loop-k.k _ at c.args.channels c.requires.in_range in (
      repeated c.args.rows.now c.loop-k.k _ at ((c.loop-k.invariant.marked _ _ fits.1).0 (c.contains.ensures.0 c.if-contains.true)),
      c.loop-k.invariant.apart,
    )

pub loop-k-preserved : goal.loop-k-preserved
loop-k-preserved c =
    let at = slice_get-get_or c.args.rows.now c.loop-k.k (record { channel = 0; sid = 0; flow = 0 }) c.loop-k-test.true in
    let fits = in-range c.args.rows.now c.loop-k.k _ at c.args.channels c.requires.in_range in
    record {
      channels = c.insert.ensures.channels ∙ c.loop-k.invariant.channels;
      apart = below_more _ _ c.loop-k.invariant.apart
          (unrepeated c.args.rows.now c.loop-k.k _ at (λ among. let found : c.contains.result ≡ true = c.contains.ensures.1 ((c.loop-k.invariant.marked _ _ fits.1).1 among) in cc));
      marked = λ channel sid small. (
        λ marked. (among-more c.args.rows.now c.loop-k.k _ at channel sid).1
            (⊎_elim (λ was. inl ((c.loop-k.invariant.marked channel sid small).0 was)) (λ is. inr is) ((c.insert.ensures.inserted channel sid small).0 marked)),
        λ among. (c.insert.ensures.inserted channel sid small).1
            (⊎_elim (λ was. inl ((c.loop-k.invariant.marked channel sid small).1 was)) (λ is. inr is) ((among-more c.args.rows.now c.loop-k.k _ at channel sid).0 among)),
      );
    }

pub returns : goal.returns
returns c k bad =
    let below = slice_get_within c.args.rows.now k bad.2 bad.4 in
    c.loop-k.invariant.apart k (omega arith) bad

pub loop-k-init : goal.loop-k-init
loop-k-init c = record {
  channels = c.in_ok-table.ensures.channels;
  apart = λ j below. absurd (omega arith);
  marked = λ channel sid small. (λ marked. absurd (c.in_ok-table.ensures.none channel sid marked), λ among. let none = among.1 in absurd (omega arith));
}
