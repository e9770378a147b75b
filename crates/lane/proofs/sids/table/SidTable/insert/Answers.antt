-- One more place is set.
use Rattle.std.proofs.Common.{◌≡◌, ℕ, ◌<◌, ◌⊎◌, ◌↔◌, true, slice_set, sym, subst, arith}
use Rattle.lane.specs.Limits.{sid_limit}
use Rattle.lane.proofs.MarkedRows.{IsSet, place_in, put-in}
use Rattle.lane.proofs.sids.table.SidTable.insert.Goals as goal

pub returns-clause-inserted : goal.returns-clause-inserted
returns-clause-inserted c =
    let places = c.args.self.now.places.items in
    subst
    (λ place. (other number : ℕ) → number < sid_limit
    → IsSet (slice_set places place true) (place_in other number)
    ↔ (IsSet places (place_in other number) ⊎ ((other ≡ c.args.channel) × (number ≡ c.args.sid))))
    (sym c.place_of.ensures)
    (put-in places c.args.channel c.args.sid c.requires.sid (omega arith))
