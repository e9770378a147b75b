-- Of the close no gap is taken yet.
use Rattle.std.proofs.Common.{sym, append-nil}
use Rattle.bonded_flows.specs.declared.pending.Pending.TheVariants.{Close}
use Rattle.bonded_flows.proofs.SettledFlows.{all-taken}
use Rattle.bonded_flows.proofs.TakenEvents.{left-anyhow}
use Rattle.bonded_flows.proofs.bonded_flow.BondedFlow.begin_close.Goals as goal

pub returns-clause-has_come : goal.returns-clause-has_come
returns-clause-has_come c = λ check setup comings given has.
    let taken = all-taken check setup c.args.self.now comings given has c.requires in
    record {
      events = has.events;
      lasts = has.lasts;
      fates = has.fates;
      ruled = has.ruled;
      taking = record {
        taken = has.events;
        has_taken = left-anyhow check setup c.args.self.now has.events has.lasts given taken Close;
        left = (0, sym (append-nil has.events));
      };
    }

pub returns-clause-under_way : goal.returns-clause-under_way
returns-clause-under_way c = λ check way. record {
  setup = way.setup;
  comings = way.comings;
  given = way.given;
  has_come = returns-clause-has_come c check way.setup way.comings way.given way.has_come;
}
