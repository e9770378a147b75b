-- Nothing was handed in.
use Rattle.std.proofs.Common.{[]}
use Rattle.selected_receiver.proofs.Grown.{whole-nothing}
use Rattle.selected_receiver.proofs.selected_receiver.SelectedReceiver.new.Goals as goal

pub returns-clause-stands : goal.returns-clause-stands
returns-clause-stands g c = λ check made stands. record {
  others = [];
  also = [];
  stands = stands;
  whole = whole-nothing c.args.selected check made;
}

pub returns-clause-at_hand : goal.returns-clause-at_hand
returns-clause-at_hand g c = λ check made stands settled. record {
  receiving = record {
    check = check;
    made = made;
    handed = [];
    given = [];
    stands = record {
      others = [];
      also = [];
      stands = stands;
      whole = whole-nothing c.args.selected check made;
    };
  };
  settled = settled;
}
