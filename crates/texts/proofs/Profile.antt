-- A receiver of the profile's width.
use Rattle.std.proofs.Common.{◌≡◌, ◌<◌, ◌==◌, ℕ, length, true, subst, arith}
use Rattle.std.proofs.lemmas.Bool.{and_parts, eqb-true}
use Rattle.flow_records.specs.Limits.{flows_max}
use Rattle.flow_records.specs.Setup.{CanBeSetUpWithin}
use Rattle.lane.specs.Limits.{channel_limit}
use Rattle.lane.specs.Rows.{CanBeOpenedWithin}
use Rattle.receiver.specs.declared.setup.Setup.{Setup}
use Rattle.receiver.specs.declared.width.Width.{Width}
use Rattle.receiver.specs.Faults.{CanReceive}
use Rattle.receiver.specs.Widths.{CanReceiveWithin}
use Rattle.texts.specs.Inside.Replayed.{is_profile}

profile_width : (width : Width) → is_profile width ≡ true → (width.channels ≡ channel_limit) × (width.flows ≡ flows_max)
profile_width width is =
    let both = and_parts (width.channels == channel_limit) (width.flows == flows_max) is in
    (eqb-true width.channels channel_limit both.0, eqb-true width.flows flows_max both.1)

-- its setup is one of the profile
pub profile_receives : (width : Width) (setup : Setup) → is_profile width ≡ true → CanReceiveWithin width.channels width.flows setup → CanReceive setup
profile_receives width setup is can =
    let both = profile_width width is in
    record {
      flows = subst (λ (n : ℕ). CanBeSetUpWithin n setup.flows.items) both.1 can.flows_fit;
      lanes = subst (λ (n : ℕ). CanBeOpenedWithin n setup.sids.items (length setup.flows.items)) both.0 can.rows_fit;
    }

-- and its channels are four
pub profile_channel : (width : Width) (channel : ℕ) → is_profile width ≡ true → channel < width.channels → channel < channel_limit
profile_channel width channel is below = let four = (profile_width width is).0 in omega arith
