-- What a check of records within a limit finds is why no receiver of that width is made.
use Rattle.std.proofs.Common.{◌≡◌, ◌≢◌, ℕ, ◌≤◌, length, refl}
use Rattle.flow_records.specs.Setup.{IsBad, IsSetupFaultWithin}
use Rattle.flow_records.specs.declared.record.SetupFault.{SetupFault}
use Rattle.flow_records.specs.declared.record.SetupFault.TheVariants.{TooManyFlows, BadFlow, SameSfid, OutOfMemory}
use Rattle.receiver.specs.declared.setup.Setup.{Setup}
use Rattle.receiver.specs.Widths.{IsSetupErrorWithin, error_of_flows}

pub error-of_flows : (channels flows : ℕ) (setup : Setup) (fault : SetupFault)
    → (fault ≢ OutOfMemory → IsSetupFaultWithin flows setup.flows.items fault)
    → (fault ≡ OutOfMemory → (length setup.flows.items ≤ flows) × ((k : ℕ) → ¬ (IsBad setup.flows.items k)))
    → IsSetupErrorWithin channels flows setup (error_of_flows fault)
error-of_flows channels flows setup TooManyFlows is memory = is (λ same. cc)
error-of_flows channels flows setup (BadFlow k) is memory = is (λ same. cc)
error-of_flows channels flows setup (SameSfid k) is memory = is (λ same. cc)
error-of_flows channels flows setup OutOfMemory is memory = memory refl
