-- What is held for long is let go.
use Rattle.std.proofs.Common.{◌≡◌, ℕ, None, List, [], sym, subst}
use Rattle.bonded_flows.specs.Table.{TableSetup}
use Rattle.captured_flows.specs.Acts.{Act}
use Rattle.capture_rules.specs.declared.held_time.HeldTime.{HeldTime}
use Rattle.capture_rules.specs.Held.{IsSkip}
use Rattle.captured_flows.specs.Flow.{Expects, LetsGo, none_is_old}

pub lets_go-none : (made : TableSetup) (wait k now : ℕ) (held : List HeldTime) (handed more : List Act) (expected : ℕ) → Expects made k handed expected
    → IsSkip wait now expected held None → more ≡ [] → LetsGo made wait k now held handed more held
lets_go-none made wait k now held handed more expected expects skip none =
    subst (λ (m : List Act). LetsGo made wait k now held handed m held) (sym none) (none_is_old expected expects skip)
