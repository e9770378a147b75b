-- A fault of the rows is reported, and otherwise only an allocation can fail.
use Rattle.std.proofs.Common.{Err, refl, ap, ◌∙◌}
use Rattle.std.proofs.lemmas.Result.{err_from_is_err_and}
use Rattle.lane.specs.declared.sids.LaneFault.TheVariants.{SidRange, SameSid, UnknownFlow, OutOfMemory}
use Rattle.lane.specs.Limits.{channel_limit}
use Rattle.lane.proofs.RowFaults.{fault-is, fault-not}
use Rattle.lane.proofs.lane.Lane.new.Goals as goal

pub returns-in_err-check_rows-clause-range : goal.returns-in_err-check_rows-clause-range
returns-in_err-check_rows-clause-range c k =
    let p = err_from_is_err_and c.from_residual.result c.from_residual.ensures.1 in
    let found = c.in_err-check_rows.field-0.0 in
    fault-is channel_limit c.args.rows.now _ c.from_residual.result found (p.1 ∙ ap Err p.2) ((c.in_err-check_rows.ensures.fault found).0 refl) (SidRange k)

pub returns-in_err-check_rows-clause-same : goal.returns-in_err-check_rows-clause-same
returns-in_err-check_rows-clause-same c k =
    let p = err_from_is_err_and c.from_residual.result c.from_residual.ensures.1 in
    let found = c.in_err-check_rows.field-0.0 in
    fault-is channel_limit c.args.rows.now _ c.from_residual.result found (p.1 ∙ ap Err p.2) ((c.in_err-check_rows.ensures.fault found).0 refl) (SameSid k)

pub returns-in_err-check_rows-clause-unknown : goal.returns-in_err-check_rows-clause-unknown
returns-in_err-check_rows-clause-unknown c k =
    let p = err_from_is_err_and c.from_residual.result c.from_residual.ensures.1 in
    let found = c.in_err-check_rows.field-0.0 in
    fault-is channel_limit c.args.rows.now _ c.from_residual.result found (p.1 ∙ ap Err p.2) ((c.in_err-check_rows.ensures.fault found).0 refl) (UnknownFlow k)

pub returns-in_err-check_rows-clause-memory : goal.returns-in_err-check_rows-clause-memory
returns-in_err-check_rows-clause-memory c e =
    let p = err_from_is_err_and c.from_residual.result c.from_residual.ensures.1 in
    let found = c.in_err-check_rows.field-0.0 in
    absurd ((fault-is channel_limit c.args.rows.now _ c.from_residual.result found (p.1 ∙ ap Err p.2) ((c.in_err-check_rows.ensures.fault found).0 refl) OutOfMemory).0 e)

pub returns-in_err-open-clause-range : goal.returns-in_err-open-clause-range
returns-in_err-open-clause-range c k =
    let p = err_from_is_err_and c.from_residual-in_err-open.result c.from_residual-in_err-open.ensures.1 in
    fault-not channel_limit c.args.rows.now _ c.from_residual-in_err-open.result (SidRange k) (c.in_ok-check_rows.ensures.ok.0 refl) (λ e. cc)

pub returns-in_err-open-clause-same : goal.returns-in_err-open-clause-same
returns-in_err-open-clause-same c k =
    let p = err_from_is_err_and c.from_residual-in_err-open.result c.from_residual-in_err-open.ensures.1 in
    fault-not channel_limit c.args.rows.now _ c.from_residual-in_err-open.result (SameSid k) (c.in_ok-check_rows.ensures.ok.0 refl) (λ e. cc)

pub returns-in_err-open-clause-unknown : goal.returns-in_err-open-clause-unknown
returns-in_err-open-clause-unknown c k =
    let p = err_from_is_err_and c.from_residual-in_err-open.result c.from_residual-in_err-open.ensures.1 in
    fault-not channel_limit c.args.rows.now _ c.from_residual-in_err-open.result (UnknownFlow k) (c.in_ok-check_rows.ensures.ok.0 refl) (λ e. cc)

pub returns-clause-range : goal.returns-clause-range
returns-clause-range c k = fault-not channel_limit c.args.rows.now _ _ (SidRange k) (c.in_ok-check_rows.ensures.ok.0 refl) (λ e. cc)

pub returns-clause-same : goal.returns-clause-same
returns-clause-same c k = fault-not channel_limit c.args.rows.now _ _ (SameSid k) (c.in_ok-check_rows.ensures.ok.0 refl) (λ e. cc)

pub returns-clause-unknown : goal.returns-clause-unknown
returns-clause-unknown c k = fault-not channel_limit c.args.rows.now _ _ (UnknownFlow k) (c.in_ok-check_rows.ensures.ok.0 refl) (λ e. cc)
