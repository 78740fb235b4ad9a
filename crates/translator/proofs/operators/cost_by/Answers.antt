-- Metric 1: the cost as written.
use native.Mathlib.Omega.{arith}
use Rattle.translator.proofs.OperatorReading.{cost_one, cost_written}
use mathlib.Core.Path.{refl}
use Rattle.translator.proofs.operators.cost_by.Goals as goal

pub returns-then-metric : goal.returns-then-metric
returns-then-metric c = rw c.if-metric.true (cost_written 1 c.args.written (λ e. omega arith))

pub returns-else-metric : goal.returns-else-metric
returns-else-metric c = rw c.if-metric.false (cost_one 0 c.args.written refl)
