-- The metric is the word of its digit.
use Rattle.translator.proofs.Calls.{handed, value_open, value_shut}
use Rattle.translator.proofs.FrontReading.{metric_one, metric_zero}
use Rattle.translator.proofs.text.metric.Goals as goal

pub returns-in_err-word-clause-read : goal.returns-in_err-word-clause-read
returns-in_err-word-clause-read c = rw (handed _ _ c.from_residual.ensures.1) (metric_one _ _ _ _ c.if-next_is.ensures c.in_err-word.ensures.read (value_shut c.in_err-word.field-0.0 1))

pub returns-then-next_is-clause-read : goal.returns-then-next_is-clause-read
returns-then-next_is-clause-read c = metric_one _ _ _ _ c.if-next_is.ensures c.in_ok-word.ensures.read (value_open _ 1)

pub returns-in_err-word-2-clause-read : goal.returns-in_err-word-2-clause-read
returns-in_err-word-2-clause-read c = rw (handed _ _ c.from_residual-in_err-word-2.ensures.1) (metric_zero _ _ _ _ c.if-next_is.ensures c.in_err-word-2.ensures.read (value_shut c.in_err-word-2.field-0.0 0))

pub returns-clause-read : goal.returns-clause-read
returns-clause-read c = metric_zero _ _ _ _ c.if-next_is.ensures c.in_ok-word-2.ensures.read (value_open _ 0)
