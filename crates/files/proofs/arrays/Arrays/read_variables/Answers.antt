use Rattle.files.proofs.Decoding.{variables_next, variables_none}
use Rattle.files.proofs.arrays.Arrays.read_variables.Goals as goal

pub loop-v-preserved : goal.loop-v-preserved
loop-v-preserved c = variables_next _ _ _ _ _ c.loop-v.invariant _ _ c.loop-v-test.true c.u16_at.ensures.is c.u16_at-in-loop-v.ensures.is

pub returns : goal.returns
returns c = variables_none _ _ _ _ _ c.loop-v.invariant c.loop-v-test.false
