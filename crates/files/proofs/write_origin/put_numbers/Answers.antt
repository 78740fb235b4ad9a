use Rattle.files.proofs.WritingOrigins.{numbers_placed_next, numbers_placed_all}
use Rattle.files.proofs.write_origin.put_numbers.Goals as goal

pub loop-i-preserved : goal.loop-i-preserved
loop-i-preserved g c =
    numbers_placed_next _ _ _ _ _ _ c.loop-i.invariant _ _ _ c.loop-i-test.true c.index-numbers-i.is (c.requires.1.0 _ _ c.into.ensures) c.put_u16.ensures

pub returns : goal.returns
returns g c = numbers_placed_all _ _ _ _ _ _ c.loop-i.invariant c.loop-i-test.false
