use native.Mathlib.Omega.{arith}
use Rattle.std.proofs.lemmas.Grind.{div_ceil_times}
use Rattle.bits.proofs.SetLoops.{scan_begin, scan_next, scan_found, scan_end}
use Rattle.bits.proofs.sets.next_in.Goals as goal

pub loop-place-init : goal.loop-place-init
loop-place-init c = scan_begin _ _ _ _ c.requires.start c.requires.few

pub returns-then-r-lt64 : goal.returns-then-r-lt64
returns-then-r-lt64 c =
    scan_found _ _ _ _ _ _ _ c.loop-place.invariant c.first_in-r.ensures _ c.if-r-lt64.true c.requires.start c.min.ensures

pub loop-place-preserved : goal.loop-place-preserved
loop-place-preserved c =
    scan_next _ _ _ _ _ _ _ c.loop-place.invariant c.first_in-r.ensures c.if-r-lt64.false
    (omega (arith, div_ceil_times c.args.limit 64, c.div_ceil-place-end.ensures)) c.requires.few

pub returns : goal.returns
returns c = scan_end _ _ _ _ _ _ c.loop-place.invariant c.requires.start (omega (arith, div_ceil_times c.args.limit 64, c.div_ceil-place-end.ensures))
