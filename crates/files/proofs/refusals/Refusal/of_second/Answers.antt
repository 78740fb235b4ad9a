-- A refusal has a number, so its file becomes the second.
use Rattle.std.proofs.Common.{refl}
use Rattle.files.specs.Outcome.{in_second}
use Rattle.files.proofs.Guards.{refused_stands}
use Rattle.files.proofs.refusals.Refusal.of_second.Goals as goal

pub returns : goal.returns
unfolding in_second
returns c = rw (refused_stands c.args.self) refl
