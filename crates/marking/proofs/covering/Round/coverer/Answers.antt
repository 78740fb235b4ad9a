-- What the search behind the one from before finds covers; else the search from the first action on decides.
use Rattle.std.proofs.Common.{arith}
use Rattle.marking.proofs.CoverSearch.{coverer_found, coverer_first}
use Rattle.marking.proofs.covering.Round.coverer.Goals as goal

pub returns-then-found-self : goal.returns-then-found-self
returns-then-found-self c = coverer_found _ _ _ _ _ _ _ _ _ (omega arith) c.find_coverer-found.ensures c.if-found-self.true

pub returns : goal.returns
returns c = coverer_first _ _ _ _ _ _ _ _ (omega arith) c.find_coverer.ensures
