-- A level that marks as a number does can stand for it.
use Rattle.std.proofs.Common.{◌≡◌, ◌∙◌, ap, refl, ℕ, ◌*◌, ◌<◌, Bool, List, eqb, get_or}
use borrow.Author.Tests.{eqb-true, eq-eqb}
use Rattle.bits.specs.Sets.{in_words}
use Rattle.files.specs.declared.arrays.Arrays.{Arrays}
use Rattle.files.specs.Below.{bit}
use Rattle.marking.specs.Clauses.{UnlinkedAre}
use Rattle.marking.specs.Dense.{SetWhere, could_cover_at, threatens_anew, linked_cell, unlinked_at, achieves, tracked_at, covered_at, counted_at, row_names, names_anew}
use Rattle.marking.specs.Levels.{MarksLike}
use Rattle.marking.proofs.RoundProgress.{Round}

module _ (number level : ℕ) (like : MarksLike number level) where
  unlinked_like : (facts starts threats : List ℕ) (i : ℕ) → unlinked_at level facts starts threats i ≡ unlinked_at number facts starts threats i
  unfolding unlinked_at linked_cell
  unlinked_like facts starts threats i = rw like.links refl

  counted_like : (kept counted : List ℕ) (covered : Bool) (a : ℕ) → counted_at level kept counted covered a ≡ counted_at number kept counted covered a
  unfolding counted_at
  counted_like kept counted covered a = rw like.covering refl

  module _ (whole : Bool) (is_whole : whole ≡ eqb level 1) where
    whole_like : whole ≡ eqb number 1
    whole_like = is_whole ∙ like.whole

    pub row_like : (row sizes old new : List ℕ) (base count : ℕ) → SetWhere (row_names whole row base sizes count) old new → SetWhere (row_names (eqb number 1) row base sizes count) old new
    row_like row sizes old new base count s = rw (← whole_like) s

    pub round_like : (d : Arrays) (pairs actions facts unlinked_before threats kept_before counted_before threats' u actions' tracks counted facts' : List ℕ)
        → (level ≡ 4 → (a b : ℕ) → a < d.actions → b < d.actions → in_words pairs (8 * a) b ≡ could_cover_at d.costs d.conditions d.variables b a)
        → SetWhere (threatens_anew d.effects d.starts d.variables actions kept_before d.actions) threats threats'
        → UnlinkedAre u level facts d.starts threats' d.variables
        → SetWhere (achieves d.effects d.actions unlinked_before u (32 * d.variables)) actions actions'
        → ((v : ℕ) → v < d.variables → get_or tracks v 0 ≡ bit (tracked_at u v))
        → ((a : ℕ) → a < d.actions → get_or counted a 0 ≡ bit (counted_at level actions' counted_before (covered_at actions' pairs d.effects tracks d.variables d.actions a) a))
        → SetWhere (names_anew whole d.conditions d.sizes d.variables counted counted_before d.actions) facts facts'
        → Round d number pairs actions facts unlinked_before threats kept_before counted_before threats' u actions' tracks counted facts'
    round_like d pairs actions facts unlinked_before threats kept_before counted_before threats' u actions' tracks counted facts' table threatened free gained tracked counts named =
        record {
          table = λ e. table (eqb-true level 4 (like.covering ∙ eq-eqb number 4 e));
          threats_set = threatened;
          unlinked_at_lem = λ i l. free.told i l ∙ ap bit (unlinked_like facts d.starts threats' i);
          actions_set = gained;
          tracked_at_lem = tracked;
          counted_at_lem = λ a l. counts a l ∙ ap bit (counted_like actions' counted_before (covered_at actions' pairs d.effects tracks d.variables d.actions a) a);
          facts_set = rw (← whole_like) named;
        }
