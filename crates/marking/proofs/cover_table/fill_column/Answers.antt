use Rattle.std.proofs.Common.{◌≡◌, sym, ◌∙◌, ℕ, Bool, arith}
use Rattle.marking.specs.Dense.{could_cover_at}
use Rattle.marking.proofs.CoverTable.{column_begins, column_kept, column_set}
use Rattle.marking.proofs.cover_table.fill_column.Goals as goal
use Rattle.marking.proofs.cover_table.fill_column.Goals.{then-pair_could_cover, else-pair_could_cover}

pub loop-a-init : goal.loop-a-init
loop-a-init c = column_begins _ _ _ _ c.requires.empty

pub pair_could_cover-requires : goal.pair_could_cover-requires
pair_could_cover-requires c =
    let counted = c.requires.counted.count in
    record {
      pair = record { few_variables = c.requires.limits.few_variables; known = omega arith; other_known = omega arith };
      count = counted c.args.b c.requires.known;
      other_count = counted c.loop-a.a c.loop-a-test.true;
    }

pub loop-a-preserved : goal.loop-a-preserved
loop-a-preserved c =
    let l = c.loop-a in
    let d = c.args.task.now in
    let f : ℕ → Bool = could_cover_at d.costs d.conditions d.variables c.args.b in
    let is : f l.a ≡ c.pair_could_cover.result = sym c.pair_could_cover.ensures in
    elim c.if-pair_could_cover.branch [
      | then-pair_could_cover w ↦ rw w.could_cover-is
          (column_set l.a c.args.b (omega arith) l.could_cover _ w.add.ensures f _ _ l.invariant (omega arith) (is ∙ w.if-pair_could_cover.true))
      | else-pair_could_cover w ↦ column_kept f _ _ l.a _ l.could_cover _ l.invariant c.loop-a-test.true (is ∙ w.if-pair_could_cover.false) w.could_cover-is
    ]

pub returns : goal.returns
returns c =
    let to = c.loop-a.invariant in
    record { same = to.same; column = λ a h. to.filled a (omega arith); others = to.others }
