-- Too many states, no room for the table, or the table.
use Rattle.std.proofs.Common.{◌≡◌, ℕ, length, arith, refl, ap, subst, ◌∙◌}
use Rattle.std.proofs.lemmas.List.{length-take, length-append}
use Rattle.files.proofs.Guards.{handed_on, refused_number}
use Rattle.distances.specs.Table.{minutes_of}
use Rattle.distances.specs.declared.Entry.{Entry}
use Rattle.lookup.specs.FactRows.{CheapRow}
use Rattle.search.specs.ReadOff.{StepTables}
use Rattle.distances.proofs.HeldStates.{held_actions_few, held_facts, searchable}
use Rattle.search.proofs.FoundLaws.{counted_fits, counted_sizes, counted_few, counted_inside, counted_is, counted_states, counted_task, counted_weights, counted_start, front_searched, front_entry, searched_refused, searched_done}
use Rattle.search.proofs.stages.Search.search_task.Goals as goal

pub count-count-requires : goal.count-count-requires
count-count-requires c = counted_sizes c.args.self.now.task c.requires

pub returns-in_err-count_fits : goal.returns-in_err-count_fits
returns-in_err-count_fits c =
    let e = c.in_err-count_fits.field-0.0 in
    rw (handed_on c.from_residual.result e c.from_residual.ensures.1)
    (searched_refused _ _ _ _ _ (counted_fits c.args.self.now.task c.requires _ _ c.count-count.ensures _ c.in_err-count_fits.ensures) (refused_number e) _ _ _ _ _)

pub weights-weights-requires : goal.weights-weights-requires
weights-weights-requires c = counted_states c.args.self.now.task c.requires _ _ c.count-count.ensures c.in_ok-count_fits.ensures

pub fill-requires : goal.fill-requires
fill-requires c =
    let d = c.args.self.now.task in
    record {
      variables_few = (counted_sizes d c.requires).few;
      actions_few = held_actions_few d c.requires;
      weights_few = counted_weights d c.requires _ _ c.count-count.ensures c.in_ok-count_fits.ensures _ c.weights-weights.ensures;
    }

pub slice_bounds-search-end : goal.slice_bounds-search-end
slice_bounds-search-end c = omega (arith, counted_inside c.args.self.now.task c.requires _ _ c.count-count.ensures c.in_ok-count_fits.ensures)

pub search-start-requires : goal.search-start-requires
search-start-requires c =
    let d = c.args.self.now.task in
    let inside = counted_inside d c.requires _ _ c.count-count.ensures c.in_ok-count_fits.ensures in
    let long = length-take c.count-count.result c.args.table.now in
    record {
      accepted = c.requires;
      states = omega (arith, long, inside, counted_is d c.requires _ _ c.count-count.ensures c.in_ok-count_fits.ensures);
      few = omega (arith, long, counted_few d c.requires _ _ c.count-count.ensures c.in_ok-count_fits.ensures);
      weights_are = c.weights-weights.ensures;
      moves_are = c.fill.ensures d.sizes c.weights-weights.ensures;
    }

pub slice_bounds-search-end-2 : goal.slice_bounds-search-end-2
slice_bounds-search-end-2 c =
    omega (arith, length-take c.count-count.result c.args.table.now, counted_inside c.args.self.now.task c.requires _ _ c.count-count.ensures c.in_ok-count_fits.ensures)

pub offset_bounds-table-start : goal.offset_bounds-table-start
offset_bounds-table-start c =
    let d = c.args.self.now.task in
    omega (
      arith,
      counted_start d c.requires _ _ c.count-count.ensures c.in_ok-count_fits.ensures _ c.search-start.ensures.start,
      counted_few d c.requires _ _ c.count-count.ensures c.in_ok-count_fits.ensures,
    )

pub bounds-table-start : goal.bounds-table-start
bounds-table-start c =
    let d = c.args.self.now.task in
    omega (
      arith,
      counted_start d c.requires _ _ c.count-count.ensures c.in_ok-count_fits.ensures _ c.search-start.ensures.start,
      counted_inside d c.requires _ _ c.count-count.ensures c.in_ok-count_fits.ensures,
      c.search-start.auto.entries,
      length-take c.count-count.result c.args.table.now,
      length-append {A = Entry},
    )

pub fill_cheap-requires : goal.fill_cheap-requires
fill_cheap-requires c =
    let d = c.args.self.now.task in
    record {
      few = held_facts d c.requires (counted_task d c.requires _ _ c.count-count.ensures c.in_ok-count_fits.ensures) _ (omega (arith, c.search-start.new.rows.long));
      actions_few = held_actions_few d c.requires;
    }

pub returns : goal.returns
returns c =
    let d = c.args.self.now.task in
    let few = counted_task d c.requires _ _ c.count-count.ensures c.in_ok-count_fits.ensures in
    let tables : StepTables d.variables d.actions d.sizes d.costs d.conditions d.effects c.fill_cheap.new.self.words c.fill.new.self.actions =
    record {
      asked = searchable d c.requires few;
      few = held_facts d c.requires few _ (omega (arith, c.fill_cheap.new.self.long));
      room = omega (arith, c.fill_cheap.new.self.long);
      rows_are = c.fill_cheap.ensures.by_fact;
      moves_are = c.fill.ensures d.sizes c.weights-weights.ensures;
    }
    in
    let start_in = counted_start d c.requires _ _ c.count-count.ensures c.in_ok-count_fits.ensures _ c.search-start.ensures.start in
    let same : length c.search-start.new.entries ≡ c.count-count.result =
    omega (arith, c.search-start.auto.entries, length-take c.count-count.result c.args.table.now, counted_inside d c.requires _ _ c.count-count.ensures c.in_ok-count_fits.ensures) in
    let front = front_searched c.args.table.now c.search-start.new.entries c.count-count.result same in
    searched_done d _ _ c.requires few _ c.args.table.now (counted_fits d c.requires _ _ c.count-count.ensures _ c.in_ok-count_fits.ensures) refl _ _
    (counted_is d c.requires _ _ c.count-count.ensures c.in_ok-count_fits.ensures) c.search-start.ensures.start _ front.1 (front.0 ∙ c.search-start.ensures.table) _ _ tables
    (subst (λ (n : ℕ). CheapRow d.actions d.costs n c.fill_cheap.new.self.words) (ap minutes_of (front_entry _ _ _ _ start_in (omega (arith, start_in, same, length-append {A = Entry})))) c.fill_cheap.ensures.cheap)
