-- The arrays hold the task of the file.
use mathlib.Core.Path.{refl, ap, ◌∙◌}
use native.Mathlib.Omega.{arith}
use Rattle.files.specs.Outcome.{Outcome}
use Rattle.files.specs.Accepted.{accepted_task}
use Rattle.files.specs.Bytes.{Octets}
use Rattle.files.proofs.Guards.{refused_number}
use Rattle.files.proofs.TaskChecked.{task_accepted}
use Rattle.search.proofs.FoundLaws.{part_octets, searched_files}
use Rattle.search.proofs.stages.Search.search_files.Goals as goal

pub returns-in_err-read : goal.returns-in_err-read
returns-in_err-read c =
    absurd (refused_number c.in_err-read.field-0.0 (ap (λ (o : Outcome). o.number) (c.in_err-read.ensures.outcome ∙ c.requires.checked)))

pub search_task-requires : goal.search_task-requires
search_task-requires c =
    let octets : Octets c.args.reduced.now = λ i. omega (arith, c.type_inv.reduced i) in
    ap accepted_task (c.in_ok-read.ensures.task refl)
    ∙ task_accepted _ (part_octets c.args.first.now.reduced c.args.reduced.now octets) (ap (λ (o : Outcome). o.number) c.requires.checked)

pub returns : goal.returns
returns c =
    searched_files _ _ _ _ _ _ _ _ _ _ _ _ (c.in_ok-read.ensures.task refl) _ c.place_in-self.ensures.is c.place_in-self.ensures.below c.search_task.ensures
