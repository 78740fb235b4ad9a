-- The C calls by their stages: the answer as numbers, and what the buffers hold now.
use Rattle.std.specs.Prelude.{ℕ, List}
use Rattle.files.specs.Stages.{ByStages}
use Rattle.files.specs.TaskFile.{task_of}
use Rattle.marking.specs.Mark.{MarkBuffers, mark_file_stages, mark_whole, no_marks}
use Rattle.reduction.specs.Reduce.{Buffers, reduce_file_stages, reduce_whole, no_files}
use Rattle.search.specs.Planner.{taken_level, Lent, plan_stages, plan_whole, unplanned}
use Rattle.sheets.specs.Sheet.{sheet_stages, sheet_whole, no_sheet}
use Rattle.translator.specs.Translate.{translate_stages, translate_whole, no_file}
use Rattle.capi.specs.Numbers.{marked_numbers, reduced_numbers, planned_numbers, laid_numbers, translated_numbers}

abbrev pub MarksNumbers : List ℕ → ℕ → MarkBuffers → List ℕ → MarkBuffers → Type 0
MarksNumbers task level b out now =
    ByStages (mark_file_stages task level b) (marked_numbers (mark_whole (task_of task) level)) (λ o. marked_numbers (no_marks o)) b out now

abbrev pub ReducesNumbers : List ℕ → ℕ → ℕ → Buffers → List ℕ → Buffers → Type 0
ReducesNumbers task level signer b out now =
    ByStages (reduce_file_stages task level signer b) (reduced_numbers (reduce_whole (task_of task) level signer)) (λ o. reduced_numbers (no_files o)) b out now

abbrev pub PlansNumbers : List ℕ → ℕ → ℕ → Lent → List ℕ → Lent → Type 0
PlansNumbers task level signer b out now =
    ByStages (plan_stages task (taken_level level) signer b) (planned_numbers (plan_whole task (taken_level level) signer)) (λ o. planned_numbers (unplanned o)) b out now

abbrev pub LaysNumbers : List ℕ → List ℕ → List ℕ → List ℕ → List ℕ → Type 0
LaysNumbers task plan page out now =
    ByStages (sheet_stages task plan page) (laid_numbers (sheet_whole task plan)) (λ o. laid_numbers (no_sheet o)) page out now

abbrev pub TranslatesNumbers : List ℕ → ℕ → List ℕ → List ℕ → List ℕ → Type 0
TranslatesNumbers text signer file out now =
    ByStages (translate_stages text signer file) (translated_numbers (translate_whole text signer)) (λ o. translated_numbers (no_file o)) file out now
