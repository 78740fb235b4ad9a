-- The files that reduction writes for an accepted task file read back, and preserve its best plans.
use Prim.Native.Nat.{ℕ, ◌≤◌}
use mathlib.Core.Path.{◌≡◌, sym, ap, subst, ◌∙◌}
use mathlib.Core.Bool.{true}
use mathlib.Core.List.{List, map}
use native.Mathlib.Omega.{arith}
use lib.ListN.{length, get_or}
use Rattle.files.specs.Outcome.{Outcome, done}
use Rattle.files.specs.Bytes.{Octets}
use Rattle.files.specs.OriginFile.{Origin, origin_of}
use Rattle.files.specs.Records.{signer_of}
use Rattle.files.specs.Task.{Task, action_count}
use Rattle.files.specs.TaskFile.{check_task, task_of, task_file}
use Rattle.files.specs.Reading.{read_task, read_origin, under}
use Rattle.files.specs.Accepted.{valid_signer, accepted_task}
use Rattle.files.proofs.Lengths.{signed_length}
use Rattle.files.proofs.OriginRoundTrip.{origin_reads_back, origin_read_as}
use Rattle.files.proofs.TaskChecked.{task_accepted, task_written}
use Rattle.files.proofs.TaskRoundTrip.{task_reads_back, task_read_as}
use Rattle.reduction.specs.Preserved.{Preserves, by_origin_file, FilesPreserve, ReductionOfFiles}
use Rattle.reduction.specs.Reduce.{reduced_file, origins_file}
use Rattle.reduction.proofs.Levels.{reduction_preserves, reduction_accepted, reduction_origins, reduction_as_many, reduction_no_longer}
use Rattle.reduction.specs.Task.{reduced_task, origins_at, by_original}

module _ (task : List ℕ) (level signer : ℕ) (octets : Octets task) (e : check_task task ≡ done) (v : valid_signer signer ≡ true) where
  passes : (check_task task).number ≡ 0
  passes = ap (λ (o : Outcome). o.number) e

  abbrev t : Task
  t = task_of task

  accepted : accepted_task t ≡ true
  accepted = task_accepted task octets passes

  reads : read_task (reduced_file t level signer) ≡ under (reduced_task t level) signer
  unfolding reduced_file
  reads = task_reads_back (reduced_task t level) signer (reduction_accepted t level accepted) v

  origin_reads : read_origin (origins_file t level signer) ≡ under (origins_at t level) signer
  unfolding origins_file
  origin_reads = origin_reads_back (origins_at t level) signer (reduction_origins t level accepted) v

  same_task_lem : task_of (reduced_file t level signer) ≡ reduced_task t level
  same_task_lem = (task_read_as (reduced_file t level signer) (reduced_task t level) signer reads).1

  same_origin : origin_of (origins_file t level signer) ≡ origins_at t level
  same_origin = (origin_read_as (origins_file t level signer) (origins_at t level) signer origin_reads).1

  by_file : by_original t level ≡ by_origin_file (origins_file t level signer)
  unfolding by_original by_origin_file
  by_file = ap (λ (o : Origin). λ plan. map (λ n. get_or o.actions n 0) plan) (sym same_origin)

  no_longer : length (reduced_file t level signer) ≤ length task
  unfolding reduced_file task_file
  no_longer =
      let long = ap length (task_written task octets passes) in
      omega (arith, reduction_no_longer t level accepted signer, long, same_length)
    where
      same_length : length (task_file t signer) ≡ length (task_file t (signer_of task))
      same_length = signed_length signer _ ∙ sym (signed_length (signer_of task) _)

  as_many : length (origin_of (origins_file t level signer)).actions ≡ action_count (task_of (reduced_file t level signer))
  as_many =
      ap (λ (o : Origin). length o.actions) same_origin
      ∙ reduction_as_many t level accepted
      ∙ sym (ap (λ (r : Task). length r.actions) same_task_lem)

  files_preserve : FilesPreserve task level signer
  files_preserve =
      record {
        reduced_reads = reads;
        origin_reads = origin_reads;
        as_many = as_many;
        no_longer = no_longer;
        preserves =
            subst (λ (r : Task). Preserves t r (by_origin_file (origins_file t level signer))) (sym same_task_lem)
            (subst (λ (f : List ℕ → List ℕ). Preserves t (reduced_task t level) f) by_file (reduction_preserves t level accepted));
      }

pub reduction_of_files : ReductionOfFiles
reduction_of_files task level signer octets e v = files_preserve task level signer octets e v
