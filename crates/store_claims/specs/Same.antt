-- What a load and a run of the same lines leave.
use Rattle.std.specs.Prelude.{◌≡◌, ℕ, List, ◌++◌, codes}
use Rattle.std.specs.List.{flat_map}
use Rattle.store_model.specs.Parameters.{Parameters}
use Rattle.store_model.specs.Commands.{line}
use Rattle.store_model.specs.Scripts.{lines}
use Rattle.script_lines.specs.Memory.{SinkMemory}
use Rattle.image_subcommands.specs.declared.status.Status.TheVariants as statuses
use Rattle.image_subcommands.specs.Statuses.{IsDone}
use Rattle.store_claims.specs.Machines.{bytes_of}
use Rattle.store_claims.specs.declared.same.LoadAndRun.{LoadAndRun}

-- A script was loaded into an empty image, and run on another one of the same parameters. Where both were done:
pub record LoadsAsRun (script : List ℕ) (p : Parameters) (sink : SinkMemory) (both : LoadAndRun) : Type 0 where
  pub same : IsDone both.load.status → both.run.status ≡ statuses.Done
      → bytes_of both.load.disk ≡ bytes_of both.run.disk
  -- each line was answered `ok`
  pub answered : IsDone both.load.status → both.run.status ≡ statuses.Done
      → both.run.sink.written ≡ sink.written ++ flat_map (λ text. line (codes "ok")) (lines script)
