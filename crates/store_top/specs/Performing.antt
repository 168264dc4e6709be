-- What a call of the program promises: a case for each request.
use Rattle.store_model.specs.Words.{Request}
use Rattle.store_model.specs.Words.Request.{Format, Run, Session, Check, Scrub, Wipe, Upgrade, Dump, Load, Big}
use Rattle.disk_model.specs.DiskState.{DiskState}
use Rattle.script_lines.specs.SourceState.{SourceState}
use Rattle.script_lines.specs.SinkState.{SinkState}
use Rattle.image_subcommands.specs.declared.outcome.Outcome.{Outcome}
use Rattle.image_subcommands.specs.Outside.{Outside}
use Rattle.image_subcommands.specs.CheckCall.{IsCheck}
use Rattle.image_subcommands.specs.FormatCall.{IsFormat}
use Rattle.image_subcommands.specs.ScrubCall.{IsScrub}
use Rattle.image_subcommands.specs.WipeCall.{IsWipe}
use Rattle.listing_subcommands.specs.DumpCall.{IsDump}
use Rattle.listing_subcommands.specs.LoadCall.{IsLoad}
use Rattle.script_runs.specs.ScriptCall.{IsBig, IsRun, IsSession}
use Rattle.store_top.specs.UpgradeCall.{IsUpgrade}

module _ {D R W : Type 0} (disk_of : D → DiskState) (source_of : R → SourceState) (sink_of : W → SinkState) where
  -- The call did what is asked for: how it ends, which status comes exactly where, and what stands then of the disk,
  -- the source and the sink.
  abbrev pub Performs : Request → Outside D R W → Outcome D R W → Type 0
  Performs (Format p) before after = IsFormat disk_of p before after
  Performs Run before after = IsRun disk_of source_of sink_of before after
  Performs Session before after = IsSession disk_of source_of sink_of before after
  Performs Check before after = IsCheck disk_of sink_of before after
  Performs Scrub before after = IsScrub disk_of sink_of before after
  Performs Wipe before after = IsWipe disk_of before after
  Performs Upgrade before after = IsUpgrade disk_of before after
  Performs Dump before after = IsDump disk_of sink_of before after
  Performs Load before after = IsLoad disk_of source_of sink_of before after
  Performs (Big number count) before after = IsBig disk_of sink_of number count before after
