use Rattle.std.proofs.Common.{ℕ, sym, subst}
use Rattle.image_subcommands.specs.Outside.{outside_of}
use Rattle.image_subcommands.specs.ScrubCall.{IsScrub}
use Rattle.image_subcommands.proofs.CheckLemmas.{scrub_ends, reported_in_memory}
use Rattle.image_subcommands.proofs.ReportLemmas.{outside_report}
use Rattle.image_subcommands.proofs.scrub.scrub_disk.Goals as goal

pub returns-clause-scrub : goal.returns-clause-scrub
returns-clause-scrub g c =
    let before = outside_of c.args.disk c.args.source c.args.sink in
    let ends = scrub_ends g.D.Disk.state g.W.Sink.state before
    c.scrub-disk.result.0 c.scrub-disk.result.1 c.print_report-status.new.sink c.print_report-status.result
    c.scrub-disk.ensures c.print_report-status.ensures in
    subst (λ (n : ℕ). IsScrub g.D.Disk.state g.W.Sink.state before (record {
      status = c.print_report-status.result;
      done = n;
      disk = c.scrub-disk.result.0;
      source = c.args.source;
      sink = c.print_report-status.new.sink;
    }))
    (sym c.done_of_verdict.ensures) ends

pub returns-clause-memory : goal.returns-clause-memory
returns-clause-memory g c =
    reported_in_memory g.W.Sink.state c.scrub-disk.result.1 c.args.sink c.print_report-status.new.sink
    c.print_report-status.result c.scrub-disk.ensures.memory c.print_report-status.ensures

pub returns-clause-outside : goal.returns-clause-outside
returns-clause-outside g c =
    outside_report g.W.Sink.state c.scrub-disk.result.1 (g.D.Disk.state c.args.disk)
    (g.D.Disk.state c.scrub-disk.result.0) (g.R.Source.state c.args.source) c.args.sink
    c.print_report-status.new.sink c.print_report-status.result
    c.scrub-disk.ensures.kept c.scrub-disk.ensures.faults c.print_report-status.ensures
