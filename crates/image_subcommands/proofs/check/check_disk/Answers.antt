use Rattle.std.proofs.Common.{ℕ, sym, subst}
use Rattle.image_subcommands.specs.CheckCall.{IsCheck}
use Rattle.image_subcommands.specs.Outside.{outside_of}
use Rattle.image_subcommands.proofs.CheckLemmas.{check_ends, read_keeps, reported_in_memory}
use Rattle.image_subcommands.proofs.ReportLemmas.{outside_report}
use Rattle.image_subcommands.proofs.check.check_disk.Goals as goal

pub returns-clause-check : goal.returns-clause-check
returns-clause-check g c =
    let before = outside_of c.args.disk c.args.source c.args.sink in
    let ends = check_ends g.D.Disk.state g.W.Sink.state before
    c.check-disk.result.0 c.check-disk.result.1 c.print_report-status.new.sink c.print_report-status.result
    c.check-disk.ensures c.print_report-status.ensures in
    subst (λ (n : ℕ). IsCheck g.D.Disk.state g.W.Sink.state before (record {
      status = c.print_report-status.result;
      done = n;
      disk = c.check-disk.result.0;
      source = c.args.source;
      sink = c.print_report-status.new.sink;
    }))
    (sym c.done_of_verdict.ensures) ends

pub returns-clause-memory : goal.returns-clause-memory
returns-clause-memory g c =
    reported_in_memory g.W.Sink.state c.check-disk.result.1 c.args.sink c.print_report-status.new.sink
    c.print_report-status.result c.check-disk.ensures.memory c.print_report-status.ensures

pub returns-clause-outside : goal.returns-clause-outside
returns-clause-outside g c =
    let old = g.D.Disk.state c.args.disk in
    let new = g.D.Disk.state c.check-disk.result.0 in
    outside_report g.W.Sink.state c.check-disk.result.1 old new
    (g.R.Source.state c.args.source) c.args.sink c.print_report-status.new.sink c.print_report-status.result
    (read_keeps old new c.check-disk.result.1 c.check-disk.ensures.reads)
    c.check-disk.ensures.reads.faults c.print_report-status.ensures
