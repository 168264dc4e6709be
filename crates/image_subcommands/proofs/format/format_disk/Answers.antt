use Rattle.std.proofs.Common.{ℕ, sym, subst}
use Rattle.image_subcommands.specs.declared.status.Status.{Status}
use Rattle.image_subcommands.specs.FormatCall.{IsFormat}
use Rattle.image_subcommands.specs.Outside.{outside_of}
use Rattle.image_subcommands.specs.Statuses.{done_of_work}
use Rattle.image_subcommands.proofs.FormatLemmas.{format_ends}
use Rattle.image_subcommands.proofs.format.format_disk.Goals as goal

pub returns-clause-format : goal.returns-clause-format
returns-clause-format g c =
    let p = c.args.params.now in
    let before = outside_of c.args.disk c.args.source c.args.sink in
    let f = c.format.ensures in
    let ends = format_ends g.D.Disk.state g.met.D.Disk.sound p before
    c.format.new.disk c.format.result f.wrong_length f.wrong_length_keeps f.already_image f.image_is_kept
    f.already_image_keeps f.image_is_found f.disk_failed f.makes f.formats f.reads f.crash in
    let by_status =
    subst (λ (s : Status). IsFormat g.D.Disk.state p before (record {
      status = s;
      done = done_of_work s;
      disk = c.format.new.disk;
      source = c.args.source;
      sink = c.args.sink;
    }))
    (sym c.format_status-status.ensures) ends in
    subst (λ (n : ℕ). IsFormat g.D.Disk.state p before (record {
      status = c.format_status-status.result;
      done = n;
      disk = c.format.new.disk;
      source = c.args.source;
      sink = c.args.sink;
    }))
    (sym c.done_of_work.ensures) by_status
