use Rattle.std.proofs.Common.{List, [], ◌∷◌, ◌++◌, refl}
use Rattle.store_model.specs.Pairs.{Pair}
use Rattle.dump_streams.specs.Dumps.{after_step}
use Rattle.dump_streams.specs.Dumps.DumpStep.{Make}
use Rattle.tree_writer.proofs.NextPairs.{told_directory}
use Rattle.tree_writer.proofs.ToldPairs.{told_is_pairs}
use Rattle.tree_writer.proofs.TakenSteps.{takes_step, ended_step}
use Rattle.tree_writer.proofs.writer.TreeWriter.make.Goals as goal

pub push-requires : goal.push-requires
push-requires g c =
    let (p, start, t, before, goes) = c.requires in
    let path = c.args.path.now in
    let writer = c.args.self.now in
    let came : List Pair = before.holds.came in (
      p,
      start,
      came,
      record {
        has = before.has;
        pairs = told_is_pairs (after_step t (Make path)) p writer.got writer.told
            (came ++ (c.key.result, c.directory_value.result) ∷ []) goes.under.is_tree
            (told_directory t p path c.key.result c.directory_value.result writer.got writer.told came
            c.key.ensures.value c.directory_value.ensures before.holds.told_are c.in_ok-end_file.ensures.ok before.under
            goes);
      },
    )

pub returns-in_err-end_file : goal.returns-in_err-end_file
returns-in_err-end_file g c = λ told.
    ended_step g.D.Disk.state (Make c.args.path.now) told c.args.disk.now c.args.self.now c.args.self.now
    c.in_err-end_file.field-0.0 c.from_residual.result c.from_residual.ensures.1 c.in_err-end_file.ensures.err

pub returns : goal.returns
returns g c = λ told.
    let path = c.args.path.now in
    let writer = c.args.self.now in
    takes_step g.D.Disk.state (Make path) told c.args.disk.now c.push.new.disk writer
    (record writer { pairs = c.push.new.self }) c.push.result ((c.key.result, c.directory_value.result) ∷ [])
    c.push.ensures
    (λ p start t before goes. told_directory t p path c.key.result c.directory_value.result writer.got writer.told
    before.holds.came c.key.ensures.value c.directory_value.ensures before.holds.told_are c.in_ok-end_file.ensures.ok
    before.under goes)
    refl
