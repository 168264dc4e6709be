use Rattle.std.proofs.Common.{length, refl, inr, ap, ◌++◌, ◌∙◌}
use Rattle.store_model.specs.Pairs.{is_inline}
use Rattle.dump_streams.specs.Dumps.{after_step}
use Rattle.dump_streams.specs.Dumps.DumpStep.{Write}
use Rattle.tree_writer.specs.Pairs.{begun_pairs}
use Rattle.tree_writer.proofs.NextPairs.{told_first, first_differs}
use Rattle.tree_writer.proofs.ToldPairs.{told_is_pairs}
use Rattle.tree_writer.proofs.TakenSteps.{takes_step, differs_step}
use Rattle.tree_writer.proofs.writer.TreeWriter.write_first.Goals as goal

pub returns-then-is_other : goal.returns-then-is_other
returns-then-is_other g c =
    differs_step g.D.Disk.state (Write c.args.path.now 0 c.args.bytes.now) c.args.told c.args.disk.now c.args.self.now
    c.args.self.now _ refl
    (λ p start t before goes. inr (first_differs c.args.path.now c.version.result c.as_slice.result.now
    c.args.bytes.now c.args.told c.as_slice.ensures.value (c.is_other.ensures.other c.if-is_other.true)
    (c.is_other.ensures.short c.if-is_other.true)))

pub push_file-requires : goal.push_file-requires
push_file-requires g c =
    let (p, start, t, before, goes) = c.requires.step in
    let path = c.args.path.now in
    let bytes = c.args.bytes.now in
    let shown = c.as_slice.result.now in
    let writer = c.args.self.now in
    let q = writer.pairs.params in
    let told = c.args.told in
    let came = before.holds.came in (
      p,
      start,
      came,
      record {
        has = before.has;
        pairs = told_is_pairs (after_step t (Write path 0 bytes)) p (length shown) told
            (came ++ begun_pairs (is_inline q.version (length bytes)) path told bytes) goes.under.is_tree
            (told_first t p q path bytes writer.got writer.told (length shown) told came before.has.params_are
            (ap length c.as_slice.ensures.value) before.holds.told_are c.requires.ended before.under goes
            (λ inline. c.is_other.ensures.same c.if-is_other.false
            (ap (λ v. is_inline v (length shown)) c.version.ensures ∙ inline)));
      },
    )

pub returns : goal.returns
returns g c =
    let path = c.args.path.now in
    let bytes = c.args.bytes.now in
    let shown = c.as_slice.result.now in
    let writer = c.args.self.now in
    let q = writer.pairs.params in
    let told = c.args.told in
    takes_step g.D.Disk.state (Write path 0 bytes) told c.args.disk.now c.push_file.new.disk writer
    (record { pairs = c.push_file.new.self; got = length shown; told = told }) c.push_file.result
    (begun_pairs (is_inline q.version (length bytes)) path told bytes) c.push_file.ensures
    (λ p start t before goes. told_first t p q path bytes writer.got writer.told (length shown) told before.holds.came
    before.has.params_are (ap length c.as_slice.ensures.value) before.holds.told_are c.requires.ended before.under goes
    (λ inline. c.is_other.ensures.same c.if-is_other.false
    (ap (λ v. is_inline v (length shown)) c.version.ensures ∙ inline)))
    refl
