use Rattle.std.proofs.Common.{◌≡◌, List, [], ◌∷◌, ◌++◌, length, IfSome, IsNone, refl, sym, ap, subst, ◌∙◌, arith}
use Rattle.store_model.specs.Paths.{attribute_key}
use Rattle.store_model.specs.Pairs.{Pair, attribute_value}
use Rattle.dump_streams.specs.Dumps.{after_step}
use Rattle.dump_streams.specs.Dumps.DumpStep.{Set}
use Rattle.tree_writer.proofs.NextPairs.{told_name, name_fits, name_has_key}
use Rattle.tree_writer.proofs.ToldPairs.{told_is_pairs}
use Rattle.tree_writer.proofs.TakenSteps.{takes_step, ended_step}
use Rattle.tree_writer.proofs.writer.TreeWriter.set.Goals as goal

pub returns-in_err-end_file : goal.returns-in_err-end_file
returns-in_err-end_file g c = λ told.
    ended_step g.D.Disk.state (Set c.args.path.now c.args.name.now c.args.bytes.now) told c.args.disk.now
    c.args.self.now c.args.self.now
    c.in_err-end_file.field-0.0 c.from_residual.result c.from_residual.ensures.1 c.in_err-end_file.ensures.err

pub attribute_value-requires : goal.attribute_value-requires
attribute_value-requires g c =
    let (p, start, t, before, goes) = c.requires in
    let fits = name_fits t p c.args.path.now c.args.name.now c.args.bytes.now before.under goes in
    omega (arith, ap length c.as_slice.ensures.value, (fits.1).short)

pub push-requires : goal.push-requires
push-requires g c =
    let (p, start, t, before, goes) = c.requires in
    let path = c.args.path.now in
    let name = c.args.name.now in
    let bytes = c.args.bytes.now in
    let writer = c.args.self.now in
    let came : List Pair = before.holds.came in
    let key_is : c.in-Some.key ≡ attribute_key path name =
    subst (λ o. IfSome o (λ k. k ≡ attribute_key path name)) c.in-Some.is c.attr_key.ensures.value in (
      p,
      start,
      came,
      record {
        has = before.has;
        pairs = told_is_pairs (after_step t (Set path name bytes)) p writer.got writer.told
            (came ++ (c.in-Some.key, c.attribute_value.result) ∷ []) goes.under.is_tree
            (told_name t p path name bytes c.in-Some.key c.attribute_value.result writer.got writer.told came key_is
            (c.attribute_value.ensures ∙ ap attribute_value c.as_slice.ensures.value) before.holds.told_are
            c.in_ok-end_file.ensures.ok before.under goes);
      },
    )

pub unreachable-requires : goal.unreachable-requires
unreachable-requires g c =
    let (p, start, t, before, goes) = c.requires in
    let none : IsNone c.attr_key.result = subst IsNone (sym c.in-None.is) refl in
    name_has_key t p c.args.path.now c.args.name.now c.args.bytes.now before.under goes
    (c.attr_key.ensures.none.0 none)

pub returns : goal.returns
returns g c = λ told.
    let path = c.args.path.now in
    let name = c.args.name.now in
    let bytes = c.args.bytes.now in
    let writer = c.args.self.now in
    let key_is : c.in-Some.key ≡ attribute_key path name =
    subst (λ o. IfSome o (λ k. k ≡ attribute_key path name)) c.in-Some.is c.attr_key.ensures.value in
    takes_step g.D.Disk.state (Set path name bytes) told c.args.disk.now c.push.new.disk writer
    (record writer { pairs = c.push.new.self }) c.push.result ((c.in-Some.key, c.attribute_value.result) ∷ [])
    c.push.ensures
    (λ p start t before goes. told_name t p path name bytes c.in-Some.key c.attribute_value.result writer.got
    writer.told before.holds.came key_is (c.attribute_value.ensures ∙ ap attribute_value c.as_slice.ensures.value)
    before.holds.told_are c.in_ok-end_file.ensures.ok before.under goes)
    refl
