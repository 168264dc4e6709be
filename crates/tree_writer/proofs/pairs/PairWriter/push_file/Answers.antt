use Rattle.std.proofs.Common.{List, length, [], ◌∷◌, ◌++◌, sym, ap, subst, ◌∙◌}
use Rattle.store_model.specs.Pairs.{Pair, is_inline}
use Rattle.dump_streams.specs.Listed.{blocks_from}
use Rattle.tree_writer.specs.Pairs.{MayCome, WritesPairs}
use Rattle.tree_writer.proofs.PairSteps.{may_first, may_then, writes_handed, writes_then, begun_inline, begun_blocks}
use Rattle.tree_writer.proofs.pairs.PairWriter.push_file.Goals as goal

pub returns-then-is_inline : goal.returns-then-is_inline
returns-then-is_inline g c =
    let shown = c.as_slice-bytes.result.now in
    let own = c.args.self.now.params.version in
    subst (λ (xs : List Pair). WritesPairs g.D.Disk.state xs c.args.disk.now c.push.new.disk c.args.self.now
    c.push.new.self c.push.result)
    (begun_inline own c.args.path.now c.args.told shown c.args.bytes.now c.key.result c.inline_value.result
    c.is_inline.result c.as_slice-bytes.ensures.value
    (c.is_inline.ensures ∙ ap (λ v. is_inline v (length shown)) c.version.ensures.value) c.if-is_inline.true
    c.key.ensures.value c.inline_value.ensures) c.push.ensures

pub push-requires-2 : goal.push-requires-2
push-requires-2 g c =
    let state = g.D.Disk.state in
    let shown = c.as_slice-bytes.result.now in
    let own = c.args.self.now.params.version in
    let begun = begun_blocks own c.args.path.now c.args.told shown c.args.bytes.now c.key-2.result c.file_value.result
    c.is_inline.result c.as_slice-bytes.ensures.value
    (c.is_inline.ensures ∙ ap (λ v. is_inline v (length shown)) c.version.ensures.value) c.if-is_inline.false
    c.key-2.ensures.value c.file_value.ensures in
    let (p, start, s, come) = c.requires in (
      p,
      start,
      s,
      may_first p s ((c.key-2.result, c.file_value.result) ∷ []) (blocks_from c.args.path.now 1 shown) (state start)
          (state c.args.disk.now) c.args.self.now
          (subst (λ (xs : List Pair). MayCome p s xs (state start) (state c.args.disk.now) c.args.self.now)
          (sym begun) come),
    )

pub returns-in_err-push : goal.returns-in_err-push
returns-in_err-push g c =
    let state = g.D.Disk.state in
    let shown = c.as_slice-bytes.result.now in
    let own = c.args.self.now.params.version in
    let begun = begun_blocks own c.args.path.now c.args.told shown c.args.bytes.now c.key-2.result c.file_value.result
    c.is_inline.result c.as_slice-bytes.ensures.value
    (c.is_inline.ensures ∙ ap (λ v. is_inline v (length shown)) c.version.ensures.value) c.if-is_inline.false
    c.key-2.ensures.value c.file_value.ensures in
    subst (λ (xs : List Pair). WritesPairs state xs c.args.disk.now c.push-2.new.disk c.args.self.now
    c.push-2.new.self c.from_residual.result) begun
    (writes_handed state ((c.key-2.result, c.file_value.result) ∷ []) (blocks_from c.args.path.now 1 shown)
    c.args.disk.now c.push-2.new.disk c.args.self.now c.push-2.new.self c.in_err-push.field-0.0 c.from_residual.result
    c.from_residual.ensures.1 c.in_err-push.ensures)

pub push_blocks-requires-clause-come : goal.push_blocks-requires-clause-come
push_blocks-requires-clause-come g c =
    let state = g.D.Disk.state in
    let shown = c.as_slice-bytes.result.now in
    let own = c.args.self.now.params.version in
    let first : List Pair = (c.key-2.result, c.file_value.result) ∷ [] in
    let blocks : List Pair = blocks_from c.args.path.now 1 shown in
    let begun = begun_blocks own c.args.path.now c.args.told shown c.args.bytes.now c.key-2.result c.file_value.result
    c.is_inline.result c.as_slice-bytes.ensures.value
    (c.is_inline.ensures ∙ ap (λ v. is_inline v (length shown)) c.version.ensures.value) c.if-is_inline.false
    c.key-2.ensures.value c.file_value.ensures in
    let (p, start, s, whole) = c.requires in
    let come = subst (λ (xs : List Pair). MayCome p s xs (state start) (state c.args.disk.now) c.args.self.now)
    (sym begun) whole in (
      p,
      start,
      s ++ first,
      may_then p s first blocks (state start) (state c.args.disk.now) (state c.push-2.new.disk) c.args.self.now
          c.push-2.new.self come
          (c.in_ok-push.ensures.writes p start s
          (may_first p s first blocks (state start) (state c.args.disk.now) c.args.self.now come)),
    )

pub returns : goal.returns
returns g c =
    let state = g.D.Disk.state in
    let shown = c.as_slice-bytes.result.now in
    let own = c.args.self.now.params.version in
    let begun = begun_blocks own c.args.path.now c.args.told shown c.args.bytes.now c.key-2.result c.file_value.result
    c.is_inline.result c.as_slice-bytes.ensures.value
    (c.is_inline.ensures ∙ ap (λ v. is_inline v (length shown)) c.version.ensures.value) c.if-is_inline.false
    c.key-2.ensures.value c.file_value.ensures in
    subst (λ (xs : List Pair). WritesPairs state xs c.args.disk.now c.push_blocks.new.disk c.args.self.now
    c.push_blocks.new.self c.push_blocks.result) begun
    (writes_then state ((c.key-2.result, c.file_value.result) ∷ []) (blocks_from c.args.path.now 1 shown)
    c.args.disk.now c.push-2.new.disk c.push_blocks.new.disk c.args.self.now c.push-2.new.self c.push_blocks.new.self
    c.push_blocks.result c.in_ok-push.ensures c.push_blocks.ensures)
