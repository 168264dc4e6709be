use Rattle.std.proofs.Common.{◌≡◌, ◌==◌, true, false, ◌+◌, ◌-◌, ◌≤◌, List, [], ◌∷◌, ◌++◌, length, Ok}
use Rattle.std.proofs.Common.{sym, ap, subst, ◌∙◌, arith}
use Rattle.std.proofs.lemmas.Bool.Decides.{nat_tests}
use Rattle.std.proofs.lemmas.List.{length-drop, nil_from_length}
use Rattle.store_model.specs.Pairs.{Pair}
use Rattle.dump_streams.specs.Listed.{blocks_from}
use Rattle.tree_writer.specs.Pairs.{MayCome, WritesPairs}
use Rattle.tree_writer.proofs.PairSteps.{may_first, may_then, writes_none, writes_handed, writes_then, block_behind}
use Rattle.tree_writer.proofs.PairSteps.{no_blocks}
use Rattle.tree_writer.proofs.pairs.PairWriter.push_blocks.Goals as goal

pub loop-rest-init : goal.loop-rest-init
loop-rest-init g c = record {
  few = c.requires.few;
  come = c.requires.come;
  further = λ disk new result writes. writes;
}

pub push-requires : goal.push-requires
push-requires g c =
    let state = g.D.Disk.state in
    let rest = c.loop-rest.rest.now in
    let pair : Pair = (c.key.result, c.new.result) in
    let behind = c.split_at.result.1.now in
    let test : false ≡ (length rest == 0) = sym c.loop-rest-test.true ∙ c.is_empty.ensures in
    let some : 1 ≤ length rest = grind (arith, nat_tests) in
    let splits = block_behind c.args.path.now c.loop-rest.number rest c.key.result c.new.result behind c.min.result
    some c.key.ensures.value (c.new.ensures ∙ c.split_at.ensures.front) c.split_at.ensures.back c.min.ensures in
    let (p, start, s, come) = c.loop-rest.invariant.come in (
      p,
      start,
      s,
      may_first p s (pair ∷ []) (blocks_from c.args.path.now (c.loop-rest.number + 1) behind) (state start)
          (state c.loop-rest.disk) c.loop-rest.self
          (subst (λ (xs : List Pair). MayCome p s xs (state start) (state c.loop-rest.disk) c.loop-rest.self) splits
          come),
    )

pub returns-in_err-push : goal.returns-in_err-push
returns-in_err-push g c =
    let state = g.D.Disk.state in
    let rest = c.loop-rest.rest.now in
    let pair : Pair = (c.key.result, c.new.result) in
    let behind = c.split_at.result.1.now in
    let test : false ≡ (length rest == 0) = sym c.loop-rest-test.true ∙ c.is_empty.ensures in
    let some : 1 ≤ length rest = grind (arith, nat_tests) in
    let splits = block_behind c.args.path.now c.loop-rest.number rest c.key.result c.new.result behind c.min.result
    some c.key.ensures.value (c.new.ensures ∙ c.split_at.ensures.front) c.split_at.ensures.back c.min.ensures in
    c.loop-rest.invariant.further c.push.new.disk c.push.new.self c.from_residual.result
    (subst (λ (xs : List Pair). WritesPairs state xs c.loop-rest.disk c.push.new.disk c.loop-rest.self c.push.new.self
    c.from_residual.result) (sym splits)
    (writes_handed state (pair ∷ []) (blocks_from c.args.path.now (c.loop-rest.number + 1) behind) c.loop-rest.disk
    c.push.new.disk c.loop-rest.self c.push.new.self c.in_err-push.field-0.0 c.from_residual.result
    c.from_residual.ensures.1 c.in_err-push.ensures))

pub loop-rest-preserved : goal.loop-rest-preserved
loop-rest-preserved g c =
    let state = g.D.Disk.state in
    let rest = c.loop-rest.rest.now in
    let pair : Pair = (c.key.result, c.new.result) in
    let behind = c.split_at.result.1.now in
    let blocks : List Pair = blocks_from c.args.path.now (c.loop-rest.number + 1) behind in
    let test : false ≡ (length rest == 0) = sym c.loop-rest-test.true ∙ c.is_empty.ensures in
    let some : 1 ≤ length rest = grind (arith, nat_tests) in
    let left_over : length behind ≡ length rest - c.min.result =
    ap length c.split_at.ensures.back ∙ length-drop c.min.result rest in
    let few = c.loop-rest.invariant.few in
    let splits = block_behind c.args.path.now c.loop-rest.number rest c.key.result c.new.result behind c.min.result
    some c.key.ensures.value (c.new.ensures ∙ c.split_at.ensures.front) c.split_at.ensures.back c.min.ensures in
    let (p, start, s, whole) = c.loop-rest.invariant.come in
    let come = subst (λ (xs : List Pair). MayCome p s xs (state start) (state c.loop-rest.disk) c.loop-rest.self)
    splits whole in
    record {
      few = omega (arith, few, some, left_over, c.min.ensures);
      come = (
        p,
        start,
        s ++ pair ∷ [],
        may_then p s (pair ∷ []) blocks (state start) (state c.loop-rest.disk) (state c.push.new.disk)
            c.loop-rest.self c.push.new.self come
            (c.in_ok-push.ensures.writes p start s (may_first p s (pair ∷ []) blocks (state start)
            (state c.loop-rest.disk) c.loop-rest.self come)),
      );
      further = λ disk new result writes. c.loop-rest.invariant.further disk new result
          (subst (λ (xs : List Pair). WritesPairs state xs c.loop-rest.disk disk c.loop-rest.self new result)
          (sym splits)
          (writes_then state (pair ∷ []) blocks c.loop-rest.disk c.push.new.disk disk c.loop-rest.self c.push.new.self
          new result c.in_ok-push.ensures writes));
    }

pub returns : goal.returns
returns g c =
    let rest = c.loop-rest.rest.now in
    let test : true ≡ (length rest == 0) = sym c.loop-rest-test.false ∙ c.is_empty.ensures in
    let zero : length rest ≡ 0 = grind (arith, nat_tests) in
    c.loop-rest.invariant.further c.loop-rest.disk c.loop-rest.self (Ok tt)
    (subst (λ (xs : List Pair). WritesPairs g.D.Disk.state xs c.loop-rest.disk c.loop-rest.disk c.loop-rest.self
    c.loop-rest.self (Ok tt)) (sym (no_blocks c.args.path.now c.loop-rest.number rest (nil_from_length rest zero)))
    (writes_none g.D.Disk.state c.loop-rest.disk c.loop-rest.self))
