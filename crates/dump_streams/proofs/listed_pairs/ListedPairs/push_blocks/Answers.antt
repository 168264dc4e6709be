use Rattle.std.proofs.Common.{◌≡◌, ◌==◌, true, false, ◌-◌, ◌≤◌, take, drop, sym, ap, ◌∙◌, arith, length}
use Rattle.std.proofs.lemmas.Bool.Decides.{nat_tests}
use Rattle.std.proofs.lemmas.List.{take_min, drop_min, length-drop, nil_from_length}
use Rattle.store_model.specs.Pairs.{file_block}
use Rattle.seeded_draw.specs.AnyDrawn.{any_draw}
use Rattle.dump_streams.proofs.ListedLemmas.{adds_block, adds_no_block}
use Rattle.dump_streams.proofs.listed_pairs.ListedPairs.push_blocks.Goals as goal

pub loop-rest-preserved : goal.loop-rest-preserved
loop-rest-preserved c =
    let rest = c.loop-rest.rest.now in
    let test : false ≡ (length rest == 0) = sym c.loop-rest-test.true ∙ c.is_empty.ensures in
    let some : 1 ≤ length rest = grind (arith, nat_tests) in
    let front : c.split_at.result.0.now ≡ take file_block rest =
    c.split_at.ensures.front ∙ ap (λ n. take n rest) c.min.ensures ∙ take_min file_block rest in
    let behind : c.split_at.result.1.now ≡ drop file_block rest =
    c.split_at.ensures.back ∙ ap (λ n. drop n rest) c.min.ensures ∙ drop_min file_block rest in
    let left_over : length c.split_at.result.1.now ≡ length rest - file_block =
    ap length behind ∙ length-drop file_block rest in
    let few = c.loop-rest.invariant.few in
    record {
      few = omega (arith, few, some, left_over);
      params = c.push.ensures.params ∙ c.loop-rest.invariant.params;
      first = c.push.ensures.first ∙ c.loop-rest.invariant.first;
      added = λ new more. c.loop-rest.invariant.added new
          (adds_block (any_draw c.args.draw.now) c.args.path.now c.loop-rest.number rest _ _ _
          c.loop-rest.self c.push.new.self new c.key.ensures.value (c.new.ensures ∙ front) behind some
          c.in_ok-push.ensures.added more);
    }

pub returns-clause-added : goal.returns-clause-added
returns-clause-added c =
    let rest = c.loop-rest.rest.now in
    let test : true ≡ (length rest == 0) = sym c.loop-rest-test.false ∙ c.is_empty.ensures in
    let zero : length rest ≡ 0 = grind (arith, nat_tests) in
    c.loop-rest.invariant.added c.loop-rest.self
    (adds_no_block (any_draw c.args.draw.now) c.args.path.now c.loop-rest.number rest
    c.loop-rest.self (nil_from_length rest zero))
