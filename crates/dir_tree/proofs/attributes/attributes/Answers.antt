use Rattle.std.proofs.Common.{List, [], ◌∷◌, ◌++◌, ℕ, length, refl, sym, ap, subst, ◌∙◌, arith}
use Rattle.store_model.specs.Commands.{AttributeSize}
use Rattle.dir_tree.proofs.NextLemmas.{of_found}
use Rattle.dir_tree.proofs.RefusalLemmas.{kept_itself, kept_on, still_holds}
use Rattle.dir_tree.proofs.AttributeLemmas.{IsPartListed, none_listed, next_listed, none_listed_more, few_listed}
use Rattle.dir_tree.proofs.AttributeLemmas.{short_name}
use Rattle.dir_tree.proofs.attributes.attributes.Goals as goal

pub loop-init : goal.loop-init
loop-init g c = record {
  faults = refl;
  keeps = kept_itself (g.P.OrderedPairs.state c.args.pairs.now);
  part = λ seen t p holds. subst (λ (entries : List AttributeSize).
      IsPartListed t c.args.path.now c.key-from.result 0 entries) (sym c.new-entries.ensures)
      (none_listed t c.args.path.now c.key-from.result holds.tree c.key-from.ensures.path c.key-from.ensures.value);
  follows = g.met.P.OrderedPairs.follows_refl _;
}

pub push-requires : goal.push-requires
push-requires g c =
    let named = of_found _ c.in_ok-found.field-0 c.in-Some.found c.in-Some.is c.in_ok-found.ensures.call.named in
    let short = short_name c.in-Some.found.name named in
    omega (arith, ap length c.as_bytes.ensures.value)

pub loop-preserved : goal.loop-preserved
loop-preserved g c =
    let old = g.P.OrderedPairs.state c.args.pairs.now in
    let here = g.P.OrderedPairs.state c.loop.pairs in
    let kept = c.loop.invariant in
    let search = c.in_ok-found.ensures in
    record {
      faults = search.call.faults ∙ kept.faults;
      keeps = kept_on old here (g.P.OrderedPairs.state c.next_attr.new.pairs) kept.keeps search.call.keeps;
      part = λ seen t p holds.
          let part = kept.part seen t p holds in
          next_listed t c.args.path.now c.loop.counter c.loop.from c.last_at-from.result c.loop.entries _
          c.in_ok-found.field-0 c.in-Some.found holds.tree c.key-from.ensures.path part c.in-Some.is
          (search.call.found (kept.keeps.observable seen) t p
          (still_holds old here t p kept.keeps seen holds) c.key-from.ensures.path part.low)
          c.last_at-from.ensures.value (c.in_ok-push.ensures.ok
          ∙ ap (λ (n : List ℕ). c.loop.entries ++ (n, c.in-Some.found.size) ∷ []) c.as_bytes.ensures.value);
      follows = g.met.P.OrderedPairs.follows_trans _ _ _ kept.follows search.follows;
    }

pub returns-in_default-clause-call : goal.returns-in_default-clause-call
returns-in_default-clause-call g c =
    let old = g.P.OrderedPairs.state c.args.pairs.now in
    let here = g.P.OrderedPairs.state c.loop.pairs in
    let kept = c.loop.invariant in
    let search = c.in_ok-found.ensures in
    record {
      faults = search.call.faults ∙ kept.faults;
      keeps = kept_on old here (g.P.OrderedPairs.state c.next_attr.new.pairs) kept.keeps search.call.keeps;
      listed = λ seen t p holds.
          let part = kept.part seen t p holds in
          none_listed_more t c.args.path.now c.loop.counter c.loop.from c.loop.entries c.in_ok-found.field-0 holds.tree
          part c.in_default.not-Some
          (search.call.found (kept.keeps.observable seen) t p
          (still_holds old here t p kept.keeps seen holds) c.key-from.ensures.path part.low);
    }

pub returns-clause-call : goal.returns-clause-call
returns-clause-call g c =
    let kept = c.loop.invariant in
    record {
      faults = kept.faults;
      keeps = kept.keeps;
      listed = λ seen t p holds.
          let few = few_listed (g.P.OrderedPairs.state c.args.pairs.now) t p
          c.args.path.now c.loop.from c.loop.counter c.loop.entries holds
          (g.met.P.OrderedPairs.few c.args.pairs.now seen) (kept.part seen t p holds) in
          absurd (omega arith);
    }

pub returns-in_err-found-clause-follows : goal.returns-in_err-found-clause-follows
returns-in_err-found-clause-follows g c =
    g.met.P.OrderedPairs.follows_trans _ _ _ c.loop.invariant.follows c.next_attr.ensures.follows

pub returns-in_default-clause-follows : goal.returns-in_default-clause-follows
returns-in_default-clause-follows g c =
    g.met.P.OrderedPairs.follows_trans _ _ _ c.loop.invariant.follows c.next_attr.ensures.follows

pub returns-in_err-push-clause-follows : goal.returns-in_err-push-clause-follows
returns-in_err-push-clause-follows g c =
    g.met.P.OrderedPairs.follows_trans _ _ _ c.loop.invariant.follows c.next_attr.ensures.follows

pub returns-clause-follows : goal.returns-clause-follows
returns-clause-follows g c = c.loop.invariant.follows
