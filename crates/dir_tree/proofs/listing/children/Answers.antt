use Rattle.std.proofs.Common.{List, length, refl, sym, ap, subst, ◌∙◌, arith}
use Rattle.store_model.specs.Commands.{Child}
use Rattle.std.specs.Ordering.{is_le}
use Rattle.dir_tree.proofs.NextLemmas.{of_found}
use Rattle.dir_tree.proofs.RefusalLemmas.{kept_itself, kept_on, still_holds}
use Rattle.dir_tree.proofs.ListingLemmas.{IsPartListed, none_listed, next_listed, none_listed_more, few_listed, IsPast}
use Rattle.dir_tree.proofs.ListingLemmas.{short_name}
use Rattle.dir_tree.proofs.listing.children.Goals as goal

pub loop-init : goal.loop-init
loop-init g c =
    let from = c.below-from.ensures in
    record {
      faults = refl;
      keeps = kept_itself (g.P.OrderedPairs.state c.args.pairs.now);
      part = λ seen t p holds directory.
          subst (λ (entries : List Child). IsPartListed t c.args.path.now c.below-from.result 0 entries)
          (sym c.new-entries.ensures)
          (none_listed t c.args.path.now c.below-from.result holds.tree (record {
            own = record { blocks = from.blocks; attributes = from.attributes };
            below = from.below;
          }));
      follows = g.met.P.OrderedPairs.follows_refl _;
    }

pub name-requires : goal.name-requires
name-requires g c = of_found _ c.in_ok-child.field-0 c.in-Some.child c.in-Some.is c.in_ok-child.ensures.call.below_root

pub push-requires : goal.push-requires
push-requires g c =
    let valid = of_found _ c.in_ok-child.field-0 c.in-Some.child c.in-Some.is c.in_ok-child.ensures.call.valid in
    let below_root = of_found _ c.in_ok-child.field-0 c.in-Some.child c.in-Some.is c.in_ok-child.ensures.call.below_root
    in
    let short = short_name c.in-Some.child valid below_root in
    omega (arith, ap length c.name.ensures)

pub loop-preserved : goal.loop-preserved
loop-preserved g c =
    let old = g.P.OrderedPairs.state c.args.pairs.now in
    let here = g.P.OrderedPairs.state c.loop.pairs in
    let between = g.P.OrderedPairs.state c.next_child.new.pairs in
    let kept = c.loop.invariant in
    let search = c.in_ok-child.ensures in
    let size = c.in_ok-size.ensures in
    let keeps = kept_on old here between kept.keeps search.call.keeps in
    let past : IsPast c.in-Some.child c.past-from.result = record {
      above = c.past-from.ensures.above;
      below = λ q j valid outside l. ap is_le (c.past-from.ensures.below q j valid outside l);
    } in
    record {
      faults = size.call.faults ∙ search.call.faults ∙ kept.faults;
      keeps = kept_on old between (g.P.OrderedPairs.state c.size_of.new.pairs) keeps size.call.keeps;
      part = λ seen t p holds directory.
          let part = kept.part seen t p holds directory in
          let holds_here = still_holds old here t p kept.keeps seen holds in
          next_listed t c.args.path.now c.loop.counter c.loop.from c.past-from.result c.loop.entries _
          c.name.result.now c.in_ok-size.size c.in_ok-child.field-0 c.in-Some.child holds.tree part c.in-Some.is
          (search.call.found (kept.keeps.observable seen) t p holds_here
          c.below-from.ensures.path directory part.between)
          past c.name.ensures (size.call.told (keeps.observable seen) t p
          (still_holds old between t p keeps seen holds)) c.in_ok-push.ensures.ok;
      follows = g.met.P.OrderedPairs.follows_trans _ _ _
          kept.follows (g.met.P.OrderedPairs.follows_trans _ _ _ search.follows size.follows);
    }

pub returns-in_default-clause-call : goal.returns-in_default-clause-call
returns-in_default-clause-call g c =
    let old = g.P.OrderedPairs.state c.args.pairs.now in
    let here = g.P.OrderedPairs.state c.loop.pairs in
    let kept = c.loop.invariant in
    let search = c.in_ok-child.ensures in
    record {
      faults = search.call.faults ∙ kept.faults;
      keeps = kept_on old here (g.P.OrderedPairs.state c.next_child.new.pairs) kept.keeps search.call.keeps;
      listed = λ seen t p holds directory.
          let part = kept.part seen t p holds directory in
          none_listed_more t c.args.path.now c.loop.counter c.loop.from c.loop.entries c.in_ok-child.field-0 holds.tree
          part c.in_default.not-Some
          (search.call.found (kept.keeps.observable seen) t p
          (still_holds old here t p kept.keeps seen holds) c.below-from.ensures.path directory part.between);
    }

pub returns-clause-call : goal.returns-clause-call
returns-clause-call g c =
    let kept = c.loop.invariant in
    record {
      faults = kept.faults;
      keeps = kept.keeps;
      listed = λ seen t p holds directory.
          let few = few_listed (g.P.OrderedPairs.state c.args.pairs.now) t p
          c.args.path.now c.loop.from c.loop.counter c.loop.entries holds
          (g.met.P.OrderedPairs.few c.args.pairs.now seen) (kept.part seen t p holds directory) in
          absurd (omega arith);
    }

pub returns-in_err-child-clause-follows : goal.returns-in_err-child-clause-follows
returns-in_err-child-clause-follows g c =
    g.met.P.OrderedPairs.follows_trans _ _ _ c.loop.invariant.follows c.next_child.ensures.follows

pub returns-in_default-clause-follows : goal.returns-in_default-clause-follows
returns-in_default-clause-follows g c =
    g.met.P.OrderedPairs.follows_trans _ _ _ c.loop.invariant.follows c.next_child.ensures.follows

pub returns-in_err-size-clause-follows : goal.returns-in_err-size-clause-follows
returns-in_err-size-clause-follows g c =
    g.met.P.OrderedPairs.follows_trans _ _ _
    (g.met.P.OrderedPairs.follows_trans _ _ _ c.loop.invariant.follows c.next_child.ensures.follows)
    c.size_of.ensures.follows

pub returns-in_err-push-clause-follows : goal.returns-in_err-push-clause-follows
returns-in_err-push-clause-follows g c =
    g.met.P.OrderedPairs.follows_trans _ _ _
    (g.met.P.OrderedPairs.follows_trans _ _ _ c.loop.invariant.follows c.next_child.ensures.follows)
    c.size_of.ensures.follows

pub returns-clause-follows : goal.returns-clause-follows
returns-clause-follows g c = c.loop.invariant.follows
