use Rattle.std.proofs.Common.{◌≡◌, false, not, is_some, refl, sym, ap, ◌∙◌}
use Rattle.std.proofs.lemmas.Bool.{or_left, or_right, false≢true}
use Rattle.store_model.specs.Paths.{is_root}
use Rattle.store_model.specs.Trees.{node_at}
use Rattle.dir_tree.proofs.RefusalLemmas.{nothing_stands, something_stands, none_found, kept_itself, kept_on}
use Rattle.dir_tree.proofs.RefusalLemmas.{still_holds}
use Rattle.dir_tree.proofs.RenameLemmas.{rename_at_root, rename_of_none, rename_inside, rename_to_taken}
use Rattle.dir_tree.proofs.RenameLemmas.{rename_tested}
use Rattle.dir_tree.proofs.moving.refusal_to_rename.Goals as goal
use Rattle.dir_tree.proofs.moving.refusal_to_rename.Goals.{then-is_root-via-then-is_root}
use Rattle.dir_tree.proofs.moving.refusal_to_rename.Goals.{then-is_root-via-else-is_root+then-is_root-2}

pub returns-then-is_root-clause-call : goal.returns-then-is_root-clause-call
returns-then-is_root-clause-call g c = record {
  faults = refl;
  keeps = kept_itself (g.P.OrderedPairs.state c.args.pairs.now);
  told = λ seen t p holds. rename_at_root t c.args.from.now c.args.to.now (elim c.then-is_root.branch [
    | then-is_root-via-then-is_root w ↦ or_right (is_root c.args.from.now) (is_root c.args.to.now)
        (sym c.is_root.ensures.value ∙ w.if-is_root.true)
    | then-is_root-via-else-is_root+then-is_root-2 w
        ↦ or_left (is_root c.args.from.now) (is_root c.args.to.now)
        (sym w.is_root-else-is_root.ensures.value ∙ w.if-is_root-2.true)
  ]);
}

pub returns-then-is_none-clause-call : goal.returns-then-is_none-clause-call
returns-then-is_none-clause-call g c =
    let at = c.in_ok-kind_of.ensures.call in
    let low : is_root c.args.from.now ≡ false = sym c.is_root-else-is_root.ensures.value ∙ c.if-is_root-2.false in
    let low_to : is_root c.args.to.now ≡ false = sym c.is_root.ensures.value ∙ c.if-is_root.false in
    record {
      faults = at.faults;
      keeps = at.keeps;
      told = λ seen t p holds. rename_of_none t c.args.from.now c.args.to.now low low_to
          (nothing_stands (node_at t c.args.from.now) c.in_ok-kind_of.field-0 (at.told seen t p holds)
          (none_found c.in_ok-kind_of.field-0 (λ kind is.
          false≢true (sym (c.is_none.ensures ∙ ap not c.if-is_none.true) ∙ ap is_some is))));
    }

pub returns-then-is_inside : goal.returns-then-is_inside
returns-then-is_inside g c =
    let at = c.in_ok-kind_of.ensures in
    let low : is_root c.args.from.now ≡ false = sym c.is_root-else-is_root.ensures.value ∙ c.if-is_root-2.false in
    let low_to : is_root c.args.to.now ≡ false = sym c.is_root.ensures.value ∙ c.if-is_root.false in
    record {
      call = record {
        faults = at.call.faults;
        keeps = at.call.keeps;
        told = λ seen t p holds.
            let stands = something_stands (node_at t c.args.from.now)
            c.in_ok-kind_of.field-0 (at.call.told seen t p holds)
            (λ none. false≢true (sym (ap is_some none) ∙ c.is_none.ensures ∙ ap not c.if-is_none.false)) in
            rename_inside t c.args.from.now c.args.to.now low low_to
            stands.0 stands.1 (sym c.is_inside.ensures.value ∙ c.if-is_inside.true);
      };
      valid = c.is_root.ensures.valid;
      follows = at.follows;
    }

pub returns-in-Some : goal.returns-in-Some
returns-in-Some g c =
    let old = g.P.OrderedPairs.state c.args.pairs.now in
    let between = g.P.OrderedPairs.state c.kind_of.new.pairs in
    let at = c.in_ok-kind_of.ensures in
    let make = c.in_ok-refusal.ensures in
    let low : is_root c.args.from.now ≡ false = sym c.is_root-else-is_root.ensures.value ∙ c.if-is_root-2.false in
    let low_to : is_root c.args.to.now ≡ false = sym c.is_root.ensures.value ∙ c.if-is_root.false in
    record {
      call = record {
        faults = make.call.faults ∙ at.call.faults;
        keeps = kept_on old between (g.P.OrderedPairs.state c.refusal_to_make.new.pairs) at.call.keeps make.call.keeps;
        told = λ seen t p holds.
            let stands = something_stands (node_at t c.args.from.now)
            c.in_ok-kind_of.field-0 (at.call.told seen t p holds)
            (λ none. false≢true (sym (ap is_some none) ∙ c.is_none.ensures ∙ ap not c.if-is_none.false)) in
            rename_to_taken t c.args.from.now c.args.to.now low low_to
            stands.0 stands.1 (sym c.is_inside.ensures.value ∙ c.if-is_inside.false)
            c.in-Some.refusal c.in_ok-refusal.field-0 c.in-Some.is
            (make.call.told (at.call.keeps.observable seen) t p (still_holds old between t p at.call.keeps seen holds));
      };
      valid = c.is_root.ensures.valid;
      follows = g.met.P.OrderedPairs.follows_trans _ _ _ at.follows make.follows;
    }

pub returns : goal.returns
returns g c =
    let old = g.P.OrderedPairs.state c.args.pairs.now in
    let between = g.P.OrderedPairs.state c.kind_of.new.pairs in
    let third = g.P.OrderedPairs.state c.refusal_to_make.new.pairs in
    let at = c.in_ok-kind_of.ensures in
    let make = c.in_ok-refusal.ensures in
    let grow = c.in_ok-outgrows.ensures in
    let keeps = kept_on old between third at.call.keeps make.call.keeps in
    let low : is_root c.args.from.now ≡ false = sym c.is_root-else-is_root.ensures.value ∙ c.if-is_root-2.false in
    let low_to : is_root c.args.to.now ≡ false = sym c.is_root.ensures.value ∙ c.if-is_root.false in
    record {
      call = record {
        faults = grow.call.faults ∙ make.call.faults ∙ at.call.faults;
        keeps = kept_on old third (g.P.OrderedPairs.state c.outgrows.new.pairs) keeps grow.call.keeps;
        told = λ seen t p holds.
            let stands = something_stands (node_at t c.args.from.now)
            c.in_ok-kind_of.field-0 (at.call.told seen t p holds)
            (λ none. false≢true (sym (ap is_some none) ∙ c.is_none.ensures ∙ ap not c.if-is_none.false)) in
            c.then_some.ensures ∙ rename_tested t c.args.from.now c.args.to.now low low_to
            stands.0 stands.1 (sym c.is_inside.ensures.value ∙ c.if-is_inside.false)
            c.in_ok-refusal.field-0 (none_found c.in_ok-refusal.field-0 c.in_default.not-Some)
            (make.call.told (at.call.keeps.observable seen) t p (still_holds old between t p at.call.keeps seen holds))
            c.in_ok-outgrows.field-0 (grow.call.told (keeps.observable seen) t p
            (still_holds old third t p keeps seen holds));
      };
      valid = c.is_root.ensures.valid;
      follows = g.met.P.OrderedPairs.follows_trans _ _ _
          at.follows (g.met.P.OrderedPairs.follows_trans _ _ _ make.follows grow.follows);
    }

pub returns-then-is_root-clause-follows : goal.returns-then-is_root-clause-follows
returns-then-is_root-clause-follows g c = g.met.P.OrderedPairs.follows_refl _

pub returns-in_err-kind_of-clause-follows : goal.returns-in_err-kind_of-clause-follows
returns-in_err-kind_of-clause-follows g c = c.kind_of.ensures.follows

pub returns-then-is_none-clause-follows : goal.returns-then-is_none-clause-follows
returns-then-is_none-clause-follows g c = c.kind_of.ensures.follows

pub returns-in_err-refusal-clause-follows : goal.returns-in_err-refusal-clause-follows
returns-in_err-refusal-clause-follows g c =
    g.met.P.OrderedPairs.follows_trans _ _ _ c.kind_of.ensures.follows c.refusal_to_make.ensures.follows

pub returns-in_err-outgrows-clause-follows : goal.returns-in_err-outgrows-clause-follows
returns-in_err-outgrows-clause-follows g c =
    g.met.P.OrderedPairs.follows_trans _ _ _
    (g.met.P.OrderedPairs.follows_trans _ _ _ c.kind_of.ensures.follows c.refusal_to_make.ensures.follows)
    c.outgrows.ensures.follows
