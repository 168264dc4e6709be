use Rattle.std.proofs.Common.{rules, ◌≡◌, false, refl, sym, ap, ◌∙◌}
use Rattle.std.proofs.lemmas.Bool.{false_from_ne_true}
use Rattle.store_model.specs.Paths.{is_root}
use Rattle.store_model.specs.Trees.{is_directory, node_at}
use Rattle.dir_tree.proofs.RefusalLemmas.{dir_stands, no_dir_stands, nothing_stands, something_stands, make_at_root}
use Rattle.dir_tree.proofs.RefusalLemmas.{make_below_none, make_over_one, make_of_new, kept_itself, kept_on}
use Rattle.dir_tree.proofs.RefusalLemmas.{still_holds}
use Rattle.dir_tree.proofs.changing.refusal_to_make.Goals as goal

pub returns-in_default-clause-call : goal.returns-in_default-clause-call
returns-in_default-clause-call g c = record {
  faults = refl;
  keeps = kept_itself (g.P.OrderedPairs.state c.args.pairs.now);
  told = λ seen t p holds. make_at_root t c.args.path.now (c.in_default.ensures.none.0 refl);
}

pub returns-then-ne : goal.returns-then-ne
returns-then-ne g c =
    let up = c.in_ok-kind_of.ensures in
    let below : is_root c.args.path.now ≡ false =
    false_from_ne_true _ (λ root. let none = c.in-Some.ensures.none.1 root in cc) in
    record {
      call = record {
        faults = up.call.faults;
        keeps = up.call.keeps;
        told = λ seen t p holds. make_below_none t c.args.path.now below
            (ap (is_directory t) (sym c.in-Some.ensures.value)
            ∙ no_dir_stands (node_at t c.in-Some.parent)
            c.in_ok-kind_of.field-0 (up.call.told seen t p holds) (λ is. search rules));
      };
      hidden = up.hidden;
      follows = up.follows;
    }

pub returns-in-None-clause-call : goal.returns-in-None-clause-call
returns-in-None-clause-call g c =
    let old = g.P.OrderedPairs.state c.args.pairs.now in
    let between = g.P.OrderedPairs.state c.kind_of.new.pairs in
    let up = c.in_ok-kind_of.ensures.call in
    let at = c.in_ok-kind_of-2.ensures.call in
    let below : is_root c.args.path.now ≡ false =
    false_from_ne_true _ (λ root. let none = c.in-Some.ensures.none.1 root in cc) in
    record {
      faults = at.faults ∙ up.faults;
      keeps = kept_on old between (g.P.OrderedPairs.state c.kind_of-2.new.pairs) up.keeps at.keeps;
      told = λ seen t p holds. make_of_new t c.args.path.now below
          (ap (is_directory t) (sym c.in-Some.ensures.value)
          ∙ dir_stands (node_at t c.in-Some.parent) c.in_ok-kind_of.field-0 (up.told seen t p holds) (search rules))
          (nothing_stands (node_at t c.args.path.now)
          c.in_ok-kind_of-2.field-0 (at.told (up.keeps.observable seen) t p
          (still_holds old between t p up.keeps seen holds)) c.in-None.is);
    }

pub returns-in-Some-2 : goal.returns-in-Some-2
returns-in-Some-2 g c =
    let old = g.P.OrderedPairs.state c.args.pairs.now in
    let between = g.P.OrderedPairs.state c.kind_of.new.pairs in
    let up = c.in_ok-kind_of.ensures in
    let at = c.in_ok-kind_of-2.ensures in
    let below : is_root c.args.path.now ≡ false =
    false_from_ne_true _ (λ root. let none = c.in-Some.ensures.none.1 root in cc) in
    record {
      call = record {
        faults = at.call.faults ∙ up.call.faults;
        keeps = kept_on old between (g.P.OrderedPairs.state c.kind_of-2.new.pairs) up.call.keeps at.call.keeps;
        told = λ seen t p holds.
            let stands = something_stands (node_at t c.args.path.now)
            c.in_ok-kind_of-2.field-0 (at.call.told (up.call.keeps.observable seen) t p
            (still_holds old between t p up.call.keeps seen holds)) (λ none. let is = c.in-Some-2.is in cc) in
            make_over_one t c.args.path.now below
            (ap (is_directory t) (sym c.in-Some.ensures.value)
            ∙ dir_stands (node_at t c.in-Some.parent) c.in_ok-kind_of.field-0 (up.call.told seen t p holds)
            (search rules)) stands.0 stands.1;
      };
      hidden = λ seen. up.hidden (at.hidden seen);
      follows = g.met.P.OrderedPairs.follows_trans _ _ _ up.follows at.follows;
    }

pub returns-in_default-clause-follows : goal.returns-in_default-clause-follows
returns-in_default-clause-follows g c = g.met.P.OrderedPairs.follows_refl _

pub returns-in_err-kind_of-clause-hidden : goal.returns-in_err-kind_of-clause-hidden
returns-in_err-kind_of-clause-hidden g c seen = c.kind_of.ensures.hidden seen

pub returns-in_err-kind_of-clause-follows : goal.returns-in_err-kind_of-clause-follows
returns-in_err-kind_of-clause-follows g c = c.kind_of.ensures.follows

pub returns-in_err-kind_of-2-clause-hidden : goal.returns-in_err-kind_of-2-clause-hidden
returns-in_err-kind_of-2-clause-hidden g c seen = c.kind_of.ensures.hidden (c.kind_of-2.ensures.hidden seen)

pub returns-in_err-kind_of-2-clause-follows : goal.returns-in_err-kind_of-2-clause-follows
returns-in_err-kind_of-2-clause-follows g c =
    g.met.P.OrderedPairs.follows_trans _ _ _ c.kind_of.ensures.follows c.kind_of-2.ensures.follows

pub returns-in-None-clause-hidden : goal.returns-in-None-clause-hidden
returns-in-None-clause-hidden g c seen = c.kind_of.ensures.hidden (c.kind_of-2.ensures.hidden seen)

pub returns-in-None-clause-follows : goal.returns-in-None-clause-follows
returns-in-None-clause-follows g c =
    g.met.P.OrderedPairs.follows_trans _ _ _ c.kind_of.ensures.follows c.kind_of-2.ensures.follows
