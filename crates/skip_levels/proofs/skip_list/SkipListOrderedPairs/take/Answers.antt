use Rattle.std.proofs.Common.{true, Ok, subst}
use Rattle.skip_levels.specs.ListState.{ListState}
use Rattle.skip_levels.specs.PagePairs.{list_over}
use Rattle.ordered_pairs.specs.PairsState.{IsPairTake}
use Rattle.skip_levels.proofs.ListCalls.{whole_behind_take, known_behind_take, list_taken}
use Rattle.skip_levels.proofs.skip_list.SkipListOrderedPairs.take.Goals as goal

pub invariant_of-self-2 : goal.invariant_of-self-2
invariant_of-self-2 g c =
    let drawn = g.W.Draw.drawn c.self.inside.draw in
    let old = g.P.Pages.state c.self.inside.pages in
    let new = g.P.Pages.state c.take_pair.new.pages in
    let whole = c.if-not-self.false in
    let held = c.self.invariant.whole whole in
    record {
      whole = λ w. whole_behind_take drawn old new c.args.key.now c.self.inside.is_whole whole held
          c.in_ok-value.value c.take_pair.new.self.known c.in_ok-value.ensures.call;
      place = λ w. known_behind_take drawn old new c.args.key.now c.self.inside.is_whole whole held
          c.in_ok-value.value c.take_pair.new.self.known c.in_ok-value.ensures.call;
    }

pub returns-clause-call : goal.returns-clause-call
returns-clause-call g c =
    let drawn = g.W.Draw.drawn in
    let state = g.P.Pages.state in
    let s = c.self.inside in
    let new = c.take_pair.new.pages in
    subst (λ (v : ListState g.row.P.Denot g.row.W.Denot).
    IsPairTake (list_over (drawn v.draw) v.is_whole (state v.pages))
    (list_over (drawn s.draw) true (state new)) c.args.key.now (Ok c.in_ok-value.value)) c.self.view_is
    (list_taken (drawn s.draw) (state s.pages) (state new)
    c.args.key.now s.is_whole c.if-not-self.false (c.self.invariant.whole c.if-not-self.false)
    c.in_ok-value.value c.take_pair.new.self.known c.in_ok-value.ensures.call)
