use Rattle.std.proofs.Common.{◌<◌, length, true, Ok, sym, subst}
use Rattle.skip_levels.specs.ListState.{ListState}
use Rattle.skip_levels.specs.PagePairs.{pairs_of_map, list_over, IsHeld}
use Rattle.ordered_pairs.specs.PairsState.{IsPairPut, most_pairs}
use Rattle.skip_levels.proofs.ListCalls.{whole_behind_put, known_behind_put, list_put}
use Rattle.skip_levels.proofs.skip_list.SkipListOrderedPairs.put.Goals as goal

pub put_pair-requires-clause-room : goal.put_pair-requires-clause-room
put_pair-requires-clause-room g c o =
    let drawn = g.W.Draw.drawn in
    let state = g.P.Pages.state in
    let room = subst (λ (v : ListState g.row.P.Denot g.row.W.Denot). IsHeld (drawn v.draw) v.is_whole (state v.pages)
    → length (pairs_of_map (state v.pages).pages) < most_pairs) (sym c.self.view_is) c.requires in
    room (c.if-not-self.false, (o, c.self.invariant.whole c.if-not-self.false o))

pub invariant_of-self-2 : goal.invariant_of-self-2
invariant_of-self-2 g c =
    let drawn = g.W.Draw.drawn in
    let state = g.P.Pages.state in
    let s = c.self.inside in
    let room = subst (λ (v : ListState g.row.P.Denot g.row.W.Denot). IsHeld (drawn v.draw) v.is_whole (state v.pages)
    → length (pairs_of_map (state v.pages).pages) < most_pairs) (sym c.self.view_is) c.requires in
    let held = c.self.invariant.whole c.if-not-self.false in
    record {
      whole = λ w. whole_behind_put (drawn s.draw) (state s.pages)
          (state c.put_pair.new.pages) c.args.key s.is_whole c.if-not-self.false held tt
          c.args.value c.put_pair.new.self.known c.reveal_pair.ensures.key c.reveal_pair.ensures.value room
          c.in_ok-put_pair.ensures.call;
      place = λ w. known_behind_put (drawn s.draw) (state s.pages)
          (state c.put_pair.new.pages) c.args.key s.is_whole c.if-not-self.false held tt
          c.args.value c.put_pair.new.self.known c.reveal_pair.ensures.key c.reveal_pair.ensures.value room
          c.in_ok-put_pair.ensures.call;
    }

pub returns-clause-call : goal.returns-clause-call
returns-clause-call g c =
    let drawn = g.W.Draw.drawn in
    let state = g.P.Pages.state in
    let s = c.self.inside in
    let new = c.put_pair.new.pages in
    let room = subst (λ (v : ListState g.row.P.Denot g.row.W.Denot). IsHeld (drawn v.draw) v.is_whole (state v.pages)
    → length (pairs_of_map (state v.pages).pages) < most_pairs) (sym c.self.view_is) c.requires in
    let held = c.self.invariant.whole c.if-not-self.false in
    subst (λ (v : ListState g.row.P.Denot g.row.W.Denot).
    IsPairPut (list_over (drawn v.draw) v.is_whole (state v.pages))
    (list_over (drawn s.draw) true (state new)) c.args.key c.args.value (Ok tt)) c.self.view_is
    (list_put (drawn s.draw) (state s.pages) (state new) c.args.key s.is_whole c.if-not-self.false held tt
    c.args.value c.put_pair.new.self.known c.reveal_pair.ensures.key c.reveal_pair.ensures.value room
    c.in_ok-put_pair.ensures.call)
