use Rattle.std.proofs.Common.{Ok, Err, sym, ap, subst, ◌∙◌}
use Rattle.seeded_draw.specs.declared.any.AnyDraw.{AnyDraw}
use Rattle.seeded_draw.specs.AnyDrawn.{any_draw}
use Rattle.ordered_pairs.specs.PairsState.{IsNextPair}
use Rattle.skip_levels.specs.PagePairs.{KeepsList}
use Rattle.page_store.specs.StagedState.{StagedState, pages_state}
use Rattle.image_check.specs.declared.fault.ApplyFault.{ApplyFault}
use Rattle.image_check.specs.Faults.{apply_fault_of}
use Rattle.staged_tree.specs.StagedTree.{TreeList, FollowsList}
use Rattle.staged_tree.specs.Steps.{EndsStep}
use Rattle.staged_tree.proofs.ListSteps.{pairs_state, keeps_stays, back_stays}
use Rattle.staged_tree.proofs.NextPairs.{IsNextOf, same_next, whole_next, table_next, next_ends, next_fails}
use Rattle.staged_tree.proofs.next_pair.find_next.Given.{Over}
use Rattle.staged_tree.proofs.next_pair.find_next.Goals as goal

-- the list as it is opened, behind the search
found : (g : Over) (c : goal.After-discard g)
    → (FollowsList g.D.Disk.state c.args.pairs.now (record {
      pages = c.pairs.inside.pages;
      draw = c.pairs.inside.draw;
      is_whole = c.pairs.inside.is_whole;
    }))
    × IsNextPair (pairs_state g.D.Disk.state c.args.pairs.now)
    (pairs_state g.D.Disk.state (record {
      pages = c.pairs.inside.pages;
      draw = c.pairs.inside.draw;
      is_whole = c.pairs.inside.is_whole;
    }))
    c.args.key.now (Ok c.in-Ok.pair)
found g c =
    subst (λ (v : TreeList g.row.D.Denot). FollowsList g.D.Disk.state c.args.pairs.now v
    × IsNextPair (pairs_state g.D.Disk.state c.args.pairs.now)
    (pairs_state g.D.Disk.state v) c.args.key.now (Ok c.in-Ok.pair)) (sym c.pairs.view_is)
    (c.in-Ok.ensures.follows, c.in-Ok.ensures.call)

pub invariant_of-pairs : goal.invariant_of-pairs
invariant_of-pairs g c =
    let state = g.D.Disk.state in
    let s = c.pairs.inside in
    let some = c.requires.list in
    let is = found g c in
    let same = same_next state some.0 some.1.0 c.args.pairs.now _
    some.1.1 c.requires.runs is.0 c.args.key.now (Ok c.in-Ok.pair) is.1 in
    subst (λ (x : StagedState g.row.D.Denot AnyDraw).
    KeepsList (any_draw s.draw) s.is_whole (pages_state state x) s.walk.known) (sym c.discard.ensures)
    (keeps_stays state (any_draw s.draw) s.is_whole s.walk.known s.pages _
    (back_stays state s.pages same) c.pairs.invariant)

pub give_up-requires : goal.give_up-requires
give_up-requires g c =
    let some = c.requires.list in
    table_next g.D.Disk.state some.0 some.1.0 c.args.pairs.now c.next_from.new.self some.1.1 c.requires.runs
    c.in-Err.ensures.follows c.args.key.now (Err c.in-Err.fault) c.in-Err.ensures.call

pub returns-in-Ok-clause-call : goal.returns-in-Ok-clause-call
returns-in-Ok-clause-call g c t p list =
    let state = g.D.Disk.state in
    let is = found g c in
    subst (λ (x : StagedState g.row.D.Denot AnyDraw).
    EndsStep state t t (IsNextOf c.args.key.now p t) p c.args.pairs.now.pages x (Ok c.in-Ok.pair))
    (sym c.discard.ensures)
    (next_ends state t p c.args.pairs.now _ list c.requires.runs is.0 c.args.key.now c.in-Ok.pair is.1)

pub returns-in-Ok-clause-list : goal.returns-in-Ok-clause-list
returns-in-Ok-clause-list g c =
    let state = g.D.Disk.state in
    let some = c.requires.list in
    let is = found g c in
    record {
      draw = is.0.1;
      whole = λ observable. whole_next state some.0 some.1.0 c.args.pairs.now _
          some.1.1 c.requires.runs is.0 c.args.key.now (Ok c.in-Ok.pair)
          is.1 (ap (λ (x : StagedState g.row.D.Denot AnyDraw). (state x.disk).is_observable) (sym c.discard.ensures)
          ∙ observable);
    }

pub returns-in-Err-clause-call : goal.returns-in-Err-clause-call
returns-in-Err-clause-call g c t p list =
    let state = g.D.Disk.state in
    subst (λ (f : ApplyFault). EndsStep state t t
    (IsNextOf c.args.key.now p t) p c.args.pairs.now.pages c.give_up.new.pairs.pages (Err f)) (sym c.into.ensures)
    (subst (λ (x : StagedState g.row.D.Denot AnyDraw).
    EndsStep state t t (IsNextOf c.args.key.now p t) p c.args.pairs.now.pages x
    (Err (apply_fault_of c.in-Err.fault))) (sym c.give_up.ensures.pages)
    (next_fails state t p c.args.pairs.now c.next_from.new.self list
    c.requires.runs c.in-Err.ensures.follows c.args.key.now c.in-Err.fault c.in-Err.ensures.call))
