use Rattle.std.proofs.Common.{rules, ◌≡◌, ◌<◌, length, get_or, refl, ◌∙◌, ap, arith, take, length-append}
use Rattle.std.specs.List.{flat_map}
use Rattle.host_folders.specs.FoundEntries.{folder_paths, paths_of}
use Rattle.host_folders.specs.Faults.{find_fault}
use Rattle.host_folders.specs.Walks.{EndsWalk}
use Rattle.host_folders.specs.declared.walk.TheConstants.{MAX_FOUND}
use Rattle.host_folders.proofs.FaultLemmas.{err_of}
use Rattle.host_folders.proofs.WalkLemmas.{walks_none, walks_more, walk_fails}
use Rattle.host_folders.proofs.walk.list_found.Goals as goal

pub loop-at-init : goal.loop-at-init
unfolding paths_of
loop-at-init g c = record {
  observable = refl;
  faults = refl;
  walked = λ _. walks_none (g.F.Folder.state c.args.folder.now) c.args.found.now.items;
  passed = λ _. omega arith;
}

pub loop-at-preserved : goal.loop-at-preserved
loop-at-preserved g c =
    let x = c.in-Some.entry in
    let found = c.loop-at.found.items in
    let in_range : c.loop-at.at < length found = search rules in
    let x_is : get_or found c.loop-at.at x ≡ x = search rules in
    let same_state = c.loop-at.invariant.observable in
    record {
      observable = c.in_ok-list_one-in-Some.ensures.observable ∙ same_state;
      faults = c.in_ok-list_one-in-Some.ensures.faults ∙ c.loop-at.invariant.faults;
      walked = λ observable. walks_more (g.F.Folder.state c.args.folder.now) (g.F.Folder.state c.loop-at.folder)
          (g.F.Folder.state c.list_one.new.folder)
          c.args.found.now.items found c.list_one.new.found.items c.loop-at.at x in_range x_is
          (c.loop-at.invariant.walked observable) (c.in_ok-list_one-in-Some.ensures.told (same_state ∙ observable));
      passed = λ observable.
          let told = c.in_ok-list_one-in-Some.ensures.told (same_state ∙ observable) in
          let part = flat_map (λ answer. answer.1) told.answers in
          omega (arith, in_range, ap length told.found, length-append found part);
    }

pub returns-clause-many : goal.returns-clause-many
returns-clause-many g c observable = record {
  folders = folder_paths (take c.loop-at.at c.loop-at.found.items);
  walks = c.loop-at.invariant.walked observable;
  many = omega (arith, c.loop-at.invariant.passed observable, c.loop-at-test.false);
}

pub returns-in_err-list_one-in-Some-clause-many : goal.returns-in_err-list_one-in-Some-clause-many
returns-in_err-list_one-in-Some-clause-many g c observable =
    let cause = c.in_err-list_one-in-Some.field-0.0 in
    let old = g.F.Folder.state c.args.folder.now in
    let new = g.F.Folder.state c.list_one.new.folder in
    err_of c.from_residual.result (find_fault cause)
    (EndsWalk old new MAX_FOUND c.args.found.now.items c.list_one.new.found.items) c.from_residual.ensures.1
    (walk_fails old new MAX_FOUND c.args.found.now.items c.list_one.new.found.items cause)
