use Rattle.std.proofs.Common.{rules, ◌≡◌, ◌∙◌, nat_eq}
use Rattle.std.specs.List.{dedup}
use Rattle.std.specs.Cmp.Lexicographic.{pointwise}
use Rattle.std.proofs.lemmas.Fn.{dedup_same}
use Rattle.std.proofs.lemmas.List.Sorted.{answers_always}
use Rattle.path_keys.specs.PathOrder.{paths_ties}
use Rattle.host_folders.specs.Faults.{find_fault}
use Rattle.host_folders.specs.Walks.{AreInOrder, EndsFinding, at_one_path}
use Rattle.host_folders.specs.declared.found.Found.{Found}
use Rattle.host_folders.specs.declared.walk.TheConstants.{MAX_FOUND}
use Rattle.host_folders.proofs.FaultLemmas.{err_of}
use Rattle.host_folders.proofs.WalkLemmas.{lists_root, told_all, are_apart, ends_finding, finding_fails}
use Rattle.host_folders.proofs.walk.find_all.Goals as goal

pub returns-clause-apart : goal.returns-clause-apart
returns-clause-apart g c =
    let sorted = c.sort_unstable_by_key.new.self.items in
    let order : AreInOrder sorted = c.sort_unstable_by_key.ensures.sorted (λ (f : Found). f.path)
    (answers_always _ _ _ (λ f a r q k. search rules)) in
    let once : c.dedup_by_key.new.self.items ≡ dedup at_one_path sorted =
    dedup_same _ at_one_path _ (λ x y b f' x' y' k.
    let compared : (b ≡ pointwise (pointwise nat_eq) x.path y.path) × (f' ≡ _) × (x' ≡ x) × (y' ≡ y) =
    search rules in
    (compared.0 ∙ paths_ties x.path y.path, compared.1, compared.2, compared.3)) _ _
    c.dedup_by_key.ensures.filtered in
    are_apart sorted c.dedup_by_key.new.self.items order once

pub returns-clause-told : goal.returns-clause-told
returns-clause-told g c observable =
    let state_of = g.F.Folder.state in
    let sorted = c.sort_unstable_by_key.new.self.items in
    let order : AreInOrder sorted = c.sort_unstable_by_key.ensures.sorted (λ (f : Found). f.path)
    (answers_always _ _ _ (λ f a r q k. search rules)) in
    let once : c.dedup_by_key.new.self.items ≡ dedup at_one_path sorted =
    dedup_same _ at_one_path _ (λ x y b f' x' y' k.
    let compared : (b ≡ pointwise (pointwise nat_eq) x.path y.path) × (f' ≡ _) × (x' ≡ x) × (y' ≡ y) =
    search rules in
    (compared.0 ∙ paths_ties x.path y.path, compared.1, compared.2, compared.3)) _ _
    c.dedup_by_key.ensures.filtered in
    told_all (state_of c.args.folder.now) (state_of c.list.new.self) (state_of c.list_found.new.folder)
    c.list.new.found.items c.list_found.new.found.items c.dedup_by_key.new.self.items
    (lists_root (state_of c.args.folder.now) (state_of c.list.new.self) c.root.result c.new-found.result.items
    c.list.new.found.items c.root.ensures c.new-found.ensures.items (c.in_ok-list.ensures.listed observable))
    (c.in_ok-list_found.ensures.told (c.list.ensures.observable ∙ observable))
    (record {
      sorted = sorted;
      told_is = c.sort_unstable_by_key.ensures.permutation;
      in_order = order;
      found_is = once;
    })

pub returns-in_err-list-clause-many : goal.returns-in_err-list-clause-many
returns-in_err-list-clause-many g c observable =
    let old = g.F.Folder.state c.args.folder.now in
    let new = g.F.Folder.state c.list.new.self in
    let cause = c.in_err-list.field-0.0 in
    err_of c.from_residual.result (find_fault cause) (EndsFinding old new MAX_FOUND) c.from_residual.ensures.1
    (finding_fails old new MAX_FOUND cause)

pub returns-in_err-list_found-clause-many : goal.returns-in_err-list_found-clause-many
returns-in_err-list_found-clause-many g c observable =
    let state_of = g.F.Folder.state in
    let old = state_of c.args.folder.now in
    let mid = state_of c.list.new.self in
    let new = state_of c.list_found.new.folder in
    let fault = c.in_err-list_found.field-0.0 in
    err_of c.from_residual-in_err-list_found.result fault (EndsFinding old new MAX_FOUND)
    c.from_residual-in_err-list_found.ensures.1
    (ends_finding old mid new MAX_FOUND c.list.new.found.items c.list_found.new.found.items fault
    (lists_root old mid c.root.result c.new-found.result.items c.list.new.found.items c.root.ensures
    c.new-found.ensures.items (c.in_ok-list.ensures.listed observable))
    (c.in_err-list_found.ensures.many (c.list.ensures.observable ∙ observable)))
