use Rattle.std.proofs.Common.{◌≡◌, ◌++◌, ◌∷◌, [], IsTrue, Some, ap, arith}
use Rattle.std.specs.Option.{is_some}
use Rattle.store_model.specs.Paths.{Path, is_path, key}
use Rattle.host_names.proofs.ImagePathNames.{moved_name, fits_name, path_with, not_root, same_first, is_there}
use Rattle.host_names.proofs.image_paths.path_below.Goals as goal

pub returns-in_default-clause-too_long : goal.returns-in_default-clause-too_long
returns-in_default-clause-too_long c _ =
    (fits_name c.root.result c.args.folder.now c.path_of.result c.args.spelled.now c.key.result c.replant.result
    c.root.ensures c.path_of.ensures.value c.path_of.ensures.valid c.key.ensures.value c.replant.ensures.none).0
    (ap is_some c.in_default.is)

pub unreachable-requires : goal.unreachable-requires
unreachable-requires c =
    let path : Path = c.args.folder.now ++ c.args.spelled.now ∷ [] in
    let moved : c.in-Some.key ≡ key path 0 =
    moved_name c.root.result c.args.folder.now c.path_of.result c.args.spelled.now c.key.result c.in-Some.key
    c.root.ensures c.path_of.ensures.value c.path_of.ensures.valid c.key.ensures.value c.in-Some.ensures.value in
    let fits = fits_name c.root.result c.args.folder.now c.path_of.result c.args.spelled.now c.key.result
    (Some c.in-Some.key) c.root.ensures c.path_of.ensures.value c.path_of.ensures.valid c.key.ensures.value
    c.in-Some.ensures.none in
    let valid : IsTrue (is_path path) =
    path_with c.args.folder.now c.args.spelled.now c.in-Some.key c.is_root.ensures.valid c.requires.name fits in
    is_there c.of_key.result (path, 0) c.in-None.is
    (c.of_key.ensures.only path 0 valid (not_root c.args.folder.now c.args.spelled.now) (omega arith) moved)

pub returns-clause-ok : goal.returns-clause-ok
returns-clause-ok c =
    let path : Path = c.args.folder.now ++ c.args.spelled.now ∷ [] in
    let moved : c.in-Some.key ≡ key path 0 =
    moved_name c.root.result c.args.folder.now c.path_of.result c.args.spelled.now c.key.result c.in-Some.key
    c.root.ensures c.path_of.ensures.value c.path_of.ensures.valid c.key.ensures.value c.in-Some.ensures.value in
    let fits = fits_name c.root.result c.args.folder.now c.path_of.result c.args.spelled.now c.key.result
    (Some c.in-Some.key) c.root.ensures c.path_of.ensures.value c.path_of.ensures.valid c.key.ensures.value
    c.in-Some.ensures.none in
    let valid : IsTrue (is_path path) =
    path_with c.args.folder.now c.args.spelled.now c.in-Some.key c.is_root.ensures.valid c.requires.name fits in
    let is = c.of_key.ensures.only path 0 valid (not_root c.args.folder.now c.args.spelled.now) (omega arith) moved in
    same_first c.of_key.result c.in-Some-of_key.found path 0 c.in-Some-of_key.is is
