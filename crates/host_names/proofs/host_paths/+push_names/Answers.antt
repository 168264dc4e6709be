use Rattle.std.proofs.Common.{◌≡◌, ◌++◌, ◌∷◌, [], arith, false, refl}
use Rattle.std.proofs.lemmas.Result.{err_from_is_err_and}
use Rattle.store_model.specs.Paths.{is_root, last_name}
use Rattle.host_names.proofs.HostPathNames.{has_names, parent_shorter, split_by, none_below, none_at, ok_more}
use Rattle.host_names.proofs.host_paths.+push_names.Goals as goal

pub push_names-requires : goal.push_names-requires
push_names-requires t c =
    let other : is_root c.args.path.now ≡ false = has_names c.args.path.now c.in-Some.parent c.in-Some.ensures.none in
    (omega (arith, parent_shorter c.args.path.now c.in-Some.parent other c.in-Some.ensures.value, c.decreases), tt)

pub last_name-requires : goal.last_name-requires
last_name-requires t c = has_names c.args.path.now c.in-Some.parent c.in-Some.ensures.none

pub returns-in_err-push_names-clause-no_spelling : goal.returns-in_err-push_names-clause-no_spelling
returns-in_err-push_names-clause-no_spelling t c =
    let other : is_root c.args.path.now ≡ false = has_names c.args.path.now c.in-Some.parent c.in-Some.ensures.none in
    let split : c.args.path.now ≡ c.in-Some.parent ++ last_name c.args.path.now ∷ [] =
    split_by c.args.path.now c.in-Some.parent (last_name c.args.path.now) other c.in-Some.ensures.value refl in
    let p = err_from_is_err_and c.from_residual.result c.from_residual.ensures.1 in
    rw (p.1, p.2) (λ h. none_below c.args.path.now c.in-Some.parent (last_name c.args.path.now ∷ []) split
    (c.in_err-push_names.ensures.no_spelling h))

pub returns-clause-ok : goal.returns-clause-ok
returns-clause-ok t c =
    let other : is_root c.args.path.now ≡ false = has_names c.args.path.now c.in-Some.parent c.in-Some.ensures.none in
    let split : c.args.path.now ≡ c.in-Some.parent ++ c.last_name.result.now ∷ [] =
    split_by c.args.path.now c.in-Some.parent c.last_name.result.now other
    c.in-Some.ensures.value c.last_name.ensures.value in
    ok_more c.push_name.result c.args.path.now c.in-Some.parent c.last_name.result.now c.args.into.now.items _
    c.push_name.new.into.items split c.in_ok-push_names.ensures.ok c.push_name.ensures.ok

pub returns-clause-no_spelling : goal.returns-clause-no_spelling
returns-clause-no_spelling t c =
    let other : is_root c.args.path.now ≡ false = has_names c.args.path.now c.in-Some.parent c.in-Some.ensures.none in
    let split : c.args.path.now ≡ c.in-Some.parent ++ c.last_name.result.now ∷ [] =
    split_by c.args.path.now c.in-Some.parent c.last_name.result.now other
    c.in-Some.ensures.value c.last_name.ensures.value in
    λ h. none_at c.args.path.now c.in-Some.parent c.last_name.result.now split (c.push_name.ensures.no_spelling h)
