use Rattle.std.proofs.Common.{◌≡◌, ◌++◌, ◌∷◌, [], arith, false}
use Rattle.store_model.specs.Paths.{is_root}
use Rattle.host_names.proofs.HostPathNames.{has_names, parent_shorter, split_by}
use Rattle.box_words.specs.Shown.{shown_name}
use Rattle.box_words.proofs.ShownNames.{on_ok, text_by_more}
use Rattle.box_words.proofs.paths.+push_names.Goals as goal

pub push_names-requires : goal.push_names-requires
push_names-requires t c =
    let other : is_root c.args.path.now ≡ false = has_names c.args.path.now c.in-Some.parent c.in-Some.ensures.none in
    (omega (arith, parent_shorter c.args.path.now c.in-Some.parent other c.in-Some.ensures.value, c.decreases), tt)

pub last_name-requires : goal.last_name-requires
last_name-requires t c = has_names c.args.path.now c.in-Some.parent c.in-Some.ensures.none

pub returns : goal.returns
returns t c =
    let other : is_root c.args.path.now ≡ false = has_names c.args.path.now c.in-Some.parent c.in-Some.ensures.none in
    let split : c.args.path.now ≡ c.in-Some.parent ++ c.last_name.result.now ∷ [] =
    split_by c.args.path.now c.in-Some.parent c.last_name.result.now other
    c.in-Some.ensures.value c.last_name.ensures.value in
    on_ok c.push_name.result (λ last. text_by_more (shown_name c.args.spelling) c.args.path.now c.in-Some.parent
    c.last_name.result.now c.args.into.now.items _ c.push_name.new.into.items split c.in_ok-push_names.ensures last)
    c.push_name.ensures
