use Rattle.std.proofs.Common.{◌≡◌, ◌++◌, ◌∷◌, [], arith, false, refl}
use Rattle.store_model.specs.Paths.{is_root}
use Rattle.host_names.proofs.HostPathNames.{has_names, parent_shorter, split_by}
use Rattle.host_names.proofs.TextSpellings.{text_more, text_less}
use Rattle.host_names.proofs.host_paths.+has_host_text.Goals as goal

pub has_host_text-requires : goal.has_host_text-requires
has_host_text-requires t c =
    let other : is_root c.args.path.now ≡ false = has_names c.args.path.now c.in-Some.parent c.in-Some.ensures.none in
    (omega (arith, parent_shorter c.args.path.now c.in-Some.parent other c.in-Some.ensures.value, c.decreases), tt)

pub last_name-requires : goal.last_name-requires
last_name-requires t c = has_names c.args.path.now c.in-Some.parent c.in-Some.ensures.none

pub returns-then-is_text_spelling : goal.returns-then-is_text_spelling
returns-then-is_text_spelling t c =
    let other : is_root c.args.path.now ≡ false = has_names c.args.path.now c.in-Some.parent c.in-Some.ensures.none in
    let split : c.args.path.now ≡ c.in-Some.parent ++ c.last_name.result.now ∷ [] =
    split_by c.args.path.now c.in-Some.parent c.last_name.result.now other
    c.in-Some.ensures.value c.last_name.ensures.value in
    text_more c.args.path.now c.in-Some.parent c.last_name.result.now c.is_text_spelling.result c.has_host_text.result
    split c.is_text_spelling.ensures c.if-is_text_spelling.true c.has_host_text.ensures

pub returns-else-is_text_spelling : goal.returns-else-is_text_spelling
returns-else-is_text_spelling t c =
    let other : is_root c.args.path.now ≡ false = has_names c.args.path.now c.in-Some.parent c.in-Some.ensures.none in
    let split : c.args.path.now ≡ c.in-Some.parent ++ c.last_name.result.now ∷ [] =
    split_by c.args.path.now c.in-Some.parent c.last_name.result.now other
    c.in-Some.ensures.value c.last_name.ensures.value in
    text_less c.args.path.now c.in-Some.parent c.last_name.result.now c.is_text_spelling.result split
    c.is_text_spelling.ensures c.if-is_text_spelling.false
