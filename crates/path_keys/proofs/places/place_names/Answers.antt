use Rattle.std.proofs.Common.{sym, arith, leb-true, ◌≤◌}
use Rattle.std.specs.List.{list_all}
use Rattle.store_model.specs.Paths as model
use Rattle.path_keys.proofs.NameBytes.{words_of_place, second_true}
use Rattle.path_keys.proofs.KeyBytes.{none_used, some_used}
use Rattle.path_keys.proofs.places.place_names.Goals as goal

pub returns-in-0 : goal.returns-in-0
returns-in-0 c place valid e =
    sym (none_used c.args.field.now c.used_len.result place
    (words_of_place place valid) e c.used_len.ensures.front c.used_len.ensures.behind c.in-0.is)

pub returns-in-120 : goal.returns-in-120
returns-in-120 c place valid e =
    let used = some_used c.args.field.now c.used_len.result place
    (words_of_place place valid) e c.used_len.ensures.front c.used_len.ensures.behind (omega (arith, c.in-120.is))
    in
    let fits : model.field_len place ≤ 120 = leb-true _ 120 (second_true (list_all model.is_part place) _ valid) in
    absurd (omega (arith, used.0, c.in-120.is))

pub returns-in_default : goal.returns-in_default
returns-in_default c place valid e =
    (some_used c.args.field.now c.used_len.result place
    (words_of_place place valid) e c.used_len.ensures.front c.used_len.ensures.behind
    (omega (arith, c.in_default))).1
