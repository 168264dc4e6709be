use Rattle.std.proofs.Common.{IsTrue, sym, subst, ◌∙◌}
use Rattle.store_model.specs.Paths.{is_name}
use Rattle.host_names.specs.HostNames.{escaped, is_host_name}
use Rattle.host_names.proofs.Spellings.{escaped_is_name}
use Rattle.host_names.proofs.ImagePathNames.{long_name}
use Rattle.host_names.proofs.image_paths.image_path.Goals as goal

pub path_below-requires-clause-name : goal.path_below-requires-clause-name
path_below-requires-clause-name c =
    let named : IsTrue (is_host_name c.args.name.now) = sym c.is_host_name.ensures ∙ c.if-not-is_host_name.false in
    subst (λ t. IsTrue (is_name t)) (sym (c.as_slice.ensures.value ∙ c.in-Some.ensures.some))
    (escaped_is_name c.args.name.now named)

pub returns-in-None-clause-too_long : goal.returns-in-None-clause-too_long
returns-in-None-clause-too_long c _ = long_name c.args.folder.now (escaped c.args.name.now) c.in-None.ensures.none
