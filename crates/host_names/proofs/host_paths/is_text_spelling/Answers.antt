use Rattle.std.proofs.Common.{◌∙◌, ap}
use Rattle.std.specs.Str.{is_utf8}
use Rattle.host_names.proofs.TextSpellings.{spelled_text, spelled_none}
use Rattle.host_names.proofs.host_paths.is_text_spelling.Goals as goal

pub returns-in-Some : goal.returns-in-Some
returns-in-Some c = spelled_text c.args.text.now c.in-Some.name.items c.is_utf8.result c.in-Some.ensures.name
    c.in-Some.ensures.spelled (c.is_utf8.ensures ∙ ap is_utf8 c.as_slice.ensures.value)

pub returns-in-None : goal.returns-in-None
returns-in-None c = spelled_none c.args.text.now c.in-None.ensures.none
