use Rattle.std.proofs.Common.{rules, ap, ◌∙◌}
use Rattle.host_names.specs.HostNames as model
use Rattle.host_names.proofs.Spellings.{told}
use Rattle.host_names.proofs.telling.unescape.Goals as goal

pub returns-then-not-is_host_name-clause-none : goal.returns-then-not-is_host_name-clause-none
returns-then-not-is_host_name-clause-none c name host e =
    let same = c.as_slice.ensures.value ∙ c.read-name.ensures ∙ told c.args.text.now name host e in
    let tested = c.is_host_name.ensures ∙ ap model.is_host_name same in
    cc

pub returns-then-not-is_spelling-clause-none : goal.returns-then-not-is_spelling-clause-none
returns-then-not-is_spelling-clause-none c name host e =
    let same = c.as_slice-2.ensures.value ∙ c.read-name.ensures ∙ told c.args.text.now name host e in
    c.is_spelling.ensures.no (search rules) (ap model.escaped same ∙ e)
