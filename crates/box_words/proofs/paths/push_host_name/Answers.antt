use Rattle.std.proofs.Common.{◌≡◌, ◌++◌, List, ℕ, sym, ◌∙◌, subst, OnOk}
use Rattle.box_words.specs.Shown.{shown_name}
use Rattle.box_words.specs.declared.paths.Spelling.TheVariants.{Host}
use Rattle.box_words.proofs.ShownNames.{host_shown}
use Rattle.box_words.proofs.paths.push_host_name.Goals as goal

pub returns-in-Some : goal.returns-in-Some
returns-in-Some c =
    let same : c.as_slice.result.now ≡ shown_name Host c.args.name.now =
    c.as_slice.ensures.value ∙ sym (host_shown c.args.name.now c.in-Some.host.items c.in-Some.ensures.name
    c.in-Some.ensures.spelled) in
    subst (λ (t : List ℕ). OnOk c.push_bytes.result (c.push_bytes.new.into.items ≡ c.args.into.now.items ++ t)) same
    c.push_bytes.ensures
