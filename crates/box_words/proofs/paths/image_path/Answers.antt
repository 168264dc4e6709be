use Rattle.std.proofs.Common.{◌∙◌, IsTrue, ap, subst}
use Rattle.std.specs.List.{list_all}
use Rattle.box_words.specs.declared.paths.Spelling.TheVariants.{Host, Escaped}
use Rattle.box_words.specs.Shown.{shown_text, reads_back}
use Rattle.box_words.proofs.ShownNames.{reads}
use Rattle.box_words.proofs.paths.image_path.Goals as goal

pub returns-in-Host-clause-back : goal.returns-in-Host-clause-back
returns-in-Host-clause-back c path valid back e =
    reads Host c.as_bytes.result.now c.host_path.result c.host_path.ensures.ok c.host_path.ensures.no_path
    c.host_path.ensures.too_long path valid (subst (λ s. IsTrue (list_all (reads_back s) path)) c.in-Host.is back)
    (c.as_bytes.ensures.value ∙ e ∙ ap (λ s. shown_text s path) c.in-Host.is)

pub returns-in-Escaped-clause-back : goal.returns-in-Escaped-clause-back
returns-in-Escaped-clause-back c path valid back e =
    reads Escaped c.as_bytes-in-Escaped.result.now c.spelled_path.result c.spelled_path.ensures.ok
    c.spelled_path.ensures.no_path c.spelled_path.ensures.too_long path valid
    (subst (λ s. IsTrue (list_all (reads_back s) path)) c.in-Escaped.is back)
    (c.as_bytes-in-Escaped.ensures.value ∙ e ∙ ap (λ s. shown_text s path) c.in-Escaped.is)
