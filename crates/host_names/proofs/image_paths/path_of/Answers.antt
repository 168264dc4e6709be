use Rattle.std.proofs.Common.{◌≡◌, ◌++◌, ◌∷◌, [], List, ℕ, length, Some, sym, ap, ◌∙◌, arith}
use Rattle.store_model.specs.Grammar.{path_of}
use Rattle.host_names.proofs.ImagePathNames.{path_of_name, is_read}
use Rattle.host_names.proofs.image_paths.path_of.Goals as goal

pub unreachable-requires-in_default-parse : goal.unreachable-requires-in_default-parse
unreachable-requires-in_default-parse c =
    let text : c.as_slice.result.now ≡ 0x2f ∷ c.args.name.now =
    c.as_slice.ensures.value ∙ c.in-Ok.ensures.ok
    ∙ ap (λ (t : List ℕ). t ++ c.args.name.now)
    (c.push.ensures.items ∙ ap (λ (t : List ℕ). t ++ 0x2f ∷ []) c.new-text.ensures) in
    is_read c.in_default-parse.field-0 c.as_slice.result.now (c.args.name.now ∷ [])
    (ap path_of text ∙ path_of_name c.args.name.now c.requires.name)
    (omega (arith, ap length text, c.requires.fits))
    c.in_default-parse.ensures.syntax c.in_default-parse.ensures.too_long

pub returns-clause-value : goal.returns-clause-value
returns-clause-value c =
    let text : c.as_slice.result.now ≡ 0x2f ∷ c.args.name.now =
    c.as_slice.ensures.value ∙ c.in-Ok.ensures.ok
    ∙ ap (λ (t : List ℕ). t ++ c.args.name.now)
    (c.push.ensures.items ∙ ap (λ (t : List ℕ). t ++ 0x2f ∷ []) c.new-text.ensures) in
    let both : Some c.in-Ok-parse.path ≡ Some (c.args.name.now ∷ []) =
    sym c.in-Ok-parse.ensures.value ∙ ap path_of text ∙ path_of_name c.args.name.now c.requires.name in
    cc
