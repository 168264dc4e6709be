use Rattle.std.proofs.Common.{ℕ, ◌<◌, List, length, sym, ap, ◌∙◌, arith}
use Rattle.std.proofs.lemmas.Bool.{eqb-true, eqb-false}
use Rattle.store_model.specs.Lists.{same_bytes}
use Rattle.script_lines.proofs.FieldLemmas.{content_of-dash, content_of-none, content_of-pairs}
use Rattle.script_lines.proofs.fields.read_bytes.Goals as goal

pub returns-then-eq-clause-value : goal.returns-then-eq-clause-value
returns-then-eq-clause-value c =
    content_of-dash c.args.text.now
    (sym (c.if-eq.ensures ∙ ap (λ (xs : List ℕ). same_bytes c.args.text.now xs) c.as_slice.ensures))

pub returns-then-is_empty-clause-value : goal.returns-then-is_empty-clause-value
returns-then-is_empty-clause-value c = content_of-none c.args.text.now (eqb-true _ _ (sym c.if-is_empty.ensures))

pub returns-then-decode_pairs-clause-value : goal.returns-then-decode_pairs-clause-value
returns-then-decode_pairs-clause-value c =
    let ne = eqb-false _ _ (sym c.if-is_empty.ensures) in
    let some : 0 < length c.args.text.now = omega (arith, ne) in
    content_of-pairs c.args.text.now
    (sym (c.if-eq.ensures ∙ ap (λ (xs : List ℕ). same_bytes c.args.text.now xs) c.as_slice.ensures)) some
    ∙ c.if-decode_pairs.ensures

pub returns-else-decode_pairs-clause-value : goal.returns-else-decode_pairs-clause-value
returns-else-decode_pairs-clause-value c =
    let ne = eqb-false _ _ (sym c.if-is_empty.ensures) in
    let some : 0 < length c.args.text.now = omega (arith, ne) in
    content_of-pairs c.args.text.now
    (sym (c.if-eq.ensures ∙ ap (λ (xs : List ℕ). same_bytes c.args.text.now xs) c.as_slice.ensures)) some
    ∙ c.if-decode_pairs.ensures
