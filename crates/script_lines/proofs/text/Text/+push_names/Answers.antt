use Rattle.std.proofs.Common.{◌≡◌, ◌++◌, ◌∷◌, [], List, ℕ, length, sym, ap, ◌∙◌, arith, append_assoc, length-append}
use Rattle.std.proofs.Common.{false}
use Rattle.store_model.specs.Paths.{is_root, last_name}
use Rattle.script_lines.specs.CommandLines.{names_text}
use Rattle.script_lines.proofs.PathTexts.{has_names, names_split_of, length-names_split, parent_shorter}
use Rattle.script_lines.proofs.text.Text.+push_names.Goals as goal

pub push_names-requires : goal.push_names-requires
push_names-requires t c =
    let p = c.args.path.now in
    let other : is_root p ≡ false = has_names p c.in-Some.parent c.in-Some.ensures.none in (
      omega (arith, parent_shorter p other, ap length c.in-Some.ensures.value, c.decreases),
      omega (arith, c.requires, length-names_split p c.in-Some.parent other c.in-Some.ensures.value),
    )

pub push-requires : goal.push-requires
push-requires t c =
    let p = c.args.path.now in
    let other : is_root p ≡ false = has_names p c.in-Some.parent c.in-Some.ensures.none in
    omega (
      arith,
      c.requires,
      length-names_split p c.in-Some.parent other c.in-Some.ensures.value,
      ap length
          c.push_names.ensures,
      length-append c.args.self.now (names_text c.in-Some.parent),
    )

pub push-requires-in-Some : goal.push-requires-in-Some
push-requires-in-Some t c =
    let p = c.args.path.now in
    let other : is_root p ≡ false = has_names p c.in-Some.parent c.in-Some.ensures.none in
    omega (
      arith,
      c.requires,
      length-names_split p c.in-Some.parent other c.in-Some.ensures.value,
      ap length c.push_names.ensures,
      length-append c.args.self.now (names_text c.in-Some.parent),
      ap length c.push.ensures,
      length-append c.push_names.new.self (0x2f ∷ []),
      ap length c.name.ensures,
    )

pub returns-in-Some : goal.returns-in-Some
returns-in-Some t c =
    let p = c.args.path.now in
    let other : is_root p ≡ false = has_names p c.in-Some.parent c.in-Some.ensures.none in
    let front = c.args.self.now ++ names_text c.in-Some.parent in
    c.push-in-Some.ensures
    ∙ ap (λ (t : List ℕ). t ++ c.name.result.now)
    (c.push.ensures ∙ ap (λ (t : List ℕ). t ++ 0x2f ∷ []) c.push_names.ensures)
    ∙ append_assoc front (0x2f ∷ []) c.name.result.now
    ∙ ap (λ (n : List ℕ). front ++ 0x2f ∷ n) c.name.ensures
    ∙ append_assoc c.args.self.now (names_text c.in-Some.parent) (0x2f ∷ last_name p)
    ∙ ap (λ (t : List ℕ). c.args.self.now ++ t) (sym (names_split_of p c.in-Some.parent other c.in-Some.ensures.value))
