use Rattle.std.proofs.Common.{rules, tests, sym, ◌∙◌, ap, not}
use Rattle.std.proofs.lemmas.Iterator.{YieldsList-from_slice}
use Rattle.std.proofs.lemmas.Iterator.Search.{all_from_yields_List}
use Rattle.store_model.specs.Lists.{same_bytes}
use Rattle.host_names.specs.HostNames as model
use Rattle.host_names.proofs.Spellings.{name_test}
use Rattle.host_names.proofs.telling.is_host_name.Goals as goal
use Rattle.host_names.proofs.telling.is_host_name.Goals.{then-not-is_empty, else-not-is_empty, then-all, else-all}

pub returns-then-ne : goal.returns-then-ne
returns-then-ne c =
    elim c.if-all.branch [
      | then-all w ↦ elim c.if-not-is_empty.branch [
        | then-not-is_empty v ↦ name_test c.args.bytes.now c.ne-then-ne.result
            (sym c.is_empty.ensures ∙ v.if-not-is_empty.true)
            (sym (all_from_yields_List model.is_host_byte _ _ _
            v.all.ensures.ran (YieldsList-from_slice c.args.bytes.now cc) (λ x b q k. search (rules, tests)))
            ∙ sym v.value-is ∙ w.if-all.true)
            (ap (λ xs. not (same_bytes c.args.bytes.now xs)) (sym w.as_slice.ensures) ∙ sym w.ne.ensures
            ∙ sym w.value-is ∙ c.if-ne.true)
            (c.ne-then-ne.ensures ∙ ap (λ xs. not (same_bytes c.args.bytes.now xs)) c.as_slice-then-ne.ensures)
        | else-not-is_empty v ↦ cc
      ]
      | else-all w ↦ cc
    ]
