use Rattle.std.proofs.Common.{◌+◌, ◌-◌, ◌++◌, ◌∷◌, [], length, refl, sym, ap, ◌∙◌, arith, inl, inr, ⊎_elim}
use Rattle.std.proofs.Common.{length-append}
use Rattle.std.specs.Int.{w32, to_be_bytes}
use Rattle.store_model.specs.Paths as model
use Rattle.path_keys.proofs.NameBytes.{written_behind}
use Rattle.path_keys.proofs.AttributeBytes.{attribute_written, attribute_fits, attribute_too_long}
use Rattle.path_keys.proofs.attributes.attr_key.Goals as goal
use Rattle.path_keys.proofs.attributes.attr_key.Goals.{then-is_root-via-then-is_root}
use Rattle.path_keys.proofs.attributes.attr_key.Goals.{then-is_root-via-else-is_root+then-end-ge-FIELD_LEN}

pub returns-then-is_root-clause-none : goal.returns-then-is_root-clause-none
returns-then-is_root-clause-none c = (
  λ _. elim c.then-is_root.branch [
    | then-is_root-via-then-is_root w ↦ inl (sym c.is_root.ensures.value ∙ w.if-is_root.true)
    | then-is_root-via-else-is_root+then-end-ge-FIELD_LEN w ↦
        inr (attribute_too_long c.args.path.now c.args.name.now
        (omega (
          arith,
          w.if-end-ge-FIELD_LEN.true,
          ap length c.names.ensures.value,
          ap length
              c.as_bytes.ensures.value,
        )))
  ],
  λ _. refl,
)

pub returns-clause-value : goal.returns-clause-value
returns-clause-value c =
    let start = length c.names.result.now + 1 in
    c.new.ensures.value
    ∙ attribute_written c.args.path.now c.args.name.now _
    (written_behind (model.name_bytes c.args.path.now ++ 1 ∷ []) c.args.name.now (to_be_bytes w32 0)
    c.as_bytes-2.result.now c.copy_from_slice.new.self start (start + length c.as_bytes.result.now - start)
    (c.as_bytes-2.ensures.value ∙ c.key_behind.ensures.value)
    (c.copy_from_slice.ensures.after ∙ c.as_bytes-3.ensures.value)
    (omega (arith, ap length c.names.ensures.value, length-append (model.name_bytes c.args.path.now) (1 ∷ [])))
    (omega (arith, ap length c.as_bytes.ensures.value))
    (omega (
      arith,
      c.if-end-ge-FIELD_LEN.false,
      ap length c.names.ensures.value,
      ap length c.as_bytes.ensures.value,
      length-append (model.name_bytes c.args.path.now) (1 ∷ []),
    )))
    (omega (arith, c.if-end-ge-FIELD_LEN.false, ap length c.names.ensures.value, ap length c.as_bytes.ensures.value))

pub returns-clause-none : goal.returns-clause-none
returns-clause-none c =
    let fits = attribute_fits c.args.path.now c.args.name.now
    (omega (
      arith,
      c.if-end-ge-FIELD_LEN.false,
      ap length c.names.ensures.value,
      ap length
          c.as_bytes.ensures.value,
    )) in (
      λ none. cc,
      λ either. ⊎_elim (λ root. cc (sym root ∙ sym c.is_root.ensures.value ∙ c.if-is_root.false))
          (λ long. cc (sym fits ∙ long)) either,
    )
