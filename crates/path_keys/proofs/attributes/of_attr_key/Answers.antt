use Rattle.std.proofs.Common.{sym, ap, ◌∙◌, ◌≡◌, ◌-◌, true, false, take, refl, arith}
use Rattle.std.proofs.lemmas.List.{length-take}
use Rattle.store_model.specs.Paths as model
use Rattle.path_keys.specs.Reading.{HasNoAttribute}
use Rattle.path_keys.proofs.AttributeBytes.{attribute_read, attribute_found, not_fault, known_of_none}
use Rattle.path_keys.proofs.attributes.of_attr_key.Goals as goal
use Rattle.path_keys.proofs.attributes.of_attr_key.Goals.{then-block_of-ne0-via-then-block_of-ne0}
use Rattle.path_keys.proofs.attributes.of_attr_key.Goals.{then-block_of-ne0-via-else-block_of-ne0+then-end-eq-FIELD_LEN}
use Rattle.path_keys.proofs.attributes.of_attr_key.Goals.{then-block_of-ne0-via-else-block_of-ne0+else-end-eq-FIELD_LEN+then-start-eq0}
use Rattle.path_keys.proofs.attributes.of_attr_key.Goals.{then-block_of-ne0-via-else-block_of-ne0+else-end-eq-FIELD_LEN+else-start-eq0+then-field-start-ne-MARK}

pub returns-then-block_of-ne0-clause-none : goal.returns-then-block_of-ne0-clause-none
returns-then-block_of-ne0-clause-none c p a path other name fits e =
    let found = attribute_read c.args.key.now c.split_at.result.0.now c.split_at.result.1.now c.block_of.result
    c.used_len-end.result c.last_start-start.result p a
    (sym c.as_bytes.ensures.value ∙ c.split_at.ensures.by_index.0)
    c.split_at.ensures.front_len c.block_of.ensures c.block_of.type_inv c.used_len-end.ensures.front
    c.used_len-end.ensures.behind
    c.last_start-start.ensures.front c.last_start-start.ensures.within c.last_start-start.ensures.behind path other name
    fits e in
    elim c.then-block_of-ne0.branch [
      | then-block_of-ne0-via-then-block_of-ne0 w ↦ w.if-block_of-ne0.true found.no_block
      | then-block_of-ne0-via-else-block_of-ne0+then-end-eq-FIELD_LEN w
          ↦ omega (arith, w.if-end-eq-FIELD_LEN.true, found.room)
      | then-block_of-ne0-via-else-block_of-ne0+else-end-eq-FIELD_LEN+then-start-eq0 w
          ↦ omega (arith, w.if-start-eq0.true, found.begins)
      | then-block_of-ne0-via-else-block_of-ne0+else-end-eq-FIELD_LEN+else-start-eq0+then-field-start-ne-MARK w
          ↦ w.if-field-start-ne-MARK.true found.mark
    ]

pub returns-in_err-name-clause-none : goal.returns-in_err-name-clause-none
returns-in_err-name-clause-none c =
    known_of_none c.from_residual.result (HasNoAttribute c.args.key.now) (λ p a path other name fits e.
    let found = attribute_read c.args.key.now c.split_at.result.0.now c.split_at.result.1.now c.block_of.result
    c.used_len-end.result c.last_start-start.result p a
    (sym c.as_bytes.ensures.value ∙ c.split_at.ensures.by_index.0)
    c.split_at.ensures.front_len c.block_of.ensures c.block_of.type_inv c.used_len-end.ensures.front
    c.used_len-end.ensures.behind
    c.last_start-start.ensures.front c.last_start-start.ensures.within c.last_start-start.ensures.behind path other name
    fits e in
    let none : true ≡ false = sym name ∙ ap model.is_attribute_name (sym found.name)
    ∙ c.in_err-name.ensures.none.0 refl in cc)

pub returns-in-Err-clause-none : goal.returns-in-Err-clause-none
returns-in-Err-clause-none c p a path other name fits e =
    let found = attribute_read c.args.key.now c.split_at.result.0.now c.split_at.result.1.now c.block_of.result
    c.used_len-end.result c.last_start-start.result p a
    (sym c.as_bytes.ensures.value ∙ c.split_at.ensures.by_index.0)
    c.split_at.ensures.front_len c.block_of.ensures c.block_of.type_inv c.used_len-end.ensures.front
    c.used_len-end.ensures.behind
    c.last_start-start.ensures.front c.last_start-start.ensures.within c.last_start-start.ensures.behind path other name
    fits e in
    not_fault (take (c.last_start-start.result - 1) c.split_at.result.0.now) c.in-Err.field-0 p
    c.in-Err.ensures found.names path
    (omega (
      arith,
      length-take (c.last_start-start.result - 1) c.split_at.result.0.now,
      c.split_at.ensures.front_len,
      found.room,
      length-take c.used_len-end.result c.split_at.result.0.now,
      c.last_start-start.ensures.within,
    ))

pub returns-in-Ok-clause-some : goal.returns-in-Ok-clause-some
returns-in-Ok-clause-some c =
    (attribute_found c.args.key.now c.split_at.result.0.now c.split_at.result.1.now c.block_of.result
    c.used_len-end.result c.last_start-start.result c.in-Ok.path c.in_ok-name.name
    (sym c.as_bytes.ensures.value ∙ c.split_at.ensures.by_index.0)
    c.split_at.ensures.front_len c.block_of.ensures c.used_len-end.ensures.behind
    c.last_start-start.ensures.front c.last_start-start.ensures.within c.if-block_of-ne0.false (omega arith)
    (omega arith) c.if-field-start-ne-MARK.false
    c.in-Ok.ensures.2 c.in_ok-name.ensures.some.0).key

pub returns-in-Ok-clause-below_root : goal.returns-in-Ok-clause-below_root
returns-in-Ok-clause-below_root c =
    (attribute_found c.args.key.now c.split_at.result.0.now c.split_at.result.1.now c.block_of.result
    c.used_len-end.result c.last_start-start.result c.in-Ok.path c.in_ok-name.name
    (sym c.as_bytes.ensures.value ∙ c.split_at.ensures.by_index.0)
    c.split_at.ensures.front_len c.block_of.ensures c.used_len-end.ensures.behind
    c.last_start-start.ensures.front c.last_start-start.ensures.within c.if-block_of-ne0.false (omega arith)
    (omega arith) c.if-field-start-ne-MARK.false
    c.in-Ok.ensures.2 c.in_ok-name.ensures.some.0).below_root

pub returns-in-Ok-clause-fits : goal.returns-in-Ok-clause-fits
returns-in-Ok-clause-fits c =
    (attribute_found c.args.key.now c.split_at.result.0.now c.split_at.result.1.now c.block_of.result
    c.used_len-end.result c.last_start-start.result c.in-Ok.path c.in_ok-name.name
    (sym c.as_bytes.ensures.value ∙ c.split_at.ensures.by_index.0)
    c.split_at.ensures.front_len c.block_of.ensures c.used_len-end.ensures.behind
    c.last_start-start.ensures.front c.last_start-start.ensures.within c.if-block_of-ne0.false (omega arith)
    (omega arith) c.if-field-start-ne-MARK.false
    c.in-Ok.ensures.2 c.in_ok-name.ensures.some.0).fits
