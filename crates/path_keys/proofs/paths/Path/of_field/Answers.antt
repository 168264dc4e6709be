use Rattle.std.proofs.Common.{◌+◌, sym, ◌∙◌, take, eqb}
use Rattle.std.specs.List.{slice_split}
use Rattle.path_keys.proofs.NameBytes.{is_field_of_shown}
use Rattle.path_keys.proofs.KeyBytes.{full_has_none, other_has_none, field_found, path_found}
use Rattle.path_keys.proofs.paths.Path.of_field.Goals as goal
use Rattle.path_keys.proofs.paths.Path.of_field.Goals.{then-len-ge-FIELD_LEN-via-then-len-ge-FIELD_LEN}
use Rattle.path_keys.proofs.paths.Path.of_field.Goals.{then-len-ge-FIELD_LEN-via-else-len-ge-FIELD_LEN+then-not-are_names}

pub returns-then-len-ge-FIELD_LEN : goal.returns-then-len-ge-FIELD_LEN
returns-then-len-ge-FIELD_LEN c =
    elim c.then-len-ge-FIELD_LEN.branch [
      | then-len-ge-FIELD_LEN-via-then-len-ge-FIELD_LEN w ↦
          full_has_none c.args.field.now c.used_len-len.result c.used_len-len.ensures.front
          c.used_len-len.ensures.behind w.if-len-ge-FIELD_LEN.true
      | then-len-ge-FIELD_LEN-via-else-len-ge-FIELD_LEN+then-not-are_names w ↦
          other_has_none c.args.field.now c.used_len-len.result c.used_len-len.ensures.front
          c.used_len-len.ensures.behind (sym w.are_names.ensures ∙ w.if-not-are_names.true)
    ]

pub invariant_of-result : goal.invariant_of-result
invariant_of-result c =
    is_field_of_shown c.copy_from_slice.new.self (c.used_len-len.result + 1)
    (slice_split (λ b. eqb b 0) (take c.used_len-len.result c.args.field.now))
    (field_found c.args.field.now c.copy_from_slice.new.self c.used_len-len.result c.copy_from_slice.ensures.after
    c.requires c.used_len-len.ensures.behind
    c.if-len-ge-FIELD_LEN.false (sym c.are_names.ensures ∙ c.if-not-are_names.false))

pub returns : goal.returns
returns c =
    path_found c.args.field.now c.copy_from_slice.new.self c.used_len-len.result _ c.copy_from_slice.ensures.after
    (is_field_of_shown c.copy_from_slice.new.self (c.used_len-len.result + 1)
    (slice_split (λ b. eqb b 0) (take c.used_len-len.result c.args.field.now))
    (field_found c.args.field.now c.copy_from_slice.new.self c.used_len-len.result c.copy_from_slice.ensures.after
    c.requires c.used_len-len.ensures.behind
    c.if-len-ge-FIELD_LEN.false (sym c.are_names.ensures ∙ c.if-not-are_names.false)))
