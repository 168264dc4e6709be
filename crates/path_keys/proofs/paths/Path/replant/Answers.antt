use Rattle.std.proofs.Common.{◌+◌, length, refl, sym, ap, ◌∙◌, arith}
use Rattle.store_model.specs.Paths as model
use Rattle.path_keys.proofs.NameBytes.{is_field_of_shown, shown_by_field}
use Rattle.path_keys.proofs.ReplantBytes.{behind, names_behind, old_within, outgrown, still_fits, replanted_field}
use Rattle.path_keys.proofs.paths.Path.replant.Goals as goal

pub slice_bounds-below-count : goal.slice_bounds-below-count
slice_bounds-below-count c =
    old_within c.args.self.now c.args.old.now c.names.result.now c.names-2.result.now c.requires
    c.names.ensures.value c.names-2.ensures.value

pub slice_bounds-below-start : goal.slice_bounds-below-start
slice_bounds-below-start c =
    old_within c.args.self.now c.args.old.now c.names.result.now c.names-2.result.now c.requires
    c.names.ensures.value c.names-2.ensures.value

pub returns-then-len-gt-FIELD_LEN-clause-none : goal.returns-then-len-gt-FIELD_LEN-clause-none
returns-then-len-gt-FIELD_LEN-clause-none c =
    let split = names_behind c.args.self.now c.args.old.now c.names.result.now c.names-2.result.now c.requires
    c.names.ensures.value c.names-2.ensures.value in (
      λ _. outgrown c.args.self.now c.args.old.now c.args.new.now _ c.requires split
          (omega (arith, c.if-len-gt-FIELD_LEN.true, ap length c.names-3.ensures.value)),
      λ _. refl,
    )

pub invariant_of-result : goal.invariant_of-result
invariant_of-result c =
    is_field_of_shown _ _ (model.replanted c.args.old.now c.args.new.now c.args.self.now)
    (replanted_field c.args.self.now c.args.old.now c.args.new.now
    (behind (length c.names-2.result.now) c.names.result.now) c.field_behind.result _ c.requires c.names.ensures.valid
    c.names-3.ensures.valid
    (names_behind c.args.self.now c.args.old.now c.names.result.now c.names-2.result.now c.requires
    c.names.ensures.value c.names-2.ensures.value) c.field_behind.ensures
    (ap (λ t. length t + length (behind (length c.names-2.result.now) c.names.result.now)) c.names-3.ensures.value)
    (omega (arith, c.if-len-gt-FIELD_LEN.false)))

pub returns-clause-value : goal.returns-clause-value
returns-clause-value c =
    shown_by_field _ _ (model.replanted c.args.old.now c.args.new.now c.args.self.now)
    (replanted_field c.args.self.now c.args.old.now c.args.new.now
    (behind (length c.names-2.result.now) c.names.result.now) c.field_behind.result _ c.requires c.names.ensures.valid
    c.names-3.ensures.valid
    (names_behind c.args.self.now c.args.old.now c.names.result.now c.names-2.result.now c.requires
    c.names.ensures.value c.names-2.ensures.value) c.field_behind.ensures
    (ap (λ t. length t + length (behind (length c.names-2.result.now) c.names.result.now)) c.names-3.ensures.value)
    (omega (arith, c.if-len-gt-FIELD_LEN.false)))

pub returns-clause-none : goal.returns-clause-none
returns-clause-none c =
    let split = names_behind c.args.self.now c.args.old.now c.names.result.now c.names-2.result.now c.requires
    c.names.ensures.value c.names-2.ensures.value in
    let fits = still_fits c.args.self.now c.args.old.now c.args.new.now _ c.requires split
    (omega (arith, c.if-len-gt-FIELD_LEN.false, ap length c.names-3.ensures.value)) in
    (λ none. cc, λ long. cc (sym fits ∙ long))

pub returns-clause-valid : goal.returns-clause-valid
returns-clause-valid c =
    (is_field_of_shown _ _ (model.replanted c.args.old.now c.args.new.now c.args.self.now)
    (replanted_field c.args.self.now c.args.old.now c.args.new.now
    (behind (length c.names-2.result.now) c.names.result.now) c.field_behind.result _ c.requires c.names.ensures.valid
    c.names-3.ensures.valid
    (names_behind c.args.self.now c.args.old.now c.names.result.now c.names-2.result.now c.requires
    c.names.ensures.value c.names-2.ensures.value) c.field_behind.ensures
    (ap (λ t. length t + length (behind (length c.names-2.result.now) c.names.result.now)) c.names-3.ensures.value)
    (omega (arith, c.if-len-gt-FIELD_LEN.false)))).path
