use Rattle.std.proofs.Common.{◌++◌, length, drop, Some, None, refl, sym, ap, ◌∙◌, arith}
use Rattle.std.proofs.lemmas.Bool.Decides.{Decides-eqb}
use Rattle.std.proofs.lemmas.Slice.Eq.{strip_prefix_is}
use Rattle.store_model.specs.Paths as model
use Rattle.path_keys.proofs.KeyBytes.{field_read, block_read}
use Rattle.path_keys.proofs.ReplantBytes.{bytes_of_below, below_found, outgrown, still_fits, key_replanted}
use Rattle.path_keys.proofs.places.replant.Goals as goal

pub returns-in_err-below-clause-none : goal.returns-in_err-below-clause-none
returns-in_err-below-clause-none c place block valid inside small e =
    let rest = model.name_bytes (drop (length c.args.old.now) place) in
    let front = field_read c.args.key.now c.split_at.result.0.now c.split_at.result.1.now place block
    (sym c.as_bytes.ensures.value ∙ c.split_at.ensures.by_index.0) c.split_at.ensures.front_len valid e in
    absurd (strip_prefix_is Decides-eqb c.place_names.result.now c.names.result.now None
    c.in_err-below.ensures.cases rest
    (c.place_names.ensures place valid front ∙ bytes_of_below place c.args.old.now inside
    ∙ ap (λ t. t ++ rest) (sym c.names.ensures.value)))

pub returns-then-names-below-gt-FIELD_LEN-clause-none : goal.returns-then-names-below-gt-FIELD_LEN-clause-none
returns-then-names-below-gt-FIELD_LEN-clause-none c place block valid inside small e =
    let found = below_found c.args.key.now c.split_at.result.0.now c.split_at.result.1.now c.place_names.result.now
    c.names.result.now c.in_ok-below.below.now place c.args.old.now block
    (sym c.as_bytes.ensures.value ∙ c.split_at.ensures.by_index.0) c.split_at.ensures.front_len valid e
    (c.place_names.ensures place) c.names.ensures.value
    (strip_prefix_is Decides-eqb c.place_names.result.now c.names.result.now (Some c.in_ok-below.below)
    c.in_ok-below.ensures.cases) in (
      λ _. outgrown place c.args.old.now c.args.new.now c.in_ok-below.below.now inside found
          (omega (arith, c.if-names-below-gt-FIELD_LEN.true, ap length c.names-2.ensures.value)),
      λ _. refl,
    )

pub returns-clause-value : goal.returns-clause-value
returns-clause-value c place block valid inside small e =
    let found = below_found c.args.key.now c.split_at.result.0.now c.split_at.result.1.now c.place_names.result.now
    c.names.result.now c.in_ok-below.below.now place c.args.old.now block
    (sym c.as_bytes.ensures.value ∙ c.split_at.ensures.by_index.0) c.split_at.ensures.front_len valid e
    (c.place_names.ensures place) c.names.ensures.value
    (strip_prefix_is Decides-eqb c.place_names.result.now c.names.result.now (Some c.in_ok-below.below)
    c.in_ok-below.ensures.cases) in
    key_replanted place c.args.old.now c.args.new.now c.in_ok-below.below.now c.key_behind.result
    c.block_of.result block inside found
    (block_read c.args.key.now c.split_at.result.0.now c.split_at.result.1.now place c.block_of.result block
    (sym c.as_bytes.ensures.value ∙ c.split_at.ensures.by_index.0) c.split_at.ensures.front_len
    c.block_of.ensures valid c.block_of.type_inv small e)
    c.key_behind.ensures.value

pub returns-clause-none : goal.returns-clause-none
returns-clause-none c place block valid inside small e =
    let found = below_found c.args.key.now c.split_at.result.0.now c.split_at.result.1.now c.place_names.result.now
    c.names.result.now c.in_ok-below.below.now place c.args.old.now block
    (sym c.as_bytes.ensures.value ∙ c.split_at.ensures.by_index.0) c.split_at.ensures.front_len valid e
    (c.place_names.ensures place) c.names.ensures.value
    (strip_prefix_is Decides-eqb c.place_names.result.now c.names.result.now (Some c.in_ok-below.below)
    c.in_ok-below.ensures.cases) in
    let fits = still_fits place c.args.old.now c.args.new.now c.in_ok-below.below.now inside found
    (omega (arith, c.if-names-below-gt-FIELD_LEN.false, ap length c.names-2.ensures.value)) in
    (λ none. cc, λ long. cc (sym fits ∙ long))
