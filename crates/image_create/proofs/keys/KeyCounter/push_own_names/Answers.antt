use Rattle.std.proofs.Common.{◌≡◌, ◌+◌, ◌∷◌, [], ◌++◌, List, ℕ, take, drop, slice_get, Some, sym}
use Rattle.std.proofs.Common.{ap, subst, ◌∙◌, arith}
use Rattle.std.proofs.lemmas.List.{length-map, map-append, take_all}
use Rattle.std.proofs.lemmas.Option.{slice_get-map}
use Rattle.std.proofs.lemmas.Result.{err_from_is_err_and}
use Rattle.std.specs.Option.{option_map}
use Rattle.store_model.specs.Paths.{Name, attribute_key}
use Rattle.host_folders.specs.FoundEntries.{own_attributes}
use Rattle.image_create.specs.Counts.{AddsKeys}
use Rattle.image_create.specs.FoundKeys.{name_keys, own_names}
use Rattle.image_create.proofs.KeyLemmas.{adds_join, counts_err, exceeds_within, names_at, names_more, one_field}
use Rattle.image_create.proofs.KeyLemmas.{past_end}
use Rattle.image_create.proofs.keys.KeyCounter.push_own_names.Goals as goal

pub returns-in_err-push_name-clause-counts : goal.returns-in_err-push_name-clause-counts
returns-in_err-push_name-clause-counts c = λ root fields.
    let p = err_from_is_err_and c.from_residual.result c.from_residual.ensures.1 in
    let found = c.args.found.now in
    let names = own_names found in
    let at = c.loop-attribute.at in
    let name = c.in-Some.attribute.name in
    let here : slice_get names at ≡ Some name =
    slice_get-map (λ (a : Name × List ℕ). a.0) (own_attributes found) at
    ∙ ap (option_map (λ (a : Name × List ℕ). a.0)) (sym c.in-Some.ensures.value) in
    let all : name_keys found.path names
    ≡ name_keys found.path (take at names)
    ++ (name_keys found.path (name ∷ []) ++ name_keys found.path (drop (at + 1) names)) =
    ap (name_keys found.path) (names_at names at name here)
    ∙ map-append (attribute_key found.path) (take at names) (name ∷ drop (at + 1) names) in
    counts_err c.args.self.now c.push_name.new.self (name_keys found.path names) c.from_residual.result _ p.1
    (exceeds_within c.args.self.now c.loop-attribute.self (name_keys found.path (take at names))
    (name_keys found.path (name ∷ [])) (name_keys found.path (drop (at + 1) names)) (name_keys found.path names) all
    (c.loop-attribute.invariant.counted root fields)
    (c.in_err-push_name.ensures.counts root (one_field found.path names at name fields here)))

pub loop-attribute-preserved : goal.loop-attribute-preserved
loop-attribute-preserved c = record {
  levels = c.in_ok-push_name.ensures.levels ∙ c.loop-attribute.invariant.levels;
  counted = λ root fields.
      let found = c.args.found.now in
      let names = own_names found in
      let at = c.loop-attribute.at in
      let name = c.in-Some.attribute.name in
      let here : slice_get names at ≡ Some name =
      slice_get-map (λ (a : Name × List ℕ). a.0) (own_attributes found) at
      ∙ ap (option_map (λ (a : Name × List ℕ). a.0)) (sym c.in-Some.ensures.value) in
      let more : name_keys found.path (take (at + 1) names)
      ≡ name_keys found.path (take at names) ++ name_keys found.path (name ∷ []) =
      ap (name_keys found.path) (names_more names at name here)
      ∙ map-append (attribute_key found.path) (take at names) (name ∷ []) in
      subst (AddsKeys c.args.self.now c.push_name.new.self) (sym more)
      (adds_join c.args.self.now c.loop-attribute.self c.push_name.new.self (name_keys found.path (take at names))
      (name_keys found.path (name ∷ [])) (c.loop-attribute.invariant.counted root fields)
      (c.in_ok-push_name.ensures.counts root (one_field found.path names at name fields here)));
}

pub returns-clause-counts : goal.returns-clause-counts
returns-clause-counts c = λ root fields.
    let found = c.args.found.now in
    let names = own_names found in
    let at = c.loop-attribute.at in
    let past = past_end (own_attributes found) at c.in_default.ensures.value in
    let long = length-map (own_attributes found) (λ (a : Name × List ℕ). a.0) in
    subst (λ (ns : List Name). AddsKeys c.args.self.now c.loop-attribute.self (name_keys found.path ns))
    (take_all at names (omega (arith, past, long))) (c.loop-attribute.invariant.counted root fields)
