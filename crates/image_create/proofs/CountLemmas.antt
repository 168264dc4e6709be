-- What is counted of what was found is what each tree has that the folder may be.
use Rattle.std.proofs.Common.{◌≡◌, ℕ, List, [], length, sym, ap, subst, ◌∙◌, arith}
use Rattle.std.specs.List.{AllByRecursion}
use Rattle.std.proofs.lemmas.List.{length-map}
use Rattle.layout_scratch.specs.Counting.{HasCounted}
use Rattle.store_model.specs.declared.version.Version.{Version}
use Rattle.store_model.specs.Draws.{draw_of}
use Rattle.store_model.specs.Pairs.{Pair, pairs}
use Rattle.store_model.specs.Parameters.{Parameters}
use Rattle.store_model.specs.Trees.{Tree}
use Rattle.host_folders.specs.declared.found.Found.{Found}
use Rattle.image_create.specs.Counts.{AddsKeys, Exceeds, HasTooMany, IsOfFound}
use Rattle.image_create.specs.FoundKeys.{HasKeys, keys_found}
use Rattle.image_create.specs.declared.keys.KeyCounter.{KeyCounter}
use Rattle.image_create.proofs.TreeKeys.{all_have_keys, keys_are, keys_of}

-- the counter has counted the keys of the tree
pub counted_tree : (found : List Found) (p : Parameters) (version : Version) (old new : KeyCounter) (t : Tree)
    → old.levels ≡ p → version ≡ p.version → HasCounted (draw_of p) [] old.counter
    → (AllByRecursion HasKeys found → AddsKeys old new (keys_found version found)) → IsOfFound found t
    → HasCounted (draw_of p) (keys_of (pairs t p)) new.counter
counted_tree found p version old new t levels same none adds is =
    let all : keys_of (pairs t p) ≡ keys_found version found =
    keys_are found t p is ∙ ap (λ v. keys_found v found) (sym same) in
    let start : HasCounted (draw_of old.levels) [] old.counter =
    subst (λ (q : Parameters). HasCounted (draw_of q) [] old.counter) (sym levels) none in
    let counted = (adds (all_have_keys found t is)).counted [] start in
    subst (λ (q : Parameters). HasCounted (draw_of q) (keys_of (pairs t p)) new.counter) levels
    (subst (λ (ks : List (List ℕ)). HasCounted (draw_of old.levels) ks new.counter) (sym all) counted)

-- and more than are counted where it tells so
pub too_many : (found : List Found) (p : Parameters) (version : Version) (old : KeyCounter)
    → old.levels ≡ p → version ≡ p.version → HasCounted (draw_of p) [] old.counter
    → (AllByRecursion HasKeys found → Exceeds old (keys_found version found)) → HasTooMany found p
too_many found p version old levels same none exceeds t is =
    let all : keys_of (pairs t p) ≡ keys_found version found =
    keys_are found t p is ∙ ap (λ v. keys_found v found) (sym same) in
    let start : HasCounted (draw_of old.levels) [] old.counter =
    subst (λ (q : Parameters). HasCounted (draw_of q) [] old.counter) (sym levels) none in
    let many = exceeds (all_have_keys found t is) [] start in
    let long : length (keys_of (pairs t p)) ≡ length (pairs t p) = length-map (pairs t p) (λ (pair : Pair). pair.0) in
    let same_length : length (keys_of (pairs t p)) ≡ length (keys_found version found) = ap length all in
    omega (arith, many, long, same_length)
