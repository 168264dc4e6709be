use Rattle.std.proofs.Common.{◌≡◌, ℕ, [], ◌∷◌, ◌++◌, List, Bool, false, ◌||◌, map, ap, refl, sym, subst, ◌∙◌, rules}
use Rattle.std.specs.List.{list_any, IsDistinct}
use Rattle.std.specs.Ordering.{is_eq, eq_by_cmp}
use Rattle.std.proofs.lemmas.Cmp.{eq_by_cmp_equiv, nat_list_cmp_total}
use Rattle.std.proofs.lemmas.List.{map-append}
use Rattle.std.proofs.lemmas.Map.Keys.{IsDistinct-push}
use Rattle.store_model.specs.Paths.{key_cmp}
use Rattle.store_model.specs.Pairs.{Pair}
use Rattle.layout_scratch.specs.Sorting.{HasDistinctKeys}
use Rattle.tests_layers.proofs.tests.layouts.make.Goals as goal

-- a search through the keys of pairs
list_any-keys : (test : List ℕ → Bool) (pairs : List Pair)
    → list_any test (map (λ p. p.0) pairs) ≡ list_any (λ p. test p.0) pairs
list_any-keys test [] = refl
list_any-keys test (pair ∷ pairs) = ap (λ b. test pair.0 || b) (list_any-keys test pairs)

-- pairs with distinct keys, and one more that no pair's key is equal to
distinct_push : (pairs more : List Pair) (pair : Pair) (there : Bool)
    → there ≡ list_any (λ other. is_eq (key_cmp pair.0 other.0)) pairs → there ≡ false → more ≡ pairs ++ pair ∷ []
    → HasDistinctKeys pairs → HasDistinctKeys more
distinct_push pairs more pair there there_is is_new more_is distinct =
    subst (IsDistinct (eq_by_cmp key_cmp)) (sym (ap (map (λ p. p.0)) more_is ∙ map-append (λ p. p.0) pairs (pair ∷ [])))
    (IsDistinct-push (eq_by_cmp_equiv nat_list_cmp_total) (map (λ p. p.0) pairs) pair.0 distinct
    (list_any-keys (eq_by_cmp key_cmp pair.0) pairs ∙ sym there_is ∙ is_new))

pub returns : goal.returns
returns c =
    let is_new : c.is_there.result ≡ false = search rules in
    distinct_push c.args.pairs.now c.push.new.self _ c.is_there.result c.is_there.ensures is_new
    c.in_ok-push.ensures.ok c.requires
