-- Attributes that are set on what stands in a tree.
use Rattle.std.proofs.Common.{◌≡◌, ℕ, List, [], ◌∷◌, ◌++◌, map, cond, Option, Some, refl, sym, ap, subst, ◌∙◌, Ordering}
use Rattle.std.proofs.Common.{Less, Greater}
use Rattle.std.specs.Ordering.{ordering_reverse, is_eq}
use Rattle.std.specs.Cmp.{IsTotalOrder, tied_itself}
use Rattle.std.specs.List.Sorted.{IsStrictlySortedBy}
use Rattle.std.specs.FinMap.{find, put}
use Rattle.std.specs.FinMap.Entries.{by_order}
use Rattle.std.specs.List.{AllByRecursion, flat_map}
use Rattle.std.proofs.lemmas.List.{append-nil, append_assoc, map-append}
use Rattle.store_model.specs.Paths.{Path, Name, name_cmp, path_cmp}
use Rattle.store_model.specs.Steps.{next_tree}
use Rattle.store_model.specs.Trees.{Tree, Node, Entry, Attributes, attributes_of, attributed}
use Rattle.store_model.proofs.ListsLemmas.{all_map}
use Rattle.store_model.proofs.PathsLemmasPlaces.{name_cmp_total}
use Rattle.store_model.proofs.TreesLemmasPaths.{path_cmp_total}
use Rattle.tree_pairs.proofs.ReaderNextLemmas.{all_below}
use Rattle.dump_streams.specs.Dumps.{after_step, attribute_steps}
use Rattle.dump_streams.specs.Dumps.DumpStep.{Set}
use Rattle.host_builder.specs.Builders.{steps_after}
use Rattle.host_builder.proofs.Steps.{steps_after-append}

-- ---- a key among others

pub turned : {K : Type 0} (cmp : K → K → Ordering) → IsTotalOrder cmp → (x y : K) → cmp y x ≡ Less → cmp x y ≡ Greater
turned cmp total x y less = total.antisymm x y ∙ ap ordering_reverse less

put_behind : {K X : Type 0} (cmp : K → K → Ordering) → IsTotalOrder cmp → (k : K) (v : X) (es : List (K × X))
    → AllByRecursion (λ e. cmp e.0 k ≡ Less) es → put cmp k v es ≡ es ++ (k, v) ∷ []
put_behind cmp total k v [] below = refl
put_behind cmp total k v (e ∷ es) below =
    ap (λ o. by_order o ((k, v) ∷ e ∷ es) ((e.0, v) ∷ es) (e ∷ put cmp k v es)) (turned cmp total k e.0 below.0)
    ∙ ap (λ rest. e ∷ rest) (put_behind cmp total k v es below.1)

put_among : {X : Type 0} (k : Path) (old new : X) (es later : List (Path × X))
    → AllByRecursion (λ e. path_cmp e.0 k ≡ Less) es
    → put path_cmp k new (es ++ (k, old) ∷ later) ≡ es ++ (k, new) ∷ later
put_among k old new [] later below =
    ap (λ o. by_order o ((k, new) ∷ (k, old) ∷ later) ((k, new) ∷ later) ((k, old) ∷ put path_cmp k new later))
    (tied_itself path_cmp_total k)
put_among k old new (e ∷ es) later below =
    ap (λ o. by_order o ((k, new) ∷ e ∷ (es ++ (k, old) ∷ later)) ((e.0, new) ∷ (es ++ (k, old) ∷ later))
    (e ∷ put path_cmp k new (es ++ (k, old) ∷ later))) (turned path_cmp path_cmp_total k e.0 below.0)
    ∙ ap (λ rest. e ∷ rest) (put_among k old new es later below.1)

find_among : {X : Type 0} (k : Path) (v : X) (es later : List (Path × X))
    → AllByRecursion (λ e. path_cmp e.0 k ≡ Less) es → find path_cmp k (es ++ (k, v) ∷ later) ≡ Some v
find_among k v [] later below =
    ap (λ o. cond (is_eq o) (Some v) (find path_cmp k later)) (tied_itself path_cmp_total k)
find_among k v (e ∷ es) later below =
    ap (λ o. cond (is_eq o) (Some e.1) (find path_cmp k (es ++ (k, v) ∷ later)))
    (turned path_cmp path_cmp_total k e.0 below.0) ∙ find_among k v es later below.1

-- ---- attributes of one entry

abbrev pub entry_with : Node → Attributes → Entry
entry_with node names = record { node = node; attributes = names }

-- attributes that rise by name
abbrev pub AreRising : Attributes → Type 0
AreRising names = IsStrictlySortedBy (λ (a b : Name × List ℕ). name_cmp a.0 b.0) names

module _ (before later : Tree) (x : Path) (node : Node)
    (below : AllByRecursion (λ e. path_cmp e.0 x ≡ Less) before) where
  set_one : (names : Attributes) (a : Name × List ℕ) → AllByRecursion (λ b. name_cmp b.0 a.0 ≡ Less) names
      → after_step (before ++ (x, entry_with node names) ∷ later) (Set x a.0 a.1)
      ≡ before ++ (x, entry_with node (names ++ a ∷ [])) ∷ later
  unfolding next_tree
  set_one names a above =
      let t : Tree = before ++ (x, entry_with node names) ∷ later in
      ap (λ (found : Option Entry). attributed t x (put name_cmp a.0 a.1 (attributes_of found)) found)
      (find_among x (entry_with node names) before later below)
      ∙ ap (λ (more : Attributes). put path_cmp x (entry_with node more) t)
      (put_behind name_cmp name_cmp_total a.0 a.1 names above)
      ∙ put_among x (entry_with node names) (entry_with node (names ++ a ∷ [])) before later below

  set_many : (more names : Attributes) → AreRising (names ++ more)
      → steps_after (before ++ (x, entry_with node names) ∷ later) (attribute_steps x more)
      ≡ before ++ (x, entry_with node (names ++ more)) ∷ later
  unfolding attribute_steps
  set_many [] names rise =
      ap (λ (all : Attributes). before ++ (x, entry_with node all) ∷ later) (sym (append-nil names))
  set_many (a ∷ more) names rise =
      let split : (names ++ a ∷ []) ++ more ≡ names ++ a ∷ more = append_assoc names (a ∷ []) more in
      ap (λ (t : Tree). steps_after t (map (λ b. Set x b.0 b.1) more))
      (set_one names a (all_below (λ (b d : Name × List ℕ). name_cmp b.0 d.0) names a more rise))
      ∙ set_many more (names ++ a ∷ []) (subst AreRising (sym split) rise)
      ∙ ap (λ (all : Attributes). before ++ (x, entry_with node all) ∷ later) split

-- ---- of each entry

-- a tree with other entries at the same paths
abbrev pub with_entries : (Entry → Entry) → Tree → Tree
with_entries f t = map (λ e. (e.0, f e.1)) t

-- the paths of a tree rise
abbrev pub PathsRise : Tree → Type 0
PathsRise t = IsStrictlySortedBy (λ (a b : Path × Entry). path_cmp a.0 b.0) t

-- attributes more
abbrev pub and_more : (Entry → Entry) → (Entry → Attributes) → Entry → Entry
and_more f more e = entry_with (f e).node ((f e).attributes ++ more e)

module _ (f : Entry → Entry) (more : Entry → Attributes) where
  sets_from : (first rest : Tree) → PathsRise (first ++ rest)
      → AllByRecursion (λ e. AreRising ((f e.1).attributes ++ more e.1)) rest
      → steps_after (with_entries (and_more f more) first ++ with_entries f rest)
      (flat_map (λ e. attribute_steps e.0 (more e.1)) rest)
      ≡ with_entries (and_more f more) (first ++ rest)
  sets_from first [] rise are =
      append-nil (with_entries (and_more f more) first)
      ∙ ap (with_entries (and_more f more)) (sym (append-nil first))
  sets_from first (e ∷ rest) rise are =
      let done = with_entries (and_more f more) in
      let left = with_entries f rest in
      let others = flat_map (λ (e : Path × Entry). attribute_steps e.0 (more e.1)) rest in
      let split : (first ++ e ∷ []) ++ rest ≡ first ++ e ∷ rest = append_assoc first (e ∷ []) rest in
      let below = all_map (λ (d : Path × Entry). path_cmp d.0 e.0 ≡ Less)
      (λ (d : Path × Entry). path_cmp d.0 e.0 ≡ Less)
      (λ (d : Path × Entry). (d.0, and_more f more d.1)) (λ d less. less) first
      (all_below (λ (a b : Path × Entry). path_cmp a.0 b.0) first e rest rise) in
      steps_after-append (done first ++ (e.0, f e.1) ∷ left) (attribute_steps e.0 (more e.1)) others
      ∙ ap (λ (t : Tree). steps_after t others)
      (set_many (done first) left e.0 (f e.1).node below (more e.1) (f e.1).attributes are.0
      ∙ sym (append_assoc (done first) ((e.0, and_more f more e.1) ∷ []) left)
      ∙ ap (λ (t : Tree). t ++ left)
      (sym (map-append (λ (d : Path × Entry). (d.0, and_more f more d.1)) first (e ∷ []))))
      ∙ sets_from (first ++ e ∷ []) rest (subst PathsRise (sym split) rise) are.1
      ∙ ap done split

  pub sets_each : (t : Tree) → PathsRise t → AllByRecursion (λ e. AreRising ((f e.1).attributes ++ more e.1)) t
      → steps_after (with_entries f t) (flat_map (λ e. attribute_steps e.0 (more e.1)) t)
      ≡ with_entries (and_more f more) t
  sets_each t rise are = sets_from [] t rise are
