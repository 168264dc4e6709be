-- Lemmas on what a tree has at a place: it is a path, or an attribute of one, or neither.
use Rattle.std.proofs.Common.{◌≡◌, ℕ, zero, suc, List, [], ◌∷◌, ◌++◌, ◌==◌, Bool, true, false, cond, ◌⊎◌, inl, inr}
use Rattle.std.proofs.Common.{IsTrue, Option, Some, None, refl, sym, ap, ap₂, ◌∙◌, arith}
use Rattle.std.specs.Option.{option_map, option_or}
use Rattle.std.specs.FinMap.{find}
use Rattle.std.specs.List.{concat, list_all}
use Rattle.std.proofs.lemmas.Bool.{eqb-true, both_ways, false_from_ne_true}
use Rattle.std.proofs.lemmas.List.{append-nil, append_assoc, length-append, drop_at}
use Rattle.store_model.specs.declared.version.Version.{Version}
use Rattle.store_model.specs.Paths.{Path, Name, is_root, is_name, is_path, attribute_mark, attribute_place, fits_field}
use Rattle.store_model.specs.Paths.{name_cmp, path_cmp, same_path, parent, last_name, is_at_or_inside}
use Rattle.store_model.specs.Pairs.{attribute_value}
use Rattle.store_model.specs.Trees.{Tree, Entry, Attributes, IsTree, IsEntry, node_of, attributes_at}
use Rattle.store_model.proofs.ListsLemmas.{first_true}
use Rattle.store_model.proofs.PathsLemmasPlaces.{attribute_is_no_path, same_attribute_place}
use Rattle.store_model.proofs.TreesLemmas.{find_from_all}
use Rattle.store_model.proofs.TreesLemmasPaths.{same_from_test, same_path-from_equal, last_step, parent-push}
use Rattle.store_model.proofs.TreesLemmasPaths.{not_root-push, at_or_inside-append, at_or_inside-split}
use Rattle.store_model.proofs.TreesLemmasPaths.{at_or_inside-push}
use Rattle.tree_pairs.proofs.TreeBlocks.{block_value, attribute_block, version_blocks}

-- ---- the last name of a place

pub last_name-push : (p : Path) (n : Name) → last_name (p ++ n ∷ []) ≡ n
unfolding last_name
last_name-push p n = ap concat (drop_at p (n ∷ []) _ (omega (arith, length-append p (n ∷ [])))) ∙ append-nil n

last_name-root : last_name [] ≡ []
unfolding last_name
last_name-root = refl

-- whether a name begins with the mark of attributes
abbrev is_marked : Name → Bool
is_marked [] = false
is_marked (c ∷ a) = c == attribute_mark

-- another is no attribute's
unmarked : (attributes : Attributes) (n : Name) (i : ℕ) → is_marked n ≡ false → attribute_block attributes n i ≡ None
unmarked attributes [] i h = refl
unmarked attributes (c ∷ a) zero h = ap (λ b. cond b (option_map attribute_value (find name_cmp a attributes)) None) h
unmarked attributes (c ∷ a) (suc i) h = refl

-- where there are no attributes, there is none
pub no_attributes : (n : Name) (i : ℕ) → attribute_block [] n i ≡ None
no_attributes [] i = refl
no_attributes (c ∷ a) zero = by_mark (c == attribute_mark)
  where
    by_mark : (b : Bool) → cond b (option_map attribute_value (find name_cmp a [])) None ≡ None
    by_mark true = refl
    by_mark false = refl
no_attributes (c ∷ a) (suc i) = refl

-- ---- which places are attributes'

-- the place of an attribute
pub record IsAttributePlace (x : Path) : Type 0 where
  pub path : Path
  pub name : Name
  pub place_is : x ≡ attribute_place path name

-- the place of no attribute
pub record IsPlain (x : Path) : Type 0 where
  pub other : (q : Path) (a : Name) → same_path x (attribute_place q a) ≡ false
  pub no_block : (attributes : Attributes) (i : ℕ) → attribute_block attributes (last_name x) i ≡ None

-- the root is no attribute's place
plain_root : IsPlain []
plain_root = record {
  other = λ q a. false_from_ne_true _
      (λ e. both_ways _ (not_root-push q (attribute_mark ∷ a))
      (ap is_root (sym (same_from_test [] (attribute_place q a) e))));
  no_block = λ attributes i. ap (λ n. attribute_block attributes n i) last_name-root;
}

-- nor is a place whose last name has no mark
plain_unmarked : (x p : Path) (n : Name) → x ≡ p ++ n ∷ [] → is_marked n ≡ false → IsPlain x
plain_unmarked x p n e h = record {
  other = λ q a. false_from_ne_true _ (λ same.
      let last : n ≡ attribute_mark ∷ a = sym (last_name-push p n)
      ∙ ap last_name (sym e ∙ same_from_test x (attribute_place q a) same)
      ∙ last_name-push q (attribute_mark ∷ a) in
      both_ways _ h (ap is_marked last));
  no_block = λ attributes i. ap (λ m. attribute_block attributes m i) (ap last_name e ∙ last_name-push p n)
      ∙ unmarked attributes n i h;
}

-- a place is an attribute's, or it is plain
pub form_of : (x : Path) → IsAttributePlace x ⊎ IsPlain x
form_of [] = inr plain_root
form_of (m ∷ x) = let step = last_step (m ∷ x) refl in by_last step.0 step.1
  where
    by_last : (n : Name) → m ∷ x ≡ parent (m ∷ x) ++ n ∷ [] → IsAttributePlace (m ∷ x) ⊎ IsPlain (m ∷ x)
    by_last [] e = inr (plain_unmarked (m ∷ x) (parent (m ∷ x)) [] e refl)
    by_last (c ∷ a) e = by_mark (c == attribute_mark) refl
      where
        by_mark : (b : Bool) → (c == attribute_mark) ≡ b → IsAttributePlace (m ∷ x) ⊎ IsPlain (m ∷ x)
        by_mark true t = inl (record {
          path = parent (m ∷ x);
          name = a;
          place_is = e ∙ ap (λ d. parent (m ∷ x) ++ (d ∷ a) ∷ []) (eqb-true c attribute_mark t);
        })
        by_mark false t = inr (plain_unmarked (m ∷ x) (parent (m ∷ x)) (c ∷ a) e t)

-- the names of a path
names_of : (x : Path) → IsTrue (is_path x) → IsTrue (list_all is_name x)
names_of x h = first_true (list_all is_name x) (fits_field x) h

-- a path is plain
pub plain_path : (x : Path) → IsTrue (is_path x) → IsPlain x
plain_path x h = by_form (form_of x)
  where
    by_form : IsAttributePlace x ⊎ IsPlain x → IsPlain x
    by_form (inl at) = absurd (attribute_is_no_path at.path x at.name (names_of x h) (sym at.place_is))
    by_form (inr plain) = plain

-- an attribute's place is another than each path
pub attribute_apart : (q : Path) (a : Name) (x : Path) → IsTrue (is_path x) → same_path (attribute_place q a) x ≡ false
attribute_apart q a x h = false_from_ne_true _
    (λ e. attribute_is_no_path q x a (names_of x h) (same_from_test (attribute_place q a) x e))

-- attributes of different paths stand at different places
pub attributes_apart : (q x : Path) (a b : Name) → same_path q x ≡ false
    → same_path (attribute_place q a) (attribute_place x b) ≡ false
attributes_apart q x a b other =
    false_from_ne_true _ (λ e. both_ways _ other
    (same_path-from_equal q x
    (same_attribute_place q x a b (same_from_test (attribute_place q a) (attribute_place x b) e)).0))

-- an attribute lies at a path or below it where its path does
pub attribute_inside : (q : Path) (a : Name) (x : Path) → IsTrue (is_path x)
    → is_at_or_inside (attribute_place q a) x ≡ is_at_or_inside q x
attribute_inside q a x h = by_test (is_at_or_inside q x) refl
  where
    below : (s : Path) → attribute_place q a ≡ x ++ s → is_at_or_inside q x ≡ true
    below [] e = absurd (attribute_is_no_path q x a (names_of x h) (e ∙ append-nil x))
    below (n ∷ s) e =
        let step = last_step (n ∷ s) refl in
        let longer : attribute_place q a ≡ (x ++ parent (n ∷ s)) ++ step.0 ∷ [] =
        e ∙ ap (λ z. x ++ z) step.1 ∙ sym (append_assoc x (parent (n ∷ s)) (step.0 ∷ [])) in
        let up : q ≡ x ++ parent (n ∷ s) = sym (parent-push q (attribute_mark ∷ a)) ∙ ap parent longer
        ∙ parent-push (x ++ parent (n ∷ s)) step.0 in
        ap (λ z. is_at_or_inside z x) up ∙ at_or_inside-append x (parent (n ∷ s))

    by_test : (b : Bool) → is_at_or_inside q x ≡ b → is_at_or_inside (attribute_place q a) x ≡ is_at_or_inside q x
    by_test true e = at_or_inside-push q x (attribute_mark ∷ a) e ∙ sym e
    by_test false e = false_from_ne_true _
        (λ inside. both_ways _ e (below _ (at_or_inside-split (attribute_place q a) x inside))) ∙ sym e

-- ---- what a tree has there

pub or_none : (o : Option (List ℕ)) → option_or o None ≡ o
or_none None = refl
or_none (Some v) = refl

-- at a plain place what stands at it
pub plain_blocks : (t : Tree) (version : Version) (x : Path) (i : ℕ) → IsPlain x
    → version_blocks t version x i ≡ block_value (node_of (find path_cmp x t)) version i
plain_blocks t version x i plain = ap (option_or (block_value (node_of (find path_cmp x t)) version i))
    (plain.no_block (attributes_at t (parent x)) i) ∙ or_none _

-- so at a path
pub path_blocks : (t : Tree) (version : Version) (x : Path) (i : ℕ) → IsTrue (is_path x)
    → version_blocks t version x i ≡ block_value (node_of (find path_cmp x t)) version i
path_blocks t version x i h = plain_blocks t version x i (plain_path x h)

-- no entry stands at an attribute's place
pub no_entry_there : (t : Tree) (q : Path) (a : Name) → IsTree t → find path_cmp (attribute_place q a) t ≡ None
no_entry_there t q a h = by_found (find path_cmp (attribute_place q a) t) refl
  where
    by_found : (o : Option Entry) → find path_cmp (attribute_place q a) t ≡ o → o ≡ None
    by_found None e = refl
    by_found (Some entry) e =
        absurd (attribute_is_no_path q (attribute_place q a) a
        (names_of (attribute_place q a) (find_from_all (IsEntry t) (attribute_place q a) entry t h.entries e).path)
        refl)

-- but the attribute, if its path has it
pub attribute_blocks : (t : Tree) (version : Version) (q : Path) (a : Name) (i : ℕ) → IsTree t
    → version_blocks t version (attribute_place q a) i ≡ attribute_block (attributes_at t q) (attribute_mark ∷ a) i
attribute_blocks t version q a i h =
    ap (λ o. option_or (block_value (node_of o) version i)
    (attribute_block (attributes_at t (parent (attribute_place q a))) (last_name (attribute_place q a)) i))
    (no_entry_there t q a h)
    ∙ ap₂ (λ r n. attribute_block (attributes_at t r) n i) (parent-push q (attribute_mark ∷ a))
    (last_name-push q (attribute_mark ∷ a))

-- an attribute has no block but the first
pub first_of_attribute : (attributes : Attributes) (n : Name) (i : ℕ) → attribute_block attributes n (suc i) ≡ None
first_of_attribute attributes [] i = refl
first_of_attribute attributes (c ∷ a) i = refl
