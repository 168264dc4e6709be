-- What the steps of a dump tell of its entries.
use Rattle.std.proofs.Common.{◌≡◌, ℕ, ◌+◌, Bool, true, false, cond, List, [], ◌∷◌, ◌++◌, length, map, fold}
use Rattle.std.proofs.Common.{None, IsTrue, refl, sym, ap, ◌∙◌, append_assoc, Less}
use Rattle.std.specs.FinMap.{is_sorted}
use Rattle.std.specs.List.{AllByRecursion}
use Rattle.std.specs.List.Sorted.{IsStrictlySortedBy}
use Rattle.std.specs.Ordering.{is_eq}
use Rattle.std.proofs.lemmas.List.{append-nil}
use Rattle.std.proofs.lemmas.List.Sums.{fold-append}
use Rattle.store_model.specs.Paths.{Path, Name, name_cmp, path_cmp, same_path}
use Rattle.store_model.specs.Trees.{Tree, Node, Entry, Attributes, IsTree}
use Rattle.store_model.specs.Trees.Node.{Directory, File}
use Rattle.store_model.proofs.ListsLemmas.{rising_from_is_sorted, all_weaker}
use Rattle.store_model.proofs.TreesLemmasPaths.{same_path-itself, same_path-from_equal}
use Rattle.dump_streams.specs.Dumps.{DumpStep, dump, node_steps, attribute_steps, entry_steps}
use Rattle.dump_streams.specs.Dumps.DumpStep.{Make, Write, Set}
use Rattle.dump_views.proofs.EntryLemmas.{fold_file}
use Rattle.host_builder.specs.HostAttributes.{attribute_of}
use Rattle.entry_lines.specs.declared.entry.EntryKind.TheVariants as kinds
use Rattle.entry_lines.specs.declared.entry.EntryFacts.{EntryFacts}
use Rattle.entry_lines.specs.Entries.{kind_of, facts_of, bare_facts, with_kind, with_attribute, Told, told_from}
use Rattle.entry_lines.specs.Entries.{entries_of, is_last, begun, changed, tell}
use Rattle.entry_lines.proofs.AttributeFolds.{said_parts, facts_told}

tell_node : (told : Told) (p : Path) (node : Node) → is_last told.last p ≡ false
    → fold tell told (node_steps p node) ≡ begun told (bare_facts p (kind_of node))
tell_node told p Directory other = refl
tell_node told p (File bytes) other =
    fold_file tell p (λ len. begun told (bare_facts p (kinds.File len)))
    (λ len at more. ap (λ (b : Bool). cond b
    (changed (begun told (bare_facts p (kinds.File len))) (with_kind (kinds.File (at + length more))))
    (begun (begun told (bare_facts p (kinds.File len))) (bare_facts p (kinds.File (at + length more)))))
    (same_path-itself p))
    told
    (λ at more. ap (λ (b : Bool). cond b (changed told (with_kind (kinds.File (at + length more))))
    (begun told (bare_facts p (kinds.File (at + length more))))) other)
    bytes

-- an attribute leaves the path as it is
path_stays : (f : EntryFacts) (name : Name) (bytes : List ℕ) → (with_attribute f name bytes).path ≡ f.path
path_stays f name bytes = ap (λ (g : EntryFacts). g.path) (said_parts f (attribute_of name bytes) bytes)

tell_attributes : (told : Told) (p : Path) (f : EntryFacts) (names : Attributes) → f.path ≡ p
    → fold tell (begun told f) (attribute_steps p names)
    ≡ begun told (fold (λ g a. with_attribute g a.0 a.1) f names)
unfolding attribute_steps
tell_attributes told p f [] here = refl
tell_attributes told p f (a ∷ names) here =
    ap (λ (b : Bool). fold tell (cond b (changed (begun told f) (λ g. with_attribute g a.0 a.1)) (begun told f))
    (attribute_steps p names)) (same_path-from_equal f.path p here)
    ∙ tell_attributes told p (with_attribute f a.0 a.1) names (path_stays f a.0 a.1 ∙ here)

tell_entry : (told : Told) (p : Path) (e : Entry) → IsTrue (is_sorted name_cmp e.attributes)
    → is_last told.last p ≡ false → fold tell told (entry_steps p e) ≡ begun told (facts_of p e)
tell_entry told p e sorted other =
    fold-append tell told (node_steps p e.node) (attribute_steps p e.attributes)
    ∙ ap (λ (k : Told). fold tell k (attribute_steps p e.attributes)) (tell_node told p e.node other)
    ∙ tell_attributes told p (bare_facts p (kind_of e.node)) e.attributes refl
    ∙ ap (begun told) (facts_told p e sorted)

facts_path : (p : Path) (e : Entry) → (facts_of p e).path ≡ p
unfolding facts_of
facts_path p e = refl

tell_tree : (t : Tree) (told : Told) → IsStrictlySortedBy (λ a b. path_cmp a.0 b.0) t
    → AllByRecursion (λ e. IsTrue (is_sorted name_cmp e.1.attributes)) t
    → AllByRecursion (λ f. is_last told.last f.0 ≡ false) t
    → entries_of (fold tell told (dump t)) ≡ entries_of told ++ map (λ e. facts_of e.0 e.1) t
unfolding dump IsStrictlySortedBy
tell_tree [] told rising sorted others = sym (append-nil (entries_of told))
tell_tree (e ∷ t) told rising sorted others =
    let facts = facts_of e.0 e.1 in
    let behind : AllByRecursion (λ f. same_path facts.path f.0 ≡ false) t =
    all_weaker (λ (f : Path × Entry). path_cmp e.0 f.0 ≡ Less) (λ f. same_path facts.path f.0 ≡ false)
    (λ f less. ap (λ (q : Path). same_path q f.0) (facts_path e.0 e.1) ∙ ap is_eq less) t rising.0 in
    ap entries_of (fold-append tell told (entry_steps e.0 e.1) (dump t)
    ∙ ap (λ (k : Told). fold tell k (dump t)) (tell_entry told e.0 e.1 sorted.0 others.0))
    ∙ tell_tree t (begun told facts) rising.1 sorted.1 behind
    ∙ append_assoc (entries_of told) (facts ∷ []) (map (λ e. facts_of e.0 e.1) t)

none_last : (t : Tree) → AllByRecursion (λ f. is_last (told_from None).last f.0 ≡ false) t
none_last [] = tt
none_last (e ∷ t) = (refl, none_last t)

-- of a dump the facts of each entry are told
pub told_entries : (t : Tree) → IsTree t
    → entries_of (fold tell (told_from None) (dump t)) ≡ map (λ e. facts_of e.0 e.1) t
told_entries t tree = tell_tree t (told_from None) (rising_from_is_sorted path_cmp t tree.sorted)
    (all_weaker _ _ (λ e h. h.attributes.sorted) t tree.entries) (none_last t)

-- what is told behind a step is what was told before, and what the step tells of the last entry
pub told_behind : (told : Told) (s : DumpStep) → tell told s ≡ record {
  whole = told.whole ++ (tell (told_from told.last) s).whole;
  last = (tell (told_from told.last) s).last;
}
told_behind told (Make p) = refl
told_behind told (Write p at bytes) = by_test (is_last told.last p)
  where
    by_test : (b : Bool) → cond b (changed told (with_kind (kinds.File (at + length bytes))))
        (begun told (bare_facts p (kinds.File (at + length bytes)))) ≡ record {
          whole = told.whole
              ++ (cond b (changed (told_from told.last) (with_kind (kinds.File (at + length bytes))))
              (begun (told_from told.last) (bare_facts p (kinds.File (at + length bytes))))).whole;
          last = (cond b (changed (told_from told.last) (with_kind (kinds.File (at + length bytes))))
              (begun (told_from told.last) (bare_facts p (kinds.File (at + length bytes))))).last;
        }
    by_test true = rw (append-nil told.whole) refl
    by_test false = refl
told_behind told (Set p name bytes) = by_test (is_last told.last p)
  where
    by_test : (b : Bool) → cond b (changed told (λ f. with_attribute f name bytes)) told ≡ record {
      whole = told.whole
          ++ (cond b (changed (told_from told.last) (λ f. with_attribute f name bytes)) (told_from told.last)).whole;
      last = (cond b (changed (told_from told.last) (λ f. with_attribute f name bytes)) (told_from told.last)).last;
    }
    by_test true = rw (append-nil told.whole) refl
    by_test false = rw (append-nil told.whole) refl
