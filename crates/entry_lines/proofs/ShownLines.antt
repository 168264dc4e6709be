-- What is shown of paths and bytes.
use Rattle.std.proofs.Common.{◌≡◌, ℕ, ◌+◌, ◌≤◌, List, [], ◌∷◌, ◌++◌, length, take, drop, Bool, true, false, cond, ◌||◌}
use Rattle.std.proofs.Common.{IsTrue, Option, Some, None, IsNone, IfSome, Result, Ok, Err, OnOk, ◌↔◌, refl, sym, ap}
use Rattle.std.proofs.Common.{subst, ◌∙◌, arith, length-append, append_assoc}
use Rattle.std.specs.List.{flat_map, list_all}
use Rattle.std.specs.Str.{IsUtf8, is_utf8}
use Rattle.std.proofs.lemmas.Bool.{both_ways, and_parts, false_from_ne_true, cond-false, le-leb, leb-true}
use Rattle.std.proofs.lemmas.Grind.{flat_map-append}
use Rattle.std.proofs.lemmas.List.{take-append-drop}
use Rattle.std.proofs.lemmas.Str.{IsUtf8-from_is_utf8, is_utf8-from_IsUtf8}
use Rattle.store_model.specs.Paths.{Path, name_bytes, is_root, is_at_or_inside, is_inside, fits_field, parent}
use Rattle.store_model.specs.Paths.{same_path, is_name, is_path, replanted, path_text}
use Rattle.store_model.proofs.TreesLemmasPaths.{at_or_inside_from_parent, parent-root, same_from_test}
use Rattle.store_model.proofs.TreesLemmasPaths.{same_path-itself}
use Rattle.box_words.specs.Shown.{visible_text, visible_byte}
use Rattle.store_model.specs.Trees.{Entry}
use Rattle.entry_lines.specs.declared.form.ListForm.{ListForm}
use Rattle.entry_lines.specs.Entries.{kind_of, facts_of}
use Rattle.entry_lines.specs.declared.entry.EntryFacts.{EntryFacts}
use Rattle.entry_lines.specs.Lines.{base_of, terminal_bytes, is_file, is_listed, line_of, entry_text}

-- ---- bytes

pub terminal_so : (bytes shown : List ℕ) → (IsUtf8 bytes → shown ≡ visible_text bytes)
    → ((IsUtf8 bytes → ⊥) → shown ≡ flat_map visible_byte bytes) → shown ≡ terminal_bytes bytes
terminal_so bytes shown text other = by_test (is_utf8 bytes) refl
  where
    by_test : (b : Bool) → is_utf8 bytes ≡ b → shown ≡ cond b (visible_text bytes) (flat_map visible_byte bytes)
    by_test true is = text (IsUtf8-from_is_utf8 bytes is)
    by_test false is = other (λ h. absurd (both_ways _ is (is_utf8-from_IsUtf8 bytes h)))

-- ---- paths

at : (path top : Path) → same_path path top ≡ true → is_at_or_inside path top ≡ true
at path top is = ap (λ (b : Bool). b || is_inside path top) is

-- the root is its own parent
pub root_base : (path top : Path) → IsTrue (is_root top) → top ≡ base_of top path
root_base path [] root = by_test (is_inside path [])
  where
    by_test : (b : Bool) → [] ≡ cond b [] (parent [])
    by_test true = refl
    by_test false = sym parent-root
root_base path (n ∷ top) root = absurd cc

-- a path that is this one lies below its parent, or is it
pub below_parent : (path top : Path) → is_at_or_inside path top ≡ true → is_inside path top ≡ false
    → is_at_or_inside path (parent top) ≡ true
below_parent path top within apart =
    ap (λ (q : Path). is_at_or_inside q (parent top)) (same_from_test path top (one (same_path path top)
    (is_inside path top) within apart))
    ∙ at_or_inside_from_parent top (parent top) (at (parent top) (parent top) (same_path-itself (parent top)))
  where
    one : (a b : Bool) → (a || b) ≡ true → b ≡ false → a ≡ true
    one true b e f = refl
    one false b e f = absurd (both_ways b f e)

-- the last names of a path fit where it does
pub fits_rest : (count : ℕ) (path : Path) → fits_field path ≡ true → fits_field (drop count path) ≡ true
unfolding name_bytes
fits_rest count path fits =
    let len : length (name_bytes path) ≡ length (name_bytes (take count path)) + length (name_bytes (drop count path)) =
    ap (λ (q : Path). length (name_bytes q)) (sym (take-append-drop count path))
    ∙ ap length (flat_map-append (λ m. m ++ 0 ∷ []) (take count path) (drop count path))
    ∙ length-append (name_bytes (take count path)) (name_bytes (drop count path)) in
    le-leb _ 120 (omega (arith, len, leb-true (length (name_bytes path)) 120 fits))

-- what is listed of a folder without all below it is what has it for a parent
pub child_within : (path top : Path) → same_path (parent path) top ≡ true → is_at_or_inside path top ≡ true
child_within path top is = at_or_inside_from_parent path top (at (parent path) top is)

-- the root is the child of nothing else
pub root_child : (path top : Path) → IsTrue (is_root path) → same_path path top ≡ false
    → false ≡ same_path (parent path) top
root_child [] top root other = sym (ap (λ (q : Path). same_path q top) parent-root ∙ other)
root_child (n ∷ path) top root other = absurd cc

pub not_listed : (form : ListForm) (top : Path) (f : EntryFacts) → same_path f.path top ≡ false
    → form.is_below ≡ false → IsTrue (is_root f.path) → false ≡ is_listed form top f
not_listed form top f other near root = root_child f.path top root other
    ∙ sym (cond-false (same_path f.path top) (is_file f.kind) _ other
    ∙ cond-false form.is_below (is_inside f.path top) _ near)

-- what does not stand at the path or below it is not listed
neither : (a b : Bool) → (a || b) ≡ false → (a ≡ false) × (b ≡ false)
neither true b e = absurd cc
neither false b e = (refl, e)

pub outside : (form : ListForm) (top path : Path) (e : Entry) → is_at_or_inside path top ≡ false
    → entry_text form top (facts_of path e) ≡ []
unfolding facts_of
outside form top path e apart =
    let both = neither (same_path path top) (is_inside path top) apart in
    let far : same_path (parent path) top ≡ false =
    false_from_ne_true _ (λ is. both_ways _ apart (child_within path top is)) in
    cond-false (is_listed form top (facts_of path e)) (line_of form top (facts_of path e)) []
    (cond-false (same_path path top) (is_file (kind_of e.node)) _ both.0 ∙ none form.is_below both.1 far)
  where
    none : (b : Bool) → is_inside path top ≡ false → same_path (parent path) top ≡ false
        → cond b (is_inside path top) (same_path (parent path) top) ≡ false
    none true inside far = inside
    none false inside far = far

-- ---- a path with another front

module _ (path base front : Path) (root : front ≡ []) where
  -- to be longer than a path can be it would have been that before
  pub never_long : IsTrue (is_path path) → (moved : Option Path) → moved ≡ None
      → (IsNone moved ↔ (fits_field (replanted base front path) ≡ false)) → ⊥
  unfolding replanted
  never_long valid moved is none =
      let long = (subst (λ (o : Option Path). IsNone o ↔ (fits_field (replanted base front path) ≡ false)) is none).0
      refl in
      both_ways _ (ap (λ (f : Path). fits_field (f ++ drop (length base) path)) (sym root) ∙ long)
      (fits_rest (length base) path (and_parts (list_all is_name path) (fits_field path) valid).1)

  pub moved_is : (moved : Option Path) (told : Path) → moved ≡ Some told
      → IfSome moved (λ p. p ≡ replanted base front path) → told ≡ drop (length base) path
  unfolding replanted
  moved_is moved told is some =
      let told_is : told ≡ replanted base front path =
      subst (λ (o : Option Path). IfSome o (λ p. p ≡ replanted base front path)) is some in
      told_is ∙ ap (λ (f : Path). f ++ drop (length base) path) root

-- a path is shown with a `/` in front
pub some_shown : (names : Path) → 1 ≤ length (path_text names)
unfolding path_text
some_shown [] = omega arith
some_shown (n ∷ names) = omega arith

-- ---- texts one after another

pub on_ok : {E A B : Type 0} (r : Result (Unit {0}) E) → (A → B) → OnOk r A → OnOk r B
on_ok (Ok x) f a = f a
on_ok (Err e) f a = tt

pub four_parts : (old a b c d x y z w : List ℕ) → x ≡ old ++ a → y ≡ x ++ b → z ≡ y ++ c → w ≡ z ++ d
    → w ≡ old ++ (((a ++ b) ++ c) ++ d)
four_parts old a b c d x y z w first second third last =
    last ∙ ap (λ t. t ++ d) (third ∙ ap (λ t. t ++ c) (second ∙ ap (λ t. t ++ b) first
    ∙ append_assoc old a b) ∙ append_assoc old (a ++ b) c)
    ∙ append_assoc old ((a ++ b) ++ c) d
