-- Lemmas on maps with changes.
use Rattle.std.proofs.Common.{◌≡◌, ℕ, Bool, true, false, cond, List, [], ◌∷◌, Option, Some, None, refl, sym, ap, ◌∙◌}
use Rattle.std.specs.declared.cmp.Ordering.{Ordering}
use Rattle.std.specs.declared.cmp.Ordering.TheVariants.{Less, Equal, Greater}
use Rattle.std.specs.Map.{lookup, set_value}
use Rattle.std.specs.BTreeMap.{is_at, insert_entry}
use Rattle.std.specs.Ordering.{nat_cmp, is_eq, eq_by_cmp, match_ordering}
use Rattle.std.specs.Cmp.{tied_itself}
use Rattle.std.specs.Cmp.Lexicographic.{slice_cmp, nat_list_cmp_total}
use Rattle.std.specs.FinMap as maps
use Rattle.std.specs.FinMap.{get-insert, get-remove, same_map, slice_cmp-IsAntisymmetric, nat_cmp-IsAntisymmetric}
use Rattle.store_model.specs.Labels.{Label, label_bytes, label_cmp}
use Rattle.store_model.specs.Pages.{Page}
use Rattle.store_model.specs.PageMaps.{PageMap, page_at}
use Rattle.table_memory.specs.Staging.{StagedPages, with_change, with_changes}

-- what is staged, and what is below where nothing is
abbrev pub page_or : Option (Option Page) → Option Page → Option Page
page_or None below = below
page_or (Some page) below = page

-- what is under some bytes behind one change
pub get-with_change : (m : PageMap) (k : Label) (v : Option Page) (b : List ℕ)
    → maps.get (with_change m k v) b ≡ cond (eq_by_cmp (slice_cmp nat_cmp) b (label_bytes k)) v (maps.get m b)
get-with_change m k (Some page) b = get-insert nat_list_cmp_total m (label_bytes k) page b
get-with_change m k None b = get-remove nat_list_cmp_total m (label_bytes k) b

-- the page under a label behind all changes
pub page_at-with_changes : (m : PageMap) (changes : StagedPages) (l : Label)
    → page_at (with_changes m changes) l ≡ page_or (lookup (is_at (label_cmp l)) changes) (page_at m l)
page_at-with_changes m [] l = refl
page_at-with_changes m (e ∷ es) l = get-with_change (with_changes m es) e.0 e.1 (label_bytes l)
    ∙ by_case (is_eq (label_cmp l e.0)) (page_at-with_changes m es l)
  where
    by_case : (b : Bool) → page_at (with_changes m es) l ≡ page_or (lookup (is_at (label_cmp l)) es) (page_at m l)
        → cond b e.1 (page_at (with_changes m es) l)
        ≡ page_or (cond b (Some e.1) (lookup (is_at (label_cmp l)) es)) (page_at m l)
    by_case true rest = refl
    by_case false rest = rest

-- bytes that tie are the same
pub same_when_tied : (a b : List ℕ) → eq_by_cmp (slice_cmp nat_cmp) a b ≡ true → a ≡ b
same_when_tied a b e = slice_cmp-IsAntisymmetric nat_cmp-IsAntisymmetric a b (tie (slice_cmp nat_cmp a b) e)
  where
    tie : (o : Ordering) → is_eq o ≡ true → o ≡ Equal
    tie Less e = cc
    tie Equal e = refl
    tie Greater e = cc

-- one change behind another of the same label hides it, and those of two labels may change places
shadowed : (c d : Bool) (v w x : Option Page) → c ≡ d → cond d v x ≡ cond c v (cond d w x)
shadowed true true v w x e = refl
shadowed true false v w x e = cc
shadowed false true v w x e = cc
shadowed false false v w x e = refl

pub exchanged : (c d : Bool) (v w x : Option Page) → (c ≡ true → d ≡ true → ⊥)
    → cond d w (cond c v x) ≡ cond c v (cond d w x)
exchanged true true v w x apart = absurd (apart refl refl)
exchanged true false v w x apart = refl
exchanged false true v w x apart = refl
exchanged false false v w x apart = refl

inserted : (m : PageMap) (changes : StagedPages) (k : Label) (v : Option Page) (b : List ℕ)
    → maps.get (with_changes m (insert_entry label_cmp changes k v)) b
    ≡ cond (eq_by_cmp (slice_cmp nat_cmp) b (label_bytes k)) v (maps.get (with_changes m changes) b)
inserted m [] k v b = get-with_change m k v b
inserted m (e ∷ es) k v b = by_case (label_cmp k e.0) refl (inserted m es k v b)
  where
    below : maps.get (with_changes m (e ∷ es)) b
        ≡ cond (eq_by_cmp (slice_cmp nat_cmp) b (label_bytes e.0)) e.1 (maps.get (with_changes m es) b)
    below = get-with_change (with_changes m es) e.0 e.1 b

    apart : label_cmp k e.0 ≡ Greater → eq_by_cmp (slice_cmp nat_cmp) b (label_bytes k) ≡ true
        → eq_by_cmp (slice_cmp nat_cmp) b (label_bytes e.0) ≡ true → ⊥
    apart is first second =
        let same : label_bytes e.0 ≡ label_bytes k =
        sym (same_when_tied b (label_bytes e.0) second) ∙ same_when_tied b (label_bytes k) first in
        let tied : slice_cmp nat_cmp (label_bytes k) (label_bytes k) ≡ Equal =
        tied_itself nat_list_cmp_total (label_bytes k) in
        let greater : slice_cmp nat_cmp (label_bytes k) (label_bytes k) ≡ Greater =
        ap (slice_cmp nat_cmp (label_bytes k)) (sym same) ∙ is in
        cc

    by_case : (r : Ordering) → label_cmp k e.0 ≡ r
        → maps.get (with_changes m (insert_entry label_cmp es k v)) b
        ≡ cond (eq_by_cmp (slice_cmp nat_cmp) b (label_bytes k)) v (maps.get (with_changes m es) b)
        → maps.get (with_changes m
        (match_ordering r ((k, v) ∷ e ∷ es) ((e.0, v) ∷ es) (e ∷ insert_entry label_cmp es k v))) b
        ≡ cond (eq_by_cmp (slice_cmp nat_cmp) b (label_bytes k)) v (maps.get (with_changes m (e ∷ es)) b)
    by_case Less is rest = get-with_change (with_changes m (e ∷ es)) k v b
    by_case Equal is rest =
        let same : label_bytes k ≡ label_bytes e.0 =
        slice_cmp-IsAntisymmetric nat_cmp-IsAntisymmetric (label_bytes k) (label_bytes e.0) is in
        get-with_change (with_changes m es) e.0 v b
        ∙ shadowed (eq_by_cmp (slice_cmp nat_cmp) b (label_bytes k)) (eq_by_cmp (slice_cmp nat_cmp) b (label_bytes e.0))
        v e.1 (maps.get (with_changes m es) b) (ap (eq_by_cmp (slice_cmp nat_cmp) b) same)
        ∙ ap (cond (eq_by_cmp (slice_cmp nat_cmp) b (label_bytes k)) v) (sym below)
    by_case Greater is rest =
        get-with_change (with_changes m (insert_entry label_cmp es k v)) e.0 e.1 b
        ∙ ap (cond (eq_by_cmp (slice_cmp nat_cmp) b (label_bytes e.0)) e.1) rest
        ∙ exchanged (eq_by_cmp (slice_cmp nat_cmp) b (label_bytes k))
        (eq_by_cmp (slice_cmp nat_cmp) b (label_bytes e.0)) v e.1 (maps.get (with_changes m es) b) (apart is)
        ∙ ap (cond (eq_by_cmp (slice_cmp nat_cmp) b (label_bytes k)) v) (sym below)

-- a change that is staged comes behind all others
pub with_changes-insert : (m : PageMap) (changes : StagedPages) (k : Label) (v : Option Page)
    → with_changes m (insert_entry label_cmp changes k v) ≡ with_change (with_changes m changes) k v
with_changes-insert m changes k v =
    same_map nat_list_cmp_total (slice_cmp-IsAntisymmetric nat_cmp-IsAntisymmetric)
    (with_changes m (insert_entry label_cmp changes k v)) (with_change (with_changes m changes) k v)
    (λ b. inserted m changes k v b ∙ sym (get-with_change (with_changes m changes) k v b))

-- a change under a label that is written over
written : (m : PageMap) (changes : StagedPages) (k : Label) (old v : Option Page) (b : List ℕ)
    → lookup (is_at (label_cmp k)) changes ≡ Some old
    → maps.get (with_changes m (set_value (is_at (label_cmp k)) changes v)) b
    ≡ cond (eq_by_cmp (slice_cmp nat_cmp) b (label_bytes k)) v (maps.get (with_changes m changes) b)
written m [] k old v b found = cc
written m (e ∷ es) k old v b found = by_case (is_eq (label_cmp k e.0)) refl found (written m es k old v b)
  where
    below : maps.get (with_changes m (e ∷ es)) b
        ≡ cond (eq_by_cmp (slice_cmp nat_cmp) b (label_bytes e.0)) e.1 (maps.get (with_changes m es) b)
    below = get-with_change (with_changes m es) e.0 e.1 b

    apart : is_eq (label_cmp k e.0) ≡ false → eq_by_cmp (slice_cmp nat_cmp) b (label_bytes k) ≡ true
        → eq_by_cmp (slice_cmp nat_cmp) b (label_bytes e.0) ≡ true → ⊥
    apart is first second =
        let same : b ≡ label_bytes k = same_when_tied b (label_bytes k) first in
        let tied : is_eq (slice_cmp nat_cmp (label_bytes k) (label_bytes e.0)) ≡ true =
        ap (λ (x : List ℕ). is_eq (slice_cmp nat_cmp x (label_bytes e.0))) (sym same) ∙ second in
        cc

    by_case : (r : Bool) → is_eq (label_cmp k e.0) ≡ r → cond r (Some e.1) (lookup (is_at (label_cmp k)) es) ≡ Some old
        → (lookup (is_at (label_cmp k)) es ≡ Some old
        → maps.get (with_changes m (set_value (is_at (label_cmp k)) es v)) b
        ≡ cond (eq_by_cmp (slice_cmp nat_cmp) b (label_bytes k)) v (maps.get (with_changes m es) b))
        → maps.get (with_changes m (cond r ((e.0, v) ∷ es) (e ∷ set_value (is_at (label_cmp k)) es v))) b
        ≡ cond (eq_by_cmp (slice_cmp nat_cmp) b (label_bytes k)) v (maps.get (with_changes m (e ∷ es)) b)
    by_case true is found rest =
        let same : label_bytes k ≡ label_bytes e.0 = same_when_tied (label_bytes k) (label_bytes e.0) is in
        get-with_change (with_changes m es) e.0 v b
        ∙ shadowed (eq_by_cmp (slice_cmp nat_cmp) b (label_bytes k)) (eq_by_cmp (slice_cmp nat_cmp) b (label_bytes e.0))
        v e.1 (maps.get (with_changes m es) b) (ap (eq_by_cmp (slice_cmp nat_cmp) b) same)
        ∙ ap (cond (eq_by_cmp (slice_cmp nat_cmp) b (label_bytes k)) v) (sym below)
    by_case false is found rest =
        get-with_change (with_changes m (set_value (is_at (label_cmp k)) es v)) e.0 e.1 b
        ∙ ap (cond (eq_by_cmp (slice_cmp nat_cmp) b (label_bytes e.0)) e.1) (rest found)
        ∙ exchanged (eq_by_cmp (slice_cmp nat_cmp) b (label_bytes k))
        (eq_by_cmp (slice_cmp nat_cmp) b (label_bytes e.0)) v e.1 (maps.get (with_changes m es) b) (apart is)
        ∙ ap (cond (eq_by_cmp (slice_cmp nat_cmp) b (label_bytes k)) v) (sym below)

-- written over, it comes behind all others
pub with_changes-set_value : (m : PageMap) (changes : StagedPages) (k : Label) (old v : Option Page)
    → lookup (is_at (label_cmp k)) changes ≡ Some old
    → with_changes m (set_value (is_at (label_cmp k)) changes v) ≡ with_change (with_changes m changes) k v
with_changes-set_value m changes k old v found =
    same_map nat_list_cmp_total (slice_cmp-IsAntisymmetric nat_cmp-IsAntisymmetric)
    (with_changes m (set_value (is_at (label_cmp k)) changes v)) (with_change (with_changes m changes) k v)
    (λ b. written m changes k old v b found ∙ sym (get-with_change (with_changes m changes) k v b))
