-- Ordered tables: placement gives them, and the pages of one tell it.
use Rattle.std.proofs.Common.{◌≡◌, ℕ, zero, suc, ◌<◌, ◌≤◌, ◌⊎◌, inl, inr, List, [], ◌∷◌, false, Some, None, length, map}
use Rattle.std.proofs.Common.{refl, ap, sym, subst, ◌∙◌, arith}
use Rattle.std.specs.List.{IsDistinct, AllByRecursion, Contains}
use Rattle.std.specs.declared.cmp.Ordering.{Ordering}
use Rattle.std.specs.declared.cmp.Ordering.TheVariants.{Less, Equal, Greater}
use Rattle.std.specs.Ordering.{is_eq, eq_by_cmp}
use Rattle.std.specs.FinMap.{nat_cmp-IsAntisymmetric, slice_cmp-IsAntisymmetric}
use Rattle.std.proofs.lemmas.Bool.{cases_lt}
use Rattle.std.proofs.lemmas.List.Sorted.{Contains-permutation, IsPermutation-sym}
use Rattle.std.proofs.lemmas.Option.{slice_get_within}
use Rattle.store_model.specs.Labels.{Label, IsLabel, label_bytes, label_cmp}
use Rattle.store_model.specs.Draws.{Draw, IsLawful}
use Rattle.store_model.specs.Pages.{Page, IsPage}
use Rattle.store_model.specs.Placement.{Table, probe, place, pages_in, HoldsPage, IsOrderedTable}
use Rattle.store_model.proofs.ListsLemmasOrder.{AllByRecursion-permutation, held_all}
use Rattle.store_model.proofs.PlacementLemmas.{probe_reaches, length-place, IsPermutation-place}
use Rattle.store_model.proofs.PlacementLemmasOrder.{IsInOrder-place, one_table_of_pages, held_contained}
use Rattle.store_model.proofs.PlacementLemmasOrder.{length-pages_in-le, one_page}
use Rattle.store_model.proofs.TreesLemmasBytes.{labels_same}

-- labels that tie have the same bytes
pub tied_label_bytes : (k l : Label) → label_cmp k l ≡ Equal → label_bytes k ≡ label_bytes l
tied_label_bytes k l e = slice_cmp-IsAntisymmetric nat_cmp-IsAntisymmetric (label_bytes k) (label_bytes l) e

-- and are the same
tied_labels : (k l : Label) → IsLabel k → IsLabel l → label_cmp k l ≡ Equal → k ≡ l
tied_labels k l hk hl e = labels_same k l hk hl (tied_label_bytes k l e)

-- a page that a slot of an ordered table holds is a page
pub held_page : (table : Table) (slot : ℕ) (page : Page) → AllByRecursion IsPage (pages_in table)
    → HoldsPage table slot page → IsPage page
held_page table slot page all held = held_all IsPage (pages_in table) page all (held_contained table slot page held)

-- what holds of the label of each page that a slot holds holds of each label
all_held_labels : (P : Label → Type 0) (table : Table)
    → ((slot : ℕ) (page : Page) → HoldsPage table slot page → P page.label)
    → AllByRecursion P (map (λ page. page.label) (pages_in table))
unfolding pages_in
all_held_labels P [] f = tt
all_held_labels P (None ∷ table) f = all_held_labels P table (λ slot page held. f (suc slot) page held)
all_held_labels P (Some page ∷ table) f =
    (f zero page refl, all_held_labels P table (λ slot other held. f (suc slot) other held))

-- no two slots hold pages whose labels tie
abbrev HoldsLabelsOnce : Table → Type 0
HoldsLabelsOnce table = (i j : ℕ) (p q : Page) → HoldsPage table i p → HoldsPage table j q
    → label_cmp p.label q.label ≡ Equal → i ≡ j

-- a test that does not hold, where it would be absurd that it does
not_tied : (o : Ordering) → (o ≡ Equal → ⊥) → is_eq o ≡ false
not_tied Less f = refl
not_tied Equal f = absurd (f refl)
not_tied Greater f = refl

-- so the labels are distinct
distinct_labels_of_slots : (table : Table) → HoldsLabelsOnce table
    → IsDistinct (eq_by_cmp label_cmp) (map (λ page. page.label) (pages_in table))
unfolding pages_in IsDistinct
distinct_labels_of_slots [] once = tt
distinct_labels_of_slots (None ∷ table) once =
    distinct_labels_of_slots table (λ i j p q g h e. later i j (once (suc i) (suc j) p q g h e))
  where
    later : (i j : ℕ) → suc i ≡ suc j → i ≡ j
    later i j e = omega arith
distinct_labels_of_slots (Some page ∷ table) once = (
  all_held_labels (λ l. eq_by_cmp label_cmp page.label l ≡ false) table
      (λ slot other held. not_tied (label_cmp page.label other.label)
      (λ e. apart slot (once zero (suc slot) page other refl held e))),
  distinct_labels_of_slots table (λ i j p q g h e. later i j (once (suc i) (suc j) p q g h e)),
)
  where
    apart : (slot : ℕ) → zero ≡ suc slot → ⊥
    apart slot e = omega arith

    later : (i j : ℕ) → suc i ≡ suc j → i ≡ j
    later i j e = omega arith

-- in a table in order, two pages of one label are one: the later one would need a smaller label at the other's slot
labels_once : (d : Draw) (table : Table) → IsLawful d → IsOrderedTable d table → HoldsLabelsOnce table
labels_once d table law is i j p q held_p held_q tied = by_places (cases_lt a.0 b.0) (cases_lt b.0 a.0)
  where
    same : p.label ≡ q.label
    same = tied_labels p.label q.label (held_page table i p is.pages held_p).label
        (held_page table j q is.pages held_q).label tied

    a : (k : ℕ) × (k < d.slots) × (probe d.slots (d.start p.label) k ≡ i)
    a = probe_reaches d.slots (d.start p.label) i (law.start_in_range p.label)
        (omega (arith, slice_get_within table i (Some p) held_p, is.slots))

    b : (k : ℕ) × (k < d.slots) × (probe d.slots (d.start p.label) k ≡ j)
    b = probe_reaches d.slots (d.start p.label) j (law.start_in_range p.label)
        (omega (arith, slice_get_within table j (Some q) held_q, is.slots))

    at_b : probe d.slots (d.start q.label) b.0 ≡ j
    at_b = ap (λ (l : Label). probe d.slots (d.start l) b.0) (sym same) ∙ b.2

    at_a : probe d.slots (d.start q.label) a.0 ≡ i
    at_a = ap (λ (l : Label). probe d.slots (d.start l) a.0) (sym same) ∙ a.2

    not_less : label_cmp p.label q.label ≡ Less → ⊥
    not_less e = cc

    not_less_back : label_cmp q.label p.label ≡ Less → ⊥
    not_less_back e = let back : label_cmp q.label p.label ≡ Equal =
        ap (λ (l : Label). label_cmp l p.label) (sym same) ∙ ap (label_cmp p.label) same ∙ tied in cc

    q_behind : a.0 < b.0 → ⊥
    q_behind lt =
        let r = is.in_order q b.0 b.1 (subst (λ (s : ℕ). HoldsPage table s q) (sym at_b) held_q) a.0 lt in
        let e : r.0 ≡ p = one_page table i r.0 p (subst (λ (s : ℕ). HoldsPage table s r.0) at_a r.1) held_p in
        not_less (subst (λ (x : Page). label_cmp x.label q.label ≡ Less) e r.2)

    p_behind : b.0 < a.0 → ⊥
    p_behind lt =
        let r = is.in_order p a.0 a.1 (subst (λ (s : ℕ). HoldsPage table s p) (sym a.2) held_p) b.0 lt in
        let e : r.0 ≡ q = one_page table j r.0 q (subst (λ (s : ℕ). HoldsPage table s r.0) b.2 r.1) held_q in
        not_less_back (subst (λ (x : Page). label_cmp x.label p.label ≡ Less) e r.2)

    by_places : (a.0 < b.0) ⊎ (b.0 ≤ a.0) → (b.0 < a.0) ⊎ (a.0 ≤ b.0) → i ≡ j
    by_places (inl lt) y = absurd (q_behind lt)
    by_places (inr le) (inl lt) = absurd (p_behind lt)
    by_places (inr le) (inr ge) =
        let e : a.0 ≡ b.0 = omega arith in
        sym a.2 ∙ ap (probe d.slots (d.start p.label)) e ∙ b.2

-- the pages of an ordered table have distinct labels
pub distinct_labels_of_table : (d : Draw) (table : Table) → IsLawful d → IsOrderedTable d table
    → IsDistinct (eq_by_cmp label_cmp) (map (λ page. page.label) (pages_in table))
distinct_labels_of_table d table law is = distinct_labels_of_slots table (labels_once d table law is)

-- two ordered tables of the same pages are one
pub one_ordered_table : (d : Draw) (a b : Table) → IsLawful d → IsOrderedTable d a → IsOrderedTable d b
    → ((page : Page) → Contains (pages_in a) page → Contains (pages_in b) page)
    → ((page : Page) → Contains (pages_in b) page → Contains (pages_in a) page) → a ≡ b
one_ordered_table d a b law is_a is_b there back =
    one_table_of_pages d a b law is_a.slots is_b.slots (distinct_labels_of_table d a law is_a)
    (distinct_labels_of_table d b law is_b) there back is_a.in_order is_b.in_order

-- placement of at most as many pages as there are slots, with distinct labels, gives an ordered table
pub IsOrderedTable-place : (d : Draw) (pages : List Page) → IsLawful d → length pages ≤ d.slots
    → IsDistinct (eq_by_cmp label_cmp) (map (λ page. page.label) pages) → AllByRecursion IsPage pages
    → IsOrderedTable d (place d pages)
IsOrderedTable-place d pages law room distinct all = record {
  slots = length-place d pages;
  pages = AllByRecursion-permutation IsPage pages (pages_in (place d pages)) (IsPermutation-place d pages law room) all;
  in_order = IsInOrder-place d pages law room distinct;
}

-- an ordered table has room for its pages
pub room_of_table : (d : Draw) (table : Table) → IsOrderedTable d table → length (pages_in table) ≤ d.slots
room_of_table d table is = omega (arith, length-pages_in-le table, is.slots)

-- an ordered table is the placement of its pages
pub ordered_table_is_place : (d : Draw) (table : Table) → IsLawful d → IsOrderedTable d table
    → table ≡ place d (pages_in table)
ordered_table_is_place d table law is =
    let distinct = distinct_labels_of_table d table law is in
    let room = room_of_table d table is in
    let moves = IsPermutation-place d (pages_in table) law room in
    one_ordered_table d table (place d (pages_in table)) law is
    (IsOrderedTable-place d (pages_in table) law room distinct is.pages)
    (λ page held. Contains-permutation (pages_in table) (pages_in (place d (pages_in table))) page moves held)
    (λ page held. Contains-permutation (pages_in (place d (pages_in table))) (pages_in table) page
    (IsPermutation-sym (pages_in table) (pages_in (place d (pages_in table))) moves) held)
