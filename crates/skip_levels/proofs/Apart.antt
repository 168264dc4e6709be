-- What lies before and behind a key of a higher level is paged apart: so a change at a place changes the pages of one
-- group a level alone.
use Rattle.std.proofs.Common.{◌≡◌, ℕ, List, [], ◌∷◌, ◌++◌, Bool, true, false, cond, refl, sym, ap, ◌∙◌}
use Rattle.std.specs.List.{flat_map, AllByRecursion}
use Rattle.std.proofs.lemmas.Grind.{flat_map-append}
use Rattle.std.proofs.lemmas.List.{append-nil}
use Rattle.store_model.specs.Lists.{onto_part, cut_before}
use Rattle.store_model.specs.Draws.{Draw}
use Rattle.store_model.specs.Pages.{Cell, Page, leads_group, lead_of, group_pages}
use Rattle.node_pages.proofs.Runs.{all_pages, no_page}

-- ---- lists that are cut

module _ {A : Type 0} (cuts : A → Bool) where
  -- a list has a cut at its front, or nothing
  abbrev pub BeginsAtCut : List A → Type 0
  BeginsAtCut [] = Unit {0}
  BeginsAtCut (y ∷ ys) = cuts y ≡ true

  -- no element but the first has a cut in front of it
  abbrev pub IsUncut : List A → Type 0
  IsUncut [] = Unit {0}
  IsUncut (x ∷ xs) = AllByRecursion (λ y. cuts y ≡ false) xs

  -- the first part of a list begins with its first element
  pub first_part : (y : A) (parts : List (List A))
      → (part : List A) × (rest : List (List A)) × (onto_part cuts y parts ≡ (y ∷ part) ∷ rest)
  unfolding onto_part
  first_part y [] = ([], [], refl)
  first_part y ([] ∷ parts) = ([], parts, refl)
  first_part y ((z ∷ part) ∷ parts) =
      elim (cuts z) as (λ b. (front : List A) × (rest : List (List A))
      × (cond b ((y ∷ []) ∷ (z ∷ part) ∷ parts) ((y ∷ z ∷ part) ∷ parts) ≡ (y ∷ front) ∷ rest)) [
        | true ↦ ([], (z ∷ part) ∷ parts, refl)
        | false ↦ (z ∷ part, parts, refl)
      ]

  -- an element in front of parts, where the next begins at a cut
  onto_apart : (x y : A) (part : List A) (rest parts : List (List A)) → cuts y ≡ true
      → onto_part cuts x (parts ++ (y ∷ part) ∷ rest) ≡ onto_part cuts x parts ++ (y ∷ part) ∷ rest
  unfolding onto_part
  onto_apart x y part rest [] cut = ap (λ b. cond b ((x ∷ []) ∷ (y ∷ part) ∷ rest) ((x ∷ y ∷ part) ∷ rest)) cut
  onto_apart x y part rest ([] ∷ parts) cut = refl
  onto_apart x y part rest ((z ∷ front) ∷ parts) cut =
      elim (cuts z) as (λ b. cond b ((x ∷ []) ∷ (z ∷ front) ∷ (parts ++ (y ∷ part) ∷ rest))
      ((x ∷ z ∷ front) ∷ (parts ++ (y ∷ part) ∷ rest))
      ≡ cond b ((x ∷ []) ∷ (z ∷ front) ∷ parts) ((x ∷ z ∷ front) ∷ parts) ++ (y ∷ part) ∷ rest)
      [ true ↦ refl | false ↦ refl ]

  -- what lies before and behind a cut is cut apart
  pub cut_apart : (xs ys : List A) → BeginsAtCut ys
      → cut_before cuts (xs ++ ys) ≡ cut_before cuts xs ++ cut_before cuts ys
  unfolding cut_before
  cut_apart xs [] cut = ap (cut_before cuts) (append-nil xs) ∙ sym (append-nil (cut_before cuts xs))
  cut_apart [] (y ∷ ys) cut = refl
  cut_apart (x ∷ xs) (y ∷ ys) cut =
      let first = first_part y (cut_before cuts ys) in
      ap (onto_part cuts x) (cut_apart xs (y ∷ ys) cut ∙ ap (λ ps. cut_before cuts xs ++ ps) first.2)
      ∙ onto_apart x y first.0 first.1 (cut_before cuts xs) cut
      ∙ ap (λ ps. onto_part cuts x (cut_before cuts xs) ++ ps) (sym first.2)

  -- a list that is cut nowhere within is one part
  pub one_part : (x : A) (xs : List A) → IsUncut (x ∷ xs) → cut_before cuts (x ∷ xs) ≡ (x ∷ xs) ∷ []
  unfolding cut_before onto_part
  one_part x [] uncut = refl
  one_part x (y ∷ ys) uncut =
      ap (onto_part cuts x) (one_part y ys uncut.1)
      ∙ ap (λ b. cond b ((x ∷ []) ∷ (y ∷ ys) ∷ []) ((x ∷ y ∷ ys) ∷ [])) uncut.0

-- ---- the pages of a list of cells on a level

module _ (d : Draw) (level : ℕ) where
  -- the pages of one group
  abbrev pub pages_of_group : List Cell → List Page
  pages_of_group cells = group_pages level (lead_of d level cells) cells

  -- the pages of a list of cells, group after group
  unfoldable pub list_pages : List Cell → List Page
  list_pages cells = flat_map pages_of_group (cut_before (leads_group d level) cells)

  -- no cell makes no page
  pub list_pages_none : list_pages [] ≡ []
  unfolding list_pages cut_before
  list_pages_none = refl

  -- what lies before and behind a key of a higher level is paged apart
  pub paged_apart : (xs ys : List Cell) → BeginsAtCut (leads_group d level) ys
      → list_pages (xs ++ ys) ≡ list_pages xs ++ list_pages ys
  unfolding list_pages
  paged_apart xs ys cut = ap (flat_map pages_of_group) (cut_apart (leads_group d level) xs ys cut)
      ∙ flat_map-append pages_of_group (cut_before (leads_group d level) xs) (cut_before (leads_group d level) ys)

  -- a group's pages are those of its cells
  pub group_alone : (x : Cell) (xs : List Cell) → IsUncut (leads_group d level) (x ∷ xs)
      → list_pages (x ∷ xs) ≡ pages_of_group (x ∷ xs)
  unfolding list_pages
  group_alone x xs uncut = ap (flat_map pages_of_group) (one_part (leads_group d level) x xs uncut)
      ∙ append-nil (pages_of_group (x ∷ xs))

  -- a group of no cell has no page
  pub no_page_of_none : pages_of_group [] ≡ []
  no_page_of_none = sym (all_pages level (lead_of d level []) []) ∙ no_page level (lead_of d level []) 0 [] refl
