-- What a map of pages holds under the labels of one group.
use Rattle.std.proofs.Common.{◌≡◌, ℕ, zero, suc, ◌+◌, ◌<◌, List, [], ◌∷◌, ◌++◌, map, true, false, cond, Some, None}
use Rattle.std.proofs.Common.{Less, Equal, Greater, refl, sym, ap, subst, ◌∙◌, arith}
use Rattle.std.specs.Ordering.{is_eq}
use Rattle.std.specs.List.{AllByRecursion, enumerate_from, slice_get}
use Rattle.std.specs.FinMap.{find, get-from_entries}
use Rattle.std.specs.Cmp.{tied_itself}
use Rattle.std.specs.Cmp.Lexicographic.{nat_list_cmp_total}
use Rattle.std.proofs.lemmas.List.{map-append}
use Rattle.store_model.specs.Lists.{runs}
use Rattle.store_model.specs.Paths.{key_cmp}
use Rattle.store_model.specs.Labels.{Lead, Label, IsLead, IsLabel, label_bytes}
use Rattle.store_model.specs.Pages.{Cell, Page, IsPage, page_room, group_pages}
use Rattle.store_model.specs.PageMaps.{page_at, map_of_pages}
use Rattle.store_model.proofs.TreesLemmasBytes.{labels_same}
use Rattle.node_pages.specs.PageEntries.{entry_of}
use Rattle.node_pages.proofs.PlaceLemmas.{same_key}
use Rattle.node_pages.specs.LastPages.{page_of_run}
use Rattle.skip_groups.specs.Groups.{label_of, HoldsGroup}

-- a page of another group
abbrev pub IsOther : ℕ → Lead → Page → Type 0
IsOther level lead page = page.label.level ≡ level → page.label.lead ≡ lead → ⊥

-- among pages of other groups none is found
pub none_of_others : (l : Label) (ps : List Page) → IsLabel l → AllByRecursion IsPage ps
    → AllByRecursion (IsOther l.level l.lead) ps → find key_cmp (label_bytes l) (map entry_of ps) ≡ None
none_of_others l [] is valid other = refl
none_of_others l (p ∷ ps) is valid other =
    elim (key_cmp (label_bytes l) (label_bytes p.label)) as (λ o. key_cmp (label_bytes l) (label_bytes p.label) ≡ o
    → cond (is_eq o) (Some p) (find key_cmp (label_bytes l) (map entry_of ps)) ≡ None) [
      | Less ↦ λ e. none_of_others l ps is valid.1 other.1
      | Equal ↦ λ e.
          let same : l ≡ p.label = labels_same l p.label is
          valid.0.label (same_key (label_bytes l) (label_bytes p.label) e) in
          absurd (other.0 (ap (λ (x : Label). x.level) (sym same)) (ap (λ (x : Label). x.lead) (sym same)))
      | Greater ↦ λ e. none_of_others l ps is valid.1 other.1
    ] refl

-- the pages of runs, numbered from a number on
abbrev pages_numbered : ℕ → Lead → ℕ → List (List Cell) → List Page
pages_numbered level lead n rs = map (λ run. page_of_run level lead run.0 run.1) (enumerate_from n rs)

-- among numbered pages that of a number is found
page_of_number : (level : ℕ) (lead : Lead) (n i : ℕ) (rs : List (List Cell)) → level < 256 → IsLead lead
    → n + i < 4294967296 → AllByRecursion IsPage (pages_numbered level lead n rs)
    → find key_cmp (label_bytes (label_of level lead (n + i))) (map entry_of (pages_numbered level lead n rs))
    ≡ slice_get (pages_numbered level lead n rs) i
page_of_number level lead n i [] low led below valid = refl
page_of_number level lead n zero (r ∷ rs) low led below valid =
    let first = page_of_run level lead n r in
    let here : n + 0 ≡ n = omega arith in
    ap (λ k. cond (is_eq (key_cmp (label_bytes (label_of level lead k)) (label_bytes (label_of level lead n))))
    (Some first) (find key_cmp (label_bytes (label_of level lead k))
    (map entry_of (pages_numbered level lead (n + 1) rs)))) here
    ∙ ap (λ o. cond (is_eq o) (Some first)
    (find key_cmp (label_bytes (label_of level lead n)) (map entry_of (pages_numbered level lead (n + 1) rs))))
    (tied_itself nat_list_cmp_total (label_bytes (label_of level lead n)))
page_of_number level lead n (suc i) (r ∷ rs) low led below valid =
    let first = page_of_run level lead n r in
    let l = label_of level lead (n + suc i) in
    let is : IsLabel l = record { level = low; lead = led; index = below } in
    let further : n + suc i ≡ n + 1 + i = omega arith in
    let rest : find key_cmp (label_bytes l) (map entry_of (pages_numbered level lead (n + 1) rs))
    ≡ slice_get (pages_numbered level lead (n + 1) rs) i =
    subst (λ k. find key_cmp (label_bytes (label_of level lead k)) (map entry_of (pages_numbered level lead (n + 1) rs))
    ≡ slice_get (pages_numbered level lead (n + 1) rs) i) (sym further)
    (page_of_number level lead (n + 1) i rs low led (omega arith) valid.1) in
    elim (key_cmp (label_bytes l) (label_bytes first.label)) as
    (λ o. key_cmp (label_bytes l) (label_bytes first.label) ≡ o
    → cond (is_eq o) (Some first) (find key_cmp (label_bytes l) (map entry_of (pages_numbered level lead (n + 1) rs)))
    ≡ slice_get (pages_numbered level lead (n + 1) rs) i) [
      | Less ↦ λ e. rest
      | Equal ↦ λ e.
          let same : l ≡ first.label =
          labels_same l first.label is valid.0.label (same_key (label_bytes l) (label_bytes first.label) e) in
          let equal : n + suc i ≡ n = ap (λ (x : Label). x.index) same in
          absurd (omega arith)
      | Greater ↦ λ e. rest
    ] refl

-- what is found among entries one behind the other
found_behind : {X : Type 0} (q : List ℕ) (xs ys : List (List ℕ × X)) → find key_cmp q xs ≡ None
    → find key_cmp q (xs ++ ys) ≡ find key_cmp q ys
found_behind q [] ys none = refl
found_behind q (x ∷ xs) ys none =
    elim (is_eq (key_cmp q x.0)) as (λ b. cond b (Some x.1) (find key_cmp q xs) ≡ None
    → cond b (Some x.1) (find key_cmp q (xs ++ ys)) ≡ find key_cmp q ys) [
      | true ↦ λ e. absurd (cc)
      | false ↦ λ e. found_behind q xs ys e
    ] none

found_in_front : {X : Type 0} (q : List ℕ) (xs ys : List (List ℕ × X)) → find key_cmp q ys ≡ None
    → find key_cmp q (xs ++ ys) ≡ find key_cmp q xs
found_in_front q [] ys none = none
found_in_front q (x ∷ xs) ys none = ap (cond (is_eq (key_cmp q x.0)) (Some x.1)) (found_in_front q xs ys none)

-- pages of which one part is a group and the others are of other groups
pub record Surround (level : ℕ) (lead : Lead) (front cells_pages back : List Page) : Type 0 where
  pub front_valid : AllByRecursion IsPage front
  pub group_valid : AllByRecursion IsPage cells_pages
  pub back_valid : AllByRecursion IsPage back
  pub front_others : AllByRecursion (IsOther level lead) front
  pub back_others : AllByRecursion (IsOther level lead) back

-- the map of such pages holds the group
pub holds_group : (level : ℕ) (lead : Lead) (cells : List Cell) (front back : List Page) → level < 256 → IsLead lead
    → Surround level lead front (group_pages level lead cells) back
    → HoldsGroup (map_of_pages (front ++ (group_pages level lead cells ++ back))) level lead cells
unfolding group_pages
holds_group level lead cells front back low led h = record { each = each_page }
  where
    each_page : (index : ℕ) → index < 4294967296
        → page_at (map_of_pages (front ++ (group_pages level lead cells ++ back))) (label_of level lead index)
        ≡ slice_get (group_pages level lead cells) index
    each_page index below =
        let l = label_of level lead index in
        let q = label_bytes l in
        let is : IsLabel l = record { level = low; lead = led; index = below } in
        let group = group_pages level lead cells in
        let from_0 : 0 + index ≡ index = omega arith in
        let numbered : find key_cmp q (map entry_of group) ≡ slice_get group index =
        subst (λ k. find key_cmp (label_bytes (label_of level lead k)) (map entry_of group)
        ≡ slice_get group index) from_0
        (page_of_number level lead 0 index (runs (page_room level) cells) low led (omega arith) h.group_valid) in
        get-from_entries nat_list_cmp_total (map entry_of (front ++ (group ++ back))) q
        ∙ ap (find key_cmp q) (map-append entry_of front (group ++ back)
        ∙ ap (λ es. map entry_of front ++ es) (map-append entry_of group back))
        ∙ found_behind q (map entry_of front) (map entry_of group ++ map entry_of back)
        (none_of_others l front is h.front_valid h.front_others)
        ∙ found_in_front q (map entry_of group) (map entry_of back)
        (none_of_others l back is h.back_valid h.back_others)
        ∙ numbered
