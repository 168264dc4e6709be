-- Pages in memory make a map of pages, each under its label.
use Rattle.std.proofs.Common.{◌≡◌, ℕ, List, [], ◌∷◌, map, cond, T, IsTrue, Some, Less, Equal, Greater, refl, sym, subst}
use Rattle.std.proofs.Common.{ap, ◌∙◌}
use Rattle.std.specs.Ordering.{is_eq}
use Rattle.std.specs.List.{AllByRecursion}
use Rattle.std.specs.FinMap.{find, is_sorted, get-from_sorted, slice_cmp-IsAntisymmetric, nat_cmp-IsAntisymmetric}
use Rattle.store_model.specs.Paths.{key_cmp}
use Rattle.store_model.specs.Labels.{label_bytes}
use Rattle.store_model.specs.Pages.{Page, IsPage}
use Rattle.store_model.specs.PageMaps.{IsUnder, IsPageMap}
use Rattle.node_pages.specs.PageEntries.{entry_of, map_of_sorted}

same_page : (p q : Page) → Some p ≡ Some q → p ≡ q
same_page p q e = cc

-- what is found among pages is one of them, and the bytes are those of its label
found_page : (pages : List Page) (bytes : List ℕ) (page : Page) → AllByRecursion IsPage pages
    → find key_cmp bytes (map entry_of pages) ≡ Some page → IsUnder bytes page
found_page [] bytes page valid found = absurd (cc)
found_page (p ∷ pages) bytes page valid found =
    elim (key_cmp bytes (label_bytes p.label)) as (λ o. key_cmp bytes (label_bytes p.label) ≡ o
    → cond (is_eq o) (Some p) (find key_cmp bytes (map entry_of pages)) ≡ Some page → IsUnder bytes page) [
      | Less ↦ λ e is. found_page pages bytes page valid.1 is
      | Equal ↦ λ e is. record {
        valid = subst IsPage (same_page p page is) valid.0;
        under = slice_cmp-IsAntisymmetric nat_cmp-IsAntisymmetric bytes (label_bytes p.label) e
            ∙ ap (λ (q : Page). label_bytes q.label) (same_page p page is);
      }
      | Greater ↦ λ e is. found_page pages bytes page valid.1 is
    ] refl found

pub IsPageMap-sorted : (pages : List Page) → IsTrue (is_sorted key_cmp (map entry_of pages))
    → AllByRecursion IsPage pages → IsPageMap (map_of_sorted pages)
IsPageMap-sorted pages sorted valid bytes page found =
    found_page pages bytes page valid
    (sym (get-from_sorted key_cmp (map entry_of pages) bytes (subst T (sym sorted) tt)) ∙ found)
