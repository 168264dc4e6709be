-- What a look at a page by reference says, as a page that was asked for.
use Rattle.std.proofs.Common.{◌≡◌, Option, None, Some, Result, Ok, Err, subst}
use Rattle.std.specs.Borrow.{Bor}
use Rattle.store_base.specs.declared.store_fault.Fault.{Fault}
use Rattle.store_model.specs.Labels.{Label}
use Rattle.store_model.specs.Pages.{Page}
use Rattle.node_pages.specs.PagesState.{PagesState, IsPageGet, looked_at}

module _ {now next : PagesState} {asked label : Label} {result : Result (Option (Bor Page)) Fault} (is : asked ≡ label)
    (look : IsPageGet now next asked (looked_at result)) where
  -- a look under the label
  under : (other : Result (Option (Bor Page)) Fault) → result ≡ other → IsPageGet now next label (looked_at other)
  under other same = subst (λ r. IsPageGet now next label (looked_at r)) same
      (subst (λ l. IsPageGet now next l (looked_at result)) is look)

  pub looked_failed : (fault : Fault) → result ≡ Err fault → IsPageGet now next label (Err fault)
  looked_failed fault same = under (Err fault) same

  pub looked_none : {found : Option (Bor Page)} → result ≡ Ok found → found ≡ None → IsPageGet now next label (Ok None)
  looked_none {found = found} same none =
      subst (λ o. IsPageGet now next label (looked_at (Ok o))) none (under (Ok found) same)

  pub looked_some : {found : Option (Bor Page)} {page : Bor Page} → result ≡ Ok found → found ≡ Some page
      → IsPageGet now next label (Ok (Some page.now))
  looked_some {found = found} same some =
      subst (λ o. IsPageGet now next label (looked_at (Ok o))) some (under (Ok found) same)
