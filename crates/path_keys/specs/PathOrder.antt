-- The order of paths is an order by which `Path` is compared and sorted.
use Rattle.std.specs.Prelude.{◌≡◌, Some, nat_eq}
use Rattle.std.specs.Cmp.{IsPartialOrder, Agrees}
use Rattle.std.specs.Cmp.Lexicographic.{pointwise, slice_partial_cmp, lists_po, lists_agrees, lists_ties, texts_po}
use Rattle.std.specs.Cmp.Lexicographic.{texts_ties}
use Rattle.std.specs.Ordering.{eq_by_cmp}
use Rattle.std.proofs.Common.{refl, subst}
use Rattle.store_model.specs.Paths.{Path, name_cmp, path_cmp}

pub paths_po : IsPartialOrder (pointwise (pointwise nat_eq)) (λ p q. Some (path_cmp p q))
paths_po =
    let agrees : Agrees (slice_partial_cmp (λ n m. Some (name_cmp n m))) path_cmp = lists_agrees (λ n m. refl) in
    subst (IsPartialOrder (pointwise (pointwise nat_eq))) (λ i p q. agrees p q i) (lists_po texts_po)

pub paths_ties : (p q : Path) → pointwise (pointwise nat_eq) p q ≡ eq_by_cmp path_cmp p q
paths_ties = lists_ties name_cmp texts_ties
