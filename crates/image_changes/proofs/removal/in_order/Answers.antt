use Rattle.std.proofs.Common.{List, [], reverse, Bool, true, false, IsPermutation, sym, subst, ◌∙◌, nat_eq}
use Rattle.std.specs.Prelude.{Contains}
use Rattle.std.specs.List.Retain.{IsFiltered, DiffersFromLast}
use Rattle.std.specs.List.Sorted.{IsSorted, IsStrictlySortedBy}
use Rattle.std.specs.Cmp.Lexicographic.{pointwise, nat_list_eq_equiv, lists_equiv}
use Rattle.std.proofs.lemmas.List.Filters.{dedup_is}
use Rattle.std.proofs.lemmas.List.Kept.{Contains-dedup, Contains-from_dedup, IsStrictlySortedBy-dedup}
use Rattle.std.proofs.lemmas.List.Sorted.{Contains-permutation, IsPermutation-sym}
use Rattle.store_model.specs.Paths.{Path, path_cmp}
use Rattle.store_model.proofs.TreesLemmasPaths.{path_cmp_total, same_from_test}
use Rattle.path_keys.specs.PathOrder.{paths_ties}
use Rattle.tree_changes.specs.Removals.{AreInOrder}
use Rattle.image_changes.specs.Removals.{HaveSame}
use Rattle.image_changes.proofs.RemovalSteps.{order_of, same_reversed, same_then}
use Rattle.image_changes.proofs.removal.in_order.Goals as goal

abbrev same_paths : Path → Path → Bool
same_paths = pointwise (pointwise nat_eq)

module _ (paths sorted kept : List Path) (moved : IsPermutation paths sorted)
    (filtered : IsFiltered (DiffersFromLast same_paths) [] sorted kept) where
  kept_rises : IsSorted path_cmp sorted → IsStrictlySortedBy path_cmp kept
  kept_rises order = subst (λ xs. IsStrictlySortedBy path_cmp xs) (sym (dedup_is same_paths sorted kept filtered))
      (IsStrictlySortedBy-dedup path_cmp_total paths_ties sorted order)

  kept_same : HaveSame paths kept
  kept_same x =
      let is = dedup_is same_paths sorted kept filtered in (
        λ named. subst (λ xs. Contains xs x) (sym is) (Contains-dedup (lists_equiv nat_list_eq_equiv)
            (λ y z same. same_from_test y z (sym (paths_ties y z) ∙ same)) sorted x
            (Contains-permutation paths sorted x moved named)),
        λ named. Contains-permutation sorted paths x (IsPermutation-sym paths sorted moved)
            (Contains-from_dedup same_paths sorted x (subst (λ xs. Contains xs x) is named)),
      )

pub returns-then-recursive-clause-order : goal.returns-then-recursive-clause-order
returns-then-recursive-clause-order c =
    let kept = c.dedup.new.self.items in
    subst (λ b. AreInOrder b c.reverse.new.self.items) (sym c.if-recursive.true)
    (subst (λ xs. AreInOrder true xs) (sym c.reverse.ensures.items)
    (order_of true kept (kept_rises c.args.paths.items c.sort_unstable.new.self.items kept
    c.sort_unstable.ensures.permutation c.dedup.ensures.filtered c.sort_unstable.ensures.sorted)))

pub returns-then-recursive-clause-named : goal.returns-then-recursive-clause-named
returns-then-recursive-clause-named c =
    let kept = c.dedup.new.self.items in
    subst (λ xs. HaveSame c.args.paths.items xs) (sym c.reverse.ensures.items)
    (same_then c.args.paths.items kept (reverse kept)
    (kept_same c.args.paths.items c.sort_unstable.new.self.items kept c.sort_unstable.ensures.permutation
    c.dedup.ensures.filtered) (same_reversed kept))

pub returns-else-recursive-clause-order : goal.returns-else-recursive-clause-order
returns-else-recursive-clause-order c =
    let kept = c.dedup.new.self.items in
    subst (λ b. AreInOrder b kept) (sym c.if-recursive.false)
    (order_of false kept (kept_rises c.args.paths.items c.sort_unstable.new.self.items kept
    c.sort_unstable.ensures.permutation c.dedup.ensures.filtered c.sort_unstable.ensures.sorted))

pub returns-else-recursive-clause-named : goal.returns-else-recursive-clause-named
returns-else-recursive-clause-named c =
    kept_same c.args.paths.items c.sort_unstable.new.self.items c.dedup.new.self.items
    c.sort_unstable.ensures.permutation c.dedup.ensures.filtered
