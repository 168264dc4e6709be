-- Lemmas on a move that is tested: which refusal holds first.
use Rattle.std.proofs.Common.{◌≡◌, Bool, true, false, not, ◌||◌, if◌then◌else◌, Option, Some, None, is_some, refl, sym}
use Rattle.std.proofs.Common.{ap, ap₂, ◌∙◌}
use Rattle.std.specs.Bool.{then_some}
use Rattle.store_model.specs.declared.refusal.Refusal.{Refusal}
use Rattle.store_model.specs.declared.refusal.Refusal.TheVariants as refusals
use Rattle.store_model.specs.Paths.{Path, is_root, is_inside, parent}
use Rattle.store_model.specs.Trees.{Tree, Node, exists, is_directory, node_at}
use Rattle.store_model.specs.Commands.Command.{Make, Rename}
use Rattle.store_model.specs.Steps.{first_refusal, conditions, refusal_of, outgrows}

-- the refusals of a new path at the target, as far as they go
abbrev target : Tree → Path → Bool → Option Refusal
target t to grows = if not (is_directory t (parent to)) then Some refusals.Parent else if exists t to then Some
    refusals.Exists else if grows then Some refusals.Path else None

module _ (t : Tree) (from to : Path) where
  rename_is : refusal_of t (Rename from to)
      ≡ (if is_root from || is_root to then Some refusals.Root else if not
      (exists t from) then Some refusals.Missing else if is_inside to from then Some refusals.Inside else target t
      to (outgrows t from to))
  unfolding conditions first_refusal
  rename_is = refl

  make_is : is_root to ≡ false → refusal_of t (Make to) ≡ target t to false
  unfolding conditions first_refusal
  make_is below = ap (λ b. if b then Some refusals.Root else target t to false) below

  -- the first conditions fail
  target_decides : is_root from ≡ false → is_root to ≡ false → (n : Node) → node_at t from ≡ Some n
      → is_inside to from ≡ false → refusal_of t (Rename from to) ≡ target t to (outgrows t from to)
  target_decides low low_to n at apart =
      rename_is
      ∙ ap₂ (λ a b. if a || b then Some refusals.Root else if not (exists t from) then Some refusals.Missing else if
      is_inside to from then Some refusals.Inside else target t to (outgrows t from to)) low low_to
      ∙ ap₂ (λ a b. if not a then Some refusals.Missing else if b then Some refusals.Inside else target t to
      (outgrows t from to)) (ap is_some at) apart

  pub rename_at_root : (is_root from || is_root to) ≡ true → Some refusals.Root ≡ refusal_of t (Rename from to)
  rename_at_root root =
      sym (rename_is ∙ ap (λ b. if b then Some refusals.Root else if not
      (exists t from) then Some refusals.Missing else if is_inside to from then Some refusals.Inside else target t to
      (outgrows t from to)) root)

  pub rename_of_none : is_root from ≡ false → is_root to ≡ false → node_at t from ≡ None
      → Some refusals.Missing ≡ refusal_of t (Rename from to)
  rename_of_none low low_to at =
      sym (rename_is
      ∙ ap₂ (λ a b. if a || b then Some refusals.Root else if not (exists t from) then Some refusals.Missing else if
      is_inside to from then Some refusals.Inside else target t to (outgrows t from to)) low low_to
      ∙ ap (λ o. if not (is_some o) then Some refusals.Missing else if is_inside to from then Some refusals.Inside else
      target t to (outgrows t from to)) at)

  pub rename_inside : is_root from ≡ false → is_root to ≡ false → (n : Node) → node_at t from ≡ Some n
      → is_inside to from ≡ true → Some refusals.Inside ≡ refusal_of t (Rename from to)
  rename_inside low low_to n at inside =
      sym (rename_is
      ∙ ap₂ (λ a b. if a || b then Some refusals.Root else if not (exists t from) then Some refusals.Missing else if
      is_inside to from then Some refusals.Inside else target t to (outgrows t from to)) low low_to
      ∙ ap₂ (λ a b. if not a then Some refusals.Missing else if b then Some refusals.Inside else target t to
      (outgrows t from to)) (ap is_some at) inside)

  pub rename_to_taken : is_root from ≡ false → is_root to ≡ false → (n : Node) → node_at t from ≡ Some n
      → is_inside to from ≡ false → (refusal : Refusal) (found : Option Refusal) → found ≡ Some refusal
      → found ≡ refusal_of t (Make to) → Some refusal ≡ refusal_of t (Rename from to)
  rename_to_taken low low_to n at apart refusal found is make =
      sym (target_decides low low_to n at apart
      ∙ by_tests (is_directory t (parent to)) (exists t to) (outgrows t from to) (sym (make_is low_to) ∙ sym make ∙ is))
    where
      by_tests : (a b c : Bool) → (if not a then Some refusals.Parent else if b then Some refusals.Exists else None)
          ≡ Some refusal
          → (if not a then Some refusals.Parent else if b then Some refusals.Exists else if c then Some
          refusals.Path else None) ≡ Some refusal
      by_tests false b c e = e
      by_tests true true c e = e
      by_tests true false c e = cc

  rename_decided : is_root from ≡ false → is_root to ≡ false → (n : Node) → node_at t from ≡ Some n
      → is_inside to from ≡ false → (found : Option Refusal) → found ≡ None → found ≡ refusal_of t (Make to)
      → refusal_of t (Rename from to) ≡ (if outgrows t from to then Some refusals.Path else None)
  rename_decided low low_to n at apart found is make =
      target_decides low low_to n at apart ∙ by_tests (is_directory t (parent to)) (exists t to) (outgrows t from to)
      (sym (make_is low_to) ∙ sym make ∙ is)
    where
      by_tests : (a b c : Bool) → (if not a then Some refusals.Parent else if b then Some refusals.Exists else None)
          ≡ None
          → (if not a then Some refusals.Parent else if b then Some refusals.Exists else if c then Some
          refusals.Path else None) ≡ (if c then Some refusals.Path else None)
      by_tests false b c e = cc
      by_tests true true c e = cc
      by_tests true false c e = refl

  -- the last condition decides
  pub rename_tested : is_root from ≡ false → is_root to ≡ false → (n : Node) → node_at t from ≡ Some n
      → is_inside to from ≡ false → (found : Option Refusal) → found ≡ None → found ≡ refusal_of t (Make to)
      → (grows : Bool) → grows ≡ outgrows t from to → then_some grows refusals.Path ≡ refusal_of t (Rename from to)
  rename_tested low low_to n at apart found is make grows grows_is =
      by_test grows ∙ ap (λ b. if b then Some refusals.Path else None) grows_is
      ∙ sym (rename_decided low low_to n at apart found is make)
    where
      by_test : (b : Bool) → then_some b refusals.Path ≡ (if b then Some refusals.Path else None)
      by_test true = refl
      by_test false = refl
