-- The first change of a step that sets an attribute.
use Rattle.std.proofs.Common.{◌≡◌, ℕ, List, [], ◌∷◌, ◌++◌, Bool, true, false, not, ◌&&◌, ◌||◌, cond, refl, sym, ap, ap₂}
use Rattle.std.proofs.Common.{subst, ◌∙◌, nat_eq}
use Rattle.std.specs.List.{list_any}
use Rattle.std.specs.Cmp.Lexicographic.{pointwise}
use Rattle.store_model.specs.Paths.{Path, Name}
use Rattle.store_model.specs.Trees.{Tree, is_directory}
use Rattle.store_model.specs.Commands.{Command as commands}
use Rattle.path_keys.specs.PathOrder.{paths_ties}
use Rattle.dump_streams.specs.Dumps.{DumpStep, step_path}
use Rattle.dump_streams.specs.Dumps.DumpStep.{Set}
use Rattle.tree_changes.specs.Conditional.{always_done}
use Rattle.tree_changes.specs.Folders.{is_among}
use Rattle.tree_changes.specs.Puts.{put_step}
use Rattle.image_puts.specs.PutChanges.{KnowsKind, kind_after}

pub among_is : (paths : List Path) (path : Path)
    → list_any (pointwise (pointwise nat_eq) path) paths ≡ is_among paths path
among_is [] path = refl
among_is (q ∷ paths) path = ap₂ (λ a b. a || b) (paths_ties path q) (among_is paths path)

module _ (replaces : Bool) (to : Path) (fresh : List Path) (s : DumpStep) (y : Path) (name : Name) (bytes : List ℕ)
    (is : Set y name bytes ≡ s) (was : Bool) where
  pub kind_stays : was ≡ kind_after s was
  kind_stays = ap (λ (x : DumpStep). kind_after x was) is

  known : (u : Tree) → KnowsKind u s was → is_directory u y ≡ was
  known u knows = subst (λ (x : DumpStep). KnowsKind u x was) (sym is) knows

  pub skips : was ≡ true → is_among fresh y ≡ false → (u : Tree) → KnowsKind u s was
      → [] ≡ put_step replaces to fresh u s
  skips directory among u knows =
      sym (ap₂ (λ a b. cond (a && not b) [] (always_done (commands.SetAttribute (to ++ y) name bytes) ∷ []))
      (known u knows ∙ directory) among)
      ∙ ap (put_step replaces to fresh u) is

  pub sets : (was && not (is_among fresh y)) ≡ false → (place : Path) → place ≡ to ++ step_path s → (value : List ℕ)
      → value ≡ bytes → (u : Tree) → KnowsKind u s was
      → always_done (commands.SetAttribute place name value) ∷ [] ≡ put_step replaces to fresh u s
  sets counts place place_is value value_is u knows =
      ap₂ (λ (q : Path) (b : List ℕ). always_done (commands.SetAttribute q name b) ∷ [])
      (place_is ∙ ap (λ (x : DumpStep). to ++ step_path x) (sym is)) value_is
      ∙ sym (ap (λ b. cond b [] (always_done (commands.SetAttribute (to ++ y) name bytes) ∷ []))
      (ap (λ a. a && not (is_among fresh y)) (known u knows) ∙ counts))
      ∙ ap (put_step replaces to fresh u) is
