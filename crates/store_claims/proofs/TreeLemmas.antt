-- The trees of the groups that lines commit are those that the program promises, and their layouts represent them.
use Rattle.std.proofs.Common.{◌≡◌, ℕ, List, [], ◌∷◌, take, sym, ap, ◌∙◌}
use Rattle.std.proofs.Math.Path.{fun_ext}
use Rattle.store_model.specs.Parameters.{Parameters}
use Rattle.store_model.specs.Trees.{Tree, IsTree}
use Rattle.store_model.specs.Pages.{Fits}
use Rattle.store_model.specs.Images.{layout, Represents}
use Rattle.store_model.specs.Commands.{Command}
use Rattle.store_model.specs.Scripts.{lines, state_by, tree_by}
use Rattle.store_model.proofs.ImagesLemmas.{Represents-layout}
use Rattle.store_model.proofs.TreesLemmasSteps.{IsTree-step}
use Rattle.store_model.proofs.TreesLemmasFits.{Fits-step}
use Rattle.staged_tree.specs.Groups.{step_under}
use Rattle.session_core.specs.Machine.{World, Event}
use Rattle.session_core.specs.Traces.{IsSerial, changes_of}
use Rattle.script_runs.specs.SessionRuns.{session_trees}
use Rattle.store_claims.specs.Groups.{session_events, session_groups, committed_trees}
use Rattle.store_claims.proofs.EventLemmas.{world_of_lines}
use Rattle.store_claims.proofs.StagedLemmas.{AreCommands, session_changes}

-- ---- the promised trees

tree_at : ((p : Parameters) (t : Tree) (events : List Event) → IsSerial p t events)
    → (t : Tree) (script : List ℕ) (p : Parameters) (k : ℕ) → session_trees t script p k ≡ committed_trees t script p k
tree_at law t script p k =
    let texts = take k (lines script) in
    ap (λ (w : World). w.machine.tree) (sym (world_of_lines p t texts)) ∙ (law p t (session_events texts)).tree

pub same_trees : ((p : Parameters) (t : Tree) (events : List Event) → IsSerial p t events)
    → session_trees ≡ committed_trees
same_trees law = fun_ext (λ t. fun_ext (λ script. fun_ext (λ p. fun_ext (λ k. tree_at law t script p k))))

-- ---- layouts

-- changes that scripts can ask for keep a tree that fits
changed_fits : (p : Parameters) (changes : List Command) (t : Tree) → AreCommands changes → IsTree t × Fits t p
    → IsTree (tree_by (step_under p) t changes) × Fits (tree_by (step_under p) t changes) p
unfolding tree_by state_by
changed_fits p [] t all is = is
changed_fits p (change ∷ changes) t all is =
    changed_fits p changes (step_under p t change).tree all.1
    (IsTree-step t change p is.0 all.0, Fits-step t change p is.0 is.1)

pub committed_laid_out : (t : Tree) (p : Parameters) (image script : List ℕ) → Represents image t p → (k : ℕ)
    → Represents (layout (committed_trees t script p k) p) (committed_trees t script p k) p
committed_laid_out t p image script is k =
    let texts = take k (lines script) in
    let fits = changed_fits p (changes_of (session_groups t texts p)) t (session_changes t texts p) (is.tree, is.fits)
    in
    Represents-layout (committed_trees t script p k) p is.names.in_range fits.0 fits.1
