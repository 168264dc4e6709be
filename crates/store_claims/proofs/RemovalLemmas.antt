-- What was removed is gone: from two runs that answered their scripts.
use Rattle.std.proofs.Common.{◌≡◌, ℕ, List, sym, ap, ◌∙◌, subst}
use Rattle.store_model.specs.Parameters.{Parameters}
use Rattle.store_model.specs.Paths.{Path}
use Rattle.store_model.specs.Trees.{Tree}
use Rattle.store_model.specs.Images.{layout, Represents}
use Rattle.store_model.specs.Scripts.{lines, tree_after}
use Rattle.store_model.proofs.TreesLemmasSteps.{IsTree-tree_after}
use Rattle.disk_model.specs.Memory.{Memory}
use Rattle.script_lines.specs.Memory.{SourceMemory, SinkMemory}
use Rattle.image_subcommands.specs.declared.status.Status.TheVariants as statuses
use Rattle.model_laws.proofs.WithinLemmas.{tree_after-pruned}
use Rattle.store_claims.specs.Answered.{AnswersScript}
use Rattle.store_claims.specs.Machines.{Disk, Ended, bytes_of}
use Rattle.store_claims.specs.Removals.{RemovesAt}
use Rattle.store_claims.proofs.RunWays.{layout_after}

-- the second script leads back to the tree that the first left
led_back : (at : Path) (t : Tree) (p : Parameters) (image first second : List ℕ) → Represents image t p
    → RemovesAt at t p first second → tree_after (tree_after t (lines first) p) (lines second) p
    ≡ tree_after t (lines first) p
led_back at t p image first second is removes =
    ap (λ (texts : List (List ℕ)). tree_after (tree_after t (lines first) p) texts p) removes.lines_are
    ∙ tree_after-pruned (tree_after t (lines first) p) removes.texts removes.prune p at
    (IsTree-tree_after t (lines first) p is.tree) removes.nothing_there removes.within removes.fits removes.prunes

-- the second run answers its script from the tree that the first left
pub goes_on : (t : Tree) (p : Parameters) (disk next : Disk) (first second : SourceMemory) (sink next_sink : SinkMemory)
    (one other : Ended) → Represents (bytes_of disk) t p
    → AnswersScript t p disk first sink one
    → next.disk ≡ one.disk.disk
    → ((u : Tree) → Represents (bytes_of next) u p → AnswersScript u p next second next_sink other)
    → one.status ≡ statuses.Done → AnswersScript (tree_after t (lines first.left) p) p next second next_sink other
goes_on t p disk next first second sink next_sink one other is answers same more e =
    let u = tree_after t (lines first.left) p in
    let bytes : bytes_of next ≡ layout u p = ap (λ (m : Memory). m.bytes) same ∙ (answers.image e).bytes in
    more u (subst (λ (image : List ℕ). Represents image u p) (sym bytes)
    (layout_after t p (bytes_of disk) (lines first.left) is))

pub gone : (at : Path) (t : Tree) (p : Parameters) (disk next : Disk) (first second : SourceMemory)
    (sink next_sink : SinkMemory) (one other : Ended) → Represents (bytes_of disk) t p
    → RemovesAt at t p first.left second.left
    → AnswersScript t p disk first sink one
    → next.disk ≡ one.disk.disk
    → ((u : Tree) → Represents (bytes_of next) u p → AnswersScript u p next second next_sink other)
    → one.status ≡ statuses.Done → other.status ≡ statuses.Done → bytes_of other.disk ≡ bytes_of one.disk
gone at t p disk next first second sink next_sink one other is removes answers same more e d =
    ((goes_on t p disk next first second sink next_sink one other is answers same more e).image d).bytes
    ∙ ap (λ (v : Tree). layout v p) (led_back at t p (bytes_of disk) first.left second.left is removes)
    ∙ sym (answers.image e).bytes
