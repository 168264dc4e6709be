-- Equal contents have equal bytes: from images of trees.
use Rattle.std.proofs.Common.{◌≡◌, ℕ, List, [], ◌∷◌, ◌++◌, refl, sym, ap, ◌∙◌, subst}
use Rattle.std.specs.List.{flat_map}
use Rattle.std.proofs.lemmas.Grind.{flat_map-append}
use Rattle.std.proofs.lemmas.List.{append-nil}
use Rattle.store_model.specs.Parameters.{Parameters}
use Rattle.store_model.specs.Trees.{Tree, empty_tree}
use Rattle.store_model.specs.Images.{layout, Represents}
use Rattle.store_model.specs.Scripts.{lines, tree_after, tree_by, state_by}
use Rattle.store_model.proofs.ImagesLemmas.{Represents-layout}
use Rattle.store_model.proofs.ScriptsLemmas.{tree_after-append}
use Rattle.store_model.proofs.TreesLemmasSteps.{IsTree-tree_after}
use Rattle.store_model.proofs.TreesLemmasFits.{Fits-tree_after}
use Rattle.store_model.proofs.TreesLemmasLayouts.{layouts_tell}
use Rattle.image_check.specs.Standing.{IsFitting}
use Rattle.script_lines.specs.Memory.{SourceMemory, SinkMemory}
use Rattle.image_subcommands.specs.declared.status.Status.TheVariants as statuses
use Rattle.image_subcommands.specs.Outside.{outside_of}
use Rattle.image_subcommands.specs.FormatCall.{IsFormat}
use Rattle.store_claims.specs.Makings.{made_tree, EqualContentsEqualBytes}
use Rattle.store_claims.specs.Machines.{Disk, Ended, HasImage, bytes_of, meaning}
use Rattle.store_claims.proofs.RunWays.{image_of}

-- a format that ended with 0 leaves the image of the empty tree
pub formatted : (p : Parameters) (disk : Disk) (source : SourceMemory) (sink : SinkMemory) (after : Ended)
    → IsFormat meaning p (outside_of disk source sink) after → after.status ≡ statuses.Done
    → HasImage after.disk empty_tree p
formatted p disk source sink after format e = image_of after.disk empty_tree p ((format.observed refl).formatted e)

-- an image of a tree that fits represents it
pub represented : (disk : Disk) (t : Tree) (p : Parameters) → IsFitting t p → HasImage disk t p
    → Represents (bytes_of disk) t p
represented disk t p is image = subst (λ (bytes : List ℕ). Represents bytes t p) (sym image.bytes)
    (Represents-layout t p is.in_range is.tree is.fits)

-- the tree after lines fits
pub after_fits : (t : Tree) (p : Parameters) (texts : List (List ℕ)) → IsFitting t p
    → IsFitting (tree_after t texts p) p
after_fits t p texts is = record {
  in_range = is.in_range;
  tree = IsTree-tree_after t texts p is.tree;
  fits = Fits-tree_after t texts p is.tree is.fits;
}

-- so does the tree that scripts leave of the empty one
pub made_fits : (scripts : List SourceMemory) (p : Parameters) → IsFitting empty_tree p
    → IsFitting (made_tree scripts p) p
made_fits scripts p is = after_fits empty_tree p (flat_map (λ (s : SourceMemory). lines s.left) scripts) is

-- the tree after one script more
pub one_more : (t : Tree) (p : Parameters) (scripts : List SourceMemory) (script : SourceMemory)
    → tree_after (tree_after t (flat_map (λ (s : SourceMemory). lines s.left) scripts) p) (lines script.left) p
    ≡ tree_after t (flat_map (λ (s : SourceMemory). lines s.left) (scripts ++ script ∷ [])) p
one_more t p scripts script =
    let of = λ (s : SourceMemory). lines s.left in
    sym (ap (λ (texts : List (List ℕ)). tree_after t texts p)
    (flat_map-append of scripts (script ∷ [])
    ∙ ap (λ (texts : List (List ℕ)). flat_map of scripts ++ texts) (append-nil (lines script.left)))
    ∙ tree_after-append t (flat_map of scripts) (lines script.left) p)

-- two images of trees that scripts made
pub equal_contents : (p : Parameters) (first_scripts second_scripts : List SourceMemory) (first second : Disk)
    → IsFitting empty_tree p
    → HasImage first (made_tree first_scripts p) p → HasImage second (made_tree second_scripts p) p
    → EqualContentsEqualBytes first_scripts second_scripts p first second
equal_contents p first_scripts second_scripts first second empty one other =
    let a = made_fits first_scripts p empty in
    let b = made_fits second_scripts p empty in
    record {
      first_image = one;
      second_image = other;
      equal = (
        (λ e. (layouts_tell (made_tree first_scripts p)
            (made_tree second_scripts p) p p a.in_range b.in_range a.tree b.tree a.fits b.fits (sym one.bytes
            ∙ e ∙ other.bytes)).0),
        (λ e. one.bytes ∙ ap (λ (t : Tree). layout t p) e ∙ sym other.bytes),
      );
    }

-- the tree after no script
pub no_more : (t : Tree) (p : Parameters) → tree_after t [] p ≡ t
unfolding tree_after tree_by state_by
no_more t p = refl
