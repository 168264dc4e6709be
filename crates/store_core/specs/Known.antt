-- What is known of a store's tree, which is not in memory: it fits, and the disk stood at it when that was last
-- settled.
use Rattle.std.specs.Prelude.{◌≡◌}
use Rattle.std.specs.List.{AllByRecursion-prop}
use Rattle.std.proofs.Common.{ap, subst, sym, ◌∙◌, ⊎_elim}
use Rattle.std.proofs.Props.{props}
use Rattle.std.proofs.lemmas.Bool.{cases_Bool, false≢true}
use Rattle.store_model.specs.Parameters.{Parameters}
use Rattle.store_model.specs.Trees.{Tree, Node, IsNode, IsTree, empty_tree}
use Rattle.store_model.specs.Trees.Node.{Directory, File}
use Rattle.store_model.specs.Images.{layout}
use Rattle.store_model.proofs.TreesLemmasLayouts.{layouts_tell}
use Rattle.disk_model.specs.DiskState.{DiskState, IsObservable}
use Rattle.image_check.specs.Standing.{IsFitting}

-- A tree with the parameters that it is laid out under, and the disk when that was last settled.
pub record KnownState (D : Type 0) : Type 0 where
  pub params : Parameters
  pub tree : Tree
  pub settled : D

-- The tree fits. An observable disk reads its layout; of another disk nothing is known, and the tree is the empty one.
pub record IsKnownTree (disk : DiskState) (p : Parameters) (t : Tree) : Type 0 where
  pub fitting : IsFitting t p
  pub seen : IsObservable disk → disk.bytes ≡ layout t p
  pub unseen : (IsObservable disk → ⊥) → t ≡ empty_tree

-- there is such a tree
abbrev pub TellsTree : DiskState → Parameters → Type 0
TellsTree disk p = (t : Tree) × IsKnownTree disk p t

-- What a known tree is after its disk was settled again: the one at which an observable disk stands, and else the same.
pub record MovesOn {D : Type 0} (state : D → DiskState) (disk : D) (old new : KnownState D) : Type 0 where
  pub params : new.params ≡ old.params
  pub settled : new.settled ≡ disk
  pub seen : IsObservable (state disk) → (t : Tree) → IsFitting t old.params
      → (state disk).bytes ≡ layout t old.params → new.tree ≡ t
  pub unseen : (IsObservable (state disk) → ⊥) → new.tree ≡ old.tree

-- ---- there is one such tree at most; it stands here since a ghost field is proved by it

IsNode-prop : (node : Node) → IsProp (IsNode node)
IsNode-prop Directory = hlevel props
IsNode-prop (File bytes) = hlevel props

IsTree-prop : (t : Tree) → IsProp (IsTree t)
IsTree-prop t = hlevel (props, AllByRecursion-prop, IsNode-prop)

IsKnownTree-prop : (disk : DiskState) (p : Parameters) (t : Tree) → IsProp (IsKnownTree disk p t)
IsKnownTree-prop disk p t = hlevel (props, IsTree-prop)

pub one_known : (disk : DiskState) (p : Parameters) (t u : Tree) → IsKnownTree disk p t → IsKnownTree disk p u → t ≡ u
one_known disk p t u a b =
    ⊎_elim
    (λ seen. (layouts_tell t u p p a.fitting.in_range b.fitting.in_range a.fitting.tree b.fitting.tree a.fitting.fits
    b.fitting.fits (sym (a.seen seen) ∙ b.seen seen)).0)
    (λ hidden.
    let unseen : IsObservable disk → ⊥ = λ seen. false≢true (sym hidden ∙ seen) in
    a.unseen unseen ∙ sym (b.unseen unseen))
    (cases_Bool disk.is_observable)

pub TellsTree-prop : (disk : DiskState) (p : Parameters) → IsProp (TellsTree disk p)
TellsTree-prop disk p x y =
    let same : x.0 ≡ y.0 = one_known disk p x.0 y.0 x.1 y.1 in
    subst (λ (t : Tree). (h : IsKnownTree disk p t) → x ≡ (t, h)) same
    (λ h. ap (λ (g : IsKnownTree disk p x.0). (x.0, g)) (IsKnownTree-prop disk p x.0 x.1 h)) y.1
