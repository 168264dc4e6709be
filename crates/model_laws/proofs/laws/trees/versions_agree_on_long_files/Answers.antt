use Rattle.std.proofs.Common.{◌≡◌, ℕ, ◌<◌, List, [], ◌∷◌, ◌++◌, length, Bool, false, refl, ap, ap₂, ◌∙◌, sym}
use Rattle.std.specs.List.{AllByRecursion}
use Rattle.std.proofs.lemmas.Bool.{lt-leb}
use Rattle.store_model.specs.declared.version.Version.{Version}
use Rattle.store_model.specs.declared.version.Version.TheVariants.{One, Two}
use Rattle.store_model.specs.Parameters.{Parameters, with_version}
use Rattle.store_model.specs.Paths.{Path}
use Rattle.store_model.specs.Trees.{Tree, Node}
use Rattle.store_model.specs.Trees.Node.{Directory, File}
use Rattle.store_model.specs.Pairs.{is_inline, file_pairs, node_pairs, attribute_pairs, pairs}
use Rattle.model_laws.specs.ShortFiles.{HasNoShortFile}
use Rattle.model_laws.proofs.laws.trees.versions_agree_on_long_files.Goals as goal

-- no version has a long file in its first pair
long_is_not_inline : (version : Version) (n : ℕ) → 200 < n → is_inline version n ≡ false
long_is_not_inline One n long = refl
long_is_not_inline Two n long = lt-leb n 200 long

-- what stands at a path has the same pairs
same_node : (path : Path) (node : Node) (p : Parameters) (version : Version)
    → ((bytes : List ℕ) → node ≡ File bytes → 200 < length bytes)
    → node_pairs path node (with_version p version) ≡ node_pairs path node p
unfolding node_pairs
same_node path Directory p version none = refl
same_node path (File bytes) p version none =
    let long = none bytes refl in
    ap (λ (b : Bool). file_pairs b path bytes)
    (long_is_not_inline version (length bytes) long ∙ sym (long_is_not_inline p.version (length bytes) long))

-- and so has a tree
same_pairs : (t : Tree) (p : Parameters) (version : Version) → AllByRecursion HasNoShortFile t
    → pairs t (with_version p version) ≡ pairs t p
unfolding pairs
same_pairs [] p version none = refl
same_pairs (e ∷ t) p version none =
    ap₂ ◌++◌ (ap (λ node. node ++ attribute_pairs e.0 e.1.attributes) (same_node e.0 e.1.node p version none.0))
    (same_pairs t p version none.1)

pub returns : goal.returns
returns c = same_pairs
