-- Each step that goes on with a dump: its pairs are taken.
use Rattle.std.specs.Result.{OnOk}
use Rattle.std.proofs.Common.{Result, ◌≡◌, ℕ, ◌+◌, ◌*◌, List, [], ◌∷◌, ◌++◌, length, ◌⊎◌, inl, inr, sym}
use Rattle.std.proofs.Common.{ap, subst, ◌∙◌, arith}
use Rattle.dump_streams.specs.declared.listed_pairs.PairsFault.{PairsFault}
use Rattle.store_model.specs.Draws.{Draw, draw_of}
use Rattle.store_model.specs.Pages.{IsTreeUnder}
use Rattle.store_model.specs.Parameters.{Parameters}
use Rattle.store_model.specs.Paths.{Path, Name, key}
use Rattle.store_model.specs.Pairs.{directory_value, is_inline, file_pairs, node_pairs}
use Rattle.store_model.specs.Trees.{Tree, IsAttribute}
use Rattle.store_model.specs.Trees.Node.{Directory, File}
use Rattle.store_model.proofs.ListsLemmas.{all_back}
use Rattle.tree_pairs.specs.Seen.{MayStandNext, bare_entry}
use Rattle.dump_streams.specs.Dumps.{DumpStep, after_step, dump}
use Rattle.dump_streams.specs.Dumps.DumpStep.{Make, Write, Set}
use Rattle.dump_streams.specs.declared.listed_pairs.ListedPairs.{ListedPairs}
use Rattle.dump_streams.specs.Listed.{HoldsListed, TookSteps, TakesPairs, AddsPairs, AddsPiece, AddsAttribute}
use Rattle.dump_streams.specs.Reading.{GoesOn}
use Rattle.dump_streams.proofs.DumpFronts.{next_of_goes_on, empty_under, dump_front, goes_on_with, dumps_tell_trees}
use Rattle.dump_streams.proofs.NextTrees.{IsFirstWrite, IsLaterWrite, IsLaterName, named_entry, tree_of_make}
use Rattle.dump_streams.proofs.NextTrees.{tree_of_first, last_stands, later_leads, name_leads}
use Rattle.dump_streams.proofs.ListedLemmas.{on_ok, holds_path, holds_piece, holds_name}

-- what is held of a tree that is named otherwise
held_of : (listed : ListedPairs) (t u : Tree) (p : Parameters) → t ≡ u → HoldsListed listed t p → HoldsListed listed u p
held_of listed t u p same held = subst (λ (w : Tree). HoldsListed listed w p) same held

-- no steps are the dump of the empty tree
pub took_none : (listed : ListedPairs) → TookSteps listed listed []
unfolding dump
took_none listed p none t under e = held_of listed [] t p (dumps_tell_trees [] t p (empty_under p) under (sym e)) none

-- a step more goes on with the dump of a tree, if it is the last one of a dump
pub took_more : (first old new : ListedPairs) (steps : List DumpStep) (s : DumpStep)
    → ((t : Tree) (p : Parameters) → HoldsListed old t p → IsTreeUnder t p → GoesOn t s p
    → HoldsListed new (after_step t s) p)
    → TookSteps first old steps → TookSteps first new (steps ++ s ∷ [])
took_more first old new steps s more took p none t under e =
    let behind = λ (front : List DumpStep). front ++ s ∷ [] in
    let front = dump_front t p steps (s ∷ []) under e in
    let goes = goes_on_with front.tree t s [] p front.under under (e ∙ ap behind (sym front.dump_is)) in
    held_of new (after_step front.tree s) t p
    (dumps_tell_trees (after_step front.tree s) t p goes.under under (goes.dump_is ∙ ap behind front.dump_is ∙ sym e))
    (more front.tree p (took p none front.tree front.under front.dump_is) front.under goes)

-- a directory
pub takes_directory : (old new : ListedPairs) (path : Path) (d : Draw) (value : List ℕ)
    (result : Result (Unit {0}) PairsFault) → d ≡ draw_of old.params → new.params ≡ old.params
    → new.first ≡ length old.pairs → value ≡ directory_value
    → OnOk result (AddsPairs d old.pairs ((key path 0, value) ∷ []) old new) → TakesPairs old new (Make path) result
unfolding node_pairs
takes_directory old new path d value result draw params first value_is added = record {
  taken = λ t p held under goes.
      let next : MayStandNext t path = next_of_goes_on t (Make path) p under goes in
      on_ok result (λ adds. held_of new (t ++ (path, bare_entry Directory) ∷ []) (after_step t (Make path)) p
      (sym (tree_of_make t path next))
      (holds_path old new t path Directory p d held draw params
      (subst (λ (v : List ℕ). AddsPairs d old.pairs ((key path 0, v) ∷ []) old new) value_is adds) first)) added;
}

-- the first bytes of a file
first_write : (old new : ListedPairs) (t : Tree) (path : Path) (bytes : List ℕ) (p : Parameters) (d : Draw)
    → d ≡ draw_of old.params → new.params ≡ old.params → new.first ≡ length old.pairs
    → AddsPairs d old.pairs (file_pairs (is_inline old.params.version (length bytes)) path bytes) old new
    → HoldsListed old t p → MayStandNext t path → HoldsListed new (after_step t (Write path 0 bytes)) p
unfolding node_pairs
first_write old new t path bytes p d draw params first adds held next =
    held_of new (t ++ (path, bare_entry (File bytes)) ∷ []) (after_step t (Write path 0 bytes)) p
    (sym (tree_of_first t path bytes next))
    (holds_path old new t path (File bytes) p d held draw params
    (subst (λ (q : Parameters). AddsPairs d old.pairs (file_pairs (is_inline q.version (length bytes)) path bytes) old
    new) held.params_are adds) first)

-- a further piece is no first one
no_later : (t : Tree) (path : Path) (bytes : List ℕ) → IsLaterWrite t path 0 bytes → ⊥
no_later t path bytes later =
    let at = later.at_is in
    let full = later.full in
    omega (arith, at, full)

pub takes_file : (old new : ListedPairs) (path : Path) (at : ℕ) (bytes : List ℕ) (d : Draw)
    (result : Result (Unit {0}) PairsFault) → at ≡ 0 → d ≡ draw_of old.params → new.params ≡ old.params
    → new.first ≡ length old.pairs
    → OnOk result (AddsPairs d old.pairs (file_pairs (is_inline old.params.version (length bytes)) path bytes) old new)
    → TakesPairs old new (Write path at bytes) result
takes_file old new path at bytes d result start draw params first added =
    subst (λ n. TakesPairs old new (Write path n bytes) result) (sym start) (record {
      taken = λ t p held under goes. on_ok result
          (λ adds. by_kind t p held adds (next_of_goes_on t (Write path 0 bytes) p under goes)) added;
    })
  where
    by_kind : (t : Tree) (p : Parameters) → HoldsListed old t p
        → AddsPairs d old.pairs (file_pairs (is_inline old.params.version (length bytes)) path bytes) old new
        → IsFirstWrite t path 0 bytes ⊎ IsLaterWrite t path 0 bytes
        → HoldsListed new (after_step t (Write path 0 bytes)) p
    by_kind t p held adds (inl write) = first_write old new t path bytes p d draw params first adds held write.next
    by_kind t p held adds (inr later) = absurd (no_later t path bytes later)

-- a piece more
later_write : (old new : ListedPairs) (t : Tree) (path : Path) (at : ℕ) (bytes : List ℕ) (p : Parameters) (d : Draw)
    → d ≡ draw_of old.params → new.params ≡ old.params → new.first ≡ old.first
    → AddsPiece d path at bytes old new → HoldsListed old t p → IsTreeUnder t p → IsLaterWrite t path at bytes
    → HoldsListed new (after_step t (Write path at bytes)) p
later_write old new t path at bytes p d draw params first adds held under later =
    let before = later.before in
    let content = later.content in
    let was : Tree = before ++ (path, bare_entry (File content)) ∷ [] in
    let full = later.full in
    let fits = later.fits in
    let leads = later_leads t path at bytes later under.is_tree in
    let piece : AddsPiece d path (length content) bytes old new =
    subst (λ n. AddsPiece d path n bytes old new) later.at_is adds in
    held_of new (before ++ (path, bare_entry (File (content ++ bytes))) ∷ [])
    (after_step t (Write path at bytes)) p (sym leads)
    (holds_piece old new before path content bytes (8 * later.pieces + 7) p d
    (held_of old t was p later.entries_are held) draw params (omega (arith, full)) (piece fits) first)

pub takes_piece : (old new : ListedPairs) (path : Path) (at : ℕ) (bytes : List ℕ) (d : Draw)
    (result : Result (Unit {0}) PairsFault) → (at ≡ 0 → ⊥) → d ≡ draw_of old.params → new.params ≡ old.params
    → new.first ≡ old.first
    → OnOk result (AddsPiece d path at bytes old new) → TakesPairs old new (Write path at bytes) result
takes_piece old new path at bytes d result further draw params first added = record {
  taken = λ t p held under goes. on_ok result
      (λ adds. by_kind t p held under adds (next_of_goes_on t (Write path at bytes) p under goes)) added;
}
  where
    by_kind : (t : Tree) (p : Parameters) → HoldsListed old t p → IsTreeUnder t p → AddsPiece d path at bytes old new
        → IsFirstWrite t path at bytes ⊎ IsLaterWrite t path at bytes
        → HoldsListed new (after_step t (Write path at bytes)) p
    by_kind t p held under adds (inl write) = absurd (further write.at_is)
    by_kind t p held under adds (inr later) =
        later_write old new t path at bytes p d draw params first adds held under later

-- an attribute
pub takes_name : (old new : ListedPairs) (path : Path) (name : Name) (bytes : List ℕ) (d : Draw)
    (result : Result (Unit {0}) PairsFault) → d ≡ draw_of old.params → new.params ≡ old.params → new.first ≡ old.first
    → OnOk result (AddsAttribute d path name bytes old new) → TakesPairs old new (Set path name bytes) result
takes_name old new path name bytes d result draw params first added = record {
  taken = λ t p held under goes. on_ok result
      (λ adds. by_entry t p held under adds (next_of_goes_on t (Set path name bytes) p under goes)) added;
}
  where
    by_entry : (t : Tree) (p : Parameters) → HoldsListed old t p → IsTreeUnder t p
        → AddsAttribute d path name bytes old new → IsLaterName t p path name bytes
        → HoldsListed new (after_step t (Set path name bytes)) p
    by_entry t p held under adds later =
        let before = later.before in
        let was : Tree = before ++ (path, named_entry later.node later.attributes) ∷ [] in
        let next = last_stands t before path (named_entry later.node later.attributes) under.is_tree later.entries_are
        in
        let is : IsAttribute path (name, bytes) =
        (all_back (IsAttribute path) later.attributes ((name, bytes) ∷ []) (later.are).each).0 in
        let leads = name_leads t p path name bytes later under.is_tree in
        held_of new (before ++ (path, named_entry later.node (later.attributes ++ (name, bytes) ∷ [])) ∷ [])
        (after_step t (Set path name bytes)) p (sym leads)
        (holds_name old new before path later.node later.attributes name bytes p d
        (held_of old t was p later.entries_are held) draw params (adds next.below_root is) first)
