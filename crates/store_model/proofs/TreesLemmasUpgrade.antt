-- Lemmas on a tree under version 2: its pairs are those of any version with some left out, so it needs no more pages.
use Rattle.std.proofs.Common.{◌≡◌, ℕ, ◌≤◌, List, [], ◌∷◌, map, length, Bool, true, false, inr, refl, sym, subst, arith}
use Rattle.std.proofs.lemmas.Bool.{false≢true}
use Rattle.std.specs.List.{enumerate_from}
use Rattle.std.proofs.lemmas.Bool.{false≢true, le-leb}
use Rattle.store_model.specs.declared.draw_kind.DrawKind.{DrawKind}
use Rattle.store_model.specs.declared.draw_kind.DrawKind.TheVariants.{Ruler, Sha256}
use Rattle.store_model.specs.declared.version.Version.{Version}
use Rattle.store_model.specs.declared.version.Version.TheVariants.{Two}
use Rattle.store_model.specs.Lists.{runs}
use Rattle.store_model.specs.Parameters.{Parameters, with_version}
use Rattle.store_model.specs.Paths.{Path, key}
use Rattle.store_model.specs.Trees.{Tree, Node, Entry}
use Rattle.store_model.specs.Trees.Node.{Directory, File}
use Rattle.store_model.specs.Pairs.{file_block, is_inline, file_pairs, node_pairs, attribute_pairs, entry_pairs, pairs}
use Rattle.store_model.specs.Draws.{Draw, start_by, level_by, draw_of}
use Rattle.store_model.specs.Pages.{pages_of_pairs, page_count, Fits, pages}
use Rattle.store_model.proofs.PairsLemmas.{inline_is_short}
use Rattle.store_model.proofs.TreesLemmasFewer.{IsThinned, thinned_self, thinned_nil, keys_of, pages_of_thinned}
use Rattle.store_model.proofs.TreesLemmasFits.{thinned_pairs}

-- the draw does not go by the version
pub draw_of-with_version : (p : Parameters) (version : Version) → draw_of (with_version p version) ≡ draw_of p
unfolding draw_of
draw_of-with_version p version = by_kind p.kind
  where
    by_kind : (kind : DrawKind) → ◌≡◌ {A = Draw} (record {
      slots = p.slots;
      height = p.height;
      start = start_by kind (with_version p version);
      level = level_by kind (with_version p version);
    })
        (record { slots = p.slots; height = p.height; start = start_by kind p; level = level_by kind p })
    by_kind Ruler = refl
    by_kind Sha256 = refl

-- version 2 has a file in its first pair where any version does
inline_in_two : (version : Version) (n : ℕ) → is_inline version n ≡ true → is_inline Two n ≡ true
inline_in_two version n e = le-leb n 200 (inline_is_short version n e)

-- the first pair alone has one of the keys of a file
thinned_forms : (c d : Bool) (path : Path) (bytes : List ℕ) → (d ≡ true → c ≡ true)
    → IsThinned (keys_of (file_pairs c path bytes)) (keys_of (file_pairs d path bytes))
thinned_forms true true path bytes shorter = inr ([], refl, refl)
thinned_forms true false path bytes shorter =
    inr ([], refl, thinned_nil (keys_of (map (λ b. (key path b.0, b.1)) (enumerate_from 1 (runs file_block bytes)))))
thinned_forms false true path bytes shorter = absurd (false≢true (shorter refl))
thinned_forms false false path bytes shorter = thinned_self (keys_of (file_pairs false path bytes))

-- so what stands at a path has under version 2 the keys of any version, but for some
thinned_node : (path : Path) (node : Node) (p : Parameters)
    → IsThinned (keys_of (node_pairs path node (with_version p Two))) (keys_of (node_pairs path node p))
unfolding node_pairs
thinned_node path Directory p = thinned_self (keys_of (node_pairs path Directory p))
thinned_node path (File bytes) p = thinned_forms (is_inline Two (length bytes))
    (is_inline p.version (length bytes)) path bytes (inline_in_two p.version (length bytes))

-- and so has it with its attributes
thinned_entry : (path : Path) (entry : Entry) (p : Parameters)
    → IsThinned (keys_of (entry_pairs path entry (with_version p Two))) (keys_of (entry_pairs path entry p))
thinned_entry path entry p =
    thinned_pairs (node_pairs path entry.node (with_version p Two)) (node_pairs path entry.node p)
    (attribute_pairs path entry.attributes) (attribute_pairs path entry.attributes)
    (thinned_node path entry.node p) (thinned_self (keys_of (attribute_pairs path entry.attributes)))

-- and so has a tree
thinned_tree : (t : Tree) (p : Parameters) → IsThinned (keys_of (pairs t (with_version p Two))) (keys_of (pairs t p))
unfolding pairs
thinned_tree [] p = refl
thinned_tree (e ∷ t) p =
    thinned_pairs (entry_pairs e.0 e.1 (with_version p Two)) (entry_pairs e.0 e.1 p) (pairs t (with_version p Two))
    (pairs t p) (thinned_entry e.0 e.1 p) (thinned_tree t p)

-- so it has no more pages
pub page_count-upgraded : (t : Tree) (p : Parameters) → page_count t (with_version p Two) ≤ page_count t p
unfolding pages
page_count-upgraded t p =
    subst (λ d. length (pages_of_pairs d (pairs t (with_version p Two)))
    ≤ length (pages_of_pairs (draw_of p) (pairs t p))) (sym (draw_of-with_version p Two))
    (pages_of_thinned (draw_of p) (pairs t (with_version p Two)) (pairs t p) (thinned_tree t p))

-- and fits where it did
pub Fits-upgraded : (t : Tree) (p : Parameters) → Fits t p → Fits t (with_version p Two)
Fits-upgraded t p fits = record {
  room = (let fewer = page_count-upgraded t p in let room = fits.room in omega arith);
  bare = λ e. absurd (false≢true (sym e));
}
