-- Lemmas on the pages of trees, in images and in maps of pages.
use Rattle.std.proofs.Common.{◌≡◌, ℕ, ◌<◌, ◌≤◌, List, [], length, slice_get, refl, sym, ap, ap₂, subst, ◌∙◌, arith}
use Rattle.std.specs.FinMap as maps
use Rattle.std.specs.Option.{option_map_or}
use Rattle.std.proofs.lemmas.List.Sorted.{length_permutation}
use Rattle.store_model.specs.declared.version.Version.TheVariants.{Two}
use Rattle.store_model.specs.Parameters.{Parameters, IsParameters, with_version, image_len}
use Rattle.store_model.specs.Trees.{Tree}
use Rattle.store_model.specs.Pairs.{pairs}
use Rattle.store_model.specs.Draws.{Draw, draw_of}
use Rattle.store_model.specs.Pages.{Page, pages, page_count}
use Rattle.store_model.specs.PageMaps.{PageMap, IsPageMap, map_of_pages, pages_of_map}
use Rattle.store_model.specs.Placement.{place, pages_in}
use Rattle.store_model.specs.Images.{layout, slot_bytes}
use Rattle.store_model.specs.Commands.{Command, IsCommand}
use Rattle.store_model.specs.Steps.{step}
use Rattle.store_model.proofs.ImagesLemmas.{IsParameters-with_version}
use Rattle.store_model.proofs.TreesLemmasFits.{Fits-step}
use Rattle.store_model.proofs.TreesLemmasSteps.{IsTree-step}
use Rattle.store_model.proofs.TreesLemmasUpgrade.{draw_of-with_version, Fits-upgraded}
use Rattle.store_model.proofs.PagesLemmasSizes.{pairs_per_page}
use Rattle.store_model.proofs.PairsLemmas.{pairs_are_pairs}
use Rattle.store_model.proofs.PageMapsLemmas.{len-pages_of_map, pages_of_pairs_map, IsPageMap-pages_of_pairs}
use Rattle.store_model.proofs.PlacementLemmas.{IsPermutation-place}
use Rattle.store_model.proofs.PlacementLemmasDraws.{IsLawful-draw_of}
use Rattle.disk_model.specs.DiskState.{DiskState}
use Rattle.layout_conditions.specs.Layouts.{table_of_tree}
use Rattle.skip_levels.specs.Descent.{HoldsPairs}
use Rattle.tree_pairs.specs.TreeCalls.{pairs_limit}
use Rattle.table_memory.specs.Differences as places
use Rattle.page_store.specs.PageImages as images
use Rattle.page_store.proofs.SlotLemmas.{pages_in_held}
use Rattle.page_store.proofs.TreeLayouts.{tree_layout, layout_of_tree}
use Rattle.staged_tree.specs.TableChanges.{bytes_of, differing, slots_between, slots_upgraded}
use Rattle.image_check.specs.Standing.{IsFitting, Stands}
use Rattle.staged_tree.specs.StagedTree.{most_staged}

-- a page has at most ten pairs, so in a tree of few pages a command finds room for what it adds
pub few_within : (t : Tree) (p : Parameters) → IsParameters p → page_count t p ≤ most_staged
    → length (pairs t p) < pairs_limit
unfolding draw_of pages
few_within t p in_range few =
    let full = pairs_per_page (draw_of p) (pairs t p) in_range.some_level in
    omega arith

-- one that fits has few
pub fits_within : (t : Tree) (p : Parameters) → IsFitting t p → page_count t p ≤ most_staged
fits_within t p fitting =
    let slots = fitting.in_range.slots_in_range in
    let room = fitting.fits.room in
    omega arith

pub few_pairs : (t : Tree) (p : Parameters) → IsFitting t p → length (pairs t p) < pairs_limit
few_pairs t p fitting = few_within t p fitting.in_range (fits_within t p fitting)

-- the map of its pages holds its pairs
pub tree_holds : (t : Tree) (p : Parameters) (m : PageMap) → IsFitting t p → m ≡ map_of_pages (pages t p)
    → HoldsPairs (draw_of p) (pairs t p) m
unfolding draw_of pages
tree_holds t p m fitting is =
    let few = few_pairs t p fitting in
    let height = fitting.in_range.height_in_range in
    record {
      lawful = IsLawful-draw_of p fitting.in_range;
      height = omega (arith, height);
      pairs = pairs_are_pairs t p fitting.tree;
      few = omega (arith, few);
      map_is = is;
    }

-- a map that holds pairs is one of pages under their labels
pub held_valid : (t : Tree) (p : Parameters) (m : PageMap) → HoldsPairs (draw_of p) (pairs t p) m → IsPageMap m
held_valid t p m holds =
    let few = holds.few in
    let height = holds.height in
    subst IsPageMap (sym holds.map_is) (IsPageMap-pages_of_pairs (draw_of p) (pairs t p) (omega (arith, height))
    holds.pairs (omega (arith, few)))

-- so is that of a tree's pages
pub tree_valid : (t : Tree) (p : Parameters) (m : PageMap) → IsFitting t p → m ≡ map_of_pages (pages t p) → IsPageMap m
tree_valid t p m fitting is = held_valid t p m (tree_holds t p m fitting is)

-- a map that holds the pairs of a tree is that of its pages, and has as many
pub held_map : (t : Tree) (p : Parameters) (m : PageMap) → HoldsPairs (draw_of p) (pairs t p) m
    → m ≡ map_of_pages (pages t p)
unfolding pages
held_map t p m holds = holds.map_is

pub held_count : (t : Tree) (p : Parameters) (m : PageMap) → HoldsPairs (draw_of p) (pairs t p) m
    → maps.len m ≡ page_count t p
unfolding pages
held_count t p m holds =
    let few = holds.few in
    len-pages_of_map m ∙ ap length (ap pages_of_map holds.map_is
    ∙ pages_of_pairs_map (draw_of p) (pairs t p) holds.pairs (omega (arith, few)))

-- the pages of the map of a tree's pages
pages_again : (t : Tree) (p : Parameters) → IsFitting t p → pages_of_map (map_of_pages (pages t p)) ≡ pages t p
unfolding pages
pages_again t p fitting = let few = few_pairs t p fitting
    in pages_of_pairs_map (draw_of p) (pairs t p) (pairs_are_pairs t p fitting.tree) (omega (arith, few))

-- a disk that stands at a tree stands at its pages, and the other way round
pub stands_pages : (t : Tree) (p : Parameters) (disk : DiskState) → IsFitting t p → Stands disk t p
    → images.SlotStandsAt (draw_of p) p (map_of_pages (pages t p)) disk
stands_pages t p disk fitting stands = record {
  layout = layout_of_tree t p fitting.in_range fitting.tree fitting.fits disk.bytes stands.layout_is;
  durable = stands.durable;
}

pub stands_tree : (t : Tree) (p : Parameters) (disk : DiskState) → IsFitting t p → length disk.bytes ≡ image_len p.slots
    → images.SlotStandsAt (draw_of p) p (map_of_pages (pages t p)) disk → Stands disk t p
stands_tree t p disk fitting long stands = record {
  layout_is = tree_layout t p fitting.in_range fitting.tree fitting.fits disk.bytes long stands.layout;
  durable = stands.durable;
}

-- the pages in the table of its layout
pub table_pages : (t : Tree) (p : Parameters) (image : List ℕ) → IsFitting t p → image ≡ layout t p
    → images.pages_in_table p.slots image ≡ map_of_pages (pages t p)
table_pages t p image fitting is =
    pages_in_held (draw_of p) (images.table_slots p.slots image) (map_of_pages (pages t p))
    (IsLawful-draw_of p fitting.in_range)
    (layout_of_tree t p fitting.in_range fitting.tree fitting.fits image is).holds

-- the slots of the placement of its pages are those of its table
pub placed_as : (t : Tree) (p : Parameters) (i : ℕ) → IsFitting t p
    → images.placed_slot (draw_of p) (map_of_pages (pages t p)) i ≡ bytes_of (table_of_tree t p) i
placed_as t p i fitting = ap (λ (ps : List Page). option_map_or slot_bytes (slice_get (place (draw_of p) ps) i) [])
    (pages_again t p fitting)

-- as many slots differ between the placements of the pages of two trees as between their layouts, where the draw is one
slots_by : (t u : Tree) (p q : Parameters) → draw_of q ≡ draw_of p → IsFitting t p → IsFitting u q
    → images.slots_between (draw_of p) (map_of_pages (pages t p)) (map_of_pages (pages u q))
    ≡ differing (table_of_tree t p) (table_of_tree u q) p.slots
unfolding draw_of
slots_by t u p q drawn from to =
    ap₂ (λ (old new : ℕ → List ℕ). places.differing old new p.slots) (λ j i. placed_as t p i from j)
    (λ j i. (ap (λ (d : Draw). images.placed_slot d (map_of_pages (pages u q)) i) (sym drawn) ∙ placed_as u q i to) j)

pub slots_as : (t u : Tree) (p : Parameters) → IsFitting t p → IsFitting u p
    → images.slots_between (draw_of p) (map_of_pages (pages t p)) (map_of_pages (pages u p)) ≡ slots_between p t u
slots_as t u p from to = slots_by t u p p refl from to

-- the step of a command leads from a tree that fits to one that does
pub fitting_step : (t : Tree) (c : Command) (p : Parameters) → IsFitting t p → IsCommand c
    → IsFitting (step t c p).tree p
fitting_step t c p fitting is = record {
  in_range = fitting.in_range;
  tree = IsTree-step t c p fitting.tree is;
  fits = Fits-step t c p fitting.tree fitting.fits;
}

-- a tree that fits fits under version 2 too
pub fitting_upgraded : (t : Tree) (p : Parameters) → IsFitting t p → IsFitting t (with_version p Two)
fitting_upgraded t p fitting = record {
  in_range = IsParameters-with_version p Two fitting.in_range;
  tree = fitting.tree;
  fits = Fits-upgraded t p fitting.fits;
}

pub slots_as_upgraded : (t : Tree) (p : Parameters) → IsFitting t p
    → images.slots_between (draw_of p) (map_of_pages (pages t p)) (map_of_pages (pages t (with_version p Two)))
    ≡ slots_upgraded p t
slots_as_upgraded t p fitting = slots_by t t p (with_version p Two) (draw_of-with_version p Two) fitting
    (fitting_upgraded t p fitting)

-- the table of its layout has as many pages
pub table_count : (t : Tree) (p : Parameters) → IsFitting t p → length (pages_in (table_of_tree t p)) ≡ page_count t p
unfolding draw_of
table_count t p fitting = length_permutation (pages t p) (pages_in (table_of_tree t p))
    (IsPermutation-place (draw_of p) (pages t p) (IsLawful-draw_of p fitting.in_range) fitting.fits.room)
