-- The root asks for the whole tree.
use Rattle.std.proofs.Common.{◌≡◌, List, [], ◌∷◌, map, Bool, true, false, ◌||◌, cond, refl, ap, ap₂, ◌∙◌}
use Rattle.std.specs.List.{list_any, filter}
use Rattle.std.proofs.lemmas.Bool.{or_left, or_right, false≢true}
use Rattle.store_model.specs.Paths.{Path, is_root, is_at_or_inside}
use Rattle.store_model.specs.Trees.{Tree}
use Rattle.store_model.proofs.TreesLemmasPaths.{at_or_inside-append}
use Rattle.store_stream.specs.Parts.{bare_directory, is_within, is_kept, entry_kept, parts_at}
use Rattle.image_extract.specs.Extracts.{asked}

root_within : (q x : Path) → is_root q ≡ true → is_at_or_inside x q ≡ true
root_within [] x root = at_or_inside-append [] x
root_within (n ∷ q) x root = cc

all_within : (paths : List Path) (x : Path) → list_any is_root paths ≡ true → is_within paths x ≡ true
all_within [] x h = absurd (false≢true h)
all_within (q ∷ paths) x h = by_root (all_within paths x) (is_root q) refl h
  where
    by_root : (list_any is_root paths ≡ true → is_within paths x ≡ true) → (b : Bool) → is_root q ≡ b
        → (b || list_any is_root paths) ≡ true → is_within (q ∷ paths) x ≡ true
    by_root rest true root is = or_left (is_at_or_inside x q) (is_within paths x) (root_within q x root)
    by_root rest false other more = or_right (is_at_or_inside x q) (is_within paths x) (rest more)

parts_all : (t : Tree) (paths : List Path) → list_any is_root paths ≡ true → parts_at t paths ≡ t
unfolding parts_at
parts_all [] paths h = refl
parts_all (e ∷ es) paths h =
    let within = all_within paths e.0 h in
    ap (λ b. map (entry_kept paths) (cond b (e ∷ filter (is_kept paths) es) (filter (is_kept paths) es)))
    (or_left _ _ within)
    ∙ ap₂ (λ b rest. (e.0, cond b e.1 bare_directory) ∷ rest) within (parts_all es paths h)

pub asks_all : (t : Tree) (paths : List Path) → list_any is_root paths ≡ true → asked t paths ≡ t
asks_all t [] h = refl
asks_all t (q ∷ paths) h = parts_all t (q ∷ paths) h
