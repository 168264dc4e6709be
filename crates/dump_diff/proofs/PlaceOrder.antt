-- The order of the places of steps.
use Rattle.std.proofs.Common.{◌≡◌, ℕ, suc, zero, [], ◌∷◌, true, false, refl, sym, ap, ◌∙◌, arith}
use Rattle.std.proofs.Common.{Ordering, Less, Equal, Greater, nat_cmp}
use borrow.Author.Tests.{eqb-true}
use Rattle.std.specs.Ordering.{ordering_then, is_le}
use Rattle.std.specs.Cmp.{IsTotalOrder, tied_itself}
use Rattle.std.specs.Cmp.Lexicographic.{slice_cmp, nat_list_cmp_total}
use Rattle.std.specs.FinMap.{slice_cmp-IsAntisymmetric, nat_cmp-IsAntisymmetric}
use Rattle.std.proofs.lemmas.Bool.{false≢true}
use Rattle.std.proofs.lemmas.Cmp.{then_total, on_total}
use Rattle.store_model.specs.Paths.{Path, path_cmp}
use Rattle.dump_streams.specs.Dumps.{DumpStep, step_path}
use Rattle.dump_streams.specs.Dumps.DumpStep.{Make, Write, Set}
use Rattle.store_model.proofs.ListsLemmas.{nat_cmp-gt}
use Rattle.store_model.proofs.TreesLemmasPaths.{path_cmp_total, same_from_tie}
use Rattle.dump_diff.specs.Places.{part, part_cmp, place_cmp, is_first, sets, writes}

-- places are in a total order
pub place_total : IsTotalOrder place_cmp
place_total = then_total (on_total step_path path_cmp_total) (on_total part nat_list_cmp_total)

-- ---- what the order of two parts says

pub both_tied : (a b : Ordering) → ordering_then a b ≡ Equal → (a ≡ Equal) × (b ≡ Equal)
both_tied Less b e = cc
both_tied Equal b e = (refl, e)
both_tied Greater b e = cc

pub tied_paths : (c d : DumpStep) → place_cmp c d ≡ Equal → step_path c ≡ step_path d
tied_paths c d e = same_from_tie (step_path c) (step_path d)
    (both_tied (path_cmp (step_path c) (step_path d)) (part_cmp c d) e).0

pub tied_parts : (c d : DumpStep) → place_cmp c d ≡ Equal → part c ≡ part d
tied_parts c d e = slice_cmp-IsAntisymmetric nat_cmp-IsAntisymmetric (part c) (part d)
    (both_tied (path_cmp (step_path c) (step_path d)) (part_cmp c d) e).1

-- at a lower path
pub place_by_path : (c d : DumpStep) → path_cmp (step_path c) (step_path d) ≡ Less → place_cmp c d ≡ Less
place_by_path c d l = ap (λ o. ordering_then o (part_cmp c d)) l

-- at the same path
pub place_by_part : (c d : DumpStep) → step_path c ≡ step_path d → part_cmp c d ≡ Less → place_cmp c d ≡ Less
place_by_part c d same l = ap (λ o. ordering_then o (part_cmp c d))
    (ap (λ (p : Path). path_cmp p (step_path d)) same ∙ tied_itself path_cmp_total (step_path d)) ∙ l

-- what stands lower has no higher path
pub path_le : (c d : DumpStep) → place_cmp c d ≡ Less → is_le (path_cmp (step_path c) (step_path d)) ≡ true
path_le c d l = by_order (path_cmp (step_path c) (step_path d)) refl l
  where
    by_order : (o : Ordering) → path_cmp (step_path c) (step_path d) ≡ o → ordering_then o (part_cmp c d) ≡ Less
        → is_le (path_cmp (step_path c) (step_path d)) ≡ true
    by_order Less e l = ap is_le e
    by_order Equal e l = ap is_le e
    by_order Greater e l = cc

-- no place is below itself
pub never_below_itself : (c d : DumpStep) → place_cmp c d ≡ Less → c ≡ d → ⊥
never_below_itself c d l e = let tie : place_cmp c d ≡ Equal = ap (place_cmp c) (sym e) ∙ tied_itself place_total c
    in let no : false ≡ true = cc in false≢true no

-- at one path the parts are in order
lower_part : (c d : DumpStep) → step_path c ≡ step_path d → place_cmp c d ≡ Less → part_cmp c d ≡ Less
lower_part c d same l =
    let tie : path_cmp (step_path c) (step_path d) ≡ Equal =
    ap (λ (p : Path). path_cmp p (step_path d)) same ∙ tied_itself path_cmp_total (step_path d) in
    sym (ap (λ o. ordering_then o (part_cmp c d)) tie) ∙ l

-- nothing of a path stands before the first step of its entry
pub none_before_first : (c d : DumpStep) → is_first d ≡ true → step_path c ≡ step_path d → place_cmp c d ≡ Less → ⊥
none_before_first c d first same l = by_part d first (lower_part c d same l)
  where
    no_number : (n : ℕ) → ordering_then (nat_cmp n 0) Equal ≡ Less → ⊥
    no_number zero e = let no : false ≡ true = cc in false≢true no
    no_number (suc n) e =
        let above : nat_cmp (suc n) 0 ≡ Greater = nat_cmp-gt (suc n) 0 (omega arith) in
        let no : false ≡ true = cc in
        false≢true no

    by_zero : (b : DumpStep) → slice_cmp nat_cmp (part b) (0 ∷ 0 ∷ []) ≡ Less → ⊥
    by_zero (Make p) l = let no : false ≡ true = cc in false≢true no
    by_zero (Write p at bytes) l = no_number at l
    by_zero (Set p a bytes) l = let no : false ≡ true = cc in false≢true no

    by_part : (d : DumpStep) → is_first d ≡ true → part_cmp c d ≡ Less → ⊥
    by_part (Make p) first l = by_zero c l
    by_part (Write p at bytes) first l =
        by_zero c (sym (ap (λ (n : ℕ). slice_cmp nat_cmp (part c) (0 ∷ n ∷ [])) (eqb-true at 0 first)) ∙ l)
    by_part (Set p a bytes) first l = false≢true first

-- behind an attribute of a path come attributes of it
pub set_after : (c d : DumpStep) → sets c ≡ true → step_path c ≡ step_path d → place_cmp c d ≡ Less → sets d ≡ true
set_after c d set same l = by_part c d set (lower_part c d same l)
  where
    by_part : (c d : DumpStep) → sets c ≡ true → part_cmp c d ≡ Less → sets d ≡ true
    by_part c (Set q b y) set l = refl
    by_part (Set p a x) (Make q) set l = cc
    by_part (Set p a x) (Write q at y) set l = cc
    by_part (Make p) (Make q) set l = set
    by_part (Make p) (Write q at y) set l = set
    by_part (Write p i x) (Make q) set l = set
    by_part (Write p i x) (Write q at y) set l = set

-- an attribute stands behind all else of its path, and its step writes nothing
pub unset_before_set : (c d : DumpStep) → sets c ≡ false → sets d ≡ true → part_cmp c d ≡ Less
unset_before_set (Make p) (Set q b y) e f = refl
unset_before_set (Write p i x) (Set q b y) e f = refl
unset_before_set (Set p a x) d e f = absurd (false≢true (sym e))
unset_before_set c (Make q) e f = absurd (false≢true f)
unset_before_set c (Write q at y) e f = absurd (false≢true f)

pub set_writes_none : (c : DumpStep) → sets c ≡ true → writes c ≡ false
set_writes_none (Make p) e = absurd (false≢true e)
set_writes_none (Write p at x) e = absurd (false≢true e)
set_writes_none (Set p a x) e = refl

-- at the place of an attribute stands an attribute
pub set_tied : (c d : DumpStep) → place_cmp c d ≡ Equal → sets c ≡ sets d
set_tied c d tied = by_part c d (both_tied (path_cmp (step_path c) (step_path d)) (part_cmp c d) tied).1
  where
    by_part : (c d : DumpStep) → part_cmp c d ≡ Equal → sets c ≡ sets d
    by_part (Set p a x) (Set q b y) e = refl
    by_part (Set p a x) (Make q) e = cc
    by_part (Set p a x) (Write q at y) e = cc
    by_part (Make p) (Set q b y) e = cc
    by_part (Write p i x) (Set q b y) e = cc
    by_part (Make p) (Make q) e = refl
    by_part (Make p) (Write q at y) e = refl
    by_part (Write p i x) (Make q) e = refl
    by_part (Write p i x) (Write q at y) e = refl
