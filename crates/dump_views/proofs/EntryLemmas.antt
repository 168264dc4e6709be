-- Files of a dump, and names of attributes.
use Rattle.std.proofs.Common.{◌≡◌, ℕ, zero, suc, ◌+◌, ◌-◌, ◌*◌, ◌≤◌, min, List, [], ◌∷◌, length, map, fold, drop}
use Rattle.std.proofs.Common.{true, None, refl, sym, ◌∙◌, ap, arith}
use Rattle.std.proofs.Common.{Less, Equal, Greater}
use Rattle.std.specs.List.{enumerate_from, AllByRecursion}
use Rattle.std.specs.declared.cmp.Ordering.{Ordering}
use Rattle.std.specs.Ordering.{is_eq, eq_by_cmp, ordering_reverse}
use Rattle.std.specs.FinMap.{find}
use Rattle.std.specs.Cmp.Lexicographic.{texts_ties}
use Rattle.std.proofs.lemmas.List.{length-take, length-drop}
use Rattle.store_model.specs.Lists.{runs, run_at, run_count, numbers_from, same_bytes}
use Rattle.store_model.specs.Paths.{Path, Name, name_cmp}
use Rattle.store_model.specs.Trees.{Attributes}
use Rattle.dump_streams.specs.Dumps.DumpStep.{Write}
use Rattle.store_model.proofs.ListsLemmas.{length-runs}
use Rattle.store_model.proofs.PathsLemmasPlaces.{name_cmp_total, same_name_from_tie}
use Rattle.store_model.proofs.TreesLemmasFewer.{find_below_all}
use Rattle.store_model.proofs.TreesLemmasPaths.{tie_from_test}
use Rattle.dump_streams.specs.Dumps.{DumpStep, dump_piece, file_steps}

-- ---- how long a file is

-- where the last of these pieces ends, which begin at piece n, and len where there is none
end_of : ℕ → ℕ → List (List ℕ) → ℕ
end_of n len [] = len
end_of n len (r ∷ rs) = end_of (n + 1) (dump_piece * n + length r) rs

ends_at : (xs : List ℕ) (first count len : ℕ)
    → end_of first len (map (run_at dump_piece xs) (numbers_from first (suc count)))
    ≡ dump_piece * (first + count) + length (run_at dump_piece xs (first + count))
unfolding end_of numbers_from
ends_at xs first zero len = ap (λ (i : ℕ). dump_piece * i + length (run_at dump_piece xs i))
    (let e : first ≡ first + 0 = omega arith in e)
ends_at xs first (suc count) len =
    ap (λ (n : ℕ). end_of n (dump_piece * first + length (run_at dump_piece xs first))
    (map (run_at dump_piece xs) (numbers_from (suc first) (suc count))))
    (let e : first + 1 ≡ suc first = omega arith in e)
    ∙ ends_at xs (suc first) count (dump_piece * first + length (run_at dump_piece xs first))
    ∙ ap (λ (i : ℕ). dump_piece * i + length (run_at dump_piece xs i))
    (let e : suc first + count ≡ first + suc count = omega arith in e)

-- the last piece ends where the file does
end_of_runs : (xs : List ℕ) (len : ℕ) → 1 ≤ length xs → end_of 0 len (runs dump_piece xs) ≡ length xs
unfolding runs
end_of_runs xs len some =
    let k = run_count dump_piece (length xs) - 1 in
    let count : run_count dump_piece (length xs) ≡ suc k = omega arith in
    ap (λ (n : ℕ). end_of 0 len (map (run_at dump_piece xs) (numbers_from 0 n))) count
    ∙ ends_at xs 0 k len
    ∙ (let long : length (run_at dump_piece xs (0 + k)) ≡ min dump_piece (length (drop (dump_piece * (0 + k)) xs)) =
    length-take dump_piece (drop (dump_piece * (0 + k)) xs) in
    omega (arith, length-drop (dump_piece * (0 + k)) xs))

-- What is kept behind the steps that write a file, where each step leaves what is kept of a file that ends with it.
module _ {K : Type 0} (step : K → DumpStep → K) (p : Path) (of : ℕ → K)
    (more : (len at : ℕ) (bytes : List ℕ) → step (of len) (Write p at bytes) ≡ of (at + length bytes)) where
  fold_pieces : (n len : ℕ) (rs : List (List ℕ)) → fold step (of len)
      (map (λ piece. Write p (dump_piece * piece.0) piece.1) (enumerate_from n rs)) ≡ of (end_of n len rs)
  unfolding end_of
  fold_pieces n len [] = refl
  fold_pieces n len (r ∷ rs) =
      ap (λ (k : K). fold step k (map (λ piece. Write p (dump_piece * piece.0) piece.1) (enumerate_from (n + 1) rs)))
      (more len (dump_piece * n) r)
      ∙ fold_pieces (n + 1) (dump_piece * n + length r) rs

  module _ (first : K) (begins : (at : ℕ) (bytes : List ℕ) → step first (Write p at bytes) ≡ of (at + length bytes))
    where
      fold_all : (rs : List (List ℕ)) → 1 ≤ length rs
          → fold step first (map (λ piece. Write p (dump_piece * piece.0) piece.1) (enumerate_from 0 rs))
          ≡ of (end_of 0 0 rs)
      unfolding end_of
      fold_all [] some = absurd (omega arith)
      fold_all (r ∷ rs) some =
          ap (λ (k : K). fold step k (map (λ piece. Write p (dump_piece * piece.0) piece.1) (enumerate_from 1 rs)))
          (begins (dump_piece * 0) r)
          ∙ fold_pieces 1 (dump_piece * 0 + length r) rs

      pub fold_file : (bytes : List ℕ) → fold step first (file_steps p bytes) ≡ of (length bytes)
      unfolding file_steps
      fold_file [] = begins 0 []
      fold_file (b ∷ bytes) =
          let size = length-runs dump_piece (b ∷ bytes) in
          fold_all (runs dump_piece (b ∷ bytes)) (omega arith) ∙ ap of (end_of_runs (b ∷ bytes) 0 (omega arith))

-- ---- names of attributes

-- the tests of names are those by which they are found
pub name_test : (name other : Name) → same_bytes name other ≡ eq_by_cmp name_cmp other name
name_test name other = texts_ties name other ∙ ap is_eq (name_cmp_total.antisymm name other)
    ∙ turned (name_cmp other name)
  where
    turned : (o : Ordering) → is_eq (ordering_reverse o) ≡ is_eq o
    turned Less = refl
    turned Equal = refl
    turned Greater = refl

-- a name of a list that rises stands in it once
pub found_once : (name : Name) (a : Name × List ℕ) (attributes : Attributes)
    → AllByRecursion (λ b. name_cmp a.0 b.0 ≡ Less) attributes → same_bytes a.0 name ≡ true
    → find name_cmp name attributes ≡ None
found_once name a attributes above is =
    let same : name ≡ a.0 = same_name_from_tie name
    a.0 (tie_from_test (name_cmp name a.0) (sym (name_test a.0 name) ∙ is)) in
    ap (λ (n : Name). find name_cmp n attributes) same ∙ find_below_all name_cmp a.0 attributes above
