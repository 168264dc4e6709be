-- Lemmas on files that are cut short.
use Rattle.std.proofs.Common.{◌≡◌, ℕ, zero, suc, ◌+◌, ◌-◌, ◌*◌, ◌/◌, ◌%◌, ◌<◌, ◌≤◌, List, length, take, refl, sym, ap}
use Rattle.std.proofs.Common.{ap₂, subst, ◌∙◌, arith, true, false, not, nat_lt, ltb-true, ltb-false, IsTrue, Option}
use Rattle.std.proofs.Common.{Some, None, Ok}
use Rattle.std.specs.Prelude.{Result, OnOk}
use Rattle.std.specs.List.{filter}
use Rattle.std.specs.Ordering.{eq_by_cmp}
use Rattle.std.specs.FinMap.{find, put}
use Rattle.std.proofs.lemmas.List.{length-take, take_all, take-take}
use Rattle.store_model.specs.Lists.{run_at}
use Rattle.store_model.specs.Paths.{Path, is_path, key, key_cmp}
use Rattle.store_model.specs.Pairs.{Pair, file_block}
use Rattle.store_model.proofs.PathsLemmas.{place_of_path}
use Rattle.store_model.proofs.ListsLemmasCuts.{length-filter-le}
use Rattle.store_base.specs.declared.store_fault.Fault.{Fault}
use Rattle.store_base.specs.Faults.{disk_faults_after}
use Rattle.ordered_pairs.specs.PairsState.{PairsState, IsObservable, IsPairGet, IsPairPut, IsPairTake}
use Rattle.tree_pairs.specs.Blocks.{BlockMap, run_value}
use Rattle.tree_pairs.proofs.BlocksLemmas.{run_value-some, run_value-none, length-run_at}
use Rattle.tree_pairs.proofs.ChangesLemmas.{put_block, take_block}
use Rattle.tree_pairs.specs.Kinds.{LacksBytes}
use Rattle.file_blocks.specs.FileCalls.{file_blocks, HasFile, CutsBytes, DropsBlocks, block_bytes}
use Rattle.file_blocks.proofs.RunLemmas.{run_at-take}
use Rattle.file_blocks.proofs.FileLemmas.{on_ok, found_run, added_by_put}
use Rattle.file_blocks.proofs.FormLemmas.{stands_in_blocks}

-- ---- the blocks of a front

-- those that lie in it whole
run_at-take_whole : (y : List ℕ) (n i : ℕ) → file_block * i + file_block ≤ n
    → run_at file_block (take n y) i ≡ run_at file_block y i
run_at-take_whole y n i h = run_at-take y n i (omega arith)
    ∙ take_all (n - file_block * i) (run_at file_block y i) (let l = length-run_at file_block y i in omega arith)

-- those behind it
run_at-take_none : (y : List ℕ) (n i : ℕ) → n ≤ file_block * i → run_value (run_at file_block (take n y) i) ≡ None
run_at-take_none y n i h = run_value-none (run_at file_block (take n y) i)
    (let l = length-run_at file_block (take n y) i in let m = length-take n y in omega arith)

-- two fronts have the same blocks but for the one in which the shorter ends
fronts_alike : (first : Option (List ℕ)) (y : List ℕ) (m n b : ℕ) → file_block * b ≤ m → m ≤ file_block * b + file_block
    → file_block * b ≤ n → n ≤ file_block * b + file_block
    → (j : ℕ) → (j ≡ suc b → ⊥) → file_blocks first (take m y) j ≡ file_blocks first (take n y) j
fronts_alike first y m n b hm lm hn ln zero ne = refl
fronts_alike first y m n b hm lm hn ln (suc i) ne =
    (elim (nat_lt i b) as (λ t. nat_lt i b ≡ t
    → run_value (run_at file_block (take m y) i) ≡ run_value (run_at file_block (take n y) i)) [
      | true ↦ λ t. let l = ltb-true i b t
          in ap run_value (run_at-take_whole y m i (omega arith) ∙ sym (run_at-take_whole y n i (omega arith)))
      | false ↦ λ t.
          let l = ltb-false i b t in
          let apart : (i ≡ b) → ⊥ = λ e. ne (ap suc e) in
          let beyond : b < i = omega arith in
          run_at-take_none y m i (omega arith) ∙ sym (run_at-take_none y n i (omega arith))
    ]) refl

-- ---- blocks are taken from the end

-- a list without the last block
drop_run : (x : Path) (first : Option (List ℕ)) (y : List ℕ) (others : BlockMap) (s : List Pair) (left b : ℕ)
    → IsTrue (is_path x) → left ≡ suc b → left < 4294967296
    → HasFile x first (take (file_block * left) y) others s
    → HasFile x first (take (file_block * b) y) others
    (filter (λ pair. not (eq_by_cmp key_cmp (key x left) pair.0)) s)
drop_run x first y others s left b path e l has =
    take_block x (file_blocks first (take (file_block * left) y)) (file_blocks first (take (file_block * b) y)) others
    left s (place_of_path x path) l
    (ap (file_blocks first (take (file_block * b) y)) e ∙ run_at-take_none y (file_block * b) b (omega arith))
    (λ j ne. fronts_alike first y (file_block * b) (file_block * left) b (omega arith) (omega arith) (omega arith)
    (omega arith) j (λ same. ne (same ∙ sym e)))
    has

-- one block less
pub cuts_more : (x : Path) (size left : ℕ) (k : List ℕ) (found : Option (List ℕ)) (old between new : PairsState)
    → IsTrue (is_path x) → k ≡ key x left → 1 ≤ left → left < 4294967296
    → CutsBytes {T = Unit {0}} x size (file_block * left) old between (Ok (tt {0}))
    → IsPairTake between new k (Ok found)
    → CutsBytes {T = Unit {0}} x size (file_block * (left - 1)) old new (Ok (tt {0}))
cuts_more x size left k found old between new path key_is some l h g = record {
  faults = g.faults ∙ h.faults;
  observable = λ seen. (g.observed (h.observable seen)).observable;
  cut = λ seen first y others fits has.
      subst (HasFile x first (take (file_block * (left - 1)) y) others)
      (sym ((g.observed (h.observable seen)).changed
      ∙ ap (λ q. filter (λ pair. not (eq_by_cmp key_cmp q pair.0)) between.pairs) key_is))
      (drop_run x first y others between.pairs left (left - 1) path (omega arith) l
      (h.cut seen first y others fits has));
}

-- and no more pairs
pub fewer_left : (k : List ℕ) (found : Option (List ℕ)) (between new : PairsState) → IsPairTake between new k (Ok found)
    → IsObservable between → length new.pairs ≤ length between.pairs
fewer_left k found between new g seen = let l =
    length-filter-le (λ pair. not (eq_by_cmp key_cmp k pair.0)) between.pairs
    in omega (arith, ap length (g.observed seen).changed)

-- ---- the block in which the first bytes end

-- a list in which it is cut
cut_run : (x : Path) (first : Option (List ℕ)) (y : List ℕ) (others : BlockMap) (s : List Pair) (len block : ℕ)
    (old value : List ℕ) → IsTrue (is_path x) → block ≡ len / file_block + 1 → block < 4294967296
    → 1 ≤ len % file_block → 1 ≤ length old
    → length y ≤ file_block * (len / file_block) + file_block → old ≡ run_at file_block y (len / file_block)
    → value ≡ take (len % file_block) old
    → HasFile x first y others s → HasFile x first (take len y) others (put key_cmp (key x block) value s)
cut_run x first y others s len block old value path e l rest some fits is value_is has =
    let b : ℕ = len / file_block in
    let number : block ≡ suc (len / file_block) = omega arith in
    let whole : take (file_block * (len / file_block) + file_block) y ≡ y =
    take_all (file_block * (len / file_block) + file_block) y fits in
    let left : len - file_block * (len / file_block) ≡ len % file_block = omega arith in
    let cut : run_at file_block (take len y) (len / file_block) ≡ value =
    run_at-take y len (len / file_block) (omega arith) ∙ ap₂ take left (sym is) ∙ sym value_is in
    let long : 1 ≤ length (run_at file_block (take len y) (len / file_block)) = let a =
    length-take (len % file_block) old in omega (arith, ap length cut, ap length value_is) in
    put_block x (file_blocks first y) (file_blocks first (take len y)) others block value s (place_of_path x path) l
    (ap (file_blocks first (take len y)) number
    ∙ run_value-some (run_at file_block (take len y) (len / file_block)) long ∙ ap Some cut)
    (λ j ne. fronts_alike first y len (file_block * (len / file_block) + file_block) (len / file_block) (omega arith)
    (omega arith) (omega arith) (omega arith) j (λ same. ne (same ∙ sym number))
    ∙ ap (λ z. file_blocks first z j) whole)
    has

-- the call that cuts it
pub cuts_block : {T : Type 0} (x : Path) (size len block : ℕ) (k bytes value last : List ℕ) (found : Option (List ℕ))
    (old between new : PairsState) (result : Result T Fault) → IsTrue (is_path x) → k ≡ key x block
    → block ≡ len / file_block + 1 → block < 4294967296 → 1 ≤ len % file_block
    → size ≤ file_block * (len / file_block) + file_block → found ≡ Some last → bytes ≡ last → 1 ≤ length bytes
    → value ≡ take (len % file_block) bytes
    → IsPairGet old between k (Ok found) → IsPairPut between new k value result → CutsBytes x size len old new result
cuts_block x size len block k bytes value last found old between new result path key_is number l rest ends found_is is
    some value_is h g = record {
      faults = g.faults ∙ ap (λ n. disk_faults_after n result) h.faults;
      observable = λ seen. (g.observed (h.observed seen).observable).observable;
      cut = λ seen first y others fits has.
          let got = h.observed seen in
          let run_is = sym (ap block_bytes found_is)
          ∙ found_run x first y others old.pairs (len / file_block) block found path number l has
          (got.found ∙ ap (λ q. find key_cmp q old.pairs) key_is) in
          on_ok result (λ changed. subst (HasFile x first (take len y) others)
          (sym (changed ∙ ap₂ (λ q s. put key_cmp q value s) key_is got.unchanged))
          (cut_run x first y others old.pairs len block bytes value path number l rest some (omega arith)
          (is ∙ run_is) value_is has)) (g.observed got.observable).changed;
    }

-- it adds no more than a pair
pub added_by_cut : {T : Type 0} (k value : List ℕ) (found : Option (List ℕ)) (old between new : PairsState)
    (result : Result T Fault) → IsPairGet old between k (Ok found)
    → IsPairPut between new k value result → IsObservable old
    → OnOk result (length new.pairs ≤ length old.pairs + 1)
added_by_cut k value found old between new result h g seen =
    let got = h.observed seen in
    on_ok result (λ changed. added_by_put k value old.pairs between.pairs new.pairs got.unchanged changed)
    (g.observed got.observable).changed

-- where there is no such block, no bytes lie past the first ones
pub cuts_no_block : (x : Path) (size len block : ℕ) (k : List ℕ) (found : Option (List ℕ)) (old between : PairsState)
    → IsTrue (is_path x) → k ≡ key x block → block ≡ len / file_block + 1 → block < 4294967296
    → found ≡ None → IsPairGet old between k (Ok found) → CutsBytes {T = Unit {0}} x size len old between (Ok (tt {0}))
cuts_no_block x size len block k found old between path key_is number l found_is h = record {
  faults = h.faults;
  observable = λ seen. (h.observed seen).observable;
  cut = λ seen first y others fits has.
      let got = h.observed seen in
      let run_is = sym (ap block_bytes found_is)
      ∙ found_run x first y others old.pairs (len / file_block) block found path number l has
      (got.found ∙ ap (λ q. find key_cmp q old.pairs) key_is) in
      let none = ap length run_is in
      let long = length-run_at file_block y (len / file_block) in
      let short : length y ≤ len = omega arith in
      subst (λ (z : List ℕ). HasFile x first z others between.pairs) (sym (take_all len y short))
      (subst (HasFile x first y others) (sym got.unchanged) has);
}

-- ---- both, one after the other

-- a front of a front, and a fault of the second
pub cuts_both : {T : Type 0} (x : Path) (size m n len : ℕ) (old between new : PairsState) (result : Result T Fault)
    → len ≤ m → m ≤ n
    → CutsBytes {T = Unit {0}} x size m old between (Ok (tt {0})) → CutsBytes x n len between new result
    → CutsBytes x size len old new result
cuts_both x size m n len old between new result l fits h g = record {
  faults = g.faults ∙ ap (λ k. disk_faults_after k result) h.faults;
  observable = λ seen. g.observable (h.observable seen);
  cut = λ seen first y others within has.
      on_ok result (subst (λ (z : List ℕ). HasFile x first z others new.pairs) (take-take len m y l))
      (g.cut (h.observable seen) first (take m y) others (let a = length-take m y in omega arith)
      (h.cut seen first y others within has));
}

-- a call for a larger file serves a smaller one
pub cuts_smaller : {T : Type 0} (x : Path) (size n len : ℕ) (old new : PairsState) (result : Result T Fault) → size ≤ n
    → CutsBytes x n len old new result → CutsBytes x size len old new result
cuts_smaller x size n len old new result l h = record {
  faults = h.faults;
  observable = h.observable;
  cut = λ seen first y others within has. h.cut seen first y others (omega arith) has;
}

-- ---- all blocks are taken

-- a file whose first pair lacks its bytes is left none
pub drops_blocks : {T : Type 0} (x : Path) (first : Option (List ℕ)) (size : ℕ) (old new : PairsState)
    (result : Result T Fault) → LacksBytes first → CutsBytes x size 0 old new result
    → (IsObservable old → OnOk result (length new.pairs ≤ length old.pairs + 1))
    → DropsBlocks x first size old new result
drops_blocks x first size old new result lacks h fewer = record {
  faults = h.faults;
  observable = h.observable;
  dropped = λ seen inline bytes others short stands.
      h.cut seen first bytes others short (stands_in_blocks inline x bytes first others old.pairs stands lacks);
  added = fewer;
}
