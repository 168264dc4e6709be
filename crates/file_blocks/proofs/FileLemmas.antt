-- Lemmas on the pairs of a file: what one block more or less makes of them.
use Rattle.std.proofs.Common.{◌≡◌, ℕ, zero, suc, ◌+◌, ◌/◌, ◌%◌, ◌<◌, ◌≤◌, List, [], ◌∷◌, ◌++◌, length, take, drop, refl}
use Rattle.std.proofs.Common.{sym, ap, ap₂, subst, ◌∙◌, arith, true, false, cond, nat_lt, ltb-true, ltb-false, IsTrue}
use Rattle.std.proofs.Common.{Option, Some, Less, Equal, Greater, ◌⊎◌, inl, inr}
use Rattle.std.specs.Prelude.{Result, Ok, Err, OnOk}
use Rattle.std.specs.FinMap.{find, put}
use Rattle.std.specs.FinMap.Entries.{by_order}
use Rattle.std.proofs.lemmas.List.{length-append}
use Rattle.store_model.specs.Lists.{overwrite, run_at}
use Rattle.store_model.specs.Paths.{Path, is_path, key, key_cmp}
use Rattle.store_model.specs.Pairs.{Pair, file_block}
use Rattle.store_model.proofs.PathsLemmas.{place_of_path}
use Rattle.store_model.proofs.TreesLemmasPaths.{same_path-itself}
use Rattle.tree_pairs.specs.Blocks.{BlockMap, run_value}
use Rattle.tree_pairs.proofs.BlocksLemmas.{run_value-some, length-run_at}
use Rattle.tree_pairs.proofs.ChangesLemmas.{put_block}
use Rattle.file_blocks.specs.FileCalls.{file_blocks, HasFile, block_bytes}
use Rattle.file_blocks.proofs.RunLemmas.{overwrite-whole, run_at-below, run_at-above, run_at-within}

-- what follows from a fact that holds after Ok
pub on_ok : {T E P Q : Type 0} (result : Result T E) → (P → Q) → OnOk result P → OnOk result Q
on_ok (Ok value) f h = f h
on_ok (Err fault) f h = tt

-- ---- the number of pairs

-- a put adds no more than a pair
pub length-put_le : (k v : List ℕ) (s : List Pair) → length (put key_cmp k v s) ≤ length s + 1
length-put_le k v [] = omega arith
length-put_le k v (e ∷ s) =
    let rest = length-put_le k v s in
    elim (key_cmp k e.0) as (λ r. length (by_order r ((k, v) ∷ e ∷ s) ((e.0, v) ∷ s) (e ∷ put key_cmp k v s))
    ≤ suc (length s) + 1) [
      | Less ↦ omega arith
      | Equal ↦ omega arith
      | Greater ↦ omega arith
    ]

-- the same for a list that was read before
pub added_by_put : (k v : List ℕ) (before between after : List Pair) → between ≡ before
    → after ≡ put key_cmp k v between → length after ≤ length before + 1
added_by_put k v before between after kept changed = let l = length-put_le k v between
    in omega (arith, ap length kept, ap length changed)

-- ---- what a list has at a file's blocks

-- the bytes of a run's value are the run
block_bytes-run : (run : List ℕ) → block_bytes (run_value run) ≡ run
block_bytes-run [] = refl
block_bytes-run (c ∷ run) = refl

-- the bytes that are found under a block's number, which is one more than the run's
pub found_run : (x : Path) (first : Option (List ℕ)) (y : List ℕ) (others : BlockMap) (s : List Pair) (i block : ℕ)
    (found : Option (List ℕ)) → IsTrue (is_path x) → block ≡ i + 1 → block < 4294967296
    → HasFile x first y others s → found ≡ find key_cmp (key x block) s → block_bytes found ≡ run_at file_block y i
found_run x first y others s i block found path e l h is =
    let number : block ≡ suc i = omega arith in
    ap block_bytes (is ∙ h.each x block (place_of_path x path) l
    ∙ ap (λ b. cond b (file_blocks first y block) (others x block)) (same_path-itself x)
    ∙ ap (file_blocks first y) number)
    ∙ block_bytes-run (run_at file_block y i)

-- ---- a piece is written into a block

written_block : (first : Option (List ℕ)) (y : List ℕ) (at : ℕ) (piece : List ℕ) → at ≤ length y → 1 ≤ length piece
    → at % file_block + length piece ≤ file_block
    → file_blocks first (overwrite y at piece) (suc (at / file_block))
    ≡ Some (overwrite (run_at file_block y (at / file_block)) (at % file_block) piece)
written_block first y at piece h some fits =
    let e = run_at-within y at piece h fits in
    let long = length-append (take (at % file_block) (run_at file_block y (at / file_block)) ++ piece)
    (drop (at % file_block + length piece) (run_at file_block y (at / file_block))) in
    let front = length-append (take (at % file_block) (run_at file_block y (at / file_block))) piece in
    ap run_value e ∙ run_value-some (overwrite (run_at file_block y (at / file_block)) (at % file_block) piece)
    (omega arith)

other_blocks : (first : Option (List ℕ)) (y : List ℕ) (at : ℕ) (piece : List ℕ) → at ≤ length y
    → at % file_block + length piece ≤ file_block
    → (j : ℕ) → (j ≡ suc (at / file_block) → ⊥) → file_blocks first (overwrite y at piece) j ≡ file_blocks first y j
other_blocks first y at piece h fits zero ne = refl
other_blocks first y at piece h fits (suc i) ne =
    (elim (nat_lt i (at / file_block)) as (λ b. nat_lt i (at / file_block) ≡ b
    → run_value (run_at file_block (overwrite y at piece) i) ≡ run_value (run_at file_block y i)) [
      | true ↦ λ t. let l = ltb-true i (at / file_block) t in ap run_value (run_at-below y at piece i h (omega arith))
      | false ↦ λ t.
          let l = ltb-false i (at / file_block) t in
          let apart : (i ≡ at / file_block) → ⊥ = λ e. ne (ap suc e) in
          let beyond : at / file_block < i = omega arith in
          ap run_value (run_at-above y at piece i h (omega arith))
    ]) refl

-- a list in which the block is put
pub put_run : (x : Path) (first : Option (List ℕ)) (y : List ℕ) (others : BlockMap) (s : List Pair) (at block : ℕ)
    (piece old value : List ℕ) → IsTrue (is_path x) → block ≡ at / file_block + 1 → block < 4294967296 → at ≤ length y
    → 1 ≤ length piece → at % file_block + length piece ≤ file_block
    → old ≡ run_at file_block y (at / file_block)
    → (at % file_block ≤ length old → value ≡ overwrite old (at % file_block) piece)
    → HasFile x first y others s → HasFile x first (overwrite y at piece) others (put key_cmp (key x block) value s)
put_run x first y others s at block piece old value path e l h some fits is written has =
    let number : block ≡ suc (at / file_block) = omega arith in
    let long = length-run_at file_block y (at / file_block) in
    let room : at % file_block ≤ length old = omega (arith, ap length is) in
    let new : file_blocks first (overwrite y at piece) block ≡ Some value =
    ap (file_blocks first (overwrite y at piece)) number ∙ written_block first y at piece h some fits
    ∙ ap (λ r. Some (overwrite r (at % file_block) piece)) (sym is) ∙ ap Some (sym (written room)) in
    put_block x (file_blocks first y) (file_blocks first (overwrite y at piece)) others block value s
    (place_of_path x path) l new (λ j ne. other_blocks first y at piece h fits j (λ same. ne (same ∙ sym number)))
    has

-- the same for a list whose block was read before
pub piece_put : (x : Path) (first : Option (List ℕ)) (y : List ℕ) (others : BlockMap) (before between after : List Pair)
    (at block : ℕ) (k piece bytes value : List ℕ) (found : Option (List ℕ))
    → IsTrue (is_path x) → k ≡ key x block → block ≡ at / file_block + 1 → block < 4294967296 → at ≤ length y
    → 1 ≤ length piece → at % file_block + length piece ≤ file_block
    → found ≡ find key_cmp k before → bytes ≡ block_bytes found
    → (at % file_block ≤ length bytes → value ≡ overwrite bytes (at % file_block) piece)
    → between ≡ before → after ≡ put key_cmp k value between → HasFile x first y others before
    → HasFile x first (overwrite y at piece) others after
piece_put x first y others before between after at block k piece bytes value found path key_is number l h some fits is
    read written kept changed has =
    subst (HasFile x first (overwrite y at piece) others)
    (sym (changed ∙ ap₂ (λ q s. put key_cmp q value s) key_is kept))
    (put_run x first y others before at block piece bytes value path number l h some fits
    (read ∙ found_run x first y others before (at / file_block) block found path number l has
    (is ∙ ap (λ q. find key_cmp q before) key_is)) written has)

-- the same for a block of which the piece leaves no byte, which isn't read: the piece fills it, or reaches the file's
-- end
pub whole_put : (x : Path) (first : Option (List ℕ)) (y : List ℕ) (others : BlockMap) (before after : List Pair)
    (at block : ℕ) (k piece value : List ℕ)
    → IsTrue (is_path x) → k ≡ key x block → block ≡ at / file_block + 1 → block < 4294967296 → at ≤ length y
    → 1 ≤ length piece → at % file_block + length piece ≤ file_block
    → at % file_block ≡ 0 → length (run_at file_block y (at / file_block)) ≤ length piece → value ≡ piece
    → after ≡ put key_cmp k value before → HasFile x first y others before
    → HasFile x first (overwrite y at piece) others after
whole_put x first y others before after at block k piece value path key_is number l h some fits start
    covered value_is changed has =
    let run = run_at file_block y (at / file_block) in
    subst (HasFile x first (overwrite y at piece) others) (sym (changed ∙ ap (λ q. put key_cmp q value before) key_is))
    (put_run x first y others before at block piece run value path number l h some fits refl
    (λ room. value_is ∙ sym (ap (λ n. overwrite run n piece) start ∙ overwrite-whole run piece covered)) has)

-- the run of a block from its beginning on, which a piece fills or which ends where the piece does
pub run_covered : (y piece : List ℕ) (size at : ℕ) → length y ≤ size → at % file_block ≡ 0
    → (length piece ≡ file_block) ⊎ (size ≤ at + length piece)
    → length (run_at file_block y (at / file_block)) ≤ length piece
run_covered y piece size at short start (inl fills) = let long =
    length-run_at file_block y (at / file_block) in omega arith
run_covered y piece size at short start (inr ends) = let long =
    length-run_at file_block y (at / file_block) in omega arith
