-- Lemmas on bytes that are read block after block.
use Rattle.std.proofs.Common.{◌≡◌, ℕ, ◌+◌, ◌-◌, ◌*◌, ◌/◌, ◌%◌, ◌<◌, List, [], ◌++◌, length, take, drop, suc, ◌∷◌, ◌==◌}
use Rattle.std.proofs.Common.{Option, Ok, refl, sym, ap, ap₂, subst, ◌∙◌, arith, IsTrue, Bool, true, false, nat_le}
use Rattle.std.proofs.Common.{leb-true, leb-false, take-add}
use Rattle.std.proofs.lemmas.Bool.{eqb-true}
use Rattle.std.specs.Prelude.{Result}
use Rattle.std.specs.FinMap.{find}
use Rattle.std.proofs.lemmas.List.{length-append, length-take, length-drop, take_all, take_min, take-take, drop-drop}
use Rattle.std.proofs.lemmas.List.{drop-take}
use Rattle.store_model.specs.Lists.{run_at}
use Rattle.store_model.specs.Paths.{Path, is_path, key, key_cmp}
use Rattle.store_model.specs.Pairs.{file_block, inline_value}
use Rattle.store_base.specs.declared.store_fault.Fault.{Fault}
use Rattle.ordered_pairs.specs.PairsState.{PairsState, IsObservable, IsPairGet}
use Rattle.tree_pairs.specs.Blocks.{BlockMap}
use Rattle.tree_pairs.specs.Kinds.{LacksBytes}
use Rattle.file_blocks.specs.FileCalls.{HasFile, ReadsFileBytes, ReadsFile, ReadsFront, block_bytes}
use Rattle.file_blocks.proofs.FileLemmas.{found_run}
use Rattle.file_blocks.proofs.FormLemmas.{stands_in_blocks}

-- a front is as long as it says
front_of : (k : ℕ) (z xs : List ℕ) → xs ≡ take k z → xs ≡ take (length xs) z
front_of k z xs e = e ∙ sym (take_min k z) ∙ ap (λ n. take n z) (sym (length-take k z) ∙ ap length (sym e))

-- a front of a front is a front
front_of_front : (m n : ℕ) (z xs : List ℕ) → xs ≡ take m (take n z) → xs ≡ take (length xs) z
front_of_front m n z xs e = by_order (nat_le m n) refl
  where
    by_order : (b : Bool) → nat_le m n ≡ b → xs ≡ take (length xs) z
    by_order true t = front_of m z xs (e ∙ take-take m n z (leb-true m n t))
    by_order false t = front_of n z xs
        (e ∙ take_all m (take n z) (let l = leb-false m n t in let k = length-take n z in omega arith))

-- a block from a place on
run_at-drop : (y : List ℕ) (place : ℕ) → drop (place % file_block) (run_at file_block y (place / file_block))
    ≡ take (file_block - place % file_block) (drop place y)
run_at-drop y place =
    let within : place % file_block + (file_block - place % file_block) ≡ file_block = omega arith in
    let there : file_block * (place / file_block) + place % file_block ≡ place = omega arith in
    ap (λ n. drop (place % file_block) (take n (drop (file_block * (place / file_block)) y))) (sym within)
    ∙ drop-take (place % file_block) (file_block - place % file_block) (drop (file_block * (place / file_block)) y)
    ∙ ap (take (file_block - place % file_block))
    (drop-drop (place % file_block) (file_block * (place / file_block)) y ∙ ap (λ n. drop n y) there)

-- what is read at a place
pub record IsPieceRead (x : Path) (place most : ℕ) (old new : PairsState) (piece : List ℕ) : Type 0 where
  pub piece_is : IsObservable old → (first : Option (List ℕ)) (y : List ℕ) (others : BlockMap)
      → HasFile x first y others old.pairs → piece ≡ take most (take (file_block - place % file_block) (drop place y))

pub piece_read : (x : Path) (place most block : ℕ) (k bytes piece : List ℕ) (found : Option (List ℕ)) (at n : ℕ)
    (items : List ℕ) (old between new : PairsState)
    → IsTrue (is_path x) → k ≡ key x block → block ≡ place / file_block + 1 → block < 4294967296
    → bytes ≡ block_bytes found → piece ≡ take most (drop (place % file_block) bytes)
    → ReadsFileBytes x at n old between (Ok items) → IsPairGet between new k (Ok found)
    → IsPieceRead x place most old new piece
piece_read x place most block k bytes piece found at n items old between new path key_is number l read is h g = record {
  piece_is = λ seen first y others has.
      let found_is = (g.observed (h.keeps.observable seen)).found
      ∙ ap₂ (λ q s. find key_cmp q s) key_is (h.keeps.unchanged seen) in
      is ∙ ap (λ z. take most (drop (place % file_block) z))
      (read ∙ found_run x first y others old.pairs (place / file_block) block found path number l has found_is)
      ∙ ap (take most) (run_at-drop y place);
}

-- the bytes read so far, and those of a piece behind them
pub reads_more : (x : Path) (place most at n more : ℕ) (k piece items all : List ℕ) (found : Option (List ℕ))
    (old between new : PairsState)
    → place ≡ at + n → n ≡ length items → all ≡ items ++ piece → more ≡ length all
    → IsPieceRead x place most old new piece → ReadsFileBytes x at n old between (Ok items)
    → IsPairGet between new k (Ok found) → ReadsFileBytes x at more old new (Ok all)
reads_more x place most at n more k piece items all found old between new there long all_is more_is read h g =
    let sizes = length-append items piece in
    let sum : more ≡ n + length piece = omega (arith, ap length all_is) in
    record {
      faults = g.faults ∙ h.faults;
      keeps = record {
        observable = λ seen. (g.observed (h.keeps.observable seen)).observable;
        unchanged = λ seen. (g.observed (h.keeps.observable seen)).unchanged ∙ h.keeps.unchanged seen;
      };
      read = λ seen first y others within has.
          let front = h.read seen first y others (omega arith) has in
          let behind = front_of_front most (file_block - place % file_block) (drop place y) piece
          (read.piece_is seen first y others has) in
          all_is ∙ ap₂ (λ u v. u ++ v) front
          (behind ∙ ap (take (length piece)) (ap (λ m. drop m y) there ∙ sym (drop-drop n at y)))
          ∙ sym (take-add n (length piece) (drop at y)) ∙ ap (λ m. take m (drop at y)) (sym sum);
    }

-- in a file that has the bytes no piece is empty, so what is read is all
pub reads_end : (x : Path) (place most at n count : ℕ) (k items : List ℕ) (found : Option (List ℕ))
    (old between new : PairsState)
    → place ≡ at + n → n < count → most ≡ count - n
    → IsPieceRead x place most old new [] → ReadsFileBytes x at n old between (Ok items)
    → IsPairGet between new k (Ok found) → ReadsFileBytes x at count old new (Ok items)
reads_end x place most at n count k items found old between new there l most_is read h g = record {
  faults = g.faults ∙ h.faults;
  keeps = record {
    observable = λ seen. (g.observed (h.keeps.observable seen)).observable;
    unchanged = λ seen. (g.observed (h.keeps.observable seen)).unchanged ∙ h.keeps.unchanged seen;
  };
  read = λ seen first y others within has.
      let e = ap length (read.piece_is seen first y others has) in
      let a = length-take most (take (file_block - place % file_block) (drop place y)) in
      let b = length-take (file_block - place % file_block) (drop place y) in
      let d = length-drop place y in
      absurd (omega arith);
}

-- a list of length 0
pub no_piece : (xs : List ℕ) → (length xs == 0) ≡ true → xs ≡ []
no_piece [] e = refl
no_piece (x ∷ xs) e = absurd (let same = eqb-true (suc (length xs)) 0 e in omega arith)

-- what was read, under other names
pub reads_all : (x : Path) (at n count : ℕ) (items answer : List ℕ) (old between new : PairsState) → n ≡ count
    → new ≡ between → answer ≡ items → ReadsFileBytes x at n old between (Ok items)
    → ReadsFileBytes x at count old new (Ok answer)
reads_all x at n count items answer old between new e same is h =
    subst (λ (m : ℕ). ReadsFileBytes x at m old new (Ok answer)) e
    (subst (λ (s : PairsState). ReadsFileBytes x at n old s (Ok answer)) (sym same)
    (subst (λ (z : List ℕ). ReadsFileBytes x at n old between (Ok z)) (sym is) h))

-- a file whose first pair lacks its bytes is read from its blocks
pub reads_blocks : (x : Path) (first : Option (List ℕ)) (at count : ℕ) (old new : PairsState)
    (result : Result (List ℕ) Fault) → LacksBytes first → ReadsFileBytes x at count old new result
    → ReadsFile x first at count old new result
reads_blocks x first at count old new result lacks h = record {
  faults = h.faults;
  keeps = h.keeps;
  read = λ seen inline bytes others fits stands.
      h.read seen first bytes others fits (stands_in_blocks inline x bytes first others old.pairs stands lacks);
}

-- the first bytes that are read, as a value
pub reads_front : (x : Path) (first : Option (List ℕ)) (len : ℕ) (front value : List ℕ) (old new : PairsState)
    → value ≡ inline_value front → ReadsFile x first 0 len old new (Ok front)
    → ReadsFront x first len old new (Ok value)
reads_front x first len front value old new is h = record {
  faults = h.faults;
  keeps = h.keeps;
  read = λ seen inline bytes others fits stands. is
      ∙ ap inline_value (h.read seen inline bytes others (omega arith) stands);
}
