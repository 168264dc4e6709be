-- Cells and their bytes: what spells a cell is read as that cell, and the other way round.
use Rattle.std.proofs.Common.{◌≡◌, ℕ, zero, suc, ◌+◌, ◌-◌, ◌*◌, ◌≤◌, List, [], ◌∷◌, ◌++◌, length, take, drop, Option}
use Rattle.std.proofs.Common.{Some, None, refl, sym, ap, ap₂, subst, ◌∙◌, arith, append_assoc, length-append}
use Rattle.std.specs.Int.{w16, to_be_bytes, from_be_bytes}
use Rattle.std.specs.List.{flat_map, AllByRecursion}
use Rattle.std.proofs.lemmas.List.{take_at, drop_at, take-append-drop, take_all, length-take, length-drop}
use Rattle.std.proofs.lemmas.List.{length-replicate, append-nil, drop-replicate}
use Rattle.std.proofs.lemmas.Nat.{be_bytes_2, from_be_bytes-to_be_bytes_2}
use Rattle.store_model.specs.Lists.{IsBytes, zeros, zero_filled}
use Rattle.store_model.specs.Pairs.{IsValue}
use Rattle.store_model.specs.Pages.{Cell, IsCell, IsCellValue}
use Rattle.store_model.specs.Images.{value_bytes, cell_bytes}
use borrow.Rule.Slice.PartMut.{put_mid}
use Rattle.node_pages.proofs.Filled.{length-zeros, zero_filled-append, zero_filled-zero_filled, written_front}
use Rattle.node_pages.proofs.Filled.{written_behind, put_mid_to_end}
use Rattle.store_base.proofs.Orders.{IsBytes-take, IsBytes-drop}
use Rattle.node_pages.specs.CellAreas.{cell_size, SpellsValue, SpellsCell}
use Rattle.node_pages.specs.PageSlots.{value_in, cell_in, cells_in}

-- ---- from a cell to its bytes and back

-- a value's 258 bytes
pub length-value_bytes : (v : List ℕ) → IsValue v → length (value_bytes (Some v)) ≡ 258
unfolding zero_filled
length-value_bytes v is = let long = length-append v (zeros (256 - length v))
    in let fill = length-replicate {A = ℕ} (256 - length v) 0 in omega (arith, is.0, is.1)

value_in-value_bytes : (level : ℕ) (value : Option (List ℕ)) → IsCellValue level value
    → value_in level (value_bytes value) ≡ value
unfolding zero_filled
value_in-value_bytes zero (Some v) is =
    let long : from_be_bytes w16 (to_be_bytes w16 (length v)) ≡ length v =
    from_be_bytes-to_be_bytes_2 (length v) (omega (arith, is.1.1)) in
    ap Some (ap (λ n. take n (v ++ zeros (256 - length v))) long ∙ take_at v (zeros (256 - length v)) (length v) refl)
value_in-value_bytes zero None is = absurd (omega arith)
value_in-value_bytes (suc level) (Some v) is = absurd (omega (arith, is.0))
value_in-value_bytes (suc level) None is = refl

length-value_part : (level : ℕ) (value : Option (List ℕ)) → IsCellValue level value
    → 124 + length (value_bytes value) ≡ cell_size level
length-value_part zero (Some v) is = omega (arith, length-value_bytes v is.1)
length-value_part zero None is = absurd (omega arith)
length-value_part (suc level) (Some v) is = absurd (omega (arith, is.0))
length-value_part (suc level) None is = refl

pub length-cell_bytes : (level : ℕ) (cell : Cell) → IsCell level cell → length (cell_bytes cell) ≡ cell_size level
unfolding cell_bytes
length-cell_bytes level cell is =
    omega (
      arith,
      length-append cell.key (value_bytes cell.value),
      is.key_length,
      length-value_part level cell.value is.value,
    )

-- what spells a cell is read as that cell
pub cell_in-cell_bytes : (level : ℕ) (cell : Cell) → IsCell level cell → cell_in level (cell_bytes cell) ≡ cell
unfolding cell_in cell_bytes
cell_in-cell_bytes level cell is =
    let key = take_at cell.key (value_bytes cell.value) 124 is.key_length in
    let value = ap (value_in level) (drop_at cell.key (value_bytes cell.value) 124 is.key_length)
    ∙ value_in-value_bytes level cell.value is.value in
    λ i. record { key = key i; value = value i }

-- cells one behind the other are read as those cells, whatever follows
pub cells_in-cell_bytes : (level : ℕ) (cells : List Cell) (rest : List ℕ) → AllByRecursion (IsCell level) cells
    → cells_in level (length cells) (flat_map cell_bytes cells ++ rest) ≡ cells
unfolding cells_in
cells_in-cell_bytes level [] rest is = refl
cells_in-cell_bytes level (cell ∷ cells) rest is =
    let long = length-cell_bytes level cell is.0 in
    let regrouped : flat_map cell_bytes (cell ∷ cells) ++ rest
    ≡ cell_bytes cell ++ (flat_map cell_bytes cells ++ rest) =
    append_assoc (cell_bytes cell) (flat_map cell_bytes cells) rest in
    let first = ap (λ (bytes : List ℕ). cell_in level (take (cell_size level) bytes)) regrouped
    ∙ ap (cell_in level) (take_at (cell_bytes cell) (flat_map cell_bytes cells ++ rest) (cell_size level) long)
    ∙ cell_in-cell_bytes level cell is.0 in
    let others = ap (λ (bytes : List ℕ). cells_in level (length cells) (drop (cell_size level) bytes)) regrouped
    ∙ ap (cells_in level (length cells))
    (drop_at (cell_bytes cell) (flat_map cell_bytes cells ++ rest) (cell_size level) long)
    ∙ cells_in-cell_bytes level cells rest is.1 in
    ap₂ (λ x xs. x ∷ xs) first others

-- cells have as many bytes as their level says
pub length-cells_bytes : (level : ℕ) (cells : List Cell) → AllByRecursion (IsCell level) cells
    → length (flat_map cell_bytes cells) ≡ cell_size level * length cells
length-cells_bytes level [] is = omega arith
length-cells_bytes level (cell ∷ cells) is =
    omega (
      arith,
      length-append (cell_bytes cell) (flat_map cell_bytes cells),
      length-cell_bytes level cell is.0,
      length-cells_bytes level cells is.1,
    )

-- ---- from bytes to a cell and back

-- the length in front of a value is in its first two bytes
length_in-take : (bytes : List ℕ) → from_be_bytes w16 bytes ≡ from_be_bytes w16 (take 2 bytes)
length_in-take [] = refl
length_in-take (a ∷ []) = refl
length_in-take (a ∷ b ∷ bytes) = refl

pub value_read : (bytes : List ℕ) → length bytes ≡ 258 → IsBytes bytes → SpellsValue bytes
    → IsValue (take (from_be_bytes w16 bytes) (drop 2 bytes))
    × (value_bytes (Some (take (from_be_bytes w16 bytes) (drop 2 bytes))) ≡ bytes)
unfolding zero_filled
value_read bytes long fits spells =
    let n = from_be_bytes w16 bytes in
    let value = take n (drop 2 bytes) in
    let some : 1 ≤ n = spells.some in
    let below : n ≤ 256 = spells.fits in
    let value_long : length value ≡ n = omega (arith, length-take n (drop 2 bytes), length-drop 2 bytes) in
    let front : to_be_bytes w16 (length value) ≡ take 2 bytes =
    ap (to_be_bytes w16) value_long ∙ be_bytes_2 (take 2 bytes) n (omega (arith, length-take 2 bytes))
    (IsBytes-take 2 bytes fits) (length_in-take bytes) in
    let back : value ++ zeros (256 - length value) ≡ drop 2 bytes =
    ap (λ m. value ++ zeros (256 - m)) value_long ∙ ap (λ (ys : List ℕ). value ++ ys) (sym spells.fill)
    ∙ take-append-drop n (drop 2 bytes) in (
      (omega arith, omega arith, IsBytes-take n (drop 2 bytes) (IsBytes-drop 2 bytes fits)),
      ap₂ (λ (xs ys : List ℕ). xs ++ ys) front back ∙ take-append-drop 2 bytes,
    )

-- bytes that spell a cell are those of the cell that is read from them
pub cell_read : (level : ℕ) (bytes : List ℕ) → length bytes ≡ cell_size level → IsBytes bytes → SpellsCell level bytes
    → IsCell level (cell_in level bytes) × (cell_bytes (cell_in level bytes) ≡ bytes)
unfolding cell_in cell_bytes
cell_read zero bytes long fits spells =
    let value = value_read (drop 124 bytes) (omega (arith, length-drop 124 bytes))
    (IsBytes-drop 124 bytes fits) (spells refl) in (
      record {
        key_length = omega (arith, length-take 124 bytes);
        key_bytes = IsBytes-take 124 bytes fits;
        value = (refl, value.0);
      },
      ap (λ (ys : List ℕ). take 124 bytes ++ ys) value.1 ∙ take-append-drop 124 bytes,
    )
cell_read (suc level) bytes long fits spells = (
  record {
    key_length = omega (arith, length-take 124 bytes);
    key_bytes = IsBytes-take 124 bytes fits;
    value = omega arith;
  },
  append-nil (take 124 bytes) ∙ take_all 124 bytes (omega arith),
)

-- the bytes of a value spell one
SpellsValue-value_bytes : (v : List ℕ) → IsValue v → SpellsValue (value_bytes (Some v))
unfolding zero_filled
SpellsValue-value_bytes v is =
    let long : from_be_bytes w16 (to_be_bytes w16 (length v)) ≡ length v =
    from_be_bytes-to_be_bytes_2 (length v) (omega (arith, is.1)) in
    record {
      some = subst (λ n. 1 ≤ n) (sym long) is.0;
      fits = subst (λ n. n ≤ 256) (sym long) is.1;
      fill = ap (λ n. drop n (v ++ zeros (256 - length v))) long ∙ drop_at v (zeros (256 - length v)) (length v) refl
          ∙ ap (λ n. zeros (256 - n)) (sym long);
    }

-- the bytes of a cell spell one
pub SpellsCell-cell_bytes : (level : ℕ) (cell : Cell) → IsCell level cell → SpellsCell level (cell_bytes cell)
unfolding cell_bytes
SpellsCell-cell_bytes level cell is ground_level = go cell.value is.value
  where
    go : (value : Option (List ℕ)) → IsCellValue level value → SpellsValue (drop 124 (cell.key ++ value_bytes value))
    go (Some v) valid = subst SpellsValue (sym (drop_at cell.key (value_bytes (Some v)) 124 is.key_length))
        (SpellsValue-value_bytes v valid.1)
    go None valid = absurd (omega arith)

-- ---- what is written for a cell

-- a value takes at least 258 bytes
value_long : (v : List ℕ) → 258 ≤ length (value_bytes (Some v))
unfolding zero_filled
value_long v = omega (arith, length-append v (zeros (256 - length v)), length-zeros (256 - length v))

pub value_written : (area front v : List ℕ) (k : ℕ) → area ≡ zeros (length area) → 258 ≤ length area → length v ≤ 256
    → front ≡ to_be_bytes w16 (length v) → k ≡ length v
    → put_mid 2 k (front ++ drop 2 area) v ≡ zero_filled (length area) (value_bytes (Some v))
value_written area front v k blank room fits front_is k_is =
    let front_long : length front ≡ 2 = ap length front_is in
    let n = length area in
    written_behind area front v 2 k blank front_long (sym k_is) ∙ zero_filled-append n front v
    ∙ ap (λ (xs : List ℕ). front ++ xs) (sym (zero_filled-zero_filled 256 (n - length front) v fits (omega arith)))
    ∙ sym (zero_filled-append n front (zero_filled 256 v))
    ∙ ap (λ (xs : List ℕ). zero_filled n (xs ++ zero_filled 256 v)) front_is

-- the bytes of a cell begin with its key
pub key_fits : (cell : Cell) (n : ℕ) → length cell.key ≡ 124 → length (cell_bytes cell) ≤ n → 124 ≤ n
unfolding cell_bytes
key_fits cell n long fits = omega (arith, length-append cell.key (value_bytes cell.value))

pub value_fits : (cell : Cell) (v : List ℕ) (n : ℕ) → length cell.key ≡ 124 → cell.value ≡ Some v
    → length (cell_bytes cell) ≤ n → 382 ≤ n
unfolding cell_bytes
value_fits cell v n long value_is fits =
    let value : length (value_bytes cell.value) ≡ length (value_bytes (Some v)) =
    ap (λ o. length (value_bytes o)) value_is in
    omega (arith, length-append cell.key (value_bytes cell.value), value_long v)

pub key_written : (area key : List ℕ) (cell : Cell) → area ≡ zeros (length area) → key ≡ cell.key
    → length cell.key ≡ 124 → cell.value ≡ None
    → key ++ drop 124 area ≡ zero_filled (length area) (cell_bytes cell)
unfolding cell_bytes
key_written area key cell blank key_is long value_is =
    written_front area key 124 blank (ap length key_is ∙ long)
    ∙ ap (zero_filled (length area)) (sym (append-nil key)
    ∙ ap₂ (λ (xs ys : List ℕ). xs ++ ys) key_is (sym (ap value_bytes value_is)))

pub cell_written : (area key tail v : List ℕ) (cell : Cell) (k : ℕ) → key ≡ cell.key → length cell.key ≡ 124
    → cell.value ≡ Some v → length area - 124 ≤ k
    → tail ≡ zero_filled (length area - 124) (value_bytes (Some v))
    → put_mid 124 k (key ++ drop 124 area) tail ≡ zero_filled (length area) (cell_bytes cell)
unfolding cell_bytes
cell_written area key tail v cell k key_is long value_is all tail_is =
    let key_long : length key ≡ 124 = ap length key_is ∙ long in
    put_mid_to_end key (drop 124 area) tail 124 k key_long (omega (arith, length-drop 124 area))
    ∙ ap (λ (xs : List ℕ). key ++ xs)
    (tail_is ∙ ap (λ n. zero_filled (length area - n) (value_bytes (Some v))) (sym key_long))
    ∙ sym (zero_filled-append (length area) key (value_bytes (Some v)))
    ∙ ap (zero_filled (length area)) (ap₂ (λ (xs ys : List ℕ). xs ++ ys) key_is (sym (ap value_bytes value_is)))

-- what lies behind a key that was written
pub behind_key : (area key : List ℕ) (n : ℕ) → length key ≡ 124 → n ≡ length (key ++ drop 124 area) - 124
    → take n (drop 124 (key ++ drop 124 area)) ≡ drop 124 area
behind_key area key n long n_is =
    ap (take n) (drop_at key (drop 124 area) 124 long)
    ∙ take_all n (drop 124 area) (omega (arith, n_is, length-append key (drop 124 area)))

pub zeros_behind : (area : List ℕ) (n : ℕ) → area ≡ zeros (length area) → drop n area ≡ zeros (length (drop n area))
zeros_behind area n blank = ap (drop n) blank ∙ drop-replicate n (length area) 0 ∙ ap zeros (sym (length-drop n area))
