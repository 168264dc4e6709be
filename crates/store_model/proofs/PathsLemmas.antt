-- Lemmas on the keys of paths and attributes: they have the order of places.
use Rattle.std.proofs.Common.{◌≡◌, ℕ, ◌+◌, ◌-◌, ◌<◌, ◌≤◌, zero, suc, Bool, true, List, [], ◌∷◌, ◌++◌, length, refl, sym}
use Rattle.std.proofs.Common.{ap, ap₂, ◌∙◌, arith, ◌&&◌, IsTrue, append_assoc, leb-true, nat_le, Less, Greater, nat_cmp}
use Rattle.std.proofs.lemmas.Bool.{and_from, le-leb}
use Rattle.std.proofs.lemmas.List.{length-append, length-replicate}
use Rattle.std.specs.Ordering.{ordering_then}
use Rattle.std.specs.List.{AllByRecursion, list_all}
use Rattle.std.specs.Cmp.{tied_itself}
use Rattle.std.specs.Cmp.Lexicographic.{slice_cmp, nat_list_cmp_total}
use Rattle.std.specs.FinMap.{slice_cmp-IsAntisymmetric, nat_cmp-IsAntisymmetric}
use Rattle.std.specs.Int.{w32, to_be_bytes}
use Rattle.store_model.specs.Lists.{IsBytes, zeros, zero_filled}
use Rattle.store_model.specs.Paths.{Path, is_name, is_name_byte, is_path, is_attribute_name, attribute_mark}
use Rattle.store_model.specs.Paths.{attribute_place, fits_attribute, is_part, is_place, fits_field, name_bytes}
use Rattle.store_model.specs.Paths.{field_len, field, key, name_cmp, path_cmp, key_cmp}
use Rattle.store_model.proofs.ListsLemmas.{then_assoc, slice_cmp-append, nat_cmp-lt, nat_cmp-gt, be_bytes_order}
use Rattle.store_model.proofs.ListsLemmas.{then_same, first_true, second_true, all_from_test, all_append, all_flat_map}
use Rattle.store_model.proofs.ListsLemmas.{all_replicate, bytes_from_all, be_bytes_are_bytes}

-- a byte string that is not empty and has no byte 0
record IsZeroFree (n : List ℕ) : Type 0 where
  some_byte : 1 ≤ length n
  bytes : AllByRecursion (λ c. 0 < c) n

-- a part of a field is such a byte string
zero_free_part : (n : List ℕ) → IsTrue (is_part n) → IsZeroFree n
zero_free_part n h = record {
  some_byte = leb-true _ _ (first_true _ _ h);
  bytes = all_from_test (λ c. nat_le 1 c && nat_le c 0xff) (λ c. 0 < c)
      (λ c t. let l = leb-true 1 c (first_true _ _ t) in omega arith) n (second_true _ _ h);
}

-- ---- paths and attributes are places

-- a test that follows from another holds of all of a list
weaker_test : {A : Type 0} (f g : A → Bool) (xs : List A) → ((x : A) → IsTrue (f x) → IsTrue (g x))
    → IsTrue (list_all f xs) → IsTrue (list_all g xs)
weaker_test f g [] follows h = refl
weaker_test f g (x ∷ xs) follows h =
    and_from (g x) _ (follows x (first_true (f x) _ h)) (weaker_test f g xs follows (second_true (f x) _ h))

-- a byte of a name is one of a part
part_byte : (c : ℕ) → IsTrue (is_name_byte c) → IsTrue (nat_le 1 c && nat_le c 0xff)
part_byte c h =
    let above = leb-true 0x21 c (first_true _ _ (first_true _ _ h)) in
    let below = leb-true c 0x7e (second_true (nat_le 0x21 c) _ (first_true _ _ h)) in
    and_from (nat_le 1 c) (nat_le c 0xff) (le-leb 1 c (omega arith)) (le-leb c 0xff (omega arith))

-- a name is a part
part_of_name : (n : List ℕ) → IsTrue (is_name n) → IsTrue (is_part n)
part_of_name n h =
    let front : IsTrue (nat_le 1 (length n) && list_all is_name_byte n) = first_true _ _ (first_true _ _ h) in
    and_from (nat_le 1 (length n)) _ (first_true (nat_le 1 (length n)) _ front)
    (weaker_test is_name_byte (λ c. nat_le 1 c && nat_le c 0xff) n part_byte
    (second_true (nat_le 1 (length n)) _ front))

-- a path is a place
pub place_of_path : (p : Path) → IsTrue (is_path p) → IsTrue (is_place p)
place_of_path p h = and_from (list_all is_part p) (fits_field p)
    (weaker_test is_name is_part p part_of_name (first_true (list_all is_name p) _ h))
    (second_true (list_all is_name p) _ h)

-- a part behind others
part_behind : (p : Path) (n : List ℕ) → IsTrue (list_all is_part p) → IsTrue (is_part n)
    → IsTrue (list_all is_part (p ++ n ∷ []))
part_behind [] n h g = and_from (is_part n) true g refl
part_behind (m ∷ p) n h g = and_from (is_part m) _ (first_true (is_part m) _ h)
    (part_behind p n (second_true (is_part m) _ h) g)

-- the last part of an attribute's field
marked_part : (a : List ℕ) → IsTrue (is_attribute_name a) → IsTrue (is_part (attribute_mark ∷ a))
marked_part a h =
    let part = part_of_name a (first_true (is_name a) _ h) in
    and_from (nat_le 1 (length (attribute_mark ∷ a))) _ (le-leb 1 (length (attribute_mark ∷ a)) (omega arith))
    (and_from true (list_all (λ c. nat_le 1 c && nat_le c 0xff) a) refl (second_true (nat_le 1 (length a)) _ part))

-- an attribute that its field holds stands at a place
pub place_of_attribute : (p : Path) (a : List ℕ) → IsTrue (is_path p) → IsTrue (is_attribute_name a)
    → IsTrue (fits_attribute p a) → IsTrue (is_place (attribute_place p a))
place_of_attribute p a h name fits =
    and_from (list_all is_part (attribute_place p a)) _
    (part_behind p (attribute_mark ∷ a) (first_true (list_all is_part p) _ (place_of_path p h))
    (marked_part a name)) fits

-- names with a byte 0 behind them are compared first, and then what follows
order_of_names_then : (n m xs ys : List ℕ) → AllByRecursion (λ c. 0 < c) n → AllByRecursion (λ c. 0 < c) m
    → slice_cmp nat_cmp (n ++ 0 ∷ xs) (m ++ 0 ∷ ys) ≡ ordering_then (name_cmp n m) (slice_cmp nat_cmp xs ys)
order_of_names_then [] [] xs ys hn hm = refl
order_of_names_then [] (y ∷ m) xs ys hn hm =
    ap (λ o. ordering_then o (slice_cmp nat_cmp xs (m ++ 0 ∷ ys))) (nat_cmp-lt 0 y hm.0)
order_of_names_then (x ∷ n) [] xs ys hn hm =
    ap (λ o. ordering_then o (slice_cmp nat_cmp (n ++ 0 ∷ xs) ys)) (nat_cmp-gt x 0 hn.0)
order_of_names_then (x ∷ n) (y ∷ m) xs ys hn hm =
    ap (ordering_then (nat_cmp x y)) (order_of_names_then n m xs ys hn.1 hm.1)
    ∙ sym (then_assoc (nat_cmp x y) (name_cmp n m) (slice_cmp nat_cmp xs ys))

-- zeros stand before a name
zeros_before_name : (a : ℕ) (n ys : List ℕ) → 0 < a → IsZeroFree n → slice_cmp nat_cmp (zeros a) (n ++ ys) ≡ Less
zeros_before_name a [] ys ha hn = let none = hn.some_byte in absurd (omega arith)
zeros_before_name zero (y ∷ n) ys ha hn = absurd (omega arith)
zeros_before_name (suc a) (y ∷ n) ys ha hn =
    ap (λ o. ordering_then o (slice_cmp nat_cmp (zeros a) (n ++ ys))) (nat_cmp-lt 0 y (hn.bytes).0)

-- a name stands behind zeros
name_behind_zeros : (b : ℕ) (n xs : List ℕ) → 0 < b → IsZeroFree n → slice_cmp nat_cmp (n ++ xs) (zeros b) ≡ Greater
name_behind_zeros b [] xs hb hn = let none = hn.some_byte in absurd (omega arith)
name_behind_zeros zero (x ∷ n) xs hb hn = absurd (omega arith)
name_behind_zeros (suc b) (x ∷ n) xs hb hn =
    ap (λ o. ordering_then o (slice_cmp nat_cmp (n ++ xs) (zeros b))) (nat_cmp-gt x 0 (hn.bytes).0)

-- a name with a byte 0 in front of more names
append_name : (n xs ys : List ℕ) → ((n ++ 0 ∷ []) ++ xs) ++ ys ≡ n ++ 0 ∷ (xs ++ ys)
append_name n xs ys = simp append_assoc

-- the length of a name with a byte 0 in front of more names
length-append_name : (n xs : List ℕ) → length ((n ++ 0 ∷ []) ++ xs) ≡ suc (length n + length xs)
length-append_name n xs = simp (length-append, length-append) (omega arith)

-- names, filled with zeros to one length, have the order of paths
order_of_filled_names : (p q : Path) (a b : ℕ) → AllByRecursion IsZeroFree p → AllByRecursion IsZeroFree q
    → length (name_bytes p) + a ≡ length (name_bytes q) + b
    → slice_cmp nat_cmp (name_bytes p ++ zeros a) (name_bytes q ++ zeros b) ≡ path_cmp p q
unfolding name_bytes
order_of_filled_names [] [] a b hp hq e =
    let same : a ≡ b = omega arith in
    ap (λ k. slice_cmp nat_cmp (zeros a) (zeros k)) (sym same) ∙ tied_itself nat_list_cmp_total (zeros a)
order_of_filled_names [] (m ∷ q) a b hp hq e =
    ap (slice_cmp nat_cmp (zeros a)) (append_name m (name_bytes q) (zeros b))
    ∙ zeros_before_name a m (0 ∷ (name_bytes q ++ zeros b)) (omega (arith, length-append_name m (name_bytes q))) hq.0
order_of_filled_names (n ∷ p) [] a b hp hq e =
    ap (λ xs. slice_cmp nat_cmp xs (zeros b)) (append_name n (name_bytes p) (zeros a))
    ∙ name_behind_zeros b n (0 ∷ (name_bytes p ++ zeros a)) (omega (arith, length-append_name n (name_bytes p))) hp.0
order_of_filled_names (n ∷ p) (m ∷ q) a b hp hq e =
    ap₂ (slice_cmp nat_cmp) (append_name n (name_bytes p) (zeros a)) (append_name m (name_bytes q) (zeros b))
    ∙ order_of_names_then n m (name_bytes p ++ zeros a) (name_bytes q ++ zeros b) (hp.0).bytes (hq.0).bytes
    ∙ then_same (name_cmp n m) (slice_cmp nat_cmp (name_bytes p ++ zeros a) (name_bytes q ++ zeros b))
    (path_cmp p q) (λ tied.
    let same = slice_cmp-IsAntisymmetric nat_cmp-IsAntisymmetric n m tied in
    order_of_filled_names p q a b hp.1 hq.1
    (omega (arith, ap length same, length-append_name n (name_bytes p), length-append_name m (name_bytes q))))

-- ---- the order of keys

-- each part of a place is such a byte string
zero_free_place : (p : Path) → IsTrue (is_place p) → AllByRecursion IsZeroFree p
zero_free_place p h = all_from_test is_part IsZeroFree zero_free_part p (first_true _ _ h)

-- the parts of a place fit its field
field_len_of_place : (p : Path) → IsTrue (is_place p) → field_len p ≤ 120
field_len_of_place p h = leb-true _ _ (second_true (list_all is_part p) _ h)

-- fields have the order of paths
pub order_of_fields : (p q : Path) → IsTrue (is_place p) → IsTrue (is_place q)
    → slice_cmp nat_cmp (field p) (field q) ≡ path_cmp p q
unfolding field zero_filled
order_of_fields p q hp hq =
    let lp = field_len_of_place p hp in
    let lq = field_len_of_place q hq in
    order_of_filled_names p q (120 - field_len p) (120 - field_len q) (zero_free_place p hp)
    (zero_free_place q hq) (omega arith)

-- a field has 120 bytes
pub length-field : (p : Path) → IsTrue (is_place p) → length (field p) ≡ 120
unfolding field zero_filled
length-field p h = let l = field_len_of_place p h in simp (length-append, length-replicate) (omega arith)

-- keys have the order of paths, and at one path that of block numbers
pub order_of_keys : (p q : Path) (i j : ℕ) → IsTrue (is_place p) → IsTrue (is_place q) → i < 4294967296 → j < 4294967296
    → key_cmp (key p i) (key q j) ≡ ordering_then (path_cmp p q) (nat_cmp i j)
unfolding key
order_of_keys p q i j hp hq hi hj =
    slice_cmp-append nat_cmp (field p) (field q) (to_be_bytes w32 i) (to_be_bytes w32 j)
    (length-field p hp ∙ sym (length-field q hq))
    ∙ ap₂ ordering_then (order_of_fields p q hp hq) (be_bytes_order i j hi hj)

-- a key has 124 bytes
pub length-key : (p : Path) (i : ℕ) → IsTrue (is_place p) → length (key p i) ≡ 124
unfolding key
length-key p i h = length-append (field p) (to_be_bytes w32 i) ∙ ap (λ n. n + 4) (length-field p h)

-- a part with its byte 0 is made of bytes
bytes_of_part : (n : List ℕ) → IsTrue (is_part n) → AllByRecursion (λ c. c < 256) (n ++ 0 ∷ [])
bytes_of_part n h =
    all_append _ n (0 ∷ [])
    (all_from_test (λ c. nat_le 1 c && nat_le c 0xff) (λ c. c < 256)
    (λ c t. let l = leb-true c 0xff (second_true (nat_le 1 c) _ t) in omega arith) n
    (second_true (nat_le 1 (length n)) _ h))
    (omega arith, tt)

-- a key is made of bytes
pub bytes_of_key : (p : Path) (block : ℕ) → IsTrue (is_place p) → IsBytes (key p block)
unfolding key field zero_filled name_bytes
bytes_of_key p block h =
    let parts = all_from_test is_part (λ n. IsTrue (is_part n)) (λ n t. t) p (first_true _ _ h) in
    let parts_bytes = all_flat_map _ (λ c. c < 256) (λ n. n ++ 0 ∷ []) bytes_of_part p parts in
    bytes_from_all (key p block)
    (all_append _ (field p) (to_be_bytes w32 block)
    (all_append _ (name_bytes p) (zeros (120 - field_len p)) parts_bytes
    (all_replicate _ (120 - field_len p) 0 (omega arith)))
    (be_bytes_are_bytes block))
