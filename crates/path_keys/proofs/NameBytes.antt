-- Lemmas on the bytes of names, and on the fields of paths.
use Rattle.std.proofs.Common.{◌≡◌, ℕ, ◌+◌, ◌-◌, ◌<◌, ◌≤◌, suc, List, [], ◌∷◌, ◌++◌, length, take, drop, get_or, set}
use Rattle.std.proofs.Common.{refl, sym, ap, ap₂, ◌∙◌, subst, arith, Bool, true, false, cond, eqb, not, ◌&&◌, IsTrue}
use Rattle.std.proofs.Common.{nat_le, append_assoc, append-nil, length-append}
use Rattle.std.specs.List.{AllByRecursion, list_all, flat_map, onto_first, slice_split}
use Rattle.std.proofs.lemmas.List.{take_at, take_all, drop_at, drop_all, drop-append-le, length-map, length-replicate}
use Rattle.std.proofs.lemmas.List.{drop-replicate, get_or_default}
use Rattle.std.proofs.lemmas.List.Edits.{map_over_more}
use Rattle.std.proofs.lemmas.List.Splits.{length-slice_split}
use Rattle.std.proofs.lemmas.Bool.{cond-false, cond-true, ne_eqb, leb-true, le-leb, and_from, eq-eqb, eqb-true}
use Rattle.std.proofs.lemmas.Bool.{eqb-false}
use Rattle.std.specs.Int.{w32, to_be_bytes}
use borrow.Rule.Slice.PartMut.{put_mid}
use Rattle.store_model.specs.Lists.{zeros, zero_filled, same_bytes}
use Rattle.store_model.specs.Paths.{Path, is_name, is_name_byte, is_path, is_part, is_place, is_root, name_bytes}
use Rattle.store_model.specs.Paths.{field_len, field, key}
use Rattle.store_model.proofs.PathsLemmas.{place_of_path}
use Rattle.path_keys.specs.Fields.{names_in, IsField, with_zeros}

-- the parts of a test that holds
pub first_true : (a b : Bool) → IsTrue (a && b) → IsTrue a
first_true true b h = refl
first_true false b h = h

pub second_true : (a b : Bool) → IsTrue (a && b) → IsTrue b
second_true true b h = h
second_true false b h = absurd cc

-- not empty, and with no byte 0
pub record IsWord (n : List ℕ) : Type 0 where
  pub some_byte : 1 ≤ length n
  pub bytes : AllByRecursion (λ c. 0 < c) n

abbrev pub AreWords : Path → Type 0
AreWords [] = Unit {0}
AreWords (n ∷ p) = IsWord n × AreWords p

bytes_above_zero : (n : List ℕ) → IsTrue (list_all (λ c. nat_le 1 c && nat_le c 0xff) n) → AllByRecursion (λ c. 0 < c) n
bytes_above_zero [] h = tt
bytes_above_zero (c ∷ n) h = (
  omega (
    arith,
    leb-true 1 c
        (first_true (nat_le 1 c) (nat_le c 0xff) (first_true (nat_le 1 c && nat_le c 0xff) _ h)),
  ),
  bytes_above_zero n
      (second_true (nat_le 1 c && nat_le c 0xff) _ h),
)

word_from_part : (n : List ℕ) → IsTrue (is_part n) → IsWord n
word_from_part n h = record {
  some_byte = leb-true 1 (length n) (first_true (nat_le 1 (length n)) _ h);
  bytes = bytes_above_zero n (second_true (nat_le 1 (length n)) _ h);
}

words_from_parts : (p : Path) → IsTrue (list_all is_part p) → AreWords p
words_from_parts [] h = tt
words_from_parts (n ∷ p) h =
    (word_from_part n (first_true (is_part n) _ h), words_from_parts p (second_true (is_part n) _ h))

pub words_of_place : (p : Path) → IsTrue (is_place p) → AreWords p
words_of_place p h = words_from_parts p (first_true (list_all is_part p) _ h)

pub words : (p : Path) → IsTrue (is_path p) → AreWords p
words p h = words_of_place p (place_of_path p h)

-- the first name, and the names behind it
pub name_bytes-cons : (n : List ℕ) (p : Path) → name_bytes (n ∷ p) ≡ n ++ 0 ∷ name_bytes p
unfolding name_bytes
name_bytes-cons n p = append_assoc n (0 ∷ []) (flat_map (λ m. m ++ 0 ∷ []) p)

pub name_bytes-append : (q p : Path) → name_bytes (q ++ p) ≡ name_bytes q ++ name_bytes p
unfolding name_bytes
name_bytes-append [] p = refl
name_bytes-append (n ∷ q) p = ap (λ t. (n ++ 0 ∷ []) ++ t) (name_bytes-append q p)
    ∙ sym (append_assoc (n ++ 0 ∷ []) (name_bytes q) (name_bytes p))

pub name_bytes-nil : name_bytes [] ≡ []
unfolding name_bytes
name_bytes-nil = refl

names_in-name : (n xs : List ℕ) → AllByRecursion (λ c. 0 < c) n → names_in (n ++ 0 ∷ xs) ≡ n ∷ names_in xs
unfolding names_in
names_in-name [] xs h = refl
names_in-name (c ∷ n) xs h =
    cond-false (eqb c 0) ([] ∷ names_in (n ++ 0 ∷ xs)) (onto_first c (names_in (n ++ 0 ∷ xs)))
    (ne_eqb c 0 (λ e. omega (arith, h.0, e)))
    ∙ ap (onto_first c) (names_in-name n xs h.1)

-- the names of a path are read back from its bytes
pub names_in-append : (q : Path) (xs : List ℕ) → AreWords q → names_in (name_bytes q ++ xs) ≡ q ++ names_in xs
names_in-append [] xs h = ap (λ t. names_in (t ++ xs)) name_bytes-nil
names_in-append (n ∷ q) xs h =
    ap (λ t. names_in (t ++ xs)) (name_bytes-cons n q) ∙ ap names_in (append_assoc n (0 ∷ name_bytes q) xs)
    ∙ names_in-name n (name_bytes q ++ xs) h.0.bytes ∙ ap (λ t. n ∷ t) (names_in-append q xs h.1)

names_in-nil : names_in [] ≡ []
unfolding names_in
names_in-nil = refl

pub names_in-name_bytes : (p : Path) → AreWords p → names_in (name_bytes p) ≡ p
names_in-name_bytes p h =
    ap names_in (sym (append-nil (name_bytes p))) ∙ names_in-append p [] h
    ∙ ap (λ t. p ++ t) names_in-nil ∙ append-nil p

-- names parted by a byte are, with a byte 0 for each of these and one behind, the bytes of the names
name_bytes-onto_first : (c : ℕ) (parts : Path) → 0 < length parts
    → name_bytes (onto_first c parts) ≡ c ∷ name_bytes parts
unfolding name_bytes
name_bytes-onto_first c [] h = absurd (omega arith)
name_bytes-onto_first c (part ∷ parts) h = refl

cond_step : (b : Bool) (c separator : ℕ) (xs : List ℕ)
    → name_bytes (slice_split (λ x. eqb x separator) xs) ≡ with_zeros separator xs ++ 0 ∷ []
    → name_bytes (cond b ([] ∷ slice_split (λ x. eqb x separator) xs)
    (onto_first c (slice_split (λ x. eqb x separator) xs))) ≡ cond b 0 c ∷ (with_zeros separator xs ++ 0 ∷ [])
cond_step true c separator xs h = name_bytes-cons [] (slice_split (λ x. eqb x separator) xs) ∙ ap (λ t. 0 ∷ t) h
cond_step false c separator xs h =
    name_bytes-onto_first c (slice_split (λ x. eqb x separator) xs)
    (omega (arith, length-slice_split (λ x. eqb x separator) xs)) ∙ ap (λ t. c ∷ t) h

pub name_bytes-split : (separator : ℕ) (xs : List ℕ)
    → name_bytes (slice_split (λ b. eqb b separator) xs) ≡ with_zeros separator xs ++ 0 ∷ []
name_bytes-split separator [] = name_bytes-cons [] [] ∙ ap (λ t. 0 ∷ t) name_bytes-nil
name_bytes-split separator (c ∷ xs) =
    cond_step (eqb c separator) c separator xs (name_bytes-split separator xs)

-- the parts between bytes 0 are the names
pub names_in-split : (xs : List ℕ) → names_in (xs ++ 0 ∷ []) ≡ slice_split (λ b. eqb b 0) xs
unfolding names_in
names_in-split [] = refl
names_in-split (c ∷ xs) = ap (λ t. cond (eqb c 0) ([] ∷ t) (onto_first c t)) (names_in-split xs)

-- the names in the field of a path
pub names_shown : (bytes : List ℕ) (len : ℕ) (p : Path) → IsField bytes len p → take len bytes ≡ name_bytes p
unfolding field zero_filled
names_shown bytes len p h =
    ap₂ take h.len_is h.bytes_are ∙ take_at (name_bytes p) (zeros (120 - length (name_bytes p)))
    (length (name_bytes p)) refl

-- what the field of a path shows
pub shown_by_field : (bytes : List ℕ) (len : ℕ) (p : Path) → IsField bytes len p → names_in (take len bytes) ≡ p
unfolding field zero_filled
shown_by_field bytes len p h =
    ap₂ (λ n xs. names_in (take n xs)) h.len_is h.bytes_are
    ∙ ap names_in (take_at (name_bytes p) (zeros (120 - length (name_bytes p))) (length (name_bytes p)) refl)
    ∙ names_in-name_bytes p (words p h.path)

pub is_field_of_shown : (bytes : List ℕ) (len : ℕ) (p : Path) → IsField bytes len p
    → IsField bytes len (names_in (take len bytes))
is_field_of_shown bytes len p h = subst (IsField bytes len) (sym (shown_by_field bytes len p h)) h

pub root_from_len : (p : Path) → eqb (length (name_bytes p)) 0 ≡ is_root p
root_from_len [] = ap (λ t. eqb (length t) 0) name_bytes-nil
root_from_len (n ∷ p) = ap (λ t. eqb (length t) 0) (name_bytes-cons n p)
    ∙ ne_eqb _ 0 (λ e. omega (arith, e, length-append n (0 ∷ name_bytes p)))

pub field_of_view : (bytes : List ℕ) (len : ℕ) (p : Path) → IsField bytes len (names_in (take len bytes))
    → names_in (take len bytes) ≡ p → IsField bytes len p
field_of_view bytes len p h e = subst (IsField bytes len) e h

pub root_test : (bytes : List ℕ) (len : ℕ) (p : Path) → IsField bytes len p → eqb len 0 ≡ is_root p
root_test bytes len p h = ap (λ n. eqb n 0) h.len_is ∙ root_from_len p

pub root_field : IsField (zeros 120) 0 []
unfolding field name_bytes zero_filled
root_field = record { path = refl; bytes_are = refl; len_is = refl }

-- the loop that writes a byte 0 over each separator, at a separator and past another byte
pub put_zeros_at : (separator : ℕ) (xs ys zs : List ℕ) (i : ℕ) → i < length xs → length ys ≡ length xs
    → ys ≡ with_zeros separator (take i xs) ++ drop i xs
    → get_or ys i 0 ≡ separator → zs ≡ set ys i 0 → zs ≡ with_zeros separator (take (i + 1) xs) ++ drop (i + 1) xs
put_zeros_at separator xs ys zs i h n e same is =
    is ∙ ap (λ v. set ys i v) (sym (cond-true (eqb (get_or ys i 0) separator) 0 (get_or ys i 0) (eq-eqb _ _ same)))
    ∙ map_over_more (λ b. cond (eqb b separator) 0 b) xs ys i (get_or ys i 0) h e
    (get_or_default ys i 0 (get_or ys i 0) (omega arith))

pub put_zeros_past : (separator : ℕ) (xs ys zs : List ℕ) (i : ℕ) → i < length xs → length ys ≡ length xs
    → ys ≡ with_zeros separator (take i xs) ++ drop i xs
    → (get_or ys i 0 ≡ separator → ⊥) → zs ≡ set ys i (get_or ys i 0)
    → zs ≡ with_zeros separator (take (i + 1) xs) ++ drop (i + 1) xs
put_zeros_past separator xs ys zs i h n e other is =
    is ∙ ap (λ v. set ys i v) (sym (cond-false (eqb (get_or ys i 0) separator) 0 (get_or ys i 0) (ne_eqb _ _ other)))
    ∙ map_over_more (λ b. cond (eqb b separator) 0 b) xs ys i (get_or ys i 0) h e
    (get_or_default ys i 0 (get_or ys i 0) (omega arith))

pub field_written : (separator : ℕ) (xs ys zs : List ℕ) → length xs < 120 → ys ≡ xs
    → zs ≡ with_zeros separator (take (length xs) (ys ++ drop (length xs) (zeros 120)))
    → zs ++ drop (length xs) (ys ++ drop (length xs) (zeros 120)) ≡ zero_filled 120 (with_zeros separator xs)
unfolding zero_filled
field_written separator xs ys zs h e is =
    ap₂ ◌++◌ (is ∙ ap (with_zeros separator) (take_at ys (drop (length xs) (zeros 120)) (length xs) (ap length e) ∙ e))
    (drop_at ys (drop (length xs) (zeros 120)) (length xs) (ap length e) ∙ drop-replicate (length xs) 120 0
    ∙ ap (λ n. zeros (120 - n)) (sym (length-map xs _)))

-- a byte 0 behind the bytes is one of the zeros that fill the field
pub filled_more : (xs : List ℕ) → length xs < 120 → zero_filled 120 (xs ++ 0 ∷ []) ≡ zero_filled 120 xs
unfolding zero_filled
filled_more xs h =
    let rest : 120 - length xs ≡ suc (120 - length (xs ++ 0 ∷ [])) = omega (arith, length-append xs (0 ∷ [])) in
    append_assoc xs (0 ∷ []) (zeros (120 - length (xs ++ 0 ∷ []))) ∙ ap (λ k. xs ++ zeros k) (sym rest)

-- names parted by a separator have the field that has a byte 0 for each separator
pub field-split : (separator : ℕ) (xs : List ℕ) → length xs < 120
    → field (slice_split (λ b. eqb b separator) xs) ≡ zero_filled 120 (with_zeros separator xs)
unfolding field
field-split separator xs h =
    ap (zero_filled 120) (name_bytes-split separator xs)
    ∙ filled_more (with_zeros separator xs) (let n : length (with_zeros separator xs) ≡ length xs =
    length-map xs _ in omega arith)

pub field_len-split : (separator : ℕ) (xs : List ℕ) → field_len (slice_split (λ b. eqb b separator) xs) ≡ length xs + 1
field_len-split separator xs =
    ap length (name_bytes-split separator xs) ∙ length-append (with_zeros separator xs) (0 ∷ [])
    ∙ ap (λ n. n + 1) (length-map xs _)

pub path-split : (separator : ℕ) (xs : List ℕ) → list_all is_name (slice_split (λ b. eqb b separator) xs) ≡ true
    → length xs < 120 → is_path (slice_split (λ b. eqb b separator) xs) ≡ true
path-split separator xs names h = and_from _ _ names (le-leb _ 120 (omega (arith, field_len-split separator xs, h)))

pub is_field-split : (bytes : List ℕ) (separator : ℕ) (xs : List ℕ) → bytes ≡ zero_filled 120 (with_zeros separator xs)
    → list_all is_name (slice_split (λ b. eqb b separator) xs) ≡ true → length xs < 120
    → IsField bytes (length xs + 1) (slice_split (λ b. eqb b separator) xs)
is_field-split bytes separator xs e names h =
    record {
      path = path-split separator xs names h;
      bytes_are = e ∙ sym (field-split separator xs h);
      len_is = sym (field_len-split separator xs);
    }

-- the block number is written behind a field
pub block_written : (bytes ys xs back : List ℕ) (block : ℕ) → bytes ≡ xs ++ back → length xs ≡ 120 → length back ≡ 4
    → ys ≡ to_be_bytes w32 block ++ drop 4 (take 4 (drop 120 bytes))
    → put_mid 120 4 bytes ys ≡ xs ++ to_be_bytes w32 block
block_written bytes ys xs back block parts long four written =
    let zs = to_be_bytes w32 block in
    let last : drop 120 bytes ≡ back = ap (drop 120) parts ∙ drop_at xs back 120 long in
    let none : drop 4 back ≡ [] = drop_all 4 back (omega arith) in
    let rest : drop 4 (take 4 (drop 120 bytes)) ≡ [] =
    ap (λ t. drop 4 (take 4 t)) last ∙ ap (drop 4) (take_all 4 back (omega arith)) ∙ none in
    let behind : drop 4 (drop 120 bytes) ≡ [] = ap (drop 4) last ∙ none in
    ap₂ ◌++◌ (ap (take 120) parts ∙ take_at xs back 120 long)
    (ap₂ ◌++◌ (written ∙ ap (λ t. zs ++ t) rest ∙ append-nil zs) behind ∙ append-nil zs)

-- a key is its field and the block number that is written behind it
pub number_written : (bytes ys xs back : List ℕ) (block : ℕ) (p : Path) → bytes ≡ xs ++ back → xs ≡ field p
    → length xs ≡ 120 → length back ≡ 4
    → ys ≡ to_be_bytes w32 block ++ drop 4 (take 4 (drop 120 bytes)) → put_mid 120 4 bytes ys ≡ key p block
unfolding key
number_written bytes ys xs back block p parts same long four written =
    block_written bytes ys xs back block parts long four written ∙ ap (λ t. t ++ to_be_bytes w32 block) same

-- what a key is written from
pub key_written : (xs bytes ys : List ℕ) (block : ℕ) → xs ≡ bytes → length bytes ≡ 120
    → ys ≡ to_be_bytes w32 block ++ drop 4 (take 4 (drop 120 (xs ++ 0 ∷ 0 ∷ 0 ∷ 0 ∷ [])))
    → put_mid 120 4 (xs ++ 0 ∷ 0 ∷ 0 ∷ 0 ∷ []) ys ≡ bytes ++ to_be_bytes w32 block
key_written xs bytes ys block e n written =
    block_written (xs ++ 0 ∷ 0 ∷ 0 ∷ 0 ∷ []) ys xs (0 ∷ 0 ∷ 0 ∷ 0 ∷ []) block refl (ap length e ∙ n) refl written
    ∙ ap (λ t. t ++ to_be_bytes w32 block) e

-- a field is the bytes of the names, and zeros
pub bytes_of_field : (bytes : List ℕ) (len : ℕ) (p : Path) → IsField bytes len p
    → bytes ≡ zero_filled 120 (name_bytes p)
unfolding field
bytes_of_field bytes len p h = h.bytes_are

-- the key of a path is its field and a block number
pub key_of_path : (bytes : List ℕ) (len block : ℕ) (p : Path) → IsField bytes len p
    → bytes ++ to_be_bytes w32 block ≡ key p block
unfolding key
key_of_path bytes len block p h = ap (λ t. t ++ to_be_bytes w32 block) h.bytes_are

-- what is written behind the bytes of a field, over the zeros that fill it
pub written_behind : (front xs back bytes copied : List ℕ) (start count : ℕ) → bytes ≡ zero_filled 120 front ++ back
    → copied ≡ xs → start ≡ length front → count ≡ length xs
    → length front + length xs ≤ 120 → put_mid start count bytes copied ≡ zero_filled 120 (front ++ xs) ++ back
unfolding zero_filled
written_behind front xs back bytes copied start count e same at many fits =
    let free = zeros (120 - length front) in
    let split : bytes ≡ front ++ (free ++ back) = e ∙ append_assoc front free back in
    let width : length free ≡ 120 - length front = length-replicate (120 - length front) 0 in
    let left : 120 - length front - count ≡ 120 - length (front ++ xs) = omega (arith, length-append front xs) in
    let rest : drop count (drop start bytes) ≡ zeros (120 - length (front ++ xs)) ++ back =
    ap (drop count) (ap (drop start) split ∙ drop_at front (free ++ back) start (sym at))
    ∙ drop-append-le count free back (omega arith)
    ∙ ap (λ t. t ++ back) (drop-replicate count (120 - length front) 0 ∙ ap zeros left) in
    ap₂ ◌++◌ (ap (take start) split ∙ take_at front (free ++ back) start (sym at)) (ap₂ ◌++◌ same rest)
    ∙ sym (append_assoc front xs (zeros (120 - length (front ++ xs)) ++ back))
    ∙ sym (append_assoc (front ++ xs) (zeros (120 - length (front ++ xs))) back)

-- the tests of a name, where all but the last hold
pub name_test : (n : List ℕ) (r : Bool) → eqb (length n) 0 ≡ false → list_all is_name_byte n ≡ true
    → not (same_bytes n (46 ∷ [])) ≡ true
    → r ≡ not (same_bytes n (46 ∷ 46 ∷ [])) → r ≡ is_name n
name_test n r some all dot last =
    last ∙ ap (λ b. b && not (same_bytes n (46 ∷ 46 ∷ [])))
    (sym (ap₂ ◌&&◌ (ap₂ ◌&&◌ (le-leb 1 (length n) (omega (arith, eqb-false _ _ some))) all) dot))

pub name_test_empty : (n : List ℕ) → eqb (length n) 0 ≡ true → is_name n ≡ false
name_test_empty [] h = refl
name_test_empty (c ∷ n) h = absurd (omega (arith, eqb-true _ _ h))
