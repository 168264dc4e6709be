-- Lemmas on the path and the block number of a key.
use Rattle.std.proofs.Common.{◌≡◌, ℕ, ◌+◌, ◌-◌, ◌<◌, ◌≤◌, ◌^◌, suc, zero, List, [], ◌∷◌, ◌++◌, length, take, drop}
use Rattle.std.proofs.Common.{get_or, replicate, refl, sym, ap, ap₂, ◌∙◌, subst, arith, true, false, eqb, append_assoc}
use Rattle.std.proofs.Common.{length-append, Some, ⊎_elim}
use Rattle.std.specs.List.{list_all, slice_split}
use Rattle.std.specs.Int.{w32, to_be_bytes, from_be_bytes}
use Rattle.byteorder.specs.Endian.{big_number}
use Rattle.std.proofs.lemmas.List.{take_at, drop_at, take-append-drop, length-take-le, length-drop, get_or-drop}
use Rattle.std.proofs.lemmas.List.{get_or_append_left, get_or-append_right, length-replicate}
use Rattle.std.proofs.lemmas.Nat.{from_be_bytes-to_be_bytes_4}
use Rattle.std.proofs.lemmas.Bool.{ne_eqb, eqb-true, cond_both, leb-true, cases_order}
use borrow.Rule.Slice.PartMut.{put_mid}
use Rattle.store_model.specs.Lists.{zeros, zero_filled}
use Rattle.store_model.specs.Paths.{Path, is_name, is_path, is_place, is_root, name_bytes, field_len, field, key}
use Rattle.store_model.specs.Paths.{parent, last_name}
use Rattle.store_model.proofs.PathsLemmas.{place_of_path, length-field}
use Rattle.path_keys.specs.Fields.{names_in, IsField, with_zeros}
use Rattle.path_keys.specs.Reading.{HasNoPath, IsOfField}
use Rattle.path_keys.proofs.NameBytes.{IsWord, AreWords, words, name_bytes-nil, number_written, names_in-name_bytes}
use Rattle.path_keys.proofs.NameBytes.{names_in-append, names_in-split, first_true, second_true, is_field-split}
use Rattle.path_keys.proofs.NameBytes.{root_test}
use Rattle.path_keys.proofs.PathBytes.{bytes_split, last_word, field_parts, len_parts, front_parts, word_above_zero}

get_or-zeros : (k i : ℕ) → get_or (zeros k) i 0 ≡ 0
get_or-zeros zero i = refl
get_or-zeros (suc k) zero = refl
get_or-zeros (suc k) (suc i) = get_or-zeros k i

-- the length without zeros at the end is that of what stands at the place and the bytes 0 between its parts
pub used_is : (bytes : List ℕ) (used : ℕ) (p : Path) → AreWords p → is_root p ≡ false → bytes ≡ field p
    → (0 < used → get_or bytes (used - 1) 0 ≡ 0 → ⊥)
    → ((i : ℕ) → used ≤ i → i < length bytes → get_or bytes i 0 ≡ 0)
    → used + 1 ≡ field_len p
used_is bytes used p parts other e front behind =
    let a = name_bytes (parent p) in
    let n = last_name p in
    let fill = zeros (suc (120 - field_len p)) in
    let len : field_len p ≡ length a + length n + 1 = len_parts p other in
    let word : IsWord n = last_word p parts other in
    let some : 1 ≤ length n = word.some_byte in
    let filled : bytes ≡ (a ++ n) ++ fill = e ∙ field_parts p other
    ∙ sym (append_assoc a n (0 ∷ zeros (120 - field_len p))) in
    let u = length a + length n in
    let ul : length (a ++ n) ≡ u = length-append a n in
    let long : u < length bytes =
    omega (
      arith,
      ap length filled,
      length-append (a ++ n) fill,
      length-replicate {A = ℕ}
          (suc (120 - field_len p)) 0,
    ) in
    ⊎_elim (λ same. omega arith)
    (λ o. ⊎_elim
    (λ below. absurd (word_above_zero n (length n - 1) word (omega arith)
    (sym (get_or-append_right a n (length a) (u - 1) 0 refl (omega arith) ∙ ap (λ i. get_or n i 0) (omega arith))
    ∙ sym (get_or_append_left (a ++ n) fill 0 (u - 1) (omega arith))
    ∙ sym (ap (λ t. get_or t (u - 1) 0) filled) ∙ behind (u - 1) (omega arith) (omega arith))))
    (λ above. absurd (front (omega arith)
    (ap (λ t. get_or t (used - 1) 0) filled ∙ get_or-append_right (a ++ n) fill u (used - 1) 0 ul (omega arith)
    ∙ get_or-zeros (suc (120 - field_len p)) (used - 1 - u))))
    o)
    (cases_order used u)

-- what stands at a place, in its field
take-field : (p : Path) → take (field_len p) (field p) ≡ name_bytes p
unfolding field zero_filled
take-field p = take_at (name_bytes p) (zeros (120 - field_len p)) (field_len p) refl

root_unused : (bytes : List ℕ) (used : ℕ) → bytes ≡ field [] → 0 < used → get_or bytes (used - 1) 0 ≡ 0
unfolding field name_bytes zero_filled
root_unused bytes used e some = ap (λ t. get_or t (used - 1) 0) e ∙ get_or-zeros 120 (used - 1)

pub none_used : (bytes : List ℕ) (used : ℕ) (p : Path) → AreWords p → bytes ≡ field p
    → (0 < used → get_or bytes (used - 1) 0 ≡ 0 → ⊥)
    → ((i : ℕ) → used ≤ i → i < length bytes → get_or bytes i 0 ≡ 0)
    → used ≡ 0 → name_bytes p ≡ []
none_used bytes used [] parts e front behind none = name_bytes-nil
none_used bytes used (n ∷ p) parts e front behind none =
    let word : IsWord (last_name (n ∷ p)) = last_word (n ∷ p) parts refl in
    absurd (omega (arith, used_is bytes used (n ∷ p) parts refl e front behind, len_parts (n ∷ p) refl, word.some_byte))

pub some_used : (bytes : List ℕ) (used : ℕ) (p : Path) → AreWords p → bytes ≡ field p
    → (0 < used → get_or bytes (used - 1) 0 ≡ 0 → ⊥)
    → ((i : ℕ) → used ≤ i → i < length bytes → get_or bytes i 0 ≡ 0)
    → 0 < used → (used + 1 ≡ field_len p) × (take (used + 1) bytes ≡ name_bytes p)
some_used bytes used [] parts e front behind some = absurd (front some (root_unused bytes used e some))
some_used bytes used (n ∷ p) parts e front behind some =
    let len = used_is bytes used (n ∷ p) parts refl e front behind in
    (len, ap₂ take len e ∙ take-field (n ∷ p))

-- a field that is too full has no path
pub full_has_none : (bytes : List ℕ) (used : ℕ)
    → (0 < used → get_or bytes (used - 1) 0 ≡ 0 → ⊥)
    → ((i : ℕ) → used ≤ i → i < length bytes → get_or bytes i 0 ≡ 0)
    → 120 ≤ used → HasNoPath bytes
full_has_none bytes used front behind full p h other e =
    let fits : field_len p ≤ 120 = leb-true _ _ (second_true (list_all is_name p) _ h) in
    let len : used + 1 ≡ field_len p = used_is bytes used p (words p h) other e front behind in
    omega arith

-- the names of a path are those between the bytes 0
pub split_names : (p : Path) → AreWords p → is_root p ≡ false
    → slice_split (λ b. eqb b 0) (name_bytes (parent p) ++ last_name p) ≡ p
split_names p parts other =
    let a = name_bytes (parent p) in
    let n = last_name p in
    sym (names_in-split (a ++ n)) ∙ ap names_in (append_assoc a n (0 ∷ []) ∙ sym (bytes_split p other))
    ∙ names_in-name_bytes p parts

pub names_between : (bytes : List ℕ) (used : ℕ) (p : Path) → IsField bytes (used + 1) p → is_root p ≡ false
    → slice_split (λ b. eqb b 0) (take used bytes) ≡ p
names_between bytes used p h other =
    ap (slice_split (λ b. eqb b 0)) (ap (take used) h.bytes_are ∙ front_parts p used other h.len_is)
    ∙ split_names p (words p h.path) other

pub other_has_none : (bytes : List ℕ) (used : ℕ)
    → (0 < used → get_or bytes (used - 1) 0 ≡ 0 → ⊥)
    → ((i : ℕ) → used ≤ i → i < length bytes → get_or bytes i 0 ≡ 0)
    → list_all is_name (slice_split (λ b. eqb b 0) (take used bytes)) ≡ false → HasNoPath bytes
other_has_none bytes used front behind bad p h other e =
    let len : used + 1 ≡ field_len p = used_is bytes used p (words p h) other e front behind in
    let f : IsField bytes (used + 1) p = record { path = h; bytes_are = e; len_is = len } in
    let names : list_all is_name (slice_split (λ b. eqb b 0) (take used bytes)) ≡ true =
    ap (list_all is_name) (names_between bytes used p f other) ∙ first_true _ _ h in
    cc

-- a list of zeros
pub zeros_from_reads : (ys : List ℕ) → ((i : ℕ) → i < length ys → get_or ys i 0 ≡ 0) → ys ≡ zeros (length ys)
zeros_from_reads [] h = refl
zeros_from_reads (y ∷ ys) h = ap₂ ◌∷◌ (h 0 (omega arith)) (zeros_from_reads ys (λ i l. h (suc i) (omega arith)))

pub with_zeros_for_zeros : (xs : List ℕ) → with_zeros 0 xs ≡ xs
with_zeros_for_zeros [] = refl
with_zeros_for_zeros (x ∷ xs) = ap₂ ◌∷◌ (cond_both (eqb x 0) 0 x (λ v. v ≡ x) (λ e. sym (eqb-true x 0 e)) (λ _. refl))
    (with_zeros_for_zeros xs)

-- a field whose parts between bytes 0 are names
pub field_found : (bytes copy : List ℕ) (used : ℕ) → copy ≡ bytes → length bytes ≡ 120
    → ((i : ℕ) → used ≤ i → i < length bytes → get_or bytes i 0 ≡ 0)
    → used < 120 → list_all is_name (slice_split (λ b. eqb b 0) (take used bytes)) ≡ true
    → IsField copy (used + 1) (slice_split (λ b. eqb b 0) (take used bytes))
unfolding zero_filled
field_found bytes copy used e long behind short names =
    let xs = take used bytes in
    let n : length xs ≡ used = length-take-le used bytes (omega arith) in
    let rest : drop used bytes ≡ zeros (120 - used) =
    zeros_from_reads (drop used bytes) (λ i l. get_or-drop used bytes i 0
    ∙ behind (used + i) (omega arith) (omega (arith, l, length-drop used bytes)))
    ∙ ap zeros (length-drop used bytes ∙ ap (λ k. k - used) long) in
    let filled : copy ≡ zero_filled 120 (with_zeros 0 xs) =
    e ∙ sym (take-append-drop used bytes) ∙ ap (λ t. xs ++ t) (rest ∙ ap (λ k. zeros (120 - k)) (sym n))
    ∙ ap (λ t. t ++ zeros (120 - length t)) (sym (with_zeros_for_zeros xs)) in
    subst (λ k. IsField copy (k + 1) (slice_split (λ b. eqb b 0) xs)) n
    (is_field-split copy 0 xs filled names (omega arith))

pub path_found : (bytes copy : List ℕ) (used : ℕ) (p : Path) → copy ≡ bytes → IsField copy (used + 1) p
    → IsOfField bytes (Some p)
path_found bytes copy used p e h =
    (h.path, sym (root_test copy (used + 1) p h) ∙ ne_eqb (used + 1) 0 (λ z. omega (arith, z)), sym e ∙ h.bytes_are)

-- a field is that of one path
names_in-zeros : (k : ℕ) → names_in (zeros k) ≡ replicate k []
unfolding names_in
names_in-zeros zero = refl
names_in-zeros (suc k) = ap (λ t. [] ∷ t) (names_in-zeros k)

same_words : (p q : Path) (k j : ℕ) → AreWords p → AreWords q → p ++ replicate k [] ≡ q ++ replicate j [] → p ≡ q
same_words [] [] k j hp hq e = refl
same_words [] (m ∷ q) zero j hp hq e = cc
same_words [] (m ∷ q) (suc k) j hp hq e = let same : [] ≡ m = cc in let some : 1 ≤ length m = (hq.0).some_byte
    in absurd (omega (arith, ap length same))
same_words (n ∷ p) [] k zero hp hq e = cc
same_words (n ∷ p) [] k (suc j) hp hq e = let same : n ≡ [] = cc in let some : 1 ≤ length n = (hp.0).some_byte
    in absurd (omega (arith, ap length same))
same_words (n ∷ p) (m ∷ q) k j hp hq e =
    let first : n ≡ m = cc in
    let rest : p ++ replicate k [] ≡ q ++ replicate j [] = cc in
    ap₂ ◌∷◌ first (same_words p q k j hp.1 hq.1 rest)

pub field_names : (p : Path) → is_path p ≡ true → names_in (field p) ≡ p ++ replicate (120 - field_len p) []
unfolding field zero_filled
field_names p h = names_in-append p (zeros (120 - field_len p)) (words p h)
    ∙ ap (λ t. p ++ t) (names_in-zeros (120 - field_len p))

pub same_path_from_field : (p q : Path) → is_path p ≡ true → is_path q ≡ true → field p ≡ field q → p ≡ q
same_path_from_field p q hp hq e =
    same_words p q (120 - field_len p) (120 - field_len q) (words p hp) (words q hq)
    (sym (field_names p hp) ∙ ap names_in e ∙ field_names q hq)

pub take-key : (p : Path) (block : ℕ) → is_place p ≡ true → take 120 (key p block) ≡ field p
unfolding key
take-key p block h = take_at (field p) (to_be_bytes w32 block) 120 (length-field p h)

pub drop-key : (p : Path) (block : ℕ) → is_place p ≡ true → drop 120 (key p block) ≡ to_be_bytes w32 block
unfolding key
drop-key p block h = drop_at (field p) (to_be_bytes w32 block) 120 (length-field p h)

-- the number that four bytes spell
pub number_of_four : (bs : List ℕ) → length bs ≡ 4 → big_number 4 bs ≡ from_be_bytes w32 bs
number_of_four (a ∷ b ∷ c ∷ d ∷ []) h = omega arith
number_of_four [] h = absurd (omega arith)
number_of_four (a ∷ []) h = absurd (omega arith)
number_of_four (a ∷ b ∷ []) h = absurd (omega arith)
number_of_four (a ∷ b ∷ c ∷ []) h = absurd (omega arith)
number_of_four (a ∷ b ∷ c ∷ d ∷ e ∷ bs) h = absurd (omega arith)

-- a key is spelled again by its path and its block number
pub key_again : (bytes front back : List ℕ) (p : Path) (n : ℕ) → bytes ≡ front ++ back → front ≡ field p
    → to_be_bytes w32 n ≡ back → key p n ≡ bytes
unfolding key
key_again bytes front back p n e same read = ap₂ ◌++◌ (sym same) read ∙ sym e

-- the key of another block
pub block_changed : (bytes ys : List ℕ) (p : Path) (block other : ℕ) → is_place p ≡ true → bytes ≡ key p block
    → ys ≡ to_be_bytes w32 other ++ drop 4 (take 4 (drop 120 bytes)) → put_mid 120 4 bytes ys ≡ key p other
unfolding key
block_changed bytes ys p block other h e written =
    number_written bytes ys (field p) (to_be_bytes w32 block) other p e refl (length-field p h) refl written

-- the field and the block number of the key of a place
pub field_read : (bytes front back : List ℕ) (q : Path) (block : ℕ) → bytes ≡ front ++ back → length front ≡ 120
    → is_place q ≡ true → bytes ≡ key q block → front ≡ field q
field_read bytes front back q block parts long hq e =
    sym (ap (take 120) parts ∙ take_at front back 120 long) ∙ ap (take 120) e ∙ take-key q block hq

pub block_read : (bytes front back : List ℕ) (q : Path) (n block : ℕ) → bytes ≡ front ++ back → length front ≡ 120
    → to_be_bytes w32 n ≡ back
    → is_place q ≡ true → n < 2 ^ 32 → block < 2 ^ 32 → bytes ≡ key q block → n ≡ block
block_read bytes front back q n block parts long read hq fits small e =
    let behind : back ≡ to_be_bytes w32 block = sym (ap (drop 120) parts ∙ drop_at front back 120 long)
    ∙ ap (drop 120) e ∙ drop-key q block hq in
    sym (from_be_bytes-to_be_bytes_4 n fits) ∙ ap (from_be_bytes w32) (read ∙ behind)
    ∙ from_be_bytes-to_be_bytes_4 block small

-- and by no other
pub key_read : (bytes front back : List ℕ) (p q : Path) (n block : ℕ) → bytes ≡ front ++ back → length front ≡ 120
    → front ≡ field p → to_be_bytes w32 n ≡ back
    → is_path p ≡ true → is_path q ≡ true → n < 2 ^ 32 → block < 2 ^ 32 → bytes ≡ key q block → (p ≡ q) × (n ≡ block)
key_read bytes front back p q n block parts long same read hp hq fits small e = (
  same_path_from_field p q hp hq (sym same ∙ field_read bytes front back q block parts long (place_of_path q hq) e),
  block_read bytes front back q n block parts long read (place_of_path q hq) fits small e,
)
