-- Lemmas on the parent and the last name of a path, in its bytes.
use Rattle.std.proofs.Common.{◌≡◌, ℕ, ◌+◌, ◌-◌, ◌<◌, ◌≤◌, List, [], ◌∷◌, ◌++◌, length, take, drop, get_or, refl, sym}
use Rattle.std.proofs.Common.{ap, ap₂, ◌∙◌, subst, arith, Bool, true, false, append_assoc, append-nil, length-append}
use Rattle.std.proofs.Common.{⊎_elim}
use Rattle.std.specs.List.{list_all, concat}
use Rattle.std.proofs.lemmas.List.{take_at, drop_at, take-append-drop, drop_more, drop_all, get_or_at}
use Rattle.std.proofs.lemmas.List.{get_or_append_left, get_or-append_right, drop-replicate}
use Rattle.std.proofs.lemmas.List.Elements.{All-from_recursion}
use Rattle.std.proofs.lemmas.Bool.{and_from, le-leb, leb-true, cases_order}
use borrow.Rule.Slice.PartMut.{mid_of}
use Rattle.store_model.specs.Lists.{zeros, zero_filled}
use Rattle.store_model.specs.Paths.{Path, is_name, is_path, is_root, name_bytes, field_len, field, parent, last_name}
use Rattle.path_keys.specs.Fields.{IsField}
use Rattle.path_keys.proofs.NameBytes.{IsWord, AreWords, words, name_bytes-cons, name_bytes-append, name_bytes-nil}
use Rattle.path_keys.proofs.NameBytes.{first_true, second_true}

-- a path other than the root is its parent and its last name
root_length : (p : Path) → is_root p ≡ false → 1 ≤ length p
root_length [] h = cc
root_length (n ∷ p) h = omega arith

pub last_split : (p : Path) → is_root p ≡ false → p ≡ parent p ++ last_name p ∷ []
unfolding parent last_name
last_split p h =
    let some : 1 ≤ length p = root_length p h in
    let i = length p - 1 in
    let none : drop (i + 1) p ≡ [] = drop_all (i + 1) p (omega arith) in
    let last : drop i p ≡ get_or p i [] ∷ [] = drop_more p i [] (omega arith) ∙ ap (λ t. get_or p i [] ∷ t) none in
    let name : concat (drop i p) ≡ get_or p i [] = ap concat last ∙ append-nil (get_or p i []) in
    sym (take-append-drop i p) ∙ ap (λ t. take i p ++ t) (last ∙ ap (λ n. n ∷ []) (sym name))

pub bytes_split : (p : Path) → is_root p ≡ false → name_bytes p ≡ name_bytes (parent p) ++ (last_name p ++ 0 ∷ [])
bytes_split p h =
    ap name_bytes (last_split p h) ∙ name_bytes-append (parent p) (last_name p ∷ [])
    ∙ ap (λ t. name_bytes (parent p) ++ t)
    (name_bytes-cons (last_name p) [] ∙ ap (λ t. last_name p ++ 0 ∷ t) name_bytes-nil)

words_of_parts : (q r : Path) → AreWords (q ++ r) → AreWords q × AreWords r
words_of_parts [] r h = (tt, h)
words_of_parts (n ∷ q) r h = let rest = words_of_parts q r h.1 in ((h.0, rest.0), rest.1)

pub last_word : (p : Path) → AreWords p → is_root p ≡ false → IsWord (last_name p)
last_word p h other = (words_of_parts (parent p) (last_name p ∷ []) (subst AreWords (last_split p other) h)).1.0

-- what holds of the parts of a path, of those behind others and of both
pub all_behind : (test : List ℕ → Bool) (q r : Path) → list_all test (q ++ r) ≡ true → list_all test r ≡ true
all_behind test [] r h = h
all_behind test (n ∷ q) r h = all_behind test q r (second_true (test n) _ h)

pub all_of_both : (test : List ℕ → Bool) (q r : Path) → list_all test q ≡ true → list_all test r ≡ true
    → list_all test (q ++ r) ≡ true
all_of_both test [] r hq hr = hr
all_of_both test (n ∷ q) r hq hr = and_from (test n) _ (first_true (test n) _ hq)
    (all_of_both test q r (second_true (test n) _ hq) hr)

names_of_front : (q r : Path) → list_all is_name (q ++ r) ≡ true → list_all is_name q ≡ true
names_of_front [] r h = refl
names_of_front (n ∷ q) r h = and_from _ _ (first_true _ _ h) (names_of_front q r (second_true _ _ h))

pub parent_is_path : (p : Path) → is_path p ≡ true → is_root p ≡ false → is_path (parent p) ≡ true
parent_is_path p h other =
    let fits : field_len p ≤ 120 = leb-true _ _ (second_true (list_all is_name p) _ h) in
    let len : field_len p ≡ length (name_bytes (parent p) ++ (last_name p ++ 0 ∷ [])) =
    ap length (bytes_split p other) in
    and_from _ _ (names_of_front (parent p) (last_name p ∷ [])
    (subst (λ q. list_all is_name q ≡ true) (last_split p other) (first_true _ _ h)))
    (le-leb _ 120 (omega (arith, length-append (name_bytes (parent p)) (last_name p ++ 0 ∷ []))))

-- the bytes of names that are not none end with a byte 0
ends_in_zero : (q : Path) → 0 < length (name_bytes q) → get_or (name_bytes q) (length (name_bytes q) - 1) 0 ≡ 0
ends_in_zero [] h = absurd (omega (arith, ap length name_bytes-nil))
ends_in_zero (n ∷ q) h =
    let front = name_bytes (parent (n ∷ q)) ++ last_name (n ∷ q) in
    let e : name_bytes (n ∷ q) ≡ front ++ 0 ∷ [] =
    bytes_split (n ∷ q) refl ∙ sym (append_assoc (name_bytes (parent (n ∷ q))) (last_name (n ∷ q)) (0 ∷ [])) in
    ap (λ t. get_or t (length t - 1) 0) e
    ∙ get_or_at front 0 [] 0 (length (front ++ 0 ∷ []) - 1) (omega (arith, length-append front (0 ∷ [])))

pub word_above_zero : (n : List ℕ) (i : ℕ) → IsWord n → i < length n → get_or n i 0 ≡ 0 → ⊥
word_above_zero n i h l e = let above : 0 < get_or n i 0 =
    All-from_recursion (λ c. 0 < c) n h.bytes i 0 l in omega arith

-- behind the last byte 0 the last name begins
pub name_start_is : (p : Path) (r : ℕ) → AreWords p → is_root p ≡ false
    → (0 < r → get_or (name_bytes (parent p) ++ last_name p) (r - 1) 0 ≡ 0)
    → r ≤ length (name_bytes (parent p) ++ last_name p)
    → ((i : ℕ) → r ≤ i → i < length (name_bytes (parent p) ++ last_name p)
    → get_or (name_bytes (parent p) ++ last_name p) i 0 ≡ 0 → ⊥)
    → r ≡ length (name_bytes (parent p))
name_start_is p r h other front within behind =
    let a = name_bytes (parent p) in
    let n = last_name p in
    let len : length (a ++ n) ≡ length a + length n = length-append a n in
    let word : IsWord n = last_word p h other in
    ⊎_elim (λ e. e)
    (λ o. ⊎_elim
    (λ below. absurd (behind (length a - 1) (omega arith) (omega arith)
    (get_or_append_left a n 0 (length a - 1) (omega arith) ∙ ends_in_zero (parent p) (omega arith))))
    (λ above. absurd (word_above_zero n (r - 1 - length a) word (omega arith)
    (sym (get_or-append_right a n (length a) (r - 1) 0 refl (omega arith)) ∙ front (omega arith))))
    o)
    (cases_order r (length a))

-- the field of what is not the root
pub field_parts : (p : Path) → is_root p ≡ false
    → field p ≡ name_bytes (parent p) ++ (last_name p ++ 0 ∷ zeros (120 - field_len p))
unfolding field zero_filled
field_parts p other =
    let fill = zeros (120 - field_len p) in
    ap (λ t. t ++ fill) (bytes_split p other)
    ∙ append_assoc (name_bytes (parent p)) (last_name p ++ 0 ∷ []) fill
    ∙ ap (λ t. name_bytes (parent p) ++ t) (append_assoc (last_name p) (0 ∷ []) fill)

pub len_parts : (p : Path) → is_root p ≡ false → field_len p ≡ length (name_bytes (parent p)) + length (last_name p) + 1
len_parts p other =
    ap length (bytes_split p other)
    ∙ omega (
      arith,
      length-append (name_bytes (parent p))
          (last_name p ++ 0 ∷ []),
      length-append (last_name p) (0 ∷ []),
    )

pub field_split : (bytes : List ℕ) (len : ℕ) (p : Path) → IsField bytes len p → is_root p ≡ false
    → bytes ≡ name_bytes (parent p) ++ (last_name p ++ 0 ∷ zeros (120 - len))
field_split bytes len p h other =
    h.bytes_are ∙ field_parts p other
    ∙ ap (λ n. name_bytes (parent p) ++ (last_name p ++ 0 ∷ zeros (120 - n))) (sym h.len_is)

pub len_split : (bytes : List ℕ) (len : ℕ) (p : Path) → IsField bytes len p → is_root p ≡ false
    → len ≡ length (name_bytes (parent p)) + length (last_name p) + 1
len_split bytes len p h other = h.len_is ∙ len_parts p other

pub len_above_zero : (bytes : List ℕ) (len : ℕ) (p : Path) → IsField bytes len p → is_root p ≡ false → 1 ≤ len
len_above_zero bytes len p h other = omega (arith, len_split bytes len p h other)

-- the bytes in front of the last byte 0 of the names
pub front_parts : (p : Path) (count : ℕ) → is_root p ≡ false → count + 1 ≡ field_len p
    → take count (field p) ≡ name_bytes (parent p) ++ last_name p
front_parts p count other e =
    let a = name_bytes (parent p) in
    let n = last_name p in
    ap (take count) (field_parts p other ∙ sym (append_assoc a n (0 ∷ zeros (120 - field_len p))))
    ∙ take_at (a ++ n) (0 ∷ zeros (120 - field_len p)) count (omega (arith, len_parts p other, length-append a n))

pub front_is : (bytes : List ℕ) (len : ℕ) (p : Path) → IsField bytes len p → is_root p ≡ false
    → take (len - 1) bytes ≡ name_bytes (parent p) ++ last_name p
front_is bytes len p h other = ap (take (len - 1)) h.bytes_are
    ∙ front_parts p (len - 1) other (omega (arith, len_split bytes len p h other, h.len_is))

-- where the last name begins, and what it is
pub start_found : (bytes : List ℕ) (len : ℕ) (p : Path) (r : ℕ) → IsField bytes len p → is_root p ≡ false
    → (0 < r → get_or (take (len - 1) bytes) (r - 1) 0 ≡ 0)
    → r ≤ length (take (len - 1) bytes)
    → ((i : ℕ) → r ≤ i → i < length (take (len - 1) bytes) → get_or (take (len - 1) bytes) i 0 ≡ 0 → ⊥)
    → r ≡ field_len (parent p)
start_found bytes len p r h other front within behind =
    let e : take (len - 1) bytes ≡ name_bytes (parent p) ++ last_name p = front_is bytes len p h other in
    name_start_is p r (words p h.path) other
    (subst (λ t. 0 < r → get_or t (r - 1) 0 ≡ 0) e front)
    (subst (λ t. r ≤ length t) e within)
    (subst (λ t. (i : ℕ) → r ≤ i → i < length t → get_or t i 0 ≡ 0 → ⊥) e behind)

pub start_within : (bytes : List ℕ) (len : ℕ) (p : Path) → IsField bytes len p → is_root p ≡ false
    → field_len (parent p) < field_len p
start_within bytes len p h other = omega (arith, len_split bytes len p h other, h.len_is)

pub name_read : (bytes : List ℕ) (len : ℕ) (p : Path) (r : ℕ) → IsField bytes len p → is_root p ≡ false
    → r ≡ field_len (parent p)
    → mid_of r (len - 1 - r) bytes ≡ last_name p
name_read bytes len p r h other start =
    let a = name_bytes (parent p) in
    let n = last_name p in
    let behind = n ++ 0 ∷ zeros (120 - len) in
    ap (λ t. take (len - 1 - r) t) (ap (drop r) (field_split bytes len p h other) ∙ drop_at a behind r (sym start))
    ∙ take_at n (0 ∷ zeros (120 - len)) (len - 1 - r) (omega (arith, len_split bytes len p h other))

pub parent_field : (bytes : List ℕ) (len : ℕ) (p : Path) (r : ℕ) (xs : List ℕ) → IsField bytes len p → is_root p ≡ false
    → r ≡ field_len (parent p)
    → xs ≡ take r bytes → IsField (xs ++ drop r (zeros 120)) r (parent p)
unfolding field zero_filled
parent_field bytes len p r xs h other start e =
    let a = name_bytes (parent p) in
    record {
      path = parent_is_path p h.path other;
      bytes_are = ap₂ ◌++◌ (e ∙ ap (take r) (field_split bytes len p h other)
          ∙ take_at a (last_name p ++ 0 ∷ zeros (120 - len)) r (sym start))
          (drop-replicate r 120 0 ∙ ap (λ n. zeros (120 - n)) start);
      len_is = start;
    }
