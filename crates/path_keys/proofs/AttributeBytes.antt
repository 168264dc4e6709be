-- Lemmas on the bytes of attributes' names and keys.
use Rattle.std.proofs.Common.{◌≡◌, ℕ, ◌+◌, ◌-◌, ◌<◌, ◌≤◌, ◌^◌, List, [], ◌∷◌, ◌++◌, length, take, drop, get_or, refl}
use Rattle.std.proofs.Common.{sym, ap, ap₂, ◌∙◌, subst, arith, true, false, eqb, Option, Some, None, Err, IfNone}
use Rattle.std.proofs.Common.{append_assoc, append-nil, length-append}
use Rattle.std.specs.List.{list_all, slice_split, concat}
use Rattle.std.specs.Int.{w32, to_be_bytes}
use Rattle.std.proofs.lemmas.List.{take_at, take-append-le, drop_at, drop_more, drop-drop, drop-replicate}
use Rattle.std.proofs.lemmas.List.{take-append-drop, get_or_at, get_or-take, get_or-drop, length-drop, length-take-le}
use Rattle.std.proofs.lemmas.Bool.{le-leb, lt-leb, leb-true, ne_eqb}
use Rattle.store_model.specs.Lists.{zeros, zero_filled}
use Rattle.store_model.specs.Paths.{Path, Name, is_name, is_path, is_part, is_place, is_root, is_attribute_name}
use Rattle.store_model.specs.Paths.{attribute_place, fits_attribute, attribute_key, name_bytes, field_len, field, key}
use Rattle.store_model.specs.Paths.{parent, last_name}
use Rattle.store_model.proofs.PathsLemmas.{place_of_attribute}
use Rattle.path_keys.specs.Fields.{IsNameField}
use Rattle.path_keys.specs.Reading.{IsOfNames}
use Rattle.path_keys.specs.declared.paths.PathFault.{PathFault}
use Rattle.path_keys.specs.declared.paths.PathFault.TheVariants.{Syntax, TooLong}
use Rattle.path_keys.proofs.NameBytes.{AreWords, words, words_of_place, name_bytes-cons, name_bytes-append}
use Rattle.path_keys.proofs.NameBytes.{name_bytes-nil, name_bytes-split, field_len-split, root_from_len, filled_more}
use Rattle.path_keys.proofs.NameBytes.{first_true, second_true}
use Rattle.path_keys.proofs.PathBytes.{bytes_split, field_parts, len_parts, front_parts, name_start_is}
use Rattle.path_keys.proofs.KeyBytes.{used_is, split_names, zeros_from_reads, with_zeros_for_zeros, field_read}
use Rattle.path_keys.proofs.KeyBytes.{block_read}

-- ---- names

-- the bytes in which a name is held
pub name_held : (text copied : List ℕ) → is_attribute_name text ≡ true → copied ≡ text
    → IsNameField (copied ++ drop (length text) (zeros 32)) (length text) text
unfolding zero_filled
name_held text copied valid e = record {
  valid = valid;
  bytes_are = ap₂ ◌++◌ e (drop-replicate (length text) 32 0);
  len_is = refl;
}

-- what they show
pub name_shown : (bytes : List ℕ) (len : ℕ) (name : Name) → IsNameField bytes len name → take len bytes ≡ name
unfolding zero_filled
name_shown bytes len name h = ap₂ take h.len_is h.bytes_are ∙ take_at name (zeros (32 - length name)) (length name) refl

pub held_as_shown : (bytes : List ℕ) (len : ℕ) (name : Name) → IsNameField bytes len name
    → IsNameField bytes len (take len bytes)
held_as_shown bytes len name h = subst (IsNameField bytes len) (sym (name_shown bytes len name h)) h

-- ---- where an attribute stands

place_below_root : (p : Path) (n : Name) → is_root (p ++ n ∷ []) ≡ false
place_below_root [] n = refl
place_below_root (m ∷ p) n = refl

parent_of_last : (p : Path) (n : Name) → parent (p ++ n ∷ []) ≡ p
unfolding parent
parent_of_last p n = take_at p (n ∷ []) (length (p ++ n ∷ []) - 1) (omega (arith, length-append p (n ∷ [])))

name_of_last : (p : Path) (n : Name) → last_name (p ++ n ∷ []) ≡ n
unfolding last_name
name_of_last p n = ap concat (drop_at p (n ∷ []) (length (p ++ n ∷ []) - 1) (omega (arith, length-append p (n ∷ []))))
    ∙ append-nil n

pub attribute_bytes : (p : Path) (a : Name) → name_bytes (attribute_place p a) ≡ (name_bytes p ++ 1 ∷ a) ++ 0 ∷ []
attribute_bytes p a =
    name_bytes-append p ((1 ∷ a) ∷ []) ∙ ap (λ t. name_bytes p ++ t)
    (name_bytes-cons (1 ∷ a) [] ∙ ap (λ t. (1 ∷ a) ++ 0 ∷ t) name_bytes-nil)
    ∙ sym (append_assoc (name_bytes p) (1 ∷ a) (0 ∷ []))

pub attribute_len : (p : Path) (a : Name) → field_len (attribute_place p a) ≡ field_len p + length a + 2
attribute_len p a = ap length (attribute_bytes p a)
    ∙ omega (arith, length-append (name_bytes p ++ 1 ∷ a) (0 ∷ []), length-append (name_bytes p) (1 ∷ a))

-- ---- the key of an attribute

pub attribute_fits : (p : Path) (a : Name) → field_len p + length a + 2 ≤ 120 → fits_attribute p a ≡ true
attribute_fits p a h = le-leb _ 120 (omega (arith, attribute_len p a))

pub attribute_too_long : (p : Path) (a : Name) → 120 < field_len p + length a + 2 → fits_attribute p a ≡ false
attribute_too_long p a h = lt-leb _ 120 (omega (arith, attribute_len p a))

pub attribute_written : (p : Path) (a : Name) (bytes : List ℕ)
    → bytes ≡ zero_filled 120 ((name_bytes p ++ 1 ∷ []) ++ a) ++ to_be_bytes w32 0 → field_len p + length a + 2 ≤ 120
    → bytes ≡ attribute_key p a
unfolding key field
attribute_written p a bytes is fits =
    is ∙ ap (λ t. t ++ to_be_bytes w32 0)
    (ap (zero_filled 120) (append_assoc (name_bytes p) (1 ∷ []) a)
    ∙ sym (filled_more (name_bytes p ++ 1 ∷ a) (omega (arith, length-append (name_bytes p) (1 ∷ a))))
    ∙ ap (zero_filled 120) (sym (attribute_bytes p a)))

-- ---- an attribute that is read from its key

-- where the parts of the key of an attribute are found
pub record IsMarked (front : List ℕ) (block end start : ℕ) (p : Path) (a : Name) : Type 0 where
  pub no_block : block ≡ 0
  pub room : end < 120
  pub begins : 1 ≤ start
  pub mark : get_or front start 0 ≡ 1
  pub names : slice_split (λ b. eqb b 0) (take (start - 1) front) ≡ p
  pub name : take (end - (start + 1)) (drop (start + 1) front) ≡ a

names_in_front : (front : List ℕ) (p : Path) (rest : List ℕ) (count : ℕ) → AreWords p → is_root p ≡ false
    → front ≡ name_bytes p ++ rest → count + 1 ≡ field_len p
    → slice_split (λ b. eqb b 0) (take count front) ≡ p
names_in_front front p rest count parts other e len =
    let ahead = name_bytes (parent p) ++ last_name p in
    let split : name_bytes p ≡ ahead ++ 0 ∷ [] =
    bytes_split p other ∙ sym (append_assoc (name_bytes (parent p)) (last_name p) (0 ∷ [])) in
    ap (slice_split (λ b. eqb b 0))
    (ap (take count) e ∙ take-append-le count (name_bytes p) rest (omega arith)
    ∙ ap (take count) split ∙ take_at ahead (0 ∷ []) count
    (omega (arith, ap length split, length-append ahead (0 ∷ []))))
    ∙ split_names p parts other

-- the lengths of what stands in the field of an attribute
record HasLengths (front : List ℕ) (end start : ℕ) (p : Path) (a : Name) : Type 0 where
  ends : end ≡ field_len p + length a + 1
  begins : start ≡ field_len p

lengths_found : (front : List ℕ) (end start : ℕ) (p : Path) (a : Name) → is_place (attribute_place p a) ≡ true
    → front ≡ field (attribute_place p a)
    → (0 < end → get_or front (end - 1) 0 ≡ 0 → ⊥)
    → ((i : ℕ) → end ≤ i → i < length front → get_or front i 0 ≡ 0)
    → (0 < start → get_or (take end front) (start - 1) 0 ≡ 0)
    → start ≤ length (take end front)
    → ((i : ℕ) → start ≤ i → i < length (take end front) → get_or (take end front) i 0 ≡ 0 → ⊥)
    → HasLengths front end start p a
lengths_found front end start p a h same last behind before within after =
    let place = attribute_place p a in
    let parts = words_of_place place h in
    let other = place_below_root p (1 ∷ a) in
    let used : end + 1 ≡ field_len place = used_is front end place parts other same last behind in
    let e : take end front ≡ name_bytes (parent place) ++ last_name place =
    ap (take end) same ∙ front_parts place end other used in
    record {
      ends = omega (arith, attribute_len p a);
      begins =
          name_start_is place start parts other
          (subst (λ t. 0 < start → get_or t (start - 1) 0 ≡ 0) e before)
          (subst (λ t. start ≤ length t) e within)
          (subst (λ t. (i : ℕ) → start ≤ i → i < length t → get_or t i 0 ≡ 0 → ⊥) e after)
          ∙ ap (λ t. length (name_bytes t)) (parent_of_last p (1 ∷ a));
    }

some_names : (p : Path) → is_root p ≡ false → 1 ≤ field_len p
some_names p other = omega (arith, len_parts p other)

marked : (front : List ℕ) (block end start : ℕ) (p : Path) (a : Name) → block ≡ 0 → is_path p ≡ true → is_root p ≡ false
    → is_place (attribute_place p a) ≡ true
    → front ≡ field (attribute_place p a) → HasLengths front end start p a → IsMarked front block end start p a
marked front block end start p a none path other place same lengths =
    let rest = 0 ∷ zeros (120 - field_len (attribute_place p a)) in
    let is : front ≡ name_bytes p ++ (1 ∷ (a ++ rest)) =
    same ∙ field_parts (attribute_place p a) (place_below_root p (1 ∷ a))
    ∙ ap₂ (λ t n. name_bytes t ++ (n ++ rest)) (parent_of_last p (1 ∷ a)) (name_of_last p (1 ∷ a)) in
    let behind : drop (start + 1) front ≡ a ++ rest =
    ap (drop (start + 1)) (is ∙ sym (append_assoc (name_bytes p) (1 ∷ []) (a ++ rest)))
    ∙ drop_at (name_bytes p ++ 1 ∷ []) (a ++ rest) (start + 1)
    (omega (arith, lengths.begins, length-append (name_bytes p) (1 ∷ []))) in
    let fits : field_len (attribute_place p a) ≤ 120 =
    leb-true _ _ (second_true (list_all is_part (attribute_place p a)) _ place) in
    record {
      no_block = none;
      room = omega (arith, lengths.ends, attribute_len p a);
      begins = omega (arith, lengths.begins, some_names p other);
      mark = ap (λ t. get_or t start 0) is ∙ get_or_at (name_bytes p) 1 (a ++ rest) 0 start (sym lengths.begins);
      names = names_in_front front p (1 ∷ (a ++ rest)) (start - 1) (words p path) other is
          (omega (arith, lengths.begins, some_names p other));
      name = ap (take (end - (start + 1))) behind
          ∙ take_at a rest (end - (start + 1)) (omega (arith, lengths.ends, lengths.begins));
    }

pub attribute_read : (bytes front back : List ℕ) (block end start : ℕ) (p : Path) (a : Name) → bytes ≡ front ++ back
    → length front ≡ 120 → to_be_bytes w32 block ≡ back → block < 2 ^ 32
    → (0 < end → get_or front (end - 1) 0 ≡ 0 → ⊥)
    → ((i : ℕ) → end ≤ i → i < length front → get_or front i 0 ≡ 0)
    → (0 < start → get_or (take end front) (start - 1) 0 ≡ 0)
    → start ≤ length (take end front)
    → ((i : ℕ) → start ≤ i → i < length (take end front) → get_or (take end front) i 0 ≡ 0 → ⊥)
    → is_path p ≡ true → is_root p ≡ false → is_attribute_name a ≡ true → fits_attribute p a ≡ true
    → bytes ≡ attribute_key p a → IsMarked front block end start p a
attribute_read bytes front back block end start p a parts long read small last behind before within after
    path other name fits e =
    let place = place_of_attribute p a path name fits in
    let same : front ≡ field (attribute_place p a) =
    field_read bytes front back (attribute_place p a) 0 parts long place e in
    marked front block end start p a
    (block_read bytes front back (attribute_place p a) block 0 parts long read place small (omega arith) e) path
    other place same
    (lengths_found front end start p a place same last behind before within after)

-- bytes of which a path was read are read again
pub not_fault : (text : List ℕ) (fault : PathFault) (p : Path) → IsOfNames 0 text (Err fault)
    → slice_split (λ b. eqb b 0) text ≡ p → is_path p ≡ true → length text < 120 → ⊥
not_fault text Syntax p h names path short =
    let all : list_all is_name (slice_split (λ b. eqb b 0) text) ≡ true =
    ap (list_all is_name) names ∙ first_true (list_all is_name p) _ path in cc
not_fault text TooLong p h names path short = omega (arith, h.1)

-- what is known of nothing
pub known_of_none : {A : Type 0} (r : Option A) (P : Type 0) → P → IfNone r P
known_of_none None P h = h
known_of_none (Some x) P h = tt

-- ---- a key whose parts are those of an attribute

-- the list from a place on, where two bytes are known
bytes_from : (front xs a : List ℕ) (start end : ℕ) → length front ≡ 120 → 1 ≤ start → start < end → end < 120
    → get_or front (start - 1) 0 ≡ 0 → get_or front start 0 ≡ 1 → xs ≡ take (start - 1) front
    → a ≡ take (end - (start + 1)) (drop (start + 1) front)
    → ((i : ℕ) → end ≤ i → i < length front → get_or front i 0 ≡ 0)
    → front ≡ xs ++ (0 ∷ 1 ∷ (a ++ zeros (120 - end)))
bytes_from front xs a start end long some order room zero mark names name behind =
    let at = start - 1 in
    let count = end - (start + 1) in
    let back : drop end front ≡ zeros (120 - end) =
    zeros_from_reads (drop end front) (λ i l. get_or-drop end front i 0
    ∙ behind (end + i) (omega arith) (omega (arith, l, length-drop end front)))
    ∙ ap zeros (length-drop end front ∙ ap (λ k. k - end) long) in
    let left : drop (start + 1) front ≡ a ++ zeros (120 - end) =
    sym (take-append-drop count (drop (start + 1) front))
    ∙ ap₂ ◌++◌ (sym name) (drop-drop count (start + 1) front ∙ ap (λ k. drop k front) (omega arith) ∙ back) in
    let from_mark : drop start front ≡ 1 ∷ (a ++ zeros (120 - end)) =
    drop_more front start 0 (omega arith) ∙ ap₂ ◌∷◌ mark left in
    let from_zero : drop at front ≡ 0 ∷ 1 ∷ (a ++ zeros (120 - end)) =
    drop_more front at 0 (omega arith) ∙ ap₂ ◌∷◌ zero (ap (λ k. drop k front) (omega arith) ∙ from_mark) in
    sym (take-append-drop at front) ∙ ap₂ ◌++◌ (sym names) from_zero

-- where the mark stands, a name begins
pub mark_before : (front : List ℕ) (end start : ℕ) → length front ≡ 120 → end < 120 → start ≤ length (take end front)
    → get_or front start 0 ≡ 1
    → ((i : ℕ) → end ≤ i → i < length front → get_or front i 0 ≡ 0) → start < end
mark_before front end start long room within mark behind =
    let most : start ≤ end = omega (arith, length-take-le end front (omega arith)) in
    let apart : start ≡ end → ⊥ = λ e. let none : get_or front start 0 ≡ 0 =
    behind start (omega arith) (omega arith) in omega arith in
    omega arith

zero_before : (front : List ℕ) (end start : ℕ) → start ≤ end → 1 ≤ start
    → (0 < start → get_or (take end front) (start - 1) 0 ≡ 0) → get_or front (start - 1) 0 ≡ 0
zero_before front end start order some before =
    sym (get_or-take end front (start - 1) 0 (omega arith)) ∙ before (omega arith)

-- the bytes of names that bytes 0 part
bytes_of_names : (xs : List ℕ) → name_bytes (slice_split (λ b. eqb b 0) xs) ≡ xs ++ 0 ∷ []
bytes_of_names xs = name_bytes-split 0 xs ∙ ap (λ t. t ++ 0 ∷ []) (with_zeros_for_zeros xs)

names_not_root : (xs : List ℕ) (p : Path) → p ≡ slice_split (λ b. eqb b 0) xs → is_root p ≡ false
names_not_root xs p e = sym (root_from_len p)
    ∙ ne_eqb (field_len p) 0 (λ none. omega (arith, none, ap field_len e, field_len-split 0 xs))

attribute_again : (bytes front back xs : List ℕ) (block end start : ℕ) (p : Path) (a : Name) → bytes ≡ front ++ back
    → to_be_bytes w32 block ≡ back → block ≡ 0 → 1 ≤ start → start < end → end < 120
    → length a ≡ end - (start + 1) → length xs ≡ start - 1 → front ≡ xs ++ (0 ∷ 1 ∷ (a ++ zeros (120 - end)))
    → p ≡ slice_split (λ b. eqb b 0) xs
    → attribute_key p a ≡ bytes
unfolding key field zero_filled
attribute_again bytes front back xs block end start p a parts read none some order room len_a len_xs is names =
    let shown : name_bytes p ≡ xs ++ 0 ∷ [] = ap name_bytes names ∙ bytes_of_names xs in
    let whole : name_bytes (attribute_place p a) ≡ (xs ++ (0 ∷ 1 ∷ a)) ++ 0 ∷ [] =
    attribute_bytes p a ∙ ap (λ t. (t ++ 1 ∷ a) ++ 0 ∷ []) shown
    ∙ ap (λ t. t ++ 0 ∷ []) (append_assoc xs (0 ∷ []) (1 ∷ a)) in
    let len : length (xs ++ (0 ∷ 1 ∷ a)) ≡ end = length-append xs (0 ∷ 1 ∷ a) ∙ omega arith in
    ap₂ ◌++◌
    (ap (zero_filled 120) whole ∙ filled_more (xs ++ (0 ∷ 1 ∷ a)) (omega arith)
    ∙ ap (λ k. (xs ++ (0 ∷ 1 ∷ a)) ++ zeros (120 - k)) len
    ∙ append_assoc xs (0 ∷ 1 ∷ a) (zeros (120 - end)) ∙ sym is)
    (ap (to_be_bytes w32) (sym none) ∙ read)
    ∙ sym parts

pub record IsFound (bytes : List ℕ) (p : Path) (a : Name) : Type 0 where
  pub key : attribute_key p a ≡ bytes
  pub below_root : is_root p ≡ false
  pub fits : fits_attribute p a ≡ true

pub attribute_found : (bytes front back : List ℕ) (block end start : ℕ) (p : Path) (a : Name) → bytes ≡ front ++ back
    → length front ≡ 120 → to_be_bytes w32 block ≡ back
    → ((i : ℕ) → end ≤ i → i < length front → get_or front i 0 ≡ 0)
    → (0 < start → get_or (take end front) (start - 1) 0 ≡ 0)
    → start ≤ length (take end front)
    → block ≡ 0 → end < 120 → 1 ≤ start → get_or front start 0 ≡ 1
    → p ≡ slice_split (λ b. eqb b 0) (take (start - 1) front) → a ≡ take (end - (start + 1)) (drop (start + 1) front)
    → IsFound bytes p a
attribute_found bytes front back block end start p a parts long read behind before within none
    room some mark names name =
    let xs = take (start - 1) front in
    let order : start < end = mark_before front end start long room within mark behind in
    let len_xs : length xs ≡ start - 1 = length-take-le (start - 1) front (omega arith) in
    let len_a : length a ≡ end - (start + 1) =
    ap length name ∙ length-take-le (end - (start + 1)) (drop (start + 1) front)
    (omega (arith, length-drop (start + 1) front)) in
    let is = bytes_from front xs a start end long some order room
    (zero_before front end start (omega arith) some before) mark refl name behind in
    let len_p : field_len p ≡ start = ap field_len names ∙ field_len-split 0 xs ∙ omega arith in
    record {
      key = attribute_again bytes front back xs block end start p a parts read none some order
          room len_a len_xs is names;
      below_root = names_not_root xs p names;
      fits = attribute_fits p a (omega arith);
    }
