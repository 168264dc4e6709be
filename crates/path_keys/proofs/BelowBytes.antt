-- Lemmas on the key that parts a path, its blocks and its attributes from what lies below the path.
use Rattle.std.proofs.Common.{◌≡◌, ℕ, ◌-◌, ◌<◌, ◌≤◌, ◌^◌, suc, List, [], ◌∷◌, ◌++◌, length, drop, refl, sym, ap, ap₂}
use Rattle.std.proofs.Common.{◌∙◌, subst, arith, true, false, IsTrue, append_assoc, append-nil, Less, nat_cmp}
use Rattle.std.specs.Ordering.{ordering_then, is_le}
use Rattle.std.specs.Cmp.{tied_itself}
use Rattle.std.specs.Cmp.Lexicographic.{slice_cmp, nat_list_cmp_total, lists_total}
use Rattle.std.specs.List.{list_all}
use Rattle.std.specs.Int.{w32, to_be_bytes}
use Rattle.std.proofs.lemmas.List.{length-drop}
use Rattle.std.proofs.lemmas.Bool.{leb-true, both_ways}
use Rattle.store_model.specs.Lists.{zeros, zero_filled}
use Rattle.store_model.specs.Paths.{Path, Name, is_name, is_name_byte, is_path, attribute_place, fits_attribute}
use Rattle.store_model.specs.Paths.{is_root, name_bytes, field_len, field, key, key_cmp, path_cmp, parent, last_name}
use Rattle.store_model.specs.Paths.{is_inside, is_at_or_inside}
use Rattle.store_model.proofs.PathsLemmas.{place_of_path, order_of_keys}
use Rattle.path_keys.proofs.NameBytes.{name_bytes-cons, name_bytes-append, first_true, second_true}
use Rattle.path_keys.proofs.PathBytes.{all_behind, bytes_split}
use Rattle.path_keys.proofs.InsideBytes.{inside_split, longer_inside}
use Rattle.path_keys.proofs.PastBytes.{same_front, less_is, past_bytes, at_or_inside_from_split, subtree_before_past}
use Rattle.path_keys.proofs.PastBytes.{past_before_later}
use Rattle.path_keys.proofs.AttributeBytes.{attribute_bytes, attribute_len}

-- the key with the byte 2 behind the names
abbrev pub below_bytes : Path → List ℕ
below_bytes p = zero_filled 120 (name_bytes p ++ 2 ∷ []) ++ to_be_bytes w32 0

-- keys that begin with the path's names are compared by the byte behind these
below_split : (p : Path) → below_bytes p ≡ name_bytes p
    ++ (2 ∷ (zeros (120 - length (name_bytes p ++ 2 ∷ [])) ++ to_be_bytes w32 0))
unfolding zero_filled
below_split p =
    let fill = zeros (120 - length (name_bytes p ++ 2 ∷ [])) in
    append_assoc (name_bytes p ++ 2 ∷ []) fill (to_be_bytes w32 0)
    ∙ append_assoc (name_bytes p) (2 ∷ []) (fill ++ to_be_bytes w32 0)

key_split : (p q : Path) (block : ℕ) (rest : List ℕ) → name_bytes q ≡ name_bytes p ++ rest
    → key q block ≡ name_bytes p ++ (rest ++ (zeros (120 - field_len q) ++ to_be_bytes w32 block))
unfolding key field zero_filled
key_split p q block rest e =
    let fill = zeros (120 - field_len q) in
    ap (λ t. (t ++ fill) ++ to_be_bytes w32 block) e
    ∙ append_assoc (name_bytes p ++ rest) fill (to_be_bytes w32 block)
    ∙ append_assoc (name_bytes p) rest (fill ++ to_be_bytes w32 block)

-- the blocks of the path
pub block_before_below : (p : Path) (block : ℕ) → is_path p ≡ true → (field_len p ≡ 120 → ⊥)
    → key_cmp (key p block) (below_bytes p) ≡ Less
unfolding key field zero_filled
block_before_below p block path room =
    let fits : field_len p ≤ 120 = leb-true _ 120 (second_true (list_all is_name p) _ path) in
    let number = to_be_bytes w32 block in
    let us = zeros (120 - length (name_bytes p ++ 2 ∷ [])) ++ to_be_bytes w32 0 in
    let more : 120 - field_len p ≡ suc (119 - field_len p) = omega arith in
    let is : key p block ≡ name_bytes p ++ (0 ∷ (zeros (119 - field_len p) ++ number)) =
    append_assoc (name_bytes p) (zeros (120 - field_len p)) number
    ∙ ap (λ k. name_bytes p ++ (zeros k ++ number)) more in
    ap₂ (slice_cmp nat_cmp) is (below_split p)
    ∙ same_front (name_bytes p) (0 ∷ (zeros (119 - field_len p) ++ number)) (2 ∷ us)

-- its attributes
pub attribute_before_below : (p : Path) (a : Name) (block : ℕ)
    → key_cmp (key (attribute_place p a) block) (below_bytes p) ≡ Less
attribute_before_below p a block =
    let us = zeros (120 - length (name_bytes p ++ 2 ∷ [])) ++ to_be_bytes w32 0 in
    let vs = zeros (120 - field_len (attribute_place p a)) ++ to_be_bytes w32 block in
    ap₂ (slice_cmp nat_cmp)
    (key_split p (attribute_place p a) block ((1 ∷ a) ++ 0 ∷ [])
    (attribute_bytes p a ∙ append_assoc (name_bytes p) (1 ∷ a) (0 ∷ []))) (below_split p)
    ∙ same_front (name_bytes p) (((1 ∷ a) ++ 0 ∷ []) ++ vs) (2 ∷ us)

-- names have bytes above 2
first_byte : (r : Path) → 1 ≤ length r → list_all is_name r ≡ true
    → (c : ℕ) × (rest : List ℕ) × (2 < c) × (name_bytes r ≡ c ∷ rest)
first_byte [] some h = absurd (omega arith)
first_byte ([] ∷ r) some h = absurd cc
first_byte ((c ∷ n) ∷ r) some h =
    let byte : IsTrue (is_name_byte c) =
    first_true _ _ (second_true _ _ (first_true _ _ (first_true _ _ (first_true (is_name (c ∷ n)) _ h)))) in (
      c,
      n ++ 0 ∷ name_bytes r,
      omega (arith, leb-true 33 c (first_true _ _ (first_true _ _ byte))),
      name_bytes-cons (c ∷ n) r,
    )

-- what lies below the path
pub below_before_inside : (p q : Path) (block : ℕ) → is_path q ≡ true → is_inside q p ≡ true
    → is_le (key_cmp (below_bytes p) (key q block)) ≡ true
below_before_inside p q block hq inside =
    let parts = inside_split q p inside in
    let r = drop (length p) q in
    let names : list_all is_name r ≡ true =
    all_behind is_name p r (subst (λ t. list_all is_name t ≡ true) parts.0 (first_true (list_all is_name q) _ hq))
    in
    let found = first_byte r (omega (arith, parts.1, length-drop (length p) q)) names in
    let us = zeros (120 - length (name_bytes p ++ 2 ∷ [])) ++ to_be_bytes w32 0 in
    let vs = zeros (120 - field_len q) ++ to_be_bytes w32 block in
    ap is_le
    (ap₂ (slice_cmp nat_cmp) (below_split p)
    (key_split p q block (found.0 ∷ found.1)
    (ap name_bytes parts.0 ∙ name_bytes-append p r ∙ ap (λ t. name_bytes p ++ t) found.3))
    ∙ same_front (name_bytes p) (2 ∷ us) (found.0 ∷ (found.1 ++ vs))
    ∙ ap (λ o. ordering_then o (slice_cmp nat_cmp us (found.1 ++ vs))) (less_is 2 found.0 found.2))

-- ---- what is behind the path and not below it

-- the key stands before what is past the subtree
pub below_before_past : (p : Path) → is_root p ≡ false → key_cmp (below_bytes p) (past_bytes p) ≡ Less
below_before_past p other =
    let front = name_bytes (parent p) ++ last_name p in
    let us = zeros (120 - length (name_bytes p ++ 2 ∷ [])) ++ to_be_bytes w32 0 in
    ap (λ t. slice_cmp nat_cmp t (past_bytes p))
    (below_split p ∙ ap (λ t. t ++ (2 ∷ us))
    (bytes_split p other ∙ sym (append_assoc (name_bytes (parent p)) (last_name p) (0 ∷ [])))
    ∙ append_assoc front (0 ∷ []) (2 ∷ us))
    ∙ same_front front (0 ∷ (2 ∷ us)) (1 ∷ (zeros (120 - field_len p) ++ 0 ∷ 0 ∷ 0 ∷ 0 ∷ []))

-- and so does each of the path's keys
pub key_before_past : (p : Path) (block : ℕ) → is_root p ≡ false → key_cmp (key p block) (past_bytes p) ≡ Less
key_before_past p block other = subtree_before_past p p block other
    (at_or_inside_from_split p p [] (sym (append-nil p)))

-- a key that does so does not stand behind later paths; behind the root stands nothing else
pub not_behind_later : (p q : Path) (block : ℕ) (k : List ℕ) → (is_root p ≡ false → key_cmp k (past_bytes p) ≡ Less)
    → is_path p ≡ true → is_path q ≡ true → is_at_or_inside q p ≡ false → path_cmp p q ≡ Less
    → is_le (key_cmp k (key q block)) ≡ true
not_behind_later [] q block k before hp hq apart less = absurd (both_ways _ apart (at_or_inside_from_split q [] q refl))
not_behind_later (n ∷ p) q block k before hp hq apart less =
    ap is_le (nat_list_cmp_total.trans k (past_bytes (n ∷ p)) (key q block) (before refl)
    (past_before_later (n ∷ p) q block refl hp hq apart less))

-- ---- a field that has no room behind the path

-- where the field has no room, the last block of the path stands behind all others, and nothing else stands at it or
-- below
pub block_before_last : (p : Path) (block : ℕ) → is_path p ≡ true → block < 2 ^ 32 - 1
    → key_cmp (key p block) (key p (2 ^ 32 - 1)) ≡ Less
block_before_last p block h small =
    order_of_keys p p block (2 ^ 32 - 1) (place_of_path p h) (place_of_path p h) (omega arith) (omega arith)
    ∙ ap (λ o. ordering_then o (nat_cmp block (2 ^ 32 - 1))) (tied_itself (lists_total nat_list_cmp_total) p)
    ∙ less_is block (2 ^ 32 - 1) small

pub no_attribute : (p : Path) (a : Name) → field_len p ≡ 120 → fits_attribute p a ≡ true → ⊥
no_attribute p a full fits = let room : field_len (attribute_place p a) ≤ 120 = leb-true _ 120 fits
    in omega (arith, attribute_len p a)

pub nothing_inside : (p q : Path) → field_len p ≡ 120 → is_path q ≡ true → is_inside q p ≡ true → ⊥
nothing_inside p q full hq inside =
    let room : field_len q ≤ 120 = leb-true _ 120 (second_true (list_all is_name q) _ hq)
    in omega (arith, longer_inside q p inside)
