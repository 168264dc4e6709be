-- Lemmas on the key past a subtree: the key whose field is the path's with its last byte 0 made 1.
use Rattle.std.proofs.Common.{◌≡◌, ℕ, ◌+◌, ◌-◌, ◌<◌, ◌≤◌, zero, suc, List, [], ◌∷◌, ◌++◌, length, drop, get_or, set}
use Rattle.std.proofs.Common.{refl, sym, ap, ap₂, ◌∙◌, arith, true, false, IsTrue, append_assoc, append-nil}
use Rattle.std.proofs.Common.{length-append, Ordering, Less, Equal, Greater, nat_cmp, ⊎_elim, ◌⊎◌, inl, inr}
use Rattle.std.specs.Ordering.{ordering_then, is_le}
use Rattle.std.specs.Cmp.Lexicographic.{slice_cmp}
use Rattle.std.specs.FinMap.{slice_cmp-IsAntisymmetric, nat_cmp-IsAntisymmetric}
use Rattle.std.specs.List.{AllByRecursion, list_all}
use Rattle.std.specs.Int.{w32, to_be_bytes}
use Rattle.std.proofs.lemmas.List.{set_at, drop_all, get_or_at, get_or_append_left, length-replicate}
use Rattle.std.proofs.lemmas.List.{replicate-append-replicate}
use Rattle.std.proofs.lemmas.List.Elements.{All-from_recursion}
use Rattle.std.proofs.lemmas.Bool.{leb-true, both_ways, or_cases, or_left, or_right, cases_order}
use Rattle.std.proofs.lemmas.Bool.Decides.{nat_tests}
use Rattle.store_model.specs.Lists.{zeros, zero_filled}
use Rattle.store_model.specs.Paths.{Path, Name, is_name, is_name_byte, is_path, is_place, is_root, name_bytes}
use Rattle.store_model.specs.Paths.{field_len, field, key, key_cmp, name_cmp, path_cmp, parent, last_name, is_inside}
use Rattle.store_model.specs.Paths.{same_path, is_at_or_inside}
use Rattle.store_model.proofs.ListsLemmas.{all_append, all_flat_map, all_from_test, all_replicate}
use Rattle.store_model.proofs.PathsLemmas.{place_of_path, length-field, length-key}
use Rattle.path_keys.proofs.NameBytes.{AreWords, words_of_place, name_bytes-cons, name_bytes-append, name_bytes-nil}
use Rattle.path_keys.proofs.NameBytes.{first_true, second_true}
use Rattle.path_keys.proofs.PathBytes.{last_split, bytes_split, field_parts, len_parts}
use Rattle.path_keys.proofs.InsideBytes.{same_path-itself, same_path-true, inside_split, inside_from_split}

pub less_is : (a b : ℕ) → a < b → nat_cmp a b ≡ Less
less_is a b h = grind (arith, nat_tests)

same_is : (a b : ℕ) → a ≡ b → nat_cmp a b ≡ Equal
same_is a b h = grind (arith, nat_tests)

-- lists with one front are compared by what is behind it
pub same_front : (front us vs : List ℕ) → slice_cmp nat_cmp (front ++ us) (front ++ vs) ≡ slice_cmp nat_cmp us vs
same_front [] us vs = refl
same_front (c ∷ front) us vs =
    ap (λ o. ordering_then o (slice_cmp nat_cmp (front ++ us) (front ++ vs))) (same_is c c refl)
    ∙ same_front front us vs

-- bytes 0 stand behind no other bytes that are as many or more
zeros_first : (k : ℕ) (ys : List ℕ) → k ≤ length ys → is_le (slice_cmp nat_cmp (zeros k) ys) ≡ true
zeros_first zero [] h = refl
zeros_first zero (y ∷ ys) h = refl
zeros_first (suc k) [] h = absurd (omega arith)
zeros_first (suc k) (zero ∷ ys) h = zeros_first k ys (omega arith)
zeros_first (suc k) (suc y ∷ ys) h = ap (λ o. is_le (ordering_then o (slice_cmp nat_cmp (zeros k) ys)))
    (less_is 0 (suc y) (omega arith))

then_kept : (good : Ordering → Type 0) (o a b : Ordering) → good Less → (a ≡ Less → good b) → ordering_then o a ≡ Less
    → good (ordering_then o b)
then_kept good Less a b less f h = less
then_kept good Equal a b less f h = f h
then_kept good Greater a b less f h = cc

-- a lesser name with a byte 0 behind it stands before a greater one
lesser_name : (n m us vs : List ℕ) → AllByRecursion (λ c. 0 < c) m → name_cmp n m ≡ Less
    → slice_cmp nat_cmp (n ++ 0 ∷ us) (m ++ vs) ≡ Less
lesser_name [] [] us vs hm h = cc
lesser_name [] (c ∷ m) us vs hm h = ap (λ o. ordering_then o (slice_cmp nat_cmp us (m ++ vs))) (less_is 0 c hm.0)
lesser_name (x ∷ n) [] us vs hm h = cc
lesser_name (x ∷ n) (y ∷ m) us vs hm h =
    then_kept (λ o. o ≡ Less) (nat_cmp x y) (name_cmp n m) (slice_cmp nat_cmp (n ++ 0 ∷ us) (m ++ vs)) refl
    (lesser_name n m us vs hm.1) h

-- and with a byte 1 and zeros behind it, it stands behind no greater one
marked_name : (n m vs : List ℕ) (k : ℕ) → AllByRecursion (λ c. 0 < c) m
    → length (n ++ 1 ∷ zeros k) ≤ length (m ++ vs) → name_cmp n m ≡ Less
    → is_le (slice_cmp nat_cmp (n ++ 1 ∷ zeros k) (m ++ vs)) ≡ true
marked_name [] [] vs k hm long h = cc
marked_name [] (c ∷ m) vs k hm long h =
    ⊎_elim
    (λ same. ap (λ o. is_le (ordering_then o (slice_cmp nat_cmp (zeros k) (m ++ vs)))) (same_is 1 c same)
    ∙ zeros_first k (m ++ vs) (omega (arith, length-replicate {A = ℕ} k 0)))
    (λ o. ⊎_elim
    (λ below. ap (λ t. is_le (ordering_then t (slice_cmp nat_cmp (zeros k) (m ++ vs)))) (less_is 1 c below))
    (λ above. let some : 0 < c = hm.0 in absurd (omega arith))
    o)
    (cases_order 1 c)
marked_name (x ∷ n) [] vs k hm long h = cc
marked_name (x ∷ n) (y ∷ m) vs k hm long h =
    then_kept (λ o. is_le o ≡ true) (nat_cmp x y) (name_cmp n m) (slice_cmp nat_cmp (n ++ 1 ∷ zeros k) (m ++ vs)) refl
    (marked_name n m vs k hm.1 (omega arith)) h

-- two first names differ, or it is the rest that differs
less_or_same : (o : Ordering) (n m : Name) (rest : Ordering) → name_cmp n m ≡ o → ordering_then o rest ≡ Less
    → (name_cmp n m ≡ Less) ⊎ ((n ≡ m) × (rest ≡ Less))
less_or_same Less n m rest e h = inl e
less_or_same Equal n m rest e h = inr (slice_cmp-IsAntisymmetric nat_cmp-IsAntisymmetric n m e, h)
less_or_same Greater n m rest e h = cc

bytes-cons : (m : Name) (q : Path) (vs : List ℕ) → name_bytes (m ∷ q) ++ vs ≡ m ++ 0 ∷ (name_bytes q ++ vs)
bytes-cons m q vs = ap (λ t. t ++ vs) (name_bytes-cons m q) ∙ append_assoc m (0 ∷ name_bytes q) vs

-- the bytes of a path's subtree with a byte 1 behind its names stand behind those of no later place
later_bytes : (a : Path) (n : Name) (q : Path) (k : ℕ) (vs : List ℕ) → AreWords q
    → length (name_bytes a ++ (n ++ 1 ∷ zeros k)) ≤ length (name_bytes q ++ vs)
    → path_cmp (a ++ n ∷ []) q ≡ Less → ((r : Path) → q ≡ (a ++ n ∷ []) ++ r → ⊥)
    → is_le (slice_cmp nat_cmp (name_bytes a ++ (n ++ 1 ∷ zeros k)) (name_bytes q ++ vs)) ≡ true
later_bytes [] n [] k vs hq long h apart = cc
later_bytes [] n (m ∷ q) k vs hq long h apart =
    let ours : name_bytes [] ++ (n ++ 1 ∷ zeros k) ≡ n ++ 1 ∷ zeros k =
    ap (λ t. t ++ (n ++ 1 ∷ zeros k)) name_bytes-nil in
    let theirs = bytes-cons m q vs in
    ap₂ (λ s t. is_le (slice_cmp nat_cmp s t)) ours theirs
    ∙ ⊎_elim (λ less. marked_name n m (0 ∷ (name_bytes q ++ vs)) k
    (hq.0).bytes (omega (arith, ap length ours, ap length theirs)) less)
    (λ same. absurd (apart q (ap (λ t. t ∷ q) (sym same.0))))
    (less_or_same (name_cmp n m) n m (path_cmp [] q) refl h)
later_bytes (x ∷ a) n [] k vs hq long h apart = cc
later_bytes (x ∷ a) n (m ∷ q) k vs hq long h apart =
    let us = name_bytes a ++ (n ++ 1 ∷ zeros k) in
    let ws = name_bytes q ++ vs in
    let ours = bytes-cons x a (n ++ 1 ∷ zeros k) in
    let theirs = bytes-cons m q vs in
    ap₂ (λ s t. is_le (slice_cmp nat_cmp s t)) ours theirs
    ∙ ⊎_elim (λ less. ap is_le (lesser_name x m us (0 ∷ ws) (hq.0).bytes less))
    (λ same. ap (λ t. is_le (slice_cmp nat_cmp (x ++ 0 ∷ us) (t ++ 0 ∷ ws))) (sym same.0)
    ∙ ap is_le (same_front x (0 ∷ us) (0 ∷ ws))
    ∙ later_bytes a n q k vs
    hq.1 (omega (
      arith,
      ap length ours,
      ap length theirs,
      ap length same.0,
      length-append x
          (0 ∷ us),
      length-append m (0 ∷ ws),
    )) same.1
    (λ r e. apart r (ap₂ ◌∷◌ (sym same.0) e)))
    (less_or_same (name_cmp x m) x m (path_cmp (a ++ n ∷ []) q) refl h)

-- the key past a subtree
abbrev pub past_bytes : Path → List ℕ
past_bytes p = (name_bytes (parent p) ++ last_name p) ++ 1 ∷ (zeros (120 - field_len p) ++ 0 ∷ 0 ∷ 0 ∷ 0 ∷ [])

pub past_written : (p : Path) → is_root p ≡ false → set (key p 0) (field_len p - 1) 1 ≡ past_bytes p
unfolding key
past_written p other =
    let front = name_bytes (parent p) ++ last_name p in
    let behind = zeros (120 - field_len p) in
    let is : field p ++ 0 ∷ 0 ∷ 0 ∷ 0 ∷ [] ≡ front ++ 0 ∷ (behind ++ 0 ∷ 0 ∷ 0 ∷ 0 ∷ []) =
    ap (λ t. t ++ 0 ∷ 0 ∷ 0 ∷ 0 ∷ []) (field_parts p other
    ∙ sym (append_assoc (name_bytes (parent p)) (last_name p) (0 ∷ behind)))
    ∙ append_assoc front (0 ∷ behind) (0 ∷ 0 ∷ 0 ∷ 0 ∷ []) in
    ap (λ t. set t (field_len p - 1) 1) is
    ∙ set_at front 0 (behind ++ 0 ∷ 0 ∷ 0 ∷ 0 ∷ []) 1 (field_len p - 1)
    (omega (arith, len_parts p other, length-append (name_bytes (parent p)) (last_name p)))

-- at a path or below it are the paths that begin with it
pub at_or_inside_split : (q p : Path) → is_at_or_inside q p ≡ true → q ≡ p ++ drop (length p) q
at_or_inside_split q p h =
    ⊎_elim
    (λ same.
    let e : q ≡ p = same_path-true q p same in
    e ∙ sym (append-nil p) ∙ ap (λ t. p ++ t) (sym (ap (drop (length p)) e ∙ drop_all (length p) p (omega arith))))
    (λ inside. (inside_split q p inside).0)
    (or_cases (same_path q p) (is_inside q p) h)

pub at_or_inside_from_split : (q p r : Path) → q ≡ p ++ r → is_at_or_inside q p ≡ true
at_or_inside_from_split q p [] e = or_left (same_path q p) (is_inside q p)
    (ap (λ t. same_path t p) (e ∙ append-nil p) ∙ same_path-itself p)
at_or_inside_from_split q p (n ∷ r) e =
    or_right (same_path q p) (is_inside q p) (inside_from_split q p (n ∷ r) e (omega arith))

bytes_below : (p q : Path) → is_root p ≡ false → is_at_or_inside q p ≡ true
    → name_bytes q ≡ (name_bytes (parent p) ++ last_name p) ++ 0 ∷ name_bytes (drop (length p) q)
bytes_below p q other h =
    let a = name_bytes (parent p) in
    let r = name_bytes (drop (length p) q) in
    ap name_bytes (at_or_inside_split q p h) ∙ name_bytes-append p (drop (length p) q)
    ∙ ap (λ t. t ++ r) (bytes_split p other ∙ sym (append_assoc a (last_name p) (0 ∷ [])))
    ∙ append_assoc (a ++ last_name p) (0 ∷ []) r

-- the keys of a subtree stand before what is past it
pub subtree_before_past : (p q : Path) (block : ℕ) → is_root p ≡ false → is_at_or_inside q p ≡ true
    → key_cmp (key q block) (past_bytes p) ≡ Less
unfolding key field zero_filled
subtree_before_past p q block other h =
    let front = name_bytes (parent p) ++ last_name p in
    let r = name_bytes (drop (length p) q) in
    let fill = zeros (120 - field_len q) in
    let number = to_be_bytes w32 block in
    ap (λ t. slice_cmp nat_cmp ((t ++ fill) ++ number) (past_bytes p)) (bytes_below p q other h)
    ∙ ap (λ t. slice_cmp nat_cmp (t ++ number) (past_bytes p)) (append_assoc front (0 ∷ r) fill)
    ∙ ap (λ t. slice_cmp nat_cmp t (past_bytes p)) (append_assoc front (0 ∷ (r ++ fill)) number)
    ∙ same_front front (0 ∷ ((r ++ fill) ++ number)) (1 ∷ (zeros (120 - field_len p) ++ 0 ∷ 0 ∷ 0 ∷ 0 ∷ []))

-- and later keys do not stand before it
pub past_not_above : (p q : Path) (block : ℕ) → is_root p ≡ false → is_path p ≡ true → is_place q ≡ true
    → is_at_or_inside q p ≡ false → path_cmp p q ≡ Less
    → is_le (key_cmp (past_bytes p) (key q block)) ≡ true
unfolding key field zero_filled
past_not_above p q block other hp hq apart less =
    let len = field_len p in
    let fill = zeros (120 - field_len q) in
    let number = to_be_bytes w32 block in
    let us = zeros (120 - len) ++ 0 ∷ 0 ∷ 0 ∷ 0 ∷ [] in
    let is : us ≡ zeros (120 - len + 4) = replicate-append-replicate (120 - len) 4 0 in
    let front : (name_bytes (parent p) ++ last_name p) ++ 1 ∷ us ≡ name_bytes (parent p)
    ++ (last_name p ++ 1 ∷ zeros (120 - len + 4)) =
    append_assoc (name_bytes (parent p)) (last_name p) (1 ∷ us)
    ∙ ap (λ t. name_bytes (parent p) ++ (last_name p ++ 1 ∷ t)) is in
    let whole = append_assoc (name_bytes q) fill number in
    let fits : len ≤ 120 = leb-true _ _ (second_true (list_all is_name p) _ hp) in
    let ours : length (name_bytes (parent p) ++ (last_name p ++ 1 ∷ zeros (120 - len + 4))) ≡ 124 =
    omega (
      arith,
      len_parts p other,
      length-append (name_bytes (parent p))
          (last_name p ++ 1 ∷ zeros (120 - len + 4)),
      length-append (last_name p)
          (1 ∷ zeros (120 - len + 4)),
      length-replicate {A = ℕ} (120 - len + 4) 0,
    ) in
    let theirs : length (name_bytes q ++ (fill ++ number)) ≡ 124 = ap length (sym whole) ∙ length-key q block hq in
    ap₂ (λ s t. is_le (slice_cmp nat_cmp s t)) front whole
    ∙ later_bytes (parent p) (last_name p) q (120 - len + 4) (fill ++ number) (words_of_place q hq) (omega arith)
    (ap (λ t. path_cmp t q) (sym (last_split p other)) ∙ less)
    (λ r e. both_ways _ apart (at_or_inside_from_split q p r (e ∙ ap (λ t. t ++ r) (sym (last_split p other)))))

-- no byte of a path's field is the mark
no_mark_in_name : (n : List ℕ) → IsTrue (is_name n) → AllByRecursion (λ c. c ≡ 1 → ⊥) (n ++ 0 ∷ [])
no_mark_in_name n t =
    all_append (λ c. c ≡ 1 → ⊥) n (0 ∷ [])
    (all_from_test is_name_byte (λ c. c ≡ 1 → ⊥)
    (λ c u e. omega (arith, e, leb-true 33 c (first_true _ _ (first_true _ _ u)))) n
    (second_true _ _ (first_true _ _ (first_true _ _ t))))
    ((λ e. omega (arith, e)), tt)

no_mark : (q : Path) → is_path q ≡ true → AllByRecursion (λ c. c ≡ 1 → ⊥) (field q)
unfolding field zero_filled name_bytes
no_mark q h =
    all_append (λ c. c ≡ 1 → ⊥) (name_bytes q) (zeros (120 - field_len q))
    (all_flat_map (λ n. IsTrue (is_name n)) (λ c. c ≡ 1 → ⊥) (λ n. n ++ 0 ∷ []) no_mark_in_name q
    (all_from_test is_name (λ n. IsTrue (is_name n)) (λ n t. t) q (first_true (list_all is_name q) _ h)))
    (all_replicate (λ c. c ≡ 1 → ⊥) (120 - field_len q) 0 (λ e. omega (arith, e)))

less_unless_tied : (o : Ordering) → is_le o ≡ true → (o ≡ Equal → ⊥) → o ≡ Less
less_unless_tied Less h apart = refl
less_unless_tied Equal h apart = absurd (apart refl)
less_unless_tied Greater h apart = cc

-- and later paths stand behind it
pub past_before_later : (p q : Path) (block : ℕ) → is_root p ≡ false → is_path p ≡ true → is_path q ≡ true
    → is_at_or_inside q p ≡ false → path_cmp p q ≡ Less
    → key_cmp (past_bytes p) (key q block) ≡ Less
unfolding key
past_before_later p q block other hp hq apart less =
    let front = name_bytes (parent p) ++ last_name p in
    let us = zeros (120 - field_len p) ++ 0 ∷ 0 ∷ 0 ∷ 0 ∷ [] in
    let fits : field_len p ≤ 120 = leb-true _ _ (second_true (list_all is_name p) _ hp) in
    let within : length front < length (field q) =
    omega (
      arith,
      len_parts p other,
      length-append (name_bytes (parent p)) (last_name p),
      length-field q
          (place_of_path q hq),
    ) in
    less_unless_tied _ (past_not_above p q block other hp (place_of_path q hq) apart less)
    (λ tied. All-from_recursion (λ c. c ≡ 1 → ⊥) (field q) (no_mark q hq) (length front) 0 within
    (sym (get_or_append_left (field q) (to_be_bytes w32 block) 0 (length front) within)
    ∙ sym (ap (λ t. get_or t (length front) 0)
    (slice_cmp-IsAntisymmetric nat_cmp-IsAntisymmetric (past_bytes p) (key q block) tied))
    ∙ get_or_at front 1 us 0 (length front) refl))
