-- Lemmas on paths that lie below others, in their bytes.
use Rattle.std.proofs.Common.{◌≡◌, ℕ, ◌-◌, ◌<◌, ◌≤◌, List, [], ◌∷◌, ◌++◌, length, take, drop, refl, sym, ap, ◌∙◌, arith}
use Rattle.std.proofs.Common.{Bool, true, ltb, append-nil, length-append, Ordering, Less, Equal, Greater}
use Rattle.std.specs.Cmp.{tied_itself, both_ways}
use Rattle.std.specs.Cmp.Lexicographic.{nat_list_cmp_total, lists_total}
use Rattle.std.specs.FinMap.{slice_cmp-IsAntisymmetric, nat_cmp-IsAntisymmetric}
use Rattle.std.specs.Ordering.{is_eq}
use Rattle.std.proofs.lemmas.List.{take_at, take-append-drop, take-append-le, take_all, length-drop}
use Rattle.std.proofs.lemmas.Slice.Eq.{bytes_eq-Decides}
use Rattle.std.proofs.lemmas.Bool.{ltb-true, lt-ltb, le-ltb, and_from, and_parts, false_from_ne_true}
use Rattle.store_model.specs.Lists.{zeros, zero_filled, same_bytes}
use Rattle.store_model.specs.Paths.{Path, path_cmp, same_path, name_bytes, field_len, field, is_inside}
use Rattle.path_keys.specs.Fields.{names_in, IsField}
use Rattle.path_keys.proofs.NameBytes.{AreWords, words, name_bytes-cons, name_bytes-append, names_in-append}
use Rattle.path_keys.proofs.NameBytes.{names_in-name_bytes}

-- the test of sameness says whether paths are equal
pub same_path-itself : (p : Path) → same_path p p ≡ true
same_path-itself p = ap is_eq (tied_itself (lists_total nat_list_cmp_total) p)

is_Equal : (o : Ordering) → is_eq o ≡ true → o ≡ Equal
is_Equal Less h = cc
is_Equal Equal h = refl
is_Equal Greater h = cc

pub same_path-true : (p q : Path) → same_path p q ≡ true → p ≡ q
same_path-true p q h = slice_cmp-IsAntisymmetric (slice_cmp-IsAntisymmetric nat_cmp-IsAntisymmetric) p q
    (is_Equal (path_cmp p q) h)

-- a path below another is that path and more names
pub inside_split : (p q : Path) → is_inside p q ≡ true → (p ≡ q ++ drop (length q) p) × (length q < length p)
unfolding is_inside
inside_split p q h =
    let parts = and_parts (ltb (length q) (length p)) (same_path (take (length q) p) q) h in (
      sym (take-append-drop (length q) p) ∙ ap (λ t. t ++ drop (length q) p)
          (same_path-true (take (length q) p) q parts.1),
      ltb-true _ _ parts.0,
    )

pub inside_from_split : (p q r : Path) → p ≡ q ++ r → 1 ≤ length r → is_inside p q ≡ true
unfolding is_inside
inside_from_split p q r e h =
    and_from _ _ (lt-ltb (length q) (length p) (omega (arith, ap length e, length-append q r)))
    (ap (λ t. same_path t q) (ap (take (length q)) e ∙ take_at q r (length q) refl) ∙ same_path-itself q)

-- each name takes bytes
some_bytes : (p : Path) → 1 ≤ length p → 1 ≤ length (name_bytes p)
some_bytes [] h = absurd (omega arith)
some_bytes (n ∷ p) h = omega (arith, ap length (name_bytes-cons n p), length-append n (0 ∷ name_bytes p))

pub longer_inside : (p q : Path) → is_inside p q ≡ true → field_len q < field_len p
longer_inside p q h =
    let parts = inside_split p q h in
    let more : 1 ≤ length (name_bytes (drop (length q) p)) =
    some_bytes (drop (length q) p) (omega (arith, parts.1, length-drop (length q) p)) in
    omega (
      arith,
      ap length (ap name_bytes parts.0 ∙ name_bytes-append q (drop (length q) p)),
      length-append (name_bytes q) (name_bytes (drop (length q) p)),
    )

-- the bytes of a path below another begin with the other's bytes
pub front_inside : (p q : Path) → is_inside p q ≡ true → take (field_len q) (name_bytes p) ≡ name_bytes q
front_inside p q h =
    let parts = inside_split p q h in
    ap (take (field_len q)) (ap name_bytes parts.0 ∙ name_bytes-append q (drop (length q) p))
    ∙ take_at (name_bytes q) (name_bytes (drop (length q) p)) (field_len q) refl

more_names : (p q r : Path) → field_len q < field_len p → p ≡ q ++ r → 1 ≤ length r
more_names p q [] longer same = absurd (omega (arith, ap field_len (same ∙ append-nil q)))
more_names p q (n ∷ r) longer same = omega arith

pub inside_from_front : (p q : Path) → AreWords p → AreWords q → field_len q < field_len p
    → take (field_len q) (name_bytes p) ≡ name_bytes q → is_inside p q ≡ true
inside_from_front p q hp hq longer e =
    let rest = drop (field_len q) (name_bytes p) in
    let split : name_bytes p ≡ name_bytes q ++ rest =
    sym (take-append-drop (field_len q) (name_bytes p)) ∙ ap (λ t. t ++ rest) e in
    let names : p ≡ q ++ names_in rest = sym (names_in-name_bytes p hp) ∙ ap names_in split
    ∙ names_in-append q rest hq in
    inside_from_split p q (names_in rest) names (more_names p q (names_in rest) longer names)

front_of : (t : Path) (xs : List ℕ) (n k : ℕ) → IsField xs n t → k ≤ n → take k xs ≡ take k (name_bytes t)
unfolding field zero_filled
front_of t xs n k h l = ap (take k) h.bytes_are
    ∙ take-append-le k (name_bytes t) (zeros (120 - field_len t)) (omega (arith, h.len_is))

-- what comparing the bytes says
pub inside_test : (p q : Path) (bytes others : List ℕ) (len other_len : ℕ) (r : Bool) → IsField bytes len p
    → IsField others other_len q → other_len < len
    → r ≡ same_bytes (take other_len bytes) (take other_len others) → r ≡ is_inside p q
inside_test p q bytes others len other_len r hp hq longer tested =
    let ours : take other_len bytes ≡ take (field_len q) (name_bytes p) =
    front_of p bytes len other_len hp (omega arith) ∙ ap (λ n. take n (name_bytes p)) hq.len_is in
    let theirs : take other_len others ≡ name_bytes q =
    front_of q others other_len other_len hq (omega arith) ∙ ap (λ n. take n (name_bytes q)) hq.len_is
    ∙ take_all (field_len q) (name_bytes q) (omega arith) in
    let decides = bytes_eq-Decides (take other_len bytes) (take other_len others) in
    let lens : field_len q < field_len p = omega (arith, hp.len_is, hq.len_is) in
    tested ∙ both_ways (same_bytes (take other_len bytes) (take other_len others)) (is_inside p q)
    (λ same. inside_from_front p q (words p hp.path) (words q hq.path) lens (sym ours ∙ decides.0 same ∙ theirs))
    (λ inside. decides.1 (ours ∙ front_inside p q inside ∙ sym theirs))

pub not_inside : (p q : Path) (len other_len : ℕ) → len ≡ field_len p → other_len ≡ field_len q → len ≤ other_len
    → ltb other_len len ≡ is_inside p q
not_inside p q len other_len e f h =
    le-ltb other_len len h
    ∙ sym (false_from_ne_true (is_inside p q) (λ inside. let l : field_len q < field_len p =
    longer_inside p q inside in omega arith))
