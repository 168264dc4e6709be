-- Lemmas on places whose subtree has moved, and on equal paths.
use Rattle.std.proofs.Common.{◌≡◌, ℕ, ◌+◌, ◌-◌, ◌<◌, ◌≤◌, List, ◌++◌, length, take, drop, refl, sym, ap, ap₂, ◌∙◌}
use Rattle.std.proofs.Common.{subst, arith, Bool, true, false, IsTrue, length-append, nat_eq}
use Rattle.std.specs.List.{list_all}
use Rattle.std.specs.Bool.{Decides}
use Rattle.std.specs.Cmp.Lexicographic.{pointwise}
use Rattle.std.specs.Int.{w32, to_be_bytes}
use Rattle.std.proofs.lemmas.List.{append_cancel_left, drop_at, take_all}
use Rattle.std.proofs.lemmas.Slice.Eq.{bytes_eq-Decides, slice_eq-Decides}
use Rattle.std.proofs.lemmas.Bool.{and_from, le-leb, lt-leb}
use Rattle.std.proofs.lemmas.Bool.Decides.{same_from_decides}
use Rattle.store_model.specs.Lists.{zero_filled, same_bytes}
use Rattle.store_model.specs.Paths.{Path, is_name, is_path, is_part, is_place, fits_field, name_bytes, field_len}
use Rattle.store_model.specs.Paths.{field, key, replanted, is_at_or_inside}
use Rattle.store_model.proofs.PathsLemmas.{place_of_path}
use Rattle.path_keys.specs.Fields.{IsField}
use Rattle.path_keys.proofs.NameBytes.{name_bytes-append, first_true}
use Rattle.path_keys.proofs.PathBytes.{all_behind, all_of_both}
use Rattle.path_keys.proofs.PastBytes.{at_or_inside_split}
use Rattle.path_keys.proofs.KeyBytes.{same_path_from_field, field_read}

-- the bytes of a path and of what stands below it
pub bytes_of_below : (p old : Path) → is_at_or_inside p old ≡ true
    → name_bytes p ≡ name_bytes old ++ name_bytes (drop (length old) p)
bytes_of_below p old h = ap name_bytes (at_or_inside_split p old h) ∙ name_bytes-append old (drop (length old) p)

-- what stands behind the old path in the field of a key
pub below_found : (bytes front back shown ahead below : List ℕ) (p old : Path) (block : ℕ) → bytes ≡ front ++ back
    → length front ≡ 120 → is_place p ≡ true → bytes ≡ key p block
    → (IsTrue (is_place p) → front ≡ field p → shown ≡ name_bytes p) → ahead ≡ name_bytes old → shown ≡ ahead ++ below
    → name_bytes p ≡ name_bytes old ++ below
below_found bytes front back shown ahead below p old block parts long valid e names first stripped =
    sym (names valid (field_read bytes front back p block parts long valid e)) ∙ stripped ∙ ap (λ t. t ++ below) first

-- the bytes of the new place: what stood behind the old path stands behind the new one
pub bytes_replanted : (p old new : Path) (below : List ℕ) → is_at_or_inside p old ≡ true
    → name_bytes p ≡ name_bytes old ++ below
    → name_bytes (replanted old new p) ≡ name_bytes new ++ below
unfolding replanted
bytes_replanted p old new below h e =
    let rest = name_bytes (drop (length old) p) in
    name_bytes-append new (drop (length old) p)
    ∙ ap (λ t. name_bytes new ++ t) (append_cancel_left (name_bytes old) rest below (sym (bytes_of_below p old h) ∙ e))

pub len_replanted : (p old new : Path) (below : List ℕ) → is_at_or_inside p old ≡ true
    → name_bytes p ≡ name_bytes old ++ below
    → field_len (replanted old new p) ≡ field_len new + length below
len_replanted p old new below h e = ap length (bytes_replanted p old new below h e)
    ∙ length-append (name_bytes new) below

pub outgrown : (p old new : Path) (below : List ℕ) → is_at_or_inside p old ≡ true
    → name_bytes p ≡ name_bytes old ++ below
    → 120 < field_len new + length below → fits_field (replanted old new p) ≡ false
outgrown p old new below h e more = lt-leb _ 120 (omega (arith, len_replanted p old new below h e))

pub still_fits : (p old new : Path) (below : List ℕ) → is_at_or_inside p old ≡ true
    → name_bytes p ≡ name_bytes old ++ below
    → field_len new + length below ≤ 120 → fits_field (replanted old new p) ≡ true
still_fits p old new below h e fits = le-leb _ 120 (omega (arith, len_replanted p old new below h e))

pub key_replanted : (p old new : Path) (below written : List ℕ) (n block : ℕ) → is_at_or_inside p old ≡ true
    → name_bytes p ≡ name_bytes old ++ below → n ≡ block
    → written ≡ zero_filled 120 (name_bytes new ++ below) ++ to_be_bytes w32 n
    → written ≡ key (replanted old new p) block
unfolding key field
key_replanted p old new below written n block h e same is =
    is ∙ ap₂ (λ t k. zero_filled 120 t ++ to_be_bytes w32 k) (sym (bytes_replanted p old new below h e)) same

-- what is moved from a place to a path stands at a place again, where the field has room
pub place_replanted : (p old new : Path) → is_at_or_inside p old ≡ true → is_place p ≡ true → is_path new ≡ true
    → fits_field (replanted old new p) ≡ true → is_place (replanted old new p) ≡ true
unfolding replanted
place_replanted p old new h hp hn fits =
    and_from (list_all is_part (replanted old new p)) _
    (all_of_both is_part new (drop (length old) p) (first_true (list_all is_part new) _ (place_of_path new hn))
    (all_behind is_part old (drop (length old) p)
    (subst (λ t. list_all is_part t ≡ true) (at_or_inside_split p old h) (first_true (list_all is_part p) _ hp))))
    fits

-- a list behind so many of its elements
abbrev pub behind : ℕ → List ℕ → List ℕ
behind count names = take (length names - count) (drop count names)

-- what the names of a path have behind those of a path at which or below which it lies
pub names_behind : (p old : Path) (names ahead : List ℕ) → is_at_or_inside p old ≡ true → names ≡ name_bytes p
    → ahead ≡ name_bytes old → name_bytes p ≡ name_bytes old ++ behind (length ahead) names
names_behind p old names ahead h names_are ahead_is =
    let rest = name_bytes (drop (length old) p) in
    let split : names ≡ ahead ++ rest = names_are ∙ bytes_of_below p old h ∙ ap (λ t. t ++ rest) (sym ahead_is) in
    let past : drop (length ahead) names ≡ rest =
    ap (drop (length ahead)) split ∙ drop_at ahead rest (length ahead) refl in
    bytes_of_below p old h
    ∙ ap (λ t. name_bytes old ++ t) (sym (ap (take (length names - length ahead)) past
    ∙ take_all (length names - length ahead) rest (omega (arith, ap length split, length-append ahead rest))))

pub old_within : (p old : Path) (names ahead : List ℕ) → is_at_or_inside p old ≡ true → names ≡ name_bytes p
    → ahead ≡ name_bytes old → length ahead ≤ length names
old_within p old names ahead h names_are ahead_is =
    omega (
      arith,
      ap length names_are,
      ap length ahead_is,
      ap length (bytes_of_below p old h),
      length-append (name_bytes old) (name_bytes (drop (length old) p)),
    )

names_replanted : (p old new : Path) → is_at_or_inside p old ≡ true → is_path p ≡ true → is_path new ≡ true
    → list_all is_name (replanted old new p) ≡ true
unfolding replanted
names_replanted p old new h hp hn =
    all_of_both is_name new (drop (length old) p) (first_true (list_all is_name new) _ hn)
    (all_behind is_name old (drop (length old) p)
    (subst (λ t. list_all is_name t ≡ true) (at_or_inside_split p old h) (first_true (list_all is_name p) _ hp)))

-- the field of a path in its new place
pub replanted_field : (p old new : Path) (below bytes : List ℕ) (len : ℕ) → is_at_or_inside p old ≡ true
    → is_path p ≡ true → is_path new ≡ true → name_bytes p ≡ name_bytes old ++ below
    → bytes ≡ zero_filled 120 (name_bytes new ++ below) → len ≡ field_len new + length below → len ≤ 120
    → IsField bytes len (replanted old new p)
unfolding field
replanted_field p old new below bytes len h hp hn e is same fits = record {
  path = and_from _ _ (names_replanted p old new h hp hn) (still_fits p old new below h e (omega arith));
  bytes_are = is ∙ ap (zero_filled 120) (sym (bytes_replanted p old new below h e));
  len_is = same ∙ sym (len_replanted p old new below h e);
}

-- paths are equal where their fields are
pub same_field : (bytes others : List ℕ) (len other_len : ℕ) (p q : Path) → IsField bytes len p
    → IsField others other_len q → Decides (same_bytes bytes others) (p ≡ q)
same_field bytes others len other_len p q hp hq =
    let decides = bytes_eq-Decides bytes others in (
      λ same. same_path_from_field p q hp.path hq.path (sym hp.bytes_are ∙ decides.0 same ∙ hq.bytes_are),
      λ e. decides.1 (hp.bytes_are ∙ ap field e ∙ sym hq.bytes_are),
    )

pub same_names : (bytes others : List ℕ) (len other_len : ℕ) (p q : Path) (r : Bool) → IsField bytes len p
    → IsField others other_len q → r ≡ same_bytes bytes others
    → r ≡ pointwise (pointwise nat_eq) p q
same_names bytes others len other_len p q r hp hq e =
    e ∙ same_from_decides (same_bytes bytes others) (pointwise (pointwise nat_eq) p q)
    (same_field bytes others len other_len p q hp hq) (slice_eq-Decides bytes_eq-Decides p q _ refl)
