-- What a spelling tells, and what a spelling is.
use Rattle.std.proofs.Common.{◌≡◌, ℕ, ◌+◌, ◌*◌, ◌/◌, ◌%◌, ◌<◌, ◌≤◌, List, [], ◌∷◌, ◌++◌, length, take, drop, get_or}
use Rattle.std.proofs.Common.{refl, sym, ap, ap₂, ◌∙◌, arith, Bool, true, false, eqb, not, ◌&&◌, IsTrue, nat_le}
use Rattle.std.proofs.Common.{append_assoc, append-nil, length-append, zero, suc, ◌↔◌}
use Rattle.std.specs.List.{AllByRecursion, list_all}
use Rattle.std.specs.Cmp.Lexicographic.{bytes_decides}
use Rattle.std.proofs.lemmas.List.{take-append-drop, drop_all}
use Rattle.std.proofs.lemmas.Bool.{cond-false, cond-true, ne_eqb, leb-true, le-leb, and_from, eqb-false}
use Rattle.store_model.specs.Lists.{same_bytes}
use Rattle.store_model.specs.Paths.{is_name, is_name_byte, is_path, field_len, name_bytes}
use Rattle.store_model.proofs.ListsLemmas.{first_true, second_true, all_from_test}
use Rattle.host_names.specs.HostNames.{is_plain, upper_digit, escaped_byte, escaped, is_host_byte, is_host_name}
use Rattle.host_names.specs.Reading.{digit_value, unescaped}

pub digit_of_number : (n : ℕ) → n < 16 → digit_value (upper_digit n) ≡ n
digit_of_number n h = grind arith

pub digit_low : (n : ℕ) → n < 16 → 48 ≤ upper_digit n
digit_low n h = grind arith

pub digit_high : (n : ℕ) → n < 16 → upper_digit n ≤ 70
digit_high n h = grind arith

-- a byte that is not `%` tells itself
pub unescaped-plain : (c : ℕ) (xs : List ℕ) → (c ≡ 37 → ⊥) → unescaped (c ∷ xs) ≡ c ∷ unescaped xs
unfolding unescaped
unescaped-plain c [] h = refl
unescaped-plain c (x ∷ []) h = refl
unescaped-plain c (x ∷ y ∷ xs) h = cond-false (eqb c 37) _ _ (ne_eqb c 37 h)

pub unescaped-digits : (x y : ℕ) (xs : List ℕ)
    → unescaped (37 ∷ x ∷ y ∷ xs) ≡ (16 * digit_value x + digit_value y) ∷ unescaped xs
unfolding unescaped
unescaped-digits x y xs = refl

plain_not_percent : (c : ℕ) → is_plain c ≡ true → c ≡ 37 → ⊥
plain_not_percent c h e = grind arith

-- the spelling of a byte tells it
pub unescaped-byte : (c : ℕ) (xs : List ℕ) → c < 256 → unescaped (escaped_byte c ++ xs) ≡ c ∷ unescaped xs
unescaped-byte c xs h = by_plain (is_plain c) refl
  where
    by_plain : (b : Bool) → is_plain c ≡ b → unescaped (escaped_byte c ++ xs) ≡ c ∷ unescaped xs
    by_plain true e = ap (λ t. unescaped (t ++ xs)) (cond-true (is_plain c) _ _ e)
        ∙ unescaped-plain c xs (plain_not_percent c e)
    by_plain false e =
        let high : digit_value (upper_digit (c / 16)) ≡ c / 16 = digit_of_number (c / 16) (omega arith) in
        let low : digit_value (upper_digit (c % 16)) ≡ c % 16 = digit_of_number (c % 16) (omega arith) in
        ap (λ t. unescaped (t ++ xs)) (cond-false (is_plain c) _ _ e)
        ∙ unescaped-digits (upper_digit (c / 16)) (upper_digit (c % 16)) xs
        ∙ ap (λ v. v ∷ unescaped xs) (ap (λ v. 16 * v + digit_value (upper_digit (c % 16))) high
        ∙ ap (λ v. 16 * (c / 16) + v) low ∙ omega arith)

byte_below : (c : ℕ) → IsTrue (is_host_byte c) → c < 256
byte_below c h =
    omega (
      arith,
      leb-true c 255
          (second_true (nat_le 1 c) (nat_le c 255) (first_true (nat_le 1 c && nat_le c 255) _ h)),
    )

bytes_below : (n : List ℕ) → IsTrue (list_all is_host_byte n) → AllByRecursion (λ c. c < 256) n
bytes_below n h = all_from_test is_host_byte (λ c. c < 256) byte_below n h

unescaped-bytes : (n : List ℕ) → AllByRecursion (λ c. c < 256) n → unescaped (escaped n) ≡ n
unfolding escaped unescaped
unescaped-bytes [] h = refl
unescaped-bytes (c ∷ n) h = unescaped-byte c (escaped n) h.0 ∙ ap (λ t. c ∷ t) (unescaped-bytes n h.1)

host_bytes : (n : List ℕ) → IsTrue (is_host_name n) → IsTrue (list_all is_host_byte n)
host_bytes n h = second_true (nat_le 1 (length n)) _
    (first_true (nat_le 1 (length n) && list_all is_host_byte n) _ (first_true _ (not (same_bytes n (46 ∷ 46 ∷ []))) h))

-- the spelling of a name tells it
pub unescaped-escaped : (n : List ℕ) → IsTrue (is_host_name n) → unescaped (escaped n) ≡ n
unescaped-escaped n h = unescaped-bytes n (bytes_below n (host_bytes n h))

pub same_spelling : (n m : List ℕ) → IsTrue (is_host_name n) → IsTrue (is_host_name m) → escaped n ≡ escaped m → n ≡ m
same_spelling n m h k e = sym (unescaped-escaped n h) ∙ ap unescaped e ∙ unescaped-escaped m k

-- the name of a host that a text spells is what the text tells
pub told : (text m : List ℕ) → IsTrue (is_host_name m) → escaped m ≡ text → unescaped text ≡ m
told text m h e = ap unescaped (sym e) ∙ unescaped-escaped m h

-- the spelling of a name is no text that tells itself, unless the name is
not_dots : (n : List ℕ) → IsTrue (is_host_name n) → (dots : List ℕ) → unescaped dots ≡ dots
    → same_bytes dots dots ≡ true → not (same_bytes n dots) ≡ true
    → not (same_bytes (escaped n) dots) ≡ true
not_dots n h dots plain self other = by_same (same_bytes (escaped n) dots) refl
  where
    by_same : (b : Bool) → same_bytes (escaped n) dots ≡ b → not (same_bytes (escaped n) dots) ≡ true
    by_same false e = ap not e
    by_same true e =
        let is : n ≡ dots = sym (unescaped-escaped n h) ∙ ap unescaped ((bytes_decides (escaped n) dots).0 e) ∙ plain in
        let wrong : true ≡ false = sym other ∙ ap (λ t. not (same_bytes t dots)) is ∙ ap not self in
        absurd cc

digit_is_name : (d : ℕ) → 48 ≤ d → d ≤ 70 → is_name_byte d ≡ true
digit_is_name d low high =
    and_from (nat_le 33 d && nat_le d 126) (not (eqb d 47))
    (and_from _ _ (le-leb 33 d (omega (arith, low))) (le-leb d 126 (omega (arith, high))))
    (ap not (ne_eqb d 47 (λ e. omega (arith, e, low))))

number_is_name : (n : ℕ) → n < 16 → is_name_byte (upper_digit n) ≡ true
number_is_name n h = digit_is_name (upper_digit n) (digit_low n h) (digit_high n h)

names_in_byte : (c : ℕ) (xs : List ℕ) → IsTrue (is_host_byte c) → list_all is_name_byte xs ≡ true
    → list_all is_name_byte (escaped_byte c ++ xs) ≡ true
names_in_byte c xs h more = by_plain (is_plain c) refl
  where
    by_plain : (b : Bool) → is_plain c ≡ b → list_all is_name_byte (escaped_byte c ++ xs) ≡ true
    by_plain true e =
        ap (λ t. list_all is_name_byte (t ++ xs)) (cond-true (is_plain c) _ _ e)
        ∙ and_from (is_name_byte c) _
        (and_from (nat_le 33 c && nat_le c 126) (not (eqb c 47)) (first_true (nat_le 33 c && nat_le c 126) _ e)
        (second_true (nat_le 1 c && nat_le c 255) _ h)) more
    by_plain false e =
        let small : c < 256 = byte_below c h in
        let high : is_name_byte (upper_digit (c / 16)) ≡ true = number_is_name (c / 16) (omega (arith, small)) in
        let low : is_name_byte (upper_digit (c % 16)) ≡ true = number_is_name (c % 16) (omega arith) in
        ap (λ t. list_all is_name_byte (t ++ xs)) (cond-false (is_plain c) _ _ e)
        ∙ and_from (is_name_byte (upper_digit (c / 16))) _ high
        (and_from (is_name_byte (upper_digit (c % 16))) _ low more)

names_in_bytes : (n : List ℕ) → IsTrue (list_all is_host_byte n) → list_all is_name_byte (escaped n) ≡ true
unfolding escaped
names_in_bytes [] h = refl
names_in_bytes (c ∷ n) h = names_in_byte c (escaped n) (first_true (is_host_byte c) _ h)
    (names_in_bytes n (second_true (is_host_byte c) _ h))

byte_has_some : (c : ℕ) (xs : List ℕ) → nat_le 1 (length (escaped_byte c ++ xs)) ≡ true
byte_has_some c xs = by_plain (is_plain c) refl
  where
    by_plain : (b : Bool) → is_plain c ≡ b → nat_le 1 (length (escaped_byte c ++ xs)) ≡ true
    by_plain true e = ap (λ t. nat_le 1 (length (t ++ xs))) (cond-true (is_plain c) _ _ e) ∙ le-leb 1 _ (omega arith)
    by_plain false e = ap (λ t. nat_le 1 (length (t ++ xs))) (cond-false (is_plain c) _ _ e) ∙ le-leb 1 _ (omega arith)

has_some : (n : List ℕ) → IsTrue (nat_le 1 (length n)) → nat_le 1 (length (escaped n)) ≡ true
unfolding escaped
has_some [] h = absurd cc
has_some (c ∷ n) h = byte_has_some c (escaped n)

dot_alone : unescaped (46 ∷ []) ≡ 46 ∷ []
unfolding unescaped
dot_alone = refl

dots_alone : unescaped (46 ∷ 46 ∷ []) ≡ 46 ∷ 46 ∷ []
unfolding unescaped
dots_alone = refl

-- the spelling of a name of the host is a name of a path
pub escaped_is_name : (n : List ℕ) → IsTrue (is_host_name n) → IsTrue (is_name (escaped n))
escaped_is_name n h =
    let front : IsTrue (nat_le 1 (length n) && list_all is_host_byte n && not (same_bytes n (46 ∷ []))) =
    first_true _ (not (same_bytes n (46 ∷ 46 ∷ []))) h in
    let some : IsTrue (nat_le 1 (length n)) =
    first_true (nat_le 1 (length n)) (list_all is_host_byte n) (first_true _ (not (same_bytes n (46 ∷ []))) front)
    in
    let dot : IsTrue (not (same_bytes n (46 ∷ []))) =
    second_true (nat_le 1 (length n) && list_all is_host_byte n) _ front in
    let dots : IsTrue (not (same_bytes n (46 ∷ 46 ∷ []))) =
    second_true (nat_le 1 (length n) && list_all is_host_byte n && not (same_bytes n (46 ∷ []))) _ h in
    and_from _ _ (and_from _ _ (and_from _ _ (has_some n some) (names_in_bytes n (host_bytes n h)))
    (not_dots n h (46 ∷ []) dot_alone refl dot)) (not_dots n h (46 ∷ 46 ∷ []) dots_alone refl dots)

field_len-one : (n : List ℕ) → field_len (n ∷ []) ≡ length n + 1
unfolding name_bytes
field_len-one n = ap length (append-nil (n ++ 0 ∷ [])) ∙ length-append n (0 ∷ [])

-- a spelling is a path by itself where a field holds it
pub path_of_one : (n : List ℕ) → IsTrue (is_host_name n) → IsTrue (is_path (escaped n ∷ []))
    ↔ (length (escaped n) ≤ 119)
path_of_one n h = (
  (λ held. omega (
    arith,
    leb-true (field_len (escaped n ∷ [])) 120 (second_true (is_name (escaped n) && true) _ held),
    field_len-one (escaped n),
  )),
  (λ few. and_from (is_name (escaped n) && true) _ (and_from (is_name (escaped n)) true (escaped_is_name n h) refl)
      (le-leb (field_len (escaped n ∷ [])) 120 (omega (arith, few, field_len-one (escaped n))))),
)

-- the first byte that a text tells
pub step_digits : (xs : List ℕ) → 3 ≤ length xs → get_or xs 0 0 ≡ 37
    → unescaped xs ≡ (16 * digit_value (get_or xs 1 0) + digit_value (get_or xs 2 0)) ∷ unescaped (drop 3 xs)
step_digits [] n e = absurd (omega arith)
step_digits (c ∷ []) n e = absurd (omega arith)
step_digits (c ∷ h ∷ []) n e = absurd (omega arith)
step_digits (c ∷ h ∷ l ∷ xs) n e = ap (λ v. unescaped (v ∷ h ∷ l ∷ xs)) e ∙ unescaped-digits h l xs

pub step_plain : (xs : List ℕ) → 0 < length xs → (get_or xs 0 0 ≡ 37 → ⊥)
    → unescaped xs ≡ get_or xs 0 0 ∷ unescaped (drop 1 xs)
step_plain [] n other = absurd (omega arith)
step_plain (c ∷ xs) n other = unescaped-plain c xs other

pub step_short : (xs : List ℕ) → 0 < length xs → length xs < 3 → unescaped xs ≡ get_or xs 0 0 ∷ unescaped (drop 1 xs)
unfolding unescaped
step_short [] n few = absurd (omega arith)
step_short (c ∷ []) n few = refl
step_short (c ∷ h ∷ []) n few = refl
step_short (c ∷ h ∷ l ∷ xs) n few = absurd (omega arith)

pub escaped-append : (xs ys : List ℕ) → escaped (xs ++ ys) ≡ escaped xs ++ escaped ys
unfolding escaped
escaped-append [] ys = refl
escaped-append (c ∷ xs) ys = ap (λ t. escaped_byte c ++ t) (escaped-append xs ys)
    ∙ sym (append_assoc (escaped_byte c) (escaped xs) (escaped ys))

pub escaped-nil : escaped [] ≡ []
unfolding escaped
escaped-nil = refl

escaped-suc : (xs : List ℕ) (i : ℕ) → i < length xs
    → escaped (take (suc i) xs) ≡ escaped (take i xs) ++ escaped_byte (get_or xs i 0)
unfolding escaped
escaped-suc [] i h = absurd (omega arith)
escaped-suc (c ∷ xs) zero h = append-nil (escaped_byte c)
escaped-suc (c ∷ xs) (suc i) h =
    ap (λ t. escaped_byte c ++ t) (escaped-suc xs i (omega arith))
    ∙ sym (append_assoc (escaped_byte c) (escaped (take i xs)) (escaped_byte (get_or xs i 0)))

-- the spelling of one byte more
pub escaped-more : (xs : List ℕ) (i : ℕ) → i < length xs
    → escaped (take (i + 1) xs) ≡ escaped (take i xs) ++ escaped_byte (get_or xs i 0)
escaped-more xs i h =
    let more : i + 1 ≡ suc i = omega arith in
    ap (λ k. escaped (take k xs)) more ∙ escaped-suc xs i h

-- the spelling of all bytes is not shorter
pub escaped-longer : (xs : List ℕ) (i : ℕ) → length (escaped (take i xs)) ≤ length (escaped xs)
escaped-longer xs i =
    let parts : length (escaped (take i xs ++ drop i xs)) ≡ length (escaped xs) =
    ap (λ t. length (escaped t)) (take-append-drop i xs) in
    omega (
      arith,
      parts,
      ap length (escaped-append (take i xs) (drop i xs)),
      length-append (escaped (take i xs)) (escaped (drop i xs)),
    )

-- the tests of a name, where all but the last hold
pub name_test : (n : List ℕ) (r : Bool) → eqb (length n) 0 ≡ false → list_all is_host_byte n ≡ true
    → not (same_bytes n (46 ∷ [])) ≡ true
    → r ≡ not (same_bytes n (46 ∷ 46 ∷ [])) → r ≡ is_host_name n
name_test n r some all dot last =
    last ∙ ap (λ b. b && not (same_bytes n (46 ∷ 46 ∷ [])))
    (sym (ap₂ ◌&&◌ (ap₂ ◌&&◌ (le-leb 1 (length n) (omega (arith, eqb-false _ _ some))) all) dot))

unescaped-nil : unescaped [] ≡ []
unfolding unescaped
unescaped-nil = refl

-- a text with no byte left
pub told_all : (xs read : List ℕ) (at : ℕ) → unescaped xs ≡ read ++ unescaped (drop at xs)
    → length xs ≤ at → read ≡ unescaped xs
told_all xs read at e last =
    sym (e ∙ ap (λ t. read ++ unescaped t) (drop_all at xs last) ∙ ap (λ t. read ++ t) unescaped-nil ∙ append-nil read)
