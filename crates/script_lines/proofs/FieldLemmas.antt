-- What the fields of a line say.
use Rattle.std.proofs.Common.{◌≡◌, ℕ, ◌+◌, ◌-◌, ◌*◌, ◌/◌, ◌%◌, ◌^◌, ◌<◌, ◌≤◌, true, false, not, cond, List, [], ◌∷◌}
use Rattle.std.proofs.Common.{length, take, drop, refl, sym, ap, ◌∙◌, subst, arith, nat_le, ◌==◌, Option, Some, None}
use Rattle.std.proofs.Common.{Result, Ok, Err, Bool, ◌&&◌, codes, inl, inr}
use Rattle.std.specs.List.{fold, position, position_or_len}
use Rattle.std.specs.Option.{MatchOption, is_some}
use Rattle.std.specs.Borrow.{Bor}
use Rattle.std.specs.Result.{MatchResult, OkIff, is_ok, result_ok}
use Rattle.std.proofs.lemmas.Bool.{le-leb, lt-leb, leb-false, eq-eqb, cases_lt, lt-ltb, le-ltb}
use Rattle.std.proofs.lemmas.List.Splits.{slice_split_first, slice_split_none, length-slice_split}
use Rattle.std.proofs.lemmas.List.Sums.{prefix_len_passes}
use Rattle.hex.specs.Hex.{decode_of, decode_sized, decode_pairs}
use Rattle.hex.specs.declared.error.FromHexError.{FromHexError}
use Rattle.hex.specs.declared.error.FromHexError.TheVariants.{OddLength, InvalidStringLength}
use Rattle.store_model.specs.Lists.{same_bytes}
use Rattle.script_lines.specs.Parsing.{parts_of, long_limit, long_of}
use Rattle.script_lines.proofs.LineLemmas.{not-yes}
use Rattle.store_model.specs.Grammar.{is_numeral, digits_value, number_limit, number_of, content_of, ok_value}

-- a digit behind the number so far
abbrev pub with_digit : ℕ → ℕ → ℕ
with_digit n c = 10 * n + (c - 0x30)

-- more digits make no smaller number
pub fold-grows : (digits : List ℕ) (n : ℕ) → n ≤ fold with_digit n digits
fold-grows [] n = omega arith
fold-grows (c ∷ digits) n = let more : n ≤ with_digit n c = omega arith
    in omega (arith, fold-grows digits (with_digit n c))

-- the number that digits spell, where it has 64 bits
pub number_small : (digits : List ℕ) (n : ℕ) → n ≡ fold with_digit 0 digits → n < 2 ^ 64
    → Some n ≡ cond (nat_le (digits_value digits) long_limit) (Some (digits_value digits)) None
unfolding digits_value
number_small digits n is small =
    let fits : fold with_digit 0 digits ≤ 18446744073709551615 = omega arith in
    rw (le-leb _ _ fits) (ap Some is)

-- and where it has more
pub number_large : (digits rest : List ℕ) (n c : ℕ) → fold with_digit n (c ∷ rest) ≡ fold with_digit 0 digits
    → 2 ^ 64 ≤ with_digit n c → ◌≡◌ {A = Option ℕ} None
    (cond (nat_le (digits_value digits) long_limit) (Some (digits_value digits)) None)
unfolding digits_value
number_large digits rest n c is large =
    let big : 18446744073709551615 < fold with_digit 0 digits = omega (arith, is, fold-grows rest (with_digit n c)) in
    rw (lt-leb _ _ big) refl

-- a number of 64 bits is one of 32 where it is small enough
pub narrowed : {E : Type 0} (text : List ℕ) (n : ℕ) (r : Result ℕ E) → Some n ≡ long_of text
    → OkIff r (n < 2 ^ 32) n → result_ok r ≡ number_of text
unfolding long_of number_of
narrowed {E = E} text n r is narrow = by_numeral (is_numeral text) (digits_value text) r is narrow
  where
    by_limit : (t : Bool) (v : ℕ) (r : Result ℕ E) → Some n ≡ cond t (Some v) None → OkIff r (n < 2 ^ 32) n
        → result_ok r ≡ cond (nat_le v number_limit) (Some v) None
    by_limit false v r is narrow = absurd (cc)
    by_limit true v (Ok x) is narrow =
        let same : n ≡ v = cc in
        rw (le-leb v number_limit (omega (arith, narrow.0, same))) (ap Some (narrow.1 ∙ same))
    by_limit true v (Err e) is narrow =
        let same : n ≡ v = cc in
        rw (lt-leb v number_limit (omega (arith, narrow, same))) refl

    by_numeral : (b : Bool) (v : ℕ) (r : Result ℕ E) → Some n ≡ cond (b && nat_le v long_limit) (Some v) None
        → OkIff r (n < 2 ^ 32) n → result_ok r ≡ cond (b && nat_le v number_limit) (Some v) None
    by_numeral false v r is narrow = absurd (cc)
    by_numeral true v r is narrow = by_limit (nat_le v long_limit) v r is narrow

-- and what is no number of 64 bits is none of 32
pub no_number : (text : List ℕ) → None ≡ long_of text → None ≡ number_of text
unfolding long_of number_of
no_number text none = by_numeral (is_numeral text) (digits_value text) none
  where
    by_limit : (t : Bool) (v : ℕ) → nat_le v long_limit ≡ t → ◌≡◌ {A = Option ℕ} None (cond t (Some v) None)
        → ◌≡◌ {A = Option ℕ} None (cond (nat_le v number_limit) (Some v) None)
    by_limit true v is none = absurd (cc)
    by_limit false v is none =
        let large = leb-false v long_limit is in
        rw (lt-leb v number_limit (omega (arith, large))) refl

    by_numeral : (b : Bool) (v : ℕ) → ◌≡◌ {A = Option ℕ} None (cond (b && nat_le v long_limit) (Some v) None)
        → ◌≡◌ {A = Option ℕ} None (cond (b && nat_le v number_limit) (Some v) None)
    by_numeral false v none = refl
    by_numeral true v none = by_limit (nat_le v long_limit) v refl none

-- `-` spells no bytes
pub content_of-dash : (text : List ℕ) → same_bytes text (codes "-") ≡ true → content_of text ≡ Some []
unfolding content_of
content_of-dash [] e = cc
content_of-dash (c ∷ text) e = ap (λ b. cond b (Some []) (ok_value (decode_of (c ∷ text)))) e

pub content_of-none : (text : List ℕ) → length text ≡ 0 → content_of text ≡ None
unfolding content_of
content_of-none [] e = refl
content_of-none (c ∷ text) e = absurd (omega arith)

-- pairs of digits spell the bytes that decoding gives
pub content_of-pairs : (text : List ℕ) → same_bytes text (codes "-") ≡ false → 0 < length text
    → content_of text ≡ ok_value (decode_of text)
unfolding content_of
content_of-pairs [] e some = absurd (omega arith)
content_of-pairs (c ∷ text) e some = ap (λ b. cond b (Some []) (ok_value (decode_of (c ∷ text)))) e

-- decoding into as much room as there are pairs
pub decode_sized-half : (text : List ℕ) (size : ℕ) → size ≡ length text / 2 → decode_sized text size ≡ decode_of text
decode_sized-half text size half =
    ap (λ b. cond (length text % 2 == 1) (Err OddLength) (cond b (decode_pairs 0 text) (Err InvalidStringLength)))
    (eq-eqb (length text / 2) size (sym half))

-- what decoding answered, as the definitions have it
pub decoded : (text bytes : List ℕ) (result : Result Unit FromHexError) (size : ℕ) → size ≡ length text / 2
    → MatchResult (decode_sized text size) (λ found. (result ≡ Ok tt) × (bytes ≡ found)) (λ e. result ≡ Err e)
    → ok_value (decode_of text) ≡ cond (is_ok result) (Some bytes) None
decoded text bytes result size half said =
    from_said (decode_of text)
    (subst (λ (r : Result (List ℕ) FromHexError). MatchResult r (λ found. (result ≡ Ok tt) × (bytes ≡ found))
    (λ e. result ≡ Err e)) (decode_sized-half text size half) said)
  where
    from_said : (r : Result (List ℕ) FromHexError)
        → MatchResult r (λ found. (result ≡ Ok tt) × (bytes ≡ found)) (λ e. result ≡ Err e)
        → ok_value r ≡ cond (is_ok result) (Some bytes) None
    from_said (Ok found) h = ap Some (sym h.1)
        ∙ sym (ap (λ (r : Result Unit FromHexError). cond (is_ok r) (Some bytes) None) h.0)
    from_said (Err e) h = sym (ap (λ (r : Result Unit FromHexError). cond (is_ok r) (Some bytes) None) h)

-- the parts of a line, by the place of the first space
pub parts-position : (text : List ℕ) (found : Option ℕ) → found ≡ position (λ c. c == 0x20) text
    → MatchOption found (parts_of text ≡ text ∷ [])
    (λ place. parts_of text ≡ take place text ∷ parts_of (drop (place + 1) text))
parts-position text found e =
    let place = position_or_len (λ c. c == 0x20) text in
    elim (cases_lt place (length text)) [
      | inl lt ↦
          subst (λ (r : Option ℕ). MatchOption r (parts_of text ≡ text ∷ [])
          (λ n. parts_of text ≡ take n text ∷ parts_of (drop (n + 1) text)))
          (sym (e ∙ ap (λ b. cond b (Some place) None) (lt-ltb place (length text) lt)))
          (slice_split_first (λ c. c == 0x20) text 0 lt)
      | inr le ↦
          subst (λ (r : Option ℕ). MatchOption r (parts_of text ≡ text ∷ [])
          (λ n. parts_of text ≡ take n text ∷ parts_of (drop (n + 1) text)))
          (sym (e ∙ ap (λ b. cond b (Some place) None) (le-ltb place (length text) le)))
          (slice_split_none (λ c. c == 0x20) text
          (λ k d h. not-yes _ (prefix_len_passes (λ c. not (c == 0x20)) text k d (omega arith))))
    ]

-- a line has a part at least
pub length-parts : (text : List ℕ) → 0 < length (parts_of text)
length-parts text = omega (arith, length-slice_split (λ c. c == 0x20) text)

-- a line that a space cuts has two parts at least
pub two_parts : (text word : List ℕ) (rest : Option (Bor (List ℕ)))
    → MatchOption rest (parts_of text ≡ word ∷ []) (λ r. parts_of text ≡ word ∷ parts_of r.now) → is_some rest ≡ true
    → 1 < length (parts_of text)
two_parts text word None parts some = cc
two_parts text word (Some rest) parts some = omega (arith, ap length parts, length-parts rest.now)
