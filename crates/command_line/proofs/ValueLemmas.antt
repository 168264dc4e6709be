-- What `clap` asks of the values of a well-formed line holds of them.
use Rattle.std.proofs.Common.{◌≡◌, ◌∙◌, ℕ, ◌+◌, ◌-◌, ◌*◌, ◌%◌, ◌^◌, ◌≤◌, Bool, true, false, cond, ◌==◌, ◌&&◌, List, []}
use Rattle.std.proofs.Common.{◌∷◌, length, Option, Some, None, Err, nat_le, nat_lt, refl, sym, ap, arith, codes, subst}
use Rattle.std.proofs.Common.{⊎_elim}
use Rattle.std.specs.List.{fold, list_all, list_any}
use Rattle.std.specs.Char.{digit_value}
use Rattle.std.specs.Str.{bytes_eq}
use Rattle.std.specs.Str.Parse.{digits_value_after, without_leading_plus}
use Rattle.std.specs.Borrow.{Bor}
use Rattle.std.proofs.lemmas.Bool.{cases_Bool, false≢true, le-leb, leb-true, le-ltb, lt-ltb, eqb-true}
use Rattle.clap.specs.ValueTests as tests
use Rattle.clap.specs.ValueTests.{accepts, is_unsigned_in}
use Rattle.clap.specs.Walk.{Text}
use Rattle.clap.specs.declared.builder.value_parser.ValueParser.{ValueParser}
use Rattle.clap.specs.declared.builder.value_parser.ValueParser.TheVariants as parsers
use Rattle.clap.proofs.WalkLemmas.{list_any-map}
use Rattle.hex.specs.Hex.{decode_pairs}
use Rattle.hex.specs.declared.error.FromHexError.TheVariants.{OddLength}
use Rattle.store_model.specs.declared.draw_kind.DrawKind.{DrawKind}
use Rattle.store_model.specs.Grammar.{◌>>=◌, digits_value, is_digit, is_numeral, number_limit, number_of, ok_value}
use Rattle.store_model.specs.Parameters.{seed_len}
use Rattle.store_model.specs.Words.{kind_of_word, number_in, seed_of_word}
use Rattle.store_model.proofs.ListsLemmas.{first_true, second_true}
use Rattle.command_line.specs.Line.{TakesDraws}
use Rattle.command_line.proofs.WalkLemmas.{all_true, is_plain}
use Rattle.command_line.proofs.SingleWords.{by_word, nothing}
use Rattle.command_line.proofs.TakenLines.{Fits}

-- a value that is there under a condition
pub some_if : {A : Type 0} (b : Bool) (x y : A) → cond b (Some x) None ≡ Some y → (b ≡ true) × (x ≡ y)
some_if true x y e = (refl, ap (λ o. elim o [ None ↦ x | Some z ↦ z ]) e)
some_if false x y e = absurd (cc)

-- ---- digits

digit_range : (c : ℕ) → is_digit c ≡ true → (48 ≤ c) × (c ≤ 57)
digit_range c h = (leb-true _ _ (first_true _ _ h), leb-true _ _ (second_true _ _ h))

digit_is : (c : ℕ) → is_digit c ≡ true → digit_value c ≡ c - 48
digit_is c h =
    let range = digit_range c h in
    rw (le-ltb c 48 range.0, lt-ltb c 58 (omega (arith, range.1))) refl

digit_small : (c : ℕ) → is_digit c ≡ true → nat_lt (digit_value c) 10 ≡ true
digit_small c h = let range = digit_range c h in rw (digit_is c h) (lt-ltb _ _ (omega (arith, range.0, range.1)))

value_after : (digits : List ℕ) (n : ℕ) → list_all is_digit digits ≡ true
    → digits_value_after 10 n digits ≡ fold (λ m c. 10 * m + (c - 48)) n digits
value_after [] n h = refl
value_after (c ∷ digits) n h =
    let same : n * 10 + digit_value c ≡ 10 * n + (c - 48) = rw (digit_is c (first_true _ _ h)) (omega arith) in
    ap (λ m. digits_value_after 10 m digits) same ∙ value_after digits (10 * n + (c - 48)) (second_true _ _ h)

digits_small : (digits : List ℕ) → list_all is_digit digits ≡ true
    → list_all (λ d. nat_lt (digit_value d) 10) digits ≡ true
digits_small [] h = refl
digits_small (c ∷ digits) h = all_true _ _ (digit_small c (first_true _ _ h)) (digits_small digits (second_true _ _ h))

-- a numeral has a first digit, and digits alone
record IsDigits (text : Text) : Type 0 where
  pub all : list_all is_digit text ≡ true
  pub plain : is_plain text ≡ true
  pub some : nat_lt 0 (length text) ≡ true
  pub no_plus : without_leading_plus text ≡ text

not_it : (c n : ℕ) → (c ≡ n → ⊥) → (c == n) ≡ false
not_it c n other = ⊎_elim (λ yes. absurd (other (eqb-true c n yes))) (λ no. no) (cases_Bool (c == n))

from_digit : (c : ℕ) (digits : List ℕ) → list_all is_digit (c ∷ digits) ≡ true → IsDigits (c ∷ digits)
from_digit c digits h =
    let range = digit_range c (first_true _ _ h) in
    record {
      all = h;
      plain = rw (not_it c 45 (λ e. omega (arith, e, range.0))) refl;
      some = lt-ltb 0 (length (c ∷ digits)) (omega arith);
      no_plus = rw (not_it c 43 (λ e. omega (arith, e, range.0))) refl;
    }

numeral_digits : (text : Text) → is_numeral text ≡ true → IsDigits text
numeral_digits [] h = absurd (false≢true h)
numeral_digits (c ∷ []) h = from_digit c [] (all_true _ _ h refl)
numeral_digits (c ∷ d ∷ digits) h = from_digit c (d ∷ digits) (second_true _ _ h)

-- ---- numbers

number_is : (text : Text) (n : ℕ) → number_of text ≡ Some n
    → (is_numeral text ≡ true) × (digits_value text ≡ n) × (n ≤ number_limit)
unfolding number_of
number_is text n e =
    let found = some_if _ _ _ e in
    (first_true _ _ found.0, found.1, subst (λ m. m ≤ number_limit) found.1 (leb-true _ _ (second_true _ _ found.0)))

pub number_limited : (text : Text) (n : ℕ) → number_of text ≡ Some n → nat_le n number_limit ≡ true
number_limited text n e = le-leb _ _ (number_is text n e).2

-- a number in the range passes
pub number_fits : (text : Text) (low high n : ℕ) → number_of text ≡ Some n → nat_le low n ≡ true
    → nat_le n high ≡ true → Fits (parsers.Unsigned low high) text
unfolding digits_value
number_fits text low high n e from to =
    let found = number_is text n e in
    let digits = numeral_digits text found.0 in
    let n_is : digits_value_after 10 0 text ≡ n = value_after text 0 digits.all ∙ found.1 in
    let limit = found.2 in
    record {
      plain = digits.plain;
      passes = ap (λ (t : Text). tests.is_numeral t
          && (nat_lt (digits_value_after 10 0 t) (2 ^ 64)
          && (nat_le low (digits_value_after 10 0 t) && nat_le (digits_value_after 10 0 t) high))) digits.no_plus
          ∙ all_true _ _ (all_true _ _ digits.some (digits_small text digits.all))
          (ap (λ m. nat_lt m (2 ^ 64) && (nat_le low m && nat_le m high)) n_is
          ∙ all_true _ _ (lt-ltb n (2 ^ 64) (omega (arith, limit))) (all_true _ _ from to));
    }

-- the number of a word that spells one in the range
in_range : (low high n : ℕ) (text : Text) → number_in low high text ≡ Some n
    → (number_of text ≡ Some n) × (nat_le low n ≡ true) × (nat_le n high ≡ true)
unfolding number_in
in_range low high n text e = go (number_of text) e
  where
    go : (o : Option ℕ) → (o >>= λ m. cond (nat_le low m && nat_le m high) (Some m) None) ≡ Some n
        → (o ≡ Some n) × (nat_le low n ≡ true) × (nat_le n high ≡ true)
    go None h = absurd (cc)
    go (Some m) h =
        let found = some_if _ _ _ h in (
          ap Some found.1,
          subst (λ k. nat_le low k ≡ true) found.1 (first_true _ _ found.0),
          subst (λ k. nat_le k high ≡ true) found.1 (second_true _ _ found.0),
        )

pub range_fits : (low high n : ℕ) (text : Text) → number_in low high text ≡ Some n
    → Fits (parsers.Unsigned low high) text
range_fits low high n text e = let found = in_range low high n text e
    in number_fits text low high n found.0 found.1 found.2

-- ---- seeds

no_hyphen_seed : (digits : List ℕ) → seed_of_word (45 ∷ digits) ≡ None
unfolding seed_of_word decode_pairs
no_hyphen_seed digits = go (length (45 ∷ digits) == 2 * seed_len) (length (45 ∷ digits) % 2 == 1) digits
  where
    go : (sized odd : Bool) (digits : List ℕ)
        → cond sized (ok_value (cond odd (Err OddLength) (decode_pairs 0 (45 ∷ digits)))) None ≡ None
    go false odd digits = refl
    go true true digits = refl
    go true false [] = refl
    go true false (c ∷ digits) = refl

pub seed_plain : (text seed : List ℕ) → seed_of_word text ≡ Some seed → is_plain text ≡ true
seed_plain [] seed e = refl
seed_plain (c ∷ digits) seed e =
    ⊎_elim (λ yes. let none = no_hyphen_seed digits in let is = eqb-true c 45 yes in absurd (cc))
    (λ no. rw no refl) (cases_Bool (c == 45))

-- ---- draws

-- a word that names a draw passes, and is no flag
pub draw_fits : (draws : ValueParser) (text : Text) (kind : DrawKind) → TakesDraws draws
    → kind_of_word text ≡ Some kind → Fits draws text
unfolding kind_of_word
draw_fits draws text kind takes e =
    ⊎_elim (λ here. subst (Fits draws) (sym here.0) (named (codes "ruler") refl refl))
    (λ other. ⊎_elim (λ here. subst (Fits draws) (sym here.0) (named (codes "sha256") refl refl))
    (λ none. nothing kind none) (by_word text (codes "sha256") _ _ kind other))
    (by_word text (codes "ruler") _ _ kind e)
  where
    named : (name : Text) → is_plain name ≡ true
        → list_any (λ (draw : Text). bytes_eq draw name) (codes "ruler" ∷ codes "sha256" ∷ []) ≡ true → Fits draws name
    named name plain listed = record {
      plain = plain;
      passes = ap (λ parser. accepts false parser name) takes.parser_is
          ∙ list_any-map (λ (draw : Text). bytes_eq draw name) (λ (draw : Bor Text). draw.now) takes.names.now
          ∙ ap (list_any (λ (draw : Text). bytes_eq draw name)) takes.names_are ∙ listed;
    }
