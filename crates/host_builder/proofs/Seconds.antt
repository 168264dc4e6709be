-- Which digits say seconds that a host can set.
use Rattle.std.proofs.Common.{◌≡◌, ℕ, ◌<◌, ◌^◌, Bool, true, false, ◌&&◌, nat_lt, nat_eq, if◌then◌else◌, List, Result}
use Rattle.std.proofs.Common.{Ok, Err}
use Rattle.std.proofs.Common.{Some, None, refl, sym, ap, subst, ◌∙◌, arith}
use Rattle.std.specs.Fmt.{decimal}
use Rattle.std.specs.Str.{IsUtf8}
use Rattle.std.specs.Str.Parse.{digits_value, ParsesUnsigned}
use Rattle.std.specs.Cmp.Lexicographic.{pointwise, bytes_decides}
use Rattle.std.proofs.lemmas.Bool.{and_parts, and_from, ltb-true, lt-ltb}
use Rattle.std.proofs.lemmas.Fmt.{parse-decimal, decimal_is_IsNumeral, IsAscii-decimal}
use Rattle.std.proofs.lemmas.Str.{IsUtf8-from_ascii}
use Rattle.host_builder.specs.HostAttributes.{seconds_of}

-- none, where it can't be that they are the digits of such a number
none_unless : (digits : List ℕ)
    → (digits ≡ decimal (digits_value 10 digits) → digits_value 10 digits < 2 ^ 63 → ⊥) → None ≡ seconds_of digits
none_unless digits not = by_test (pointwise nat_eq digits (decimal (digits_value 10 digits))
    && nat_lt (digits_value 10 digits) (2 ^ 63)) refl
  where
    by_test : (b : Bool) → (pointwise nat_eq digits (decimal (digits_value 10 digits))
        && nat_lt (digits_value 10 digits) (2 ^ 63)) ≡ b
        → None ≡ (if b then Some (digits_value 10 digits) else None)
    by_test true is =
        let parts = and_parts (pointwise nat_eq digits (decimal (digits_value 10 digits)))
        (nat_lt (digits_value 10 digits) (2 ^ 63)) is in
        absurd (not ((bytes_decides digits (decimal (digits_value 10 digits))).0 parts.0)
        (ltb-true (digits_value 10 digits) (2 ^ 63) parts.1))
    by_test false is = refl

pub seconds_of_no_text : (digits : List ℕ) → (IsUtf8 digits → ⊥) → None ≡ seconds_of digits
seconds_of_no_text digits not = none_unless digits (λ is small.
    not (subst IsUtf8 (sym is)
    (IsUtf8-from_ascii (decimal (digits_value 10 digits))
    (IsAscii-decimal (digits_value 10 digits) (omega (arith, small))))))

pub seconds_of_no_number : {E : Type 0} (digits : List ℕ) (fault : E) → ParsesUnsigned 64 10 digits (Err fault)
    → None ≡ seconds_of digits
seconds_of_no_number digits fault parses = none_unless digits (λ is small.
    let wrong : Err fault ≡ Ok (digits_value 10 digits) =
    parse-decimal 64 (digits_value 10 digits) digits (Err fault)
    (omega (arith, small)) (omega (arith, small)) is parses in
    cc)

pub seconds_of_other : (E : Type 0) (digits : List ℕ) (n : ℕ) → ParsesUnsigned {E = E} 64 10 digits (Ok n)
    → (digits ≡ decimal n → n < 2 ^ 63 → ⊥) → None ≡ seconds_of digits
seconds_of_other E digits n parses not = none_unless digits (λ is small.
    let given : Result ℕ E = Ok n in
    let parsed : given ≡ Ok (digits_value 10 digits) =
    parse-decimal 64 (digits_value 10 digits) digits given (omega (arith, small)) (omega (arith, small)) is parses in
    let same : n ≡ digits_value 10 digits = cc in
    not (is ∙ ap decimal (sym same)) (omega (arith, same, small)))

pub seconds_of_digits : (digits : List ℕ) (n : ℕ) → digits ≡ decimal n → n < 2 ^ 63 → Some n ≡ seconds_of digits
seconds_of_digits digits n is small =
    let value : digits_value 10 digits ≡ n =
    ap (digits_value 10) is ∙ (decimal_is_IsNumeral n (omega (arith, small))).1 in
    let spelled : pointwise nat_eq digits (decimal (digits_value 10 digits)) ≡ true =
    (bytes_decides digits (decimal (digits_value 10 digits))).1 (is ∙ ap decimal (sym value)) in
    let fits : nat_lt (digits_value 10 digits) (2 ^ 63) ≡ true =
    lt-ltb (digits_value 10 digits) (2 ^ 63) (omega (arith, value, small)) in
    ap Some (sym value)
    ∙ sym (ap (λ (b : Bool). if b then Some (digits_value 10 digits) else None)
    (and_from (pointwise nat_eq digits (decimal (digits_value 10 digits))) (nat_lt (digits_value 10 digits) (2 ^ 63))
    spelled fits))
