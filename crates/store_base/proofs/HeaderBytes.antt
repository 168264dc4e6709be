-- The header's bytes: that they say all that the parameters are.
use Rattle.std.proofs.Common.{◌≡◌, ℕ, ◌-◌, List, ◌∷◌, ◌++◌, length, take, drop, slice_index, refl, subst, ap, sym, ◌∙◌}
use Rattle.std.proofs.Common.{arith}
use Rattle.std.specs.Prelude.{codes, Result, Ok, Err, Some, IfOk}
use Rattle.std.specs.Result.{result_ok}
use Rattle.std.specs.Int.{w32, to_be_bytes, from_be_bytes}
use Rattle.std.proofs.lemmas.List.{take_at}
use Rattle.std.proofs.lemmas.Nat.{from_be_bytes-to_be_bytes_4}
use Rattle.store_model.specs.declared.draw_kind.DrawKind.{DrawKind}
use Rattle.store_model.specs.declared.draw_kind.DrawKind.TheVariants.{Ruler, Sha256}
use Rattle.store_model.specs.declared.version.Version.TheVariants.{One}
use Rattle.store_model.specs.Lists.{zeros, zero_filled}
use Rattle.store_model.specs.Parameters.{Parameters, IsParameters, with_version}
use Rattle.store_model.specs.Images.{kind_byte, version_byte, header}

-- the 48 bytes in front of the zeros
abbrev pub header_front : Parameters → List ℕ
header_front p = codes "HSTORE01" ++ to_be_bytes w32 p.slots ++ p.height ∷ kind_byte p.kind
    ∷ version_byte p.version ∷ 0 ∷ p.seed

pub header-front : (p : Parameters) → IsParameters p → header p ≡ header_front p ++ zeros 4048
unfolding header zero_filled
header-front p valid =
    let rest : 4096 - length (header_front p) ≡ 4048 = omega (arith, valid.seed_length) in
    ap (λ (n : ℕ). header_front p ++ zeros n) rest

-- where the parameters stand in a header
header-slots : (p : Parameters) → take 4 (drop 8 (header p)) ≡ to_be_bytes w32 p.slots
unfolding header zero_filled
header-slots p = refl

header-height : (p : Parameters) → slice_index (header p) 12 ≡ p.height
unfolding header zero_filled
header-height p = refl

pub header-kind : (p : Parameters) → slice_index (header p) 13 ≡ kind_byte p.kind
unfolding header zero_filled
header-kind p = refl

pub header-version : (p : Parameters) → slice_index (header p) 14 ≡ version_byte p.version
unfolding header zero_filled
header-version p = refl

header-seed : (p : Parameters) → IsParameters p → take 32 (drop 16 (header p)) ≡ p.seed
unfolding header zero_filled
header-seed p valid = take_at p.seed (zeros (4096 - length (header_front p))) 32 valid.seed_length

kind_byte-same : (a b : DrawKind) → kind_byte a ≡ kind_byte b → a ≡ b
kind_byte-same Ruler Ruler same = refl
kind_byte-same Ruler Sha256 same = absurd (omega (arith, same))
kind_byte-same Sha256 Ruler same = absurd (omega (arith, same))
kind_byte-same Sha256 Sha256 same = refl

-- what is read from a header, under version 1, is what it was written for, whatever its version
pub header-read : (p : Parameters) (block slots_bytes seed : List ℕ) (slots : ℕ) (kind : DrawKind)
    → IsParameters p → header p ≡ block
    → slots_bytes ≡ take 4 (drop 8 block) → slots ≡ from_be_bytes w32 slots_bytes → Some kind ≡ Some p.kind
    → seed ≡ take 32 (drop 16 block)
    → record {
      slots = slots;
      height = slice_index block 12;
      kind = kind;
      seed = seed;
      version = One;
    } ≡ with_version p One
header-read p block slots_bytes seed slots kind valid is_header slots_bytes_are slots_is some_kind seed_is =
    let kind_is : kind ≡ p.kind = cc in
    let slots_same : slots ≡ p.slots =
    slots_is ∙ ap (from_be_bytes w32) slots_bytes_are
    ∙ ap (λ (b : List ℕ). from_be_bytes w32 (take 4 (drop 8 b))) (sym is_header)
    ∙ ap (from_be_bytes w32) (header-slots p)
    ∙ from_be_bytes-to_be_bytes_4 p.slots (omega (arith, valid.slots_in_range)) in
    let height_same = ap (λ (b : List ℕ). slice_index b 12) (sym is_header) ∙ header-height p in
    let seed_same = seed_is ∙ ap (λ (b : List ℕ). take 32 (drop 16 b)) (sym is_header) ∙ header-seed p valid in
    λ i. record { slots = slots_same i; height = height_same i; kind = kind_is i; seed = seed_same i; version = One }

-- what holds of an answer's value holds of it as an option's
pub IfOk-result_ok : {T E : Type 0} (r : Result T E) (x : T) (P : T → Type 0) → Some x ≡ result_ok r → IfOk r P → P x
IfOk-result_ok (Ok y) x P is_ok holds = let same : y ≡ x = cc in subst P same holds
IfOk-result_ok (Err e) x P is_ok holds = cc
