-- A header is read alike by the slots that it names and by those of the parameters that it is the header of.
use Rattle.std.proofs.Common.{◌≡◌, ℕ, List, Bool, true, false, ◌&&◌, nat_le, ◌==◌, length, take, drop, slice_set, refl}
use Rattle.std.proofs.Common.{sym, ap, ◌∙◌, arith, if◌then◌else◌}
use Rattle.std.specs.Int.{w32, from_be_bytes}
use Rattle.std.proofs.lemmas.Bool.{le-leb, eq-eqb, and_from}
use Rattle.std.proofs.lemmas.List.{drop-set-add, take-set-le, drop-take, take-take}
use Rattle.std.proofs.lemmas.Nat.{from_be_bytes-to_be_bytes_4}
use Rattle.store_model.specs.Lists.{zero_filled}
use Rattle.store_model.specs.Parameters.{Parameters, IsParameters, slots_limit, image_len}
use Rattle.store_model.specs.Images.{header, is_flag_set, is_marked, viewed_header}
use Rattle.model_laws.specs.Headers.{named_slots, has_named_length, header_of}

-- a header, with the version 2 or as it stands
abbrev seen : Bool → List ℕ → List ℕ
seen two image = if two then slice_set (take 4096 image) 14 2 else take 4096 image

-- the bytes of the slots in the first block
slots_of_block : (image : List ℕ) → take 4 (drop 8 (take 4096 image)) ≡ take 4 (drop 8 image)
slots_of_block image = ap (take 4) (drop-take 8 4088 image) ∙ take-take 4 4088 (drop 8 image) (omega arith)

-- they are there either way
slots_of_seen : (two : Bool) (image : List ℕ) → take 4 (drop 8 (seen two image)) ≡ take 4 (drop 8 image)
slots_of_seen true image = ap (take 4) (drop-set-add 8 (take 4096 image) 6 2)
    ∙ take-set-le 4 (drop 8 (take 4096 image)) 6 2 (omega arith) ∙ slots_of_block image
slots_of_seen false image = slots_of_block image

-- so they name the slots of the parameters that it is the header of
slots_named : (two : Bool) (image : List ℕ) (p : Parameters) → IsParameters p → seen two image ≡ header p
    → named_slots image ≡ p.slots
unfolding header zero_filled
slots_named two image p is e =
    ap (from_be_bytes w32) (sym (slots_of_seen two image) ∙ ap (λ (xs : List ℕ). take 4 (drop 8 xs)) e)
    ∙ from_be_bytes-to_be_bytes_4 p.slots (let most = is.slots_in_range in omega arith)

-- and where they do, both readings are one
pub same_reading : (image : List ℕ) (p : Parameters) → IsParameters p → length image ≡ image_len p.slots
    → named_slots image ≡ p.slots → header_of image ≡ viewed_header p.slots image
unfolding viewed_header header_of
same_reading image p is long named =
    let right : has_named_length image ≡ true =
    ap (λ n. (nat_le 1 n && nat_le n slots_limit) && (length image == image_len n)) named
    ∙ and_from _ _ (and_from _ _ (le-leb 1 p.slots is.some_slot) (le-leb p.slots slots_limit is.slots_in_range))
    (eq-eqb (length image) (image_len p.slots) long) in
    λ i. seen (right i && (is_flag_set image && is_marked image (named i))) image

-- from the reading by the parameters' slots to that by the image alone
pub read_alone : (image : List ℕ) (p : Parameters) → IsParameters p → length image ≡ image_len p.slots
    → viewed_header p.slots image ≡ header p → header_of image ≡ header p
unfolding viewed_header
read_alone image p is long e = same_reading image p is long
    (slots_named (is_flag_set image && is_marked image p.slots) image p is e) ∙ e

-- and back
pub read_by_slots : (image : List ℕ) (p : Parameters) → IsParameters p → length image ≡ image_len p.slots
    → header_of image ≡ header p → viewed_header p.slots image ≡ header p
unfolding header_of
read_by_slots image p is long e =
    sym (same_reading image p is long
    (slots_named (has_named_length image && (is_flag_set image && is_marked image (named_slots image))) image p is
    e)) ∙ e

-- a mark that is not set counts for nothing
never : (image : List ℕ) (set : Bool) → seen (set && false) image ≡ take 4096 image
never image true = refl
never image false = refl

-- without the version's mark a header is read as it stands
pub read_unmarked : (slots : ℕ) (image : List ℕ) → is_marked image slots ≡ false
    → viewed_header slots image ≡ take 4096 image
unfolding viewed_header
read_unmarked slots image none = ap (λ (b : Bool). seen (is_flag_set image && b) image) none
    ∙ never image (is_flag_set image)
