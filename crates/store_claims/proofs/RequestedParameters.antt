-- What words ask for is in its range.
use Rattle.std.proofs.Common.{◌≡◌, ℕ, ◌≤◌, ◌&&◌, ◌==◌, List, [], ◌∷◌, length, Bool, true, false, Option, Some, None}
use Rattle.std.proofs.Common.{Result, Ok, Err, refl, ap, ◌∙◌, cond, nat_le, arith}
use Rattle.std.proofs.lemmas.Bool.{eqb-true}
use Rattle.hex.specs.Hex.{decode_of}
use Rattle.hex.specs.declared.error.FromHexError.{FromHexError}
use Rattle.hex.proofs.HexLemmas.{decode_of-ok}
use Rattle.store_model.specs.declared.draw_kind.DrawKind.{DrawKind}
use Rattle.store_model.specs.declared.version.Version.{Version}
use Rattle.store_model.specs.Lists.{IsBytes}
use Rattle.store_model.specs.Parameters.{Parameters, IsParameters, slots_limit, height_limit}
use Rattle.store_model.specs.Trees.{empty_tree}
use Rattle.store_model.specs.Grammar.{number_of, ok_value, ◌>>=◌}
use Rattle.store_model.specs.Words.{Request, number_in, kind_of_word, seed_of_word, version_of_word, request_of}
use Rattle.store_model.specs.Words.Request.{Format}
use Rattle.store_model.proofs.TreesLemmasFits.{Fits-empty, IsTree-empty}
use Rattle.image_check.specs.Standing.{IsFitting}

-- ---- a number and a seed

ranged : (low high : ℕ) (found : Option ℕ) (n : ℕ)
    → (found >>= λ m. cond (nat_le low m && nat_le m high) (Some m) None) ≡ Some n → (low ≤ n) × (n ≤ high)
ranged low high found n e = grind arith

ranged_number : (low high : ℕ) (word : List ℕ) (n : ℕ) → number_in low high word ≡ Some n → (low ≤ n) × (n ≤ high)
unfolding number_in
ranged_number low high word n e = ranged low high (number_of word) n e

decoded : (word seed : List ℕ) (b : Bool) → (length word == 64) ≡ b → (r : Result (List ℕ) FromHexError)
    → decode_of word ≡ r → cond b (ok_value r) None ≡ Some seed
    → (length word ≡ 64) × (decode_of word ≡ Ok seed)
decoded word seed true e (Ok bytes) f is = let same : bytes ≡ seed = cc in (eqb-true (length word) 64 e, f ∙ ap Ok same)
decoded word seed true e (Err fault) f is = absurd (cc)
decoded word seed false e r f is = absurd (cc)

ranged_seed : (word seed : List ℕ) → seed_of_word word ≡ Some seed → (length seed ≡ 32) × IsBytes seed
unfolding seed_of_word
ranged_seed word seed e =
    let is = decoded word seed (length word == 64) refl (decode_of word) refl e in
    let bytes = decode_of-ok word seed is.1 in
    let long = is.0 in
    let twice = bytes.2 in
    (omega arith, bytes.3)

-- ---- a format

-- what five words ask for
abbrev pub format_by : Option Version → Option ℕ → Option ℕ → Option DrawKind → Option (List ℕ) → Option Request
format_by version slots height kind seed = version >>= λ v. slots >>= λ n. height >>= λ h. kind >>= λ k. seed >>=
    λ s. Some (Format (record { slots = n; height = h; kind = k; seed = s; version = v }))

parts_of : (version : Option Version) (slots height : Option ℕ) (kind : Option DrawKind) (seed : Option (List ℕ))
    (p : Parameters) → format_by version slots height kind seed ≡ Some (Format p)
    → (slots ≡ Some p.slots) × (height ≡ Some p.height) × (seed ≡ Some p.seed)
parts_of version slots height kind seed p e = grind arith

-- one word asks for no format, and three do not
one_word : (w : List ℕ) (p : Parameters) → request_of (w ∷ []) ≡ Some (Format p) → ⊥
unfolding request_of
one_word w p e = grind arith

three_words : (w number count : List ℕ) (p : Parameters) → request_of (w ∷ number ∷ count ∷ []) ≡ Some (Format p) → ⊥
unfolding request_of
three_words w number count p e = grind arith

requested : (words : List (List ℕ)) (p : Parameters) → request_of words ≡ Some (Format p) → IsParameters p
unfolding request_of
requested [] p e = absurd (cc)
requested (w ∷ []) p e = absurd (one_word w p e)
requested (w ∷ a ∷ []) p e = absurd (cc)
requested (w ∷ a ∷ b ∷ []) p e = absurd (three_words w a b p e)
requested (w ∷ a ∷ b ∷ c ∷ []) p e = absurd (cc)
requested (w ∷ a ∷ b ∷ c ∷ d ∷ []) p e =
    let parts = parts_of (version_of_word w) (number_in 1 slots_limit a) (number_in 1 height_limit b)
    (kind_of_word c) (seed_of_word d) p e in
    let slots = ranged_number 1 slots_limit a p.slots parts.0 in
    let height = ranged_number 1 height_limit b p.height parts.1 in
    let seed = ranged_seed d p.seed parts.2 in
    record {
      some_slot = slots.0;
      slots_in_range = slots.1;
      some_level = height.0;
      height_in_range = height.1;
      seed_length = seed.0;
      seed_bytes = seed.1;
    }
requested (w ∷ a ∷ b ∷ c ∷ d ∷ x ∷ rest) p e = absurd (cc)

-- the empty tree fits the parameters of a format
pub requested_fits : (words : List (List ℕ)) (p : Parameters) → request_of words ≡ Some (Format p)
    → IsFitting empty_tree p
requested_fits words p is =
    record { in_range = requested words p is; tree = IsTree-empty; fits = Fits-empty p }
