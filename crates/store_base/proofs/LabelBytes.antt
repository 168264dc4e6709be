-- The bytes of labels.
use Rattle.std.proofs.Common.{◌≡◌, ℕ, ◌<◌, ◌≤◌, List, [], ◌∷◌, ◌++◌, length, take, drop, slice_index, refl, ap, sym}
use Rattle.std.proofs.Common.{◌∙◌, Bool, true, false, nat_eq, ◌&&◌, arith}
use Rattle.store_model.proofs.ListsLemmas.{then_assoc, slice_cmp-append, be_bytes_order}
use Rattle.store_base.proofs.Orders.{IsBytes-take, IsBytes-drop, pointwise-append, pointwise-to_be_bytes}
use Rattle.std.proofs.lemmas.List.{take_at, take_all, length-take, length-drop, take-append-drop}
use Rattle.std.proofs.lemmas.Nat.{be_bytes_4}
use Rattle.std.proofs.Math.Bool.{and_comm}
use Rattle.store_base.specs.declared.key.Key.{Key}
use Rattle.store_base.specs.declared.label.Lead.{Lead as DeclaredLead}
use Rattle.store_base.specs.declared.label.Lead.TheVariants as declared
use Rattle.store_model.specs.Labels.{Lead, Label, IsLead, IsLabel, lead_bytes, label_bytes, label_cmp}
use Rattle.store_model.specs.Labels.Lead.{Start}
use Rattle.store_model.specs.Lists.{IsBytes, zeros}
use Rattle.std.specs.Int.{w32, to_be_bytes, from_be_bytes}
use Rattle.std.specs.Ordering.{nat_cmp, ordering_then}
use Rattle.std.specs.Cmp.Lexicographic.{slice_cmp, pointwise, bytes_decides}
use Rattle.store_base.specs.Leads.{model_lead}
use Rattle.store_model.proofs.ImagesLemmas.{length-lead_bytes}

-- a lead that is no key is the start
pub lead_of-no_key : (lead : DeclaredLead) → ((key : Key) → lead ≡ declared.Key key → ⊥) → model_lead lead ≡ Start
lead_of-no_key declared.Start no_key = refl
lead_of-no_key (declared.Key key) no_key = absurd (no_key key refl)

-- labels are ordered by level, then by lead, then by index
pub label_cmp-parts : (a b : Label) → IsLabel a → IsLabel b
    → label_cmp a b ≡ ordering_then (ordering_then (nat_cmp a.level b.level)
    (slice_cmp nat_cmp (lead_bytes a.lead) (lead_bytes b.lead))) (nat_cmp a.index b.index)
unfolding label_bytes
label_cmp-parts a b a_valid b_valid =
    ap (ordering_then (nat_cmp a.level b.level))
    (slice_cmp-append nat_cmp (lead_bytes a.lead) (lead_bytes b.lead) (to_be_bytes w32 a.index)
    (to_be_bytes w32 b.index) (length-lead_bytes a.lead a_valid.lead ∙ sym (length-lead_bytes b.lead b_valid.lead)))
    ∙ sym (then_assoc (nat_cmp a.level b.level) (slice_cmp nat_cmp (lead_bytes a.lead) (lead_bytes b.lead))
    (slice_cmp nat_cmp (to_be_bytes w32 a.index) (to_be_bytes w32 b.index)))
    ∙ ap (ordering_then (ordering_then (nat_cmp a.level b.level)
    (slice_cmp nat_cmp (lead_bytes a.lead) (lead_bytes b.lead))))
    (be_bytes_order a.index b.index a_valid.index b_valid.index)

swap_tests : (a b c : Bool) → (a && (b && c)) ≡ ((a && c) && b)
swap_tests true b c = and_comm b c
swap_tests false b c = refl

-- labels are equal where their levels, their indices and their leads are
pub label_eq-parts : (a b : Label) → IsLabel a → IsLabel b
    → pointwise nat_eq (label_bytes a) (label_bytes b)
    ≡ ((nat_eq a.level b.level && nat_eq a.index b.index) && pointwise nat_eq (lead_bytes a.lead) (lead_bytes b.lead))
unfolding label_bytes
label_eq-parts a b a_valid b_valid =
    ap (λ t. nat_eq a.level b.level && t)
    (pointwise-append (lead_bytes a.lead) (lead_bytes b.lead) (to_be_bytes w32 a.index)
    (to_be_bytes w32 b.index) refl)
    ∙ ap (λ t. nat_eq a.level b.level && (pointwise nat_eq (lead_bytes a.lead) (lead_bytes b.lead) && t))
    (pointwise-to_be_bytes a.index b.index a_valid.index b_valid.index)
    ∙ swap_tests (nat_eq a.level b.level) (pointwise nat_eq (lead_bytes a.lead) (lead_bytes b.lead))
    (nat_eq a.index b.index)

-- a string of 130 elements, part by part
parts_of : (bytes : List ℕ) → length bytes ≡ 130
    → bytes ≡ slice_index bytes 0 ∷ (take 125 (drop 1 bytes) ++ take 4 (drop 126 bytes))
parts_of [] long = absurd (omega (arith, long))
parts_of (x ∷ xs) long =
    let four : length (drop 125 xs) ≤ 4 = omega (arith, long, length-drop 125 xs) in
    ap (λ rest. x ∷ rest) (sym (take-append-drop 125 xs)
    ∙ ap (λ rest. take 125 xs ++ rest) (sym (take_all 4 (drop 125 xs) four)))

-- 130 bytes with a lead's bytes behind the first spell the label of their parts
pub label_bytes-parts : (bytes index_bytes : List ℕ) (lead : Lead) (index : ℕ) → length bytes ≡ 130 → IsBytes bytes
    → IsLead lead → lead_bytes lead ≡ take 125 (drop 1 bytes)
    → index_bytes ≡ take 4 (drop 126 bytes) → index ≡ from_be_bytes w32 index_bytes → index < 4294967296
    → IsLabel (record { level = slice_index bytes 0; lead = lead; index = index })
    × (label_bytes (record { level = slice_index bytes 0; lead = lead; index = index }) ≡ bytes)
unfolding label_bytes
label_bytes-parts bytes index_bytes lead index long are_bytes is_lead lead_is index_bytes_is index_is fits =
    let four : length (take 4 (drop 126 bytes)) ≡ 4 =
    omega (arith, long, length-take 4 (drop 126 bytes), length-drop 126 bytes) in
    let spelled = be_bytes_4 (take 4 (drop 126 bytes)) index four
    (IsBytes-take 4 (drop 126 bytes) (IsBytes-drop 126 bytes are_bytes))
    (index_is ∙ ap (from_be_bytes w32) index_bytes_is) in (
      record { level = are_bytes 0; lead = is_lead; index = fits },
      ap (λ rest. slice_index bytes 0 ∷ (rest ++ to_be_bytes w32 index)) lead_is
          ∙ ap (λ rest. slice_index bytes 0 ∷ (take 125 (drop 1 bytes) ++ rest)) spelled ∙ sym (parts_of bytes long),
    )

-- where the lead lies in the bytes of a label
pub lead_bytes-spelled : (l : Label) (bytes : List ℕ) → IsLabel l → label_bytes l ≡ bytes
    → lead_bytes l.lead ≡ take 125 (drop 1 bytes)
unfolding label_bytes
lead_bytes-spelled l bytes valid spelled =
    sym (take_at (lead_bytes l.lead) (to_be_bytes w32 l.index) 125 (length-lead_bytes l.lead valid.lead))
    ∙ ap (λ all. take 125 (drop 1 all)) spelled

-- a byte 0 and 124 zeros are the start's bytes
pub lead_bytes-zeros : (bytes : List ℕ) → length bytes ≡ 125 → slice_index bytes 0 ≡ 0
    → pointwise nat_eq (take 124 (drop 1 bytes)) (zeros 124) ≡ true → zeros 125 ≡ bytes
lead_bytes-zeros [] long first rest = absurd (omega (arith, long))
lead_bytes-zeros (x ∷ xs) long first rest =
    let all : take 124 xs ≡ xs = take_all 124 xs (omega (arith, long)) in
    let zero_rest = (bytes_decides (take 124 xs) (zeros 124)).0 rest in
    sym (ap (λ b. b ∷ xs) first ∙ ap (λ ys. 0 ∷ ys) (sym all ∙ zero_rest))
