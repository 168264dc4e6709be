-- Images that agree outside a range, and what overwriting a range gives.
use Rattle.std.proofs.Common.{◌≡◌, ◌⊎◌, ℕ, ◌+◌, ◌-◌, ◌<◌, ◌≤◌, List, ◌++◌, length, take, drop, slice_index, refl, sym}
use Rattle.std.proofs.Common.{◌∙◌, ap, inl, inr, arith, length-take, length-drop, length-append, get_or-take}
use Rattle.std.proofs.Common.{get_or-drop, append_assoc}
use Rattle.std.proofs.lemmas.Bool.{cases_lt}
use Rattle.std.proofs.lemmas.List.{get_or_append_left, get_or-append_right, ext_get_or, take_at, drop_at, drop-drop}
use borrow.Rule.Slice.PartMut.{put_mid}
use Rattle.disk_model.specs.DiskCalls.{SameOutside, overwrite}

pub SameOutside-refl : (at n : ℕ) (image : List ℕ) → SameOutside at n image image
SameOutside-refl at n image = record { same_length = refl; below = λ i low. refl; above = λ i high. refl }

pub SameOutside-trans : (at n : ℕ) (a b c : List ℕ) → SameOutside at n a b → SameOutside at n b c → SameOutside at n a c
SameOutside-trans at n a b c first then = record {
  same_length = then.same_length ∙ first.same_length;
  below = λ i low. then.below i low ∙ first.below i low;
  above = λ i high. then.above i high ∙ first.above i high;
}

pub SameOutside-sym : (at n : ℕ) (a b : List ℕ) → SameOutside at n a b → SameOutside at n b a
SameOutside-sym at n a b same = record {
  same_length = sym same.same_length;
  below = λ i low. sym (same.below i low);
  above = λ i high. sym (same.above i high);
}

-- a range within another
pub SameOutside-within : (at n from m : ℕ) (a b : List ℕ) → from ≤ at → at + n ≤ from + m → SameOutside at n a b
    → SameOutside from m a b
SameOutside-within at n from m a b low high same = record {
  same_length = same.same_length;
  below = λ i x. same.below i (omega arith);
  above = λ i x. same.above i (omega arith);
}

-- no byte in the range: the same image
pub SameOutside-empty : (at : ℕ) (a b : List ℕ) → SameOutside at 0 a b → b ≡ a
SameOutside-empty at a b same =
    ext_get_or 0 b a same.same_length λ i low. elim (cases_lt i at) [
      | inl below ↦ same.below i below
      | inr above ↦ same.above i (omega arith)
    ]

length-overwrite : (old : List ℕ) (at : ℕ) (bytes : List ℕ) → at + length bytes ≤ length old
    → length (overwrite old at bytes) ≡ length old
length-overwrite old at bytes within =
    omega (
      arith,
      length-append (take at old ++ bytes) (drop (at + length bytes) old),
      length-append (take at old)
          bytes,
      length-take at old,
      length-drop (at + length bytes) old,
    )

overwrite_front : (old : List ℕ) (at : ℕ) (bytes : List ℕ) → at + length bytes ≤ length old
    → length (take at old ++ bytes) ≡ at + length bytes
overwrite_front old at bytes within = omega (arith, length-append (take at old) bytes, length-take at old)

pub SameOutside-overwrite : (old : List ℕ) (at : ℕ) (bytes : List ℕ) → at + length bytes ≤ length old
    → SameOutside at (length bytes) old (overwrite old at bytes)
SameOutside-overwrite old at bytes within =
    let front = overwrite_front old at bytes within in
    let end = at + length bytes in
    record {
      same_length = length-overwrite old at bytes within;
      below = λ i low.
          get_or_append_left (take at old ++ bytes) _ 0 i (omega arith)
          ∙ get_or_append_left (take at old) bytes 0 i (omega (arith, length-take at old)) ∙ get_or-take at old i 0 low;
      above = λ i high.
          let back : end + (i - end) ≡ i = omega arith in
          get_or-append_right (take at old ++ bytes) _ end i 0 front high ∙ get_or-drop end old (i - end) 0
          ∙ ap (slice_index old) back;
    }

-- a byte of the range that was overwritten
pub slice_index-overwrite : (old : List ℕ) (at : ℕ) (bytes : List ℕ) (place : ℕ) → at + length bytes ≤ length old
    → at ≤ place → place < at + length bytes → slice_index (overwrite old at bytes) place
    ≡ slice_index bytes (place - at)
slice_index-overwrite old at bytes place within low high =
    let front : length (take at old) ≡ at = omega (arith, length-take at old) in
    get_or_append_left (take at old ++ bytes) _ 0 place (omega (arith, overwrite_front old at bytes within))
    ∙ get_or-append_right (take at old) bytes at place 0 front low

-- a part of a slice that was written anew
pub put_mid-overwrite : (at n : ℕ) (old bytes : List ℕ) → length bytes ≡ n
    → put_mid at n old bytes ≡ overwrite old at bytes
put_mid-overwrite at n old bytes is =
    let behind : drop n (drop at old) ≡ drop (at + length bytes) old =
    drop-drop n at old ∙ ap (λ (k : ℕ). drop (at + k) old) (sym is) in
    ap (λ (l : List ℕ). take at old ++ (bytes ++ l)) behind
    ∙ sym (append_assoc (take at old) bytes (drop (at + length bytes) old))

-- the bytes of the range that was overwritten
pub take-drop-overwrite : (old : List ℕ) (at : ℕ) (bytes : List ℕ) → at + length bytes ≤ length old
    → take (length bytes) (drop at (overwrite old at bytes)) ≡ bytes
take-drop-overwrite old at bytes within =
    let front : length (take at old) ≡ at = omega (arith, length-take at old) in
    ap (λ (l : List ℕ). take (length bytes) (drop at l))
    (append_assoc (take at old) bytes (drop (at + length bytes) old))
    ∙ ap (take (length bytes)) (drop_at (take at old) (bytes ++ drop (at + length bytes) old) at front)
    ∙ take_at bytes (drop (at + length bytes) old) (length bytes) refl

-- an area beside the range
pub take-drop-outside : (at n from m : ℕ) (a b : List ℕ) → (from + m ≤ at) ⊎ (at + n ≤ from) → SameOutside at n a b
    → take m (drop from b) ≡ take m (drop from a)
take-drop-outside at n from m a b apart same =
    let lengths : length (take m (drop from b)) ≡ length (take m (drop from a)) =
    omega (
      arith,
      length-take m (drop from b),
      length-take m (drop from a),
      length-drop from b,
      length-drop from
          a,
      same.same_length,
    ) in
    ext_get_or 0 (take m (drop from b)) (take m (drop from a)) lengths λ i low.
    let few : i < m = omega (arith, length-take m (drop from b)) in
    let there : slice_index b (from + i) ≡ slice_index a (from + i) =
    elim apart [ inl before ↦ same.below (from + i) (omega arith) | inr behind ↦ same.above (from + i) (omega arith) ]
    in
    get_or-take m (drop from b) i 0 few ∙ get_or-drop from b i 0 ∙ there
    ∙ sym (get_or-take m (drop from a) i 0 few ∙ get_or-drop from a i 0)

-- all before the range, and all behind it
pub take-outside : (at n m : ℕ) (a b : List ℕ) → m ≤ at → SameOutside at n a b → take m b ≡ take m a
take-outside at n m a b before same = take-drop-outside at n 0 m a b (inl (omega arith)) same

pub drop-outside : (at n from : ℕ) (a b : List ℕ) → at + n ≤ from → SameOutside at n a b → drop from b ≡ drop from a
drop-outside at n from a b behind same =
    let lengths : length (drop from b) ≡ length (drop from a) =
    omega (arith, length-drop from b, length-drop from a, same.same_length) in
    ext_get_or 0 (drop from b) (drop from a) lengths λ i low. get_or-drop from b i 0
    ∙ same.above (from + i) (omega arith) ∙ sym (get_or-drop from a i 0)

-- from parts: the front, and what is behind the range
pub SameOutside-parts : (at n : ℕ) (a b : List ℕ) → length b ≡ length a → take at b ≡ take at a
    → drop (at + n) b ≡ drop (at + n) a → SameOutside at n a b
SameOutside-parts at n a b lengths front back = record {
  same_length = lengths;
  below = λ i low. sym (get_or-take at b i 0 low) ∙ ap (λ (l : List ℕ). slice_index l i) front
      ∙ get_or-take at a i 0 low;
  above = λ i high.
      let there : at + n + (i - (at + n)) ≡ i = omega arith in
      sym (get_or-drop (at + n) b (i - (at + n)) 0 ∙ ap (slice_index b) there)
      ∙ ap (λ (l : List ℕ). slice_index l (i - (at + n))) back
      ∙ get_or-drop (at + n) a (i - (at + n)) 0 ∙ ap (slice_index a) there;
}
