-- A list that is cut, with one element more at its end: it comes into the last part, unless the list is cut before it.
use Rattle.std.proofs.Common.{◌≡◌, ℕ, ◌+◌, List, [], ◌∷◌, ◌++◌, length, refl, ap, ◌∙◌, cond, arith, Bool, true, false}
use Rattle.std.specs.List.{flat_map}
use Rattle.std.proofs.lemmas.List.{length-append}
use Rattle.store_model.specs.Lists.{onto_part, cut_before}
use Rattle.store_model.specs.Pages.{Cell, Page}
use Rattle.layout_scratch.specs.Counting.{last_length}

-- x behind the last part, or a part of its own where there is none
unfoldable pub onto_last : {A : Type 0} → List (List A) → A → List (List A)
onto_last [] x = (x ∷ []) ∷ []
onto_last (part ∷ []) x = (part ++ x ∷ []) ∷ []
onto_last (part ∷ next ∷ parts) x = part ∷ onto_last (next ∷ parts) x

-- it comes into the last part whatever stands in front of the first
onto_both_ends : {A : Type 0} (cuts : A → Bool) (y x : A) (parts : List (List A)) → cuts x ≡ false
    → onto_part cuts y (onto_last parts x) ≡ onto_last (onto_part cuts y parts) x
unfolding onto_part onto_last
onto_both_ends cuts y x [] e = ap (λ b. cond b ((y ∷ []) ∷ (x ∷ []) ∷ []) ((y ∷ x ∷ []) ∷ [])) e
onto_both_ends cuts y x ([] ∷ []) e = ap (λ b. cond b ((y ∷ []) ∷ (x ∷ []) ∷ []) ((y ∷ x ∷ []) ∷ [])) e
onto_both_ends cuts y x ([] ∷ next ∷ parts) e = refl
onto_both_ends cuts y x ((z ∷ part) ∷ []) e =
    elim (cuts z) as (λ b. cond b ((y ∷ []) ∷ (z ∷ (part ++ x ∷ [])) ∷ []) ((y ∷ z ∷ (part ++ x ∷ [])) ∷ [])
    ≡ onto_last (cond b ((y ∷ []) ∷ (z ∷ part) ∷ []) ((y ∷ z ∷ part) ∷ [])) x) [
      | true ↦ refl
      | false ↦ refl
    ]
onto_both_ends cuts y x ((z ∷ part) ∷ next ∷ parts) e =
    let more = onto_last (next ∷ parts) x in
    elim (cuts z) as (λ b. cond b ((y ∷ []) ∷ (z ∷ part) ∷ more) ((y ∷ z ∷ part) ∷ more)
    ≡ onto_last (cond b ((y ∷ []) ∷ (z ∷ part) ∷ next ∷ parts) ((y ∷ z ∷ part) ∷ next ∷ parts)) x) [
      | true ↦ refl
      | false ↦ refl
    ]

-- the parts of a list with one element more that it is not cut before
pub cut_before-last : {A : Type 0} (cuts : A → Bool) (xs : List A) (x : A) → cuts x ≡ false
    → cut_before cuts (xs ++ x ∷ []) ≡ onto_last (cut_before cuts xs) x
unfolding cut_before onto_part onto_last
cut_before-last cuts [] x e = refl
cut_before-last cuts (y ∷ xs) x e = ap (onto_part cuts y) (cut_before-last cuts xs x e)
    ∙ onto_both_ends cuts y x (cut_before cuts xs) e

-- ---- how long the last part is

-- one longer with one element more
pub last_length-more : (parts : List (List Cell)) (x : Cell) → last_length (onto_last parts x) ≡ last_length parts + 1
unfolding last_length onto_last
last_length-more [] x = omega arith
last_length-more (part ∷ []) x = length-append part (x ∷ [])
last_length-more (part ∷ next ∷ []) x = length-append next (x ∷ [])
last_length-more (part ∷ next ∷ third ∷ parts) x = last_length-more (next ∷ third ∷ parts) x

-- one where the element is a part of its own
pub last_length-new : (parts : List (List Cell)) (x : Cell) → last_length (parts ++ (x ∷ []) ∷ []) ≡ 1
unfolding last_length
last_length-new [] x = refl
last_length-new (part ∷ []) x = refl
last_length-new (part ∷ next ∷ parts) x = last_length-new (next ∷ parts) x

-- ---- what is made of the parts

-- of each part so much as its length tells, and nothing of none
pub record CountsByLength (count : ℕ → ℕ) (f : List Cell → List Page) : Type 0 where
  pub none : count 0 ≡ 0
  pub each : (cells : List Cell) → length (f cells) ≡ count (length cells)

-- with one element more in the last part
pub made_of_more : (count : ℕ → ℕ) (f : List Cell → List Page) (parts : List (List Cell)) (x : Cell)
    → CountsByLength count f
    → length (flat_map f (onto_last parts x)) + count (last_length parts)
    ≡ length (flat_map f parts) + count (last_length parts + 1)
unfolding last_length onto_last
made_of_more count f [] x counts = omega (arith, length-append (f (x ∷ [])) [], counts.each (x ∷ []), counts.none)
made_of_more count f (part ∷ []) x counts =
    let long : length (f (part ++ x ∷ [])) ≡ count (length part + 1) =
    counts.each (part ++ x ∷ []) ∙ ap count (length-append part (x ∷ [])) in
    omega (arith, long, counts.each part, length-append (f (part ++ x ∷ [])) [], length-append (f part) [])
made_of_more count f (part ∷ next ∷ parts) x counts =
    omega (
      arith,
      made_of_more count f (next ∷ parts) x counts,
      length-append (f part)
          (flat_map f (onto_last (next ∷ parts) x)),
      length-append (f part) (flat_map f (next ∷ parts)),
    )

-- with a part of one element more
pub made_of_new : (count : ℕ → ℕ) (f : List Cell → List Page) (parts : List (List Cell)) (x : Cell)
    → CountsByLength count f → length (flat_map f (parts ++ (x ∷ []) ∷ [])) ≡ length (flat_map f parts) + count 1
made_of_new count f [] x counts = omega (arith, length-append (f (x ∷ [])) [], counts.each (x ∷ []))
made_of_new count f (part ∷ parts) x counts =
    omega (
      arith,
      made_of_new count f parts x counts,
      length-append (f part)
          (flat_map f (parts ++ (x ∷ []) ∷ [])),
      length-append (f part) (flat_map f parts),
    )
