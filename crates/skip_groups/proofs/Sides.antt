-- Cells on the sides of a key.
use Rattle.std.proofs.Common.{◌≡◌, ℕ, List, [], ◌∷◌, ◌++◌, true, false, cond, Ordering, Less, Equal, Greater, refl, ap}
use Rattle.std.proofs.Common.{ap₂, ◌∙◌, append_assoc}
use Rattle.std.specs.Bool.{◌==◌}
use Rattle.std.specs.Ordering.{ordering_index}
use Rattle.std.specs.List.{AllByRecursion}
use Rattle.std.specs.List.Sorted.{IsStrictlySortedBy}
use Rattle.std.proofs.lemmas.List.{append-nil}
use Rattle.std.proofs.lemmas.List.Elements.{filter-append}
use Rattle.store_model.specs.Paths.{key_cmp}
use Rattle.store_model.specs.Pages.{Cell}
use Rattle.store_model.proofs.ListsLemmas.{all_back, rising_head, rising_tail}
use Rattle.skip_groups.specs.GroupCells.{compares, side, merged}

-- what stands before and behind an element of a list that rises
pub rising_split : {A : Type 0} (c : A → A → _) (xs : List A) (y : A) (ys : List A)
    → IsStrictlySortedBy c (xs ++ y ∷ ys) → AllByRecursion (λ x. c x y ≡ Less) xs
    × AllByRecursion (λ z. c y z ≡ Less) ys
rising_split c [] y ys h = (tt, rising_head c y ys h)
rising_split c (x ∷ xs) y ys h =
    let rest = rising_split c xs y ys (rising_tail c x (xs ++ y ∷ ys) h) in
    (((all_back (λ z. c x z ≡ Less) xs (y ∷ ys) (rising_head c x (xs ++ y ∷ ys) h)).0, rest.0), rest.1)

-- cells that all compare so with a key are on that side, and on no other
same_index : (o : Ordering) → (ordering_index o == ordering_index o) ≡ true
same_index Less = refl
same_index Equal = refl
same_index Greater = refl

pub side_all : (order : Ordering) (key : List ℕ) (cells : List Cell)
    → AllByRecursion (λ c. key_cmp c.key key ≡ order) cells → side order key cells ≡ cells
side_all order key [] h = refl
side_all order key (c ∷ cells) h =
    ap (λ b. cond b (c ∷ side order key cells) (side order key cells))
    (ap (λ o. ordering_index o == ordering_index order) h.0 ∙ same_index order)
    ∙ ap (λ xs. c ∷ xs) (side_all order key cells h.1)

pub side_no : (order other : Ordering) (key : List ℕ) (cells : List Cell)
    → (ordering_index other == ordering_index order) ≡ false → AllByRecursion (λ c. key_cmp c.key key ≡ other) cells
    → side order key cells ≡ []
side_no order other key [] apart h = refl
side_no order other key (c ∷ cells) apart h =
    ap (λ b. cond b (c ∷ side order key cells) (side order key cells))
    (ap (λ o. ordering_index o == ordering_index order) h.0 ∙ apart) ∙ side_no order other key cells apart h.1

-- ---- cells around those of a key

-- the cells below a key, those of it, and those above it
pub record AreAround (key : List ℕ) (low own high : List Cell) : Type 0 where
  pub below : AllByRecursion (λ c. key_cmp c.key key ≡ Less) low
  pub same : AllByRecursion (λ c. key_cmp c.key key ≡ Equal) own
  pub above : AllByRecursion (λ c. key_cmp c.key key ≡ Greater) high

module _ (key : List ℕ) (low own high : List Cell) (h : AreAround key low own high) where
  pub low_side : side Less key (low ++ (own ++ high)) ≡ low
  low_side =
      filter-append (compares Less key) low (own ++ high)
      ∙ ap₂ (λ xs ys. xs ++ ys) (side_all Less key low h.below)
      (filter-append (compares Less key) own high
      ∙ ap₂ (λ xs ys. xs ++ ys) (side_no Less Equal key own refl h.same)
      (side_no Less Greater key high refl h.above))
      ∙ append-nil low

  pub own_side : side Equal key (low ++ (own ++ high)) ≡ own
  own_side =
      filter-append (compares Equal key) low (own ++ high)
      ∙ ap₂ (λ xs ys. xs ++ ys) (side_no Equal Less key low refl h.below)
      (filter-append (compares Equal key) own high
      ∙ ap₂ (λ xs ys. xs ++ ys) (side_all Equal key own h.same) (side_no Equal Greater key high refl h.above))
      ∙ append-nil own

  pub high_side : side Greater key (low ++ (own ++ high)) ≡ high
  high_side =
      filter-append (compares Greater key) low (own ++ high)
      ∙ ap₂ (λ xs ys. xs ++ ys) (side_no Greater Less key low refl h.below)
      (filter-append (compares Greater key) own high
      ∙ ap₂ (λ xs ys. xs ++ ys) (side_no Greater Equal key own refl h.same) (side_all Greater key high h.above))

-- cells merged, by what each of the lists has on its side
pub merged_are : (key : List ℕ) (lows owns highs low own high : List Cell) → side Less key lows ≡ low
    → side Equal key owns ≡ own → side Greater key highs ≡ high → merged key lows owns highs ≡ low ++ (own ++ high)
merged_are key lows owns highs low own high a b c =
    ap₂ (λ xs ys. xs ++ ys) (ap₂ (λ xs ys. xs ++ ys) a b) c ∙ append_assoc low own high
