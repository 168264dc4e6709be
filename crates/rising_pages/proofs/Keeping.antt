-- One pair more is kept.
use Rattle.std.proofs.Common.{◌≡◌, ℕ, ◌<◌, List, [], ◌∷◌, ◌++◌, map, length, cond, nat_le, Some, None, refl, sym}
use Rattle.std.proofs.Common.{ap}
use Rattle.std.proofs.Common.{Bool, append-nil, subst, ◌∙◌, arith}
use Rattle.std.specs.List.{filter}
use Rattle.std.proofs.lemmas.Bool.{lt-leb, le-leb}
use Rattle.std.proofs.lemmas.List.{length-map, map-append}
use Rattle.std.proofs.lemmas.List.Elements.{filter-append}
use Rattle.store_model.specs.Pairs.{Pair}
use Rattle.store_model.specs.Draws.{Draw}
use Rattle.store_model.specs.Pages.{Cell, pages_of_pairs}
use Rattle.layout_scratch.specs.declared.counter.PageCounter.{PageCounter}
use Rattle.layout_scratch.specs.Counting.{HasCounted}
use Rattle.layout_scratch.proofs.LevelPages.{level_pages-none}
use Rattle.rising_pages.specs.Ends.{last_of}
use Rattle.rising_pages.specs.declared.raised.RaisedKey.{RaisedKey}
use Rattle.rising_pages.specs.declared.kept.KeptPairs.{KeptPairs}
use Rattle.rising_pages.specs.OpenPages.{Comes}
use Rattle.rising_pages.specs.Raised.{raised_pairs, raised_keys}
use Rattle.rising_pages.specs.Kept.{FitSlots, HasEnds, IsKept, PairComes}

-- ---- the keys above level 0

module _ (d : Draw) (s : List Pair) (y : Pair) (level : ℕ) (level_is : level ≡ d.level y.0) where
  abbrev key_at : ℕ → RaisedKey
  key_at l = record { key = y.0; level = l }

  abbrev key_of : Pair → RaisedKey
  key_of pair = record { key = pair.0; level = d.level pair.0 }

  abbrev stays : Pair → Bool
  stays pair = nat_le 1 (d.level pair.0)

  -- those of all pairs are those of the first, and the last one's
  raised_split : raised_keys d (s ++ y ∷ [])
      ≡ raised_keys d s ++ map key_of (cond (stays y) (y ∷ []) [])
  unfolding raised_pairs
  raised_split =
      ap (map key_of) (filter-append stays s (y ∷ []))
      ∙ map-append key_of (filter stays s) (filter stays (y ∷ []))

  pub raised_there : 0 < level → raised_keys d s ++ key_at level ∷ [] ≡ raised_keys d (s ++ y ∷ [])
  raised_there above =
      ap (λ l. raised_keys d s ++ key_at l ∷ []) level_is
      ∙ sym (raised_split
      ∙ ap (λ b. raised_keys d s ++ map key_of (cond b (y ∷ []) []))
      (le-leb 1 (d.level y.0) (omega (arith, level_is, above))))

  pub raised_absent : level < 1 → raised_keys d s ≡ raised_keys d (s ++ y ∷ [])
  raised_absent low =
      sym (raised_split
      ∙ ap (λ b. raised_keys d s ++ map key_of (cond b (y ∷ []) []))
      (lt-leb 1 (d.level y.0) (omega (arith, level_is, low)))
      ∙ append-nil (raised_keys d s))

-- ---- no pair

pub kept_none : (d : Draw) (kept : KeptPairs) → kept.slots ≡ d.slots → HasCounted d [] kept.counter → kept.last ≡ None
    → kept.raised.items ≡ [] → IsKept d [] kept
unfolding raised_pairs last_of
kept_none d kept slots_are counted last_is raised_are = record {
  slots_are = slots_are;
  counted = counted;
  ends = λ fits. record {
    last_is = last_is ∙ sym (ap last_of (level_pages-none d 0));
    raised_are = raised_are;
  };
}

-- ---- one pair

module _ (d : Draw) (s : List Pair) (level : ℕ) (y : Pair) (kept : KeptPairs) (comes : PairComes d s level y kept) where
  pub few_keys : kept.counter.keys < 268435456
  few_keys = omega (
    arith,
    comes.kept_is.counted.keys_are,
    length-map s (λ (pair : Pair). pair.0),
    comes.few,
  )

  pub low_level : level < 8
  low_level = let below = comes.law.level_in_range y.0 in omega (arith, below, comes.level_is, comes.low)

  pub pages_before : length (pages_of_pairs d s) ≡ kept.counter.pages
  pages_before = comes.kept_is.counted.pages_are s refl

  -- its cell comes to the last page of level 0
  pub pair_comes : (cell : Cell) → FitSlots d s → cell ≡ record { key = y.0; value = Some y.1 }
      → Comes d 0 level s y kept.last cell
  pair_comes cell fits cell_is = record {
    pairs = comes.pairs;
    few = omega (arith, comes.few);
    low = omega arith;
    top_is = comes.level_is;
    stands = omega arith;
    cell_is = cell_is;
    last_is = (comes.kept_is.ends fits).last_is;
  }

  module _ (counter : PageCounter) (counted : HasCounted d (map (λ pair. pair.0) s ++ y.0 ∷ []) counter) where
    counted_all : HasCounted d (map (λ pair. pair.0) (s ++ y ∷ [])) counter
    counted_all = subst (λ keys. HasCounted d keys counter)
        (sym (map-append (λ (pair : Pair). pair.0) s (y ∷ []))) counted

    pub pages_now : length (pages_of_pairs d (s ++ y ∷ [])) ≡ counter.pages
    pages_now = counted_all.pages_are (s ++ y ∷ []) refl

    pub kept_more : (new : KeptPairs) → new.slots ≡ kept.slots → new.counter ≡ counter
        → (FitSlots d (s ++ y ∷ []) → HasEnds d (s ++ y ∷ []) new) → IsKept d (s ++ y ∷ []) new
    kept_more new slots_are counter_is ends = record {
      slots_are = slots_are ∙ comes.kept_is.slots_are;
      counted = subst (HasCounted d (map (λ pair. pair.0) (s ++ y ∷ []))) (sym counter_is) counted_all;
      ends = ends;
    }
