-- The steps of a change in terms of the whole list: where a key is put or taken out.
use Rattle.std.proofs.Common.{◌≡◌, inl, inr, ℕ, zero, suc, ◌+◌, ◌-◌, ◌<◌, ◌≤◌, List, [], ◌∷◌, ◌++◌, map, filter, length}
use Rattle.std.proofs.Common.{cond, nat_le, ◌==◌, eqb-true, Bool, true, false, Some, None, refl, sym, ap, ap₂, subst}
use Rattle.std.proofs.Common.{◌∙◌, length-append, arith}
use Rattle.std.specs.FinMap.{find, put}
use Rattle.store_base.specs.Keys.{IsKey}
use Rattle.store_model.specs.Paths.{key_cmp}
use Rattle.store_model.specs.Labels.{Lead}
use Rattle.store_model.specs.Draws.{Draw}
use Rattle.store_model.specs.Pairs.{Pair, IsValue}
use Rattle.store_model.specs.Pages.{Cell, cell_on, level_list, level_pages, pages_of_pairs}
use Rattle.store_model.specs.PageMaps.{PageMap, map_of_pages}
use Rattle.store_model.proofs.ListsLemmas.{rising_from_is_sorted}
use Rattle.store_model.proofs.PagesLemmasSizes.{IsPairList}
use Rattle.store_model.proofs.PagesLemmasSplits.{level_pages-above}
use Rattle.ordered_pairs.specs.PairsState.{without}
use Rattle.skip_levels.specs.PairChanges.{IsPutting, IsTaking}
use Rattle.skip_levels.specs.SearchPath.{leader_behind, not_above, below, above}
use Rattle.skip_levels.proofs.Apart.{list_pages}
use Rattle.skip_levels.proofs.LevelChanges.{pages_between, same_level, none_changed}
use Rattle.skip_levels.proofs.PairSides.{Lacks, Has, lacks_pair, has_pair}
use Rattle.skip_levels.proofs.PlaceGroups.{level_is_list, level_list-append}
use Rattle.skip_levels.proofs.PlaceSteps.{AreFew, SetsAt, SplitsAt, JoinsAt, sets_new, splits_new}
use Rattle.skip_levels.proofs.PlaceTakes.{leader_past, sets_value, sets_taken, joins_taken}
use Rattle.ordered_pairs.proofs.ValidLemmas.{IsPairs-put, IsPairs-without}

-- above a level on which both lists have the same pages, nothing is to be changed
pub from_level : (d : Draw) (s t : List Pair) (top : ℕ) → top < d.height
    → ((level : ℕ) → top < level → level_pages d s level ≡ level_pages d t level)
    → pages_between d s t (top + 1) ≡ pages_of_pairs d s
from_level d s t top within same = up (d.height - (top + 1)) (top + 1) (omega arith) (omega arith) ∙ none_changed d s t
  where
    up : (n level : ℕ) → level + n ≡ d.height → top < level → pages_between d s t level ≡ pages_between d s t d.height
    up zero level far above = ap (pages_between d s t) (let here : level ≡ d.height = omega arith in here)
    up (suc n) level far above = sym (same_level d s t level (omega arith) (same level above))
        ∙ up n (level + 1) (omega arith) (omega arith)

-- above level 0 a cell has no value
pub not_zero : (level : ℕ) → 0 < level → (level == 0) ≡ false
not_zero level some = go (level == 0) refl
  where
    go : (b : Bool) → (level == 0) ≡ b → (level == 0) ≡ false
    go true e = let is = eqb-true level 0 e in absurd (omega arith)
    go false e = e

pub bare_cell : (level : ℕ) (key old new : List ℕ) → 0 < level → cell_on level (key, old) ≡ cell_on level (key, new)
bare_cell level key old new some =
    ap (λ b. cond {A = Cell} b (record { key = key; value = Some old }) (record { key = key; value = None }))
    (not_zero level some)
    ∙ sym (ap (λ b. cond {A = Cell} b (record { key = key; value = Some new }) (record { key = key; value = None }))
    (not_zero level some))

-- a value changes no page above level 0
same_above : (d : Draw) (low high : List Pair) (key old new : List ℕ) (level : ℕ) → 0 < level
    → level_pages d (low ++ (key, old) ∷ high) level ≡ level_pages d (low ++ (key, new) ∷ high) level
unfolding level_list
same_above d low high key old new zero some = absurd (omega arith)
same_above d low high key old new (suc level) some =
    level_is_list d (suc level) (low ++ (key, old) ∷ high) ∙ ap (list_pages d (suc level)) cells
    ∙ sym (level_is_list d (suc level) (low ++ (key, new) ∷ high))
  where
    here : level_list d ((key, old) ∷ high) (suc level) ≡ level_list d ((key, new) ∷ high) (suc level)
    here =
        let rest = filter (λ (p : Pair). nat_le (suc level) (d.level p.0)) high in
        elim (nat_le (suc level) (d.level key)) as
        (λ b. map (cell_on (suc level)) (cond b ((key, old) ∷ rest) rest)
        ≡ map (cell_on (suc level)) (cond b ((key, new) ∷ rest) rest)) [
          | true ↦ ap (λ c. c ∷ map (cell_on (suc level)) rest) (bare_cell (suc level) key old new (omega arith))
          | false ↦ refl
        ]

    cells : level_list d (low ++ (key, old) ∷ high) (suc level) ≡ level_list d (low ++ (key, new) ∷ high) (suc level)
    cells =
        level_list-append d (suc level) low ((key, old) ∷ high) ∙ ap (λ xs. level_list d low (suc level) ++ xs) here
        ∙ sym (level_list-append d (suc level) low ((key, new) ∷ high))

-- ---- a value put under a key

module _ (d : Draw) (s : List Pair) (start : PageMap) (top : ℕ) (lead : Lead) (key value : List ℕ)
    (h : IsPutting d s start top lead key) (is_key : IsKey key) (is_value : IsValue value) where
  abbrev pub t : List Pair
  t = put key_cmp key value s

  abbrev low : List Pair
  low = below key s

  abbrev high : List Pair
  high = above key s

  lacks : find key_cmp key s ≡ None → Lacks key s
  lacks none = lacks_pair key s (rising_from_is_sorted key_cmp s h.holds.pairs.sorted) none

  has : (old : List ℕ) → find key_cmp key s ≡ Some old → Has key old s
  has old some = has_pair key old s (rising_from_is_sorted key_cmp s h.holds.pairs.sorted) some

  -- both lists are valid
  old_list : IsPairList s
  old_list = record { pairs = h.holds.pairs; few = omega (arith, h.holds.few) }

  new_list : length t ≤ 8388608 → IsPairList t
  new_list few = record { pairs = IsPairs-put key value s is_key is_value h.holds.pairs; few = omega arith }

  new_few : find key_cmp key s ≡ None → length t ≤ 8388608
  new_few none = let a = lacks none
      in omega (
        arith,
        ap length (a.put value),
        ap length a.sides,
        length-append low
            ((key, value) ∷ high),
        length-append low high,
        h.room,
      )

  over_few : (old : List ℕ) → find key_cmp key s ≡ Some old → length t ≤ 8388608
  over_few old some = let a = has old some
      in omega (
        arith,
        ap length (a.put value),
        ap length a.sides,
        length-append low
            ((key, value) ∷ high),
        length-append low ((key, old) ∷ high),
        h.room,
      )

  pub within : top < d.height
  within = elim h.place [
    | inl new ↦ let below_height = h.holds.lawful.level_in_range key in let is = new.own in omega arith
    | inr there ↦ let below_height = h.holds.lawful.level_in_range key in let is = there.lowest in omega arith
  ]

  -- nothing is to be changed above the level at which the change begins
  pub put_begins : pages_between d s t (top + 1) ≡ pages_of_pairs d s
  put_begins = from_level d s t top within same
    where
      same : (level : ℕ) → top < level → level_pages d s level ≡ level_pages d t level
      same level above_top = elim h.place [
        | inl new ↦
            let a = lacks new.lacks in
            let is = new.own in
            ap (λ xs. level_pages d xs level) a.sides
            ∙ sym (level_pages-above d low (key, value) high level (omega arith))
            ∙ ap (λ xs. level_pages d xs level) (sym (a.put value))
        | inr there ↦
            let a = has there.value there.has in
            ap (λ xs. level_pages d xs level) a.sides ∙ same_above d low high key there.value value level (omega arith)
            ∙ ap (λ xs. level_pages d xs level) (sym (a.put value))
      ]

  module _ (m : PageMap) where
    -- the first level to change
    pub put_first : m ≡ map_of_pages (pages_between d s t (top + 1))
        → SetsAt m d top (leader_behind d top (not_above key s)) s t key (cell_on top (key, value) ∷ []) low
    put_first is = elim h.place [
      | inl new ↦
          let a = lacks new.lacks in
          let own = new.own in
          let few = new_few new.lacks in
          let made = sets_new m d top low high (key, value) (subst IsPairList a.sides old_list)
          (subst IsPairList (a.put value) (new_list few)) within (record {
            narrow = h.holds.height;
            old_few = subst (λ xs. length xs ≤ 8388608) a.sides h.holds.few;
            new_few = subst (λ xs. length xs ≤ 8388608) (a.put value) few;
          }) (sym own) (is ∙ ap₂ (λ xs ys. map_of_pages (pages_between d xs ys (top + 1))) a.sides (a.put value)) in
          subst (λ l. SetsAt m d top l s t key (cell_on top (key, value) ∷ []) low)
          (ap (leader_behind d top) (sym a.floor))
          (subst (λ xs. SetsAt m d top (leader_behind d top low) xs t key (cell_on top (key, value) ∷ []) low)
          (sym a.sides)
          (subst (λ ys. SetsAt m d top (leader_behind d top low) (low ++ high) ys key
          (cell_on top (key, value) ∷ []) low) (sym (a.put value)) made))
      | inr there ↦
          let a = has there.value there.has in
          let few = over_few there.value there.has in
          let old = there.value in
          let shorter : IsPairList (low ++ high) =
          subst IsPairList a.taken (record {
            pairs = IsPairs-without key s h.holds.pairs;
            few = omega (
              arith,
              ap length a.taken,
              ap length a.sides,
              length-append low high,
              length-append low
                  ((key, old) ∷ high),
              h.room,
            );
          }) in
          let at_0 = is ∙ ap₂ (λ xs ys. map_of_pages (pages_between d xs ys (top + 1))) a.sides (a.put value) in
          let made = sets_value m d low high key old value shorter (subst IsPairList a.sides old_list)
          (subst IsPairList (a.put value) (new_list few)) (let w = within in omega arith) (record {
            narrow = h.holds.height;
            old_few = subst (λ xs. length xs ≤ 8388608) a.sides h.holds.few;
            new_few = subst (λ xs. length xs ≤ 8388608) (a.put value) few;
          }) (subst (λ n. m ≡ map_of_pages (pages_between d (low ++ (key, old) ∷ high) (low ++ (key, value) ∷ high)
          (n + 1))) there.lowest at_0) low in
          subst (λ n. SetsAt m d n (leader_behind d n (not_above key s)) s t key (cell_on n (key, value) ∷ []) low)
          (sym there.lowest)
          (subst (λ l. SetsAt m d 0 l s t key (cell_on 0 (key, value) ∷ []) low) (ap (leader_behind d 0) (sym a.floor))
          (subst (λ xs. SetsAt m d 0 (leader_behind d 0 (low ++ (key, old) ∷ [])) xs t key
          (cell_on 0 (key, value) ∷ []) low) (sym a.sides)
          (subst (λ ys. SetsAt m d 0 (leader_behind d 0 (low ++ (key, old) ∷ [])) (low ++ (key, old) ∷ high) ys key
          (cell_on 0 (key, value) ∷ []) low) (sym (a.put value)) made)))
    ]

    -- each level below it
    pub put_below : (level : ℕ) → level < top → m ≡ map_of_pages (pages_between d s t (level + 1))
        → SplitsAt m d level (leader_behind d level low) s t key (cell_on level (key, value) ∷ []) low high
    put_below level lower is = elim h.place [
      | inl new ↦
          let a = lacks new.lacks in
          let own = new.own in
          let few = new_few new.lacks in
          let made = splits_new m d level low high (key, value) (subst IsPairList a.sides old_list)
          (subst IsPairList (a.put value) (new_list few)) (let w = within in omega arith) (record {
            narrow = h.holds.height;
            old_few = subst (λ xs. length xs ≤ 8388608) a.sides h.holds.few;
            new_few = subst (λ xs. length xs ≤ 8388608) (a.put value) few;
          }) (omega arith) (is ∙ ap₂ (λ xs ys. map_of_pages (pages_between d xs ys (level + 1))) a.sides (a.put value))
          in
          subst (λ xs. SplitsAt m d level (leader_behind d level low) xs t key
          (cell_on level (key, value) ∷ []) low high) (sym a.sides)
          (subst (λ ys. SplitsAt m d level (leader_behind d level low) (low ++ high) ys key
          (cell_on level (key, value) ∷ []) low high) (sym (a.put value)) made)
      | inr there ↦ let is_0 = there.lowest in absurd (omega arith)
    ]

  -- where a level is cut in two, the key is new
  pub floor_below : (level : ℕ) → level < top → not_above key s ≡ low
  floor_below level lower = elim h.place [
    | inl new ↦ (lacks new.lacks).floor
    | inr there ↦ let is_0 = there.lowest
        in absurd (omega arith)
  ]

-- ---- a pair taken out

module _ (d : Draw) (s : List Pair) (start : PageMap) (top : ℕ) (lead : Lead) (key : List ℕ)
    (h : IsTaking d s start top lead key) where
  abbrev pub rest : List Pair
  rest = without key s

  abbrev pub pair_there : Has key h.value s
  pair_there = has_pair key h.value s (rising_from_is_sorted key_cmp s h.holds.pairs.sorted) h.has

  whole_list : IsPairList (below key s ++ (key, h.value) ∷ above key s)
  whole_list = subst IsPairList pair_there.sides (record { pairs = h.holds.pairs; few = omega (arith, h.holds.few) })

  rest_few : length rest ≤ 8388608
  rest_few = omega (
    arith,
    ap length pair_there.taken,
    ap length pair_there.sides,
    length-append (below key s)
        (above key s),
    length-append (below key s) ((key, h.value) ∷ above key s),
    h.holds.few,
  )

  rest_list : IsPairList (below key s ++ above key s)
  rest_list = subst IsPairList pair_there.taken (record {
    pairs = IsPairs-without key s h.holds.pairs;
    few = let few = rest_few in omega arith;
  })

  few_lists : AreFew d (below key s ++ (key, h.value) ∷ above key s) (below key s ++ above key s)
  few_lists = record {
    narrow = h.holds.height;
    old_few = subst (λ xs. length xs ≤ 8388608) pair_there.sides h.holds.few;
    new_few = subst (λ xs. length xs ≤ 8388608) pair_there.taken rest_few;
  }

  pub take_within : top < d.height
  take_within = let range = h.holds.lawful.level_in_range key in omega (arith, h.own)

  pub take_begins : pages_between d s rest (top + 1) ≡ pages_of_pairs d s
  take_begins = from_level d s rest top take_within (λ level above_top.
      ap (λ xs. level_pages d xs level) pair_there.sides
      ∙ level_pages-above d (below key s) (key, h.value) (above key s) level (omega (arith, h.own))
      ∙ ap (λ xs. level_pages d xs level) (sym pair_there.taken))

  module _ (m : PageMap) where
    pub take_first : m ≡ map_of_pages (pages_between d s rest (top + 1))
        → SetsAt m d top (leader_behind d top (not_above key s)) s rest key [] (below key s)
    take_first is =
        let low = below key s in
        let high = above key s in
        let made = sets_taken m d top low high (key, h.value) rest_list whole_list take_within few_lists (sym h.own)
        (is ∙ ap₂ (λ xs ys. map_of_pages (pages_between d xs ys (top + 1))) pair_there.sides pair_there.taken) in
        subst (λ l. SetsAt m d top l s rest key [] low)
        (sym (ap (leader_behind d top) pair_there.floor
        ∙ leader_past d top low (key, h.value) (omega (arith, h.own))))
        (subst (λ xs. SetsAt m d top (leader_behind d top low) xs rest key [] low) (sym pair_there.sides)
        (subst (λ ys. SetsAt m d top (leader_behind d top low) (low ++ (key, h.value) ∷ high) ys key [] low)
        (sym pair_there.taken) made))

    pub take_below : (level : ℕ) → level < top → m ≡ map_of_pages (pages_between d s rest (level + 1))
        → JoinsAt m d level (leader_behind d level (below key s)) s rest key (below key s) (above key s) (key, h.value)
    take_below level lower is =
        let low = below key s in
        let high = above key s in
        let made = joins_taken m d level low high (key, h.value) rest_list whole_list
        (let w = take_within in omega arith) few_lists (omega (arith, h.own))
        (is ∙ ap₂ (λ xs ys. map_of_pages (pages_between d xs ys (level + 1))) pair_there.sides pair_there.taken) in
        subst (λ xs. JoinsAt m d level (leader_behind d level low) xs rest key low high (key, h.value))
        (sym pair_there.sides)
        (subst (λ ys. JoinsAt m d level (leader_behind d level low) (low ++ (key, h.value) ∷ high) ys key low high
        (key, h.value)) (sym pair_there.taken) made)
