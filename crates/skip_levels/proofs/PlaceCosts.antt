-- The two groups that are joined where a pair is taken out are those of the search paths, at or below the key and
-- strictly below it.
use Rattle.std.proofs.Common.{◌≡◌, ℕ, ◌<◌, List, [], ◌∷◌, ◌++◌, Bool, true, false, nat_lt, refl, sym, ap, ◌∙◌}
use Rattle.std.proofs.Common.{append_assoc, arith, lt-ltb}
use Rattle.std.proofs.lemmas.List.{append-nil}
use Rattle.store_model.specs.Draws.{Draw}
use Rattle.store_model.specs.Pairs.{Pair, IsPairs}
use Rattle.store_model.specs.Pages.{cell_on, level_list, leads_group}
use Rattle.store_model.proofs.PagesLemmasOrder.{cell_on-key}
use Rattle.store_model.proofs.PagesLemmasSplits.{level_list-there}
use Rattle.store_model.proofs.TreesLemmasBytes.{heads_same}
use Rattle.skip_levels.specs.SearchPath.{leader_behind, below, above, group_led_by, group_below, group_at_or_below}
use Rattle.skip_levels.proofs.Around.{HasNoCut, first_cut, last_part, part_of_last}
use Rattle.skip_levels.proofs.LedGroups.{led_by_place}
use Rattle.skip_levels.proofs.PairSides.{Has}
use Rattle.skip_levels.proofs.PlaceChanges.{part, mid}
use Rattle.skip_levels.proofs.PlaceGroups.{group_of_place, level_list-append}

level_list_none : (d : Draw) (level : ℕ) → level_list d [] level ≡ []
unfolding level_list
level_list_none d level = refl

-- before a cut there is nothing
no_part : {A : Type 0} (cuts : A → Bool) (x : A) (xs part behind : List A) → cuts x ≡ true → x ∷ xs ≡ part ++ behind
    → HasNoCut cuts part → part ≡ []
no_part cuts x xs [] behind cut whole none = refl
no_part cuts x xs (z ∷ zs) behind cut whole none =
    let same = heads_same whole in
    let wrong : true ≡ false = sym cut ∙ ap cuts same ∙ none.0 in
    absurd (cc)

module _ (d : Draw) (level : ℕ) (key value : List ℕ) (s : List Pair) (h : Has key value s) (valid : IsPairs s)
    (lower : level < d.level key) where
  abbrev low : List Pair
  low = below key s

  abbrev high : List Pair
  high = above key s

  own_cut : leads_group d level (cell_on level (key, value)) ≡ true
  own_cut = ap (λ k. nat_lt level (d.level k)) (cell_on-key level (key, value)) ∙ lt-ltb level (d.level key) lower

  pub low_group : part d level low high (key, value) ≡ group_below d s level key
  unfolding group_of_place
  low_group =
      let cuts = leads_group d level in
      let cut = first_cut cuts (level_list d ((key, value) ∷ high) level) in
      let none : cut.part ≡ [] = no_part cuts (cell_on level (key, value))
      (level_list d high level) cut.part cut.behind own_cut
      (sym (level_list-there d (key, value) high level (omega arith)) ∙ cut.whole) cut.uncut in
      sym (led_by_place d level s low ((key, value) ∷ high) h.sides valid
      ∙ ap (λ cells. part d level low high (key, value) ++ cells) none
      ∙ append-nil (part d level low high (key, value)))

  pub high_group : cell_on level (key, value) ∷ mid d level low high (key, value) ≡ group_at_or_below d s level key
  unfolding group_of_place
  high_group =
      let cuts = leads_group d level in
      let own = cell_on level (key, value) in
      let cells : level_list d (low ++ (key, value) ∷ []) level ≡ level_list d low level ++ own ∷ [] =
      level_list-append d level low ((key, value) ∷ [])
      ∙ ap (λ xs. level_list d low level ++ xs)
      (level_list-there d (key, value) [] level (omega arith) ∙ ap (λ xs. own ∷ xs) (level_list_none d level)) in
      let last : (last_part cuts (level_list d (low ++ (key, value) ∷ []) level)).part ≡ own ∷ [] =
      ap (λ xs. (last_part cuts xs).part) cells ∙ part_of_last cuts own own_cut (level_list d low level) in
      let sides : s ≡ (low ++ (key, value) ∷ []) ++ high = h.sides ∙ sym (append_assoc low ((key, value) ∷ []) high) in
      sym (ap (λ xs. group_led_by d s level (leader_behind d level xs)) h.floor
      ∙ led_by_place d level s (low ++ (key, value) ∷ []) high sides valid
      ∙ ap (λ cells. cells ++ mid d level low high (key, value)) last)
