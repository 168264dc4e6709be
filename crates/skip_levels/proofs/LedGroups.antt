-- The group of a place is the one that its lead leads.
use Rattle.std.proofs.Common.{◌≡◌, ◌⊎◌, inl, inr, ℕ, List, [], ◌∷◌, ◌++◌, Bool, true, false, cond, Some, None}
use Rattle.std.proofs.Common.{unwrap_or, refl, sym, ap, ap₂, subst, ◌∙◌, append_assoc}
use Rattle.std.specs.List.{AllByRecursion, find}
use Rattle.std.specs.Option.{option_or}
use Rattle.std.specs.List.Sorted.{IsStrictlySortedBy}
use Rattle.std.specs.Cmp.Lexicographic.{same_text, other_text}
use Rattle.std.proofs.lemmas.List.Folds.{find-append}
use Rattle.store_model.specs.Lists.{same_bytes, cut_before}
use Rattle.store_model.specs.Labels.{Lead, lead_bytes}
use Rattle.store_model.specs.Draws.{Draw}
use Rattle.store_model.specs.Pairs.{Pair, IsPairs}
use Rattle.store_model.specs.Pages.{Cell, level_list, leads_group, lead_of, groups}
use Rattle.store_model.proofs.ListsLemmas.{all_weaker}
use Rattle.store_model.proofs.PagesLemmasOrder.{cell_cmp, rising_level_list}
use Rattle.store_model.proofs.TreesLemmasBytes.{leads_same}
use Rattle.skip_levels.specs.SearchPath.{leader_behind, group_led_by}
use Rattle.skip_levels.proofs.Apart.{BeginsAtCut, IsUncut, cut_apart, one_part}
use Rattle.skip_levels.proofs.Around.{IsLed, HasNoCut, last_part, first_cut, uncut_append}
use Rattle.skip_levels.proofs.PlaceGroups.{group_of_place, lead_of_place, leads_around, level_list-append}

-- among elements that fail none is found
find_none : {X : Type 0} (p : X → Bool) (xs : List X) → AllByRecursion (λ x. p x ≡ false) xs → find p xs ≡ None
find_none p [] h = refl
find_none p (x ∷ xs) h = ap (λ b. cond b (Some x) (find p xs)) h.0 ∙ find_none p xs h.1

-- whether a lead is another, by their bytes
leads_differ : (a b : Lead) → (a ≡ b → ⊥) → same_bytes (lead_bytes a) (lead_bytes b) ≡ false
leads_differ a b other =
    elim (same_bytes (lead_bytes a) (lead_bytes b)) as (λ t. same_bytes (lead_bytes a) (lead_bytes b) ≡ t → t ≡ false) [
      | true ↦ λ e. absurd (other (leads_same a b (same_text (lead_bytes a) (lead_bytes b) (sym e))))
      | false ↦ λ e. refl
    ] refl

lead_itself : (a : Lead) → same_bytes (lead_bytes a) (lead_bytes a) ≡ true
lead_itself a =
    elim (same_bytes (lead_bytes a) (lead_bytes a)) as (λ t. same_bytes (lead_bytes a) (lead_bytes a) ≡ t → t ≡ true) [
      | true ↦ λ e. refl
      | false ↦ λ e. absurd (other_text (lead_bytes a) (lead_bytes a) (sym e) refl)
    ] refl

module _ (d : Draw) (level : ℕ) where
  abbrev is_led_by : Lead → List Cell → Bool
  is_led_by lead group = same_bytes (lead_bytes (lead_of d level group)) (lead_bytes lead)

  not_among : (lead : Lead) (parts : List (List Cell)) → AllByRecursion (λ g. lead_of d level g ≡ lead → ⊥) parts
      → find (is_led_by lead) parts ≡ None
  not_among lead parts h = find_none (is_led_by lead) parts
      (all_weaker _ _ (λ g other. leads_differ (lead_of d level g) lead other) parts h)

  -- the group in front of others
  first_found : (cells : List Cell) (parts : List (List Cell)) → IsUncut (leads_group d level) cells
      → AllByRecursion (λ g. lead_of d level g ≡ lead_of d level cells → ⊥) parts
      → unwrap_or (find (is_led_by (lead_of d level cells)) (cut_before (leads_group d level) cells ++ parts)) []
      ≡ cells
  unfolding cut_before
  first_found [] parts uncut others = ap (λ o. unwrap_or o []) (not_among (lead_of d level []) parts others)
  first_found (x ∷ xs) parts uncut others =
      let lead = lead_of d level (x ∷ xs) in
      ap (λ gs. unwrap_or (find (is_led_by lead) (gs ++ parts)) []) (one_part (leads_group d level) x xs uncut)
      ∙ ap (λ b. unwrap_or (cond b (Some (x ∷ xs)) (find (is_led_by lead) parts)) []) (lead_itself lead)

  -- a level's list is cut before and behind the group of a place
  cut_around : (before part mid behind : List Cell)
      → IsLed (leads_group d level) part ⊎ ((before ≡ []) × HasNoCut (leads_group d level) part)
      → BeginsAtCut (leads_group d level) behind
      → cut_before (leads_group d level) (before ++ ((part ++ mid) ++ behind)) ≡ cut_before (leads_group d level) before
      ++ (cut_before (leads_group d level) (part ++ mid) ++ cut_before (leads_group d level) behind)
  unfolding cut_before
  cut_around before [] mid behind (inl led) next = absurd led
  cut_around before (y ∷ part) mid behind (inl led) next =
      let cuts = leads_group d level in
      cut_apart cuts before ((y ∷ part ++ mid) ++ behind) led
      ∙ ap (λ gs. cut_before cuts before ++ gs) (cut_apart cuts (y ∷ part ++ mid) behind next)
  cut_around before part mid behind (inr alone) next =
      let cuts = leads_group d level in
      ap (λ xs. cut_before cuts (xs ++ ((part ++ mid) ++ behind))) alone.0 ∙ cut_apart cuts (part ++ mid) behind next
      ∙ sym (ap (λ xs. cut_before cuts xs ++ (cut_before cuts (part ++ mid) ++ cut_before cuts behind)) alone.0)

  led_or_not : (before part : List Cell) → IsLed (leads_group d level) part
      ⊎ ((before ≡ []) × HasNoCut (leads_group d level) part)
      → IsLed (leads_group d level) part ⊎ HasNoCut (leads_group d level) part
  led_or_not before part (inl led) = inl led
  led_or_not before part (inr none) = inr none.1

  pub led_by_place : (s low high : List Pair) → s ≡ low ++ high → IsPairs s
      → group_led_by d s level (leader_behind d level low) ≡ group_of_place d level low high
  unfolding group_of_place groups
  led_by_place s low high sides valid =
      let cuts = leads_group d level in
      let l = last_part cuts (level_list d low level) in
      let h = first_cut cuts (level_list d high level) in
      let cells = l.part ++ h.part in
      let lead = lead_of d level cells in
      let whole : level_list d s level ≡ l.before ++ (cells ++ h.behind) =
      ap (λ xs. level_list d xs level) sides ∙ level_list-append d level low high
      ∙ ap₂ (λ xs ys. xs ++ ys) l.whole h.whole
      ∙ append_assoc l.before l.part (h.part ++ h.behind)
      ∙ ap (λ ys. l.before ++ ys) (sym (append_assoc l.part h.part h.behind)) in
      let rising = subst (IsStrictlySortedBy cell_cmp) whole (rising_level_list d s level valid.sorted) in
      let others = leads_around d level l.before l.part h.part h.behind l.uncut l.begins h.uncut h.next rising in
      let uncut = uncut_append cuts l.part h.part l.uncut h.uncut (led_or_not l.before l.part l.begins) in
      ap (λ x. unwrap_or (find (is_led_by x) (cut_before cuts (level_list d s level))) [])
      (sym (lead_of_place d level low high))
      ∙ ap (λ gs. unwrap_or (find (is_led_by lead) gs) [])
      (ap (cut_before cuts) whole ∙ cut_around l.before l.part h.part h.behind l.begins h.next)
      ∙ ap (λ o. unwrap_or o []) (find-append (is_led_by lead) (cut_before cuts l.before)
      (cut_before cuts cells ++ cut_before cuts h.behind)
      ∙ ap (λ o. option_or o (find (is_led_by lead) (cut_before cuts cells ++ cut_before cuts h.behind)))
      (not_among lead (cut_before cuts l.before) others.0))
      ∙ first_found cells (cut_before cuts h.behind) uncut others.1
