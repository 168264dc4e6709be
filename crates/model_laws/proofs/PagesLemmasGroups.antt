-- What the groups of a level are.
use Rattle.std.proofs.Common.{◌≡◌, ℕ, ◌-◌, ◌≤◌, List, [], ◌∷◌, drop, length, Bool, false, if◌then◌else◌, refl, sym, ap}
use Rattle.std.proofs.Common.{◌∙◌, arith}
use Rattle.std.proofs.lemmas.Bool.{le-ltb, false≢true}
use Rattle.std.specs.List.{AllByRecursion, flat_map}
use Rattle.store_model.specs.Lists.{cut_before}
use Rattle.store_model.specs.Labels.Lead.{Start, Leader}
use Rattle.store_model.specs.Pairs.{Pair}
use Rattle.store_model.specs.Draws.{Draw, IsLawful}
use Rattle.store_model.specs.Pages.{Cell, groups, level_list, leads_group, lead_of, IsGroup, IsLedGroup}
use Rattle.store_model.proofs.ListsLemmas.{all_weaker}
use Rattle.store_model.proofs.ListsLemmasCuts.{IsUncut, BeginsAtCut, AllButFirst, flat_map-cut_before}
use Rattle.store_model.proofs.ListsLemmasCuts.{cut_before_is_uncut, cut_before_begins}

-- the groups one after another are the list
pub flat_map-groups : (d : Draw) (s : List Pair) (level : ℕ)
    → flat_map (λ group. group) (groups d s level) ≡ level_list d s level
unfolding groups
flat_map-groups d s level = flat_map-cut_before (leads_group d level) (level_list d s level)

is_group : (d : Draw) (level : ℕ) (group : List Cell) → IsUncut (leads_group d level) group → IsGroup d level group
is_group d level [] h = h
is_group d level (cell ∷ cells) h = h

is_led : (d : Draw) (level : ℕ) (group : List Cell) → BeginsAtCut (leads_group d level) group → IsLedGroup d level group
unfolding lead_of
is_led d level [] h = h
is_led d level (cell ∷ cells) h = ap (λ (b : Bool). if b then Leader cell.key else Start) h

-- no group is empty or cut within
pub groups_within : (d : Draw) (s : List Pair) (level : ℕ) → AllByRecursion (IsGroup d level) (groups d s level)
unfolding groups
groups_within d s level = all_weaker _ _ (is_group d level) _
    (cut_before_is_uncut (leads_group d level) (level_list d s level))

all_but_first : {A : Type 0} (P : A → Type 0) (xs : List A) → AllButFirst P xs → AllByRecursion P (drop 1 xs)
all_but_first P [] h = tt
all_but_first P (x ∷ xs) h = h

-- each group but the first is led by its first key
pub groups_led : (d : Draw) (s : List Pair) (level : ℕ)
    → AllByRecursion (IsLedGroup d level) (drop 1 (groups d s level))
unfolding groups
groups_led d s level = all_weaker _ _ (is_led d level) _
    (all_but_first (BeginsAtCut (leads_group d level)) (cut_before (leads_group d level) (level_list d s level))
    (cut_before_begins (leads_group d level) (level_list d s level)))

-- on the highest level no key leads a group
highest_leads_none : (d : Draw) (cell : Cell) → IsLawful d → leads_group d (d.height - 1) cell ≡ false
highest_leads_none d cell lawful = le-ltb (d.height - 1) (d.level cell.key)
    (omega (arith, lawful.level_in_range cell.key))

no_cut : (d : Draw) (group : List Cell) → IsLawful d → BeginsAtCut (leads_group d (d.height - 1)) group → ⊥
no_cut d [] lawful h = h
no_cut d (cell ∷ cells) lawful h = false≢true (sym (highest_leads_none d cell lawful) ∙ h)

at_most_one : {A : Type 0} (P : A → Type 0) (xs : List A) → ((x : A) → P x → ⊥) → AllButFirst P xs → length xs ≤ 1
at_most_one P [] never h = omega arith
at_most_one P (x ∷ []) never h = omega arith
at_most_one P (x ∷ y ∷ xs) never h = absurd (never y h.0)

-- the highest level has one group at most
pub highest_group : (d : Draw) (s : List Pair) → IsLawful d → length (groups d s (d.height - 1)) ≤ 1
unfolding groups
highest_group d s lawful = at_most_one _ _ (λ group. no_cut d group lawful)
    (cut_before_begins (leads_group d (d.height - 1)) (level_list d s (d.height - 1)))

-- and the start leads it
pub highest_lead : (d : Draw) (cells : List Cell) → IsLawful d → lead_of d (d.height - 1) cells ≡ Start
unfolding lead_of
highest_lead d [] lawful = refl
highest_lead d (cell ∷ cells) lawful =
    ap (λ (b : Bool). if b then Leader cell.key else Start) (highest_leads_none d cell lawful)
