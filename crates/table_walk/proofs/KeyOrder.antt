-- The order of keys, and cells in that order.
use Rattle.std.proofs.Common.{◌≡◌, ℕ, ◌⊎◌, inl, inr, List, [], ◌∷◌, ◌++◌, Option, Some, None, refl, sym, subst, arith}
use Rattle.std.specs.List.{Contains, AllByRecursion}
use Rattle.std.specs.List.Sorted.{IsStrictlySortedBy}
use Rattle.std.specs.Cmp.{tied_itself}
use Rattle.std.specs.Cmp.Lexicographic.{nat_list_cmp_total}
use Rattle.std.specs.declared.cmp.Ordering.TheVariants.{Less}
use Rattle.std.proofs.lemmas.Option.{same_Some}
use Rattle.std.proofs.lemmas.List.Elements.{Contains-append_left, Contains-append_right, Contains-append_cases}
use Rattle.store_model.specs.Paths.{key_cmp}
use Rattle.store_model.specs.Labels.{Lead}
use Rattle.store_model.specs.Labels.Lead.{Start, Leader}
use Rattle.store_model.specs.Pages.{Cell}
use Rattle.store_model.proofs.ListsLemmas.{rising_append}
use Rattle.store_model.proofs.ListsLemmasOrder.{held_cases, held_first, held_later}
use Rattle.layout_conditions.specs.Pages.{KeysRise}
use Rattle.table_walk.specs.Streams.{HasKeyIn, cell_order, IsAbove, IsReached, GoesOn}
use Rattle.table_walk.specs.Walked.{IsLeadIn}

-- no element stands in an empty list, and one alone in a list of one
pub none_in : {X : Type 0} (x : X) → Contains [] x → ⊥
none_in x held = absurd (omega (arith, held.1))

pub only_one : {X : Type 0} (x y : X) → Contains (x ∷ []) y → x ≡ y
only_one x y held = by_place (held_cases x [] y held)
  where
    by_place : (x ≡ y) ⊎ Contains [] y → x ≡ y
    by_place (inl same) = same
    by_place (inr later) = absurd (none_in y later)

pub key_trans : (a b c : List ℕ) → key_cmp a b ≡ Less → key_cmp b c ≡ Less → key_cmp a c ≡ Less
key_trans a b c = nat_list_cmp_total.trans a b c

pub not_below_itself : (a : List ℕ) → key_cmp a a ≡ Less → ⊥
not_below_itself a less = let tied = tied_itself nat_list_cmp_total a in cc

pub not_both : (a b : List ℕ) → key_cmp a b ≡ Less → key_cmp b a ≡ Less → ⊥
not_both a b first second = not_below_itself a (key_trans a b a first second)

-- a key that is reached is below each that is above
pub reached_below : (last : Option (List ℕ)) (a b : List ℕ) → IsReached last a → IsAbove last b → key_cmp a b ≡ Less
reached_below None a b reached above = absurd reached
reached_below (Some last) a b (inl same) above = subst (λ (k : List ℕ). key_cmp k b ≡ Less) (sym same) above
reached_below (Some last) a b (inr below) above = key_trans a last b below above

-- ---- keys among cells

pub in_more : (cells others : List Cell) (key : List ℕ) → ((c : Cell) → Contains cells c → Contains others c)
    → HasKeyIn cells key → HasKeyIn others key
in_more cells others key more has = record { cell = has.cell; is_in = more has.cell has.is_in; key_is = has.key_is }

pub in_left : (cells others : List Cell) (key : List ℕ) → HasKeyIn cells key → HasKeyIn (cells ++ others) key
in_left cells others key = in_more cells (cells ++ others) key (Contains-append_left cells others)

pub in_right : (cells others : List Cell) (key : List ℕ) → HasKeyIn others key → HasKeyIn (cells ++ others) key
in_right cells others key = in_more others (cells ++ others) key (Contains-append_right cells others)

pub in_of : (cells : List Cell) (cell : Cell) → Contains cells cell → HasKeyIn cells cell.key
in_of cells cell held = record { cell = cell; is_in = held; key_is = refl }

pub in_one : (cell : Cell) → HasKeyIn (cell ∷ []) cell.key
in_one cell = in_of (cell ∷ []) cell (held_first cell [])

pub lead_more : (cells others : List Cell) (lead : Lead) → ((key : List ℕ) → HasKeyIn cells key → HasKeyIn others key)
    → IsLeadIn cells lead → IsLeadIn others lead
lead_more cells others Start more has = tt
lead_more cells others (Leader key) more has = more key has

-- keys among cells that rise before others
pub keys_below : (first second : List Cell) (a b : List ℕ) → KeysRise first second → HasKeyIn first a
    → HasKeyIn second b → key_cmp a b ≡ Less
keys_below first second a b rise in_first in_second =
    subst (λ (k : List ℕ). key_cmp k b ≡ Less)
    in_first.key_is (subst (λ (k : List ℕ). key_cmp in_first.cell.key k ≡ Less)
    in_second.key_is (rise in_first.cell in_second.cell in_first.is_in in_second.is_in))

-- cells that rise before others are below them
all_of : {X : Type 0} (P : X → Type 0) (xs : List X) → ((x : X) → Contains xs x → P x) → AllByRecursion P xs
all_of P [] all = tt
all_of P (x ∷ xs) all = (all x (held_first x xs), all_of P xs (λ y held. all y (held_later x xs y held)))

pub rising_both : (first second : List Cell) → IsStrictlySortedBy cell_order first
    → IsStrictlySortedBy cell_order second → KeysRise first second → IsStrictlySortedBy cell_order (first ++ second)
rising_both first second up then rise =
    rising_append cell_order first second up then
    (all_of _ first (λ a in_first. all_of _ second (λ b in_second. rise a b in_first in_second)))

-- ---- going on

pub goes_nowhere : (last : Option (List ℕ)) → GoesOn last [] last
goes_nowhere last = record {
  above = λ cell held. absurd (none_in cell held);
  reached = λ cell held. absurd (none_in cell held);
  kept = λ key reached. reached;
  from = λ key is. inr is;
}

pub goes_on_one : (last : Option (List ℕ)) (cell : Cell) → IsAbove last cell.key
    → GoesOn last (cell ∷ []) (Some cell.key)
goes_on_one last cell above = record {
  above = λ other held. one other (λ (c : Cell). IsAbove last c.key) held above;
  reached = λ other held. one other (λ (c : Cell). IsReached (Some cell.key) c.key) held (inl refl);
  kept = λ key reached. inr (reached_below last key cell.key reached above);
  from = λ key is. inl (record { cell = cell; is_in = held_first cell []; key_is = same_Some cell.key key is });
}
  where
    one : (other : Cell) (P : Cell → Type 0) → Contains (cell ∷ []) other → P cell → P other
    one other P held p = subst P (only_one cell other held) p

-- what goes on twice: the second cells are above the first
pub rise_behind : (last mid now : Option (List ℕ)) (first second : List Cell) → GoesOn last first mid
    → GoesOn mid second now → KeysRise first second
rise_behind last mid now first second on then a b in_first in_second =
    reached_below mid a.key b.key (on.reached a in_first) (then.above b in_second)

-- what is above a last key that others led to is above the one before them
above_both : (last mid : Option (List ℕ)) (key : List ℕ) → ((k : List ℕ) → IsReached last k → IsReached mid k)
    → IsAbove mid key → IsAbove last key
above_both None mid key kept above = tt
above_both (Some last) mid key kept above = reached_below mid last key (kept last (inl refl)) above

pub goes_on_both : (last mid now : Option (List ℕ)) (first second : List Cell) → GoesOn last first mid
    → GoesOn mid second now → GoesOn last (first ++ second) now
goes_on_both last mid now first second on then = record {
  above = λ cell held. above_by cell (Contains-append_cases first second cell held);
  reached = λ cell held. reached_by cell (Contains-append_cases first second cell held);
  kept = λ key reached. then.kept key (on.kept key reached);
  from = λ key is. from_by key (then.from key is);
}
  where
    above_by : (cell : Cell) → Contains first cell ⊎ Contains second cell → IsAbove last cell.key
    above_by cell (inl held) = on.above cell held
    above_by cell (inr held) = above_both last mid cell.key on.kept (then.above cell held)

    reached_by : (cell : Cell) → Contains first cell ⊎ Contains second cell → IsReached now cell.key
    reached_by cell (inl held) = then.kept cell.key (on.reached cell held)
    reached_by cell (inr held) = then.reached cell held

    from_by : (key : List ℕ) → HasKeyIn second key ⊎ (mid ≡ Some key)
        → HasKeyIn (first ++ second) key ⊎ (last ≡ Some key)
    from_by key (inl has) = inl (in_right first second key has)
    from_by key (inr is) = from_mid key (on.from key is)
      where
        from_mid : (key : List ℕ) → HasKeyIn first key ⊎ (last ≡ Some key)
            → HasKeyIn (first ++ second) key ⊎ (last ≡ Some key)
        from_mid key (inl has) = inl (in_left first second key has)
        from_mid key (inr is) = inr is
