-- The keys above level 0 tell the pages of the levels above.
use Rattle.std.proofs.Common.{◌≡◌, ℕ, ◌≤◌, ◌<◌, List, [], ◌∷◌, map, Bool, true, false, cond, nat_le}
use Rattle.std.proofs.Common.{Option, None, Some, refl, sym, ap, ap₂, ◌∙◌, arith, inl, inr, append-nil}
use Rattle.std.specs.List.{filter, flat_map}
use Rattle.std.proofs.lemmas.Bool.{cases_lt, lt-leb, le-leb, ne_eqb}
use Rattle.store_model.specs.Lists.{cut_before}
use Rattle.store_model.specs.Draws.{Draw}
use Rattle.store_model.specs.Pairs.{Pair}
use Rattle.store_model.specs.Pages.{Cell, Page, cell_on, level_list, leads_group, groups, lead_of, group_pages}
use Rattle.store_model.specs.Pages.{level_pages}
use Rattle.store_model.proofs.PagesLemmasSplits.{level_pages-above}
use Rattle.rising_pages.specs.declared.raised.RaisedKey.{RaisedKey}
use Rattle.rising_pages.specs.Ends.{all_but_last, last_of}
use Rattle.rising_pages.specs.OpenPages.{StandsBehind, closed_pages, Comes, HasCome}
use Rattle.rising_pages.specs.Raised.{raised_pairs, key_pair, key_pairs, bare_cell, RaisedTell, KeyComes}
use Rattle.rising_pages.proofs.OpenPages.{stands_behind}

-- above level 0 a pair has a cell with its key alone
pub bare_on : (level : ℕ) (key value : List ℕ) → 1 ≤ level
    → cell_on level (key, value) ≡ record { key = key; value = None }
bare_on level key value above =
    ap (λ (b : Bool). cond {A = Cell} b (record { key = key; value = Some value }) (record { key = key; value = None }))
    (ne_eqb level 0 (λ same. omega (arith, same)))

-- so on such a level it does not matter which values there are
blank_cells : (d : Draw) (level : ℕ) (s : List Pair) → 1 ≤ level
    → map (cell_on level) (filter (λ pair. nat_le level (d.level pair.0))
    (key_pairs (map (λ pair. record { key = pair.0; level = d.level pair.0 }) s)))
    ≡ map (cell_on level) (filter (λ pair. nat_le level (d.level pair.0)) s)
blank_cells d level [] above = refl
blank_cells d level (y ∷ s) above =
    let stays : Pair → Bool = λ pair. nat_le level (d.level pair.0) in
    let key : Pair → RaisedKey = λ pair. record { key = pair.0; level = d.level pair.0 } in
    let rest = blank_cells d level s above in
    elim (stays y) as (λ b. map (cell_on level)
    (cond b (key_pair (key y) ∷ filter stays (key_pairs (map key s))) (filter stays (key_pairs (map key s))))
    ≡ map (cell_on level) (cond b (y ∷ filter stays s) (filter stays s))) [
      | true ↦ ap₂ (λ c cs. c ∷ cs) (bare_on level y.0 (1 ∷ []) above ∙ sym (bare_on level y.0 y.1 above)) rest
      | false ↦ rest
    ]

-- the keys that stand on a level above 0 stand above level 0
same_stays : (d : Draw) (s : List Pair) (level : ℕ) → 1 ≤ level
    → filter (λ pair. nat_le level (d.level pair.0)) (raised_pairs d s)
    ≡ filter (λ pair. nat_le level (d.level pair.0)) s
unfolding raised_pairs
same_stays d [] level high = refl
same_stays d (y ∷ s) level high =
    let rest = same_stays d s level high in
    let stays : Pair → Bool = λ pair. nat_le level (d.level pair.0) in
    let raised = filter (λ pair. nat_le 1 (d.level pair.0)) s in
    elim (cases_lt (d.level y.0) 1) [
      | inl low ↦
          ap (λ b. filter stays (cond b (y ∷ raised) raised)) (lt-leb 1 (d.level y.0) low) ∙ rest
          ∙ sym (ap (λ b. cond b (y ∷ filter stays s) (filter stays s)) (lt-leb level (d.level y.0) (omega arith)))
      | inr some ↦
          ap (λ b. filter stays (cond b (y ∷ raised) raised)) (le-leb 1 (d.level y.0) some)
          ∙ ap (λ ps. cond (stays y) (y ∷ ps) ps) rest
    ]

pub raised_tell : (d : Draw) (s : List Pair) (level : ℕ) → RaisedTell d s level
unfolding level_pages groups level_list
raised_tell d s level above =
    ap (λ cells. flat_map (λ part. group_pages level (lead_of d level part) part)
    (cut_before (leads_group d level) cells))
    (blank_cells d level (raised_pairs d s) above ∙ ap (map (cell_on level)) (same_stays d s level above))

-- ---- one key

-- where the key stands on the level its pair comes
pub comes_of_key : (d : Draw) (level : ℕ) (s : List Pair) (key : RaisedKey) (last : Option Page)
    → KeyComes d level s key last → level ≤ key.level
    → Comes d level key.level s (key_pair key) last (bare_cell key)
comes_of_key d level s key last comes stands = record {
  pairs = comes.pairs;
  few = comes.few;
  low = comes.low;
  top_is = comes.level_is;
  stands = stands;
  cell_is = sym (bare_on level key.key (1 ∷ []) comes.above);
  last_is = comes.last_is;
}

pub key_stands_behind : (d : Draw) (level : ℕ) (s : List Pair) (key : RaisedKey) (last : Option Page)
    → KeyComes d level s key last → level ≤ key.level → StandsBehind last level (bare_cell key)
key_stands_behind d level s key last comes stands =
    stands_behind d level key.level s (key_pair key) last (bare_cell key) (comes_of_key d level s key last comes stands)

-- where it does not, nothing changes
pub key_absent : (d : Draw) (level : ℕ) (s : List Pair) (key : RaisedKey) (last : Option Page)
    → KeyComes d level s key last → key.level < level → HasCome d level s (key_pair key) last None
key_absent d level s key last comes absent =
    let same = level_pages-above d s (key_pair key) [] level (omega (arith, comes.level_is))
    ∙ ap (λ t. level_pages d t level) (append-nil s) in
    record {
      last_is = comes.last_is ∙ sym (ap last_of same);
      closed_is = ap all_but_last same ∙ sym (append-nil (closed_pages d s level));
    }
