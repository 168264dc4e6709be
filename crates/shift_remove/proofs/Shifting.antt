-- A removal on its way: a hole in a table, and the pages behind it.
use Rattle.std.proofs.Common.{◌≡◌, ◌≢◌, ℕ, ◌+◌, ◌<◌, ◌≤◌, ◌⊎◌, inl, inr, Option, Some, None, length, slice_get}
use Rattle.std.proofs.Common.{slice_set, ap, sym, subst, ◌∙◌, arith, length-set}
use Rattle.std.specs.declared.cmp.Ordering.TheVariants.{Less}
use Rattle.std.proofs.lemmas.Bool.{cases_lt}
use Rattle.std.proofs.lemmas.Cmp.{tied_itself}
use Rattle.std.proofs.lemmas.Option.{same_Some, slice_get_within}
use Rattle.store_model.specs.Labels.{Label, label_cmp}
use Rattle.store_model.specs.Draws.{Draw, IsLawful}
use Rattle.store_model.specs.Pages.{Page, IsPage}
use Rattle.store_model.specs.Placement.{Table, probe, HoldsPage}
use Rattle.store_model.proofs.PlacementLemmas.{label_cmp_total}
use Rattle.store_model.proofs.PlacementLemmasOrder.{probe_once, one_page}
use Rattle.ordered_table.proofs.Inserting.{get_set_same, get_set_other, get_set_back, same_or_not}
use Rattle.shift_remove.specs.Ways.{Passes}
use Rattle.shift_remove.proofs.Turning.{At, at_slot}

-- the number of a page's start behind the first slot
pub start_of : (d : Draw) (first : ℕ) (law : IsLawful d) (below : first < d.slots) (page : Page)
    → (s : ℕ) × At d.slots first s (d.start page.label)
start_of d first law below page = at_slot d.slots first (d.start page.label) below (law.start_in_range page.label)

-- the slot with this number behind the first holds the page
abbrev pub Stands : Draw → Table → ℕ → ℕ → Page → Type 0
Stands d table first u page = HoldsPage table (probe d.slots first u) page

-- its way from its start passes another number
abbrev pub PassesBy : (d : Draw) (first : ℕ) (law : IsLawful d) (below : first < d.slots) → Page → ℕ → ℕ → Type 0
PassesBy d first law below page v u = Passes (start_of d first law below page).0 v u

-- no label is less than itself
pub not_less_itself : (l : Label) → label_cmp l l ≡ Less → ⊥
not_less_itself l e = let tied = tied_itself label_cmp_total l in cc

-- A table whose slot number `hole` is empty and may lie on the way of pages. These stand behind number `look`, the
-- last one that was looked at, and are greater than `low`; those before the hole that went round the end are not.
pub record Shifting (d : Draw) (first : ℕ) (law : IsLawful d) (below : first < d.slots) (table : Table) (look hole : ℕ)
    (low : Label) : Type 0 where
  pub slots : length table ≡ d.slots
  pub valid : (slot : ℕ) (page : Page) → HoldsPage table slot page → IsPage page
  pub reached : hole ≤ look
  pub within : look < d.slots
  pub empty : slice_get table (probe d.slots first hole) ≡ Some None
  pub order : (u : ℕ) (page : Page) → u < d.slots → Stands d table first u page → (w : ℕ) → w < d.slots → w ≢ hole
      → PassesBy d first law below page w u → (q : Page) × Stands d table first w q
      × (label_cmp q.label page.label ≡ Less)
  pub unlooked : (u : ℕ) (page : Page) → u < d.slots → Stands d table first u page
      → PassesBy d first law below page hole u → look < u
  pub greater : (u : ℕ) (page : Page) → u < d.slots → Stands d table first u page
      → PassesBy d first law below page hole u → label_cmp low page.label ≡ Less
  pub round : (u : ℕ) (page : Page) → u < hole → Stands d table first u page → u < (start_of d first law below page).0
      → label_cmp low page.label ≡ Less → ⊥

-- ---- ways

-- what passes a number passes all up to its own
way_on : (s v w u : ℕ) → Passes s v u → v < w → w < u → Passes s w u
way_on s v w u p vw wu = by_case (cases_lt u s)
  where
    by_case : (u < s) ⊎ (s ≤ u) → Passes s w u
    by_case (inl us) = inr (us, inr wu)
    by_case (inr su) = inl (omega (arith, p, vw, su), wu)

-- a way to a number on the way is its beginning
way_front : (s w v t : ℕ) → Passes s w v → Passes s v t → Passes s w t
way_front s w v t p q = by_case (cases_lt t s) (cases_lt w s) (cases_lt w t)
  where
    by_case : (t < s) ⊎ (s ≤ t) → (w < s) ⊎ (s ≤ w) → (w < t) ⊎ (t ≤ w) → Passes s w t
    by_case (inl ts) (inr sw) r = inr (ts, inl sw)
    by_case (inl ts) (inl ws) (inl wt) = inr (ts, inr wt)
    by_case (inl ts) (inl ws) (inr tw) = absurd (omega (arith, p, q, ts, ws, tw))
    by_case (inr st) (inr sw) (inl wt) = inl (sw, wt)
    by_case (inr st) (inl ws) r = absurd (omega (arith, p, q, st, ws))
    by_case (inr st) (inr sw) (inr tw) = absurd (omega (arith, p, q, st, sw, tw))

not_itself : (s v : ℕ) → Passes s v v → ⊥
not_itself s v p = omega (arith, p)

not_both_ways : (s v t : ℕ) → Passes s v t → Passes s t v → ⊥
not_both_ways s v t p q = omega (arith, p, q)

-- numbers of slots tell them apart
apart : (d : Draw) (first u v : ℕ) → first < d.slots → u < d.slots → v < d.slots → u ≢ v
    → probe d.slots first u ≢ probe d.slots first v
apart d first u v below a b other = λ same. other (probe_once d.slots first u v below a b same)

-- ---- a slot is looked at

-- at an empty one no way passes the hole any more
pub shifted : (d : Draw) (first : ℕ) (law : IsLawful d) (below : first < d.slots) (table : Table) (look hole : ℕ)
    (low : Label) → Shifting d first law below table look hole low
    → (look + 1 < d.slots → slice_get table (probe d.slots first (look + 1)) ≡ Some None) → (u : ℕ) (page : Page)
    → u < d.slots → Stands d table first u page → PassesBy d first law below page hole u → ⊥
shifted d first law below table look hole low s empty u page within stands passes = by_case (same_or_not u (look + 1))
  where
    behind : look < u
    behind = s.unlooked u page within stands passes

    none_there : (q : Page) → Stands d table first (look + 1) q → ⊥
    none_there q held = let e : ◌≡◌ {A = Option (Option Page)} (Some (Some q)) (Some None) =
        sym held ∙ empty (omega (arith, behind, within)) in cc

    by_case : (u ≡ look + 1) ⊎ (u ≢ look + 1) → ⊥
    by_case (inl same) = none_there page (subst (λ (n : ℕ). Stands d table first n page) same stands)
    by_case (inr other) =
        let far : look + 1 < u = farther (cases_lt (look + 1) u) in
        let r = s.order u page within stands (look + 1) (omega (arith, far, within)) (λ e. omega (arith, e, s.reached))
        (way_on (start_of d first law below page).0 hole (look + 1) u passes (omega (arith, s.reached)) far) in
        none_there r.0 r.1
      where
        farther : (look + 1 < u) ⊎ (u ≤ look + 1) → look + 1 < u
        farther (inl lt) = lt
        farther (inr le) = let same : u ≡ look + 1 = omega (arith, le, behind) in absurd (other same)

-- a page whose way doesn't pass the hole stays
pub shifting_stays : (d : Draw) (first : ℕ) (law : IsLawful d) (below : first < d.slots) (table : Table) (look hole : ℕ)
    (low : Label) (page : Page) → Shifting d first law below table look hole low → look + 1 < d.slots
    → Stands d table first (look + 1) page → (PassesBy d first law below page hole (look + 1) → ⊥)
    → Shifting d first law below table (look + 1) hole low
shifting_stays d first law below table look hole low page s within stands stays = record {
  slots = s.slots;
  valid = s.valid;
  reached = omega (arith, s.reached);
  within = within;
  empty = s.empty;
  order = s.order;
  unlooked = λ u p u_within p_stands passes. farther u p p_stands passes (s.unlooked u p u_within p_stands passes)
      (cases_lt (look + 1) u);
  greater = s.greater;
  round = s.round;
}
  where
    farther : (u : ℕ) (p : Page) → Stands d table first u p → PassesBy d first law below p hole u → look < u
        → (look + 1 < u) ⊎ (u ≤ look + 1) → look + 1 < u
    farther u p p_stands passes behind (inl lt) = lt
    farther u p p_stands passes behind (inr le) =
        let same : u ≡ look + 1 = omega (arith, le, behind) in
        let here : Stands d table first (look + 1) p = subst (λ (n : ℕ). Stands d table first n p) same p_stands in
        let is_page : p ≡ page = one_page table (probe d.slots first (look + 1)) p page here stands in
        absurd (stays (subst (λ (q : Page). PassesBy d first law below q hole (look + 1)) is_page
        (subst (λ (n : ℕ). PassesBy d first law below p hole n) same passes)))

-- a page whose way passes the hole moves there, and its slot is the hole
pub shifting_moves : (d : Draw) (first : ℕ) (law : IsLawful d) (below : first < d.slots) (table : Table) (look hole : ℕ)
    (low : Label) (page : Page) → Shifting d first law below table look hole low → look + 1 < d.slots
    → Stands d table first (look + 1) page → PassesBy d first law below page hole (look + 1)
    → Shifting d first law below (slice_set (slice_set table (probe d.slots first hole) (Some page))
    (probe d.slots first (look + 1)) None) (look + 1) (look + 1) page.label
shifting_moves d first law below table look hole low page s within stands passes = record {
  slots = length-set filled place None ∙ length-set table gap (Some page) ∙ s.slots;
  valid = λ slot p held. valid slot p held (same_or_not slot place) (same_or_not slot gap);
  reached = omega arith;
  within = within;
  empty = get_set_same filled place None (omega (arith, place_within, length-set table gap (Some page)));
  order = λ u p u_within held w w_within other p_passes.
      order u p u_within w w_within other (stood u p u_within held) p_passes;
  unlooked = λ u p u_within held p_passes. unlooked u p u_within (stood u p u_within held) p_passes
      (cases_lt (look + 1) u);
  greater = λ u p u_within held p_passes. greater u p u_within (stood u p u_within held) p_passes;
  round = λ u p before held turned less. round u p before (stood u p (omega (arith, before, within)) held) turned less;
}
  where
    gap : ℕ
    gap = probe d.slots first hole

    place : ℕ
    place = probe d.slots first (look + 1)

    hole_within : hole < d.slots
    hole_within = omega (arith, s.reached, within)

    gap_within : gap < length table
    gap_within = slice_get_within table gap None s.empty

    place_within : place < length table
    place_within = slice_get_within table place (Some page) stands

    filled : Table
    filled = slice_set table gap (Some page)

    moved : Table
    moved = slice_set filled place None

    -- the start of the page that moves, and its ways
    hole_first : hole ≢ look + 1
    hole_first = λ e. omega (arith, e, s.reached)

    -- what stands somewhere is the page that moved, or stood there before
    Stood : ℕ → Page → Type 0
    Stood u p = ((u ≡ hole) × (page ≡ p)) ⊎ ((u ≢ hole) × (u ≢ look + 1) × Stands d table first u p)

    no_page : (p : Page) → Some None ≡ Some (Some p) → ⊥
    no_page p e = cc

    in_filled : (slot : ℕ) (p : Page) → HoldsPage moved slot p → (slot ≡ place) ⊎ (slot ≢ place)
        → (slot ≢ place) × HoldsPage filled slot p
    in_filled slot p held (inl same) =
        absurd (no_page p
        (sym (get_set_same filled place None (omega (arith, place_within, length-set table gap (Some page))))
        ∙ ap (slice_get moved) (sym same) ∙ held))
    in_filled slot p held (inr other) = (other, get_set_back filled place slot None (Some p) other held)

    at_gap : (slot : ℕ) (p : Page) → HoldsPage filled slot p → slot ≡ gap → page ≡ p
    at_gap slot p held same = same_Some page p
        (same_Some (Some page) (Some p) (sym (get_set_same table gap (Some page) gap_within)
        ∙ ap (slice_get filled) (sym same) ∙ held))

    valid : (slot : ℕ) (p : Page) → HoldsPage moved slot p → (slot ≡ place) ⊎ (slot ≢ place)
        → (slot ≡ gap) ⊎ (slot ≢ gap) → IsPage p
    valid slot p held c (inl same) = subst IsPage (at_gap slot p (in_filled slot p held c).1 same)
        (s.valid place page stands)
    valid slot p held c (inr other) =
        s.valid slot p (get_set_back table gap slot (Some page) (Some p) other (in_filled slot p held c).1)

    stood : (u : ℕ) (p : Page) → u < d.slots → Stands d moved first u p → Stood u p
    stood u p u_within held = by_case (same_or_not u hole)
        (in_filled (probe d.slots first u) p held (same_or_not (probe d.slots first u) place))
      where
        by_case : (u ≡ hole) ⊎ (u ≢ hole) → (probe d.slots first u ≢ place)
            × HoldsPage filled (probe d.slots first u) p → Stood u p
        by_case (inl same) f = inl (same, at_gap (probe d.slots first u) p f.1 (ap (probe d.slots first) same))
        by_case (inr other) f =
            inr (
              other,
              (λ e. f.0 (ap (probe d.slots first) e)),
              get_set_back table gap (probe d.slots first u)
                  (Some page) (Some p) (apart d first u hole below u_within hole_within other) f.1,
            )

    -- what stood elsewhere still stands there
    kept : (w : ℕ) (q : Page) → w < d.slots → w ≢ hole → w ≢ look + 1 → Stands d table first w q
        → Stands d moved first w q
    kept w q w_within not_hole not_place held =
        get_set_other filled place (probe d.slots first w) None (Some q)
        (apart d first w (look + 1) below w_within within not_place)
        (get_set_other table gap (probe d.slots first w) (Some page) (Some q)
        (apart d first w hole below w_within hole_within not_hole) held)

    moved_there : Stands d moved first hole page
    moved_there = get_set_other filled place gap None (Some page)
        (apart d first hole (look + 1) below hole_within within hole_first)
        (get_set_same table gap (Some page) gap_within)

    -- a page behind the hole that was passed is greater than the one that moves
    over : (u : ℕ) (p : Page) → u < d.slots → Stands d table first u p → PassesBy d first law below p (look + 1) u
        → label_cmp page.label p.label ≡ Less
    over u p u_within held p_passes =
        let r = s.order u p u_within held (look + 1) within (λ e. hole_first (sym e)) p_passes in
        let is_page : r.0 ≡ page = one_page table place r.0 page r.1 stands in
        subst (λ (q : Page). label_cmp q.label p.label ≡ Less) is_page r.2

    -- a page whose way passes the old hole stands behind the new one
    beyond : (u : ℕ) (p : Page) → u < d.slots → u ≢ look + 1 → Stands d table first u p
        → PassesBy d first law below p hole u → look + 1 < u
    beyond u p u_within other held p_passes = by_order (cases_lt (look + 1) u) (s.unlooked u p u_within held p_passes)
      where
        by_order : (look + 1 < u) ⊎ (u ≤ look + 1) → look < u → look + 1 < u
        by_order (inl lt) behind = lt
        by_order (inr le) behind = let same : u ≡ look + 1 = omega (arith, le, behind) in absurd (other same)

    order : (u : ℕ) (p : Page) → u < d.slots → (w : ℕ) → w < d.slots → w ≢ look + 1 → Stood u p
        → PassesBy d first law below p w u → (q : Page) × Stands d moved first w q × (label_cmp q.label p.label ≡ Less)
    order u p u_within w w_within other (inl (same, is_page)) p_passes =
        let to_hole : PassesBy d first law below page w hole =
        subst (λ (q : Page). PassesBy d first law below q w hole) (sym is_page)
        (subst (λ (n : ℕ). PassesBy d first law below p w n) same p_passes) in
        let not_hole : w ≢ hole = λ e. not_itself (start_of d first law below page).0 hole
        (subst (λ (n : ℕ). PassesBy d first law below page n hole) e to_hole) in
        let r = s.order (look + 1) page within stands w w_within not_hole
        (way_front (start_of d first law below page).0 w hole (look + 1) to_hole passes) in (
          r.0,
          kept w r.0 w_within not_hole other r.1,
          subst (λ (q : Page). label_cmp r.0.label q.label ≡ Less) is_page r.2,
        )
    order u p u_within w w_within other (inr (not_hole, not_place, held)) p_passes = by_case (same_or_not w hole)
      where
        by_case : (w ≡ hole) ⊎ (w ≢ hole) → (q : Page) × Stands d moved first w q × (label_cmp q.label p.label ≡ Less)
        by_case (inl same) =
            let passes_hole : PassesBy d first law below p hole u =
            subst (λ (n : ℕ). PassesBy d first law below p n u) same p_passes in
            let far = beyond u p u_within not_place held passes_hole in
            let on = way_on (start_of d first law below p).0 hole (look + 1) u passes_hole
            (omega (arith, s.reached)) far in
            (page, subst (λ (n : ℕ). Stands d moved first n page) (sym same) moved_there, over u p u_within held on)
        by_case (inr w_not_hole) =
            let r = s.order u p u_within held w w_within w_not_hole p_passes in
            (r.0, kept w r.0 w_within w_not_hole other r.1, r.2)

    unlooked : (u : ℕ) (p : Page) → u < d.slots → Stood u p → PassesBy d first law below p (look + 1) u
        → (look + 1 < u) ⊎ (u ≤ look + 1) → look + 1 < u
    unlooked u p u_within stood p_passes (inl lt) = lt
    unlooked u p u_within (inl (same, is_page)) p_passes (inr le) =
        absurd (not_both_ways (start_of d first law below page).0 hole (look + 1) passes
        (subst (λ (q : Page). PassesBy d first law below q (look + 1) hole) (sym is_page)
        (subst (λ (n : ℕ). PassesBy d first law below p (look + 1) n) same p_passes)))
    unlooked u p u_within (inr (not_hole, not_place, held)) p_passes (inr le) =
        absurd (by_case (cases_lt u hole) (cases_lt (look + 1) u))
      where
        turned : u < (start_of d first law below p).0
        turned = omega (arith, p_passes, le)

        by_case : (u < hole) ⊎ (hole ≤ u) → (look + 1 < u) ⊎ (u ≤ look + 1) → ⊥
        by_case (inl lt) q = s.round u p lt held turned
            (label_cmp_total.trans low page.label p.label (s.greater (look + 1) page within stands passes)
            (over u p u_within held p_passes))
        by_case (inr ge) q =
            let hole_before : hole < u = before (cases_lt hole u) in
            omega (arith, le, beyond u p u_within not_place held (inr (turned, inr hole_before)))
          where
            before : (hole < u) ⊎ (u ≤ hole) → hole < u
            before (inl lt) = lt
            before (inr back) = let same : u ≡ hole = omega (arith, ge, back) in absurd (not_hole same)

    greater : (u : ℕ) (p : Page) → u < d.slots → Stood u p → PassesBy d first law below p (look + 1) u
        → label_cmp page.label p.label ≡ Less
    greater u p u_within (inl (same, is_page)) p_passes =
        absurd (not_both_ways (start_of d first law below page).0 hole (look + 1) passes
        (subst (λ (q : Page). PassesBy d first law below q (look + 1) hole) (sym is_page)
        (subst (λ (n : ℕ). PassesBy d first law below p (look + 1) n) same p_passes)))
    greater u p u_within (inr (not_hole, not_place, held)) p_passes = over u p u_within held p_passes

    round : (u : ℕ) (p : Page) → u < look + 1 → Stood u p → u < (start_of d first law below p).0
        → label_cmp page.label p.label ≡ Less → ⊥
    round u p before (inl (same, is_page)) turned less =
        not_less_itself page.label (ap (λ (q : Page). label_cmp page.label q.label) is_page ∙ less)
    round u p before (inr (not_hole, not_place, held)) turned less = by_case (cases_lt u hole)
      where
        by_case : (u < hole) ⊎ (hole ≤ u) → ⊥
        by_case (inl lt) = s.round u p lt held turned
            (label_cmp_total.trans low page.label p.label (s.greater (look + 1) page within stands passes) less)
        by_case (inr ge) =
            let hole_before : hole < u = after (cases_lt hole u) in
            omega (
              arith,
              before,
              beyond u p (omega (arith, before, within)) not_place held
                  (inr (turned, inr hole_before)),
            )
          where
            after : (hole < u) ⊎ (u ≤ hole) → hole < u
            after (inl lt) = lt
            after (inr back) = let same : u ≡ hole = omega (arith, ge, back) in absurd (not_hole same)
