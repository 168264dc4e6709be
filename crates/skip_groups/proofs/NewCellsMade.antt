-- The cells of a key set in a group, read to the end: the pages of the group that come of it.
use Rattle.std.proofs.Common.{◌≡◌, ◌⊎◌, inl, inr, ℕ, zero, suc, ◌+◌, ◌<◌, ◌≤◌, List, [], ◌∷◌, ◌++◌, length, take, drop}
use Rattle.std.proofs.Common.{Some, Less, Equal, Greater, refl, sym, ap, ap₂, subst, ◌∙◌, append_assoc, arith}
use Rattle.std.specs.List.{AllByRecursion, slice_get}
use Rattle.std.specs.Cmp.Lexicographic.{nat_list_cmp_total}
use Rattle.std.proofs.Math.Seq.{take-append_seam, drop-append_seam}
use Rattle.std.proofs.lemmas.List.{length-append, append-nil, drop_all}
use Rattle.std.proofs.lemmas.List.Elements.{filter-append}
use Rattle.std.proofs.lemmas.Grind.{flat_map-append}
use Rattle.store_base.specs.Leads as leads
use Rattle.store_model.specs.Paths.{key_cmp}
use Rattle.store_model.specs.Labels.{Lead}
use Rattle.store_model.specs.Pages.{Cell, Page, page_room, group_pages}
use Rattle.store_model.proofs.ListsLemmas.{all_append, all_weaker, rising_from_map}
use Rattle.store_model.proofs.PagesLemmas.{some_room}
use Rattle.node_pages.specs.Cells.{CellList}
use Rattle.node_pages.specs.LastPages.{pages_from, page_of_run}
use Rattle.node_pages.proofs.Joined.{cells_of_group}
use Rattle.node_pages.proofs.PlaceLemmas.{same_key, reversed}
use Rattle.node_pages.proofs.Runs.{next_page, no_page}
use Rattle.skip_groups.specs.declared.new_cells.NewCells.{NewCells}
use Rattle.skip_groups.specs.Floors.{last_of, lead_from}
use Rattle.skip_groups.specs.GroupCells.{AreCells, IsKept, EndsAbove, IsMerged, compares, side, merged}
use Rattle.skip_groups.specs.NewCells.{cells_gathered, IsRenewed, IsMade}
use Rattle.skip_groups.proofs.CellLists.{front_cells, back_cells}
use Rattle.skip_groups.proofs.GroupEnds.{last_page, within_room}
use Rattle.skip_groups.proofs.KeptPages.{front_stays, kept_below, low_behind, lead_on}
use Rattle.skip_groups.proofs.MapChanges.{nothing_behind}
use Rattle.skip_groups.proofs.Sides.{rising_split, side_all, side_no}

-- ---- lists

get_seam : (xs : List Page) (y : Page) (ys : List Page) → slice_get (xs ++ y ∷ ys) (length xs) ≡ Some y
get_seam [] y ys = refl
get_seam (x ∷ xs) y ys = get_seam xs y ys

drop_past : (xs : List Page) (y : Page) (ys : List Page) → drop (length xs + 1) (xs ++ y ∷ ys) ≡ ys
drop_past [] y ys = refl
drop_past (x ∷ xs) y ys = let next : length (x ∷ xs) + 1 ≡ suc (length xs + 1) = omega arith
    in ap (λ n. drop n (x ∷ xs ++ y ∷ ys)) next ∙ drop_past xs y ys

same_back : (xs ys zs : List Page) → xs ++ ys ≡ xs ++ zs → ys ≡ zs
same_back xs ys zs e = sym (drop-append_seam xs ys) ∙ ap (drop (length xs)) e ∙ drop-append_seam xs zs

pub cells_both : (ps qs : List Page) → cells_gathered (ps ++ qs) ≡ cells_gathered ps ++ cells_gathered qs
cells_both ps qs = flat_map-append (λ (p : Page). p.cells) ps qs

-- ---- pages that stay, and those of other cells behind them

module _ (level : ℕ) (lead : Lead) (cells : List Cell) where
  pages_behind : (stay behind : List Page) (more : List Cell) → group_pages level lead cells ≡ stay ++ behind
      → AllByRecursion (λ (p : Page). page_room level ≤ length p.cells) stay
      → stay ++ pages_from level lead (length stay) more ≡ group_pages level lead (cells_gathered stay ++ more)
  pages_behind stay behind more is full =
      let group = group_pages level lead cells in
      let front : take (length stay) group ≡ stay = ap (take (length stay)) is ∙ take-append_seam stay behind in
      subst (λ ps. ps ++ pages_from level lead (length stay) more ≡ group_pages level lead (cells_gathered ps ++ more))
      front
      (front_stays level lead (length stay) group cells more (omega (arith, ap length is, length-append stay behind))
      (subst (AllByRecursion (λ (p : Page). page_room level ≤ length p.cells)) (sym front) full) refl)

  -- where none of the old ones is left behind them
  pub renewed_to_end : (stay gone : List Page) (news : List Cell) (made : NewCells)
      → group_pages level lead cells ≡ stay ++ gone
      → AllByRecursion (λ (p : Page). page_room level ≤ length p.cells) stay → made.kept ≡ length stay
      → made.count ≡ length gone → news ≡ cells_gathered stay ++ made.cells.cells
      → IsRenewed level lead cells news made
  renewed_to_end stay gone news made is full kept_is count_is news_are =
      let group = group_pages level lead cells in
      let fresh = pages_from level lead made.kept made.cells.cells in
      let taken : take made.kept group ≡ stay = ap₂ take kept_is is ∙ take-append_seam stay gone in
      let far : length group ≤ made.kept + made.count =
      omega (arith, kept_is, count_is, ap length is, length-append stay gone) in
      record {
        pages = ap (group_pages level lead) news_are ∙ sym (pages_behind stay gone made.cells.cells is full)
            ∙ ap₂ (λ ps n. ps ++ pages_from level lead n made.cells.cells) (sym taken) (sym kept_is)
            ∙ ap (λ ps. take made.kept group ++ ps)
            (sym (append-nil fresh) ∙ ap (λ ps. fresh ++ ps) (sym (drop_all (made.kept + made.count) group far)));
        fits = λ further. absurd (omega (arith, further, far));
      }

-- ---- the cells behind the first page that gives way

-- a key above one that is not below the key is above it
above_all : (key last next : List ℕ) → (key_cmp last key ≡ Less → ⊥) → key_cmp last next ≡ Less
    → key_cmp next key ≡ Greater
above_all key last next above less =
    elim (key_cmp last key) as (λ o. key_cmp last key ≡ o → key_cmp next key ≡ Greater) [
      | Less ↦ λ e. absurd (above e)
      | Equal ↦ λ e. reversed key next Less (subst (λ k. key_cmp k next ≡ Less) (same_key last key e) less)
      | Greater ↦ λ e. reversed key next Less
          (nat_list_cmp_total.trans key last next (reversed last key Greater e) less)
    ] refl

module _ (level : ℕ) (lead : Lead) (key : List ℕ) (own cells : List Cell) where
  abbrev group : List Page
  group = group_pages level lead cells

  pub are_above : (stay : List Page) (first : Page) (behind : List Page) → group ≡ stay ++ first ∷ behind
      → (length first.cells < page_room level) ⊎ EndsAbove key first.cells → AreCells level cells
      → AllByRecursion (λ c. key_cmp c.key key ≡ Greater) (cells_gathered behind)
  are_above stay first behind is (inl short) rising =
      let there : slice_get group (length stay) ≡ Some first =
      ap (λ ps. slice_get ps (length stay)) is ∙ get_seam stay first behind in
      let none : behind ≡ [] = sym (drop_past stay first behind) ∙ ap (drop (length stay + 1)) (sym is)
      ∙ nothing_behind (length stay + 1) group (last_page level lead (length stay) cells first there short) in
      subst (λ ps. AllByRecursion (λ c. key_cmp c.key key ≡ Greater) (cells_gathered ps)) (sym none) tt
  are_above stay first behind is (inr ends) rising =
      let front = cells_gathered stay ++ ends.before in
      let parts : cells ≡ front ++ ends.last ∷ cells_gathered behind =
      sym (cells_of_group level lead cells) ∙ ap cells_gathered is ∙ cells_both stay (first ∷ behind)
      ∙ ap (λ xs. cells_gathered stay ++ (xs ++ cells_gathered behind)) ends.parts
      ∙ ap (λ xs. cells_gathered stay ++ xs) (append_assoc ends.before (ends.last ∷ []) (cells_gathered behind))
      ∙ sym (append_assoc (cells_gathered stay) ends.before (ends.last ∷ cells_gathered behind)) in
      let sorted = subst (λ xs. AreCells level xs) parts rising in
      let aboves = (rising_split (λ (a b : Cell). key_cmp a.key b.key) front ends.last (cells_gathered behind)
      (rising_from_map key_cmp (λ (c : Cell). c.key) (front ++ ends.last ∷ cells_gathered behind) sorted.rising)).1
      in
      all_weaker (λ c. key_cmp ends.last.key c.key ≡ Less) (λ c. key_cmp c.key key ≡ Greater)
      (λ c less. above_all key ends.last.key c.key ends.above less) (cells_gathered behind) aboves

  -- the pages of the last cells are the last pages
  pages_of_last : (stay behind : List Page) → group ≡ stay ++ behind
      → AllByRecursion (λ (p : Page). page_room level ≤ length p.cells) stay
      → pages_from level lead (length stay) (cells_gathered behind) ≡ behind
  pages_of_last stay behind is full =
      same_back stay (pages_from level lead (length stay) (cells_gathered behind)) behind
      (pages_behind level lead cells stay behind (cells_gathered behind) is full
      ∙ ap (group_pages level lead) (sym (cells_both stay behind) ∙ ap cells_gathered (sym is)
      ∙ cells_of_group level lead cells) ∙ is)

  pub are_full : (stay : List Page) → AllByRecursion (IsKept level key) stay
      → AllByRecursion (λ (p : Page). page_room level ≤ length p.cells) stay
  are_full stay kept = all_weaker (IsKept level key) (λ (p : Page). page_room level ≤ length p.cells)
      (λ p is. is.full) stay kept

  -- ---- where pages give way

  module _ (stay : List Page) (first : Page) (rest behind : List Page) (is : group ≡ stay ++ first ∷ (rest ++ behind))
      (kept : AllByRecursion (IsKept level key) stay)
      (above : AllByRecursion (λ c. key_cmp c.key key ≡ Greater) (cells_gathered (rest ++ behind))) where
    abbrev front : List Cell
    front = cells_gathered stay

    abbrev news : List Cell
    news = merged key first.cells own (cells_gathered (first ∷ rest))

    cells_are : cells ≡ front ++ (first.cells ++ cells_gathered (rest ++ behind))
    cells_are = sym (cells_of_group level lead cells) ∙ ap cells_gathered is
        ∙ cells_both stay (first ∷ (rest ++ behind))

    lows_are : side Less key cells ≡ front ++ side Less key first.cells
    lows_are =
        ap (side Less key) cells_are ∙ low_behind key front (kept_below level key stay kept)
        (first.cells ++ cells_gathered (rest ++ behind))
        ∙ ap (λ xs. front ++ xs) (filter-append (compares Less key) first.cells (cells_gathered (rest ++ behind))
        ∙ ap (λ xs. side Less key first.cells ++ xs)
        (side_no Less Greater key (cells_gathered (rest ++ behind)) refl above)
        ∙ append-nil (side Less key first.cells))

    highs_are : side Greater key cells ≡ side Greater key (cells_gathered (first ∷ rest)) ++ cells_gathered behind
    highs_are =
        ap (side Greater key) cells_are ∙ filter-append (compares Greater key) front
        (first.cells ++ cells_gathered (rest ++ behind))
        ∙ ap (λ xs. xs ++ side Greater key (first.cells ++ cells_gathered (rest ++ behind)))
        (side_no Greater Less key front refl (kept_below level key stay kept))
        ∙ ap (λ xs. side Greater key (first.cells ++ xs)) (cells_both rest behind)
        ∙ ap (side Greater key) (sym (append_assoc first.cells (cells_gathered rest) (cells_gathered behind)))
        ∙ filter-append (compares Greater key) (cells_gathered (first ∷ rest)) (cells_gathered behind)
        ∙ ap (λ xs. side Greater key (cells_gathered (first ∷ rest)) ++ xs)
        (side_all Greater key (cells_gathered behind) last_above)
      where
        last_above : AllByRecursion (λ c. key_cmp c.key key ≡ Greater) (cells_gathered behind)
        last_above = all_behind (cells_gathered rest)
            (subst (AllByRecursion (λ c. key_cmp c.key key ≡ Greater)) (cells_both rest behind) above)
          where
            all_behind : (xs : List Cell)
                → AllByRecursion (λ c. key_cmp c.key key ≡ Greater) (xs ++ cells_gathered behind)
                → AllByRecursion (λ c. key_cmp c.key key ≡ Greater) (cells_gathered behind)
            all_behind [] h = h
            all_behind (x ∷ xs) h = all_behind xs h.1

    all_are : merged key cells own cells ≡ front ++ (news ++ cells_gathered behind)
    all_are =
        let lows = side Less key first.cells in
        let same = side Equal key own in
        let highs = side Greater key (cells_gathered (first ∷ rest)) in
        ap₂ (λ xs ys. (xs ++ same) ++ ys) lows_are highs_are
        ∙ ap (λ xs. xs ++ (highs ++ cells_gathered behind)) (append_assoc front lows same)
        ∙ append_assoc front (lows ++ same) (highs ++ cells_gathered behind)
        ∙ ap (λ xs. front ++ xs) (sym (append_assoc (lows ++ same) highs (cells_gathered behind)))

    pub news_valid : AreCells level (merged key cells own cells) → AreCells level news
    news_valid valid = front_cells level news (cells_gathered behind)
        (back_cells level front (news ++ cells_gathered behind) (subst (AreCells level) all_are valid))

    module _ (made : NewCells) (kept_is : made.kept ≡ length stay)
        (come : IsMerged (lead_from (last_of front) lead) key first.cells own (cells_gathered (first ∷ rest))
        (made.next, made.cells.cells)) where
      next_is : leads.model_lead made.next ≡ lead_from (last_of (side Less key cells)) lead
      next_is = come.next ∙ lead_on front (side Less key first.cells) lead
          ∙ ap (λ xs. lead_from (last_of xs) lead) (sym lows_are)

      taken : take made.kept group ≡ stay
      taken = ap₂ take kept_is is ∙ take-append_seam stay (first ∷ (rest ++ behind))

      dropped : (count : ℕ) → count ≡ length (first ∷ rest) → drop (made.kept + count) group ≡ behind
      dropped count count_is =
          let place : made.kept + count ≡ length (stay ++ first ∷ rest) =
          omega (arith, kept_is, count_is, length-append stay (first ∷ rest)) in
          ap₂ drop place (is ∙ sym (append_assoc stay (first ∷ rest) behind))
          ∙ drop-append_seam (stay ++ first ∷ rest) behind

      -- and none stays behind them
      pub made_to_end : made.count ≡ length (first ∷ rest) → behind ≡ [] → IsMade level lead key own cells made
      made_to_end count_is none = record {
        next = next_is;
        renewed = renewed_to_end level lead cells stay (first ∷ rest) (merged key cells own cells) made
            (is ∙ ap (λ ps. stay ++ first ∷ (rest ++ ps)) none ∙ ap (λ ps. stay ++ first ∷ ps) (append-nil rest))
            (are_full stay kept) kept_is count_is
            (all_are ∙ ap (λ ps. front ++ (news ++ cells_gathered ps)) none
            ∙ ap (λ xs. front ++ xs) (append-nil news ∙ sym come.cells));
      }

      -- one page alone, and others stay behind it
      module _ (one : rest ≡ []) (full : page_room level ≤ length first.cells)
          (long : length made.cells.cells ≡ length first.cells) where
        whole : length made.cells.cells ≡ page_room level
        whole = omega (
          arith,
          full,
          long,
          within_room level lead (length stay) cells first
              (ap (λ ps. slice_get ps (length stay)) is ∙ get_seam stay first (rest ++ behind)),
        )

        is_one : group ≡ (stay ++ first ∷ []) ++ behind
        is_one = is ∙ ap (λ ps. stay ++ first ∷ (ps ++ behind)) one ∙ sym (append_assoc stay (first ∷ []) behind)

        one_full : AllByRecursion (λ (p : Page). page_room level ≤ length p.cells) (stay ++ first ∷ [])
        one_full = all_append (λ (p : Page). page_room level ≤ length p.cells) stay (first ∷ [])
            (are_full stay kept) (full, tt)

        last_pages : pages_from level lead (length stay + 1) (cells_gathered behind) ≡ behind
        last_pages = let place : length stay + 1 ≡ length (stay ++ first ∷ []) =
            omega (arith, length-append stay (first ∷ []))
            in ap (λ n. pages_from level lead n (cells_gathered behind)) place
            ∙ pages_of_last (stay ++ first ∷ []) behind is_one one_full

        abbrev page : Page
        page = page_of_run level lead (length stay) made.cells.cells

        -- the page of these cells, and those of others behind them
        page_first : (more : List Cell) → pages_from level lead (length stay) (made.cells.cells ++ more)
            ≡ page ∷ pages_from level lead (length stay + 1) more
        page_first more =
            next_page level lead (length stay) (made.cells.cells ++ more)
            (omega (arith, length-append made.cells.cells more, whole, some_room level))
            ∙ ap₂ (λ run xs. page_of_run level lead (length stay) run ∷ pages_from level lead (length stay + 1) xs)
            (subst (λ n. take n (made.cells.cells ++ more) ≡ made.cells.cells) whole
            (take-append_seam made.cells.cells more))
            (subst (λ n. drop n (made.cells.cells ++ more) ≡ more) whole (drop-append_seam made.cells.cells more))

        one_page : pages_from level lead (length stay) made.cells.cells ≡ page ∷ []
        one_page = ap (pages_from level lead (length stay)) (sym (append-nil made.cells.cells)) ∙ page_first []
            ∙ ap (λ ps. page ∷ ps) (no_page level lead (length stay + 1) [] refl)

        all_pages_are : group_pages level lead (merged key cells own cells) ≡ stay ++ page ∷ behind
        all_pages_are =
            ap (group_pages level lead) (all_are ∙ ap (λ xs. front ++ (xs ++ cells_gathered behind)) (sym come.cells))
            ∙ sym (pages_behind level lead cells stay (first ∷ (rest ++ behind))
            (made.cells.cells ++ cells_gathered behind) is (are_full stay kept))
            ∙ ap (λ ps. stay ++ ps) (page_first (cells_gathered behind) ∙ ap (λ ps. page ∷ ps) last_pages)

        pub made_alone : made.count ≡ 1 → IsMade level lead key own cells made
        made_alone count_is = record {
          next = next_is;
          renewed = record {
            pages = all_pages_are
                ∙ ap₂ (λ ps qs. ps ++ (qs ++ behind)) (sym taken)
                (sym (ap (λ n. pages_from level lead n made.cells.cells) kept_is ∙ one_page))
                ∙ ap (λ ps. take made.kept group ++ (pages_from level lead made.kept made.cells.cells ++ ps))
                (sym (dropped made.count (count_is ∙ sym (ap (λ ps. length (first ∷ ps)) one))));
            fits = λ further. ap length (ap (λ n. pages_from level lead n made.cells.cells) kept_is ∙ one_page)
                ∙ sym count_is;
          };
        }

      -- the cells are those that were there
      pub made_same : rest ≡ [] → made.cells.cells ≡ first.cells → (cells_kept : CellList) → cells_kept.cells ≡ []
          → IsMade level lead key own cells (record {
            next = made.next;
            kept = made.kept;
            count = 0;
            cells = cells_kept;
          })
      made_same one same cells_kept empty =
          let all : merged key cells own cells ≡ cells =
          all_are ∙ ap (λ xs. front ++ (xs ++ cells_gathered behind)) (sym come.cells ∙ same)
          ∙ ap (λ ps. front ++ (first.cells ++ cells_gathered (ps ++ behind))) (sym one) ∙ sym cells_are in
          let here : made.kept + 0 ≡ made.kept = omega arith in
          record {
            next = next_is;
            renewed = record {
              pages = ap (group_pages level lead) all
                  ∙ sym (ap₂ (λ ps n. take made.kept group ++ (ps ++ drop n group))
                  (no_page level lead made.kept cells_kept.cells empty) here ∙ front_and_back made.kept group);
              fits = λ further. ap length (no_page level lead made.kept cells_kept.cells empty);
            };
          }
        where
          front_and_back : (n : ℕ) (ps : List Page) → take n ps ++ drop n ps ≡ ps
          front_and_back zero ps = refl
          front_and_back (suc n) [] = refl
          front_and_back (suc n) (p ∷ ps) = ap (λ qs. p ∷ qs) (front_and_back n ps)

  -- ---- where none gives way

  pub made_behind : (made : NewCells) (stay : List Page) → group ≡ stay → made.kept ≡ length stay → made.count ≡ 0
      → AllByRecursion (IsKept level key) stay
      → leads.model_lead made.next ≡ lead_from (last_of (cells_gathered stay)) lead
      → made.cells.cells ≡ side Equal key own → IsMade level lead key own cells made
  made_behind made stay is kept_is count_is kept leads_is cells_is =
      let all : cells ≡ cells_gathered stay = sym (cells_of_group level lead cells) ∙ ap cells_gathered is in
      let below = kept_below level key stay kept in
      let lows : side Less key cells ≡ cells_gathered stay =
      ap (side Less key) all ∙ side_all Less key (cells_gathered stay) below in
      let highs : side Greater key cells ≡ [] = ap (side Greater key) all
      ∙ side_no Greater Less key (cells_gathered stay) refl below in
      record {
        next = leads_is ∙ ap (λ xs. lead_from (last_of xs) lead) (sym lows);
        renewed = renewed_to_end level lead cells stay [] (merged key cells own cells) made (is ∙ sym (append-nil stay))
            (are_full stay kept) kept_is count_is
            (ap₂ (λ xs ys. (xs ++ side Equal key own) ++ ys) lows highs
            ∙ append-nil (cells_gathered stay ++ side Equal key own)
            ∙ ap (λ xs. cells_gathered stay ++ xs) (sym cells_is));
      }
