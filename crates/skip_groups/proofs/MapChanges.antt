-- A page put into the map of a list of pages, or dropped from it: the list that the map is then of.
use Rattle.std.proofs.Common.{◌≡◌, ◌⊎◌, inl, inr, ℕ, zero, suc, ◌+◌, ◌<◌, ◌≤◌, List, [], ◌∷◌, ◌++◌, map, length, take}
use Rattle.std.proofs.Common.{drop, Bool, true, false, cond, Option, Some, None, refl, sym, ap, subst, ◌∙◌}
use Rattle.std.proofs.Common.{append_assoc, arith, take-add}
use Rattle.std.specs.Ordering.{is_eq, eq_by_cmp}
use Rattle.std.specs.List.{AllByRecursion, slice_get}
use Rattle.std.specs.FinMap.{find, get-from_entries, get-insert, get-remove, same_map, slice_cmp-IsAntisymmetric}
use Rattle.std.specs.FinMap.{nat_cmp-IsAntisymmetric}
use Rattle.std.proofs.lemmas.List.{length-take, take_all, drop-drop}
use Rattle.std.specs.Cmp.Lexicographic.{nat_list_cmp_total}
use Rattle.store_model.specs.Paths.{key_cmp}
use Rattle.store_model.specs.Labels.{Lead, Label, IsLead, IsLabel, label_bytes}
use Rattle.store_model.specs.Pages.{Page, IsPage}
use Rattle.store_model.specs.PageMaps.{with_page, without_page, map_of_pages}
use Rattle.store_model.proofs.TreesLemmasBytes.{labels_same}
use Rattle.store_model.proofs.TreesLemmasPaths.{tie_from_test}
use Rattle.node_pages.specs.PageEntries.{entry_of}
use Rattle.node_pages.proofs.EntryLemmas.{all_take, all_drop}
use Rattle.node_pages.proofs.PlaceLemmas.{same_key}
use Rattle.skip_groups.specs.Groups.{label_of, AreNumbered}
use Rattle.skip_groups.specs.GroupChanges.{IsChange, changed_pages}
use Rattle.skip_groups.proofs.GroupLookups.{none_of_others}

-- none of the pages has the label
abbrev pub Lacks : Label → List Page → Type 0
Lacks l ps = find key_cmp (label_bytes l) (map entry_of ps) ≡ None

-- a key that the test takes for another is that one
key_of_test : (q k : List ℕ) → is_eq (key_cmp q k) ≡ true → q ≡ k
key_of_test q k e = same_key q k (tie_from_test (key_cmp q k) e)

-- ---- one page among others

past_one : (q : List ℕ) (front back : List Page) (page : Page) → is_eq (key_cmp q (label_bytes page.label)) ≡ false
    → find key_cmp q (map entry_of (front ++ page ∷ back)) ≡ find key_cmp q (map entry_of (front ++ back))
past_one q [] back page other = ap (λ b. cond b (Some page) (find key_cmp q (map entry_of back))) other
past_one q (p ∷ front) back page other =
    ap (cond (is_eq (key_cmp q (label_bytes p.label))) (Some p)) (past_one q front back page other)

at_one : (q : List ℕ) (front back : List Page) (page : Page) → find key_cmp q (map entry_of front) ≡ None
    → is_eq (key_cmp q (label_bytes page.label)) ≡ true
    → find key_cmp q (map entry_of (front ++ page ∷ back)) ≡ Some page
at_one q [] back page none same = ap (λ b. cond b (Some page) (find key_cmp q (map entry_of back))) same
at_one q (p ∷ front) back page none same =
    elim (is_eq (key_cmp q (label_bytes p.label))) as (λ b. cond b (Some p) (find key_cmp q (map entry_of front)) ≡ None
    → cond b (Some p) (find key_cmp q (map entry_of (front ++ page ∷ back))) ≡ Some page) [
      | true ↦ λ e. absurd (cc)
      | false ↦ λ e. at_one q front back page e same
    ] none

-- two lists in which the same is found have one map
same_found : (ps qs : List Page) → ((q : List ℕ) → find key_cmp q (map entry_of ps) ≡ find key_cmp q (map entry_of qs))
    → map_of_pages ps ≡ map_of_pages qs
same_found ps qs h =
    same_map nat_list_cmp_total (slice_cmp-IsAntisymmetric nat_cmp-IsAntisymmetric) (map_of_pages ps) (map_of_pages qs)
    (λ q. get-from_entries nat_list_cmp_total (map entry_of ps) q ∙ h q
    ∙ sym (get-from_entries nat_list_cmp_total (map entry_of qs) q))

-- no page of a list without the label of a page is found under that label
none_in_front : (front : List Page) (page : Page) → Lacks page.label front → (q : List ℕ)
    → is_eq (key_cmp q (label_bytes page.label)) ≡ true → find key_cmp q (map entry_of front) ≡ None
none_in_front front page lacks q e =
    subst (λ k. find key_cmp k (map entry_of front) ≡ None) (sym (key_of_test q (label_bytes page.label) e)) lacks

-- a page put among pages
pub put_among : (front back : List Page) (page : Page) → Lacks page.label front
    → with_page (map_of_pages (front ++ back)) page ≡ map_of_pages (front ++ page ∷ back)
put_among front back page lacks =
    let m = map_of_pages (front ++ back) in
    same_map nat_list_cmp_total (slice_cmp-IsAntisymmetric nat_cmp-IsAntisymmetric) (with_page m page)
    (map_of_pages (front ++ page ∷ back)) (λ q.
    get-insert nat_list_cmp_total m (label_bytes page.label) page q
    ∙ ap (cond (eq_by_cmp key_cmp q (label_bytes page.label)) (Some page))
    (get-from_entries nat_list_cmp_total (map entry_of (front ++ back)) q)
    ∙ by_test q (is_eq (key_cmp q (label_bytes page.label))) refl
    ∙ sym (get-from_entries nat_list_cmp_total (map entry_of (front ++ page ∷ back)) q))
  where
    by_test : (q : List ℕ) (b : Bool) → is_eq (key_cmp q (label_bytes page.label)) ≡ b
        → cond b (Some page) (find key_cmp q (map entry_of (front ++ back)))
        ≡ find key_cmp q (map entry_of (front ++ page ∷ back))
    by_test q true e = sym (at_one q front back page (none_in_front front page lacks q e) e)
    by_test q false e = sym (past_one q front back page e)

-- a page put in the place of one with its label
pub put_over : (front back : List Page) (page old : Page) → Lacks page.label front → old.label ≡ page.label
    → with_page (map_of_pages (front ++ old ∷ back)) page ≡ map_of_pages (front ++ page ∷ back)
put_over front back page old lacks same =
    put_among front (old ∷ back) page lacks ∙ same_found (front ++ page ∷ old ∷ back) (front ++ page ∷ back)
    (λ q. by_test q (is_eq (key_cmp q (label_bytes page.label))) refl)
  where
    by_test : (q : List ℕ) (b : Bool) → is_eq (key_cmp q (label_bytes page.label)) ≡ b
        → find key_cmp q (map entry_of (front ++ page ∷ old ∷ back))
        ≡ find key_cmp q (map entry_of (front ++ page ∷ back))
    by_test q true e = at_one q front (old ∷ back) page (none_in_front front page lacks q e) e
        ∙ sym (at_one q front back page (none_in_front front page lacks q e) e)
    by_test q false e =
        past_one q front (old ∷ back) page e
        ∙ past_one q front back old (ap (λ (l : Label). is_eq (key_cmp q (label_bytes l))) same ∙ e)
        ∙ sym (past_one q front back page e)

-- a page dropped from among pages
pub drop_among : (front back : List Page) (page : Page) → Lacks page.label (front ++ back)
    → without_page (map_of_pages (front ++ page ∷ back)) page.label ≡ map_of_pages (front ++ back)
drop_among front back page lacks =
    let m = map_of_pages (front ++ page ∷ back) in
    same_map nat_list_cmp_total (slice_cmp-IsAntisymmetric nat_cmp-IsAntisymmetric) (without_page m page.label)
    (map_of_pages (front ++ back)) (λ q.
    get-remove nat_list_cmp_total m (label_bytes page.label) q
    ∙ ap (cond (eq_by_cmp key_cmp q (label_bytes page.label)) None)
    (get-from_entries nat_list_cmp_total (map entry_of (front ++ page ∷ back)) q)
    ∙ by_test q (is_eq (key_cmp q (label_bytes page.label))) refl
    ∙ sym (get-from_entries nat_list_cmp_total (map entry_of (front ++ back)) q))
  where
    by_test : (q : List ℕ) (b : Bool) → is_eq (key_cmp q (label_bytes page.label)) ≡ b
        → cond b None (find key_cmp q (map entry_of (front ++ page ∷ back)))
        ≡ find key_cmp q (map entry_of (front ++ back))
    by_test q true e = sym (none_in_front (front ++ back) page lacks q e)
    by_test q false e = past_one q front back page e

-- ---- the pages of one group

-- a list lacks a label where its parts do
lacks_both : (l : Label) (ps qs : List Page) → Lacks l ps → Lacks l qs → Lacks l (ps ++ qs)
lacks_both l [] qs a b = b
lacks_both l (p ∷ ps) qs a b =
    elim (is_eq (key_cmp (label_bytes l) (label_bytes p.label))) as
    (λ t. cond t (Some p) (find key_cmp (label_bytes l) (map entry_of ps)) ≡ None
    → cond t (Some p) (find key_cmp (label_bytes l) (map entry_of (ps ++ qs))) ≡ None) [
      | true ↦ λ e. e
      | false ↦ λ e. lacks_both l ps qs e b
    ] a

-- pages of a group lack the numbers that are not theirs
pub lacks_number : (level : ℕ) (lead : Lead) (n i : ℕ) (ps : List Page) → level < 256 → IsLead lead → i < 4294967296
    → AllByRecursion IsPage ps → AreNumbered level lead n ps → (i < n) ⊎ (n + length ps ≤ i)
    → Lacks (label_of level lead i) ps
lacks_number level lead n i [] low led below valid numbered far = refl
lacks_number level lead n i (p ∷ ps) low led below valid numbered far =
    let l = label_of level lead i in
    let rest = lacks_number level lead (n + 1) i ps low led below
    valid.1 numbered.1 (elim far [ inl a ↦ inl (omega arith) | inr a ↦ inr (omega arith) ]) in
    elim (is_eq (key_cmp (label_bytes l) (label_bytes p.label))) as
    (λ t. is_eq (key_cmp (label_bytes l) (label_bytes p.label)) ≡ t
    → cond t (Some p) (find key_cmp (label_bytes l) (map entry_of ps)) ≡ None) [
      | true ↦ λ e.
          let is : IsLabel l = record { level = low; lead = led; index = below } in
          let same : l ≡ p.label = labels_same l p.label is
          valid.0.label (key_of_test (label_bytes l) (label_bytes p.label) e) in
          let equal : i ≡ n = ap (λ (x : Label). x.index) (same ∙ numbered.0) in
          absurd (elim far [ inl a ↦ omega arith | inr a ↦ omega arith ])
      | false ↦ λ e. rest
    ] refl

pub numbered_behind : (level : ℕ) (lead : Lead) (n i : ℕ) (ps : List Page) → AreNumbered level lead n ps
    → AreNumbered level lead (n + i) (drop i ps)
numbered_behind level lead n zero ps h =
    subst (λ k. AreNumbered level lead k ps) (let e : n ≡ n + 0 = omega arith in e) h
numbered_behind level lead n (suc i) [] h = tt
numbered_behind level lead n (suc i) (p ∷ ps) h =
    subst (λ k. AreNumbered level lead k (drop i ps)) (let e : n + 1 + i ≡ n + suc i = omega arith in e)
    (numbered_behind level lead (n + 1) i ps h.1)

pub numbered_front : (level : ℕ) (lead : Lead) (n i : ℕ) (ps : List Page) → AreNumbered level lead n ps
    → AreNumbered level lead n (take i ps)
numbered_front level lead n zero ps h = tt
numbered_front level lead n (suc i) [] h = tt
numbered_front level lead n (suc i) (p ∷ ps) h = (h.0, numbered_front level lead (n + 1) i ps h.1)

-- the page of a number stands behind those before it
pub page_behind : (i : ℕ) (ps : List Page) (page : Page) → slice_get ps i ≡ Some page
    → drop i ps ≡ page ∷ drop (i + 1) ps
page_behind zero [] page e = absurd (cc)
page_behind zero (p ∷ ps) page e = let same : p ≡ page = cc in ap (λ x. x ∷ ps) same
page_behind (suc i) [] page e = absurd (cc)
page_behind (suc i) (p ∷ ps) page e = page_behind i ps page e
    ∙ ap (λ n. page ∷ drop n (p ∷ ps)) (let further : suc (i + 1) ≡ suc i + 1 = omega arith in further)

pub nothing_behind : (i : ℕ) (ps : List Page) → slice_get ps i ≡ None → drop i ps ≡ []
nothing_behind zero [] e = refl
nothing_behind zero (p ∷ ps) e = absurd (cc)
nothing_behind (suc i) [] e = refl
nothing_behind (suc i) (p ∷ ps) e = nothing_behind i ps e

nothing_further : (i : ℕ) (ps : List Page) → slice_get ps i ≡ None → drop (i + 1) ps ≡ []
nothing_further i ps e = sym (drop-drop 1 i ps) ∙ ap (drop 1) (nothing_behind i ps e)

pub label_at : (level : ℕ) (lead : Lead) (n i : ℕ) (ps : List Page) (page : Page) → AreNumbered level lead n ps
    → slice_get ps i ≡ Some page → page.label ≡ label_of level lead (n + i)
label_at level lead n i [] page h e = absurd (cc)
label_at level lead n zero (p ∷ ps) page h e =
    let same : p ≡ page = cc in
    let here : n ≡ n + 0 = omega arith in
    ap (λ (x : Page). x.label) (sym same) ∙ h.0 ∙ ap (label_of level lead) here
label_at level lead n (suc i) (p ∷ ps) page h e =
    let further : n + 1 + i ≡ n + suc i = omega arith in
    label_at level lead (n + 1) i ps page h.1 e ∙ ap (label_of level lead) further

-- ---- a group changed page after page

module _ (level : ℕ) (lead : Lead) (front back os ns : List Page) (h : IsChange level lead front back os ns) (i : ℕ)
    (below : i < 4294967296) where
  is_label : IsLabel (label_of level lead i)
  is_label = record { level = h.low; lead = h.led; index = below }

  lacks_front : Lacks (label_of level lead i) (front ++ take i ns)
  lacks_front =
      lacks_both (label_of level lead i) front (take i ns)
      (none_of_others (label_of level lead i) front is_label h.front_apart.valid h.front_apart.others)
      (lacks_number level lead 0 i (take i ns) h.low h.led below (all_take IsPage i ns h.new_pages.valid)
      (numbered_front level lead 0 i ns h.new_pages.numbered) (inr (let l = length-take i ns in omega arith)))

  lacks_back : Lacks (label_of level lead i) (drop (i + 1) os ++ back)
  lacks_back =
      lacks_both (label_of level lead i) (drop (i + 1) os) back
      (lacks_number level lead (i + 1) i (drop (i + 1) os) h.low h.led below
      (all_drop IsPage (i + 1) os h.old_pages.valid)
      (subst (λ k. AreNumbered level lead k (drop (i + 1) os)) (let e : 0 + (i + 1) ≡ i + 1 = omega arith in e)
      (numbered_behind level lead 0 (i + 1) os h.old_pages.numbered)) (inl (omega arith)))
      (none_of_others (label_of level lead i) back is_label h.back_apart.valid h.back_apart.others)

  -- the parts of the list around the page of the number
  parted : (rest : List Page) → front ++ ((take i ns ++ rest) ++ back) ≡ (front ++ take i ns) ++ (rest ++ back)
  parted rest = ap (λ ps. front ++ ps) (append_assoc (take i ns) rest back)
      ∙ sym (append_assoc front (take i ns) (rest ++ back))

  one_on : (page : Page) → slice_get ns i ≡ Some page
      → front ++ (changed_pages (i + 1) os ns ++ back) ≡ (front ++ take i ns) ++ (page ∷ (drop (i + 1) os ++ back))
  one_on page there =
      ap (λ ps. front ++ ((ps ++ drop (i + 1) os) ++ back))
      (take-add i 1 ns ∙ ap (λ ps. take i ns ++ take 1 ps) (page_behind i ns page there))
      ∙ ap (λ ps. front ++ (ps ++ back)) (append_assoc (take i ns) (page ∷ []) (drop (i + 1) os))
      ∙ parted (page ∷ drop (i + 1) os)

  -- a page put under its number
  pub page_put : (page : Page) → slice_get ns i ≡ Some page
      → with_page (map_of_pages (front ++ (changed_pages i os ns ++ back))) page
      ≡ map_of_pages (front ++ (changed_pages (i + 1) os ns ++ back))
  page_put page there =
      ap (λ ps. with_page (map_of_pages ps) page) (parted (drop i os))
      ∙ by_old (slice_get os i) refl
      ∙ ap map_of_pages (sym (one_on page there))
    where
      labelled : page.label ≡ label_of level lead i
      labelled = label_at level lead 0 i ns page h.new_pages.numbered there
          ∙ ap (label_of level lead) (let e : 0 + i ≡ i = omega arith in e)

      lacks : Lacks page.label (front ++ take i ns)
      lacks = subst (λ l. Lacks l (front ++ take i ns)) (sym labelled) lacks_front

      by_old : (o : Option Page) → slice_get os i ≡ o
          → with_page (map_of_pages ((front ++ take i ns) ++ (drop i os ++ back))) page
          ≡ map_of_pages ((front ++ take i ns) ++ (page ∷ (drop (i + 1) os ++ back)))
      by_old None none =
          ap (λ ps. with_page (map_of_pages ((front ++ take i ns) ++ (ps ++ back))) page) (nothing_behind i os none)
          ∙ put_among (front ++ take i ns) back page lacks
          ∙ ap (λ ps. map_of_pages ((front ++ take i ns) ++ (page ∷ (ps ++ back)))) (sym (nothing_further i os none))
      by_old (Some old) some =
          ap (λ ps. with_page (map_of_pages ((front ++ take i ns) ++ (ps ++ back))) page) (page_behind i os old some)
          ∙ put_over (front ++ take i ns) (drop (i + 1) os ++ back) page old lacks
          (label_at level lead 0 i os old h.old_pages.numbered some
          ∙ ap (label_of level lead) (let e : 0 + i ≡ i = omega arith in e) ∙ sym labelled)

  -- a page dropped for which there is no new one
  pub page_dropped : (page : Page) → length ns ≤ i → slice_get os i ≡ Some page
      → without_page (map_of_pages (front ++ (changed_pages i os ns ++ back))) page.label
      ≡ map_of_pages (front ++ (changed_pages (i + 1) os ns ++ back))
  page_dropped page past there =
      ap (λ ps. without_page (map_of_pages ps) page.label)
      (parted (drop i os) ∙ ap (λ ps. (front ++ take i ns) ++ (ps ++ back)) (page_behind i os page there))
      ∙ drop_among (front ++ take i ns) (drop (i + 1) os ++ back) page
      (subst (λ l. Lacks l ((front ++ take i ns) ++ (drop (i + 1) os ++ back))) (sym labelled)
      (lacks_both (label_of level lead i) (front ++ take i ns) (drop (i + 1) os ++ back) lacks_front lacks_back))
      ∙ ap map_of_pages (sym (parted (drop (i + 1) os)))
      ∙ ap (λ ps. map_of_pages (front ++ ((ps ++ drop (i + 1) os) ++ back)))
      (take_all i ns past ∙ sym (take_all (i + 1) ns (omega arith)))
    where
      labelled : page.label ≡ label_of level lead i
      labelled = label_at level lead 0 i os page h.old_pages.numbered there
          ∙ ap (label_of level lead) (let e : 0 + i ≡ i = omega arith in e)
