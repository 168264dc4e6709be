-- The list of a level around a place: the group that the place lies in, and what stands before and behind it.
use Rattle.std.proofs.Common.{◌≡◌, ◌⊎◌, inl, inr, ℕ, List, [], ◌∷◌, ◌++◌, Bool, true, false, refl, sym, ap, ap₂, subst}
use Rattle.std.proofs.Common.{◌∙◌, append_assoc}
use Rattle.std.specs.List.{AllByRecursion}
use Rattle.store_model.specs.Draws.{Draw}
use Rattle.store_model.specs.Labels.Lead.{Leader}
use Rattle.store_model.specs.Pages.{Cell, leads_group}
use Rattle.store_model.proofs.ListsLemmas.{all_append}
use Rattle.skip_levels.specs.SearchPath.{last_lead}
use Rattle.skip_levels.proofs.Apart.{BeginsAtCut, IsUncut, list_pages, list_pages_none, pages_of_group, paged_apart}
use Rattle.skip_levels.proofs.Apart.{group_alone, no_page_of_none}

-- ---- the two sides of a place

module _ {A : Type 0} (cuts : A → Bool) where
  -- what begins at a cut, and is not empty
  abbrev pub IsLed : List A → Type 0
  IsLed [] = ⊥
  IsLed (y ∷ ys) = cuts y ≡ true

  -- no element has a cut in front of it
  abbrev pub HasNoCut : List A → Type 0
  HasNoCut xs = AllByRecursion (λ y. cuts y ≡ false) xs

  -- A list in two: the last part of it, and what stands before. The part begins at a cut, or there is no cut.
  pub record LastPart (xs : List A) : Type 0 where
    pub before : List A
    pub part : List A
    pub whole : xs ≡ before ++ part
    pub uncut : IsUncut cuts part
    pub begins : IsLed part ⊎ ((before ≡ []) × HasNoCut part)

  -- one element more in front
  one_more : (x : A) (xs before part : List A) → xs ≡ before ++ part → IsUncut cuts part
      → IsLed part ⊎ ((before ≡ []) × HasNoCut part) → LastPart (x ∷ xs)
  one_more x xs before part whole uncut (inl led) = record {
    before = x ∷ before;
    part = part;
    whole = ap (λ ys. x ∷ ys) whole;
    uncut = uncut;
    begins = inl led;
  }
  one_more x xs before part whole uncut (inr none) = record {
    before = [];
    part = x ∷ part;
    whole = ap (λ ys. x ∷ ys) (whole ∙ ap (λ ys. ys ++ part) none.0);
    uncut = none.1;
    begins = picked (cuts x) refl;
  }
    where
      picked : (b : Bool) → cuts x ≡ b → IsLed (x ∷ part) ⊎ (◌≡◌ {A = List A} [] [] × HasNoCut (x ∷ part))
      picked true e = inl e
      picked false e = inr (refl, (e, none.1))

  pub last_part : (xs : List A) → LastPart xs
  last_part [] = record { before = []; part = []; whole = refl; uncut = tt; begins = inr (refl, tt) }
  last_part (x ∷ xs) = let rest = last_part xs in one_more x xs rest.before rest.part rest.whole rest.uncut rest.begins

  -- where the last element begins at a cut, it is that part alone
  pub part_of_last : (y : A) → cuts y ≡ true → (xs : List A) → (last_part (xs ++ y ∷ [])).part ≡ y ∷ []
  unfolding last_part one_more
  part_of_last y cut [] = refl
  part_of_last y cut (x ∷ xs) = let rest = last_part (xs ++ y ∷ [])
      in by_begins rest.before rest.part rest.whole rest.uncut rest.begins (part_of_last y cut xs)
    where
      by_begins : (before part : List A) (whole : xs ++ y ∷ [] ≡ before ++ part) (uncut : IsUncut cuts part)
          (begins : IsLed part ⊎ ((before ≡ []) × HasNoCut part)) → part ≡ y ∷ []
          → (one_more x (xs ++ y ∷ []) before part whole uncut begins).part ≡ y ∷ []
      by_begins before part whole uncut (inl led) is = is
      by_begins before part whole uncut (inr none) is = let fails = (subst HasNoCut is none.1).0
          in let wrong : true ≡ false = sym cut ∙ fails in absurd (cc)

  -- A list in two: what stands before its first cut, and the rest.
  pub record FirstCut (xs : List A) : Type 0 where
    pub part : List A
    pub behind : List A
    pub whole : xs ≡ part ++ behind
    pub uncut : HasNoCut part
    pub next : BeginsAtCut cuts behind

  pub first_cut : (xs : List A) → FirstCut xs
  first_cut [] = record { part = []; behind = []; whole = refl; uncut = tt; next = tt }
  first_cut (x ∷ xs) =
      let rest = first_cut xs in
      elim (cuts x) as (λ b. cuts x ≡ b → FirstCut (x ∷ xs)) [
        | true ↦ λ e. record { part = []; behind = x ∷ xs; whole = refl; uncut = tt; next = e }
        | false ↦ λ e. record {
          part = x ∷ rest.part;
          behind = rest.behind;
          whole = ap (λ ys. x ∷ ys) rest.whole;
          uncut = (e, rest.uncut);
          next = rest.next;
        }
      ] refl

  -- a part goes on as far as there is no cut
  pub uncut_append : (xs ys : List A) → IsUncut cuts xs → HasNoCut ys → (IsLed xs ⊎ HasNoCut xs)
      → IsUncut cuts (xs ++ ys)
  uncut_append [] [] u h b = tt
  uncut_append [] (y ∷ ys) u h b = h.1
  uncut_append (x ∷ xs) ys u h b = all_append (λ y. cuts y ≡ false) xs ys u h

-- ---- the pages around a place of a level

module _ (d : Draw) (level : ℕ) where
  -- the pages of a level whose list lies on two sides of a place: those before the group of the place, its own, and
  -- those behind
  pub pages_around : (low high : List Cell) (l : LastPart (leads_group d level) low)
      (h : FirstCut (leads_group d level) high)
      → list_pages d level (low ++ high) ≡ list_pages d level l.before
      ++ (pages_of_group d level (l.part ++ h.part) ++ list_pages d level h.behind)
  pages_around low high l h =
      let cuts = leads_group d level in
      let whole : low ++ high ≡ l.before ++ ((l.part ++ h.part) ++ h.behind) =
      ap₂ (λ xs ys. xs ++ ys) l.whole h.whole ∙ append_assoc l.before l.part (h.part ++ h.behind)
      ∙ ap (λ ys. l.before ++ ys) (sym (append_assoc l.part h.part h.behind)) in
      ap (list_pages d level) whole
      ∙ before_apart l.before l.part h.part h.behind l.begins h.next
      ∙ ap (λ ps. list_pages d level l.before ++ ps) (paged_apart d level (l.part ++ h.part) h.behind h.next
      ∙ ap (λ ps. ps ++ list_pages d level h.behind)
      (alone (l.part ++ h.part)
      (uncut_append cuts l.part h.part l.uncut h.uncut (led_or_not l.part l.before l.begins))))
    where
      led_or_not : (part before : List Cell) → IsLed (leads_group d level) part
          ⊎ ((before ≡ []) × HasNoCut (leads_group d level) part)
          → IsLed (leads_group d level) part ⊎ HasNoCut (leads_group d level) part
      led_or_not part before (inl led) = inl led
      led_or_not part before (inr none) = inr none.1

      alone : (cells : List Cell) → IsUncut (leads_group d level) cells
          → list_pages d level cells ≡ pages_of_group d level cells
      alone [] uncut = list_pages_none d level ∙ sym (no_page_of_none d level)
      alone (x ∷ xs) uncut = group_alone d level x xs uncut

      begins_with : (part more : List Cell) → IsLed (leads_group d level) part
          → BeginsAtCut (leads_group d level) (part ++ more)
      begins_with [] more led = absurd led
      begins_with (x ∷ part) more led = led

      before_apart : (before part mid behind : List Cell)
          → IsLed (leads_group d level) part ⊎ ((before ≡ []) × HasNoCut (leads_group d level) part)
          → BeginsAtCut (leads_group d level) behind
          → list_pages d level (before ++ ((part ++ mid) ++ behind)) ≡ list_pages d level before
          ++ list_pages d level ((part ++ mid) ++ behind)
      before_apart before part mid behind (inl led) next =
          paged_apart d level before ((part ++ mid) ++ behind)
          (subst (BeginsAtCut (leads_group d level)) (sym (append_assoc part mid behind))
          (begins_with part (mid ++ behind) led))
      before_apart before part mid behind (inr none) next =
          let rest = (part ++ mid) ++ behind in
          ap (λ xs. list_pages d level (xs ++ rest)) none.0
          ∙ ap (λ ps. ps ++ list_pages d level rest)
          (sym (list_pages_none d level) ∙ ap (list_pages d level) (sym none.0))

-- ---- what leads the group of a place

-- the last of some keys
pub last_lead-push : (keys : List (List ℕ)) (key : List ℕ) → last_lead (keys ++ key ∷ []) ≡ Leader key
unfolding last_lead
last_lead-push [] key = refl
last_lead-push (k ∷ []) key = refl
last_lead-push (k ∷ other ∷ keys) key = last_lead-push (other ∷ keys) key
