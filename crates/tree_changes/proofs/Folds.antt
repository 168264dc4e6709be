-- Lemmas on changes that are carried out one after another.
use Rattle.std.proofs.Common.{◌≡◌, ◌⊎◌, inl, inr, List, [], ◌∷◌, ◌++◌, map, Some, None}
use Rattle.std.proofs.Common.{refl, sym, ap, subst, ◌∙◌, append_assoc}
use Rattle.std.proofs.lemmas.List.{append-nil}
use Rattle.store_model.specs.declared.refusal.Refusal.{Refusal}
use Rattle.store_model.specs.Parameters.{Parameters}
use Rattle.store_model.specs.Trees.{Tree}
use Rattle.tree_changes.specs.Conditional.{Conditional, why_refused, tree_behind, Leads, Stops}

-- what leads to a tree, and from there on
pub leads_join : (p : Parameters) (t v u : Tree) (cs ds : List Conditional) → Leads p t cs v → Leads p v ds u
    → Leads p t (cs ++ ds) u
unfolding Leads
leads_join p t v u [] ds same behind = subst (λ (w : Tree). Leads p w ds u) (sym same) behind
leads_join p t v u (c ∷ cs) ds chain behind = (chain.0, leads_join p (tree_behind t c) v u cs ds chain.1 behind)

pub leads_split : (p : Parameters) (t u : Tree) (cs ds : List Conditional) → Leads p t (cs ++ ds) u
    → (v : Tree) × Leads p t cs v × Leads p v ds u
unfolding Leads
leads_split p t u [] ds chain = (t, refl, chain)
leads_split p t u (c ∷ cs) ds chain = let rest = leads_split p (tree_behind t c) u cs ds chain.1
    in (rest.0, (chain.0, rest.1), rest.2)

-- where changes stop, it is at one of the first or of those behind them
pub stops_split : (p : Parameters) (t : Tree) (g : Conditional) (why : Refusal) (cs ds : List Conditional)
    → Stops p t (cs ++ ds) g why
    → Stops p t cs g why ⊎ ((v : Tree) × Leads p t cs v × Stops p v ds g why)
unfolding Leads
stops_split p t g why cs ds stops = by t cs stops.first stops.changes_are stops.leads
  where
    by : (w : Tree) (cs first : List Conditional) → cs ++ ds ≡ first ++ g ∷ stops.rest → Leads p w first stops.tree
        → Stops p w cs g why ⊎ ((v : Tree) × Leads p w cs v × Stops p v ds g why)
    by w [] first is leads = inr (
      w,
      refl,
      record {
        first = first;
        rest = stops.rest;
        changes_are = is;
        tree = stops.tree;
        leads = leads;
        refused = stops.refused;
      },
    )
    by w (c ∷ cs) [] is leads =
        let this : c ≡ g = cc in
        inl (record {
          first = [];
          rest = cs;
          changes_are = ap (λ (d : Conditional). d ∷ cs) this;
          tree = w;
          leads = refl;
          refused = ap (λ x. why_refused p x g) leads ∙ stops.refused;
        })
    by w (c ∷ cs) (d ∷ first) is leads =
        let this : c ≡ d = cc in
        let more : cs ++ ds ≡ first ++ g ∷ stops.rest = cc in
        later (by (tree_behind w c) cs first more
        (subst (λ (e : Conditional). Leads p (tree_behind w e) first stops.tree) (sym this) leads.1))
        (ap (why_refused p w) this ∙ leads.0)
      where
        later : Stops p (tree_behind w c) cs g why
            ⊎ ((v : Tree) × Leads p (tree_behind w c) cs v × Stops p v ds g why) → why_refused p w c ≡ None
            → Stops p w (c ∷ cs) g why ⊎ ((v : Tree) × Leads p w (c ∷ cs) v × Stops p v ds g why)
        later (inl here) none = inl (record {
          first = c ∷ here.first;
          rest = here.rest;
          changes_are = ap (λ (es : List Conditional). c ∷ es) here.changes_are;
          tree = here.tree;
          leads = (none, here.leads);
          refused = here.refused;
        })
        later (inr behind) none = inr (behind.0, (none, behind.1), behind.2)

-- ---- steps of a list, one for each element

module _ {A : Type 0} (p : Parameters) (step : A → Conditional) (Holds : List A → Tree → Type 0) (all : List A) where
  -- what holds behind the first elements holds behind one more that is not refused
  abbrev pub GoesOn : Type 0
  GoesOn = (done rest : List A) (a : A) (w : Tree) → all ≡ done ++ a ∷ rest → Holds done w
      → why_refused p w (step a) ≡ None → Holds (done ++ a ∷ []) (tree_behind w (step a))

  -- an element, with those before it
  split_again : (done rest : List A) (a : A) → all ≡ done ++ a ∷ rest → all ≡ (done ++ a ∷ []) ++ rest
  split_again done rest a e = e ∙ sym (append_assoc done (a ∷ []) rest)

  -- so it holds behind all
  leads_from : GoesOn → (rest done : List A) (w u : Tree) → all ≡ done ++ rest → Holds done w
      → Leads p w (map step rest) u → Holds all u
  unfolding Leads
  leads_from on [] done w u e holds same =
      subst (λ (v : Tree). Holds all v) same
      (subst (λ (xs : List A). Holds xs w) (sym (e ∙ append-nil done)) holds)
  leads_from on (a ∷ rest) done w u e holds chain =
      leads_from on rest (done ++ a ∷ []) (tree_behind w (step a)) u (split_again done rest a e)
      (on done rest a w e holds chain.0) chain.1

  pub leads_to_all : GoesOn → (t u : Tree) → Holds [] t → Leads p t (map step all) u → Holds all u
  leads_to_all on t u holds chain = leads_from on all [] t u refl holds chain

  -- where the steps stop at an element, it holds behind those before
  pub record StopsAt (g : Conditional) (why : Refusal) : Type 0 where
    pub done : List A
    pub rest : List A
    pub element : A
    pub all_are : all ≡ done ++ element ∷ rest
    pub step_is : g ≡ step element
    pub tree : Tree
    pub holds : Holds done tree
    pub refused : why_refused p tree (step element) ≡ Some why

  stops_from : GoesOn → (first : List Conditional) (rest done : List A) (g : Conditional) (behind : List Conditional)
      (w v : Tree) (why : Refusal) → all ≡ done ++ rest → Holds done w → map step rest ≡ first ++ g ∷ behind
      → Leads p w first v → why_refused p v g ≡ Some why → StopsAt g why
  unfolding Leads
  stops_from on [] [] done g behind w v why e holds is same refused = cc
  stops_from on [] (a ∷ rest) done g behind w v why e holds is same refused =
      let this : g ≡ step a = cc in
      record {
        done = done;
        rest = rest;
        element = a;
        all_are = e;
        step_is = this;
        tree = w;
        holds = holds;
        refused = subst (λ (c : Conditional). why_refused p w c ≡ Some why) this
            (subst (λ (x : Tree). why_refused p x g ≡ Some why) (sym same) refused);
      }
  stops_from on (c ∷ first) [] done g behind w v why e holds is chain refused = cc
  stops_from on (c ∷ first) (a ∷ rest) done g behind w v why e holds is chain refused =
      let this : step a ≡ c = cc in
      let others : map step rest ≡ first ++ g ∷ behind = cc in
      stops_from on first rest (done ++ a ∷ []) g behind (tree_behind w (step a)) v why (split_again done rest a e)
      (on done rest a w e holds (ap (why_refused p w) this ∙ chain.0)) others
      (subst (λ (d : Conditional). Leads p (tree_behind w d) first v) (sym this) chain.1) refused

  pub stops_at : GoesOn → (t : Tree) (g : Conditional) (why : Refusal) → Holds [] t
      → Stops p t (map step all) g why → StopsAt g why
  stops_at on t g why holds stops =
      stops_from on stops.first all [] g stops.rest t stops.tree why refl holds stops.changes_are stops.leads
      stops.refused
