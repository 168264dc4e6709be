-- The store's changes under guards, as the conditional changes of the words' definitions.
use Rattle.std.proofs.Common.{◌≡◌, ℕ, suc, List, [], ◌∷◌, ◌++◌, map, length, Bool, true, false, cond}
use Rattle.std.proofs.Common.{Option, Some, None, refl, sym, ap, subst, ◌∙◌}
use Rattle.store_model.specs.declared.refusal.Refusal.{Refusal}
use Rattle.store_model.specs.declared.refusal.Refusal.TheVariants as refusals
use Rattle.store_model.specs.Parameters.{Parameters}
use Rattle.store_model.specs.Paths.{Path}
use Rattle.store_model.specs.Trees.{Tree, node_at}
use Rattle.store_model.specs.Commands.{Command}
use Rattle.store_model.specs.Commands.Command.{Make, Write, Cut, Rename, Remove, Prune, ListChildren, Read, Space}
use Rattle.store_model.specs.Commands.Command.{Digest, SetAttribute, UnsetAttribute, GetAttribute, ListAttributes}
use Rattle.store_model.specs.Commands.Reply.{Acknowledged, Refused}
use Rattle.store_model.specs.Steps.{Step, refusal_of, next_tree, reply_of, lacks_version}
use Rattle.store_model.specs.Scripts.{replies_by, answers_by, tree_by, state_by}
use Rattle.tree_pairs.specs.TreeCalls.{uncounted_by}
use Rattle.staged_tree.specs.Groups.{refusal_in, or_later, first_refused}
use Rattle.staged_tree.specs.Guards.{Guarded, is_due_at}
use Rattle.staged_tree.specs.Guards as guards
use Rattle.staged_tree.specs.Roomy.{guarded_step, refused_roomy, roomy_tree}
use Rattle.tree_changes.specs.Conditional.{Conditional, path_of, is_due, refusal_under, why_refused, tree_behind, Leads}

-- a change under a guard
abbrev pub conditional_of : Guarded → Conditional
conditional_of g = record { due = is_due_at g.when; change = g.change }

-- both are on one path
pub same_path_of : (c : Command) → guards.path_of c ≡ path_of c
same_path_of (Make path) = refl
same_path_of (Write path at bytes) = refl
same_path_of (Cut path len) = refl
same_path_of (Rename from to) = refl
same_path_of (Remove path) = refl
same_path_of (Prune path) = refl
same_path_of (ListChildren path) = refl
same_path_of (Read path at len) = refl
same_path_of Space = refl
same_path_of Digest = refl
same_path_of (SetAttribute path a bytes) = refl
same_path_of (UnsetAttribute path a) = refl
same_path_of (GetAttribute path a) = refl
same_path_of (ListAttributes path) = refl

same_due : (t : Tree) (g : Guarded) → guards.is_due t g ≡ is_due t (conditional_of g)
same_due t g = ap (λ (path : Path). is_due_at g.when (node_at t path)) (same_path_of g.change)

-- what is carried out replies no refusal
plain_reply : (t : Tree) (c : Command) (p : Parameters) → refusal_in (reply_of t c p) ≡ None
unfolding reply_of
plain_reply t (Make path) p = refl
plain_reply t (Write path at bytes) p = refl
plain_reply t (Cut path len) p = refl
plain_reply t (Rename from to) p = refl
plain_reply t (Remove path) p = refl
plain_reply t (Prune path) p = refl
plain_reply t (ListChildren path) p = refl
plain_reply t (Read path at len) p = refl
plain_reply t Space p = refl
plain_reply t Digest p = refl
plain_reply t (SetAttribute path a bytes) p = refl
plain_reply t (UnsetAttribute path a) p = refl
plain_reply t (GetAttribute path a) p = refl
plain_reply t (ListAttributes path) p = refl

module _ (p : Parameters) (t : Tree) (c : Command) where
  -- a step, by whether it is due, whether the version lacks it, and why else it is refused
  abbrev step_by_bits : Bool → Bool → Option Refusal → Step
  step_by_bits due lacks o = cond due (cond lacks (record { reply = Refused refusals.Version; tree = t })
      (uncounted_by t c p o)) (record { reply = Acknowledged; tree = t })

  refused_by_bits : (due lacks : Bool) (o : Option Refusal)
      → refusal_in (Step.reply (step_by_bits due lacks o)) ≡ cond due (cond lacks (Some refusals.Version) o) None
  refused_by_bits true true o = refl
  refused_by_bits true false (Some refusal) = refl
  refused_by_bits true false None = plain_reply t c p
  refused_by_bits false lacks o = refl

  tree_by_bits : (due lacks : Bool) (o : Option Refusal) → cond due (cond lacks (Some refusals.Version) o) None ≡ None
      → Step.tree (step_by_bits due lacks o) ≡ cond due (next_tree t c) t
  tree_by_bits true true o none = cc
  tree_by_bits true false (Some refusal) none = cc
  tree_by_bits true false None none = refl
  tree_by_bits false lacks o none = refl

module _ (p : Parameters) (t : Tree) (g : Guarded) where
  pub same_refusal : refusal_in (guarded_step p t g).reply ≡ why_refused p t (conditional_of g)
  same_refusal =
      refused_by_bits p t g.change (guards.is_due t g) (lacks_version g.change p) (refusal_of t g.change)
      ∙ ap (λ b. cond b (refusal_under p t g.change) None) (same_due t g)

  pub same_tree : why_refused p t (conditional_of g) ≡ None
      → (guarded_step p t g).tree ≡ tree_behind t (conditional_of g)
  same_tree none =
      tree_by_bits p t g.change (guards.is_due t g) (lacks_version g.change p) (refusal_of t g.change)
      (ap (λ b. cond b (refusal_under p t g.change) None) (same_due t g) ∙ none)
      ∙ ap (λ b. cond b (next_tree t g.change) t) (same_due t g)

-- ---- a list of changes

some_parts : (one other : ℕ × Refusal) → Some one ≡ Some other → (one.0 ≡ other.0) × (one.1 ≡ other.1)
some_parts one other e =
    let same : one ≡ other = cc in
    (ap (λ (x : ℕ × Refusal). x.0) same, ap (λ (x : ℕ × Refusal). x.1) same)

module _ (p : Parameters) where
  -- where none is refused they lead to the tree after them
  pub leads_of : (changes : List Guarded) (t : Tree) → refused_roomy p t changes ≡ None
      → Leads p t (map conditional_of changes) (roomy_tree p t changes)
  unfolding Leads first_refused replies_by answers_by tree_by state_by
  leads_of [] t none = refl
  leads_of (g ∷ changes) t none =
      by (refusal_in (guarded_step p t g).reply) refl (refused_roomy p (guarded_step p t g).tree changes) refl none
      (leads_of changes (guarded_step p t g).tree)
    where
      by : (here : Option Refusal) → refusal_in (guarded_step p t g).reply ≡ here → (later : Option (ℕ × Refusal))
          → refused_roomy p (guarded_step p t g).tree changes ≡ later → or_later here later ≡ None
          → (refused_roomy p (guarded_step p t g).tree changes ≡ None
          → Leads p (guarded_step p t g).tree (map conditional_of changes)
          (roomy_tree p (guarded_step p t g).tree changes))
          → (why_refused p t (conditional_of g) ≡ None)
          × Leads p (tree_behind t (conditional_of g)) (map conditional_of changes)
          (roomy_tree p (guarded_step p t g).tree changes)
      by (Some refusal) here later behind is rest = cc
      by None here (Some found) behind is rest = cc
      by None here None behind is rest =
          let none = sym (same_refusal p t g) ∙ here in (
            none,
            subst (λ (u : Tree). Leads p u (map conditional_of changes)
                (roomy_tree p (guarded_step p t g).tree changes)) (same_tree p t g none) (rest behind),
          )

  -- where one is refused, those before it lead to a tree on which it is
  pub record StopsAt (t : Tree) (changes : List Guarded) (index : ℕ) (why : Refusal) : Type 0 where
    pub first : List Guarded
    pub at : Guarded
    pub rest : List Guarded
    pub changes_are : changes ≡ first ++ at ∷ rest
    pub count : length first ≡ index
    pub tree : Tree
    pub leads : Leads p t (map conditional_of first) tree
    pub refused : why_refused p tree (conditional_of at) ≡ Some why

  pub stops_of : (changes : List Guarded) (t : Tree) (index : ℕ) (why : Refusal)
      → refused_roomy p t changes ≡ Some (index, why) → StopsAt t changes index why
  unfolding Leads first_refused replies_by answers_by
  stops_of [] t index why is = cc
  stops_of (g ∷ changes) t index why is =
      by (refusal_in (guarded_step p t g).reply) refl (refused_roomy p (guarded_step p t g).tree changes) refl is
      (stops_of changes (guarded_step p t g).tree)
    where
      by : (here : Option Refusal) → refusal_in (guarded_step p t g).reply ≡ here → (later : Option (ℕ × Refusal))
          → refused_roomy p (guarded_step p t g).tree changes ≡ later → or_later here later ≡ Some (index, why)
          → ((i : ℕ) (w : Refusal) → refused_roomy p (guarded_step p t g).tree changes ≡ Some (i, w)
          → StopsAt (guarded_step p t g).tree changes i w) → StopsAt t (g ∷ changes) index why
      by (Some refusal) here later behind found rest =
          let parts = some_parts (0, refusal) (index, why) found in record {
            first = [];
            at = g;
            rest = changes;
            changes_are = refl;
            count = parts.0;
            tree = t;
            leads = refl;
            refused = sym (same_refusal p t g) ∙ here ∙ ap Some parts.1;
          }
      by None here None behind found rest = cc
      by None here (Some other) behind found rest =
          let parts = some_parts (suc other.0, other.1) (index, why) found in
          let stops = rest other.0 other.1 behind in
          let none = sym (same_refusal p t g) ∙ here in
          record {
            first = g ∷ stops.first;
            at = stops.at;
            rest = stops.rest;
            changes_are = ap (λ gs. g ∷ gs) stops.changes_are;
            count = ap suc stops.count ∙ parts.0;
            tree = stops.tree;
            leads = (
              none,
              subst (λ (u : Tree). Leads p u (map conditional_of stops.first) stops.tree)
                  (same_tree p t g none) stops.leads,
            );
            refused = stops.refused ∙ ap Some parts.1;
          }
