-- Groups of changes: the first that is refused, and the tree after them.
use Rattle.std.proofs.Common.{◌≡◌, ℕ, ◌+◌, suc, List, [], ◌∷◌, ◌++◌, length, Option, None, Some, refl, ap, ◌∙◌}
use Rattle.std.proofs.Common.{arith}
use Rattle.std.specs.Option.{option_map}
use Rattle.store_model.specs.declared.refusal.Refusal.{Refusal}
use Rattle.store_model.specs.Parameters.{Parameters}
use Rattle.store_model.specs.Trees.{Tree}
use Rattle.store_model.specs.Commands.{Command, Reply}
use Rattle.store_model.specs.Commands.Reply.{Acknowledged, Refused}
use Rattle.store_model.specs.Steps.{Step, step}
use Rattle.store_model.specs.Scripts.{answers_by, state_by, replies_by, tree_by}
use Rattle.store_model.proofs.ScriptsLemmas.{replies_by-append, tree_by-append}
use Rattle.staged_tree.specs.Groups.{step_under, refusal_in, or_later, first_refused, refused_by, refused_in}
use Rattle.staged_tree.specs.Groups.{tree_unless, group_tree}

-- the first that is refused, behind so many others
abbrev pub behind : ℕ → Option (ℕ × Refusal) → Option (ℕ × Refusal)
behind count refused = option_map (λ (found : ℕ × Refusal). (count + found.0, found.1)) refused

behind_one_more : (count : ℕ) (refused : Option (ℕ × Refusal))
    → behind count (option_map (λ (found : ℕ × Refusal). (suc found.0, found.1)) refused) ≡ behind (count + 1) refused
behind_one_more count None = refl
behind_one_more count (Some found) =
    let sum : count + suc found.0 ≡ count + 1 + found.0 = omega arith in
    ap (λ (n : ℕ). Some (n, found.1)) sum

-- with no other before it, it stands where it did
pub behind_none : (refused : Option (ℕ × Refusal)) → refused ≡ behind 0 refused
behind_none None = refl
behind_none (Some found) =
    let sum : found.0 ≡ 0 + found.0 = omega arith in
    ap (λ (n : ℕ). Some (n, found.1)) sum

-- ---- changes, and one more

-- the first is none, and none comes later
none_parts : (first : Option Refusal) (later : Option (ℕ × Refusal)) → or_later first later ≡ None
    → (first ≡ None) × (later ≡ None)
none_parts (Some refusal) later e = cc
none_parts None None e = (refl, refl)
none_parts None (Some found) e = cc

behind_more : (count : ℕ) (refused : Option (ℕ × Refusal))
    → option_map (λ (found : ℕ × Refusal). (suc found.0, found.1)) (behind count refused) ≡ behind (suc count) refused
behind_more count None = refl
behind_more count (Some found) =
    let sum : suc (count + found.0) ≡ suc count + found.0 = omega arith in
    ap (λ (n : ℕ). Some (n, found.1)) sum

-- behind replies of which none is a refusal, the first is the first of the others
first_behind : (replies others : List Reply) → first_refused replies ≡ None
    → first_refused (replies ++ others) ≡ behind (length replies) (first_refused others)
unfolding first_refused
first_behind [] others e = behind_none (first_refused others)
first_behind (reply ∷ replies) others e =
    let parts = none_parts (refusal_in reply) (first_refused replies) e in
    ap (λ (first : Option Refusal). or_later first (first_refused (replies ++ others))) parts.0
    ∙ ap (option_map (λ (found : ℕ × Refusal). (suc found.0, found.1))) (first_behind replies others parts.1)
    ∙ behind_more (length replies) (first_refused others)

length-replies_by : {Q : Type 0} (stepped : Tree → Q → Step) (t : Tree) (changes : List Q)
    → length (replies_by stepped t changes) ≡ length changes
unfolding replies_by answers_by
length-replies_by stepped t [] = refl
length-replies_by stepped t (c ∷ changes) = ap suc (length-replies_by stepped (stepped t c).tree changes)

module _ {Q : Type 0} (stepped : Tree → Q → Step) (t : Tree) (changes : List Q) (c : Q) where
  -- the tree after one more
  pub tree_more : tree_by stepped t (changes ++ c ∷ []) ≡ (stepped (tree_by stepped t changes) c).tree
  unfolding tree_by state_by
  tree_more = tree_by-append stepped t changes (c ∷ [])

  module _ (none : refused_by stepped t changes ≡ None) where
    last : refused_by stepped t (changes ++ c ∷ [])
        ≡ behind (length changes) (first_refused ((stepped (tree_by stepped t changes) c).reply ∷ []))
    unfolding replies_by answers_by
    last = ap first_refused (replies_by-append stepped t changes (c ∷ []))
        ∙ first_behind (replies_by stepped t changes) ((stepped (tree_by stepped t changes) c).reply ∷ []) none
        ∙ ap (λ (n : ℕ). behind n (first_refused ((stepped (tree_by stepped t changes) c).reply ∷ [])))
        (length-replies_by stepped t changes)

    -- none is refused where that is carried out too
    pub none_more : (stepped (tree_by stepped t changes) c).reply ≡ Acknowledged
        → refused_by stepped t (changes ++ c ∷ []) ≡ None
    unfolding first_refused
    none_more is = last ∙ ap (λ (r : Reply). behind (length changes) (first_refused (r ∷ []))) is

    -- and it is the first where it is not
    pub refused_last : (refusal : Refusal) → (stepped (tree_by stepped t changes) c).reply ≡ Refused refusal
        → refused_by stepped t (changes ++ c ∷ []) ≡ Some (length changes, refusal)
    unfolding first_refused
    refused_last refusal is =
        let sum : length changes + 0 ≡ length changes = omega arith in
        last ∙ ap (λ (r : Reply). behind (length changes) (first_refused (r ∷ []))) is
        ∙ ap (λ (n : ℕ). Some (n, refusal)) sum

-- ---- a change, and others

module _ (p : Parameters) (t : Tree) (c : Command) (rest : List Command) where
  -- where the first change is carried out, another is the first that is refused
  pub refused_later : (count : ℕ) → (step t c p).reply ≡ Acknowledged
      → behind count (refused_in p t (c ∷ rest)) ≡ behind (count + 1) (refused_in p (step t c p).tree rest)
  unfolding first_refused replies_by answers_by
  refused_later count is =
      ap (λ (r : Reply). behind count (first_refused (r ∷ replies_by (step_under p) (step t c p).tree rest))) is
      ∙ behind_one_more count (refused_in p (step t c p).tree rest)

  -- where it is refused, it is the first
  pub refused_first : (count : ℕ) (refusal : Refusal) → (step t c p).reply ≡ Refused refusal
      → behind count (refused_in p t (c ∷ rest)) ≡ Some (count, refusal)
  unfolding first_refused replies_by answers_by
  refused_first count refusal is =
      let sum : count + 0 ≡ count = omega arith in
      ap (λ (r : Reply). behind count (first_refused (r ∷ replies_by (step_under p) (step t c p).tree rest))) is
      ∙ ap (λ (n : ℕ). Some (n, refusal)) sum

  -- the tree after the rest is the one after all
  pub tree_later : tree_by (step_under p) t (c ∷ rest) ≡ tree_by (step_under p) (step t c p).tree rest
  unfolding tree_by state_by
  tree_later = refl

-- of no change none is refused, and the tree stays
pub none_refused : (p : Parameters) (t : Tree) → refused_in p t [] ≡ None
unfolding first_refused replies_by answers_by
none_refused p t = refl

pub tree_stays : (p : Parameters) (t : Tree) → tree_by (step_under p) t [] ≡ t
unfolding tree_by state_by
tree_stays p t = refl

-- the tree after a group of which none is refused, and after one of which one is
module _ (p : Parameters) (t : Tree) (group : List Command) where
  pub group_done : refused_in p t group ≡ None → group_tree p t group ≡ tree_by (step_under p) t group
  group_done is = ap (λ (refused : Option (ℕ × Refusal)). tree_unless refused (tree_by (step_under p) t group) t) is

  pub group_refused : (found : ℕ × Refusal) → refused_in p t group ≡ Some found → group_tree p t group ≡ t
  group_refused found is =
      ap (λ (refused : Option (ℕ × Refusal)). tree_unless refused (tree_by (step_under p) t group) t) is
