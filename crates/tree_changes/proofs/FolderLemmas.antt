-- The steps of making directories lead to the tree with them, or stop at one that is not to be made.
use Rattle.std.proofs.Common.{◌≡◌, List, [], ◌∷◌, ◌++◌, Bool, true, false, not, ◌||◌, cond}
use Rattle.std.proofs.Common.{Option, Some, None, is_some, IsTrue, refl, sym, ap, ap₂, subst, ◌∙◌, append_assoc}
use Rattle.std.specs.Option.{option_or}
use Rattle.std.specs.List.{AllByRecursion}
use Rattle.std.specs.FinMap.{find}
use Rattle.std.proofs.lemmas.List.{append-nil}
use Rattle.std.proofs.lemmas.List.Folds.{list_any-append}
use Rattle.store_model.specs.declared.refusal.Refusal.{Refusal}
use Rattle.store_model.specs.declared.refusal.Refusal.TheVariants as refusals
use Rattle.store_model.specs.Parameters.{Parameters}
use Rattle.store_model.specs.Paths.{Path, is_root, is_path, path_cmp, same_path, parent}
use Rattle.store_model.specs.Trees.{Tree, Entry, IsTree, node_of, attributes_of, attributes_at, exists}
use Rattle.store_model.specs.Trees.{is_directory, is_directory_node}
use Rattle.store_model.specs.Trees.Node.{Directory}
use Rattle.store_model.specs.Commands.Command.{Make}
use Rattle.store_model.specs.Steps.{conditions, first_refusal, next_tree, is_on_attributes, refusal_of}
use Rattle.store_model.proofs.ListsLemmas.{all_back}
use Rattle.store_model.proofs.TreesLemmasPaths.{same_from_test}
use Rattle.store_model.proofs.TreesLemmas.{exists-find, IsTree-make}
use Rattle.store_model.proofs.TreesLemmasAttributes.{find-with_node}
use Rattle.tree_changes.specs.Conditional.{Conditional, why_refused, tree_behind, Leads, Stops}
use Rattle.tree_changes.specs.Conditional.{always_done}
use Rattle.tree_changes.specs.Meant.{Standing, HasJust, bare_directory}
use Rattle.tree_changes.specs.Folders.{with_directories, is_among, made_at, has_directory, making_conditions}
use Rattle.tree_changes.specs.Folders.{making_refusal, AreMakable, AreMade, making_steps, RefusesMaking}
use Rattle.tree_changes.proofs.Folds.{leads_to_all, stops_at}
use Rattle.tree_changes.proofs.Standings.{has_itself, told_alike}

-- ---- one directory more

-- the conditions of a command that is carried out
pub record MakesAt (w : Tree) (q : Path) : Type 0 where
  pub below_root : is_root q ≡ false
  pub parent_directory : is_directory w (parent q) ≡ true
  pub none : exists w q ≡ false

pub makes_at : (w : Tree) (q : Path) → refusal_of w (Make q) ≡ None → MakesAt w q
unfolding conditions first_refusal
makes_at w q none = by (is_root q) (is_directory w (parent q)) (exists w q) refl refl refl none
  where
    by : (a b c : Bool) → is_root q ≡ a → is_directory w (parent q) ≡ b → exists w q ≡ c
        → cond a (Some refusals.Root) (cond (not b) (Some refusals.Parent) (cond c (Some refusals.Exists) None)) ≡ None
        → MakesAt w q
    by true b c r up there e = cc
    by false false c r up there e = cc
    by false true true r up there e = cc
    by false true false r up there e = record { below_root = r; parent_directory = up; none = there }

-- nothing is found there
found_none : (w : Tree) (q : Path) → is_root q ≡ false → exists w q ≡ false → find path_cmp q w ≡ None
found_none w q below none = by (find path_cmp q w) (sym (exists-find w q below) ∙ none)
  where
    by : (o : Option Entry) → is_some o ≡ false → o ≡ None
    by None e = refl
    by (Some n) e = cc

-- behind others, one directory more
pub one_more : (done : List Path) (t w : Tree) (q : Path) → IsTrue (is_path q)
    → HasJust (with_directories (is_among done) t) w
    → MakesAt w q → HasJust (with_directories (is_among (done ++ q ∷ [])) t) (next_tree w (Make q))
unfolding next_tree
one_more done t w q path has makes = record {
  is_tree = IsTree-make w q has.is_tree path makes.below_root makes.parent_directory makes.none;
  each = λ x. find-with_node w q x Directory ∙ by x (same_path x q) refl;
}
  where
    nothing : find path_cmp q w ≡ None
    nothing = found_none w q makes.below_root makes.none

    -- of two the first, and of the second what is made there
    made_there : (o : Option Entry) (b : Bool) → option_or o (cond b (Some bare_directory) None) ≡ None
        → Some bare_directory ≡ option_or o (cond (b || (true || false)) (Some bare_directory) None)
    made_there None true e = cc
    made_there None false e = refl
    made_there (Some n) b e = cc

    or_none : (b : Bool) → (b || (false || false)) ≡ b
    or_none true = refl
    or_none false = refl

    by : (x : Path) (b : Bool) → same_path x q ≡ b
        → cond b (Some (record { node = Directory; attributes = attributes_at w q })) (find path_cmp x w)
        ≡ with_directories (is_among (done ++ q ∷ [])) t x
    by x true s =
        ap (λ (o : Option Entry). Some (record { node = Directory; attributes = attributes_of o })) nothing
        ∙ made_there (find path_cmp x t) (is_among done x)
        (sym (has.each x) ∙ ap (λ y. find path_cmp y w) (same_from_test x q s) ∙ nothing)
        ∙ ap (λ b. option_or (find path_cmp x t) (cond b (Some bare_directory) None))
        (sym (list_any-append (same_path x) done (q ∷ []) ∙ ap (λ b. is_among done x || (b || false)) s))
    by x false s =
        has.each x
        ∙ ap (λ b. option_or (find path_cmp x t) (cond b (Some bare_directory) None))
        (sym (list_any-append (same_path x) done (q ∷ []) ∙ ap (λ b. is_among done x || (b || false)) s
        ∙ or_none (is_among done x)))

-- nothing was made yet
pub none_made : (t : Tree) → IsTree t → HasJust (with_directories (is_among []) t) t
none_made t tree = told_alike (λ x. find path_cmp x t) _ t (λ x. by (find path_cmp x t)) (has_itself t tree)
  where
    by : (o : Option Entry) → o ≡ option_or o None
    by None = refl
    by (Some n) = refl

-- ---- each in its turn

-- a directory stands there, by what is told
pub directory_told : (standing : Standing) (w : Tree) (x : Path) → HasJust standing w
    → is_directory w x ≡ has_directory standing x
directory_told standing w [] has = refl
directory_told standing w (n ∷ x) has = ap (λ o. is_directory_node (node_of o)) (has.each (n ∷ x))

reason_told : (standing : Standing) (w : Tree) (q : Path) → HasJust standing w
    → refusal_of w (Make q) ≡ first_refusal (making_conditions standing q)
unfolding conditions first_refusal
reason_told standing w [] has = refl
reason_told standing w (n ∷ q) has =
    ap₂ (λ (a b : Bool). cond (not a) (Some refusals.Parent) (cond b (Some refusals.Exists) None))
    (directory_told standing w (parent (n ∷ q)) has)
    (exists-find w (n ∷ q) refl ∙ ap is_some (has.each (n ∷ q)))

-- one more that may be made
makable_more : (t : Tree) (made paths : List Path) (q : Path) → AreMakable t made paths
    → making_refusal (made ++ paths) t q ≡ None → AreMakable t made (paths ++ q ∷ [])
unfolding AreMakable
makable_more t made [] q are none = (ap (λ xs. making_refusal xs t q) (sym (append-nil made)) ∙ none, tt)
makable_more t made (r ∷ paths) q are none = (
  are.0,
  makable_more t (made ++ r ∷ []) paths q are.1
      (ap (λ xs. making_refusal xs t q) (append_assoc made (r ∷ []) paths) ∙ none),
)

module _ (paths : List Path) (p : Parameters) (t : Tree) (tree : IsTree t)
    (valid : AllByRecursion (λ q. IsTrue (is_path q)) paths) where
  abbrev Made : List Path → Tree → Type 0
  Made done w = AreMade done t w

  none_yet : Made [] t
  unfolding AreMakable
  none_yet = record { allowed = tt; standing = none_made t tree }

  reason : (done : List Path) (q : Path) (w : Tree) → Made done w
      → why_refused p w (always_done (Make q)) ≡ making_refusal done t q
  unfolding is_on_attributes
  reason done q w made = reason_told (made_at done t) w q made.standing

  goes_on : (done rest : List Path) (q : Path) (w : Tree) → paths ≡ done ++ q ∷ rest → Made done w
      → why_refused p w (always_done (Make q)) ≡ None → Made (done ++ q ∷ []) (tree_behind w (always_done (Make q)))
  unfolding is_on_attributes
  goes_on done rest q w e made none = record {
    allowed = makable_more t [] done q made.allowed (sym (reason done q w made) ∙ none);
    standing = one_more done t w q
        (all_back _ done (q ∷ rest) (subst (λ xs. AllByRecursion (λ q. IsTrue (is_path q)) xs) e valid)).0
        made.standing (makes_at w q none);
  }

  pub making_leads : (u : Tree) → Leads p t (making_steps paths) u → AreMade paths t u
  making_leads u chain = leads_to_all p (λ q. always_done (Make q)) Made paths goes_on t u none_yet chain

  pub making_stops : (g : Conditional) (why : Refusal) → Stops p t (making_steps paths) g why
      → RefusesMaking paths t g why
  making_stops g why stops =
      let at = stops_at p (λ q. always_done (Make q)) Made paths goes_on t g why none_yet stops in (
        at.element,
        at.step_is,
        record {
          before = at.done;
          rest = at.rest;
          paths_are = at.all_are;
          allowed = at.holds.allowed;
          reason = sym (reason at.done at.element at.tree at.holds) ∙ at.refused;
        },
      )
