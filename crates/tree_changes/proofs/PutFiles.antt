-- The steps that begin a file, and those that set attributes.
use Rattle.std.proofs.Common.{◌≡◌, ℕ, List, [], ◌∷◌, ◌++◌, Bool, true, false}
use Rattle.std.proofs.Common.{cond, Option, Some, None, is_some, refl, sym, ap, ap₂, subst, ◌∙◌}
use Rattle.std.specs.FinMap.{find}
use Rattle.std.proofs.lemmas.Bool.{both_ways}
use Rattle.std.proofs.lemmas.Bool.{true_from_ne_false}
use Rattle.store_model.specs.declared.refusal.Refusal.{Refusal}
use Rattle.store_model.specs.declared.refusal.Refusal.TheVariants as refusals
use Rattle.store_model.specs.Parameters.{Parameters}
use Rattle.store_model.specs.Paths.{Path, path_cmp}
use Rattle.store_model.specs.Trees.{Tree, Node, node_at, exists}
use Rattle.store_model.specs.Trees.{is_directory_node, is_file_node, without}
use Rattle.store_model.specs.Commands.{IsCommand}
use Rattle.store_model.specs.Commands.Command.{Make, Write, Remove}
use Rattle.store_model.specs.Steps.{next_tree, is_on_attributes, refusal_of}
use Rattle.tree_changes.specs.Conditional.{Conditional, refusal_under, why_refused, tree_behind, Leads, Stops}
use Rattle.tree_changes.specs.Conditional.{always_done}
use Rattle.tree_changes.specs.Puts.{IsUnput, IsPut, making_room}
use Rattle.tree_changes.proofs.ParentLemmas.{one_of_both}
use Rattle.tree_changes.proofs.PutSteps.{into_nothing, into_directory, directory_clashes, file_clashes, file_goes}
use Rattle.tree_changes.proofs.PutSteps.{file_stays, after_it_goes, node_first, not_written}

-- no change leads nowhere
pub nowhere : (p : Parameters) (w v : Tree) → Leads p w [] v → w ≡ v
unfolding Leads
nowhere p w v chain = chain

-- what is not refused is not refused for a reason
pub apart : (o : Option Refusal) (reason : Refusal) → o ≡ None → o ≡ Some reason → ⊥
apart None reason none some = cc
apart (Some other) reason none some = cc

-- where no file stands, nothing has to make room
room_passed : (replaces : Bool) (w : Tree) (q : Path) → is_file_node (node_at w q) ≡ false
    → tree_behind w (making_room replaces q) ≡ w
room_passed true w q no_file = ap (λ b. cond b (next_tree w (Remove q)) w) no_file
room_passed false w q no_file = ap (λ b. cond b (next_tree w (Make q)) w) no_file

room_allowed : (replaces : Bool) (p : Parameters) (w : Tree) (q : Path) → is_file_node (node_at w q) ≡ false
    → why_refused p w (making_room replaces q) ≡ None
room_allowed true p w q no_file = ap (λ b. cond b (refusal_under p w (Remove q)) None) no_file
room_allowed false p w q no_file = ap (λ b. cond b (refusal_under p w (Make q)) None) no_file

-- ---- the first write of a file

module _ (replaces : Bool) (to : Path) (listed : List Path) (p : Parameters) (t u w : Tree)
    (so_far : IsPut replaces to listed u t w) (y : Path) (bytes : List ℕ)
    (allowed : refusal_of u (Write y 0 bytes) ≡ None) (first : find path_cmp y u ≡ None) where
  abbrev q : Path
  q = to ++ y

  abbrev longer : Tree
  longer = next_tree u (Write y 0 bytes)

  abbrev file_steps : List Conditional
  file_steps = making_room replaces q ∷ always_done (Write q 0 bytes) ∷ []

  -- on a tree in which no file stands there
  written_on : (c : Bool) → exists w q ≡ c → is_file_node (node_at w q) ≡ false → IsCommand (Write q 0 bytes)
      → (next : Tree) → refusal_of w (Write q 0 bytes) ≡ None → next_tree w (Write q 0 bytes) ≡ next
      → IsPut replaces to listed longer t next
  written_on true there no_file command next none same =
      absurd (apart (refusal_of w (Write q 0 bytes)) refusals.Kind none
      (into_directory replaces to listed p t u w so_far y 0 bytes allowed first (by (node_at w q) there no_file)))
    where
      by : (o : Option Node) → is_some o ≡ true → is_file_node o ≡ false → is_directory_node o ≡ true
      by o there other = true_from_ne_false _ (λ no_directory. both_ways _ other (one_of_both o there no_directory))
  written_on false there no_file command next none same =
      subst (λ v. IsPut replaces to listed longer t v) same
      (into_nothing replaces to listed p t u w so_far y 0 bytes allowed first there command).1

  file_leads : (f : Bool) → is_file_node (node_at w q) ≡ f → IsCommand (Write q 0 bytes) → (next : Tree)
      → Leads p w file_steps next → IsPut replaces to listed longer t next
  unfolding Leads next_tree is_on_attributes
  file_leads false no_file command next chain =
      let rest = subst (λ v. Leads p v (always_done (Write q 0 bytes) ∷ []) next) (room_passed replaces w q no_file)
      chain.1 in
      written_on (exists w q) refl no_file command next rest.0 rest.1
  file_leads true file command next chain = by replaces refl chain
    where
      by : (r : Bool) → replaces ≡ r → Leads p w (making_room r q ∷ always_done (Write q 0 bytes) ∷ []) next
          → IsPut replaces to listed longer t next
      by true may chain =
          let behind : cond (is_file_node (node_at w q)) (without w q) w ≡ without w q =
          ap (λ b. cond b (without w q) w) file in
          let rest = subst (λ v. Leads p v (always_done (Write q 0 bytes) ∷ []) next) behind chain.1 in
          subst (λ v. IsPut replaces to listed longer t v) rest.1
          (after_it_goes replaces to listed p t u w so_far y 0 bytes allowed first file may command).1
      by false may chain =
          absurd (apart (cond (is_file_node (node_at w q)) (refusal_of w (Make q)) None) refusals.Exists chain.0
          (ap (λ b. cond b (refusal_of w (Make q)) None) file
          ∙ file_stays replaces to listed p t u w so_far y 0 bytes allowed first file))

  -- the first step stops where files are not replaced
  begin_stops : (f : Bool) → is_file_node (node_at w q) ≡ f → (reason : Refusal)
      → why_refused p w (making_room replaces q) ≡ Some reason → IsUnput replaces p to listed longer t q reason
  unfolding is_on_attributes
  begin_stops false no_file reason refused =
      absurd (apart (why_refused p w (making_room replaces q)) reason (room_allowed replaces p w q no_file) refused)
  begin_stops true file reason refused = by replaces refl refused
    where
      by : (r : Bool) → replaces ≡ r → why_refused p w (making_room r q) ≡ Some reason
          → IsUnput replaces p to listed longer t q reason
      by true may refused =
          absurd (apart (cond (is_file_node (node_at w q)) (refusal_of w (Remove q)) None) reason
          (ap (λ b. cond b (refusal_of w (Remove q)) None) file
          ∙ file_goes replaces to listed p t u w so_far y 0 bytes allowed first file) refused)
      by false may refused =
          let stays : cond (is_file_node (node_at w q)) (refusal_of w (Make q)) None ≡ Some refusals.Exists =
          ap (λ b. cond b (refusal_of w (Make q)) None) file
          ∙ file_stays replaces to listed p t u w so_far y 0 bytes allowed first file in
          not_written replaces to listed p t u w so_far y 0 bytes allowed reason
          (file_clashes replaces to listed p t u w so_far y 0 bytes allowed first (find path_cmp q t)
          (ap is_file_node (sym (node_first replaces to listed p t u w so_far y 0 bytes allowed first)) ∙ file)
          ∙ ap (λ b. cond b None (Some refusals.Exists)) may ∙ sym stays ∙ refused)

  -- the second where a directory stands
  write_stops_on : (c : Bool) → exists w q ≡ c → is_file_node (node_at w q) ≡ false → IsCommand (Write q 0 bytes)
      → (reason : Refusal) → refusal_of w (Write q 0 bytes) ≡ Some reason
      → IsUnput replaces p to listed longer t q reason
  write_stops_on true there no_file command reason refused =
      let is = by (node_at w q) there no_file in
      not_written replaces to listed p t u w so_far y 0 bytes allowed reason
      (directory_clashes replaces to listed p t u w so_far y 0 bytes allowed first (find path_cmp q t)
      (ap is_directory_node (sym (node_first replaces to listed p t u w so_far y 0 bytes allowed first)) ∙ is)
      ∙ sym (into_directory replaces to listed p t u w so_far y 0 bytes allowed first is) ∙ refused)
    where
      by : (o : Option Node) → is_some o ≡ true → is_file_node o ≡ false → is_directory_node o ≡ true
      by o there other = true_from_ne_false _ (λ no_directory. both_ways _ other (one_of_both o there no_directory))
  write_stops_on false there no_file command reason refused =
      absurd (apart (refusal_of w (Write q 0 bytes)) reason
      (into_nothing replaces to listed p t u w so_far y 0 bytes allowed first there command).0 refused)

  write_stops : (f : Bool) → is_file_node (node_at w q) ≡ f → IsCommand (Write q 0 bytes) → (v : Tree)
      → Leads p w (making_room replaces q ∷ []) v → (reason : Refusal)
      → why_refused p v (always_done (Write q 0 bytes)) ≡ Some reason
      → IsUnput replaces p to listed longer t q reason
  unfolding Leads next_tree is_on_attributes
  write_stops false no_file command v chain reason refused =
      let behind : w ≡ v = sym (room_passed replaces w q no_file) ∙ chain.1 in
      write_stops_on (exists w q) refl no_file command reason
      (ap (λ x. refusal_of x (Write q 0 bytes)) behind ∙ refused)
  write_stops true file command v chain reason refused = by replaces refl chain
    where
      by : (r : Bool) → replaces ≡ r → Leads p w (making_room r q ∷ []) v
          → IsUnput replaces p to listed longer t q reason
      by true may chain =
          let behind : without w q ≡ v = sym (ap (λ b. cond b (without w q) w) file) ∙ chain.1 in
          absurd (apart (refusal_of (without w q) (Write q 0 bytes)) reason
          (after_it_goes replaces to listed p t u w so_far y 0 bytes allowed first file may command).0
          (ap (λ x. refusal_of x (Write q 0 bytes)) behind ∙ refused))
      by false may chain =
          absurd (apart (cond (is_file_node (node_at w q)) (refusal_of w (Make q)) None) refusals.Exists chain.0
          (ap (λ b. cond b (refusal_of w (Make q)) None) file
          ∙ file_stays replaces to listed p t u w so_far y 0 bytes allowed first file))

  pub first_leads : IsCommand (Write q 0 bytes) → (next : Tree) → Leads p w file_steps next
      → IsPut replaces to listed longer t next
  first_leads command next chain = file_leads (is_file_node (node_at w q)) refl command next chain

  pub first_stops : IsCommand (Write q 0 bytes) → (g : Conditional) (reason : Refusal) → Stops p w file_steps g reason
      → IsUnput replaces p to listed longer t q reason
  first_stops command g reason stops =
      by stops.first stops.rest stops.changes_are stops.tree stops.leads stops.refused
    where
      by : (before rest : List Conditional) → file_steps ≡ before ++ g ∷ rest → (v : Tree) → Leads p w before v
          → why_refused p v g ≡ Some reason → IsUnput replaces p to listed longer t q reason
      by [] rest e v chain refused =
          let this : making_room replaces q ≡ g = cc in
          let same : w ≡ v = nowhere p w v chain in
          begin_stops (is_file_node (node_at w q)) refl reason (ap₂ (why_refused p) same this ∙ refused)
      by (c ∷ []) rest e v chain refused =
          let first_is : making_room replaces q ≡ c = cc in
          let this : always_done (Write q 0 bytes) ≡ g = cc in
          write_stops (is_file_node (node_at w q)) refl command v
          (subst (λ d. Leads p w (d ∷ []) v) (sym first_is) chain) reason
          (ap (why_refused p v) this ∙ refused)
      by (c ∷ d ∷ []) rest e v chain refused = cc
      by (c ∷ d ∷ f ∷ before) rest e v chain refused = cc
