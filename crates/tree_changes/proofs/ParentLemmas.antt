-- The same with all directories that lead to the paths.
use Rattle.std.proofs.Common.{◌≡◌, ◌⊎◌, inl, inr, ◌+◌, ◌<◌, List, [], ◌∷◌, ◌++◌, length, take, Bool, true, false}
use Rattle.std.proofs.Common.{not, ◌&&◌, ◌||◌, cond, Option, Some, None, is_some, IsTrue, refl, sym, ap, ap₂, subst}
use Rattle.std.proofs.Common.{◌∙◌}
use Rattle.std.proofs.Common.{append_assoc, arith, length-append, ⊎_elim}
use Rattle.std.specs.Option.{option_or}
use Rattle.std.specs.Cmp as cmp
use Rattle.std.specs.List.{list_all, AllByRecursion}
use Rattle.std.specs.FinMap.{find}
use Rattle.std.proofs.lemmas.Bool.{both_ways, cases_lt, or_cases, or_left, or_right, and_from}
use Rattle.std.proofs.lemmas.Bool.{and_parts, false_from_ne_true, leb-true, le-leb}
use Rattle.std.proofs.lemmas.List.{append-nil, take_at}
use Rattle.std.proofs.lemmas.List.Folds.{list_any-append, list_all-append}
use Rattle.store_model.specs.declared.refusal.Refusal.{Refusal}
use Rattle.store_model.specs.declared.refusal.Refusal.TheVariants as refusals
use Rattle.store_model.specs.Parameters.{Parameters}
use Rattle.store_model.specs.Paths.{Path, is_root, is_name, is_path, path_cmp, same_path, parent, is_at_or_inside}
use Rattle.store_model.specs.Paths.{Name, fits_field, field_limit, name_bytes}
use Rattle.std.proofs.lemmas.List.Concat.{flat_map-append}
use Rattle.store_model.specs.Trees.{Tree, Entry, Node, IsTree, node_of, node_at, exists, is_directory}
use Rattle.store_model.specs.Trees.{is_directory_node}
use Rattle.store_model.specs.Trees.{is_file, is_file_node}
use Rattle.store_model.specs.Trees.Node.{Directory, File}
use Rattle.store_model.specs.Commands.Command.{Make}
use Rattle.store_model.specs.Steps.{conditions, first_refusal, next_tree, is_on_attributes, refusal_of}
use Rattle.store_model.proofs.ListsLemmas.{all_back, all_append}
use Rattle.store_model.proofs.TreesLemmasPaths.{same_from_test, same_path-from_equal, at_or_inside-append}
use Rattle.store_model.proofs.TreesLemmasPaths.{at_or_inside-split, parent-push, not_root-push}
use Rattle.store_model.proofs.TreesLemmas.{node_at-find}
use Rattle.tree_changes.specs.Conditional.{Conditional, why_refused, tree_behind, Leads, Stops}
use Rattle.tree_changes.specs.Conditional.{done_at_no_directory}
use Rattle.tree_changes.specs.Meant.{HasJust, bare_directory}
use Rattle.tree_changes.specs.Folders.{with_directories, is_among, leads_to, AreMadeWithParents}
use Rattle.tree_changes.specs.Folders.{way_from, way_to, ways_to, making_parents_steps, RefusesParents}
use Rattle.tree_changes.proofs.Folds.{leads_to_all, stops_at}
use Rattle.tree_changes.proofs.Standings.{told_alike}
use Rattle.tree_changes.proofs.FolderLemmas.{one_more, none_made}

-- ---- which paths lead to one

-- what is on the way from a path to what lies below it is not the root, and leads there
on_the_way : (front names x : Path) → is_among (way_from front names) x ≡ true
    → (is_root x ≡ false) × (is_at_or_inside (front ++ names) x ≡ true)
unfolding way_from
on_the_way front [] x among = cc
on_the_way front (n ∷ names) x among =
    ⊎_elim
    (λ s. let is : x ≡ front ++ n ∷ [] = same_from_test x (front ++ n ∷ []) s in (
      ap is_root is ∙ not_root-push front n,
      ap₂ is_at_or_inside (sym (append_assoc front (n ∷ []) names)) is
          ∙ at_or_inside-append (front ++ n ∷ []) names,
    ))
    (λ later. let rest = on_the_way (front ++ n ∷ []) names x later in (
      rest.0,
      ap (λ y. is_at_or_inside y x) (sym (append_assoc front (n ∷ []) names)) ∙ rest.1,
    ))
    (or_cases (same_path x (front ++ n ∷ [])) _ among)

-- and all that lead there from below the first are
is_on_the_way : (front names x s : Path) → x ++ s ≡ front ++ names → length front < length x
    → is_among (way_from front names) x ≡ true
unfolding way_from
is_on_the_way front [] x s e long =
    absurd (omega (arith, length-append x s, length-append front [], ap length e))
is_on_the_way front (n ∷ names) x s e long =
    let longer : length (front ++ n ∷ []) ≡ length front + 1 = omega (arith, length-append front (n ∷ [])) in
    let there : x ++ s ≡ (front ++ n ∷ []) ++ names = e ∙ sym (append_assoc front (n ∷ []) names) in
    ⊎_elim
    (λ further. or_right (same_path x (front ++ n ∷ [])) _ (is_on_the_way (front ++ n ∷ []) names x s there further))
    (λ here.
    let same : length x ≡ length (front ++ n ∷ []) = omega arith in
    or_left _ _ (same_path-from_equal x (front ++ n ∷ [])
    (sym (take_at x s (length x) refl) ∙ ap (take (length x)) there
    ∙ take_at (front ++ n ∷ []) names (length x) (sym same))))
    (cases_lt (length (front ++ n ∷ [])) (length x))

-- so the way to a path is what leads there, but for the root
way_is : (q x : Path) → is_among (way_to q) x ≡ (not (is_root x) && is_at_or_inside q x)
way_is q [] = false_from_ne_true _ (λ among. let not_root = (on_the_way [] q [] among).0 in cc)
way_is q (n ∷ x) = cmp.both_ways _ _
    (λ among. (on_the_way [] q (n ∷ x) among).1)
    (λ leads. is_on_the_way [] q (n ∷ x) _ (sym (at_or_inside-split q (n ∷ x) leads)) (omega arith))

pub ways_are : (paths : List Path) (x : Path) → is_among (ways_to paths) x ≡ leads_to paths x
ways_are [] x = by (not (is_root x))
  where
    by : (b : Bool) → false ≡ (b && false)
    by true = refl
    by false = refl
ways_are (q ∷ paths) x =
    list_any-append (same_path x) (way_to q) (ways_to paths)
    ∙ ap₂ (λ a b. a || b) (way_is q x) (ways_are paths x) ∙ by (not (is_root x)) (is_at_or_inside q x) _
  where
    by : (a b c : Bool) → ((a && b) || (a && c)) ≡ (a && (b || c))
    by true b c = refl
    by false b c = refl

-- ---- the parent of each comes before it

-- behind these paths each one's parent is the root or was among them before
ParentsFirst : List Path → List Path → Type 0
ParentsFirst before [] = Unit {0}
ParentsFirst before (x ∷ paths) = (is_root x ≡ false)
    × ((is_root (parent x) ≡ true) ⊎ (is_among before (parent x) ≡ true)) × ParentsFirst (before ++ x ∷ []) paths

among_last : (before : List Path) (x : Path) → is_among (before ++ x ∷ []) x ≡ true
among_last before x = list_any-append (same_path x) before (x ∷ [])
    ∙ or_right (is_among before x) _ (or_left (same_path x x) false (same_path-from_equal x x refl))

way_first : (before : List Path) (front names : Path)
    → (is_root front ≡ true) ⊎ (is_among before front ≡ true) → ParentsFirst before (way_from front names)
unfolding way_from ParentsFirst
way_first before front [] there = tt
way_first before front (n ∷ names) there = (
  not_root-push front n,
  subst (λ y. (is_root y ≡ true) ⊎ (is_among before y ≡ true)) (sym (parent-push front n)) there,
  way_first (before ++ (front ++ n ∷ []) ∷ []) (front ++ n ∷ []) names
      (inr (among_last before (front ++ n ∷ []))),
)

first_join : (before xs ys : List Path) → ParentsFirst before xs → ParentsFirst (before ++ xs) ys
    → ParentsFirst before (xs ++ ys)
unfolding ParentsFirst
first_join before [] ys left right = subst (λ zs. ParentsFirst zs ys) (append-nil before) right
first_join before (x ∷ xs) ys left right = (
  left.0,
  left.1,
  first_join (before ++ x ∷ []) xs ys left.2
      (subst (λ zs. ParentsFirst zs ys) (sym (append_assoc before (x ∷ []) xs)) right),
)

ways_first : (before paths : List Path) → ParentsFirst before (ways_to paths)
unfolding ParentsFirst
ways_first before [] = tt
ways_first before (q ∷ paths) = first_join before (way_to q) (ways_to paths) (way_first before [] q (inl refl))
    (ways_first (before ++ way_to q) paths)

-- at one of them
first_at : (before done rest : List Path) (x : Path) → ParentsFirst before (done ++ x ∷ rest)
    → (is_root x ≡ false) × ((is_root (parent x) ≡ true) ⊎ (is_among (before ++ done) (parent x) ≡ true))
unfolding ParentsFirst
first_at before [] rest x first = (
  first.0,
  subst (λ zs. (is_root (parent x) ≡ true) ⊎ (is_among zs (parent x) ≡ true)) (sym (append-nil before))
      first.1,
)
first_at before (y ∷ done) rest x first =
    let later = first_at (before ++ y ∷ []) done rest x first.2 in (
      later.0,
      subst (λ zs. (is_root (parent x) ≡ true) ⊎ (is_among zs (parent x) ≡ true))
          (append_assoc before (y ∷ []) done) later.1,
    )

-- ---- they are paths

short_front : (x s : Path) → fits_field (x ++ s) ≡ true → fits_field x ≡ true
unfolding name_bytes
short_front x s fits =
    let all = ap length (flat_map-append (λ (n : Name). n ++ 0 ∷ []) x s) in
    let sizes = length-append (name_bytes x) (name_bytes s) in
    let small = leb-true (length (name_bytes (x ++ s))) field_limit fits in
    le-leb (length (name_bytes x)) field_limit (omega arith)

way_valid : (front names : Path) → IsTrue (is_path (front ++ names))
    → AllByRecursion (λ q. IsTrue (is_path q)) (way_from front names)
unfolding way_from
way_valid front [] valid = tt
way_valid front (n ∷ names) valid =
    let there = subst (λ y. IsTrue (is_path y)) (sym (append_assoc front (n ∷ []) names)) valid in
    (path_front (front ++ n ∷ []) names there, way_valid (front ++ n ∷ []) names there)
  where
    path_front : (x s : Path) → IsTrue (is_path (x ++ s)) → IsTrue (is_path x)
    path_front x s valid =
        let parts = and_parts (list_all is_name (x ++ s)) _ valid in
        and_from _ _ (and_parts (list_all is_name x) _ (sym (list_all-append is_name x s) ∙ parts.0)).0
        (short_front x s parts.1)

ways_valid : (paths : List Path) → AllByRecursion (λ q. IsTrue (is_path q)) paths
    → AllByRecursion (λ q. IsTrue (is_path q)) (ways_to paths)
ways_valid [] valid = tt
ways_valid (q ∷ paths) valid =
    all_append _ (way_to q) (ways_to paths) (way_valid [] q valid.0) (ways_valid paths valid.1)

-- ---- behind some of them

-- directories were made at these paths, at none of which a file stood
record MadeAt (done : List Path) (t w : Tree) : Type 0 where
  standing : HasJust (with_directories (is_among done) t) w
  no_file : (x : Path) → is_among done x ≡ true → is_file t x ≡ false

module _ (done : List Path) (t w : Tree) (made : MadeAt done t w) where
  -- a directory or nothing stands where none was a file
  directory_made : (x : Path) → is_among done x ≡ true → is_root x ≡ false → is_directory w x ≡ true
  directory_made x among below =
      ap is_directory_node (node_at-find w x below ∙ ap node_of (made.standing.each x))
      ∙ ap (λ b. is_directory_node (node_of (option_or (find path_cmp x t) (cond b (Some bare_directory) None)))) among
      ∙ by (find path_cmp x t) (ap is_file_node (sym (node_at-find t x below)) ∙ made.no_file x among)
    where
      by : (o : Option Entry) → is_file_node (node_of o) ≡ false
          → is_directory_node (node_of (option_or o (Some bare_directory))) ≡ true
      by None other = refl
      by (Some e) other = node e.node other
        where
          node : (n : Node) → is_file_node (Some n) ≡ false → is_directory_node (Some n) ≡ true
          node Directory other = refl
          node (File bytes) other = cc

  -- what is found there stood there, or is new
  found_there : (x : Path) → is_root x ≡ false → is_file t x ≡ true → is_file w x ≡ true
  found_there x below file =
      ap is_file_node (node_at-find w x below ∙ ap node_of (made.standing.each x))
      ∙ by (find path_cmp x t) _ (ap is_file_node (sym (node_at-find t x below)) ∙ file)
    where
      by : (o other : Option Entry) → is_file_node (node_of o) ≡ true
          → is_file_node (node_of (option_or o other)) ≡ true
      by None other is = cc
      by (Some e) other is = is

  file_there : (x : Path) → is_root x ≡ false → is_file w x ≡ true → is_file t x ≡ true
  file_there x below file =
      ap is_file_node (node_at-find t x below)
      ∙ by (find path_cmp x t) (is_among done x)
      (ap is_file_node (sym (node_at-find w x below ∙ ap node_of (made.standing.each x))) ∙ file)
    where
      by : (o : Option Entry) (b : Bool)
          → is_file_node (node_of (option_or o (cond b (Some bare_directory) None))) ≡ true
          → is_file_node (node_of o) ≡ true
      by None true is = cc
      by None false is = cc
      by (Some e) b is = is

-- ---- one step

-- what stands at a path is one of the two, or nothing
pub not_both : (o : Option Node) → is_directory_node o ≡ true → is_file_node o ≡ false
not_both None is = refl
not_both (Some Directory) is = refl
not_both (Some (File bytes)) is = cc

pub file_exists : (o : Option Node) → is_file_node o ≡ true → is_some o ≡ true
file_exists None is = cc
file_exists (Some n) is = refl

pub one_of_both : (o : Option Node) → is_some o ≡ true → is_directory_node o ≡ false → is_file_node o ≡ true
one_of_both None there other = cc
one_of_both (Some Directory) there other = cc
one_of_both (Some (File bytes)) there other = refl

-- the root is a directory
pub root_directory : (w : Tree) (x : Path) → is_root x ≡ true → is_directory w x ≡ true
root_directory w [] is = refl
root_directory w (n ∷ x) is = cc

-- in a directory a directory is made, unless something stands there
pub made_in : (w : Tree) (q : Path) → is_root q ≡ false → is_directory w (parent q) ≡ true
    → refusal_of w (Make q) ≡ cond (exists w q) (Some refusals.Exists) None
unfolding conditions first_refusal
made_in w q below up =
    ap₂ (λ a b. cond a (Some refusals.Root) (cond (not b) (Some refusals.Parent)
    (cond (exists w q) (Some refusals.Exists) None))) below up

-- a path at which a directory stands passes for a made one
passes : (done : List Path) (t w : Tree) (q : Path) → is_root q ≡ false
    → HasJust (with_directories (is_among done) t) w → is_directory w q ≡ true
    → HasJust (with_directories (is_among (done ++ q ∷ [])) t) w
passes done t w q below has is = told_alike _ _ w alike has
  where
    there : is_directory_node (node_of (with_directories (is_among done) t q)) ≡ true
    there = ap (λ o. is_directory_node (node_of o)) (sym (has.each q))
        ∙ ap is_directory_node (sym (node_at-find w q below)) ∙ is

    by : (o : Option Entry) (b c : Bool)
        → (c ≡ true → is_directory_node (node_of (option_or o (cond b (Some bare_directory) None))) ≡ true)
        → option_or o (cond b (Some bare_directory) None)
        ≡ option_or o (cond (b || (c || false)) (Some bare_directory) None)
    by (Some e) b c stands = refl
    by None true c stands = refl
    by None false true stands = let no = stands refl in cc
    by None false false stands = refl

    alike : (x : Path) → with_directories (is_among done) t x ≡ with_directories (is_among (done ++ q ∷ [])) t x
    alike x = by (find path_cmp x t) (is_among done x) (same_path x q)
        (λ s. ap (λ y. is_directory_node (node_of (with_directories (is_among done) t y))) (same_from_test x q s)
        ∙ there)
        ∙ ap (λ b. option_or (find path_cmp x t) (cond b (Some bare_directory) None))
        (sym (list_any-append (same_path x) done (q ∷ [])))

module _ (paths : List Path) (p : Parameters) (t : Tree) (tree : IsTree t)
    (valid : AllByRecursion (λ q. IsTrue (is_path q)) paths) where
  abbrev step : Path → Conditional
  step q = done_at_no_directory (Make q)

  none_yet : MadeAt [] t t
  none_yet = record { standing = none_made t tree; no_file = λ x among. cc }

  record Place (done : List Path) (w : Tree) (q : Path) : Type 0 where
    below_root : is_root q ≡ false
    up : is_directory w (parent q) ≡ true
    path : IsTrue (is_path q)
    among : is_among (ways_to paths) q ≡ true

  place : (done rest : List Path) (q : Path) (w : Tree) → ways_to paths ≡ done ++ q ∷ rest → MadeAt done t w
      → Place done w q
  place done rest q w e made =
      let first = first_at [] done rest q (subst (λ xs. ParentsFirst [] xs) e (ways_first [] paths)) in
      record {
        below_root = first.0;
        up = by (is_root (parent q)) refl first.1;
        path = (all_back _ done (q ∷ rest) (subst (λ xs. AllByRecursion (λ q. IsTrue (is_path q)) xs) e
            (ways_valid paths valid))).0;
        among = ap (λ xs. is_among xs q) e ∙ list_any-append (same_path q) done (q ∷ rest)
            ∙ or_right (is_among done q) _ (or_left _ _ (same_path-from_equal q q refl));
      }
    where
      by : (b : Bool) → is_root (parent q) ≡ b
          → (is_root (parent q) ≡ true) ⊎ (is_among done (parent q) ≡ true) → is_directory w (parent q) ≡ true
      by true r some = root_directory w (parent q) r
      by false r some =
          directory_made done t w made (parent q) (⊎_elim (λ root. absurd (both_ways _ r root)) (λ is. is) some) r

  -- why it is refused
  why : (w : Tree) (q : Path) → is_root q ≡ false → is_directory w (parent q) ≡ true
      → why_refused p w (step q)
      ≡ cond (not (is_directory w q)) (cond (exists w q) (Some refusals.Exists) None) None
  unfolding is_on_attributes
  why w q below up = ap (λ o. cond (not (is_directory w q)) o None) (made_in w q below up)

  behind : (done : List Path) (q : Path) (w : Tree) → MadeAt done t w → Place done w q → (b : Bool)
      → is_directory w q ≡ b → cond (not b) (cond (exists w q) (Some refusals.Exists) None) None ≡ None
      → MadeAt (done ++ q ∷ []) t (cond (not b) (next_tree w (Make q)) w)
  behind done q w made at b is none = record {
    standing = by b is none;
    no_file = λ x among. other x (is_among done x) refl (sym (list_any-append (same_path x) done (q ∷ [])) ∙ among);
  }
    where
      not_there : (c : Bool) → exists w q ≡ c → cond c (Some refusals.Exists) None ≡ None → exists w q ≡ false
      not_there true there e = cc
      not_there false there e = there

      by : (c : Bool) → is_directory w q ≡ c → cond (not c) (cond (exists w q) (Some refusals.Exists) None) None ≡ None
          → HasJust (with_directories (is_among (done ++ q ∷ [])) t) (cond (not c) (next_tree w (Make q)) w)
      by true is none = passes done t w q at.below_root made.standing is
      by false is none = one_more done t w q at.path made.standing (record {
        below_root = at.below_root;
        parent_directory = at.up;
        none = not_there (exists w q) refl none;
      })

      no_file_here : (c : Bool) → is_directory w q ≡ c
          → cond (not c) (cond (exists w q) (Some refusals.Exists) None) None ≡ None → is_file w q ≡ true → ⊥
      no_file_here true is none file = both_ways _ (not_both (node_at w q) is) file
      no_file_here false is none file =
          both_ways _ (not_there (exists w q) refl none) (file_exists (node_at w q) file)

      other : (x : Path) (c : Bool) → is_among done x ≡ c → (c || (same_path x q || false)) ≡ true
          → is_file t x ≡ false
      other x true among either = made.no_file x among
      other x false among either =
          let same : x ≡ q = same_from_test x q (⊎_elim (λ s. s) (λ no. cc) (or_cases (same_path x q) false either)) in
          ap (is_file t) same ∙ false_from_ne_true _ (λ file. no_file_here b is none
          (found_there done t w made q at.below_root file))

  goes_on : (done rest : List Path) (q : Path) (w : Tree) → ways_to paths ≡ done ++ q ∷ rest → MadeAt done t w
      → why_refused p w (step q) ≡ None → MadeAt (done ++ q ∷ []) t (tree_behind w (step q))
  goes_on done rest q w e made none =
      let at = place done rest q w e made in
      behind done q w made at (is_directory w q) refl (sym (why w q at.below_root at.up) ∙ none)

  pub parents_lead : (u : Tree) → Leads p t (making_parents_steps paths) u → AreMadeWithParents paths t u
  parents_lead u chain =
      let made = leads_to_all p step (λ done w. MadeAt done t w) (ways_to paths) goes_on t u none_yet chain in
      record {
        allowed = λ x leads. made.no_file x (ways_are paths x ∙ leads);
        standing = told_alike _ _ u (λ x. ap (λ b. option_or (find path_cmp x t) (cond b (Some bare_directory) None))
            (ways_are paths x)) made.standing;
      }

  -- a step that is refused is that of a path at which a file stands
  refused_at : (w : Tree) (q : Path) (b c : Bool) (reason : Refusal) → is_directory w q ≡ b → exists w q ≡ c
      → cond (not b) (cond c (Some refusals.Exists) None) None ≡ Some reason
      → (is_file w q ≡ true) × (reason ≡ refusals.Exists)
  refused_at w q true c reason is there e = cc
  refused_at w q false true reason is there e = (one_of_both (node_at w q) there is, cc)
  refused_at w q false false reason is there e = cc

  pub parents_stop : (g : Conditional) (reason : Refusal) → Stops p t (making_parents_steps paths) g reason
      → RefusesParents paths t g reason
  parents_stop g reason stops =
      let at = stops_at p step (λ done w. MadeAt done t w) (ways_to paths) goes_on t g reason none_yet stops in
      let q = at.element in
      let here = place at.done at.rest q at.tree at.all_are at.holds in
      let found = refused_at at.tree q (is_directory at.tree q) (exists at.tree q) reason refl refl
      (sym (why at.tree q here.below_root here.up) ∙ at.refused) in (
        q,
        at.step_is,
        record {
          leads = sym (ways_are paths q) ∙ here.among;
          file = file_there at.done t at.tree at.holds q here.below_root found.0;
          reason = found.1;
        },
      )
