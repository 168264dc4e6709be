-- The steps of a dump rise by place, and those on a path are those of its entry.
use Rattle.std.proofs.Common.{◌≡◌, ℕ, ◌*◌, ◌<◌, ◌≤◌, List, [], ◌∷◌, ◌++◌, map, length, Bool, true, false, not, cond}
use Rattle.std.proofs.Common.{◌⊎◌, inl, inr, IsTrue, Option, Some, None, refl, sym, ap, ap₂, subst, ◌∙◌, arith}
use Rattle.std.proofs.Common.{Less, Equal, nat_cmp}
use Rattle.std.specs.Ordering.{ordering_then, eq_by_cmp, is_eq}
use Rattle.std.specs.FinMap.{find, is_sorted}
use Rattle.std.specs.List.{filter, enumerate_from, AllByRecursion, Contains}
use Rattle.std.specs.List.Sorted.{IsStrictlySortedBy}
use Rattle.std.proofs.lemmas.Bool.{false≢true}
use Rattle.std.proofs.lemmas.List.{append-nil}
use Rattle.std.proofs.lemmas.List.Elements.{filter-append, All-contains, All-from_recursion, Contains-append_left}
use Rattle.std.proofs.lemmas.List.Elements.{Contains-append_cases}
use Rattle.store_model.specs.Lists.{runs}
use Rattle.store_model.specs.Paths.{Path, Name, name_cmp, path_cmp}
use Rattle.dump_streams.specs.Dumps.{DumpStep, step_path}
use Rattle.dump_streams.specs.Dumps.DumpStep.{Make, Write, Set}
use Rattle.store_model.specs.Trees.{Tree, Node, Entry, Attributes, AreAttributes, IsEntry, IsTree, is_directory_node}
use Rattle.store_model.specs.Trees.Node.{Directory, File}
use Rattle.store_model.proofs.ListsLemmas.{all_none, all_weaker, all_append, all_back, all_map, IsBelow}
use Rattle.store_model.proofs.ListsLemmas.{rising_one, rising_append, rising_map, rising_flat_map}
use Rattle.store_model.proofs.ListsLemmas.{rising_from_is_sorted, rising_head, rising_tail, numbers_rise}
use Rattle.store_model.proofs.ListsLemmas.{less_from_nat_cmp, nat_cmp-lt, length-runs}
use Rattle.store_model.proofs.TreesLemmasPaths.{same_from_test, same_path-from_equal}
use Rattle.dump_streams.specs.Dumps.{dump_piece, file_steps, node_steps, attribute_steps, entry_steps, dump}
use Rattle.dump_diff.specs.Places.{place_cmp, is_first, makes, sets, writes}
use Rattle.dump_diff.specs.Shown.{own, begins, node_part}
use Rattle.dump_diff.proofs.PlaceOrder.{place_by_path, place_by_part, unset_before_set, set_writes_none}

-- ---- the steps of an entry

-- a step on a path, which sets an attribute or not
abbrev IsOf : Bool → Path → DumpStep → Type 0
IsOf b path c = (step_path c ≡ path) × (sets c ≡ b)

-- the step of a piece
abbrev pub piece_step : Path → ℕ × List ℕ → DumpStep
piece_step path piece = Write path (dump_piece * piece.0) piece.1

-- the step of an attribute
abbrev pub name_step : Path → Name × List ℕ → DumpStep
name_step path a = Set path a.0 a.1

file_of_node : (path : Path) (bytes : List ℕ) → AllByRecursion (IsOf false path) (file_steps path bytes)
unfolding file_steps
file_of_node path [] = ((refl, refl), tt)
file_of_node path (b ∷ bytes) =
    all_map (λ piece. Unit {0}) (IsOf false path) (piece_step path) (λ piece u. (refl, refl))
    (enumerate_from 0 (runs dump_piece (b ∷ bytes)))
    (all_none _ (λ piece. tt) (enumerate_from 0 (runs dump_piece (b ∷ bytes))))

node_of_node : (path : Path) (node : Node) → AllByRecursion (IsOf false path) (node_steps path node)
node_of_node path Directory = ((refl, refl), tt)
node_of_node path (File bytes) = file_of_node path bytes

names_of_names : (path : Path) (attributes : Attributes)
    → AllByRecursion (IsOf true path) (attribute_steps path attributes)
unfolding attribute_steps
names_of_names path attributes = all_map (λ a. Unit {0}) (IsOf true path) (name_step path) (λ a u. (refl, refl))
    attributes (all_none _ (λ a. tt) attributes)

-- they are on its path
pub entry_on_path : (path : Path) (entry : Entry)
    → AllByRecursion (λ c. step_path c ≡ path) (entry_steps path entry)
entry_on_path path entry =
    all_append (λ c. step_path c ≡ path) (node_steps path entry.node) (attribute_steps path entry.attributes)
    (all_weaker (IsOf false path) (λ c. step_path c ≡ path) (λ c is. is.0) (node_steps path entry.node)
    (node_of_node path entry.node))
    (all_weaker (IsOf true path) (λ c. step_path c ≡ path) (λ c is. is.0)
    (attribute_steps path entry.attributes) (names_of_names path entry.attributes))

-- ---- they rise

rising_file : (path : Path) (bytes : List ℕ) → IsStrictlySortedBy place_cmp (file_steps path bytes)
unfolding file_steps
rising_file path [] = rising_one place_cmp (Write path 0 [])
rising_file path (b ∷ bytes) =
    rising_map (λ a b. nat_cmp a.0 b.0) place_cmp (piece_step path) (λ piece. Unit {0})
    (λ x y u v l. place_by_part (piece_step path x) (piece_step path y) refl
    (by_number x.0 y.0 (less_from_nat_cmp x.0 y.0 l)))
    (enumerate_from 0 (runs dump_piece (b ∷ bytes)))
    (all_none _ (λ piece. tt) (enumerate_from 0 (runs dump_piece (b ∷ bytes))))
    (numbers_rise 0 (runs dump_piece (b ∷ bytes)))
  where
    by_number : (i j : ℕ) → i < j → ordering_then (nat_cmp (dump_piece * i) (dump_piece * j)) Equal ≡ Less
    by_number i j l = ap (λ o. ordering_then o Equal) (nat_cmp-lt (dump_piece * i) (dump_piece * j) (omega (arith, l)))

rising_node : (path : Path) (node : Node) → IsStrictlySortedBy place_cmp (node_steps path node)
rising_node path Directory = rising_one place_cmp (Make path)
rising_node path (File bytes) = rising_file path bytes

rising_names : (path : Path) (attributes : Attributes) → IsTrue (is_sorted name_cmp attributes)
    → IsStrictlySortedBy place_cmp (attribute_steps path attributes)
unfolding attribute_steps
rising_names path attributes sorted =
    rising_map (λ a b. name_cmp a.0 b.0) place_cmp (name_step path) (λ a. Unit {0})
    (λ a b u v l. place_by_part (name_step path a) (name_step path b) refl l) attributes
    (all_none _ (λ a. tt) attributes)
    (rising_from_is_sorted name_cmp attributes sorted)

rising_entry : (path : Path) (entry : Entry) → AreAttributes path entry.attributes
    → IsStrictlySortedBy place_cmp (entry_steps path entry)
rising_entry path entry are =
    rising_append place_cmp (node_steps path entry.node) (attribute_steps path entry.attributes)
    (rising_node path entry.node) (rising_names path entry.attributes are.sorted)
    (all_weaker (IsOf false path) (λ c. AllByRecursion (λ d. place_cmp c d ≡ Less)
    (attribute_steps path entry.attributes))
    (λ c of_node. all_weaker (IsOf true path) (λ d. place_cmp c d ≡ Less)
    (λ d of_name. place_by_part c d (of_node.0 ∙ sym of_name.0) (unset_before_set c d of_node.1 of_name.1))
    (attribute_steps path entry.attributes)
    (names_of_names path entry.attributes))
    (node_steps path entry.node) (node_of_node path entry.node))

across : (x y : Path) (e f : Entry) → path_cmp x y ≡ Less → IsBelow place_cmp (entry_steps x e) (entry_steps y f)
across x y e f l =
    all_weaker (λ c. step_path c ≡ x) (λ c. AllByRecursion (λ d. place_cmp c d ≡ Less) (entry_steps y f))
    (λ c on. all_weaker (λ d. step_path d ≡ y) (λ d. place_cmp c d ≡ Less)
    (λ d behind. place_by_path c d (ap₂ path_cmp on behind ∙ l)) (entry_steps y f) (entry_on_path y f))
    (entry_steps x e) (entry_on_path x e)

-- the steps of a tree rise by place
pub rising_dump : (t : Tree) → IsTree t → IsStrictlySortedBy place_cmp (dump t)
unfolding dump
rising_dump t is =
    rising_flat_map (λ a b. path_cmp a.0 b.0) place_cmp (λ e. entry_steps e.0 e.1) (IsEntry t)
    (λ e g. rising_entry e.0 e.1 g.attributes)
    (λ e f g k l. across e.0 f.0 e.1 f.1 l)
    t is.entries (rising_from_is_sorted path_cmp t is.sorted)

-- ---- the steps on a path

-- the steps of what a tree has at a path
unfoldable pub steps_at : Path → Option Entry → List DumpStep
steps_at p None = []
steps_at p (Some entry) = entry_steps p entry

filter_all : {X : Type 0} (test : X → Bool) (xs : List X) → AllByRecursion (λ x. test x ≡ true) xs → filter test xs ≡ xs
filter_all test [] h = refl
filter_all test (x ∷ xs) h = ap (λ b. cond b (x ∷ filter test xs) (filter test xs)) h.0
    ∙ ap (λ ys. x ∷ ys) (filter_all test xs h.1)

filter_none : {X : Type 0} (test : X → Bool) (xs : List X)
    → AllByRecursion (λ x. test x ≡ false) xs → filter test xs ≡ []
filter_none test [] h = refl
filter_none test (x ∷ xs) h = ap (λ b. cond b (x ∷ filter test xs) (filter test xs)) h.0 ∙ filter_none test xs h.1

-- of steps on a path those on it, and those on another
pub own_all : (p : Path) (cs : List DumpStep) → AllByRecursion (λ c. step_path c ≡ p) cs → own p cs ≡ cs
own_all p cs on = filter_all (λ c. eq_by_cmp path_cmp p (step_path c)) cs
    (all_weaker (λ c. step_path c ≡ p) (λ c. eq_by_cmp path_cmp p (step_path c) ≡ true)
    (λ c h. same_path-from_equal p (step_path c) (sym h)) cs on)

pub own_none : (p q : Path) (cs : List DumpStep) → eq_by_cmp path_cmp q p ≡ false
    → AllByRecursion (λ c. step_path c ≡ p) cs → own q cs ≡ []
own_none p q cs other on = filter_none (λ c. eq_by_cmp path_cmp q (step_path c)) cs
    (all_weaker (λ c. step_path c ≡ p) (λ c. eq_by_cmp path_cmp q (step_path c) ≡ false)
    (λ c h. ap (λ (r : Path). eq_by_cmp path_cmp q r) h ∙ other) cs on)

-- none is behind
own_behind : (p : Path) (t : Tree) → AllByRecursion (λ e. path_cmp p e.0 ≡ Less) t → own p (dump t) ≡ []
unfolding dump
own_behind p [] h = refl
own_behind p (e ∷ t) h =
    filter-append (λ c. eq_by_cmp path_cmp p (step_path c)) (entry_steps e.0 e.1) (dump t)
    ∙ ap₂ (λ (a b : List DumpStep). a ++ b) (own_none e.0 p (entry_steps e.0 e.1) (ap is_eq h.0)
    (entry_on_path e.0 e.1)) (own_behind p t h.1)

pub own_dump : (p : Path) (t : Tree) → IsStrictlySortedBy (λ a b. path_cmp a.0 b.0) t
    → own p (dump t) ≡ steps_at p (find path_cmp p t)
unfolding dump steps_at
own_dump p [] rising = refl
own_dump p (e ∷ t) rising =
    filter-append (λ c. eq_by_cmp path_cmp p (step_path c)) (entry_steps e.0 e.1) (dump t)
    ∙ by_test (own_dump p t (rising_tail (λ a b. path_cmp a.0 b.0) e t rising)) (eq_by_cmp path_cmp p e.0) refl
  where
    by_test : own p (dump t) ≡ steps_at p (find path_cmp p t) → (b : Bool) → eq_by_cmp path_cmp p e.0 ≡ b
        → own p (entry_steps e.0 e.1) ++ own p (dump t) ≡ steps_at p (cond b (Some e.1) (find path_cmp p t))
    by_test rest true same =
        let here : p ≡ e.0 = same_from_test p e.0 same in
        let behind : AllByRecursion (λ f. path_cmp p f.0 ≡ Less) t =
        all_weaker (λ f. path_cmp e.0 f.0 ≡ Less) (λ f. path_cmp p f.0 ≡ Less)
        (λ f l. ap (λ (q : Path). path_cmp q f.0) here ∙ l) t (rising_head (λ a b. path_cmp a.0 b.0) e t rising) in
        ap₂ (λ (a b : List DumpStep). a ++ b) (ap (λ (q : Path). own p (entry_steps q e.1)) (sym here)
        ∙ own_all p (entry_steps p e.1) (entry_on_path p e.1)) (own_behind p t behind)
        ∙ append-nil (entry_steps p e.1)
    by_test rest false other = ap₂ (λ (a b : List DumpStep). a ++ b) (own_none e.0 p (entry_steps e.0 e.1) other
        (entry_on_path e.0 e.1)) rest

-- ---- the first step of an entry

runs_some : (bytes : List ℕ) → 1 ≤ length bytes
    → (run : List ℕ) × (rest : List (List ℕ)) × (runs dump_piece bytes ≡ run ∷ rest)
runs_some bytes some = by_runs (runs dump_piece bytes) refl
  where
    by_runs : (rs : List (List ℕ)) → runs dump_piece bytes ≡ rs
        → (run : List ℕ) × (rest : List (List ℕ)) × (runs dump_piece bytes ≡ run ∷ rest)
    by_runs [] e = let count = length-runs dump_piece bytes in let none = ap length e
        in absurd (omega (arith, count, none, some))
    by_runs (r ∷ rs) e = (r, rs, e)

-- what stands at a path begins with the first step of its entry, which tells whether that is a directory
record Begins (path : Path) (node : Node) : Type 0 where
  head : DumpStep
  rest : List DumpStep
  steps_are : node_steps path node ≡ head ∷ rest
  first : is_first head ≡ true
  kind : makes head ≡ is_directory_node (Some node)

node_begins : (path : Path) (node : Node) → Begins path node
unfolding file_steps
node_begins path Directory = record { head = Make path; rest = []; steps_are = refl; first = refl; kind = refl }
node_begins path (File []) = record { head = Write path 0 []; rest = []; steps_are = refl; first = refl; kind = refl }
node_begins path (File (b ∷ bytes)) = let some = runs_some (b ∷ bytes) (omega arith) in record {
  head = Write path 0 some.0;
  rest = map (piece_step path) (enumerate_from 1 some.1);
  steps_are = ap (λ (rs : List (List ℕ)). map (piece_step path) (enumerate_from 0 rs)) some.2;
  first = refl;
  kind = refl;
}

entry_begins : (path : Path) (entry : Entry) (cs : List DumpStep) → entry_steps path entry ≡ cs
    → (node_begins path entry.node).head ∷ ((node_begins path entry.node).rest ++ attribute_steps path entry.attributes)
    ≡ cs
entry_begins path entry cs e =
    sym (ap (λ (ds : List DumpStep). ds ++ attribute_steps path entry.attributes)
    (node_begins path entry.node).steps_are) ∙ e

-- an entry of one step has its first one
pub first_alone : (path : Path) (entry : Entry) (c : DumpStep) → entry_steps path entry ≡ c ∷ [] → is_first c ≡ true
first_alone path entry c e =
    let head = node_begins path entry.node in
    let all = entry_begins path entry (c ∷ []) e in
    let same : c ≡ head.head = cc in
    ap is_first same ∙ head.first

-- an entry has steps
pub entry_some : (path : Path) (entry : Entry) → entry_steps path entry ≡ [] → ⊥
entry_some path entry e =
    let all = entry_begins path entry [] e in
    let never : false ≡ true = cc in
    false≢true never

-- whether they begin with a directory
pub begins_entry : (path : Path) (entry : Entry)
    → begins (entry_steps path entry) ≡ Some (is_directory_node (Some entry.node))
begins_entry path entry =
    ap begins (sym (entry_begins path entry (entry_steps path entry) refl))
    ∙ ap Some (node_begins path entry.node).kind

-- those before their attributes
pub node_part_entry : (path : Path) (entry : Entry)
    → node_part (entry_steps path entry) ≡ node_steps path entry.node
node_part_entry path entry =
    filter-append (λ c. not (sets c)) (node_steps path entry.node) (attribute_steps path entry.attributes)
    ∙ ap₂ (λ (a b : List DumpStep). a ++ b)
    (filter_all (λ c. not (sets c)) (node_steps path entry.node)
    (all_weaker (IsOf false path) (λ c. not (sets c) ≡ true) (λ c is. ap not is.1) (node_steps path entry.node)
    (node_of_node path entry.node)))
    (filter_none (λ c. not (sets c)) (attribute_steps path entry.attributes)
    (all_weaker (IsOf true path) (λ c. not (sets c) ≡ false) (λ c is. ap not is.1)
    (attribute_steps path entry.attributes) (names_of_names path entry.attributes)))
    ∙ append-nil (node_steps path entry.node)

pub begins_more : (cs more : List DumpStep) (b : Bool) → begins cs ≡ Some b → begins (cs ++ more) ≡ Some b
begins_more [] more b e = let never : None ≡ Some b = e in cc
begins_more (c ∷ cs) more b e = e

tail_of : (c d : DumpStep) (cs ds : List DumpStep) → c ∷ cs ≡ d ∷ ds → cs ≡ ds
tail_of c d cs ds e = cc

-- behind those that begin with a directory comes no write
pub no_write_behind : (path : Path) (entry : Entry) (cs : List DumpStep) (c : DumpStep)
    → entry_steps path entry ≡ cs ++ c ∷ [] → begins cs ≡ Some true → writes c ≡ false
no_write_behind path entry cs c e first = by_node entry.node (begins_entry path entry) e first
  where
    names_last : (ds : List DumpStep) → attribute_steps path entry.attributes ≡ ds ++ c ∷ [] → writes c ≡ false
    names_last ds same =
        set_writes_none c (all_back (IsOf true path) ds (c ∷ [])
        (subst (AllByRecursion (IsOf true path)) same (names_of_names path entry.attributes))).0.1

    by_list : (ds : List DumpStep) → Make path ∷ attribute_steps path entry.attributes ≡ ds ++ c ∷ []
        → begins ds ≡ Some true → writes c ≡ false
    by_list [] same begin = let never : None ≡ Some true = begin in cc
    by_list (d ∷ ds) same begin =
        names_last ds (tail_of (Make path) d (attribute_steps path entry.attributes) (ds ++ c ∷ []) same)

    by_node : (node : Node) → begins (entry_steps path entry) ≡ Some (is_directory_node (Some node))
        → node_steps path node ++ attribute_steps path entry.attributes ≡ cs ++ c ∷ []
        → begins cs ≡ Some true → writes c ≡ false
    by_node Directory is same begin = by_list cs same begin
    by_node (File bytes) is same begin =
        let no : Some true ≡ Some false = sym (begins_more cs (c ∷ []) true begin) ∙ ap begins (sym e) ∙ is in
        cc

-- a write of one entry is in each with the same node
pub write_there : (path : Path) (e f : Entry) (c : DumpStep) → e.node ≡ f.node → writes c ≡ true
    → Contains (entry_steps path e) c → Contains (entry_steps path f) c
write_there path e f c same is has =
    by_place (Contains-append_cases (node_steps path e.node) (attribute_steps path e.attributes) c has)
  where
    by_place : Contains (node_steps path e.node) c ⊎ Contains (attribute_steps path e.attributes) c
        → Contains (entry_steps path f) c
    by_place (inl here) = Contains-append_left (node_steps path f.node) (attribute_steps path f.attributes) c
        (subst (λ (node : Node). Contains (node_steps path node) c) same here)
    by_place (inr here) =
        let of_name = All-contains (IsOf true path) (attribute_steps path e.attributes) c
        (All-from_recursion (IsOf true path) (attribute_steps path e.attributes)
        (names_of_names path e.attributes)) here in
        absurd (false≢true (sym (set_writes_none c of_name.1) ∙ is))
