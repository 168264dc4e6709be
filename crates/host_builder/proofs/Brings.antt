-- The paths that stand in a tree behind a step.
use Rattle.std.proofs.Common.{◌≡◌, ℕ, Bool, true, false, not, ◌&&◌, ◌||◌, cond, IsTrue, List, [], ◌∷◌, ◌++◌, Option}
use Rattle.std.proofs.Common.{Some}
use Rattle.std.proofs.Common.{None, refl, sym, ap, subst, ◌∙◌, Result, Ok, Err}
use Rattle.std.specs.FinMap.{find, put}
use Rattle.std.specs.List.{AllByRecursion, list_all, list_any, filter}
use Rattle.std.proofs.lemmas.Bool.{false≢true}
use Rattle.store_model.specs.Paths.{Path, Name, name_cmp, path_cmp, same_path}
use Rattle.store_model.specs.Steps.{next_tree}
use Rattle.store_model.specs.Trees.{Tree, Entry, Attributes, attributes_of, attributed, without}
use Rattle.store_model.proofs.ListsLemmas.{first_true, second_true, all_from_test, all_filter}
use Rattle.store_model.proofs.TreesLemmas.{all_put, find_from_all}
use Rattle.store_model.proofs.TreesLemmasPaths.{same_from_test, same_path-itself}
use Rattle.dump_streams.specs.Dumps.{DumpStep, after_step, step_path}
use Rattle.dump_streams.specs.Dumps.DumpStep.{Make, Write, Set}
use Rattle.dump_streams.specs.declared.taker.TakerFault.{TakerFault}
use Rattle.host_builder.specs.declared.plan.Standing.{Standing}
use Rattle.host_builder.specs.Builders.{BuilderState, IsObservable, BringsNone, CarriesOut, Builds}
use Rattle.host_builder.specs.Takes.{is_noted, is_accounted, StaysAccounted}

both : (a b : Bool) → IsTrue a → IsTrue b → IsTrue (a && b)
both true b p q = q
both false b p q = absurd (false≢true p)

-- ---- paths that pass a test

abbrev pub AllPass : (Path → Bool) → Tree → Type 0
AllPass test t = IsTrue (list_all (λ e. test e.0) t)

each_passes : (test : Path → Bool) (t : Tree) → AllPass test t → AllByRecursion (λ e. IsTrue (test e.0)) t
each_passes test t all =
    all_from_test (λ (e : Path × Entry). test e.0) (λ (e : Path × Entry). IsTrue (test e.0)) (λ e is. is) t all

all_pass : (test : Path → Bool) (t : Tree) → AllByRecursion (λ e. IsTrue (test e.0)) t → AllPass test t
all_pass test [] each = refl
all_pass test (e ∷ t) each = both (test e.0) (list_all (λ e. test e.0) t) each.0 (all_pass test t each.1)

put_passes : (test : Path → Bool) (k : Path) (v : Entry) (t : Tree) → IsTrue (test k) → AllPass test t
    → AllPass test (put path_cmp k v t)
put_passes test k v t here all =
    all_pass test (put path_cmp k v t) (all_put (λ (e : Path × Entry). IsTrue (test e.0)) k v t here
    (each_passes test t all))

-- an attribute is set on what stands
pub set_brings_none : (t : Tree) (path : Path) (name : Name) (bytes : List ℕ)
    → BringsNone t (after_step t (Set path name bytes))
unfolding next_tree
set_brings_none t path name bytes test all = by_found (find path_cmp path t) refl
  where
    by_found : (found : Option Entry) → find path_cmp path t ≡ found
        → AllPass test (attributed t path (put name_cmp name bytes (attributes_of found)) found)
    by_found None is = all
    by_found (Some entry) is =
        put_passes test path _ t
        (find_from_all (λ (e : Path × Entry). IsTrue (test e.0)) path entry t (each_passes test t all) is) all

-- no step makes a path stand but its own
pub step_passes : (test : Path → Bool) (t : Tree) (s : DumpStep) → IsTrue (test (step_path s)) → AllPass test t
    → AllPass test (after_step t s)
unfolding next_tree
step_passes test t (Make path) here all = put_passes test path _ t here all
step_passes test t (Write path at bytes) here all = put_passes test path _ t here all
step_passes test t (Set path name bytes) here all = set_brings_none t path name bytes test all

pub without_brings_none : (t : Tree) (path : Path) → BringsNone t (without t path)
unfolding without
without_brings_none t path test all =
    all_pass test (without t path) (all_filter (λ (e : Path × Entry). IsTrue (test e.0))
    (λ (e : Path × Entry). not (same_path e.0 path)) t (each_passes test t all))

pub same_brings_none : (old new : Tree) → new ≡ old → BringsNone old new
same_brings_none old new same test all = subst (AllPass test) (sym same) all

-- from nothing comes nothing
pub none_from_none : (t : Tree) → BringsNone [] t → t ≡ []
none_from_none [] none = refl
none_from_none (e ∷ t) none = absurd (false≢true (none (λ p. false) refl))

-- ---- what was noted

noted_more : (stands : List Standing) (one : Standing) (path : Path) → IsTrue (is_noted stands path)
    → IsTrue (is_noted (stands ++ one ∷ []) path)
noted_more [] one path is = absurd (false≢true is)
noted_more (first ∷ stands) one path is = by_test (noted_more stands one path) (same_path first.path path) is
  where
    by_test : (IsTrue (is_noted stands path) → IsTrue (is_noted (stands ++ one ∷ []) path)) → (b : Bool)
        → IsTrue (b || is_noted stands path) → IsTrue (b || is_noted (stands ++ one ∷ []) path)
    by_test rest true is = refl
    by_test rest false is = rest is

noted_last : (stands : List Standing) (one : Standing) (path : Path) → one.path ≡ path
    → IsTrue (is_noted (stands ++ one ∷ []) path)
noted_last [] one path is = ap (λ (b : Bool). b || false) (ap (λ (p : Path). same_path p path) is ∙ same_path-itself
    path)
noted_last (first ∷ stands) one path is = by_test (noted_last stands one path is) (same_path first.path path)
  where
    by_test : IsTrue (is_noted (stands ++ one ∷ []) path) → (b : Bool)
        → IsTrue (b || is_noted (stands ++ one ∷ []) path)
    by_test rest true = refl
    by_test rest false = rest

accounted_more : (stands : List Standing) (one : Standing) (t : Tree) → IsTrue (is_accounted stands t)
    → IsTrue (is_accounted (stands ++ one ∷ []) t)
accounted_more stands one [] all = refl
accounted_more stands one (e ∷ t) all = both (is_noted (stands ++ one ∷ []) e.0) (is_accounted (stands ++ one ∷ []) t)
    (noted_more stands one e.0 (first_true (is_noted stands e.0) (is_accounted stands t) all))
    (accounted_more stands one t (second_true (is_noted stands e.0) (is_accounted stands t) all))

-- what is noted, and is not the last one
noted_before : (stands : List Standing) (one : Standing) (path : Path) → IsTrue (is_noted (stands ++ one ∷ []) path)
    → same_path path one.path ≡ false → IsTrue (is_noted stands path)
noted_before [] one path is other = by_test (same_path one.path path) refl is
  where
    by_test : (b : Bool) → same_path one.path path ≡ b → IsTrue (b || false) → IsTrue false
    by_test true same is = absurd (false≢true (sym other ∙ ap (λ (p : Path). same_path path p)
        (same_from_test one.path path same) ∙ same_path-itself path))
    by_test false same is = is
noted_before (first ∷ stands) one path is other =
    by_test (λ is. noted_before stands one path is other) (same_path first.path path) is
  where
    by_test : (IsTrue (is_noted (stands ++ one ∷ []) path) → IsTrue (is_noted stands path)) → (b : Bool)
        → IsTrue (b || is_noted (stands ++ one ∷ []) path) → IsTrue (b || is_noted stands path)
    by_test rest true is = refl
    by_test rest false is = rest is

-- without the last one that was noted
pub accounted_before : (stands : List Standing) (one : Standing) (t : Tree)
    → IsTrue (is_accounted (stands ++ one ∷ []) t) → IsTrue (is_accounted stands (without t one.path))
unfolding without
accounted_before stands one [] all = refl
accounted_before stands one (e ∷ t) all =
    by_test (same_path e.0 one.path) refl
    (accounted_before stands one t (second_true (is_noted (stands ++ one ∷ []) e.0) _ all))
  where
    by_test : (b : Bool) → same_path e.0 one.path ≡ b → IsTrue (is_accounted stands (without t one.path))
        → IsTrue (is_accounted stands (cond (not b) (e ∷ without t one.path) (without t one.path)))
    by_test true is rest = rest
    by_test false is rest = both (is_noted stands e.0) (is_accounted stands (without t one.path))
        (noted_before stands one e.0 (first_true (is_noted (stands ++ one ∷ []) e.0) _ all) is) rest

pub none_accounted : (t : Tree) → IsTrue (is_accounted [] t) → t ≡ []
none_accounted [] all = refl
none_accounted (e ∷ t) all = absurd (false≢true all)

-- ---- calls

module _ (old mid new : BuilderState) (before after : List Standing) where
  -- a call that failed, behind one that made nothing
  pub fails_accounted : {T U : Type 0} (steps : List DumpStep) (value : T) (fault : TakerFault)
      → Builds old mid [] (Ok value) → Builds {T = U} mid new steps (Err fault) → after ≡ before
      → StaysAccounted old new before after
  fails_accounted steps value fault ends builds same seen all =
      let held : mid.holds ≡ old.holds = ends.carries_out.holds seen in
      subst (λ (stands : List Standing). IsTrue (is_accounted stands new.holds)) (sym same)
      (builds.carries_out.brings (ends.carries_out.observable ∙ seen) (is_noted before)
      (subst (λ (t : Tree). IsTrue (is_accounted before t)) (sym held) all))

  -- a step that makes something at a path that was noted
  pub makes_accounted : {T U : Type 0} (one : Standing) (s : DumpStep) (value : T) (done : U)
      → Builds old mid [] (Ok value) → Builds mid new (s ∷ []) (Ok done)
      → after ≡ before ++ one ∷ [] → one.path ≡ step_path s → StaysAccounted old new before after
  makes_accounted one s value done ends builds more here seen all =
      let held : mid.holds ≡ old.holds = ends.carries_out.holds seen in
      let holds : new.holds ≡ after_step mid.holds s =
      builds.carries_out.holds (ends.carries_out.observable ∙ seen) in
      let noted : IsTrue (is_accounted (before ++ one ∷ []) mid.holds) =
      accounted_more before one mid.holds (subst (λ (t : Tree). IsTrue (is_accounted before t)) (sym held) all) in
      subst (λ (stands : List Standing). IsTrue (is_accounted stands new.holds)) (sym more)
      (subst (λ (t : Tree). IsTrue (is_accounted (before ++ one ∷ []) t)) (sym holds)
      (step_passes (is_noted (before ++ one ∷ [])) mid.holds s (noted_last before one (step_path s) here) noted))
