-- The marks of paths, while paths are marked in their order.
use Rattle.std.proofs.Common.{◌≡◌, List, [], ◌∷◌, ◌++◌, Bool, true, false, cond, IsTrue, Option, Some, None, refl, sym}
use Rattle.std.proofs.Common.{ap, subst, ◌∙◌, Ordering, Less, Equal, Greater}
use Rattle.std.specs.Ordering.{eq_by_cmp, is_eq, is_le}
use Rattle.std.specs.Cmp.{tied_itself, tied_back}
use Rattle.std.specs.FinMap.{find, is_sorted}
use Rattle.std.specs.List.{AllByRecursion}
use Rattle.std.proofs.lemmas.Bool.{false≢true}
use Rattle.std.proofs.lemmas.List.{append-nil}
use Rattle.std.proofs.lemmas.List.Elements.{filter-append}
use Rattle.dump_streams.specs.Dumps.{DumpStep, step_path}
use Rattle.store_model.specs.Paths.{Path, path_cmp}
use Rattle.store_model.proofs.ListsLemmas.{all_weaker, all_append, rising_append, rising_one, rising_from_is_sorted}
use Rattle.store_model.proofs.ListsLemmas.{is_sorted_from_rising}
use Rattle.store_model.proofs.TreesLemmasPaths.{path_cmp_total, same_from_tie, same_from_test}
use Rattle.dump_diff.specs.declared.difference.Mark.{Mark}
use Rattle.dump_diff.proofs.DumpPlaces.{own_all, own_none}
use Rattle.dump_diff.specs.Shown.{own, Shows, AreShown, AreUpTo, IsMarked}

-- ---- orders

pub le_itself : (x : Path) → is_le (path_cmp x x) ≡ true
le_itself x = ap is_le (tied_itself path_cmp_total x)

pub le_trans : (x y z : Path) → is_le (path_cmp x y) ≡ true → is_le (path_cmp y z) ≡ true → is_le (path_cmp x z) ≡ true
le_trans x y z h k = by_order (path_cmp x y) (path_cmp y z) refl refl h k
  where
    by_order : (o r : Ordering) → path_cmp x y ≡ o → path_cmp y z ≡ r → is_le o ≡ true → is_le r ≡ true
        → is_le (path_cmp x z) ≡ true
    by_order Less Less p q h k = ap is_le (path_cmp_total.trans x y z p q)
    by_order Less Equal p q h k = ap (λ (w : Path). is_le (path_cmp x w)) (sym (same_from_tie y z q)) ∙ ap is_le p
    by_order Less Greater p q h k = absurd (false≢true k)
    by_order Equal r p q h k = ap (λ (w : Path). is_le (path_cmp w z)) (same_from_tie x y p) ∙ ap is_le q ∙ k
    by_order Greater r p q h k = absurd (false≢true h)

pub further : (marks : List (Path × Mark)) (p q : Path) → is_le (path_cmp p q) ≡ true
    → AreUpTo marks p → AreUpTo marks q
further marks p q le upto = all_weaker (λ m. is_le (path_cmp m.0 p) ≡ true) (λ m. is_le (path_cmp m.0 q) ≡ true)
    (λ m h. le_trans m.0 p q h le) marks upto

-- ---- a mark more

-- a path that has no mark stands behind all marks
all_less : (marks : List (Path × Mark)) (p : Path) → AreUpTo marks p → find path_cmp p marks ≡ None
    → AllByRecursion (λ m. path_cmp m.0 p ≡ Less) marks
all_less [] p upto none = tt
all_less (m ∷ marks) p upto none = by_test (all_less marks p upto.1) (path_cmp m.0 p) refl upto.0
  where
    not_some : (b : Bool) → cond b (Some m.1) (find path_cmp p marks) ≡ None → find path_cmp p marks ≡ None
    not_some true e = cc
    not_some false e = e

    by_test : (find path_cmp p marks ≡ None → AllByRecursion (λ m. path_cmp m.0 p ≡ Less) marks) → (o : Ordering)
        → path_cmp m.0 p ≡ o → is_le (path_cmp m.0 p) ≡ true
        → (path_cmp m.0 p ≡ Less) × AllByRecursion (λ m. path_cmp m.0 p ≡ Less) marks
    by_test rest Less e le = (e, rest (not_some (eq_by_cmp path_cmp p m.0) none))
    by_test rest Equal e le =
        let test : eq_by_cmp path_cmp p m.0 ≡ true = ap is_eq (tied_back path_cmp_total m.0 p e) in
        let found : Some m.1 ≡ None = sym (ap (λ b. cond b (Some m.1) (find path_cmp p marks)) test) ∙ none in
        let never : false ≡ true = cc in
        absurd (false≢true never)
    by_test rest Greater e le = absurd (false≢true (sym (ap is_le e) ∙ le))

pub found_here : (marks : List (Path × Mark)) (p : Path) (mark : Mark) → find path_cmp p marks ≡ None
    → find path_cmp p (marks ++ (p, mark) ∷ []) ≡ Some mark
found_here [] p mark none = ap (λ b. cond b (Some mark) None) (ap is_eq (tied_itself path_cmp_total p))
found_here (m ∷ marks) p mark none = by_test (found_here marks p mark) (eq_by_cmp path_cmp p m.0) none
  where
    by_test : (find path_cmp p marks ≡ None → find path_cmp p (marks ++ (p, mark) ∷ []) ≡ Some mark) → (b : Bool)
        → cond b (Some m.1) (find path_cmp p marks) ≡ None
        → cond b (Some m.1) (find path_cmp p (marks ++ (p, mark) ∷ [])) ≡ Some mark
    by_test rest true e = let never : false ≡ true = cc in absurd (false≢true never)
    by_test rest false e = rest e

found_elsewhere : (marks : List (Path × Mark)) (p q : Path) (mark : Mark) → eq_by_cmp path_cmp q p ≡ false
    → find path_cmp q (marks ++ (p, mark) ∷ []) ≡ find path_cmp q marks
found_elsewhere [] p q mark other = ap (λ b. cond b (Some mark) None) other
found_elsewhere (m ∷ marks) p q mark other =
    ap (λ (rest : Option Mark). cond (eq_by_cmp path_cmp q m.0) (Some m.1) rest) (found_elsewhere marks p q mark other)

-- what marking a path leaves
pub record MarksOne (old new : List (Path × Mark)) (p : Path) (mark : Mark) : Type 0 where
  pub rising : IsTrue (is_sorted path_cmp new)
  pub upto : AreUpTo new p
  pub elsewhere : (q : Path) → eq_by_cmp path_cmp q p ≡ false → find path_cmp q new ≡ find path_cmp q old
  pub there : (m : Mark) → find path_cmp p old ≡ Some m → find path_cmp p new ≡ Some m
  pub added : find path_cmp p old ≡ None → find path_cmp p new ≡ Some mark

pub marks_one : (old new : List (Path × Mark)) (p : Path) (mark : Mark) → IsTrue (is_sorted path_cmp old)
    → AreUpTo old p → IsMarked old new p mark → MarksOne old new p mark
marks_one old new p mark rising upto is = by_mark (find path_cmp p old) refl
  where
    by_mark : (found : Option Mark) → find path_cmp p old ≡ found → MarksOne old new p mark
    by_mark (Some m) e =
        let same = is.there m e in
        record {
          rising = subst (λ (marks : List (Path × Mark)). IsTrue (is_sorted path_cmp marks)) (sym same) rising;
          upto = subst (λ (marks : List (Path × Mark)). AreUpTo marks p) (sym same) upto;
          elsewhere = λ q other. ap (find path_cmp q) same;
          there = λ m found. ap (find path_cmp p) same ∙ found;
          added = λ none. let never : Some m ≡ None = sym e ∙ none in cc;
        }
    by_mark None e =
        let more = is.added e in
        let less = all_less old p upto e in
        record {
          rising = subst (λ (marks : List (Path × Mark)). IsTrue (is_sorted path_cmp marks)) (sym more)
              (is_sorted_from_rising path_cmp (old ++ (p, mark) ∷ [])
              (rising_append (λ a b. path_cmp a.0 b.0) old ((p, mark) ∷ [])
              (rising_from_is_sorted path_cmp old rising) (rising_one (λ a b. path_cmp a.0 b.0) (p, mark))
              (all_weaker (λ m. path_cmp m.0 p ≡ Less)
              (λ m. AllByRecursion (λ (n : Path × Mark). path_cmp m.0 n.0 ≡ Less) ((p, mark) ∷ []))
              (λ m l. (l, tt)) old less)));
          upto = subst (λ (marks : List (Path × Mark)). AreUpTo marks p) (sym more)
              (all_append (λ m. is_le (path_cmp m.0 p) ≡ true) old ((p, mark) ∷ []) upto (le_itself p, tt));
          elsewhere = λ q other. ap (find path_cmp q) more ∙ found_elsewhere old p q mark other;
          there = λ m found. let never : None ≡ Some m = sym e ∙ found in cc;
          added = λ none. ap (find path_cmp p) more ∙ found_here old p mark none;
        }

-- ---- steps of one path more

pub shown_more : (first second xs ys : List DumpStep) (old new : List (Path × Mark)) (p : Path)
    → AreShown first second old
    → AllByRecursion (λ c. step_path c ≡ p) xs → AllByRecursion (λ c. step_path c ≡ p) ys
    → IsTrue (is_sorted path_cmp new)
    → ((q : Path) → eq_by_cmp path_cmp q p ≡ false → find path_cmp q new ≡ find path_cmp q old)
    → Shows (find path_cmp p new) (own p first ++ xs) (own p second ++ ys) → AreShown (first ++ xs) (second ++ ys) new
shown_more first second xs ys old new p shown on_xs on_ys rising elsewhere here = record {
  rising = rising;
  each = λ q. by_test q (eq_by_cmp path_cmp q p) refl;
}
  where
    by_test : (q : Path) → (b : Bool) → eq_by_cmp path_cmp q p ≡ b
        → Shows (find path_cmp q new) (own q (first ++ xs)) (own q (second ++ ys))
    by_test q true e =
        let same : q ≡ p = same_from_test q p e in
        let left : own p (first ++ xs) ≡ own p first ++ xs =
        filter-append (λ c. eq_by_cmp path_cmp p (step_path c)) first xs
        ∙ ap (λ (more : List DumpStep). own p first ++ more) (own_all p xs on_xs) in
        let right : own p (second ++ ys) ≡ own p second ++ ys =
        filter-append (λ c. eq_by_cmp path_cmp p (step_path c)) second ys
        ∙ ap (λ (more : List DumpStep). own p second ++ more) (own_all p ys on_ys) in
        subst (λ (r : Path). Shows (find path_cmp r new) (own r (first ++ xs)) (own r (second ++ ys))) (sym same)
        (subst (λ (cs : List DumpStep). Shows (find path_cmp p new) cs (own p (second ++ ys))) (sym left)
        (subst (λ (ds : List DumpStep). Shows (find path_cmp p new) (own p first ++ xs) ds) (sym right) here))
    by_test q false e =
        let left : own q (first ++ xs) ≡ own q first =
        filter-append (λ c. eq_by_cmp path_cmp q (step_path c)) first xs
        ∙ ap (λ (more : List DumpStep). own q first ++ more) (own_none p q xs e on_xs) ∙ append-nil (own q first) in
        let right : own q (second ++ ys) ≡ own q second =
        filter-append (λ c. eq_by_cmp path_cmp q (step_path c)) second ys
        ∙ ap (λ (more : List DumpStep). own q second ++ more) (own_none p q ys e on_ys)
        ∙ append-nil (own q second) in
        subst (λ (cs : List DumpStep). Shows (find path_cmp q new) cs (own q (second ++ ys))) (sym left)
        (subst (λ (ds : List DumpStep). Shows (find path_cmp q new) (own q first) ds) (sym right)
        (subst (λ (found : Option Mark). Shows found (own q first) (own q second))
        (sym (elsewhere q e)) (shown.each q)))
