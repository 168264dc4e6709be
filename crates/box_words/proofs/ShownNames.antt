-- What is shown of names and paths, and that it is read back.
use Rattle.std.proofs.Common.{◌≡◌, ℕ, ◌≤◌, List, [], ◌∷◌, ◌++◌, length, map, refl, sym, ap, ap₂, ◌∙◌, subst, arith}
use Rattle.std.proofs.Common.{Bool, true, false, not, ◌==◌, ◌&&◌, cond, nat_le, IsTrue, Result, Ok, Err, IfOk, OnOk}
use Rattle.std.proofs.Common.{IsErrOf}
use Rattle.std.proofs.Common.{Some, append-nil, append_assoc}
use Rattle.std.specs.List.{All, list_all, flat_map, filter, slice_split}
use Rattle.std.specs.Cmp.Lexicographic.{bytes_decides}
use Rattle.std.proofs.lemmas.Bool.{cond-true, le-leb, leb-true, ne_eqb}
use Rattle.std.proofs.lemmas.List.{map-append}
use Rattle.std.proofs.lemmas.List.Concat.{flat_map-append}
use Rattle.std.proofs.lemmas.List.Elements.{All-from_recursion}
use Rattle.std.proofs.lemmas.List.Splits.{slice_split_none, slice_split_at, slice_split-cons_yes}
use Rattle.store_model.specs.Paths.{Path, is_name, is_path, is_root, fits_field, path_text}
use Rattle.store_model.specs.Grammar.{path_of}
use Rattle.store_model.proofs.ListsLemmas.{first_true, second_true, all_from_test}
use Rattle.model_laws.proofs.PathsLemmasTexts.{path_of-path_text}
use Rattle.host_names.specs.HostNames.{escaped, is_host_name, is_host_byte}
use Rattle.host_names.specs.HostPaths.{AreHostNames}
use Rattle.host_names.specs.Reading.{unescaped}
use Rattle.host_names.proofs.Spellings.{told}
use Rattle.box_words.specs.declared.paths.Spelling.{Spelling}
use Rattle.box_words.specs.declared.paths.Spelling.TheVariants.{Host, Escaped}
use Rattle.box_words.specs.declared.paths.PathWordFault.{PathWordFault}
use Rattle.box_words.specs.declared.paths.PathWordFault.TheVariants.{NoPath, TooLong}
use Rattle.box_words.specs.Shown.{Spells, IsOfHost, AllHost, is_spelling, shown_name, shown_text, reads_back}
use Rattle.box_words.specs.Shown.{names_between, parts_between, with_slash}

-- ---- a name

by_spelling : (b : Bool) (x y z : List ℕ) → b ≡ true → x ≡ z → cond b x y ≡ z
by_spelling true x y z e same = same
by_spelling false x y z e same = absurd cc

both : (a b : Bool) → a ≡ true → b ≡ true → (a && b) ≡ true
both true true p q = refl
both true false p q = q
both false b p q = p

-- a name that spells a name of the host is shown as that
pub host_shown : (n name : List ℕ) → IsTrue (is_host_name name) → escaped name ≡ n → shown_name Host n ≡ name
host_shown n name host e =
    let same : unescaped n ≡ name = told n name host e in
    by_spelling (is_spelling n) (unescaped n) n name
    (both _ _ (ap is_host_name same ∙ host)
    ((bytes_decides (escaped (unescaped n)) n).1 (ap escaped same ∙ e))) same

-- a name that spells none is shown as it is
pub none_shown : (n : List ℕ) → ((name : List ℕ) → IsTrue (is_host_name name) → escaped name ≡ n → ⊥)
    → shown_name Host n ≡ n
none_shown n none = go (is_spelling n) refl
  where
    go : (b : Bool) → is_spelling n ≡ b → cond b (unescaped n) n ≡ n
    go false e = refl
    go true e = absurd (none (unescaped n) (first_true _ _ e)
        ((bytes_decides (escaped (unescaped n)) n).0 (second_true _ _ e)))

-- what is shown of a spelling is the name of the host that it spells
spelled_back : (n : List ℕ) → IsTrue (is_spelling n)
    → IsTrue (is_host_name (shown_name Host n)) × (escaped (shown_name Host n) ≡ n)
spelled_back n is =
    let shown : shown_name Host n ≡ unescaped n = by_spelling (is_spelling n) (unescaped n) n (unescaped n) is refl in (
      ap is_host_name shown ∙ first_true _ _ is,
      ap escaped shown ∙ (bytes_decides (escaped (unescaped n)) n).0 (second_true _ _ is),
    )

-- ---- a path

-- `/` and what the function makes of the name, for each name
abbrev pub text_by : (List ℕ → List ℕ) → Path → List ℕ
text_by f p = flat_map (λ n. 0x2f ∷ n) (map f p)

pub text_by_root : (f : List ℕ → List ℕ) (p : Path) (old : List ℕ) → IsTrue (is_root p) → old ≡ old ++ text_by f p
text_by_root f [] old root = sym (append-nil old)
text_by_root f (n ∷ p) old root = absurd cc

pub text_by_more : (f : List ℕ → List ℕ) (p q : Path) (n old mid new : List ℕ) → p ≡ q ++ n ∷ []
    → mid ≡ old ++ text_by f q → new ≡ mid ++ (0x2f ∷ f n) → new ≡ old ++ text_by f p
text_by_more f p q n old mid new e front last =
    let whole : text_by f p ≡ text_by f q ++ (0x2f ∷ f n) =
    ap (text_by f) e ∙ ap (flat_map (λ n. 0x2f ∷ n)) (map-append f q (n ∷ []))
    ∙ flat_map-append (λ n. 0x2f ∷ n) (map f q) (f n ∷ [])
    ∙ ap (λ (t : List ℕ). text_by f q ++ t) (append-nil (0x2f ∷ f n)) in
    last ∙ ap (λ (t : List ℕ). t ++ (0x2f ∷ f n)) front ∙ append_assoc old (text_by f q) (0x2f ∷ f n)
    ∙ ap (λ (t : List ℕ). old ++ t) (sym whole)

pub root_text : (f : List ℕ → List ℕ) (p : Path) → IsTrue (is_root p) → path_text (map f p) ≡ 0x2f ∷ []
unfolding path_text
root_text f [] root = refl
root_text f (n ∷ p) root = absurd cc

pub other_text : (f : List ℕ → List ℕ) (p : Path) → is_root p ≡ false → path_text (map f p) ≡ text_by f p
unfolding path_text
other_text f [] other = absurd cc
other_text f (n ∷ p) other = refl

-- ---- reading back

false_from_not : (b : Bool) → IsTrue (not b) → b ≡ false
false_from_not true h = sym h
false_from_not false h = refl

no_slash : (n : List ℕ) → IsTrue (is_host_name n) → All (λ b. (b == 0x2f) ≡ false) n
no_slash n h =
    All-from_recursion (λ b. (b == 0x2f) ≡ false) n
    (all_from_test is_host_byte (λ b. (b == 0x2f) ≡ false) (λ b t. false_from_not (b == 0x2f) (second_true _ _ t)) n
    (second_true _ _ (first_true _ _ (first_true _ _ h))))

split_names : (n : List ℕ) (names : List (List ℕ)) → IsTrue (is_host_name n) → AllHost names
    → slice_split (λ b. b == 0x2f) (n ++ flat_map (λ m. 0x2f ∷ m) names) ≡ n ∷ names
split_names n [] h all = ap (slice_split (λ b. b == 0x2f)) (append-nil n)
    ∙ slice_split_none (λ b. b == 0x2f) n (no_slash n h)
split_names n (m ∷ names) h all =
    slice_split_at (λ b. b == 0x2f) n 0x2f (m ++ flat_map (λ k. 0x2f ∷ k) names) (no_slash n h) refl
    ∙ ap (λ parts. n ∷ parts) (split_names m names all.0 all.1)

some_name : (n : List ℕ) → IsTrue (is_host_name n) → not (length n == 0) ≡ true
some_name n h =
    let one : 1 ≤ length n = leb-true 1 (length n) (first_true _ _ (first_true _ _ (first_true _ _ h))) in
    ap not (ne_eqb (length n) 0 (λ e. absurd (omega (arith, one, e))))

all_stay : (names : List (List ℕ)) → AllHost names → filter (λ n. not (length n == 0)) names ≡ names
all_stay [] all = refl
all_stay (n ∷ names) all = cond-true (not (length n == 0)) _ _ (some_name n all.0)
    ∙ ap (λ parts. n ∷ parts) (all_stay names all.1)

between : (names : List (List ℕ)) → AllHost names → names_between (path_text names) ≡ names
unfolding path_text parts_between
between [] all = refl
between (n ∷ names) all =
    ap (filter (λ n. not (length n == 0)))
    (slice_split-cons_yes (λ b. b == 0x2f) 0x2f (n ++ flat_map (λ m. 0x2f ∷ m) names) refl
    ∙ ap (λ (parts : List (List ℕ)). [] ∷ parts) (split_names n names all.0 all.1))
    ∙ all_stay (n ∷ names) all

long_enough : (names : List (List ℕ)) → nat_le 1 (length (path_text names)) ≡ true
unfolding path_text
long_enough [] = refl
long_enough (n ∷ names) = le-leb 1 _ (omega arith)

all_back : (p : Path) → IsTrue (list_all (reads_back Host) p) → AreHostNames p (map (shown_name Host) p)
all_back [] all = record { each = tt; spelled = refl }
all_back (n ∷ p) all =
    let one = spelled_back n (first_true _ _ all) in
    let rest : AreHostNames p (map (shown_name Host) p) = all_back p (second_true _ _ all) in
    record { each = (one.0, rest.each); spelled = ap₂ (λ a b. a ∷ b) one.1 rest.spelled }

as_spelled : (p : Path) → map (shown_name Escaped) p ≡ p
as_spelled [] = refl
as_spelled (n ∷ p) = ap (λ (q : Path). n ∷ q) (as_spelled p)

has_slash : (p : Path) → with_slash (path_text p) ≡ path_text p
unfolding path_text
has_slash [] = refl
has_slash (n ∷ p) = refl

-- what is shown of a path spells it
pub spells_shown : (s : Spelling) (text : List ℕ) (p : Path) → IsTrue (is_path p)
    → IsTrue (list_all (reads_back s) p) → text ≡ shown_text s p → Spells s text p
spells_shown Host text p valid back e =
    let are : AreHostNames p (map (shown_name Host) p) = all_back p back in
    subst (λ t. IsOfHost t p) (sym e) (record {
      some = long_enough (map (shown_name Host) p);
      are = subst (λ names. AreHostNames p names) (sym (between (map (shown_name Host) p) are.each)) are;
    })
spells_shown Escaped text p valid back e =
    ap (λ t. path_of (with_slash t)) (e ∙ ap path_text (as_spelled p)) ∙ ap path_of (has_slash p)
    ∙ path_of-path_text p (first_true _ _ valid)

some_same : (p q : Path) → Some p ≡ Some q → p ≡ q
some_same p q e = cc

-- a text spells one path
pub spells_one : (s : Spelling) (text : List ℕ) (p q : Path) → Spells s text p → Spells s text q → p ≡ q
spells_one Host text p q of other = sym of.are.spelled ∙ other.are.spelled
spells_one Escaped text p q of other = some_same p q (sym of ∙ other)

-- so it is read back
pub reads : (s : Spelling) (text : List ℕ) (r : Result Path PathWordFault) → IfOk r (λ p. Spells s text p)
    → (IsErrOf r NoPath → (p : Path) → Spells s text p → ⊥)
    → (IsErrOf r TooLong → (p : Path) → Spells s text p → fits_field p ≡ false)
    → (p : Path) → IsTrue (is_path p) → IsTrue (list_all (reads_back s) p) → text ≡ shown_text s p → r ≡ Ok p
reads s text (Ok q) ok none long p valid back e = ap Ok (spells_one s text q p ok (spells_shown s text p valid back e))
reads s text (Err NoPath) ok none long p valid back e =
    absurd (none refl p (spells_shown s text p valid back e))
reads s text (Err TooLong) ok none long p valid back e =
    let fits : fits_field p ≡ true = second_true (list_all is_name p) (fits_field p) valid in
    let never : fits_field p ≡ false = long refl p (spells_shown s text p valid back e) in
    let wrong : true ≡ false = sym fits ∙ never in absurd cc

pub on_ok : {E A B : Type 0} (r : Result (Unit {0}) E) → (A → B) → OnOk r A → OnOk r B
on_ok (Ok x) f a = f a
on_ok (Err e) f a = tt
