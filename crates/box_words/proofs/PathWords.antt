-- The names that a text tells, part by part.
use Rattle.std.proofs.Common.{◌≡◌, ℕ, ◌<◌, List, [], ◌∷◌, ◌++◌, length, map, refl, sym, ap}
use Rattle.std.proofs.Common.{◌∙◌, subst, arith, Bool, true, false, not, cond, ◌==◌, nat_le, IsTrue, Option, Some}
use Rattle.std.proofs.Common.{None, IfSome, append-nil, append_assoc, length-append}
use Rattle.std.specs.Option.{MatchOption}
use Rattle.std.specs.List.{list_all, filter, slice_split}
use Rattle.std.proofs.lemmas.Bool.{lt-leb, le-leb, leb-true}
use Rattle.std.proofs.lemmas.List.{map-append}
use Rattle.store_model.specs.Paths.{Path, is_name, fits_field, field_len, name_bytes}
use Rattle.store_model.specs.Grammar.{path_of}
use Rattle.store_model.proofs.ListsLemmas.{all_append, all_front, all_back}
use Rattle.path_keys.proofs.NameBytes.{field_len-split, name_bytes-append}
use Rattle.host_names.specs.HostNames.{escaped, is_host_name}
use Rattle.box_words.specs.Shown.{AllHost, IsOfHost, name_in, names_between, parts_between, with_slash}

-- ---- the parts

cond_front : (b : Bool) (n : List ℕ) (names : List (List ℕ)) → cond b (n ∷ names) names ≡ cond b (n ∷ []) [] ++ names
cond_front true n names = refl
cond_front false n names = refl

pub between_more : (c : ℕ) (text n rest : List ℕ)
    → slice_split (λ b. b == c) text ≡ n ∷ slice_split (λ b. b == c) rest
    → parts_between c text ≡ name_in n ++ parts_between c rest
unfolding parts_between
between_more c text n rest e =
    ap (filter (λ m. not (length m == 0))) e
    ∙ cond_front (not (length n == 0)) n (filter (λ m. not (length m == 0)) (slice_split (λ b. b == c) rest))

pub between_last : (c : ℕ) (text : List ℕ) → slice_split (λ b. b == c) text ≡ text ∷ []
    → parts_between c text ≡ name_in text
unfolding parts_between
between_last c text e = ap (filter (λ m. not (length m == 0))) e

-- ---- a text that is read

-- the path is that of the names in front of the rest
pub record Reads (text : List ℕ) (path : Path) (rest : List ℕ) : Type 0 where
  pub some : nat_le 1 (length text) ≡ true
  pub spelled : path ++ map escaped (names_between rest) ≡ map escaped (names_between text)
  pub whole : AllHost (names_between rest) → AllHost (names_between text)
  pub parts : AllHost (names_between text) → AllHost (names_between rest)

pub begins : (text : List ℕ) (path : Path) → nat_le 1 (length text) ≡ true → path ≡ [] → Reads text path text
begins text path some e = record {
  some = some;
  spelled = ap (λ (p : Path). p ++ map escaped (names_between text)) e;
  whole = λ all. all;
  parts = λ all. all;
}

pub next : (text : List ℕ) (path : Path) (rest n behind : List ℕ) (new : Path) → Reads text path rest
    → names_between rest ≡ name_in n ++ names_between behind → new ≡ path ++ map escaped (name_in n)
    → AllHost (name_in n) → Reads text new behind
next text path rest n behind new reads e is host = record {
  some = reads.some;
  spelled =
      ap (λ (p : Path). p ++ map escaped (names_between behind)) is
      ∙ append_assoc path (map escaped (name_in n)) (map escaped (names_between behind))
      ∙ ap (λ (q : Path). path ++ q) (sym (ap (map escaped) e ∙ map-append escaped (name_in n) (names_between behind)))
      ∙ reads.spelled;
  whole = λ all. reads.whole (subst AllHost (sym e)
      (all_append (λ m. IsTrue (is_host_name m)) (name_in n) (names_between behind) host all));
  parts = λ all. all_back (λ m. IsTrue (is_host_name m)) (name_in n) (names_between behind)
      (subst AllHost e (reads.parts all));
}

pub last : (text : List ℕ) (path : Path) (rest n : List ℕ) (new : Path) → Reads text path rest
    → names_between rest ≡ name_in n → new ≡ path ++ map escaped (name_in n) → AllHost (name_in n) → IsOfHost text new
last text path rest n new reads e is host = record {
  some = reads.some;
  are = record {
    each = reads.whole (subst AllHost (sym e) host);
    spelled = sym (is ∙ ap (λ names. path ++ map escaped names) (sym e) ∙ reads.spelled);
  };
}

-- what the first name of the rest is of the rest
pub IsFront : List ℕ → List ℕ → Type 0
IsFront n rest = (tail : List (List ℕ)) × (names_between rest ≡ name_in n ++ tail)

pub front_last : (n rest : List ℕ) → names_between rest ≡ name_in n → IsFront n rest
unfolding IsFront
front_last n rest e = ([], e ∙ sym (append-nil (name_in n)))

pub front_more : (n rest behind : List ℕ) → names_between rest ≡ name_in n ++ names_between behind → IsFront n rest
unfolding IsFront
front_more n rest behind e = (names_between behind, e)

pub no_path : (text : List ℕ) (path : Path) (rest n : List ℕ) → Reads text path rest → IsFront n rest
    → (AllHost (name_in n) → ⊥) → (p : Path) → IsOfHost text p → ⊥
unfolding IsFront
no_path text path rest n reads front never p of =
    never (all_front (λ m. IsTrue (is_host_name m)) (name_in n) front.0
    (subst AllHost front.1 (reads.parts of.are.each)))

longer : (p q : Path) → fits_field p ≡ false → fits_field (p ++ q) ≡ false
longer p q long = go (fits_field (p ++ q)) refl
  where
    go : (b : Bool) → fits_field (p ++ q) ≡ b → fits_field (p ++ q) ≡ false
    go false e = e
    go true e =
        let fits : fits_field p ≡ true = le-leb (field_len p) 120 (omega (
          arith,
          leb-true (field_len (p ++ q)) 120 e,
          ap length (name_bytes-append p q),
          length-append (name_bytes p) (name_bytes q),
        )) in
        let wrong : true ≡ false = sym fits ∙ long in absurd cc

pub too_long : (text : List ℕ) (path : Path) (rest n : List ℕ) → Reads text path rest → IsFront n rest
    → fits_field (path ++ map escaped (name_in n)) ≡ false → (p : Path) → IsOfHost text p → fits_field p ≡ false
unfolding IsFront
too_long text path rest n reads front long p of =
    let whole : p ≡ (path ++ map escaped (name_in n)) ++ map escaped front.0 =
    sym of.are.spelled ∙ sym reads.spelled
    ∙ ap (λ (q : Path). path ++ q) (ap (map escaped) front.1 ∙ map-append escaped (name_in n) front.0)
    ∙ sym (append_assoc path (map escaped (name_in n)) (map escaped front.0)) in
    ap fits_field whole ∙ longer (path ++ map escaped (name_in n)) (map escaped front.0) long

-- ---- a text in the image's spelling

-- a text that is too long spells a path that is
pub long_text : (text : List ℕ) → 119 < length text → IfSome (path_of (0x2f ∷ text)) (λ p. fits_field p ≡ false)
unfolding path_of
long_text [] long = absurd (omega arith)
long_text (c ∷ text) long = go (list_all is_name (slice_split (λ b. b == 0x2f) (c ∷ text)))
  where
    go : (b : Bool) → IfSome (cond b (Some (slice_split (λ b. b == 0x2f) (c ∷ text))) None) (λ p. fits_field p ≡ false)
    go true = lt-leb _ 120 (omega (arith, field_len-split 0x2f (c ∷ text), long))
    go false = tt

-- a text with no bytes spells nothing
pub nothing_spelled : (text : List ℕ) (p : Path) → length text < 1 → path_of (with_slash text) ≡ Some p → ⊥
unfolding path_of
nothing_spelled [] p short e = cc
nothing_spelled (c ∷ text) p short e = absurd (omega arith)

pub front_of : {R : Type 0} (now : R → List ℕ) (n rest : List ℕ) (behind : Option R)
    → MatchOption behind (names_between rest ≡ name_in n) (λ r. names_between rest ≡ name_in n ++ names_between (now r))
    → IsFront n rest
front_of now n rest (Some r) e = front_more n rest (now r) e
front_of now n rest None e = front_last n rest e
