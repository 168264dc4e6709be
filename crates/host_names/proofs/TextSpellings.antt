-- Which names of a path are spellings of names that are UTF-8.
use Rattle.std.proofs.Common.{◌≡◌, ℕ, List, [], ◌∷◌, ◌++◌, Bool, true, false, ◌&&◌, IsTrue, refl, sym, ap, subst, ◌∙◌}
use Rattle.std.specs.List.{list_all}
use Rattle.std.specs.Str.{is_utf8}
use Rattle.std.specs.Cmp.Lexicographic.{bytes_decides}
use Rattle.store_model.specs.Lists.{same_bytes}
use Rattle.store_model.specs.Paths.{Path}
use Rattle.store_model.proofs.ListsLemmas.{first_true, second_true}
use Rattle.host_names.specs.HostNames.{escaped, is_host_name}
use Rattle.host_names.specs.Reading.{unescaped, is_spelling, is_text_spelling, has_host_text}
use Rattle.host_names.proofs.Spellings.{unescaped-escaped}

both : (a b : Bool) → a ≡ true → b ≡ true → (a && b) ≡ true
both true true p q = refl
both true false p q = q
both false b p q = p

-- the spelling of a name
pub spelled_text : (n name : List ℕ) (answer : Bool) → IsTrue (is_host_name name) → escaped name ≡ n
    → answer ≡ is_utf8 name → answer ≡ is_text_spelling n
spelled_text n name answer host e is =
    let same : unescaped n ≡ name = ap unescaped (sym e) ∙ unescaped-escaped name host in
    let spells : is_spelling n ≡ true = both _ _ (ap is_host_name same ∙ host)
    ((bytes_decides (escaped (unescaped n)) n).1 (ap escaped same ∙ e)) in
    is ∙ sym (ap (λ (b : Bool). b && is_utf8 (unescaped n)) spells ∙ ap is_utf8 same)

-- what spells none
pub spelled_none : (n : List ℕ) → ((name : List ℕ) → IsTrue (is_host_name name) → escaped name ≡ n → ⊥)
    → false ≡ is_text_spelling n
spelled_none n none = go (is_spelling n) refl
  where
    go : (b : Bool) → is_spelling n ≡ b → false ≡ (b && is_utf8 (unescaped n))
    go false e = refl
    go true e = absurd (none (unescaped n) (first_true _ _ e)
        ((bytes_decides (escaped (unescaped n)) n).0 (second_true _ _ e)))

-- ---- a path

swapped : (b : Bool) → (b && true) ≡ b
swapped true = refl
swapped false = refl

joined : (a b c : Bool) → (a && (b && c)) ≡ ((a && b) && c)
joined true b c = refl
joined false b c = refl

all_more : (q : Path) (n : List ℕ) → has_host_text (q ++ n ∷ []) ≡ (has_host_text q && is_text_spelling n)
all_more [] n = swapped (is_text_spelling n)
all_more (m ∷ q) n = ap (λ (b : Bool). is_text_spelling m && b) (all_more q n)
    ∙ joined (is_text_spelling m) (has_host_text q) (is_text_spelling n)

-- one name more, which is one, or is none
pub text_more : (p q : Path) (n : List ℕ) (first rest : Bool) → p ≡ q ++ n ∷ [] → first ≡ is_text_spelling n
    → first ≡ true → rest ≡ has_host_text q → rest ≡ has_host_text p
text_more p q n first rest e is so rest_is =
    let split : has_host_text p ≡ (has_host_text q && is_text_spelling n) = ap has_host_text e ∙ all_more q n in
    rest_is ∙ sym (split ∙ ap (λ (b : Bool). has_host_text q && b) (sym is ∙ so) ∙ swapped (has_host_text q))

never : (b : Bool) → (b && false) ≡ false
never true = refl
never false = refl

pub text_less : (p q : Path) (n : List ℕ) (first : Bool) → p ≡ q ++ n ∷ [] → first ≡ is_text_spelling n
    → first ≡ false → first ≡ has_host_text p
text_less p q n first e is lacks =
    let split : has_host_text p ≡ (has_host_text q && is_text_spelling n) = ap has_host_text e ∙ all_more q n in
    lacks ∙ sym (split ∙ ap (λ (b : Bool). has_host_text q && b) (sym is ∙ lacks) ∙ never (has_host_text q))
