-- A path with one more name.
use Rattle.std.proofs.Common.{◌≡◌, ℕ, ◌≤◌, ◌<◌, ◌^◌, List, [], ◌∷◌, ◌++◌, length, refl, sym, ap, ◌∙◌, subst, arith}
use Rattle.std.proofs.Common.{Bool, true, false, IsTrue, Option, Some, None, IsSome, IsNone, ◌↔◌, Err, IsErrOf}
use Rattle.std.proofs.Common.{append-nil, length-append}
use Rattle.std.specs.List.{list_all}
use Rattle.std.proofs.lemmas.Bool.{and_from, lt-leb}
use Rattle.store_model.specs.Paths.{Path, is_name, is_path, is_place, is_root, fits_field, field_len, name_bytes}
use Rattle.store_model.specs.Paths.{path_text, is_at_or_inside, is_inside, replanted, key}
use Rattle.store_model.specs.Grammar.{path_of}
use Rattle.store_model.proofs.ListsLemmas.{first_true}
use Rattle.store_model.proofs.PathsLemmas.{place_of_path}
use Rattle.model_laws.proofs.PathsLemmasTexts.{path_of-path_text}
use Rattle.path_keys.proofs.NameBytes.{name_bytes-append, name_bytes-cons}
use Rattle.path_keys.proofs.PathBytes.{all_of_both}
use Rattle.path_keys.specs.declared.paths.PathFault.{PathFault}
use Rattle.path_keys.specs.declared.paths.PathFault.TheVariants.{Syntax, TooLong}

-- the text of one name spells its path
pub path_of_name : (n : List ℕ) → IsTrue (is_name n) → path_of (0x2f ∷ n) ≡ Some (n ∷ [])
unfolding path_text
path_of_name n h = ap path_of (sym (append-nil (0x2f ∷ n)))
    ∙ path_of-path_text (n ∷ []) (and_from (is_name n) true h refl)

-- what spells a path, and is not too long, is read
pub is_read : (e : PathFault) (text : List ℕ) (p : Path) → path_of text ≡ Some p → length text ≤ 120
    → (IsErrOf {T = Path} (Err e) Syntax ↔ (path_of text ≡ None))
    → (IsErrOf {T = Path} (Err e) TooLong ↔ (IsSome (path_of text) × (120 < length text))) → ⊥
is_read Syntax text p is few syntax too_long = let none : path_of text ≡ None = syntax.0 refl
    in let wrong : Some p ≡ None = sym is ∙ none in absurd cc
is_read TooLong text p is few syntax too_long = let long : 120 < length text = (too_long.0 refl).1
    in absurd (omega arith)

root_above : (n : List ℕ) → IsTrue (is_at_or_inside (n ∷ []) [])
unfolding is_inside
root_above n = refl

below_root : (folder place : Path) → replanted [] folder place ≡ folder ++ place
unfolding replanted
below_root folder place = refl

-- a key of one name is moved to a folder
abbrev pub IsMoved : Path → Path → List ℕ → List ℕ → Type 0
IsMoved old folder from to = (place : Path) (block : ℕ) → IsTrue (is_place place)
    → IsTrue (is_at_or_inside place old) → block < 2 ^ 32
    → from ≡ key place block → to ≡ key (replanted old folder place) block

abbrev pub FitsMoved : Path → Path → List ℕ → Option (List ℕ) → Type 0
FitsMoved old folder from moved = (place : Path) (block : ℕ) → IsTrue (is_place place)
    → IsTrue (is_at_or_inside place old) → block < 2 ^ 32
    → from ≡ key place block → (IsNone moved ↔ (fits_field (replanted old folder place) ≡ false))

pub moved_name : (old folder one : Path) (n from to : List ℕ) → old ≡ [] → one ≡ n ∷ [] → IsTrue (is_path one)
    → from ≡ key one 0 → IsMoved old folder from to
    → to ≡ key (folder ++ n ∷ []) 0
moved_name old folder one n from to root is valid of moves =
    subst (λ o. IsMoved o folder from to) root moves (n ∷ []) 0
    (place_of_path (n ∷ []) (subst (λ p. IsTrue (is_path p)) is valid)) (root_above n) (omega arith)
    (of ∙ ap (λ p. key p 0) is)
    ∙ ap (λ p. key p 0) (below_root folder (n ∷ []))

pub fits_name : (old folder one : Path) (n from : List ℕ) (moved : Option (List ℕ)) → old ≡ [] → one ≡ n ∷ []
    → IsTrue (is_path one) → from ≡ key one 0
    → FitsMoved old folder from moved → (IsNone moved ↔ (fits_field (folder ++ n ∷ []) ≡ false))
fits_name old folder one n from moved root is valid of fits =
    subst (λ p. IsNone moved ↔ (fits_field p ≡ false)) (below_root folder (n ∷ []))
    (subst (λ o. FitsMoved o folder from moved) root fits (n ∷ []) 0
    (place_of_path (n ∷ []) (subst (λ p. IsTrue (is_path p)) is valid)) (root_above n) (omega arith)
    (of ∙ ap (λ p. key p 0) is))

true_unless : (b : Bool) → (b ≡ false → ⊥) → b ≡ true
true_unless true h = refl
true_unless false h = absurd (h refl)

pub path_with : (folder : Path) (n to : List ℕ) → IsTrue (is_path folder) → IsTrue (is_name n)
    → (IsNone (Some to) ↔ (fits_field (folder ++ n ∷ []) ≡ false)) → IsTrue (is_path (folder ++ n ∷ []))
path_with folder n to valid name fits =
    and_from (list_all is_name (folder ++ n ∷ [])) _
    (all_of_both is_name folder (n ∷ []) (first_true (list_all is_name folder) _ valid)
    (and_from (is_name n) true name refl))
    (true_unless (fits_field (folder ++ n ∷ [])) (λ h. let none : true ≡ false = fits.1 h in absurd cc))

pub not_root : (folder : Path) (n : List ℕ) → is_root (folder ++ n ∷ []) ≡ false
not_root [] n = refl
not_root (m ∷ folder) n = refl

-- a name that is too long for a field is so in each folder
pub long_name : (folder : Path) (n : List ℕ) → 119 < length n → fits_field (folder ++ n ∷ []) ≡ false
long_name folder n long =
    lt-leb (field_len (folder ++ n ∷ [])) 120
    (omega (
      arith,
      ap length (name_bytes-append folder (n ∷ [])),
      length-append (name_bytes folder) (name_bytes (n ∷ [])),
      ap length (name_bytes-cons n []),
      length-append n (0 ∷ name_bytes []),
    ))

-- what is there is not nothing
pub is_there : (o : Option (Path × ℕ)) (x : Path × ℕ) → o ≡ None → o ≡ Some x → ⊥
is_there o x none some = let e : None ≡ Some x = sym none ∙ some in absurd cc

-- what an answer is, it is once
pub same_first : (o : Option (Path × ℕ)) (found : Path × ℕ) (y : Path) (j : ℕ) → o ≡ Some found
    → o ≡ Some (y, j) → found.0 ≡ y
same_first o found y j first second = let e : Some found ≡ Some (y, j) = sym first ∙ second
    in let same : found ≡ (y, j) = cc in ap (λ (f : Path × ℕ). f.0) same
