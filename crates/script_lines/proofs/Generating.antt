-- The paths of generated commands, each spelled by its text, and the steps of their states.
use Rattle.std.proofs.Common.{◌≡◌, ℕ, zero, suc, ◌+◌, ◌<◌, List, [], ◌∷◌, ◌++◌, Bool, ◌&&◌, false, inl, inr, refl, sym}
use Rattle.std.proofs.Common.{ap, subst, arith, Some, None, IsSome, Option, true}
use Rattle.std.specs.Fmt.{digits}
use Rattle.std.proofs.lemmas.Bool.{cases_lt}
use Rattle.store_model.specs.Paths.{Path, same_path}
use Rattle.store_model.specs.Grammar.{path_of}
use Rattle.path_keys.proofs.NameBytes.{first_true, second_true}
use Rattle.path_keys.proofs.InsideBytes.{same_path-true}
use Rattle.script_lines.specs.Generated.{directory_path, file_path, next_state, state_after}

-- whether each of the first numbers passes a test
abbrev pub all_below : ℕ → (ℕ → Bool) → Bool
all_below zero passes = true
all_below (suc k) passes = all_below k passes && passes k

from_all_below : (passes : ℕ → Bool) (k : ℕ) → all_below k passes ≡ true → (n : ℕ) → n < k → passes n ≡ true
from_all_below passes zero all n below = absurd (omega arith)
from_all_below passes (suc k) all n below = elim (cases_lt n k) [
  | inl less ↦ from_all_below passes k (first_true _ _ all) n less
  | inr more ↦ (let last : k ≡ n = omega arith in subst (λ m. passes m ≡ true) last (second_true _ _ all))
]

-- whether a path was read, and it is this one
abbrev pub is_read_as : Option Path → Path → Bool
is_read_as None p = false
is_read_as (Some q) p = same_path q p

read_as : (read : Option Path) (p : Path) → is_read_as read p ≡ true → read ≡ Some p
read_as None p same = cc
read_as (Some q) p same = ap Some (same_path-true q p same)

-- the text of a directory's path, and the texts of its files' paths, of one digit and of two
abbrev pub directory_text : ℕ → List ℕ
directory_text directory = 47 ∷ 100 ∷ (48 + directory) ∷ []

abbrev pub file_text : ℕ → ℕ → List ℕ
file_text directory file = directory_text directory ++ 47 ∷ 102 ∷ (48 + file) ∷ []

abbrev pub long_file_text : ℕ → ℕ → List ℕ
long_file_text directory file = directory_text directory ++ 47 ∷ 102 ∷ 49 ∷ (48 + file) ∷ []

pub path_of-directory_text : (directory : ℕ) → directory < 8
    → path_of (directory_text directory) ≡ Some (directory_path directory)
unfolding path_of digits
path_of-directory_text directory below =
    read_as _ _ (from_all_below (λ n. is_read_as (path_of (directory_text n)) (directory_path n))
    8 refl directory below)

pub path_of-file_text : (directory file : ℕ) → directory < 8 → file < 10
    → path_of (file_text directory file) ≡ Some (file_path directory file)
unfolding path_of digits
path_of-file_text directory file d f =
    read_as _ _ (from_all_below (λ m. is_read_as (path_of (file_text directory m)) (file_path directory m)) 10
    (from_all_below (λ n. all_below 10 (λ m. is_read_as (path_of (file_text n m)) (file_path n m))) 8 refl directory d)
    file f)

pub path_of-long_file_text : (directory file : ℕ) → directory < 8 → file < 6
    → path_of (long_file_text directory file) ≡ Some (file_path directory (10 + file))
unfolding path_of digits
path_of-long_file_text directory file d f =
    read_as _ _ (from_all_below (λ m. is_read_as (path_of (long_file_text directory m)) (file_path directory (10 + m)))
    6
    (from_all_below (λ n. all_below 6 (λ m. is_read_as (path_of (long_file_text n m)) (file_path n (10 + m)))) 8
    refl directory d) file f)

-- a text spells one path
pub spells_one : (text : Option Path) (p q : Path) → text ≡ Some p → text ≡ Some q → p ≡ q
spells_one text p q a b = cc

pub spells_some : (text : Option Path) (p : Path) → text ≡ Some p → IsSome text
spells_some text p e = subst IsSome (sym e) refl

-- one more step
pub state_later : (number place : ℕ) → state_after number (place + 1) ≡ next_state (state_after number place)
unfolding state_after
state_later number place = let more : place + 1 ≡ suc place = omega arith in ap (state_after number) more
