-- Each status once: what follows from the columns of the table of statuses, without a case for each of them.
use Rattle.std.proofs.Common.{◌≡◌, ◌⊎◌, ◌==◌, List, [], ◌∷◌, ℕ, Bool, true, false, refl, sym, ap, subst, inl}
use Rattle.std.proofs.Common.{inr, ⊎_elim, arith}
use Rattle.std.specs.Prelude.{not, ◌&&◌, ◌||◌}
use Rattle.std.specs.List.{AllByRecursion, list_all}
use Rattle.std.proofs.lemmas.Bool.{false≢true, cases_Bool, eqb-true, eqb-false, or_cases}
use Rattle.image_subcommands.specs.declared.status.Status.{Status}
use Rattle.image_subcommands.specs.Statuses.{row, every_status, IsOneOf}

-- ---- what holds of every status

first_true : (a b : Bool) → (a && b) ≡ true → a ≡ true
first_true true b e = refl
first_true false b e = e

second_true : (a b : Bool) → (a && b) ≡ true → b ≡ true
second_true true b e = e
second_true false b e = absurd (false≢true e)

all_true : (f : Status → Bool) (statuses : List Status) → list_all f statuses ≡ true
    → AllByRecursion (λ s. f s ≡ true) statuses
all_true f [] e = tt
all_true f (first ∷ others) e =
    (first_true (f first) (list_all f others) e, all_true f others (second_true (f first) (list_all f others) e))

-- the number of a status tells which it is (a lemma of one status, with what a column has of it in a premise, is proved
-- by `grind arith` as this one: it tries each)
by_code : (P : Status → Type 0) → AllByRecursion P every_status → (status : Status) (n : ℕ) → (row status).code ≡ n
    → P status
by_code P all status n e = grind arith

-- what holds of each status of the list of all holds of every status
pub among : (P : Status → Type 0) → AllByRecursion P every_status → (status : Status) → P status
among P all status = by_code P all status (row status).code refl

-- a test that every status of that list passes is passed by every status
pub each : (f : Status → Bool) → list_all f every_status ≡ true → (status : Status) → f status ≡ true
each f all = among (λ s. f s ≡ true) (all_true f every_status all)

follows : (a b : Bool) → (not a || b) ≡ true → a ≡ true → b ≡ true
follows true b e holds = e
follows false b e holds = absurd (false≢true holds)

-- where one column is true the other is
pub implied : (column other : Status → Bool) → list_all (λ s. not (column s) || other s) every_status ≡ true
    → (status : Status) → column status ≡ true → other status ≡ true
implied column other all status =
    follows (column status) (other status) (each (λ s. not (column s) || other s) all status)

-- ---- equal numbers are of equal statuses

-- whether both are the same
abbrev pub is_same : Status → Status → Bool
is_same status other = (row status).code == (row other).code

same_by_codes : (status other : Status) (n m : ℕ) → (row status).code ≡ n → (row other).code ≡ m → n ≡ m
    → status ≡ other
same_by_codes status other n m e f same = grind arith

pub same_from : (status other : Status) → is_same status other ≡ true → status ≡ other
same_from status other e = same_by_codes status other (row status).code (row other).code refl refl
    (eqb-true (row status).code (row other).code e)

-- a status is another, or is not
pub is_or_not : (status other : Status) → (status ≡ other) ⊎ (status ≡ other → ⊥)
is_or_not status other = elim (cases_Bool (is_same status other)) [
  | inl same ↦ inl (same_from status other same)
  | inr differs ↦ inr (λ e. eqb-false (row status).code (row other).code differs (ap (λ s. (row s).code) e))
]

-- ---- a list of statuses

-- whether the status is one of a list
abbrev pub is_one : Status → List Status → Bool
is_one status [] = false
is_one status (first ∷ others) = is_same status first || is_one status others

one_from : (status : Status) (statuses : List Status) → is_one status statuses ≡ true → IsOneOf status statuses
one_from status [] e = absurd (false≢true e)
one_from status (first ∷ others) e =
    ⊎_elim (λ f. inl (same_from status first f)) (λ f. inr (one_from status others f))
    (or_cases (is_same status first) (is_one status others) e)

-- the statuses of which a column of the table is true are among those of a list
abbrev pub Lists : (Status → Bool) → List Status → Type 0
Lists column statuses = list_all (λ s. not (column s) || is_one s statuses) every_status ≡ true

-- so a status of which it is true is one of them
pub ends_in : (column : Status → Bool) (statuses : List Status) → Lists column statuses → (status : Status)
    → column status ≡ true → IsOneOf status statuses
ends_in column statuses lists status holds =
    one_from status statuses (implied column (λ s. is_one s statuses) lists status holds)

-- what holds of each status of a list holds of one of them
pub one_of : (P : Status → Type 0) (statuses : List Status) → AllByRecursion P statuses → (status : Status)
    → IsOneOf status statuses → P status
one_of P [] all status is = absurd is
one_of P (first ∷ others) all status is =
    ⊎_elim (λ e. subst P (sym e) all.0) (λ other. one_of P others all.1 status other) is
