-- The session at a number, where one place is set anew.
use Rattle.std.proofs.Common.{◌≡◌, ℕ, zero, suc, ◌+◌, ◌<◌, [], ◌∷◌, length, replicate, slice_set, Bool, true, false}
use Rattle.std.proofs.Common.{Option, None, Some, nat_eq, refl, ap, ◌∙◌, arith, if◌then◌else◌}
use Rattle.std.proofs.Math.Dec.{eqb-zero-suc, eqb-suc-zero, eqb-suc-suc}
use Rattle.session_core.specs.Machine.{Session, Places, no_places, session_at, free_number}

-- a session is under a number that has a place
pub session_within : (places : Places) (id : ℕ) (session : Session)
    → session_at places id ≡ Some session → id < length places
session_within [] id session h = cc
session_within (place ∷ places) zero session h = omega arith
session_within (place ∷ places) (suc id) session h = let rest = session_within places id session h in omega arith

-- a place that is there is set, and no other
pub session_at-set : (places : Places) (id other : ℕ) (place : Option Session) → id < length places
    → session_at (slice_set places id place) other ≡ (if nat_eq id other then place else session_at places other)
session_at-set [] id other place h = absurd (omega arith)
session_at-set (first ∷ places) zero zero place h = refl
session_at-set (first ∷ places) zero (suc other) place h = rw (eqb-zero-suc other)
session_at-set (first ∷ places) (suc id) zero place h = rw (eqb-suc-zero id)
session_at-set (first ∷ places) (suc id) (suc other) place h =
    rw (eqb-suc-suc id other) (session_at-set places id other place (omega arith))

-- a place is emptied, whether it is there or not
pub session_at-clear : (places : Places) (id other : ℕ)
    → session_at (slice_set places id None) other ≡ (if nat_eq id other then None else session_at places other)
session_at-clear [] id other = by (nat_eq id other)
  where
    by : (same : Bool) → None ≡ (if same then None else session_at [] other)
    by true = refl
    by false = refl
session_at-clear (first ∷ places) zero zero = refl
session_at-clear (first ∷ places) zero (suc other) = rw (eqb-zero-suc other)
session_at-clear (first ∷ places) (suc id) zero = rw (eqb-suc-zero id)
session_at-clear (first ∷ places) (suc id) (suc other) = rw (eqb-suc-suc id other) (session_at-clear places id other)

-- places that are all empty have no session
none_among : (count id : ℕ) → session_at (replicate count None) id ≡ None
none_among zero id = refl
none_among (suc count) zero = refl
none_among (suc count) (suc id) = none_among count id

-- so has a machine that begins
pub session_at-none : (id : ℕ) → session_at no_places id ≡ None
session_at-none id = none_among 64 id

-- no session is at the number that is free
pub session_at-free : (places : Places) → session_at places (free_number places) ≡ None
session_at-free [] = refl
session_at-free (None ∷ places) = refl
session_at-free (Some session ∷ places) =
    let next : 1 + free_number places ≡ suc (free_number places) = omega arith in
    ap (session_at (Some session ∷ places)) next ∙ session_at-free places
