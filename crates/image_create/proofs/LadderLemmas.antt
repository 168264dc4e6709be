-- The ladder of slots.
use Rattle.std.proofs.Common.{◌≡◌, ◌↔◌, inl, inr, ℕ, ◌*◌, ◌<◌, ◌≤◌, Option, Some, None, Bool, true, false, nat_le}
use Rattle.std.proofs.Common.{if◌then◌else◌, refl, ap, subst, arith, rules}
use Rattle.std.specs.List.{find, AllByRecursion}
use Rattle.std.proofs.lemmas.Bool.Decides.{nat_tests}
use Rattle.store_model.specs.Parameters.{slots_limit}
use Rattle.image_create.specs.Ladder.{AreLeast, first_or, has_room, ladder_of, most_for, rungs}
use Rattle.image_create.proofs.Finding.{Rises, each_stands, first_is_least, found_passes, found_stands, none_passes}

rungs_rise : Rises rungs
rungs_rise = search rules

low_rungs : AllByRecursion (λ slots. slots ≤ slots_limit) rungs
low_rungs = search rules

room_is : (pages slots : ℕ) → has_room pages slots ≡ true → 4 * pages ≤ 3 * slots
room_is pages slots room = grind (arith, nat_tests, room)

fits_by : (b : Bool) (pages slots : ℕ) → nat_le pages slots_limit ≡ b
    → (if b then Some slots_limit else None) ≡ Some slots → (pages ≤ slots_limit) × (slots_limit ≡ slots)
fits_by true pages slots test is = (grind (arith, nat_tests, test), cc is)
fits_by false pages slots test is = absurd (cc is)

-- the most slots are those of an image that fits no others with room
least_of : (pages slots : ℕ) (found : Option ℕ) → find (has_room pages) rungs ≡ found
    → first_or found (most_for pages) ≡ Some slots → AreLeast pages slots
least_of pages slots None none is =
    let fits = fits_by (nat_le pages slots_limit) pages slots refl is in
    subst (AreLeast pages) fits.1 (record {
      rung = (10, omega arith, refl);
      fits = fits.0;
      room = inr refl;
      least = λ other held room. absurd (none_passes (has_room pages) rungs other none held room);
    })
least_of pages slots (Some first) found is =
    let same : first ≡ slots = cc is in
    let room = found_passes (has_room pages) rungs first found in
    subst (AreLeast pages) same (record {
      rung = found_stands (has_room pages) rungs first found;
      fits = omega (arith, room_is pages first room);
      room = inl room;
      least = λ other held roomy. first_is_least (has_room pages) rungs first other rungs_rise found held roomy;
    })

pub least : (pages slots : ℕ) → ladder_of pages ≡ Some slots → AreLeast pages slots
least pages slots is = least_of pages slots (find (has_room pages) rungs) refl is

many_by : (b : Bool) (pages : ℕ) → nat_le pages slots_limit ≡ b → (if b then Some slots_limit else None) ≡ None
    → slots_limit < pages
many_by true pages test is = absurd (cc is)
many_by false pages test is = grind (arith, nat_tests, test)

many_of : (pages : ℕ) (found : Option ℕ) → first_or found (most_for pages) ≡ None → slots_limit < pages
many_of pages None is = many_by (nat_le pages slots_limit) pages refl is
many_of pages (Some first) is = absurd (cc is)

none_of : (pages : ℕ) (found : Option ℕ) → find (has_room pages) rungs ≡ found → slots_limit < pages
    → first_or found (most_for pages) ≡ None
none_of pages None none many =
    let test : nat_le pages slots_limit ≡ false = grind (arith, nat_tests) in
    ap (λ (b : Bool). if b then Some slots_limit else None) test
none_of pages (Some first) found many =
    let room = room_is pages first (found_passes (has_room pages) rungs first found) in
    let low = each_stands (λ slots. slots ≤ slots_limit) rungs first low_rungs
    (found_stands (has_room pages) rungs first found) in
    absurd (omega (arith, room, low, many))

pub none : (pages : ℕ) → (ladder_of pages ≡ None) ↔ (slots_limit < pages)
none pages = (
  λ is. many_of pages (find (has_room pages) rungs) is,
  λ many. none_of pages (find (has_room pages) rungs) refl many,
)
