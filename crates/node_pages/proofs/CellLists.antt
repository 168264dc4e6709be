-- Cells one behind the other: reading them in a loop.
use Rattle.std.proofs.Common.{◌≡◌, ℕ, zero, suc, ◌+◌, ◌-◌, ◌*◌, ◌≤◌, ◌<◌, ◌↔◌, List, [], length, take, drop, sym, ap}
use Rattle.std.proofs.Common.{subst, ◌∙◌, arith, Less, mul-suc}
use Rattle.std.proofs.lemmas.List.{length-drop, take-take}
use Rattle.store_model.specs.Paths.{key_cmp}
use Rattle.node_pages.specs.CellAreas.{cell_size, SpellsCell, SpellsRising}

-- after so many cells of a count, the bytes spell them all where the rest spells the others
pub record GoesOn (level count done : ℕ) (bytes last rest : List ℕ) : Type 0 where
  pub room : cell_size level * (count - done) ≤ length rest
  pub same : SpellsRising level [] count bytes ↔ SpellsRising level last (count - done) rest

abbrev Whole : ℕ → ℕ → List ℕ → Type 0
Whole level count bytes = SpellsRising level [] count bytes

-- the first of some cells
first_cell : (level left : ℕ) (last rest cell key : List ℕ) → cell ≡ take (cell_size level) rest → key ≡ take 124 cell
    → 124 ≤ cell_size level
    → SpellsRising level last (suc left) rest
    ↔ (SpellsCell level cell × (key_cmp last key ≡ Less)
    × SpellsRising level key left (drop (cell_size level) rest))
unfolding SpellsRising
first_cell level left last rest cell key cell_is key_is long =
    let key_same : take 124 rest ≡ key = sym (take-take 124 (cell_size level) rest long)
    ∙ ap (take 124) (sym cell_is) ∙ sym key_is in
    let P : List ℕ → List ℕ → Type 0 = λ x k. SpellsCell level x × (key_cmp last k ≡ Less)
    × SpellsRising level k left (drop (cell_size level) rest) in (
      λ h. subst (λ x. P x key) (sym cell_is) (subst (P (take (cell_size level) rest)) key_same h),
      λ h. subst (P (take (cell_size level) rest)) (sym key_same) (subst (λ x. P x key) cell_is h),
    )

pub key_within : (level : ℕ) → 124 ≤ cell_size level
key_within zero = omega arith
key_within (suc level) = omega arith

pub size_most : (level : ℕ) → cell_size level ≤ 382
size_most zero = omega arith
size_most (suc level) = omega arith

-- the next cell and those behind it
pub next_cell : (level count done : ℕ) (bytes last rest cell after key : List ℕ) → done < count
    → GoesOn level count done bytes last rest
    → cell ≡ take (cell_size level) rest → after ≡ drop (cell_size level) rest → key ≡ take 124 cell
    → Whole level count bytes
    ↔ (SpellsCell level cell × (key_cmp last key ≡ Less) × SpellsRising level key (count - (done + 1)) after)
next_cell level count done bytes last rest cell after key below so_far cell_is after_is key_is =
    let left : count - done ≡ suc (count - (done + 1)) = omega arith in
    let first = first_cell level (count - (done + 1)) last rest cell key cell_is key_is (key_within level) in
    let to = λ (h : Whole level count bytes).
    first.0 (subst (λ n. SpellsRising level last n rest) left (so_far.same.0 h)) in
    let from =
    λ (h : SpellsCell level cell × (key_cmp last key ≡ Less)
    × SpellsRising level key (count - (done + 1)) (drop (cell_size level) rest)).
    so_far.same.1 (subst (λ n. SpellsRising level last n rest) (sym left) (first.1 h)) in (
      λ h. (let all = to h in (all.0, all.1, subst (SpellsRising level key (count - (done + 1))) (sym after_is) all.2)),
      λ h. from (h.0, h.1, subst (SpellsRising level key (count - (done + 1))) after_is h.2),
    )

-- where the next bytes are no cell above the last, nor are all
pub goes_on : (level count done : ℕ) (bytes last rest cell after key : List ℕ) → done < count
    → GoesOn level count done bytes last rest
    → cell ≡ take (cell_size level) rest → after ≡ drop (cell_size level) rest → key ≡ take 124 cell
    → SpellsCell level cell → key_cmp last key ≡ Less
    → GoesOn level count (done + 1) bytes key after
goes_on level count done bytes last rest cell after key below so_far cell_is after_is key_is spells above =
    let left : count - done ≡ suc (count - (done + 1)) = omega arith in
    let room : cell_size level * suc (count - (done + 1)) ≤ length rest =
    subst (λ n. cell_size level * n ≤ length rest) left so_far.room in
    let next = next_cell level count done bytes last rest cell after key below so_far cell_is after_is key_is in
    record {
      room = omega (
        arith,
        room,
        mul-suc (cell_size level) (count - (done + 1)),
        length-drop (cell_size level)
            rest,
        ap length after_is,
      );
      same = (λ h. (next.0 h).2, λ h. next.1 (spells, above, h));
    }

-- once all cells are read
pub all_read : (level count done : ℕ) (bytes last rest : List ℕ) → count ≤ done
    → GoesOn level count done bytes last rest → Whole level count bytes
unfolding SpellsRising
all_read level count done bytes last rest all so_far =
    let none : count - done ≡ 0 = omega arith in
    so_far.same.1 (subst (λ n. SpellsRising level last n rest) (sym none) tt)

-- before the first cell is read
pub none_read : (level count : ℕ) (bytes last : List ℕ) → cell_size level * count ≤ length bytes → last ≡ []
    → GoesOn level count 0 bytes last bytes
none_read level count bytes last room last_is =
    let all : count ≡ count - 0 = omega arith in
    record {
      room = subst (λ n. cell_size level * n ≤ length bytes) all room;
      same = (
        λ h. subst (λ (k : List ℕ). SpellsRising level k (count - 0) bytes) (sym last_is)
            (subst (λ n. SpellsRising level [] n bytes) all h),
        λ h. subst (λ n. SpellsRising level [] n bytes) (sym all)
            (subst (λ (k : List ℕ). SpellsRising level k (count - 0) bytes) last_is h),
      );
    }
