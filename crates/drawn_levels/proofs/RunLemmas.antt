-- Keys of runs, and their levels among those that are kept.
use Rattle.std.proofs.Common.{◌≡◌, inl, inr, ℕ, ◌+◌, ◌-◌, List, [], ◌∷◌, ◌++◌, length, drop}
use Rattle.std.proofs.Common.{slice_get, slice_set, Some, refl, sym, ap, ap₂, subst, ◌∙◌, arith}
use Rattle.std.specs.Int.{w32, to_be_bytes}
use Rattle.std.specs.List.{All}
use Rattle.std.proofs.lemmas.List.{length-drop, take-append-drop, length-append, get_or-drop}
use Rattle.std.proofs.lemmas.List.Elements.{All-set, All-weaker}
use Rattle.std.proofs.lemmas.Bool.{cases_lt}
use Rattle.std.proofs.lemmas.Nat.{be_bytes_4}
use Rattle.std.proofs.lemmas.Option.{slice_get_within, get_or_from_slice_get}
use Rattle.store_base.specs.Keys.{IsKey}
use Rattle.store_model.specs.Draws.{Draw, key_block, key_field}
use Rattle.drawn_levels.specs.declared.kept.KeptLevels.{KeptLevels}
use Rattle.drawn_levels.specs.declared.run.Run.{Run}
use Rattle.drawn_levels.specs.Kept.{IsInRun, IsNext, HoldsRun, HoldsLevels, last_of}
use Rattle.drawn_levels.proofs.Places.{got_before, got_behind, got_last, got_last_put}

-- the last four bytes of a key are told by its number
number_bytes : (k : List ℕ) → IsKey k → to_be_bytes w32 (key_block k) ≡ drop 120 k
number_bytes k is = be_bytes_4 (drop 120 k) (key_block k) (omega (arith, length-drop 120 k, is.0))
    (λ i. let e = get_or-drop 120 k i 0 in omega (arith, e, is.1 (120 + i))) refl

-- so a key is told by its field and its number
same_key : (k l : List ℕ) → IsKey k → IsKey l → key_field k ≡ key_field l → key_block k ≡ key_block l → k ≡ l
same_key k l k_is l_is field number =
    let behind : drop 120 k ≡ drop 120 l =
    sym (number_bytes k k_is) ∙ ap (to_be_bytes w32) number ∙ number_bytes l l_is in
    sym (take-append-drop 120 k) ∙ ap₂ (λ (x y : List ℕ). x ++ y) field behind ∙ take-append-drop 120 l

-- and keys at one place of a run are one key
same_place : (run : Run) (place : ℕ) (k l : List ℕ) → IsInRun run place k → IsInRun run place l → k ≡ l
same_place run place k l one other =
    same_key k l one.is_key other.is_key (one.field ∙ sym other.field) (one.number ∙ sym other.number)

-- what is held stays held with more levels behind
held_before : (d : Draw) (levels more : List ℕ) (run : Run) → HoldsRun d levels run → HoldsRun d (levels ++ more) run
held_before d levels more run held key place within here =
    got_before levels more (run.at + place) (d.level key) (held key place within here)

-- a run gets the level of its next key
held_more : (d : Draw) (levels : List ℕ) (run : Run) (key : List ℕ) (level count : ℕ) → HoldsRun d levels run
    → run.at + run.count ≡ length levels → count ≡ run.count + 1 → IsInRun run run.count key → level ≡ d.level key
    → HoldsRun d (levels ++ level ∷ []) (record { first = run.first; at = run.at; count = count })
held_more d levels run key level count held ends more next is other place within here =
    let there : IsInRun run place other = record {
      is_key = here.is_key;
      field = here.field;
      number = here.number;
    } in
    elim (cases_lt place run.count) [
      | inl before ↦ held_before d levels (level ∷ []) run held other place before there
      | inr behind ↦
          let last : place ≡ run.count = omega (arith, within, more, behind) in
          let at_end : run.at + place ≡ length levels = omega (arith, ends, last) in
          let same : key ≡ other =
          same_place run run.count key other next (subst (λ n. IsInRun run n other) last there) in
          ap (slice_get (levels ++ level ∷ [])) at_end ∙ got_behind levels level
          ∙ ap (λ n. Some n) (is ∙ ap d.level same)
    ]

-- a run is begun, which has no key yet
pub next_of_begun : (old new : KeptLevels) (key : List ℕ) (run : Run) → new.runs.items ≡ old.runs.items ++ run ∷ []
    → IsKey key → run.first ≡ key → run.count ≡ 0 → IsNext new key
next_of_begun old new key run more is first none = record {
  run = run;
  is_last = ap last_of more ∙ got_last old.runs.items run;
  behind = record {
    is_key = is;
    field = ap key_field (sym first);
    number = let e : key_block key ≡ key_block run.first = ap key_block (sym first) in omega (arith, e, none);
  };
}

-- the last run gets the level of its next key
pub lengthened : (d : Draw) (old new : KeptLevels) (key : List ℕ) (level count : ℕ) (run : Run)
    → new.levels.items ≡ old.levels.items ++ level ∷ []
    → new.runs.items ≡ slice_set old.runs.items (length old.runs.items - 1)
    (record { first = run.first; at = run.at; count = count })
    → last_of old.runs.items ≡ Some run → (run.at + run.count ≡ length old.levels.items → count ≡ run.count + 1)
    → IsNext old key → level ≡ d.level key → HoldsLevels d old → HoldsLevels d new
lengthened d old new key level count run levels runs last counts next is held =
    let longer : Run = record { first = run.first; at = run.at; count = count } in
    let at = length old.runs.items - 1 in
    let same : run ≡ next.run = cc (last, next.is_last) in
    let behind : IsInRun run run.count key = subst (λ (r : Run). IsInRun r r.count key) (sym same) next.behind in
    let ends : run.at + run.count ≡ length old.levels.items = held.last run last in
    let within = slice_get_within old.runs.items at run last in
    let was : HoldsRun d old.levels.items run =
    subst (HoldsRun d old.levels.items) (get_or_from_slice_get old.runs.items at run run last) (held.runs at run within)
    in
    let more : HoldsRun d (old.levels.items ++ level ∷ []) longer =
    held_more d old.levels.items run key level count was ends (counts ends) behind is in
    let others : All (HoldsRun d (old.levels.items ++ level ∷ [])) old.runs.items =
    All-weaker (HoldsRun d old.levels.items) (HoldsRun d (old.levels.items ++ level ∷ []))
    (held_before d old.levels.items (level ∷ [])) old.runs.items held.runs in
    let all : All (HoldsRun d (old.levels.items ++ level ∷ [])) (slice_set old.runs.items at longer) =
    All-set (HoldsRun d (old.levels.items ++ level ∷ [])) old.runs.items at longer more others in
    record {
      runs = subst (λ (ls : List ℕ). All (HoldsRun d ls) new.runs.items) (sym levels)
          (subst (All (HoldsRun d (old.levels.items ++ level ∷ []))) (sym runs) all);
      last = λ other found.
          let found_longer : last_of new.runs.items ≡ Some longer =
          ap last_of runs ∙ got_last_put old.runs.items at longer within refl in
          let e : other ≡ longer = cc (found, found_longer) in
          let long = length-append old.levels.items (level ∷ []) in
          let all_long : length new.levels.items ≡ length (old.levels.items ++ level ∷ []) = ap length levels in
          let counted = counts ends in
          let at_is : other.at ≡ run.at = ap (λ (r : Run). r.at) e in
          let count_is : other.count ≡ count = ap (λ (r : Run). r.count) e in
          omega (arith, long, all_long, counted, ends, at_is, count_is);
    }
