-- Which lines bytes give that stand in front of others.
use Rattle.std.proofs.Common.{◌≡◌, ℕ, suc, ◌+◌, ◌-◌, ◌<◌, Bool, true, false, cond, not, List, [], ◌∷◌, ◌++◌, length}
use Rattle.std.proofs.Common.{take, drop, get_or, refl, sym, ap, ◌∙◌, subst, arith, nat_lt, ◌==◌, Option, Some, None}
use Rattle.std.proofs.Common.{inl, inr}
use Rattle.std.specs.List.{filter, slice_split, position, position_or_len}
use Rattle.std.proofs.lemmas.List.{length-take, take-append-drop, drop_more, get_or-take}
use Rattle.std.proofs.lemmas.List.Splits.{slice_split_none, slice_split_at, length-slice_split}
use Rattle.std.proofs.lemmas.List.Sums.{prefix_len_passes, prefix_len_stops}
use Rattle.std.proofs.lemmas.Bool.{cases_lt, eqb-true, lt-ltb, le-ltb}
use Rattle.store_model.specs.Scripts.{lines}
use Rattle.script_lines.specs.Lines.{HasNoEnd, all_but_last, ended_lines}

-- the first LF stands at this place
pub record EndsAt (bytes : List ℕ) (place : ℕ) : Type 0 where
  pub within : place < length bytes
  pub before : HasNoEnd (take place bytes)
  pub parts : bytes ≡ take place bytes ++ 10 ∷ drop (place + 1) bytes

-- the place of the first LF, if there is one
abbrev pub FindsEnd : List ℕ → Option ℕ → Type 0
FindsEnd bytes None = HasNoEnd bytes
FindsEnd bytes (Some place) = EndsAt bytes place

is_end : ℕ → Bool
is_end c = c == 10

split : List ℕ → List (List ℕ)
split bytes = slice_split (λ c. c == 10) bytes

-- there is always a part
split_some : (bytes : List ℕ) → 0 < length (slice_split (λ c. c == 10) bytes)
split_some bytes = omega (arith, length-slice_split (λ c. c == 10) bytes)

-- the last part stays the last behind another in front
all_but_last-cons : (part : List ℕ) (parts : List (List ℕ)) → 0 < length parts
    → all_but_last (part ∷ parts) ≡ part ∷ all_but_last parts
all_but_last-cons part [] some = absurd (omega arith)
all_but_last-cons part (next ∷ parts) some =
    let whole : suc (suc (length parts)) - 1 ≡ suc (suc (length parts) - 1) = omega arith in
    ap (λ n. take n (part ∷ next ∷ parts)) whole

filter_some : (text : List ℕ) (texts : List (List ℕ)) → 0 < length text
    → filter (λ (t : List ℕ). nat_lt 0 (length t)) (text ∷ texts)
    ≡ text ∷ filter (λ (t : List ℕ). nat_lt 0 (length t)) texts
filter_some [] texts some = absurd (omega arith)
filter_some (c ∷ text) texts some = rw lt-ltb refl

-- an LF in front ends an empty line
pub lines-blank : (bytes : List ℕ) → lines (10 ∷ bytes) ≡ lines bytes
unfolding lines
lines-blank bytes = refl

pub ended_lines-blank : (bytes : List ℕ) → ended_lines (10 ∷ bytes) ≡ ended_lines bytes
unfolding ended_lines
ended_lines-blank bytes = ap (filter (λ (t : List ℕ). nat_lt 0 (length t)))
    (all_but_last-cons [] (slice_split (λ c. c == 10) bytes) (split_some bytes))

-- a line and its LF in front
pub lines-line : (text bytes : List ℕ) → HasNoEnd text → 0 < length text
    → lines (text ++ 10 ∷ bytes) ≡ text ∷ lines bytes
unfolding lines
lines-line text bytes plain some =
    ap (filter (λ (t : List ℕ). nat_lt 0 (length t))) (slice_split_at (λ c. c == 10) text 10 bytes plain refl)
    ∙ filter_some text (slice_split (λ c. c == 10) bytes) some

pub ended_lines-line : (text bytes : List ℕ) → HasNoEnd text → 0 < length text
    → ended_lines (text ++ 10 ∷ bytes) ≡ text ∷ ended_lines bytes
unfolding ended_lines
ended_lines-line text bytes plain some =
    ap (λ (parts : List (List ℕ)). filter (λ (t : List ℕ). nat_lt 0 (length t)) (all_but_last parts))
    (slice_split_at (λ c. c == 10) text 10 bytes plain refl)
    ∙ ap (filter (λ (t : List ℕ). nat_lt 0 (length t)))
    (all_but_last-cons text (slice_split (λ c. c == 10) bytes) (split_some bytes))
    ∙ filter_some text (all_but_last (slice_split (λ c. c == 10) bytes)) some

-- the last line, which no LF ends
pub lines-last : (text : List ℕ) → HasNoEnd text → 0 < length text → lines text ≡ text ∷ []
unfolding lines
lines-last text plain some = ap (filter (λ (t : List ℕ). nat_lt 0 (length t)))
    (slice_split_none (λ c. c == 10) text plain) ∙ filter_some text [] some

pub lines-none : lines [] ≡ []
unfolding lines
lines-none = refl

-- without an LF no line is ended
pub ended_lines-none : (text : List ℕ) → HasNoEnd text → ended_lines text ≡ []
unfolding ended_lines
ended_lines-none text plain =
    ap (λ (parts : List (List ℕ)). filter (λ (t : List ℕ). nat_lt 0 (length t)) (all_but_last parts))
    (slice_split_none (λ c. c == 10) text plain)

-- a test that does not fail
pub not-yes : (b : Bool) → not b ≡ true → b ≡ false
not-yes true e = cc
not-yes false e = refl

pub not-no : (b : Bool) → not b ≡ false → b ≡ true
not-no true e = refl
not-no false e = cc

-- what `position` says of the first LF
pub FindsEnd-position : (bytes : List ℕ) (found : Option ℕ)
    → found ≡ position (λ c. c == 10) bytes → FindsEnd bytes found
FindsEnd-position bytes found e =
    let place = position_or_len (λ c. c == 10) bytes in
    elim (cases_lt place (length bytes)) [
      | inl lt ↦
          let found_is : found ≡ Some place = e ∙ ap (λ b. cond b (Some place) None) (lt-ltb place (length bytes) lt) in
          subst (λ (r : Option ℕ). FindsEnd bytes r) (sym found_is) (record {
            within = lt;
            before = λ k d h. let low : k < place = omega (arith, length-take place bytes)
                in rw get_or-take (not-yes _ (prefix_len_passes (λ c. not (c == 10)) bytes k d low));
            parts = let here : get_or bytes place 0 ≡ 10 =
                eqb-true _ _ (not-no _ (prefix_len_stops (λ c. not (c == 10)) bytes 0 lt)) in
                sym (take-append-drop place bytes)
                ∙ ap (λ (rest : List ℕ). take place bytes ++ rest)
                (drop_more bytes place 0 lt ∙ ap (λ c. c ∷ drop (place + 1) bytes) here);
          })
      | inr le ↦
          let found_is : found ≡ None = e ∙ ap (λ b. cond b (Some place) None) (le-ltb place (length bytes) le) in
          subst (λ (r : Option ℕ). FindsEnd bytes r) (sym found_is)
          (λ k d h. not-yes _ (prefix_len_passes (λ c. not (c == 10)) bytes k d (omega arith)))
    ]
