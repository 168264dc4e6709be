-- How `clap` walks over words of which none is a flag.
use Rattle.std.proofs.Common.{◌≡◌, ◌∙◌, ℕ, Bool, true, false, not, ◌==◌, ◌&&◌, List, [], ◌∷◌, ◌++◌, Some, None, refl}
use Rattle.std.proofs.Common.{sym, ap, codes, append_assoc, append-nil}
use Rattle.std.specs.List.{fold, list_all}
use Rattle.std.specs.Str.{bytes_eq}
use Rattle.clap.specs.Lexer.{long_of, short_of}
use Rattle.clap.specs.Simple.{Shape}
use Rattle.clap.specs.Takes.{default_passes, is_valid, level_passes, settle_passes, step_passes, turn_passes}
use Rattle.clap.specs.Takes.{walk_passes}
use Rattle.clap.specs.Walk.{Held, Names, Rule, Text, Walk, idle, walked, walk, walk_from, value, to_positional}
use Rattle.clap.specs.Walk.{arg_by_index, nothing_held, subcommand_met, finished}
use Rattle.clap.proofs.SimpleLemmas.{is_false}

-- both are so
pub all_true : (a b : Bool) → a ≡ true → b ≡ true → (a && b) ≡ true
all_true a b e h = ap (λ x. x && b) e ∙ h

-- the word does not begin with a hyphen
abbrev pub is_plain : Text → Bool
is_plain [] = true
is_plain (x ∷ xs) = not (x == 45)

record IsNoFlag (word : Text) : Type 0 where
  pub end : bytes_eq word (45 ∷ 45 ∷ []) ≡ false
  pub long : long_of word ≡ None
  pub short : short_of word ≡ None

no_flag : (word : Text) → is_plain word ≡ true → IsNoFlag word
no_flag [] plain = record { end = refl; long = refl; short = refl }
no_flag (x ∷ xs) plain = let other = is_false (x == 45) plain in record {
  end = rw other refl;
  long = rw other refl;
  short = rw other refl;
}

-- ---- a command with no subcommands

-- a walk behind so many positionals
abbrev pub walk_at : Held → ℕ → Walk
walk_at held position = record { held = held; waiting = idle; position = position; is_trailing = false; stopped = None }

-- the same behind one more
abbrev pub next_walk : List Rule → Held → ℕ → Text → Walk
next_walk rules held position word = to_positional rules (arg_by_index rules position) word (walk_at held position) held

pub plain_walked : (rules : List Rule) (held : Held) (position : ℕ) (word : Text) → is_plain word ≡ true
    → walked rules [] (walk_at held position) word ≡ next_walk rules held position word
unfolding walked
plain_walked rules held position word plain = let none = no_flag word plain in rw (none.end, none.long, none.short) refl

plain_passes : (s : Shape) (held : Held) (position : ℕ) (word : Text) → is_plain word ≡ true
    → turn_passes s [] (walk_at held position) word ≡ step_passes s position held value
plain_passes s held position word plain = let none = no_flag word plain in rw (none.end, none.long, none.short) refl

-- a word passes, and so do those behind it
pub passes_next : (s : Shape) (held : Held) (position : ℕ) (word : Text) (rest : List Text) → is_plain word ≡ true
    → step_passes s position held value ≡ true
    → walk_passes s [] (next_walk s.rules held position word) rest ≡ true
    → walk_passes s [] (walk_at held position) (word ∷ rest) ≡ true
unfolding walk_passes
passes_next s held position word rest plain here behind =
    all_true _ _ (plain_passes s held position word plain ∙ here)
    (ap (λ w. walk_passes s [] w rest) (plain_walked s.rules held position word plain) ∙ behind)

pub passes_end : (s : Shape) (w : Walk) → walk_passes s [] w [] ≡ true
unfolding walk_passes
passes_end s w = refl

-- a level passes by its walk, and by what is asked behind that
abbrev pub ends_well : Shape → Walk → Bool → Bool
ends_well s w has = settle_passes s.rules s.args_override_self w.held
    && (list_all default_passes s.rules && is_valid s (finished s.rules w.held) has)

pub level_by : (s : Shape) (names : Names) (words : List Text) (has : Bool) (w : Walk)
    → walk s.rules names nothing_held words ≡ w → walk_passes s names (walk_from nothing_held) words ≡ true
    → ends_well s w has ≡ true → level_passes s names nothing_held words has ≡ true
level_by s names words has w is passes ends = all_true _ _ passes (ap (λ v. ends_well s v has) is ∙ ends)

-- ---- a command with subcommands

-- a walk that stopped at a subcommand
abbrev pub stopped_at : Text → List Text → Walk
stopped_at name words = record (walk_at nothing_held 1) { stopped = Some (name, words) }

still_stopped : (rules : List Rule) (names : Names) (name : Text) (seen rest : List Text)
    → fold (walked rules names) (stopped_at name seen) rest ≡ stopped_at name (seen ++ rest)
unfolding walked
still_stopped rules names name seen [] = ap (stopped_at name) (sym (append-nil seen))
still_stopped rules names name seen (word ∷ rest) =
    still_stopped rules names name (seen ++ word ∷ []) rest ∙ ap (stopped_at name) (append_assoc seen (word ∷ []) rest)

stopped_passes : (s : Shape) (names : Names) (name : Text) (seen rest : List Text)
    → walk_passes s names (stopped_at name seen) rest ≡ true
unfolding walked walk_passes
stopped_passes s names name seen [] = refl
stopped_passes s names name seen (word ∷ rest) = stopped_passes s names name (seen ++ word ∷ []) rest

module _ (s : Shape) (names : Names) (name : Text) (rest : List Text)
    (met : subcommand_met names idle name ≡ Some name) where
  met_walked : walked s.rules names (walk_from nothing_held) name ≡ stopped_at name []
  unfolding walked
  met_walked = rw met refl

  -- the walk stops at the subcommand that the first word names
  pub stops : walk s.rules names nothing_held (name ∷ rest) ≡ stopped_at name rest
  stops = ap (λ w. fold (walked s.rules names) w rest) met_walked ∙ still_stopped s.rules names name [] rest

  pub stopping_passes : bytes_eq name (codes "help") ≡ false
      → walk_passes s names (walk_from nothing_held) (name ∷ rest) ≡ true
  unfolding walk_passes
  stopping_passes other =
      let here : turn_passes s names (walk_from nothing_held) name ≡ true = rw (met, other) refl in
      all_true _ _ here (ap (λ w. walk_passes s names w rest) met_walked ∙ stopped_passes s names name [] rest)
