-- Which kind of command the fields of a line spell, and what is told of a line with one of the wrong kind.
use Rattle.std.proofs.Common.{◌≡◌, ℕ, ◌<◌, arith, length, Bool, true, false, not, cond, List, [], ◌∷◌, refl, sym, ap}
use Rattle.std.proofs.Common.{◌∙◌, subst, Option, Some, None, Result, Ok, Err, codes}
use Rattle.std.specs.Option.{option_map}
use Rattle.std.specs.Cmp.Lexicographic.{same_text}
use Rattle.store_model.specs.declared.refusal.Refusal.{Refusal}
use Rattle.store_model.specs.declared.refusal.Refusal.TheVariants as refusals
use Rattle.store_model.specs.Lists.{same_bytes}
use Rattle.store_model.specs.Grammar.{command_of_fields, checked_command, has_short_paths, path_of, number_of}
use Rattle.store_model.specs.Grammar.{content_of, attribute_name_of, on_word, ◌>>=◌}
use Rattle.store_model.specs.Commands.{Command}
use Rattle.store_model.specs.Commands.Command.{Make, Remove, Prune, ListChildren, ListAttributes}
use Rattle.script_lines.specs.Parsing.{parts_of, is_change_word, has_change_word}
use Rattle.script_lines.specs.Sessions.{SessionCall, call_of_fields, is_change, is_question, checked_call}
use Rattle.script_lines.specs.Sessions.{call_has_short_paths}
use Rattle.script_lines.specs.Sessions.SessionCall.{Ask, Stage}
use Rattle.script_lines.proofs.FieldLemmas.{length-parts}
use Rattle.script_lines.specs.SessionParts.{call_on_command, call_that}

-- ---- the kind of a command, by its word

-- the command, if there is one, is wanted or not
abbrev pub IsWanted : (Command → Bool) → Bool → Option Command → Type 0
IsWanted wanted answer None = Unit {0}
IsWanted wanted answer (Some c) = wanted c ≡ answer

-- each command that is made of a value is of the kind
mapped : {A : Type 0} (f : A → Command) (changes : Bool) → ((x : A) → is_change (f x) ≡ changes) → (o : Option A)
    → IsWanted is_change changes (option_map f o)
mapped f changes kind None = tt
mapped f changes kind (Some x) = kind x

-- and each that is made of a value, if it is made
bound : {A : Type 0} (f : A → Option Command) (changes : Bool) → ((x : A) → IsWanted is_change changes (f x))
    → (o : Option A) → IsWanted is_change changes (o >>= f)
bound f changes kind None = tt
bound f changes kind (Some x) = kind x

-- what a word asks for is of the kind of the word
at_word : (w wanted : List ℕ) (here other : Option Command) → IsWanted is_change (is_change_word wanted) here
    → IsWanted is_change (is_change_word w) other → IsWanted is_change (is_change_word w) (on_word w wanted here other)
at_word w wanted here other kind rest = chosen (same_bytes w wanted) refl
  where
    chosen : (b : Bool) → same_bytes w wanted ≡ b → IsWanted is_change (is_change_word w) (cond b here other)
    chosen true e = subst (λ (v : List ℕ). IsWanted is_change (is_change_word v) here)
        (sym (same_text w wanted (sym e))) kind
    chosen false e = rest

-- the command that fields spell is of the kind of their first word
kind_of_fields : (fields : List (List ℕ)) → IsWanted is_change (has_change_word fields) (command_of_fields fields)
unfolding command_of_fields
kind_of_fields [] = tt
kind_of_fields (w ∷ []) =
    at_word w (codes "space") _ _ refl
    (at_word w (codes "digest") _ _ refl tt)
kind_of_fields (w ∷ a ∷ []) =
    at_word w (codes "make") _ _ (mapped Make true (λ _. refl) (path_of a))
    (at_word w (codes "remove") _ _ (mapped Remove true (λ _. refl) (path_of a))
    (at_word w (codes "prune") _ _ (mapped Prune true (λ _. refl) (path_of a))
    (at_word w (codes "list") _ _ (mapped ListChildren false (λ _. refl) (path_of a))
    (at_word w (codes "attrs") _ _ (mapped ListAttributes false (λ _. refl) (path_of a)) tt))))
kind_of_fields (w ∷ a ∷ b ∷ []) =
    at_word w (codes "cut") _ _ (bound _ true (λ p. bound _ true (λ n. refl) (number_of b)) (path_of a))
    (at_word w (codes "rename") _ _ (bound _ true (λ p. bound _ true (λ q. refl) (path_of b)) (path_of a))
    (at_word w (codes "unset") _ _ (bound _ true (λ p. bound _ true (λ n. refl) (attribute_name_of b)) (path_of a))
    (at_word w (codes "get") _ _ (bound _ false (λ p. bound _ false (λ n. refl) (attribute_name_of b)) (path_of a))
    tt)))
kind_of_fields (w ∷ a ∷ b ∷ c ∷ []) =
    at_word w (codes "write") _ _
    (bound _ true (λ p. bound _ true (λ n. bound _ true (λ bytes. refl) (content_of c)) (number_of b)) (path_of a))
    (at_word w (codes "read") _ _
    (bound _ false (λ p. bound _ false (λ n. bound _ false (λ m. refl) (number_of c)) (number_of b)) (path_of a))
    (at_word w (codes "set") _ _
    (bound _ true (λ p. bound _ true (λ n. bound _ true (λ bytes. refl) (content_of c)) (attribute_name_of b))
    (path_of a)) tt))
kind_of_fields (w ∷ a ∷ b ∷ c ∷ d ∷ fields) = tt

-- ---- what is told of a line with a command

module _ (wanted : Command → Bool) (call : Command → SessionCall)
    (shorts : (c : Command) → call_has_short_paths (call c) ≡ has_short_paths c) where
  abbrev pub that : Option Command → Option SessionCall
  that o = (o >>= λ c. cond (wanted c) (Some c) None) >>= λ c. Some (call c)

  -- a command with short paths
  kept : (c : Command) → has_short_paths c ≡ true → (answer : Bool) → wanted c ≡ answer
      → call_that wanted call c ≡ checked_call (that (Some c))
  kept c short true kind = rw kind (rw (shorts c) (rw short refl))
  kept c short false kind = rw kind refl

  -- of a command that was read
  pub told_read : (o : Option Command) (c : Command) → Ok c ≡ checked_command o
      → call_that wanted call c ≡ checked_call (that o)
  told_read None c e = cc
  told_read (Some d) c e = by_length (has_short_paths d) refl
    where
      by_length : (short : Bool) → has_short_paths d ≡ short → call_that wanted call c ≡ checked_call (that (Some d))
      by_length false s = absurd (let no : ◌≡◌ {A = Result Command Refusal} (Ok c) (Err refusals.Path) =
          e ∙ ap (λ b. cond b (Ok d) (Err refusals.Path)) s in cc)
      by_length true s =
          let yes : ◌≡◌ {A = Result Command Refusal} (Ok c) (Ok d) =
          e ∙ ap (λ b. cond b (Ok d) (Err refusals.Path)) s in
          let same : c ≡ d = cc in
          ap (call_that wanted call) same ∙ kept d s (wanted d) refl

  -- of a line that spells no command, or a wanted one with a long path
  pub told_refused : (o : Option Command) (refusal : Refusal) → Err refusal ≡ checked_command o → IsWanted wanted true o
      → Err refusal ≡ checked_call (that o)
  told_refused None refusal e is_wanted = ap {A = Result Command Refusal} (λ r. refused r) e
    where
      refused : Result Command Refusal → Result SessionCall Refusal
      refused (Ok c) = Err refusals.Syntax
      refused (Err r) = Err r
  told_refused (Some d) refusal e is_wanted = by_length (has_short_paths d) refl
    where
      by_length : (short : Bool) → has_short_paths d ≡ short → Err refusal ≡ checked_call (that (Some d))
      by_length true s = absurd (let no : ◌≡◌ {A = Result Command Refusal} (Err refusal) (Ok d) =
          e ∙ ap (λ b. cond b (Ok d) (Err refusals.Path)) s in cc)
      by_length false s =
          let long : ◌≡◌ {A = Result Command Refusal} (Err refusal) (Err refusals.Path) =
          e ∙ ap (λ b. cond b (Ok d) (Err refusals.Path)) s in
          let is_path : refusal ≡ refusals.Path = cc in
          rw is_path (rw is_wanted (rw (shorts d) (rw s refl)))

  -- of a line that spells an unwanted command with a long path
  pub told_wrong : (o : Option Command) → IsWanted wanted false o → Err refusals.Syntax ≡ checked_call (that o)
  told_wrong None unwanted = refl
  told_wrong (Some d) unwanted = rw unwanted refl

-- ---- questions and changes

-- a call has short paths where its command has
pub short_ask : (n : ℕ) (c : Command) → call_has_short_paths (Ask n c) ≡ has_short_paths c
unfolding call_has_short_paths
short_ask n c = refl

pub short_stage : (n : ℕ) (c : Command) → call_has_short_paths (Stage n c) ≡ has_short_paths c
unfolding call_has_short_paths
short_stage n c = refl

-- the command of a line is a change where its word is that of a change, and else a question
pub change_by_word : (fields : List (List ℕ)) (changes : Bool) → changes ≡ has_change_word fields
    → IsWanted is_change changes (command_of_fields fields)
change_by_word fields changes e = subst (λ (b : Bool). IsWanted is_change b (command_of_fields fields)) (sym e)
    (kind_of_fields fields)

pub question_by_word : (fields : List (List ℕ)) (changes : Bool) → changes ≡ has_change_word fields
    → IsWanted is_question (not changes) (command_of_fields fields)
question_by_word fields changes e = asks (command_of_fields fields) (change_by_word fields changes e)
  where
    asks : (o : Option Command) → IsWanted is_change changes o → IsWanted is_question (not changes) o
    asks None kind = tt
    asks (Some c) kind = ap not kind

-- ---- the fields of a line

-- the fields of a line with a command
pub call_on_parts : (w s text : List ℕ) → call_of_fields (w ∷ s ∷ parts_of text) ≡ call_on_command w s (parts_of text)
unfolding call_of_fields
call_on_parts w s text = some (parts_of text) (length-parts text)
  where
    some : (parts : List (List ℕ)) → 0 < length parts → call_of_fields (w ∷ s ∷ parts) ≡ call_on_command w s parts
    some [] none = absurd (omega arith)
    some (a ∷ fields) one = refl
