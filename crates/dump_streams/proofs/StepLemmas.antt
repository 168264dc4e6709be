-- Steps and the commands that carry them out, and what lines ask for that ask for steps.
use Rattle.std.proofs.Common.{◌≡◌, ℕ, ◌<◌, ◌≤◌, ◌∷◌, ◌++◌, List, [], length, map, true, false, IsTrue, Result, Ok}
use Rattle.std.proofs.Common.{Err, Some, is_some, is_err, refl, sym, ap, ap₂, ◌∙◌, if◌then◌else◌}
use Rattle.std.proofs.lemmas.Bool.{false≢true, lt-ltb, le-ltb}
use Rattle.std.proofs.lemmas.List.{append_assoc, map-append}
use Rattle.std.proofs.lemmas.Option.{same_Some}
use Rattle.store_model.specs.declared.refusal.Refusal.{Refusal}
use Rattle.store_model.specs.declared.refusal.Refusal.TheVariants as refusals
use Rattle.store_model.specs.Commands.{Command}
use Rattle.store_model.specs.Parameters.{Parameters}
use Rattle.store_model.specs.Pages.{IsTreeUnder}
use Rattle.store_model.specs.Grammar.{parse}
use Rattle.store_model.specs.Scripts.{reading, line_limit}
use Rattle.store_model.specs.Trees.{Tree}
use Rattle.script_lines.specs.InPlace.{in_place}
use Rattle.script_lines.specs.Parsing.{command_of, reading_of}
use Rattle.script_lines.specs.declared.command.Command as declared
use Rattle.dump_streams.specs.Dumps.{DumpStep, command_of_step, dump, readings, IsListing}
use Rattle.dump_streams.specs.Dumps.DumpStep.{Make, Write, Set}
use Rattle.dump_streams.specs.Steps.{step_in, held_step, ReadsStep}
use Rattle.dump_streams.specs.Reading.{BreaksOff}

-- ---- steps and commands

-- the command of the step that a command carries out is that command
pub command_back : (c : Command) → IsTrue (is_some (step_in c)) → command_of_step (held_step c) ≡ c
command_back (Command.Make path) is = refl
command_back (Command.Write path at bytes) is = refl
command_back (Command.SetAttribute path name bytes) is = refl
command_back c is = cc

pub step_back : (s : DumpStep) → step_in (command_of_step s) ≡ Some s
step_back (Make path) = refl
step_back (Write path at bytes) = refl
step_back (Set path name bytes) = refl

-- a command is that of one step alone
pub same_step : (s u : DumpStep) → command_of_step s ≡ command_of_step u → s ≡ u
same_step s u e = same_Some s u (sym (step_back s) ∙ ap step_in e ∙ step_back u)

-- ---- what lines ask for

-- a line that is no longer than a line may be is parsed, and one that is longer is refused
pub reading_short : (text : List ℕ) → length text ≤ line_limit → reading text ≡ parse text
unfolding reading
reading_short text h = ap (λ b. if b then Err refusals.Long else parse text) (le-ltb line_limit (length text) h)

pub reading_long : (text : List ℕ) → line_limit < length text → reading text ≡ Err refusals.Long
unfolding reading
reading_long text h = ap (λ b. if b then Err refusals.Long else parse text) (lt-ltb line_limit (length text) h)

module _ (placed : declared.Command) (result : Result (Unit {0}) Refusal) (text : List ℕ) (s : DumpStep)
    (fits : length text ≤ line_limit) (is : reading_of (in_place placed result) ≡ parse text) where
  -- a line that is read as no command
  pub unread : is_err result ≡ true → ReadsStep text s false
  unread err = record { read = tt; none = by_result result is err }
    where
      by_result : (r : Result (Unit {0}) Refusal) → reading_of (in_place placed r) ≡ parse text → is_err r ≡ true
          → (other : DumpStep) → reading text ≡ Ok (command_of_step other) → ⊥
      by_result (Ok done) is err other e = cc
      by_result (Err refusal) is err other e = let short = reading_short text fits in cc

  -- one that is read as a command
  read_as : (r : Result (Unit {0}) Refusal) → reading_of (in_place placed r) ≡ parse text → is_err r ≡ false
      → reading text ≡ Ok (command_of placed)
  read_as (Ok done) is ok = reading_short text fits ∙ sym is
  read_as (Err refusal) is ok = absurd (cc)

  -- which carries out no step, or one
  pub no_step : is_err result ≡ false → is_some (step_in (command_of placed)) ≡ false → ReadsStep text s false
  no_step ok none = record {
    read = tt;
    none = λ other e.
        let read = read_as result is ok in
        let same : command_of placed ≡ command_of_step other = cc in
        false≢true (sym none ∙ ap (λ (c : Command). is_some (step_in c)) same ∙ ap is_some (step_back other));
  }

  pub step_read : is_err result ≡ false → is_some (step_in (command_of placed)) ≡ true
      → s ≡ held_step (command_of placed) → ReadsStep text s true
  step_read ok some same = record {
    read = read_as result is ok ∙ ap Ok (sym (command_back (command_of placed) some) ∙ ap command_of_step (sym same));
    none = tt;
  }

-- lines ask for the steps of one list alone
pub same_readings : (ss us : List DumpStep) → readings ss ≡ readings us → ss ≡ us
same_readings [] [] e = refl
same_readings [] (u ∷ us) e = absurd (cc)
same_readings (s ∷ ss) [] e = absurd (cc)
same_readings (s ∷ ss) (u ∷ us) e =
    let head : command_of_step s ≡ command_of_step u = cc in
    let tail : readings ss ≡ readings us = cc in
    ap₂ (λ (x : DumpStep) (xs : List DumpStep). x ∷ xs) (same_step s u head) (same_readings ss us tail)

-- steps that begin with others, and what comes behind these
record BeginsWith (ss us : List DumpStep) (next : Result Command Refusal) : Type 0 where
  step : DumpStep
  rest : List DumpStep
  next_is : next ≡ Ok (command_of_step step)
  split : us ≡ ss ++ step ∷ rest

begins_more : (s u : DumpStep) (ss us : List DumpStep) (next : Result Command Refusal) → u ≡ s → BeginsWith ss us next
    → BeginsWith (s ∷ ss) (u ∷ us) next
begins_more s u ss us next head there = record {
  step = there.step;
  rest = there.rest;
  next_is = there.next_is;
  split = ap₂ (λ (x : DumpStep) (xs : List DumpStep). x ∷ xs) head there.split;
}

begins_with : (ss us : List DumpStep) (next : Result Command Refusal) (behind : List (Result Command Refusal))
    → readings ss ++ next ∷ behind ≡ readings us → BeginsWith ss us next
begins_with [] [] next behind e = absurd (cc)
begins_with [] (u ∷ us) next behind e = record { step = u; rest = us; next_is = cc; split = refl }
begins_with (s ∷ ss) [] next behind e = absurd (cc)
begins_with (s ∷ ss) (u ∷ us) next behind e =
    let tail : readings ss ++ next ∷ behind ≡ readings us = cc in
    let head : command_of_step u ≡ command_of_step s = cc in
    begins_more s u ss us next (same_step u s head) (begins_with ss us next behind tail)

-- a line more asks for a step more
pub readings_more : (t u : Tree) (s : DumpStep) (texts : List (List ℕ)) (text : List ℕ)
    → map reading texts ≡ readings (dump t) → reading text ≡ Ok (command_of_step s) → dump u ≡ dump t ++ s ∷ []
    → map reading (texts ++ text ∷ []) ≡ readings (dump u)
readings_more t u s texts text before is more =
    map-append reading texts (text ∷ [])
    ∙ ap (λ xs. xs ++ reading text ∷ []) before
    ∙ ap (λ r. readings (dump t) ++ r ∷ []) is
    ∙ sym (map-append (λ (x : DumpStep). Ok (command_of_step x)) (dump t) (s ∷ []))
    ∙ ap readings (sym more)

-- no listing begins with lines of which the last is bad
pub none_by : (t u : Tree) (p : Parameters) (texts : List (List ℕ)) (text : List ℕ) (rest : List (List ℕ))
    → map reading texts ≡ readings (dump t)
    → ((s : DumpStep) → reading text ≡ Ok (command_of_step s) → BreaksOff t s p) → IsTreeUnder u p
    → map reading ((texts ++ text ∷ []) ++ rest) ≡ readings (dump u) → ⊥
none_by t u p texts text rest before bad under e =
    let there = begins_with (dump t) (dump u) (reading text) (map reading rest)
    (ap (λ xs. xs ++ reading text ∷ map reading rest) (sym before) ∙ sym (map-append reading texts (text ∷ rest))
    ∙ ap (map reading) (sym (append_assoc texts (text ∷ []) rest)) ∙ e) in
    bad there.step there.next_is u there.rest under there.split

-- a script is a listing of one dump alone
pub one_dump : (t u : Tree) (script : List ℕ) → IsListing t script → IsListing u script → dump t ≡ dump u
one_dump t u script is other = same_readings (dump t) (dump u) (sym is ∙ other)
