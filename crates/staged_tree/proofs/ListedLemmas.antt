-- A list of changes as a stream.
use Rattle.std.proofs.Common.{◌≡◌, ◌<◌, ℕ, ◌+◌, List, [], ◌∷◌, ◌++◌, map, take, length, get_or, Some, Ok}
use Rattle.std.proofs.Common.{sym, ap, subst, ◌∙◌}
use Rattle.std.proofs.lemmas.List.{take_more, get_or-map, length-map}
use Rattle.script_lines.specs.declared.session.Change.{Change}
use Rattle.script_lines.specs.Sessions.{change_of}
use Rattle.staged_tree.specs.declared.guards.When.{When}
use Rattle.staged_tree.specs.ChangeStreams.{GivesChange}
use Rattle.staged_tree.specs.Guards.{Guarded}
use Rattle.staged_tree.specs.Listed.{ListedState, guarded_of, HasGiven, AreListed}

module _ (all : List (When × Change)) (given : ℕ) (entry : When × Change) (inside : given < length all)
    (at : entry ≡ get_or all given entry) where
  one_more : take (given + 1) (map guarded_of all) ≡ take given (map guarded_of all) ++ guarded_of entry ∷ []
  one_more =
      take_more (map guarded_of all) given (guarded_of entry)
      (subst (λ (n : ℕ). given < n) (sym (length-map all guarded_of)) inside)
      ∙ ap (λ (g : Guarded). take given (map guarded_of all) ++ g ∷ [])
      (get_or-map guarded_of all given entry (guarded_of entry) inside ∙ ap guarded_of (sym at))

  -- the next one is given
  pub gives_next : {F : Type 0} (failed_by : List Guarded → F → Type 0) (start : ListedState)
      → record { changes = map guarded_of all; given = given } ≡ start → (change : Change) → change ≡ entry.1
      → GivesChange (HasGiven start) (HasGiven (record { changes = map guarded_of all; given = given + 1 }))
      (AreListed (record { changes = map guarded_of all; given = given + 1 })) failed_by (change_of change)
      (Ok (Some entry.0))
  gives_next failed_by start start_is change is = record {
    came = λ changes came. subst (λ (c : Change).
        changes ++ (record { when = entry.0; change = change_of c }) ∷ [] ≡ take (given + 1) (map guarded_of all))
        (sym is)
        (ap (λ (front : List Guarded). front ++ guarded_of entry ∷ [])
        (came ∙ sym (ap (λ (s : ListedState). take s.given s.changes) start_is)) ∙ sym one_more);
    whole = λ changes came. tt;
    failed = λ changes came. tt;
  }
