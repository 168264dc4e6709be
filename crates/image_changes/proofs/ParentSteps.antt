-- Changes that make directories with all that lead to them.
use Rattle.std.proofs.Common.{◌≡◌, ◌+◌, ◌<◌, ◌≤◌, List, [], ◌∷◌, ◌++◌, map, length, take, get_or, Some, None}
use Rattle.std.proofs.Common.{sym, ap, ap₂, ◌∙◌, append_assoc}
use Rattle.std.proofs.lemmas.List.{append-nil, map-append, take_all, take_more}
use Rattle.store_model.specs.Paths.{Path}
use Rattle.staged_tree.specs.Guards.{Guarded, path_of}
use Rattle.image_changes.specs.PathChanges.{EndsAt}
use Rattle.tree_changes.specs.Folders.{way_to, ways_to}
use Rattle.image_changes.specs.declared.parent_changes.ParentChanges.{ParentChanges}
use Rattle.image_changes.specs.declared.way.Way.{Way}
use Rattle.image_changes.specs.Ways.{HasPassed, ArePassed, passing, LeadsOn}
use Rattle.image_changes.proofs.WayLemmas.{no_way, way_more, ways_more}

-- what came of the first moment came of the second
pub record Passes (start stream : ParentChanges) : Type 0 where
  pub paths : stream.paths ≡ start.paths
  pub came : (changes : List Guarded) → HasPassed start changes → HasPassed stream changes

module _ (start stream : ParentChanges) (passes : Passes start stream) where
  -- the stream with its way where it was passed on
  abbrev moved : Way → ParentChanges
  moved way = record stream { way = way }

  pub gives_next : (way : Way) (path : Path) → way.path ≡ stream.way.path
      → ((rest : Path) → stream.way.path ≡ stream.way.front ++ rest
      → LeadsOn stream.way.front rest way.front (Some path))
      → (changes : List Guarded) → HasPassed start changes → HasPassed (moved way) (changes ++ passing path ∷ [])
  gives_next way path same leads changes before =
      let here = passes.came changes before in
      by here.rest here (leads here.rest here.way_is) here.way_is
    where
      by : (rest : Path) (here : HasPassed stream changes) → LeadsOn stream.way.front rest way.front (Some path)
          → stream.way.path ≡ stream.way.front ++ rest → HasPassed (moved way) (changes ++ passing path ∷ [])
      by [] here leads e = absurd leads
      by (n ∷ rest) here leads e = record {
        done = here.done;
        rest = rest;
        way_is = same ∙ e ∙ sym (append_assoc stream.way.front (n ∷ []) rest)
            ∙ ap (λ (y : Path). y ++ rest) (sym leads.1);
        split = here.split ∙ ap (λ (y : Path). here.done ++ way_to y) (sym same);
        changes_are =
            ap₂ (λ gs (y : Path). gs ++ passing y ∷ []) here.changes_are leads.0
            ∙ sym (map-append passing (here.done ++ way_to stream.way.front) ((stream.way.front ++ n ∷ []) ∷ []))
            ∙ ap (map passing) (append_assoc here.done (way_to stream.way.front) ((stream.way.front ++ n ∷ []) ∷ [])
            ∙ ap (λ ways. here.done ++ ways) (sym (way_more stream.way.front n)))
            ∙ ap (λ (y : Path). map passing (here.done ++ way_to y)) (sym leads.1);
      }

  pub gives_at : (way : Way) (path : Path) → ((rest : Path) → stream.way.path ≡ stream.way.front ++ rest
      → LeadsOn stream.way.front rest way.front (Some path)) → (changes : List Guarded) → HasPassed start changes
      → path ≡ way.front
  gives_at way path leads changes before =
      let here = passes.came changes before in by here.rest (leads here.rest here.way_is)
    where
      by : (rest : Path) → LeadsOn stream.way.front rest way.front (Some path) → path ≡ way.front
      by [] leads = absurd leads
      by (n ∷ rest) leads = leads.0 ∙ sym leads.1

  -- where the way is at its end, all ways that were begun came
  ended : (way : Way) → ((rest : Path) → stream.way.path ≡ stream.way.front ++ rest
      → LeadsOn stream.way.front rest way.front None) → (changes : List Guarded) → HasPassed start changes
      → changes ≡ map passing (ways_to (take stream.begun stream.paths.items))
  ended way leads changes before =
      let here = passes.came changes before in
      by here.rest here (leads here.rest here.way_is) here.way_is
    where
      by : (rest : Path) (here : HasPassed stream changes) → LeadsOn stream.way.front rest way.front None
          → stream.way.path ≡ stream.way.front ++ rest
          → changes ≡ map passing (ways_to (take stream.begun stream.paths.items))
      by [] here leads e = here.changes_are
          ∙ ap (map passing) (ap (λ (y : Path). here.done ++ way_to y) (sym (append-nil stream.way.front) ∙ sym e)
          ∙ sym here.split)
      by (n ∷ rest) here leads e = absurd leads

  pub gives_all : (way : Way) → ((rest : Path) → stream.way.path ≡ stream.way.front ++ rest
      → LeadsOn stream.way.front rest way.front None) → length stream.paths.items ≤ stream.begun
      → (changes : List Guarded) → HasPassed start changes → ArePassed (moved way) changes
  gives_all way leads behind changes before = ended way leads changes before
      ∙ ap (λ xs. map passing (ways_to xs)) (take_all stream.begun stream.paths.items behind)

  pub begins_next : (way next : Way) (path : Path) → ((rest : Path) → stream.way.path ≡ stream.way.front ++ rest
      → LeadsOn stream.way.front rest way.front None) → stream.begun < length stream.paths.items
      → path ≡ get_or stream.paths.items stream.begun path → next.path ≡ path → next.front ≡ []
      → Passes start (record { paths = stream.paths; begun = stream.begun + 1; way = next })
  begins_next way next path leads inside at to root = record {
    paths = passes.paths;
    came = λ changes before. record {
      done = ways_to (take stream.begun stream.paths.items);
      rest = path;
      way_is = to ∙ sym (ap (λ (y : Path). y ++ path) root);
      split = ap ways_to (take_more stream.paths.items stream.begun path inside
          ∙ ap (λ (y : Path). take stream.begun stream.paths.items ++ y ∷ []) (sym at))
          ∙ ways_more (take stream.begun stream.paths.items) path
          ∙ ap (λ (y : Path). ways_to (take stream.begun stream.paths.items) ++ way_to y) (sym to);
      changes_are = ended way leads changes before
          ∙ ap (map passing) (sym (append-nil (ways_to (take stream.begun stream.paths.items))))
          ∙ ap (λ ways. map passing (ways_to (take stream.begun stream.paths.items) ++ ways))
          (sym (ap way_to root ∙ no_way));
    };
  }

-- ---- the last change

-- the last of changes with one more
pub ends_last : (changes : List Guarded) (g : Guarded) (path : Path) → path_of g.change ≡ path
    → EndsAt (changes ++ g ∷ []) path
ends_last changes g path is front last e = ap (λ (x : Guarded). path_of x.change) (sym (same changes front e)) ∙ is
  where
    same : (cs ds : List Guarded) → cs ++ g ∷ [] ≡ ds ++ last ∷ [] → g ≡ last
    same [] [] e = cc
    same [] (d ∷ []) e = cc
    same [] (d ∷ f ∷ ds) e = cc
    same (c ∷ []) [] e = cc
    same (c ∷ f ∷ cs) [] e = cc
    same (c ∷ cs) (d ∷ ds) e = let rest : cs ++ g ∷ [] ≡ ds ++ last ∷ [] = cc in same cs ds rest

pub none_ends : (path : Path) → EndsAt [] path
none_ends path [] g e = cc
none_ends path (d ∷ front) g e = cc
