-- What the changes of a put are behind one more, and behind a step that has none.
use Rattle.std.proofs.Common.{◌≡◌, List, [], ◌∷◌, ◌++◌, map, true, Option, Some, None, IsTrue}
use Rattle.std.proofs.Common.{refl, sym, ap, ap₂, subst, ◌∙◌, append_assoc, Vec, Global}
use Rattle.std.proofs.lemmas.List.{append-nil, map-append}
use Rattle.store_model.specs.Parameters.{Parameters}
use Rattle.store_model.specs.Paths.{Path, is_root, is_path}
use Rattle.store_model.specs.Trees.{Tree, empty_tree}
use Rattle.store_model.specs.Commands.{Command as commands}
use Rattle.store_model.proofs.TreesLemmasFits.{IsTree-empty}
use Rattle.staged_tree.specs.declared.guards.When.{When}
use Rattle.staged_tree.specs.declared.guards.When.TheVariants as whens
use Rattle.staged_tree.specs.Guards.{Guarded}
use Rattle.dump_streams.specs.Dumps.{DumpStep, after_step, step_path}
use Rattle.dump_streams.specs.Streams.{Extends}
use Rattle.tree_changes.specs.Conditional.{Conditional, done_at_no_directory}
use Rattle.tree_changes.specs.Folders.{way_from, way_to}
use Rattle.tree_changes.specs.Puts.{put_changes, HasRoomBelow}
use Rattle.image_changes.specs.Ways.{LeadsOn, passing}
use Rattle.image_changes.specs.declared.way.Way.{Way}
use Rattle.image_changes.proofs.ParentSteps.{ends_last, none_ends}
use Rattle.image_puts.specs.declared.put_changes.PutChanges.{PutChanges}
use Rattle.image_puts.specs.PutChanges.{conditional_of, pending_of, HasPut, HasPutSteps, HasPutAt, HasPutAll}
use Rattle.image_puts.specs.PutChanges.{BeginsStep, GivesWrite, given_of, EndsIn}
use Rattle.image_puts.proofs.PutStreams.{changes_more, no_steps, room_more, no_room_needed, nothing_ends, ends_after}
use Rattle.image_puts.proofs.PutStreams.{knows_kind}

-- changes with one more, and what is left behind it
one_more : (changes : List Guarded) (g : Guarded) (left : List Conditional)
    → map conditional_of (changes ++ g ∷ []) ++ left ≡ map conditional_of changes ++ (conditional_of g ∷ left)
one_more changes g left = ap (λ gs. gs ++ left) (map-append conditional_of changes (g ∷ []))
    ∙ append_assoc (map conditional_of changes) (conditional_of g ∷ []) left

module _ {S : Type 0} (came : S → Tree → Type 0) where
  -- behind the way and with no write left, just these are the changes
  pub none_left : (stream : PutChanges S) (changes : List Guarded) (steps : HasPutSteps came stream changes)
      → stream.pending ≡ None
      → map conditional_of changes ≡ put_changes stream.replaces stream.to stream.fresh.items (steps.put).tree
  unfolding way_from
  none_left stream changes steps none =
      sym (append-nil (map conditional_of changes))
      ∙ ap (λ left. map conditional_of changes ++ left)
      (sym (ap₂ (λ (rest : Path) (o : Option Path). map (λ q. done_at_no_directory (commands.Make q))
      (way_from stream.way.front rest) ++ pending_of o stream.step) steps.ended none))
      ∙ (steps.put).changes_are

  -- ---- a step of the source

  module _ (p : Parameters) (stream : PutChanges S) (changes : List Guarded) (steps : HasPutSteps came stream changes)
      (none : stream.pending ≡ None) (source : S) (s : DumpStep) (here : came source (after_step (steps.put).tree s))
      (extends : Extends (steps.put).tree s) (place : Path) (place_is : place ≡ stream.to ++ step_path s)
      (valid : IsTrue (is_path place)) (new : PutChanges S) (change : commands) (given : Option When)
      (begins : BeginsStep (record stream { source = source; step = s }) new place change given) where
    abbrev u : Tree
    u = (steps.put).tree

    all_changes : map conditional_of changes ++ (given_of given change ++ pending_of new.pending s)
        ≡ put_changes stream.replaces stream.to stream.fresh.items (after_step u s)
    all_changes =
        ap₂ (λ cs ds. cs ++ ds) (none_left stream changes steps none)
        (begins.changes u place_is (knows_kind p u s stream.is_directory (steps.put).is_tree extends
        (steps.put).ends_in))
        ∙ sym (changes_more stream.replaces stream.to stream.fresh.items p u s (steps.put).is_tree extends)

    -- where the stream stands behind it, with these changes
    behind : (all : List Guarded)
        → map conditional_of all ++ pending_of new.pending s
        ≡ map conditional_of changes ++ (given_of given change ++ pending_of new.pending s)
        → HasPut came new all
    unfolding way_from
    behind all same = record {
      tree = after_step u s;
      is_tree = extends.is_tree;
      came_is = subst (λ x. came x (after_step u s)) (sym begins.source) here;
      room = subst (λ x. HasRoomBelow x (after_step u s)) (sym begins.to)
          (room_more stream.to u s extends (steps.put).room (subst (λ x. IsTrue (is_path x)) place_is valid));
      ends_in = subst (λ b. EndsIn (after_step u s) b) (sym begins.kind)
          (ends_after p u s stream.is_directory (steps.put).is_tree extends (steps.put).ends_in);
      rest = [];
      way_is = ap (λ (w : Way). w.path) begins.way ∙ (steps.put).way_is
          ∙ ap (λ rest. stream.way.front ++ rest) steps.ended
          ∙ sym (ap (λ (w : Way). w.front ++ []) begins.way);
      to_is = ap (λ (w : Way). w.path) begins.way ∙ (steps.put).to_is ∙ sym begins.to;
      early = λ more. absurd (cc);
      changes_are = ap (λ x. map conditional_of all ++ pending_of new.pending x) begins.step ∙ same ∙ all_changes
          ∙ changed begins.replaces begins.to (ap (λ (v : Vec Path Global). v.items) begins.fresh);
    }
      where
        changed : new.replaces ≡ stream.replaces → new.to ≡ stream.to → new.fresh.items ≡ stream.fresh.items
            → put_changes stream.replaces stream.to stream.fresh.items (after_step u s)
            ≡ put_changes new.replaces new.to new.fresh.items (after_step u s)
        changed one other third =
            ap₂ (λ r x. put_changes r x stream.fresh.items (after_step u s)) (sym one) (sym other)
            ∙ ap (λ xs. put_changes new.replaces new.to xs (after_step u s)) (sym third)

  -- it has a change
  pub step_given : (p : Parameters) (stream : PutChanges S) (changes : List Guarded)
      (steps : HasPutSteps came stream changes) → stream.pending ≡ None → (source : S) (s : DumpStep)
      → came source (after_step (steps.put).tree s) → Extends (steps.put).tree s → (place : Path)
      → place ≡ stream.to ++ step_path s → IsTrue (is_path place)
      → (new : PutChanges S) (change : commands) (when : When)
      → BeginsStep (record stream { source = source; step = s }) new place change (Some when)
      → HasPutAt came new (changes ++ (record { when = when; change = change }) ∷ [])
  step_given p stream changes steps none source s here extends place place_is valid new change when begins = record {
    put = behind p stream changes steps none source s here extends place place_is valid new change (Some when) begins
        (changes ++ (record { when = when; change = change }) ∷ [])
        (one_more changes (record { when = when; change = change }) (pending_of new.pending s));
    ends = ends_last changes (record { when = when; change = change }) new.last
        ((begins.last).1 ∙ sym (begins.last).0);
  }

  -- it has none
  pub step_passed : (p : Parameters) (stream : PutChanges S) (changes : List Guarded)
      (steps : HasPutSteps came stream changes) → stream.pending ≡ None → (source : S) (s : DumpStep)
      → came source (after_step (steps.put).tree s) → Extends (steps.put).tree s → (place : Path)
      → place ≡ stream.to ++ step_path s → IsTrue (is_path place) → (new : PutChanges S) (change : commands)
      → BeginsStep (record stream { source = source; step = s }) new place change None
      → HasPutSteps came new changes
  unfolding behind
  step_passed p stream changes steps none source s here extends place place_is valid new change begins = record {
    put = behind p stream changes steps none source s here extends place place_is valid new change None begins changes
        refl;
    ended = refl;
  }

  -- ---- a write that was left

  -- the state with the write given, or with none
  module _ (stream : PutChanges S) (changes : List Guarded) (put : HasPut came stream changes) (ended : put.rest
      ≡ []) where
    pub written : (place : Path) → stream.pending ≡ Some place → (change : commands)
        → GivesWrite place stream.step change true → (left : Option Path) → left ≡ None
        → HasPutAt came (record stream { pending = left; last = place })
        (changes ++ (record { when = whens.Always; change = change }) ∷ [])
    unfolding way_from
    written place pending change gives left none = record {
      put = record {
        tree = put.tree;
        is_tree = put.is_tree;
        came_is = put.came_is;
        room = put.room;
        ends_in = put.ends_in;
        rest = [];
        way_is = put.way_is ∙ ap (λ rest. stream.way.front ++ rest) ended;
        to_is = put.to_is;
        early = λ more. absurd (cc);
        changes_are = ap (λ (o : Option Path). map conditional_of (changes ++
            (record { when = whens.Always; change = change })
            ∷ []) ++ pending_of o stream.step) none
            ∙ one_more changes (record { when = whens.Always; change = change }) []
            ∙ ap (λ more. map conditional_of changes ++ more)
            (gives.0 ∙ sym (ap₂ (λ (rest : Path) (o : Option Path). map (λ q. done_at_no_directory (commands.Make q))
            (way_from stream.way.front rest) ++ pending_of o stream.step) ended pending))
            ∙ put.changes_are;
      };
      ends = ends_last changes (record { when = whens.Always; change = change }) place gives.1;
    }

  -- ---- the way

  -- a path more of the way
  pub passed_on : (stream : PutChanges S) (changes : List Guarded) → HasPut came stream changes → (way : Way)
      (path : Path) → way.path ≡ stream.way.path
      → ((rest : Path) → stream.way.path ≡ stream.way.front ++ rest
      → LeadsOn stream.way.front rest way.front (Some path))
      → HasPutAt came (record stream { way = way; last = path }) (changes ++ passing path ∷ [])
  unfolding way_from
  passed_on stream changes put way path same leads = by put.rest put refl (leads put.rest put.way_is)
    where
      by : (rest : Path) (put : HasPut came stream changes) → put.rest ≡ rest
          → LeadsOn stream.way.front rest way.front (Some path)
          → HasPutAt came (record stream { way = way; last = path }) (changes ++ passing path ∷ [])
      by [] put is leads = absurd leads
      by (n ∷ rest) put is leads = record {
        put = record {
          tree = put.tree;
          is_tree = put.is_tree;
          came_is = put.came_is;
          room = put.room;
          ends_in = put.ends_in;
          rest = rest;
          way_is = same ∙ put.way_is ∙ ap (λ r. stream.way.front ++ r) is
              ∙ sym (append_assoc stream.way.front (n ∷ []) rest) ∙ ap (λ (f : Path). f ++ rest) (sym leads.1);
          to_is = same ∙ put.to_is;
          early = λ more. put.early (ap is_root is);
          changes_are = one_more changes (passing path)
              (map (λ q. done_at_no_directory (commands.Make q)) (way_from way.front rest)
              ++ pending_of stream.pending stream.step)
              ∙ ap₂ (λ (q f : Path). map conditional_of changes ++ (done_at_no_directory (commands.Make q)
              ∷ (map (λ x. done_at_no_directory (commands.Make x)) (way_from f rest)
              ++ pending_of stream.pending stream.step))) leads.0 leads.1
              ∙ ap (λ r. map conditional_of changes ++ (map (λ x. done_at_no_directory (commands.Make x))
              (way_from stream.way.front r) ++ pending_of stream.pending stream.step)) (sym is)
              ∙ put.changes_are;
        };
        ends = ends_last changes (passing path) path refl;
      }

  -- where the way is at its end nothing of it is left
  pub rested : (stream : PutChanges S) (changes : List Guarded) (put : HasPut came stream changes) (way : Way)
      → way.path ≡ stream.way.path
      → ((rest : Path) → stream.way.path ≡ stream.way.front ++ rest → LeadsOn stream.way.front rest way.front None)
      → (left : Option Path) → pending_of left stream.step ≡ pending_of stream.pending stream.step
      → HasPutSteps came (record stream { way = way; pending = left }) changes
  unfolding way_from
  rested stream changes put way same leads left left_is =
      let (ended, front) = by put.rest (leads put.rest put.way_is) in record {
        put = record {
          tree = put.tree;
          is_tree = put.is_tree;
          came_is = put.came_is;
          room = put.room;
          ends_in = put.ends_in;
          rest = [];
          way_is = same ∙ put.way_is ∙ ap₂ (λ (f rest : Path). f ++ rest) (sym front) ended;
          to_is = same ∙ put.to_is;
          early = λ more. absurd (cc);
          changes_are = ap (λ more. map conditional_of changes ++ more)
              (left_is ∙ sym (ap (λ (rest : Path). map (λ q. done_at_no_directory (commands.Make q))
              (way_from stream.way.front rest) ++ pending_of stream.pending stream.step) ended))
              ∙ put.changes_are;
        };
        ended = refl;
      }
    where
      by : (rest : Path) → LeadsOn stream.way.front rest way.front None → (rest ≡ []) × (way.front ≡ stream.way.front)
      by [] leads = (refl, leads)
      by (n ∷ rest) leads = absurd leads

  -- ---- at the beginning

  pub nothing_given : (stream : PutChanges S) → came stream.source empty_tree → stream.way.path ≡ stream.to
      → stream.way.front ≡ [] → stream.pending ≡ None → HasPutAt came stream []
  nothing_given stream here to root none = record {
    put = record {
      tree = empty_tree;
      is_tree = IsTree-empty;
      came_is = here;
      room = no_room_needed stream.to;
      ends_in = nothing_ends stream.is_directory;
      rest = stream.to;
      way_is = to ∙ sym (ap (λ (f : Path). f ++ stream.to) root);
      to_is = to;
      early = λ more. (refl, none);
      changes_are =
          ap₂ (λ (f : Path) (o : Option Path). map (λ q. done_at_no_directory (commands.Make q)) (way_from f stream.to)
          ++ pending_of o stream.step) root none
          ∙ append-nil (map (λ q. done_at_no_directory (commands.Make q)) (way_to stream.to))
          ∙ ap (map (λ q. done_at_no_directory (commands.Make q))) (sym (append-nil (way_to stream.to)))
          ∙ sym (no_steps stream.replaces stream.to stream.fresh.items);
    };
    ends = none_ends stream.last;
  }

  -- ---- at the end

  pub all_given : (whole : S → Tree → Type 0) (stream : PutChanges S) (changes : List Guarded)
      (steps : HasPutSteps came stream changes) → stream.pending ≡ None → (source : S) (s : DumpStep)
      → whole source (steps.put).tree
      → HasPutAll whole (record stream { source = source; step = s }) changes
  all_given whole stream changes steps none source s told = record {
    tree = (steps.put).tree;
    is_tree = (steps.put).is_tree;
    whole_is = told;
    room = (steps.put).room;
    changes_are = none_left stream changes steps none;
  }
