-- All changes of a put lead to the tree with the sources put over it, or stop at what is not put there.
use Rattle.std.proofs.Common.{◌≡◌, ◌⊎◌, inl, inr, ℕ, suc, ◌*◌, List, [], ◌∷◌, ◌++◌, Bool, true, false, not}
use Rattle.std.proofs.Common.{◌&&◌, cond, Some, None, is_some, IsTrue, refl, sym, ap, ap₂, subst, ◌∙◌, arith, ne_eqb}
use Rattle.std.proofs.Common.{append_assoc}
use Rattle.std.specs.Prelude.{◌==◌}
use Rattle.std.specs.List.{AllByRecursion}
use Rattle.std.specs.FinMap.{find}
use Rattle.std.proofs.lemmas.Bool.{and_parts, cond-true, cond-false, not-true, false_from_ne_true}
use Rattle.store_model.specs.declared.version.Version.TheVariants.{Two}
use Rattle.store_model.specs.declared.refusal.Refusal.{Refusal}
use Rattle.store_model.specs.Parameters.{Parameters, with_version}
use Rattle.store_model.specs.Paths.{Path, Name, is_root, is_path, path_cmp}
use Rattle.store_model.specs.Trees.{Tree, Entry, IsTree, empty_tree, node_of, exists, is_directory}
use Rattle.store_model.specs.Trees.{is_directory_node, is_file_node}
use Rattle.store_model.specs.Trees.Node.{File}
use Rattle.store_model.specs.Pages.{IsTreeUnder}
use Rattle.store_model.specs.Commands.{IsCommand}
use Rattle.store_model.specs.Commands.{Command as commands}
use Rattle.store_model.specs.Steps.{is_on_attributes, refusal_of}
use Rattle.store_model.proofs.TreesLemmas.{node_at-find, exists-find}
use Rattle.store_model.proofs.TreesLemmasFits.{IsTree-empty}
use Rattle.tree_pairs.proofs.ReaderNextLemmas.{find_last, find_at_last}
use Rattle.tree_pairs.specs.Seen.{bare_entry}
use Rattle.dump_streams.specs.Dumps.{DumpStep, after_step, dump, dump_piece, step_path}
use Rattle.dump_streams.specs.Dumps.DumpStep.{Make, Write, Set}
use Rattle.dump_streams.specs.Streams.{Extends}
use Rattle.dump_streams.proofs.NextTrees.{IsNext, IsLaterWrite, goes_on, last_stands}
use Rattle.dump_streams.proofs.Chains.{Chain, dump_chain}
use Rattle.dump_streams.proofs.DumpFronts.{next_of_goes_on}
use Rattle.dump_streams.proofs.DumpSteps.{step_of_next}
use Rattle.tree_changes.specs.Conditional.{Conditional, why_refused, tree_behind, Leads, Stops, path_of, always_done}
use Rattle.tree_changes.specs.Conditional.{done_at_no_directory}
use Rattle.tree_changes.specs.Folders.{is_among, making_parents_steps, IsInTheWay}
use Rattle.tree_changes.specs.Meant.{bare_directory}
use Rattle.tree_changes.specs.Puts.{IsUnput, IsPut, making_room, put_step, put_steps, fresh_of, HasRoomBelow}
use Rattle.tree_changes.specs.Puts.{put_changes, RefusesPut}
use Rattle.tree_changes.proofs.Folds.{leads_split, stops_split}
use Rattle.tree_changes.proofs.FolderLemmas.{makes_at}
use Rattle.tree_changes.proofs.ParentLemmas.{parents_lead, parents_stop}
use Rattle.tree_changes.proofs.PlacedLemmas.{nothing_put, not_both_ways}
use Rattle.tree_changes.proofs.PutSteps.{file_in_the_way, make_leads, make_stops, later_leads}
use Rattle.tree_changes.proofs.PutFiles.{nowhere, apart, first_leads, first_stops}
use Rattle.tree_changes.proofs.PutNames.{SetsAt, sets_at, skipped, of_file, of_fresh, Counts, set_put, set_unput}

-- ---- one change alone

one_leads : (p : Parameters) (w next : Tree) (g : Conditional) → Leads p w (g ∷ []) next
    → (why_refused p w g ≡ None) × (tree_behind w g ≡ next)
unfolding Leads
one_leads p w next g chain = chain

one_stops : (p : Parameters) (w : Tree) (c g : Conditional) (reason : Refusal) → Stops p w (c ∷ []) g reason
    → (c ≡ g) × (why_refused p w c ≡ Some reason)
unfolding Leads
one_stops p w c g reason stops = by stops.first stops.rest stops.changes_are stops.tree stops.leads stops.refused
  where
    by : (before rest : List Conditional) → c ∷ [] ≡ before ++ g ∷ rest → (v : Tree) → Leads p w before v
        → why_refused p v g ≡ Some reason → (c ≡ g) × (why_refused p w c ≡ Some reason)
    by [] rest e v same refused = let this : c ≡ g = cc in (this, ap₂ (why_refused p) same this ∙ refused)
    by (d ∷ []) rest e v chain refused = cc
    by (d ∷ f ∷ before) rest e v chain refused = cc

none_stops : (p : Parameters) (w : Tree) (g : Conditional) (reason : Refusal) → Stops p w [] g reason → ⊥
none_stops p w g reason stops = by stops.first stops.changes_are
  where
    by : (before : List Conditional) → [] ≡ before ++ g ∷ stops.rest → ⊥
    by [] e = cc
    by (d ∷ before) e = cc

-- the path of a change that begins a file
file_path : (p : Parameters) (w : Tree) (replaces : Bool) (q : Path) (bytes : List ℕ) (g : Conditional)
    (reason : Refusal) → Stops p w (making_room replaces q ∷ always_done (commands.Write q 0 bytes) ∷ []) g reason
    → path_of g.change ≡ q
file_path p w replaces q bytes g reason stops = by stops.first stops.changes_are
  where
    room : (r : Bool) → path_of (Conditional.change (making_room r q)) ≡ q
    room true = refl
    room false = refl

    by : (before : List Conditional)
        → making_room replaces q ∷ always_done (commands.Write q 0 bytes) ∷ [] ≡ before ++ g ∷ stops.rest
        → path_of g.change ≡ q
    by [] e = let this : making_room replaces q ≡ g = cc in
        ap (λ (c : Conditional). path_of c.change) (sym this) ∙ room replaces
    by (c ∷ []) e = let this : always_done (commands.Write q 0 bytes) ≡ g = cc in
        ap (λ (d : Conditional). path_of d.change) (sym this)
    by (c ∷ d ∷ []) e = cc
    by (c ∷ d ∷ f ∷ before) e = cc

-- ---- a step

module _ (replaces : Bool) (to : Path) (listed : List Path) (p : Parameters) (t : Tree) where
  abbrev fresh : List Path
  fresh = fresh_of to listed t

  abbrev two : Parameters
  two = with_version p Two

  -- an entry of the sources' last path that is a directory of theirs
  directory_of : (u : Tree) (y : Path) (e : Entry) → is_root y ≡ false → find path_cmp y u ≡ Some e
      → is_directory u y ≡ is_directory_node (Some e.node)
  directory_of u y e below found = ap is_directory_node (node_at-find u y below ∙ ap node_of found)

  -- ---- attributes

  module _ (u w : Tree) (so_far : IsPut replaces to listed u t w) (y : Path) (name : Name) (bytes : List ℕ)
      (allowed : refusal_of u (commands.SetAttribute y name bytes) ≡ None)
      (command : IsCommand (commands.SetAttribute (to ++ y) name bytes)) where
    abbrev set_it : Conditional
    set_it = always_done (commands.SetAttribute (to ++ y) name bytes)

    module _ (e : Entry) (sets : SetsAt replaces to listed p t u w so_far y name bytes allowed e) where
      kind : is_directory u y ≡ is_directory_node (Some e.node)
      kind = directory_of u y e sets.below_root sets.found

      counts_by : (d f : Bool) → is_directory u y ≡ d → is_among fresh y ≡ f → (d && not f) ≡ false
          → Counts replaces to listed p t u w so_far y name bytes allowed e sets
      counts_by false f is among counts =
          of_file replaces to listed p t u w so_far y name bytes allowed e sets (sym kind ∙ is)
      counts_by true true is among counts =
          of_fresh replaces to listed p t u w so_far y name bytes allowed e sets among
      counts_by true false is among counts = cc

      set_leads_by : (b : Bool) → (is_directory u y && not (is_among fresh y)) ≡ b → (next : Tree)
          → Leads p w (cond b [] (set_it ∷ [])) next
          → IsPut replaces to listed (after_step u (Set y name bytes)) t next
      set_leads_by true skips next chain =
          let parts = and_parts (is_directory u y) _ skips in
          subst (λ v. IsPut replaces to listed (after_step u (Set y name bytes)) t v) (nowhere p w next chain)
          (skipped replaces to listed p t u w so_far y name bytes allowed e sets (sym kind ∙ parts.0)
          (not-true _ parts.1))
      set_leads_by false counts next chain =
          let one = one_leads p w next set_it chain in
          subst (λ v. IsPut replaces to listed (after_step u (Set y name bytes)) t v) one.1
          (set_put replaces to listed p t u w so_far y name bytes allowed e sets
          (counts_by (is_directory u y) (is_among fresh y) refl refl counts) command one.0)

      set_stops_by : (b : Bool) → (is_directory u y && not (is_among fresh y)) ≡ b → (g : Conditional)
          → (reason : Refusal) → Stops p w (cond b [] (set_it ∷ [])) g reason
          → RefusesPut replaces p to listed (after_step u (Set y name bytes)) t g reason
      set_stops_by true skips g reason stops = absurd (none_stops p w g reason stops)
      set_stops_by false counts g reason stops =
          let one = one_stops p w set_it g reason stops in
          subst (λ c. RefusesPut replaces p to listed (after_step u (Set y name bytes)) t c reason) one.0
          (set_unput replaces to listed p t u w so_far y name bytes allowed e sets
          (counts_by (is_directory u y) (is_among fresh y) refl refl counts) reason one.1)

    set_leads : (next : Tree) → Leads p w (put_step replaces to fresh u (Set y name bytes)) next
        → IsPut replaces to listed (after_step u (Set y name bytes)) t next
    set_leads next chain =
        let sets = sets_at replaces to listed p t u w so_far y name bytes allowed in
        set_leads_by sets.0 sets.1 (is_directory u y && not (is_among fresh y)) refl next chain

    set_stops : (g : Conditional) (reason : Refusal) → Stops p w (put_step replaces to fresh u
        (Set y name bytes)) g reason
        → RefusesPut replaces p to listed (after_step u (Set y name bytes)) t g reason
    set_stops g reason stops =
        let sets = sets_at replaces to listed p t u w so_far y name bytes allowed in
        set_stops_by sets.0 sets.1 (is_directory u y && not (is_among fresh y)) refl g reason stops

  -- ---- each step

  -- a file that goes on is there
  there_later : (u : Tree) (y : Path) (at : ℕ) (bytes : List ℕ) → IsTreeUnder u two → IsLaterWrite u y at bytes
      → exists u y ≡ true
  there_later u y at bytes under later =
      let next = last_stands u later.before y (bare_entry (File later.content)) under.is_tree later.entries_are in
      exists-find u y next.below_root
      ∙ ap is_some (ap (find path_cmp y) later.entries_are
      ∙ find_at_last y (bare_entry (File later.content)) later.before next.behind)

  at_some : (n k : ℕ) → n ≡ dump_piece * suc k → (n == 0) ≡ false
  at_some n k is = ne_eqb n 0 (λ none. omega (arith, is, none))

  step_leads : (u w : Tree) (s : DumpStep) → IsPut replaces to listed u t w → IsTreeUnder u two → IsNext u two s
      → IsTrue (is_path (to ++ step_path s)) → (next : Tree) → Leads p w (put_step replaces to fresh u s) next
      → IsPut replaces to listed (after_step u s) t next
  unfolding is_on_attributes
  step_leads u w (Make y) so_far under is path next chain =
      let step = step_of_next u (Make y) two under is in
      let one = one_leads p w next (done_at_no_directory (commands.Make (to ++ y))) chain in
      subst (λ v. IsPut replaces to listed (after_step u (Make y)) t v) one.1
      (make_leads replaces to listed p t u w so_far y (makes_at u y step.allowed) path one.0)
  step_leads u w (Write y at bytes) so_far under (inl first) path next chain =
      let step = step_of_next u (Write y at bytes) two under (inl first) in
      subst (λ i. IsPut replaces to listed (after_step u (Write y i bytes)) t next) (sym first.at_is)
      (first_leads replaces to listed p t u w so_far y bytes
      (subst (λ i. refusal_of u (commands.Write y i bytes) ≡ None) first.at_is step.allowed)
      (find_last y u first.next.behind) (path, omega arith, first.valid) next
      (subst (λ i. Leads p w (put_step replaces to fresh u (Write y i bytes)) next) first.at_is chain))
  step_leads u w (Write y at bytes) so_far under (inr later) path next chain =
      let step = step_of_next u (Write y at bytes) two under (inr later) in
      let one = one_leads p w next (always_done (commands.Write (to ++ y) at bytes))
      (subst (λ b. Leads p w (cond b (making_room replaces (to ++ y) ∷ always_done (commands.Write (to ++ y) at bytes)
      ∷ []) (always_done (commands.Write (to ++ y) at bytes) ∷ [])) next)
      (at_some at later.pieces (later.at_is ∙ later.full)) chain) in
      subst (λ v. IsPut replaces to listed (after_step u (Write y at bytes)) t v) one.1
      (later_leads replaces to listed p t u w so_far y at bytes step.allowed (there_later u y at bytes under later)
      (path, (step.command).1, (step.command).2)).1
  step_leads u w (Set y name bytes) so_far under is path next chain =
      let step = step_of_next u (Set y name bytes) two under is in
      set_leads u w so_far y name bytes step.allowed (path, (step.command).1, (step.command).2) next chain

  step_stops : (u w : Tree) (s : DumpStep) → IsPut replaces to listed u t w → IsTreeUnder u two → IsNext u two s
      → IsTrue (is_path (to ++ step_path s)) → (g : Conditional) (reason : Refusal)
      → Stops p w (put_step replaces to fresh u s) g reason
      → RefusesPut replaces p to listed (after_step u s) t g reason
  unfolding is_on_attributes
  step_stops u w (Make y) so_far under is path g reason stops =
      let step = step_of_next u (Make y) two under is in
      let one = one_stops p w (done_at_no_directory (commands.Make (to ++ y))) g reason stops in
      subst (λ c. RefusesPut replaces p to listed (after_step u (Make y)) t c reason) one.0
      (make_stops replaces to listed p t u w so_far y (makes_at u y step.allowed) reason one.1)
  step_stops u w (Write y at bytes) so_far under (inl first) path g reason stops =
      let step = step_of_next u (Write y at bytes) two under (inl first) in
      let here = subst (λ i. Stops p w (put_step replaces to fresh u (Write y i bytes)) g reason) first.at_is stops in
      subst (λ i. RefusesPut replaces p to listed (after_step u (Write y i bytes)) t g reason) (sym first.at_is)
      (subst (λ x. IsUnput replaces p to listed (after_step u (Write y 0 bytes)) t x reason)
      (sym (file_path p w replaces (to ++ y) bytes g reason here))
      (first_stops replaces to listed p t u w so_far y bytes
      (subst (λ i. refusal_of u (commands.Write y i bytes) ≡ None) first.at_is step.allowed)
      (find_last y u first.next.behind) (path, omega arith, first.valid) g reason here))
  step_stops u w (Write y at bytes) so_far under (inr later) path g reason stops =
      let step = step_of_next u (Write y at bytes) two under (inr later) in
      let one = one_stops p w (always_done (commands.Write (to ++ y) at bytes)) g reason
      (subst (λ b. Stops p w (cond b (making_room replaces (to ++ y) ∷ always_done (commands.Write (to ++ y) at bytes)
      ∷ []) (always_done (commands.Write (to ++ y) at bytes) ∷ [])) g reason)
      (at_some at later.pieces (later.at_is ∙ later.full)) stops) in
      absurd (apart (refusal_of w (commands.Write (to ++ y) at bytes)) reason
      (later_leads replaces to listed p t u w so_far y at bytes step.allowed (there_later u y at bytes under later)
      (path, (step.command).1, (step.command).2)).0 one.1)
  step_stops u w (Set y name bytes) so_far under is path g reason stops =
      let step = step_of_next u (Set y name bytes) two under is in
      set_stops u w so_far y name bytes step.allowed (path, (step.command).1, (step.command).2) g reason stops

  -- ---- all steps

  steps_lead : (steps : List DumpStep) (v u w next : Tree) → Chain v steps u two → IsTreeUnder v two
      → AllByRecursion (λ s. IsTrue (is_path (to ++ step_path s))) steps → IsPut replaces to listed v t w
      → Leads p w (put_steps replaces to fresh v steps) next → IsPut replaces to listed u t next
  unfolding put_steps
  steps_lead [] v u w next same under paths so_far chain =
      subst (λ x. IsPut replaces to listed x t next) same
      (subst (λ x. IsPut replaces to listed v t x) (nowhere p w next chain) so_far)
  steps_lead (s ∷ steps) v u w next follows under paths so_far chain =
      let split = leads_split p w next (put_step replaces to fresh v s)
      (put_steps replaces to fresh (after_step v s) steps) chain in
      steps_lead steps (after_step v s) u split.0 next follows.1 (goes_on v s two under follows.0).under paths.1
      (step_leads v w s so_far under follows.0 paths.0 split.0 split.1) split.2

  -- Where the steps stop, what comes to the path of that change is not put there, by the steps up to it.
  pub record StopsBehind (u : Tree) (g : Conditional) (reason : Refusal) : Type 0 where
    pub front : Tree
    pub rest : List DumpStep
    pub front_is : dump u ≡ dump front ++ rest
    pub refuses : RefusesPut replaces p to listed front t g reason

  steps_stop : (steps : List DumpStep) (v u w : Tree) → Chain v steps u two → IsTreeUnder v two
      → AllByRecursion (λ s. IsTrue (is_path (to ++ step_path s))) steps → IsPut replaces to listed v t w
      → dump u ≡ dump v ++ steps → (g : Conditional) (reason : Refusal)
      → Stops p w (put_steps replaces to fresh v steps) g reason → StopsBehind u g reason
  unfolding put_steps
  steps_stop [] v u w same under paths so_far whole g reason stops = absurd (none_stops p w g reason stops)
  steps_stop (s ∷ steps) v u w follows under paths so_far whole g reason stops =
      let next = goes_on v s two under follows.0 in
      let more : dump u ≡ dump (after_step v s) ++ steps =
      whole ∙ sym (append_assoc (dump v) (s ∷ []) steps) ∙ ap (λ ds. ds ++ steps) (sym next.dump_is) in
      by (stops_split p w g reason (put_step replaces to fresh v s) (put_steps replaces to fresh (after_step v s) steps)
      stops) more (λ x here stopped. steps_stop steps (after_step v s) u x follows.1 next.under paths.1
      (step_leads v w s so_far under follows.0 paths.0 x here) more g reason stopped)
    where
      by : Stops p w (put_step replaces to fresh v s) g reason
          ⊎ ((x : Tree) × Leads p w (put_step replaces to fresh v s) x
          × Stops p x (put_steps replaces to fresh (after_step v s) steps) g reason)
          → dump u ≡ dump (after_step v s) ++ steps
          → ((x : Tree) → Leads p w (put_step replaces to fresh v s) x
          → Stops p x (put_steps replaces to fresh (after_step v s) steps) g reason → StopsBehind u g reason)
          → StopsBehind u g reason
      by (inl here) more goes = record {
        front = after_step v s;
        rest = steps;
        front_is = more;
        refuses = step_stops v w s so_far under follows.0 paths.0 g reason here;
      }
      by (inr later) more goes = goes later.0 later.1 later.2

  module _ (tree : IsTree t) (valid : IsTrue (is_path to)) where
    -- behind the way to the place
    way_leads : (w : Tree) → Leads p t (making_parents_steps (to ∷ [])) w → IsPut replaces to listed empty_tree t w
    way_leads w chain = nothing_put replaces to listed t w (parents_lead (to ∷ []) p t tree (valid, tt) w chain)

    under_two : (u : Tree) → IsTree u → IsTreeUnder u two
    under_two u is = record { is_tree = is; bare = λ lacks. cc }

    pub puts_lead : (u w : Tree) → IsTree u → HasRoomBelow to u → Leads p t (put_changes replaces to fresh u) w
        → IsPut replaces to listed u t w
    puts_lead u w is room chain =
        let split = leads_split p t w (making_parents_steps (to ∷ []))
        (put_steps replaces to fresh empty_tree (dump u)) chain in
        steps_lead (dump u) empty_tree u split.0 w (dump_chain u two (under_two u is))
        (under_two empty_tree IsTree-empty)
        room (way_leads split.0 split.1) split.2

    -- what goes on with a dump may stand next
    next_in : (u : Tree) (s : DumpStep) → IsTree u → Extends u s → IsNext u two s
    next_in u s is extends = next_of_goes_on u s two (under_two u is) (record {
      under = under_two (after_step u s) extends.is_tree;
      dump_is = extends.dump_is;
    })

    pub puts_stop : (u w : Tree) (s : DumpStep) (g : Conditional) (reason : Refusal) → IsTree u → HasRoomBelow to u
        → Extends u s → IsTrue (is_path (to ++ step_path s)) → Leads p t (put_changes replaces to fresh u) w
        → Stops p w (put_step replaces to fresh u s) g reason
        → RefusesPut replaces p to listed (after_step u s) t g reason
    puts_stop u w s g reason is room extends path chain stops =
        step_stops u w s (puts_lead u w is room chain) (under_two u is) (next_in u s is extends) path g reason stops

    pub way_stops : (g : Conditional) (reason : Refusal) → Stops p t (making_parents_steps (to ∷ [])) g reason
        → RefusesPut replaces p to listed empty_tree t g reason
    way_stops g reason stops =
        let refuses = parents_stop (to ∷ []) p t tree (valid, tt) g reason stops in
        let q = refuses.0 in
        subst (λ (c : Conditional). RefusesPut replaces p to listed empty_tree t c reason) (sym refuses.1)
        (in_the_way q reason refuses.2)
      where
        in_the_way : (q : Path) (why : Refusal) → IsInTheWay (to ∷ []) t q why
            → IsUnput replaces p to listed empty_tree t q why
        in_the_way q why is = record {
          new = bare_directory;
          comes = cond-false _ _ _ (false_from_ne_true _ (λ inside. not_both_ways q to inside is.leads))
              ∙ cond-true _ _ _ is.leads;
          reason = inl (file_in_the_way replaces (find path_cmp q t)
              (ap is_file_node (sym (node_at-find t q (not-true _ (and_parts (not (is_root q)) _ is.leads).0)))
              ∙ is.file) ∙ ap Some (sym is.reason));
        }

    pub puts_stop_behind : (u : Tree) (g : Conditional) (reason : Refusal) → IsTree u → HasRoomBelow to u
        → Stops p t (put_changes replaces to fresh u) g reason → StopsBehind u g reason
    unfolding dump
    puts_stop_behind u g reason is room stops =
        by (stops_split p t g reason (making_parents_steps (to ∷ [])) (put_steps replaces to fresh empty_tree (dump u))
        stops)
      where
        by : Stops p t (making_parents_steps (to ∷ [])) g reason
            ⊎ ((x : Tree) × Leads p t (making_parents_steps (to ∷ [])) x
            × Stops p x (put_steps replaces to fresh empty_tree (dump u)) g reason) → StopsBehind u g reason
        by (inl here) =
            record { front = empty_tree; rest = dump u; front_is = refl; refuses = way_stops g reason here }
        by (inr later) = steps_stop (dump u) empty_tree u later.0 (dump_chain u two (under_two u is))
            (under_two empty_tree IsTree-empty) room (way_leads later.0 later.1) refl g reason later.2
