-- A crash loses nothing of what was acknowledged: from what a call that answers a script promises, and from the run
-- behind it.
use Rattle.std.proofs.Common.{◌≡◌, ◌⊎◌, inl, inr, ℕ, ◌+◌, ◌-◌, ◌≤◌, List, [], ◌++◌, length, take, drop, refl, sym, ap}
use Rattle.std.proofs.Common.{◌∙◌, subst, ⊎_elim, arith}
use Rattle.std.specs.List.{concat}
use Rattle.std.proofs.lemmas.List.{append-nil, take_all}
use Rattle.store_model.specs.Parameters.{Parameters}
use Rattle.store_model.specs.Trees.{Tree}
use Rattle.store_model.specs.Images.{layout, Represents}
use Rattle.store_model.specs.Scripts.{lines, tree_after, tree_by, state_by}
use Rattle.disk_model.specs.DiskState.{MayLeaveOnly}
use Rattle.script_lines.specs.Memory.{SourceMemory, SinkMemory, source_state, sink_state}
use Rattle.script_lines.proofs.LineLemmas.{lines-none}
use Rattle.image_check.specs.Standing.{Stands}
use Rattle.image_subcommands.specs.declared.status.Status.{Status}
use Rattle.image_subcommands.specs.declared.status.Status.TheVariants as statuses
use Rattle.image_subcommands.specs.Outside.{outside_of}
use Rattle.image_subcommands.specs.Statuses.{Subcommand, Subcommand as words, IsEndOf, IsBetweenLines, IsCutShort}
use Rattle.script_runs.specs.Promises.{PromisesReplies}
use Rattle.script_runs.specs.ScriptCall.{AnswersScript}
use Rattle.store_claims.specs.declared.crash.Crash.{Crash}
use Rattle.store_claims.specs.Answered.{AnswersScript as IsAnswered}
use Rattle.store_claims.specs.Crashes.{WroteReplies, RunsBehind, LosesNothing}
use Rattle.store_claims.specs.Machines.{Disk, Ended, HasImage, MayLeave, bytes_of, meaning}
use Rattle.store_claims.proofs.RunWays.{EndsAsRun, way, on_the_way, read_is}

-- ---- what was written

-- just so many texts
abbrev wrote_whole : (count : ℕ) (texts : List (List ℕ)) (before after : List ℕ)
    → after ≡ before ++ concat (take count texts) → WroteReplies count texts before after
wrote_whole count texts before after is = record {
  part = [];
  rest = concat (take 1 (drop count texts));
  next_is = refl;
  written_is = is ∙ ap (λ (text : List ℕ). before ++ text) (sym (append-nil (concat (take count texts))));
}

-- those of all lines but the last, and a part of that one's
pub wrote_in_part : (status : Status) (done : ℕ) (texts : List (List ℕ)) (before after : List ℕ) (written : List ℕ)
    → after ≡ before ++ written → PromisesReplies status done texts written → status ≡ statuses.SinkFault
    → WroteReplies (done - 1) texts before after
wrote_in_part status done texts before after written is promised e =
    let wrote = promised.in_part e in
    record {
      part = wrote.part;
      rest = wrote.front.rest;
      next_is = wrote.front.whole;
      written_is = is ∙ ap (λ (text : List ℕ). before ++ text) wrote.written_is;
    }

-- ---- the run behind the crash

-- the tree after no line
after_none : (u : Tree) (p : Parameters) (left : List ℕ) → left ≡ [] → tree_after u (lines left) p ≡ u
unfolding tree_after tree_by state_by
after_none u p left e = ap (λ (text : List ℕ). tree_after u (lines text) p) e
    ∙ ap (λ (texts : List (List ℕ)). tree_after u texts p) lines-none

-- a run of no line
pub runs_behind : (t : Tree) (p : Parameters) (disk : Disk) (source : SourceMemory) (sink : SinkMemory) (next : Ended)
    → source.left ≡ []
    → (meaning disk).faults ≡ 0 → source.faults ≡ 0 → sink.faults ≡ 0
    → IsAnswered t p disk source sink next → RunsBehind t p next
runs_behind t p disk source sink next none disk_faults source_faults sink_faults answered = record {
  image = λ e. subst (λ (u : Tree). HasImage next.disk u p) (after_none t p source.left none) (answered.image e);
  recovers = λ never.
      answered.complete (omega (arith, ap length none)) (record {
        disk_spared = λ rose. let after = never.disk_faults in absurd (omega (arith, disk_faults, rose));
        source_spared = λ rose. let after = never.source_faults in absurd (omega (arith, source_faults, rose));
        sink_spared = λ rose. let after = never.sink_faults in absurd (omega (arith, sink_faults, rose));
      });
}

-- ---- the statuses of a run

ended_by : (status : Status) → IsEndOf words.Run status
    → (status ≡ statuses.Done) ⊎ ((status ≡ statuses.SinkFault) ⊎ IsCutShort status)
ended_by status ends = grind arith

cut_by : (status : Status) → IsCutShort status
    → (status ≡ statuses.DiskFault) ⊎ ((status ≡ statuses.NoMemory) ⊎ IsBetweenLines status)
cut_by status early = grind arith

-- ---- what is left behind a call

module _ {word : Subcommand} {texts_of : Tree → List ℕ → Parameters → List (List ℕ)} {trees_of : Tree → List ℕ
    → Parameters → ℕ → Tree} (as_run : EndsAsRun word)
    (t : Tree) (p : Parameters) (failing : Disk) (source : SourceMemory) (sink : SinkMemory) (first : Ended)
    (answers : AnswersScript word texts_of trees_of meaning source_state sink_state
    (outside_of failing source sink) first)
    (only : MayLeaveOnly (meaning failing) (λ image. Represents image t p))
    (laid_out : (k : ℕ) → Represents (layout (trees_of t source.left p k) p) (trees_of t source.left p k) p) where
  abbrev texts : List (List ℕ)
  texts = texts_of t source.left p

  abbrev trees : ℕ → Tree
  trees k = trees_of t source.left p k

  represents : Represents (bytes_of failing) t p
  represents = read_is failing (λ image. Represents image t p) only

  -- a layout that is left represents its tree
  left_represents : (k : ℕ) (left : List ℕ) → left ≡ layout (trees k) p → Represents left (trees k) p
  left_represents k left is = subst (λ (image : List ℕ). Represents image (trees k) p) (sym is) (laid_out k)

  -- so many replies were written, and the image that was left is of the tree after as many lines, or one more
  pub record LeftBehind (left : List ℕ) : Type 0 where
    pub count : ℕ
    pub replied : WroteReplies count texts sink.written first.sink.written
    pub image : Represents left (trees count) p ⊎ Represents left (trees (count + 1)) p
    pub in_part : (replied.part ≡ []) ⊎ Represents left (trees (count + 1)) p

  written_so : IsCutShort first.status → first.sink.written ≡ sink.written ++ concat (take first.done texts)
  written_so early =
      let wrote = ((answers.observed refl).does t p represents refl).replies.written refl in
      wrote.written_is ∙ ap (λ (text : List ℕ). sink.written ++ text) (wrote.promised.answered early)

  -- where nothing is pending behind the run, what is left is the image of the tree after the lines
  whole_left : IsBetweenLines first.status → (left : List ℕ) → MayLeave first.disk left
      → Represents left (trees first.done) p
  whole_left whole left leaves =
      let carried = ((answers.observed refl).does t p represents refl).carried in
      let stands = carried.image.between whole in
      left_represents first.done left
      ((carried.crashes only).between whole left leaves ∙ stands.layout_is)

  stands_left : (k : ℕ) (left : List ℕ) → Stands (meaning first.disk) (trees k) p → MayLeave first.disk left
      → Represents left (trees k) p
  stands_left k left stands leaves = left_represents k left (stands.durable left leaves ∙ stands.layout_is)

  memory_left : first.status ≡ statuses.NoMemory → (left : List ℕ) → MayLeave first.disk left
      → Represents left (trees first.done) p
  memory_left e left leaves =
      let carried = ((answers.observed refl).does t p represents refl).carried in
      ⊎_elim
      (λ stands. stands_left first.done left stands leaves)
      (λ as_before. ⊎_elim
      (λ stands. stands_left first.done left stands leaves)
      (λ none. subst (λ (k : ℕ). Represents left (trees k) p) (sym none.0) (as_before left leaves))
      (carried.image.no_memory e))
      ((carried.crashes only).no_memory e)

  early_left : IsCutShort first.status → (left : List ℕ) → MayLeave first.disk left
      → Represents left (trees first.done) p ⊎ Represents left (trees (first.done + 1)) p
  early_left early left leaves =
      ⊎_elim (λ e. (((answers.observed refl).does t p represents refl).carried.crashes only).fault e left leaves)
      (λ other. inl (⊎_elim (λ e. memory_left e left leaves) (λ whole. whole_left whole left leaves) other))
      (cut_by first.status early)

  left_early : IsCutShort first.status → (left : List ℕ) → MayLeave first.disk left → LeftBehind left
  left_early early left leaves = record {
    count = first.done;
    replied = wrote_whole first.done texts sink.written first.sink.written (written_so early);
    image = early_left early left leaves;
    in_part = inl refl;
  }

  left_done : first.status ≡ statuses.Done → (left : List ℕ) → MayLeave first.disk left → LeftBehind left
  left_done e left leaves =
      let told = ((answers.observed refl).does t p represents refl).replies in
      let wrote = told.written refl in
      record {
        count = first.done;
        replied = wrote_whole first.done texts sink.written first.sink.written
            (wrote.written_is ∙ ap (λ (text : List ℕ). sink.written ++ text)
            (wrote.promised.all e ∙ ap concat
            (sym (take_all first.done texts (omega (arith, (told.counted.all e).1))))));
        image = inl (whole_left (subst IsBetweenLines (sym e) refl) left leaves);
        in_part = inl refl;
      }

  left_unwritten : first.status ≡ statuses.SinkFault → (left : List ℕ) → MayLeave first.disk left → LeftBehind left
  left_unwritten e left leaves =
      let told = ((answers.observed refl).does t p represents refl).replies in
      let wrote = told.written refl in
      let some : 1 ≤ first.done = told.counted.some_line e in
      let next : first.done - 1 + 1 ≡ first.done = omega arith in
      let is = subst (λ (k : ℕ). Represents left (trees k) p) (sym next)
      (whole_left (subst IsBetweenLines (sym e) refl) left leaves) in
      record {
        count = first.done - 1;
        replied = wrote_in_part first.status first.done texts
            sink.written first.sink.written wrote.written wrote.written_is wrote.promised e;
        image = inr is;
        in_part = inr is;
      }

  pub left_behind : (left : List ℕ) → MayLeave first.disk left → LeftBehind left
  left_behind left leaves =
      ⊎_elim (λ e. left_done e left leaves)
      (λ other. ⊎_elim (λ e. left_unwritten e left leaves) (λ early. left_early early left leaves) other)
      (ended_by first.status (way as_run t p failing source sink first answers represents))

-- ---- both calls

pub script_loses_nothing : {word : Subcommand} {texts_of : Tree → List ℕ → Parameters → List (List ℕ)} {trees_of : Tree
    → List ℕ → Parameters → ℕ → Tree} → EndsAsRun word
    → (t : Tree) (p : Parameters) (failing : Disk) (source : SourceMemory) (sink : SinkMemory)
    (left : List ℕ) (crash : Crash)
    → AnswersScript word texts_of trees_of meaning source_state sink_state (outside_of failing source sink) crash.first
    → MayLeaveOnly (meaning failing) (λ image. Represents image t p)
    → (Represents (bytes_of failing) t p → (k : ℕ)
    → Represents (layout (trees_of t source.left p k) p) (trees_of t source.left p k) p)
    → ((u : Tree) → Represents left u p → RunsBehind u p crash.next)
    → LosesNothing (texts_of t source.left p) (trees_of t source.left p) p failing.disk sink left crash
script_loses_nothing {trees_of} as_run t p failing source sink left crash first only laid_out behind =
    let way_left = on_the_way crash.first.status crash.first.done (trees_of t source.left p) p failing crash.first.disk
    (((first.observed refl).does t p (read_is failing (λ image. Represents image t p) only) refl).carried.crashes only)
    in
    record {
      acknowledged = λ leaves e.
          let found = left_behind as_run t p failing source sink crash.first first only
          (laid_out (read_is failing (λ image. Represents image t p) only)) left leaves in
          record {
            count = found.count;
            replied = found.replied;
            image = ⊎_elim (λ is. inl ((behind _ is).image e)) (λ is. inr ((behind _ is).image e)) found.image;
            in_part = ⊎_elim (λ none. inl none) (λ is. inr ((behind _ is).image e)) found.in_part;
          };
      recovers = λ leaves. (behind _ (way_left left leaves).represents).recovers;
      any_moment = λ leaves.
          let found = way_left left leaves in
          record { before = found; image = (behind _ found.represents).image };
    }
