-- What is known between two commands that a number gives, and what each way out of the loop over them leaves.
use Rattle.std.proofs.Common.{◌≡◌, ℕ, ◌+◌, ◌-◌, ◌<◌, ◌≤◌, ◌^◌, List, [], ◌∷◌, ◌++◌, ◌&&◌, not, false, Result, Ok, Err}
use Rattle.std.proofs.Common.{refl, sym}
use Rattle.std.proofs.Common.{ap, subst, ◌∙◌, arith}
use Rattle.std.proofs.lemmas.Bool.{false≢true}
use Rattle.store_model.specs.Parameters.{Parameters}
use Rattle.store_model.specs.Trees.{Tree}
use Rattle.store_model.specs.Pages.{page_count}
use Rattle.store_model.specs.Commands as model
use Rattle.store_model.specs.Commands.{reply_text}
use Rattle.store_model.specs.Commands.Command.{Space, Digest}
use Rattle.store_model.specs.Commands.Reply.{PagesUsed}
use Rattle.store_model.specs.declared.refusal.Refusal.{Refusal}
use Rattle.store_model.specs.Scripts.{answer_by}
use Rattle.store_model.specs.Steps.{Step, step, first_refusal, conditions, next_tree, reply_of as answer_of, may_fill}
use Rattle.store_model.specs.Steps.{is_on_attributes}
use Rattle.disk_model.specs.DiskState.{DiskState, IsSound}
use Rattle.disk_model.specs.DiskState as disks
use Rattle.script_lines.specs.Generated.{state_after, generated}
use Rattle.script_lines.specs.Parsing.{reading_of}
use Rattle.script_lines.specs.declared.command.Command as orders
use Rattle.script_lines.specs.SinkState.{SinkState, IsPut, AppendsPrefix}
use Rattle.script_lines.specs.declared.reply.Reply.{Reply}
use Rattle.script_lines.specs.Replies.{reply_of, PutsPart, FailsPart}
use Rattle.image_check.specs.declared.fault.ApplyFault.{ApplyFault}
use Rattle.image_check.specs.declared.fault.ApplyFault.TheVariants as apply
use Rattle.store_core.specs.StoreState.{StoreState}
use Rattle.store_core.specs.StoreCalls.{Applies}
use Rattle.tree_commands.proofs.StepLemmas.{digest_step}
use Rattle.script_runs.specs.declared.generated.Generated.{Generated}
use Rattle.image_subcommands.specs.declared.status.Status.{Status}
use Rattle.image_subcommands.specs.declared.status.Status.TheVariants as statuses
use Rattle.image_subcommands.specs.Endings.{apply_status}
use Rattle.image_subcommands.specs.Statuses.{Row, row, Subcommand as words, is_among, IsSummed, MayComeFirst}
use Rattle.image_subcommands.specs.Statuses.{sink_faults_by}
use Rattle.image_subcommands.proofs.EachStatus.{implied}
use Rattle.image_subcommands.proofs.StatusLemmas.{other_than}
use Rattle.script_runs.specs.Generations.{generated_replies, count_answered, count_refused, counts_text, summary_text}
use Rattle.script_runs.specs.Generations.{AnswersGenerated, generator_trees, GeneratedKept, GeneratedDue, GeneratedEnds}
use Rattle.script_runs.specs.Turns.{Start, start_of, Asks, RepliesTo, Begins, AnswersAll, StoreSoFar, StoreEnds}
use Rattle.script_runs.proofs.GenerationLemmas.{no_command, tree_more, tree_past, no_reply, refused_more, counted_all}
use Rattle.script_runs.proofs.GenerationLemmas.{answered_are}
use Rattle.script_runs.proofs.StoreTurns.{moves_by_step, store_read, store_failed, store_ends}
use Rattle.script_runs.proofs.AnswerLemmas.{may_end}
use Rattle.script_runs.proofs.WorkTurns.{not_done}

-- ---- the parts of a summary

-- a text that was put out, in front of others
pub put_part : {T E : Type 0} (a b : SinkState) (front rest : List ℕ) (value : T) → IsPut {E = E} a b front (Ok value)
    → PutsPart a b (front ++ rest) rest
put_part a b front rest value put = record {
  part = front;
  text = refl;
  observable = put.observable;
  faults = put.faults;
  written = λ o. (put.observed o).appended;
}

-- one that was not
pub put_fails : {T E : Type 0} (a b : SinkState) (text : List ℕ) (fault : E)
    → IsPut {T = T} a b text (Err fault) → FailsPart a b text
put_fails a b text fault put = record {
  observable = put.observable;
  faults = put.faults;
  last_fault = put.last_fault;
  written = λ o. (put.observed o).cut_off;
}

-- ---- what is answered

space_step : (t : Tree) (p : Parameters) → step t Space p ≡ record {
  reply = PagesUsed (page_count t p) p.slots;
  tree = t;
}
unfolding step conditions first_refusal next_tree answer_of may_fill is_on_attributes
space_step t p = refl

digest_keeps : (t : Tree) (p : Parameters) → (step t Digest p).tree ≡ t
digest_keeps t p = ap (λ (s : Step). s.tree) (digest_step t p)

one_at_most : (r : model.Reply) → count_refused (r ∷ []) ≤ 1
one_at_most r = omega (arith, counted_all (r ∷ []))

-- ---- the work

no_step : (number : ℕ) → state_after number 0 ≡ number
unfolding state_after
no_step number = refl

-- the number of a new generator
pub number_is : (number state : ℕ) → state ≡ state_after number 0 → state ≡ number
number_is number state is = is ∙ no_step number

-- a fault of the store comes before its commands are all carried out
fault_first : (fault : ApplyFault) → MayComeFirst (apply_status fault)
fault_first apply.Disk = refl
fault_first apply.NoMemory = refl
fault_first apply.Stopped = refl

module _ {start : Start} {first now : Generated} {done : ℕ} where
  -- no command is left
  pub generated_end : GeneratedKept start first now done → now.left ≡ 0
      → GeneratedEnds start first now done statuses.Done
  generated_end kept none =
      let all : done ≡ first.left = omega (arith, kept.left_is, none) in
      record { done_limit = omega (arith, all); cut_short = λ e. absurd (e refl); whole = λ e. (kept, all) }

  -- a fault of the store came
  generated_cut : done ≤ first.left → (fault : ApplyFault) → GeneratedEnds start first now done (apply_status fault)
  generated_cut low fault = record {
    done_limit = low;
    cut_short = λ e. fault_first fault;
    whole = λ e. absurd (not_done fault e);
  }

  -- a command was drawn
  pub generated_asks : {before : Generated} → GeneratedKept start first before done → now.left + 1 ≡ before.left
      → now.generator ≡ state_after first.generator (done + 1) → now.refused ≡ before.refused
      → {asked : Result orders.Command Refusal} → reading_of asked ≡ Ok (generated first.generator done)
      → Asks (λ work. Unit {0}) (λ work from. generator_trees from work) GeneratedEnds GeneratedDue
      start first now done asked
  generated_asks {before} kept one state_is refused_is {asked} asked_is = record {
    after = λ told o.
        tree_more start.tree first.generator first.left start.params done (omega (arith, kept.left_is, one))
        ∙ ap (λ (m : Result model.Command Refusal).
        (answer_by (generator_trees start first done) m start.params).tree) (sym asked_is);
    due = record {
      before = before;
      kept = kept;
      left_is = one;
      state_is = state_is;
      refused_is = refused_is;
      asked_is = asked_is;
    };
    cut = generated_cut (omega (arith, kept.left_is));
  }

  -- and answered
  pub generated_more : {drawn : Generated} {asked : Result orders.Command Refusal}
      → GeneratedDue start first drawn done asked → (reply : Reply)
      → RepliesTo (λ work. Unit {0}) (λ work from. generator_trees from work) start first done asked reply
      → now.generator ≡ drawn.generator → now.left ≡ drawn.left
      → (drawn.refused + 1 < 2 ^ 32 → now.refused ≡ drawn.refused + count_refused (reply_of reply ∷ []))
      → GeneratedKept start first now (done + 1)
  generated_more {drawn} {asked} due reply replies same_state same_left counts =
      let kept = due.kept in
      let refused_now : now.refused ≡ drawn.refused + count_refused (reply_of reply ∷ []) =
      counts (omega (arith, kept.bounded, kept.left_is, kept.fits, due.left_is, due.refused_is)) in
      record {
        fits = kept.fits;
        left_is = omega (arith, kept.left_is, due.left_is, same_left);
        state_is = same_state ∙ due.state_is;
        bounded = omega (arith, kept.bounded, due.refused_is, refused_now, one_at_most (reply_of reply));
        refused_is = λ o.
            let reply_is : reply_of reply
            ≡ (step (generator_trees start first done) (generated first.generator done) start.params).reply =
            replies tt o ∙ ap (λ (m : Result model.Command Refusal).
            (answer_by (generator_trees start first done) m start.params).reply) due.asked_is in
            refused_now
            ∙ ap (λ k. k + count_refused (reply_of reply ∷ [])) (due.refused_is ∙ kept.refused_is o)
            ∙ ap (λ (r : model.Reply). count_refused (generated_replies start.tree first.generator done start.params)
            + count_refused (r ∷ [])) reply_is
            ∙ sym (refused_more start.tree first.generator first.left done
            start.params (omega (arith, kept.left_is)));
      }

-- the commands of a new generator, for a store
pub generated_begins : {D : Type 0} (disk_of : D → DiskState) (store : StoreState D) (work : Generated)
    → work.refused ≡ 0 → work.left < 2 ^ 32
    → Begins disk_of (λ work from. generator_trees from work) (λ work. work.left)
    (λ work. Unit {0}) GeneratedKept store work
generated_begins disk_of store work none fits = record {
  tree = no_command store.tree work.generator work.left store.params;
  kept = record {
    fits = fits;
    left_is = omega arith;
    state_is = sym (no_step work.generator);
    bounded = omega (arith, none);
    refused_is = λ o. none ∙ sym (no_reply store.tree work.generator store.params);
  };
  live = tt;
  fits = omega (arith, fits);
}

-- ---- behind the loop

-- how it ends that the summary was put out so
abbrev pub put_status : {T E : Type 0} → Result T E → Status
put_status (Ok value) = statuses.Done
put_status (Err fault) = statuses.SinkFault

-- a fault that comes before leaves nothing summed up
not_summed : (status : Status) → MayComeFirst status → IsSummed status → ⊥
not_summed status first summed =
    false≢true (ap not (sym summed) ∙ implied (λ s. (row s).may_come_first)
    (λ s. not (is_among words.Big (row s).words && (row s).is_between_lines)) refl status first)

sink_spared : (status : Status) (old new : ℕ) → (status ≡ statuses.SinkFault → ⊥) → sink_faults_by status old ≡ new
    → old ≡ new
sink_spared status old new other e = grind arith

-- by a fault of the store, in the loop or in reading the digest behind it
by_fault : {D W : Type 0} {disk_of : D → DiskState} {sink_of : W → SinkState} {first next : StoreState D} {sink : W}
    {status : Status} {done : ℕ} (work : Generated) → MayComeFirst status → done ≤ work.left
    → StoreEnds disk_of (Unit {0}) (generator_trees (start_of disk_of first) work) status done first next
    → AnswersGenerated disk_of sink_of work.generator work.left status done first next sink sink
by_fault {D} {W} {disk_of} {sink_of} {first} {next} {sink} {status} work comes low store = record {
  work = record {
    ends = implied (λ s. (row s).may_come_first) (may_end words.Big) refl status comes;
    all_done = λ h. absurd (not_summed status comes h);
    done_limit = low;
    sink_observable = refl;
    sink_faults = sink_spared status (sink_of sink).faults _
        (other_than (λ (r : Row). r.may_come_first) status statuses.SinkFault comes refl) refl;
    silent = λ h. refl;
    summary = λ h. absurd (not_summed status comes h);
  };
  store = store;
}

pub loop_fault : {D W : Type 0} {disk_of : D → DiskState} {sink_of : W → SinkState} {first next : StoreState D}
    {sink : W} {status : Status} {done : ℕ} {work work_now : Generated}
    → AnswersAll disk_of (λ work. Unit {0}) (λ work from. generator_trees from work) GeneratedEnds (Err status) done
    first next work work_now
    → AnswersGenerated disk_of sink_of work.generator work.left status done first next sink sink
loop_fault {work = work} all =
    by_fault work (all.turns.work.cut_short (λ e. false≢true (all.cut_short e))) all.turns.work.done_limit
    all.turns.store

-- all commands were carried out
module _ {D : Type 0} {disk_of : D → DiskState}
    (sound : (disk : D) → disks.IsObservable (disk_of disk) → IsSound (disk_of disk))
    {first now : StoreState D} {work work_now : Generated} {value : Unit {0}} {done : ℕ}
    (all : AnswersAll disk_of (λ work. Unit {0}) (λ work from. generator_trees from work) GeneratedEnds (Ok value) done
    first now work work_now) where
  abbrev trees : ℕ → Tree
  trees = generator_trees (start_of disk_of first) work

  kept : GeneratedKept (start_of disk_of first) work work_now done
  kept = (all.turns.work.whole refl).0

  all_done : done ≡ work.left
  all_done = (all.turns.work.whole refl).1

  so_far : StoreSoFar disk_of (Unit {0}) trees first now done
  so_far = all.whole refl

  module _ {next : StoreState D} where
    pub digest_fault : {W : Type 0} {sink_of : W → SinkState} {sink : W} {fault : ApplyFault}
        → Applies disk_of Digest now next (Err fault)
        → AnswersGenerated disk_of sink_of work.generator work.left (apply_status fault) done first next sink sink
    digest_fault {fault = fault} applies =
        let past : trees (done + 1) ≡ (step (trees done) Digest first.params).tree =
        ap (λ k. trees (k + 1)) all_done ∙ tree_past first.tree work.generator work.left first.params
        ∙ ap trees (sym all_done) ∙ sym (digest_keeps (trees done) first.params) in
        by_fault work (fault_first fault) all.turns.work.done_limit
        (store_failed so_far sound
        (λ told o.
        past ∙ ap (λ (t : Tree). (step t Digest first.params).tree) (sym (so_far.tree tt o))
        ∙ ap (λ (p : Parameters). (step now.tree Digest p).tree) (sym so_far.params)) fault
        (moves_by_step so_far.runs applies))

    -- and the digest was read
    module _ {digest : Reply} (applies : Applies disk_of Digest now next (Ok digest)) {used : ℕ}
        (used_is : disks.IsObservable (disk_of next.disk) → next.is_stopped ≡ false
        → used ≡ page_count next.tree next.params)
        {slots : ℕ} (slots_is : slots ≡ next.params.slots) {counts : List ℕ}
        (counts_are : counts ≡ counts_text (work.left - work_now.refused) work_now.refused) where
      at_next : StoreSoFar disk_of (Unit {0}) trees first next done
      at_next = store_read so_far sound (digest_keeps now.tree now.params) (moves_by_step so_far.runs applies)

      -- the four lines that are printed
      abbrev lines_printed : List ℕ
      lines_printed = counts ++ reply_text (PagesUsed used slots) ++ reply_text (reply_of digest)

      abbrev lines_meant : List ℕ
      lines_meant = summary_text (generated_replies first.tree work.generator work.left first.params)
          (trees work.left) first.params

      lines_are : disks.IsObservable (disk_of first.disk) → lines_printed ≡ lines_meant
      lines_are o =
          let replies : List model.Reply = generated_replies first.tree work.generator work.left first.params in
          let front : List ℕ = counts_text (count_answered replies) (count_refused replies) in
          let refused_all : work_now.refused ≡ count_refused replies =
          kept.refused_is o ∙ ap (λ k. count_refused (generated_replies first.tree work.generator k first.params))
          all_done in
          let counted : counts ≡ front =
          counts_are ∙ ap (λ k. counts_text (work.left - k) k) refused_all
          ∙ ap (λ k. counts_text k (count_refused replies))
          (answered_are first.tree work.generator work.left first.params) in
          let tree_is : next.tree ≡ trees work.left = at_next.tree tt o ∙ ap trees all_done in
          let space_is : PagesUsed used slots ≡ (step (trees work.left) Space first.params).reply =
          ap (λ k. PagesUsed k slots) (used_is (at_next.kept.observable ∙ o) at_next.runs)
          ∙ ap (PagesUsed (page_count next.tree next.params)) slots_is
          ∙ sym (ap (λ (s : Step). s.reply) (space_step next.tree next.params))
          ∙ ap (λ (t : Tree). (step t Space next.params).reply) tree_is
          ∙ ap (λ (p : Parameters). (step (trees work.left) Space p).reply) at_next.params in
          let digest_is : reply_of digest ≡ (step (trees work.left) Digest first.params).reply =
          applies.answer (so_far.kept.observable ∙ o)
          ∙ ap (λ (t : Tree). (step t Digest now.params).reply) (so_far.tree tt o ∙ ap trees all_done)
          ∙ ap (λ (p : Parameters). (step (trees work.left) Digest p).reply) so_far.params in
          ap (λ xs. xs ++ reply_text (PagesUsed used slots) ++ reply_text (reply_of digest)) counted
          ∙ ap (λ (r : model.Reply). front ++ reply_text r ++ reply_text (reply_of digest)) space_is
          ∙ ap (λ (r : model.Reply). front ++ reply_text (step (trees work.left) Space first.params).reply
          ++ reply_text r) digest_is

      -- they were put out, or a part of them
      pub summed_up : {W : Type 0} {sink_of : W → SinkState} {sink : W} {T E : Type 0} (sink_next : W)
          (ended : Result T E)
          → IsPut (sink_of sink) (sink_of sink_next) lines_printed ended
          → AnswersGenerated disk_of sink_of work.generator work.left (put_status ended) done first next sink sink_next
      summed_up {sink_of = sink_of} {sink = sink} sink_next (Ok value) put = record {
        work = record {
          ends = refl;
          all_done = λ h. all_done;
          done_limit = all.turns.work.done_limit;
          sink_observable = put.observable;
          sink_faults = put.faults;
          silent = λ h. absurd (h refl);
          summary = λ h so o. record {
            whole = λ e. (put.observed so).appended ∙ ap (λ xs. (sink_of sink).written ++ xs) (lines_are o);
            in_part = λ e. absurd (cc);
          };
        };
        store = store_ends at_next statuses.Done (λ e. cc);
      }
      summed_up {sink_of = sink_of} {sink = sink} sink_next (Err fault) put = record {
        work = record {
          ends = refl;
          all_done = λ h. all_done;
          done_limit = all.turns.work.done_limit;
          sink_observable = put.observable;
          sink_faults = put.faults;
          silent = λ h. absurd (h refl);
          summary = λ h so o. record {
            whole = λ e. absurd (cc);
            in_part = λ e. subst (AppendsPrefix (sink_of sink).written (sink_of sink_next).written) (lines_are o)
                (put.observed so).cut_off;
          };
        };
        store = store_ends at_next statuses.SinkFault (λ e. cc);
      }
