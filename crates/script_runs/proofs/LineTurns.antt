-- What was read of a script so far and which texts were written, whatever answers its lines: what each call of its
-- reader and its sink leaves, between two lines and at each end.
use Rattle.std.specs.List.{concat}
use Rattle.std.proofs.Common.{◌≡◌, ℕ, ◌+◌, ◌-◌, ◌≤◌, List, [], ◌∷◌, ◌++◌, length, take, drop, IsTrue, Some, None, Ok}
use Rattle.std.proofs.Common.{Err, refl, sym, ap, ◌∙◌, subst, arith, append_assoc, length-append, length-drop}
use Rattle.std.proofs.Common.{length-take}
use Rattle.std.proofs.Math.Seq.{take-add}
use Rattle.std.proofs.lemmas.Bool.{false≢true}
use Rattle.std.proofs.lemmas.List.{take_all, append-nil, drop-drop}
use Rattle.std.proofs.lemmas.List.Folds.{concat-append}
use Rattle.store_model.specs.Scripts.{lines, script_limit}
use Rattle.script_lines.specs.SourceState.{SourceState}
use Rattle.script_lines.specs.SourceState as sources
use Rattle.script_lines.specs.SinkState.{SinkState, IsPut}
use Rattle.script_lines.specs.SinkState as sinks
use Rattle.script_lines.specs.Lines.{ended_lines}
use Rattle.script_lines.specs.LineState.{LineState, left, to_come, Takes, Answers, FailsBetween, PassesLimit}
use Rattle.script_lines.specs.declared.lines.LineFault.{LineFault}
use Rattle.script_lines.specs.declared.lines.LineFault.TheVariants as causes
use Rattle.script_lines.proofs.StateLemmas.{Answers-refl, Answers-trans, Takes-trans}
use Rattle.script_lines.proofs.LineLemmas.{lines-none}
use Rattle.image_check.specs.declared.fault.ApplyFault.{ApplyFault}
use Rattle.image_check.specs.declared.fault.ApplyFault.TheVariants as apply
use Rattle.image_subcommands.specs.declared.status.Status.{Status}
use Rattle.image_subcommands.specs.declared.status.Status.TheVariants as statuses
use Rattle.image_subcommands.specs.Endings.{line_status, apply_status}
use Rattle.image_subcommands.specs.Statuses.{Subcommand as words, IsEndOf, source_faults_by, sink_faults_by}
use Rattle.image_subcommands.proofs.LineLimits.{lines_split, taken_split, end_of_left, taken_all, within_limit}
use Rattle.image_subcommands.proofs.LineLimits.{past_limit}
use Rattle.script_runs.specs.declared.script.Answering.{Answering}
use Rattle.script_runs.specs.Runs.{ReadsLine, IsUnread, WritesReplies}
use Rattle.script_runs.specs.ScriptLines.{KeepsEnds, LinesKept, LinesEnd}
use Rattle.script_runs.specs.ScriptCall.{word_of}
use Rattle.script_runs.proofs.AnswerLemmas.{ends_as_run}

-- whether the source tells its bytes
abbrev IsTold : {R : Type 0} → (R → SourceState) → LineState R → Type 0
IsTold source_of first = sources.IsObservable (source_of first.source)

-- one text more
wrote_more : (texts : List (List ℕ)) (done : ℕ) (text written : List ℕ) → take 1 (drop done texts) ≡ text ∷ []
    → (written ++ concat (take done texts)) ++ text ≡ written ++ concat (take (done + 1) texts)
wrote_more texts done text written is =
    append_assoc written (concat (take done texts)) text
    ∙ ap (λ xs. written ++ xs) (
    ap (λ xs. concat (take done texts) ++ xs) (sym (append-nil text))
    ∙ sym (concat-append (take done texts) (text ∷ []))
    ∙ ap concat (ap (λ xs. take done texts ++ xs) (sym is) ∙ sym (take-add done 1 texts)))

module _ {R W : Type 0} {source_of : R → SourceState} {sink_of : W → SinkState} {texts : List (List ℕ)} {Tells : Type 0}
    {first : LineState R} {sink_first : W} where
  -- before the first line
  pub lines_start : IsUnread first → LinesKept source_of sink_of texts Tells first first sink_first sink_first 0
  lines_start new = record {
    unread = new;
    limit = refl;
    in_limit = omega (arith, new.taken, new.limit);
    kept = record { source_observable = refl; sink_observable = refl; source_faults = refl; sink_faults = refl };
    half = λ o. record { read = []; answers = Answers-refl source_of first; count = refl };
    written = λ o tells so. sym (append-nil (sink_of sink_first).written);
  }

  module _ (kind : Answering) (each : length texts ≡ length (lines (left source_of first)))
      {now : LineState R} {sink : W} {done : ℕ}
      (before : LinesKept source_of sink_of texts Tells first now sink_first sink done) where
    low : IsTold source_of first → done ≤ length texts
    low o = let h = before.half o in omega (
      arith,
      each,
      h.count,
      ap length (lines_split source_of first before.unread.held before.unread.taken now h.read h.answers),
      length-append h.read (lines (to_come source_of now)),
    )

    -- the lines that were carried out were answered
    wrote : (status : Status) → IsTold source_of first → Tells → (status ≡ statuses.Done → done ≡ length texts)
        → (status ≡ statuses.SinkFault → ⊥) → sinks.IsObservable (sink_of sink_first)
        → WritesReplies status done texts (sink_of sink_first) (sink_of sink)
    wrote status o tells whole other so = record {
      written = concat (take done texts);
      written_is = before.written o tells so;
      promised = record {
        all = λ e. ap concat (take_all done texts (omega (arith, whole e)));
        answered = λ cut. refl;
        in_part = λ e. absurd (other e);
      };
    }

    module _ (next : LineState R) where
      takes_to : IsTold source_of first → Takes source_of now next → Takes source_of first next
      takes_to o takes = Takes-trans source_of first now next (before.half o).answers.takes takes

      -- the source and the sink, where nothing was put out
      kept_to : (status : Status)
          → (source_of next.source).is_observable ≡ (source_of now.source).is_observable
          → (source_of next.source).faults ≡ source_faults_by status (source_of now.source).faults
          → (sink_of sink_first).faults ≡ sink_faults_by status (sink_of sink_first).faults
          → KeepsEnds status (source_of first.source) (source_of next.source) (sink_of sink_first) (sink_of sink)
      kept_to status observable faults spared = record {
        source_observable = observable ∙ before.kept.source_observable;
        sink_observable = before.kept.sink_observable;
        source_faults = faults ∙ ap (source_faults_by status) before.kept.source_faults;
        sink_faults = before.kept.sink_faults ∙ spared;
      }

      -- no more bytes were taken than a script may have
      in_script : next.limit ≡ now.limit → next.taken ≤ next.limit → next.taken ≤ script_limit
      in_script same within = omega (arith, same, within, before.limit, before.unread.limit)

      -- the lines ended so, in a call that took no more bytes than a script may have
      ends_so : (status : Status) → IsEndOf words.Run status
          → KeepsEnds status (source_of first.source) (source_of next.source) (sink_of sink_first) (sink_of sink)
          → next.limit ≡ now.limit → next.taken ≤ next.limit → (IsTold source_of first → Takes source_of now next)
          → (status ≡ statuses.TooLong → ⊥) → (status ≡ statuses.SinkFault → ⊥)
          → (IsTold source_of first → status ≡ statuses.Done → (left source_of next ≡ []) × (done ≡ length texts))
          → (IsTold source_of first → status ≡ statuses.SourceFault
          → done ≡ length (ended_lines (take (next.taken - first.taken) (left source_of first))))
          → LinesEnd source_of sink_of (word_of kind) texts Tells first next sink_first sink done status
      ends_so status is kept same within takes fits spared whole ended = record {
        ends = ends_as_run kind status is;
        kept = kept;
        limit = λ o. within_limit source_of first before.unread.held before.unread.taken status next
            (takes_to o (takes o)) (in_script same within) fits (λ e. (whole o e).0);
        replies = λ o tells. record {
          taken = take (next.taken - first.taken) (left source_of first);
          taken_is = taken_split source_of first before.unread.held before.unread.taken next (takes_to o (takes o));
          counted = record {
            all = whole o;
            ended = ended o;
            ended_in_limit = λ e. absurd (fits e);
            counted = low o;
            some_line = λ e. absurd (spared e);
          };
          written = wrote status o tells (λ e. (whole o e).1) spared;
        };
      }

    module _ {Q : Type 0} {IsAsked : Q → List ℕ → Type 0} {next : LineState R} where
      -- the script is at its end
      module _ (reads : ReadsLine source_of IsAsked now next (Ok None)) where
        ended : IsTold source_of first → Answers source_of now next [] × (to_come source_of next ≡ [])
        ended o = reads.next (before.kept.source_observable ∙ o)

        all_done : IsTold source_of first → done ≡ length texts
        all_done o =
            let h = before.half o in
            let read_are : lines (left source_of first) ≡ h.read =
            lines_split source_of first before.unread.held before.unread.taken next (h.read ++ [])
            (Answers-trans source_of first now next h.read [] h.answers (ended o).0)
            ∙ ap (λ xs. (h.read ++ []) ++ lines xs) (ended o).1
            ∙ ap (λ xs. (h.read ++ []) ++ xs) lines-none ∙ append-nil (h.read ++ []) ∙ append-nil h.read in
            h.count ∙ ap length (sym read_are) ∙ sym each

        pub at_end : LinesEnd source_of sink_of (word_of kind) texts Tells first next sink_first sink done statuses.Done
        at_end =
            ends_so next statuses.Done refl
            (kept_to next statuses.Done reads.source.observable reads.source.faults refl)
            reads.limit reads.in_limit (λ o. (ended o).0.takes) (λ e. cc) (λ e. cc)
            (λ o e. (end_of_left source_of first before.unread.held before.unread.taken next (ended o).1, all_done o))
            (λ o e. absurd (cc))

      -- a take failed
      module _ (reads : ReadsLine source_of IsAsked now next (Err causes.Source)) where
        fails : IsTold source_of first → FailsBetween source_of now next
        fails o = reads.next (before.kept.source_observable ∙ o)

        ended_before : IsTold source_of first
            → done ≡ length (ended_lines (take (next.taken - first.taken) (left source_of first)))
        ended_before o =
            let h = before.half o in
            let size : (now.taken - first.taken) + (next.taken - now.taken) ≡ next.taken - first.taken =
            omega (arith, h.answers.takes.taken, (fails o).takes.taken) in
            let ended_are : ended_lines (take (next.taken - first.taken) (left source_of first)) ≡ h.read =
            ap (λ n. ended_lines (take n (left source_of first))) (sym size)
            ∙ ap (λ xs. ended_lines (xs ++ take ((now.taken - first.taken) + (next.taken - now.taken))
            (left source_of first))) (sym before.unread.held)
            ∙ h.answers.ended (fails o).before_end (next.taken - now.taken)
            ∙ ap (λ xs. h.read ++ xs) (fails o).none ∙ append-nil h.read in
            h.count ∙ ap length (sym ended_are)

        at_source_fault : LinesEnd source_of sink_of (word_of kind) texts Tells first next sink_first sink done
            statuses.SourceFault
        at_source_fault =
            ends_so next statuses.SourceFault refl
            (kept_to next statuses.SourceFault reads.source.observable reads.source.faults refl)
            reads.limit reads.in_limit (λ o. (fails o).takes) (λ e. cc) (λ e. cc) (λ o e. absurd (cc))
            (λ o e. ended_before o)

      -- the script is too long
      module _ (reads : ReadsLine source_of IsAsked now next (Err causes.TooLong)) where
        passes : IsTold source_of first → PassesLimit source_of now next
        passes o = reads.next (before.kept.source_observable ∙ o)

        all_taken : IsTold source_of first
            → left source_of first ≡ take (script_limit + 1) (left source_of first) ++ left source_of next
        all_taken o =
            let h = before.half o in
            let limit_now : now.limit ≡ script_limit = before.limit ∙ before.unread.limit in
            let more : (now.taken - first.taken) + ((now.limit - now.taken) + 1) ≡ script_limit + 1 =
            omega (arith, before.unread.taken, limit_now, (passes o).within) in
            taken_all source_of first before.unread.held before.unread.taken
            ((passes o).left ∙ ap (drop ((now.limit - now.taken) + 1)) h.answers.takes.left
            ∙ drop-drop ((now.limit - now.taken) + 1) (now.taken - first.taken) (left source_of first)
            ∙ ap (λ n. drop n (left source_of first)) more)

        ended_are : (o : IsTold source_of first)
            → ended_lines (take script_limit (left source_of first)) ≡ (before.half o).read
        ended_are o =
            let h = before.half o in
            let limit_now : now.limit ≡ script_limit = before.limit ∙ before.unread.limit in
            let size : (now.taken - first.taken) + (now.limit - now.taken) ≡ script_limit =
            omega (arith, before.unread.taken, limit_now, (passes o).within) in
            ap (λ n. ended_lines (take n (left source_of first))) (sym size)
            ∙ ap (λ xs. ended_lines (xs ++ take ((now.taken - first.taken) + (now.limit - now.taken))
            (left source_of first))) (sym before.unread.held)
            ∙ h.answers.ended (passes o).before_end (now.limit - now.taken)
            ∙ ap (λ xs. h.read ++ xs) (passes o).none ∙ append-nil h.read

        at_too_long : LinesEnd source_of sink_of (word_of kind) texts Tells first next sink_first sink done
            statuses.TooLong
        at_too_long = record {
          ends = ends_as_run kind statuses.TooLong refl;
          kept = kept_to next statuses.TooLong reads.source.observable reads.source.faults refl;
          limit = λ o. let h = before.half o in past_limit source_of first before.unread.held before.unread.taken
              now next h.read before.unread.limit h.answers (passes o);
          replies = λ o tells. record {
            taken = take (script_limit + 1) (left source_of first);
            taken_is = all_taken o;
            counted = record {
              all = λ e. absurd (cc);
              ended = λ e. absurd (cc);
              ended_in_limit = λ e. (before.half o).count ∙ ap length (sym (ended_are o))
                  ∙ ap (λ xs. length (ended_lines (take script_limit xs))) (all_taken o);
              counted = low o;
              some_line = λ e. absurd (cc);
            };
            written = wrote statuses.TooLong o tells (λ e. absurd (cc)) (λ e. cc);
          };
        }

      pub at_line_fault : (fault : LineFault) → ReadsLine source_of IsAsked now next (Err fault)
          → LinesEnd source_of sink_of (word_of kind) texts Tells first next sink_first sink done (line_status fault)
      at_line_fault causes.Source reads = at_source_fault reads
      at_line_fault causes.TooLong reads = at_too_long reads

      -- a line was read
      module _ {asked : Q} (reads : ReadsLine source_of IsAsked now next (Ok (Some asked))) where
        -- what it says, where the source tells it, and what is asked for is what it asks for
        pub line : IsTold source_of first
            → (text : List ℕ) × IsAsked asked text × Answers source_of now next (text ∷ [])
        line o = reads.next (before.kept.source_observable ∙ o)

        -- it comes behind those that were read
        pub split : (o : IsTold source_of first) → lines (left source_of first) ≡ (before.half o).read ++ (line o).0
            ∷ lines (to_come source_of next)
        split o =
            lines_split source_of first before.unread.held before.unread.taken now
            (before.half o).read (before.half o).answers
            ∙ ap (λ xs. (before.half o).read ++ xs) (line o).2.lines

        -- a fault comes in its answer, of the disk or for want of memory
        at_disk_fault : LinesEnd source_of sink_of (word_of kind) texts Tells first next sink_first sink done
            statuses.DiskFault
        at_disk_fault =
            ends_so next statuses.DiskFault refl
            (kept_to next statuses.DiskFault reads.source.observable reads.source.faults refl)
            reads.limit reads.in_limit (λ o. (line o).2.takes) (λ e. cc) (λ e. cc) (λ o e. absurd (cc))
            (λ o e. absurd (cc))

        pub at_fault : (fault : ApplyFault) → LinesEnd source_of sink_of (word_of kind) texts Tells first next
            sink_first sink done (apply_status fault)
        at_fault apply.Disk = at_disk_fault
        at_fault apply.Stopped = at_disk_fault
        at_fault apply.NoMemory =
            ends_so next statuses.NoMemory refl
            (kept_to next statuses.NoMemory reads.source.observable reads.source.faults refl)
            reads.limit reads.in_limit (λ o. (line o).2.takes) (λ e. cc) (λ e. cc) (λ o e. absurd (cc))
            (λ o e. absurd (cc))

        -- it was answered, and its text was put out, or a part of it
        module _ {put_text : List ℕ} (text : IsTold source_of first → Tells → take 1 (drop done texts) ≡ put_text ∷ [])
            {sink_next : W} {T E : Type 0} where
          pub line_more : {value : T} → IsPut {E = E} (sink_of sink) (sink_of sink_next) put_text (Ok value)
              → LinesKept source_of sink_of texts Tells first next sink_first sink_next (done + 1)
          line_more put = record {
            unread = before.unread;
            limit = reads.limit ∙ before.limit;
            in_limit = reads.in_limit;
            kept = record {
              source_observable = reads.source.observable ∙ before.kept.source_observable;
              sink_observable = put.observable ∙ before.kept.sink_observable;
              source_faults = reads.source.faults ∙ before.kept.source_faults;
              sink_faults = put.faults ∙ before.kept.sink_faults;
            };
            half = λ o. let h = before.half o in record {
              read = h.read ++ (line o).0 ∷ [];
              answers = Answers-trans source_of first now next h.read ((line o).0 ∷ []) h.answers (line o).2;
              count = omega (arith, h.count, length-append h.read ((line o).0 ∷ []));
            };
            written = λ o tells so. (put.observed (before.kept.sink_observable ∙ so)).appended
                ∙ ap (λ xs. xs ++ put_text) (before.written o tells so)
                ∙ wrote_more texts done put_text (sink_of sink_first).written (text o tells);
          }

          pub line_cut_off : {fault : E} → IsPut {T = T} (sink_of sink) (sink_of sink_next) put_text (Err fault)
              → LinesEnd source_of sink_of (word_of kind) texts Tells first next sink_first sink_next (done + 1)
              statuses.SinkFault
          line_cut_off put = record {
            ends = ends_as_run kind statuses.SinkFault refl;
            kept = record {
              source_observable = reads.source.observable ∙ before.kept.source_observable;
              sink_observable = put.observable ∙ before.kept.sink_observable;
              source_faults = reads.source.faults ∙ before.kept.source_faults;
              sink_faults = put.faults ∙ ap (sink_faults_by statuses.SinkFault) before.kept.sink_faults;
            };
            limit = λ o. within_limit source_of first before.unread.held before.unread.taken statuses.SinkFault next
                (takes_to next o (line o).2.takes) (in_script next reads.limit reads.in_limit) (λ e. cc)
                (λ e. absurd (cc));
            replies = λ o tells. record {
              taken = take (next.taken - first.taken) (left source_of first);
              taken_is = taken_split source_of first before.unread.held before.unread.taken next
                  (takes_to next o (line o).2.takes);
              counted = record {
                all = λ e. absurd (cc);
                ended = λ e. absurd (cc);
                ended_in_limit = λ e. absurd (cc);
                counted = omega (
                  arith,
                  ap length (text o tells),
                  length-take 1 (drop done texts),
                  length-drop done texts,
                );
                some_line = λ e. omega arith;
              };
              written = λ so.
                  let appended = (put.observed (before.kept.sink_observable ∙ so)).cut_off in
                  let last : done + 1 - 1 ≡ done = omega arith in
                  record {
                    written = concat (take done texts) ++ appended.part;
                    written_is = appended.appended ∙ ap (λ xs. xs ++ appended.part) (before.written o tells so)
                        ∙ append_assoc (sink_of sink_first).written (concat (take done texts)) appended.part;
                    promised = record {
                      all = λ e. absurd (cc);
                      answered = λ cut. absurd (false≢true cut);
                      in_part = λ e. record {
                        part = appended.part;
                        front = record {
                          rest = appended.rest;
                          whole = ap (λ n. concat (take 1 (drop n texts))) last ∙ ap concat (text o tells)
                              ∙ append-nil put_text ∙ appended.is_prefix;
                        };
                        written_is = ap (λ n. concat (take n texts) ++ appended.part) (sym last);
                      };
                    };
                  };
            };
          }
