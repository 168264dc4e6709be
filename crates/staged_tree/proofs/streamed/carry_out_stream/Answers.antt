use Rattle.std.proofs.Common.{Result, Ok, Err, refl, ap, sym, subst, ◌∙◌, [], ◌∷◌, ◌++◌}
use Rattle.store_base.specs.Faults.{disk_faults_after}
use Rattle.store_base.specs.declared.store_fault.Fault.TheVariants as causes
use Rattle.store_model.specs.declared.refusal.Refusal.{Refusal}
use Rattle.store_model.specs.Commands.{Command}
use Rattle.script_lines.specs.Sessions.{change_of}
use Rattle.page_store.specs.StagedState.{Follows-refl, Follows-trans}
use Rattle.image_check.specs.declared.fault.ApplyFault.{ApplyFault}
use Rattle.staged_tree.specs.ChangeStreams.{CarriesOutStream}
use Rattle.staged_tree.specs.Roomy.{roomy_tree}
use Rattle.staged_tree.specs.Staging.{StagesGuarded}
use Rattle.staged_tree.proofs.ListSteps.{over_table, table_behind}
use Rattle.staged_tree.proofs.StreamSteps.{streamed_none, streamed_more, streamed_refused, streamed_broken}
use Rattle.staged_tree.proofs.StreamSteps.{streamed_all, streamed_failed, gives_some, gives_none}
use Rattle.staged_tree.proofs.streamed.carry_out_stream.Goals as goal

pub loop-index-init : goal.loop-index-init
loop-index-init g c = record {
  follows = (
    Follows-refl g.D.Disk.state c.args.pairs.now.pages (g.met.D.Disk.sound c.args.pairs.now.pages.disk),
    refl,
  );
  keeps = λ start kept. kept;
  has = streamed_none g.D.Disk.state c.args.params.now c.args.pairs.now c.requires.runs
      (g.S.ChangeStream.came c.args.stream.now) c.requires.begins;
}

-- ---- it has no more

pub returns-in-Ok-None-clause-call : goal.returns-in-Ok-None-clause-call
returns-in-Ok-None-clause-call g c =
    let now = c.loop-index.invariant in
    let stream = c.next.new.self in
    let p = c.args.params.now in
    streamed_all g.D.Disk.state p c.args.pairs.now c.requires.runs
    (g.S.ChangeStream.came c.loop-index.stream) c.loop-index.index c.loop-index.pairs now.follows now.has
    (g.S.ChangeStream.came stream) (g.S.ChangeStream.whole stream) (g.S.ChangeStream.fails stream)
    c.end_stream.new.pairs
    (gives_none _ _ _ _ _ c.in-Ok-None.field-0 c.in-Ok-None.field-0-is c.in-Ok-None.ensures.next
    now.has.changes now.has.came_is)
    c.end_stream.result (λ t next list. c.end_stream.ensures.call t next p list) c.end_stream.ensures.index

-- ---- it failed

pub give_up-requires : goal.give_up-requires
give_up-requires g c =
    let some = c.requires.list in
    table_behind g.D.Disk.state some.0 some.0 c.args.params.now c.args.pairs.now (over_table some.1 c.requires.runs)
    c.requires.runs c.loop-index.pairs c.loop-index.invariant.follows

pub returns-in-Err-clause-call : goal.returns-in-Err-clause-call
returns-in-Err-clause-call g c =
    let now = c.loop-index.invariant in
    let stream = c.next.new.self in
    streamed_broken g.D.Disk.state c.args.params.now c.args.pairs.now c.requires.runs
    (g.S.ChangeStream.came c.loop-index.stream) c.loop-index.index c.loop-index.pairs now.follows now.has
    (g.S.ChangeStream.came stream) (g.S.ChangeStream.whole stream) (g.S.ChangeStream.fails stream)
    c.give_up.new.pairs c.in-Err.fault (c.in-Err.ensures.next.failed now.has.changes now.has.came_is)
    c.give_up.ensures.pages

-- ---- a change is refused

pub give_up-requires-in-Ok-Err : goal.give_up-requires-in-Ok-Err
give_up-requires-in-Ok-Err g c =
    let some = c.requires.list in
    let now = c.loop-index.invariant in
    let then = c.in-Ok-Err.ensures.follows in
    table_behind g.D.Disk.state some.0 some.0 c.args.params.now c.args.pairs.now (over_table some.1 c.requires.runs)
    c.requires.runs c.stage_guarded.new.pairs
    (Follows-trans g.D.Disk.state _ _ _ now.follows.0 then.0, then.1 ∙ now.follows.1)

pub returns-in-Ok-Err-clause-call : goal.returns-in-Ok-Err-clause-call
returns-in-Ok-Err-clause-call g c =
    let state = g.D.Disk.state in
    let p = c.args.params.now in
    let now = c.loop-index.invariant in
    let then = c.in-Ok-Err.ensures.follows in
    let stream = c.next.new.self in
    let at = c.in-Ok-Some.when in
    let change = change_of c.next.new.into in
    let mid = c.loop-index.pairs in
    let new = c.stage_guarded.new.pairs in
    streamed_refused state p c.args.pairs.now c.requires.runs
    (g.S.ChangeStream.came c.loop-index.stream) c.loop-index.index mid now.follows now.has
    (g.S.ChangeStream.came stream) at change
    (gives_some _ _ _ _ _ c.in-Ok-Some.field-0 c.in-Ok-Some.when c.in-Ok-Some.field-0-is c.in-Ok-Some.ensures.next
    now.has.changes now.has.came_is) new
    (g.S.ChangeStream.whole stream) (g.S.ChangeStream.fails stream)
    (Follows-trans state _ _ _ now.follows.0 then.0, then.1 ∙ now.follows.1)
    c.give_up-in-Ok-Err.new.pairs c.give_up-in-Ok-Err.ensures.pages c.in-Ok-Err.reply c.requires.list
    (λ t u list. subst (λ (r : Result (Unit {0}) Refusal). StagesGuarded state t u p at change mid new (Ok r))
    c.in-Ok-Err.field-0-is
    (subst (λ (x : Command). StagesGuarded state t u p at x mid new (Ok c.in-Ok-Err.field-0)) c.command.ensures
    (c.in-Ok-Err.ensures.call t u list)))

-- ---- it could not be staged

pub give_up-requires-in-Err-stage_guarded : goal.give_up-requires-in-Err-stage_guarded
give_up-requires-in-Err-stage_guarded g c =
    let some = c.requires.list in
    let now = c.loop-index.invariant in
    let then = c.in-Err-stage_guarded.ensures.follows in
    table_behind g.D.Disk.state some.0 some.0 c.args.params.now c.args.pairs.now (over_table some.1 c.requires.runs)
    c.requires.runs c.stage_guarded.new.pairs
    (Follows-trans g.D.Disk.state _ _ _ now.follows.0 then.0, then.1 ∙ now.follows.1)

pub returns-in-Err-stage_guarded-clause-call : goal.returns-in-Err-stage_guarded-clause-call
returns-in-Err-stage_guarded-clause-call g c =
    let state = g.D.Disk.state in
    let p = c.args.params.now in
    let now = c.loop-index.invariant in
    let then = c.in-Err-stage_guarded.ensures.follows in
    let stream = c.next.new.self in
    let some = c.requires.list in
    let fault = c.in-Err-stage_guarded.fault in
    let end = c.give_up-in-Err-stage_guarded in
    let staged = c.in-Err-stage_guarded.ensures.call some.0 (roomy_tree p some.0 now.has.changes)
    (now.has.list some.0 some.1) in
    subst (λ (f : ApplyFault). CarriesOutStream {F = g.row.S-Fault.Denot} (g.S.ChangeStream.came stream)
    (g.S.ChangeStream.whole stream) (g.S.ChangeStream.fails stream) state p c.args.pairs.now end.new.pairs (Err f))
    (sym c.into.ensures)
    (streamed_failed state p c.args.pairs.now c.requires.runs (Result (Unit {0}) Refusal)
    (g.S.ChangeStream.came stream) (g.S.ChangeStream.whole stream) (g.S.ChangeStream.fails stream)
    (now.has.changes ++ (record { when = c.in-Ok-Some.when; change = change_of c.next.new.into }) ∷ [])
    (gives_some _ _ _ _ _ c.in-Ok-Some.field-0 c.in-Ok-Some.when c.in-Ok-Some.field-0-is c.in-Ok-Some.ensures.next
    now.has.changes now.has.came_is)
    c.stage_guarded.new.pairs (Follows-trans state _ _ _ now.follows.0 then.0, then.1 ∙ now.follows.1) fault
    (staged.faults ∙ ap (λ n. disk_faults_after {T = Result (Unit {0}) Refusal} n (Err fault)) now.has.faults)
    end.new.pairs end.ensures.pages)

-- ---- it is staged

pub loop-index-preserved : goal.loop-index-preserved
loop-index-preserved g c =
    let state = g.D.Disk.state in
    let p = c.args.params.now in
    let now = c.loop-index.invariant in
    let then = c.in-Ok-Ok.ensures.follows in
    let at = c.in-Ok-Some.when in
    let change = change_of c.next.new.into in
    let mid = c.loop-index.pairs in
    let new = c.stage_guarded.new.pairs in
    record {
      follows = (Follows-trans state _ _ _ now.follows.0 then.0, then.1 ∙ now.follows.1);
      keeps = λ start kept. c.next.ensures.keeps start (now.keeps start kept);
      has = streamed_more state p c.args.pairs.now c.requires.runs
          (g.S.ChangeStream.came c.loop-index.stream) c.loop-index.index mid now.follows now.has
          (g.S.ChangeStream.came c.next.new.self) at change
          (gives_some _ _ _ _ _ c.in-Ok-Some.field-0 c.in-Ok-Some.when c.in-Ok-Some.field-0-is c.in-Ok-Some.ensures.next
          now.has.changes now.has.came_is) new
          c.in-Ok-Ok.field-0-0 c.requires.list
          (λ t u list. subst (λ (r : Result (Unit {0}) Refusal). StagesGuarded state t u p at change mid new (Ok r))
          c.in-Ok-Ok.field-0-is
          (subst (λ (x : Command). StagesGuarded state t u p at x mid new (Ok c.in-Ok-Ok.field-0)) c.command.ensures
          (c.in-Ok-Ok.ensures.call t u list)));
    }

-- ---- it gave too many

pub give_up-requires-2 : goal.give_up-requires-2
give_up-requires-2 g c =
    let some = c.requires.list in
    table_behind g.D.Disk.state some.0 some.0 c.args.params.now c.args.pairs.now (over_table some.1 c.requires.runs)
    c.requires.runs c.loop-index.pairs c.loop-index.invariant.follows

pub returns-clause-call : goal.returns-clause-call
returns-clause-call g c =
    let now = c.loop-index.invariant in
    let stream = c.loop-index.stream in
    streamed_failed g.D.Disk.state c.args.params.now c.args.pairs.now c.requires.runs (Unit {0})
    (g.S.ChangeStream.came stream) (g.S.ChangeStream.whole stream) (g.S.ChangeStream.fails stream)
    now.has.changes now.has.came_is c.loop-index.pairs now.follows causes.NoMemory now.has.faults
    c.give_up-2.new.pairs c.give_up-2.ensures.pages
