-- The turns of a loop over any work: what is asked for, what the work keeps, and what stands of the store.
--
-- A work asks for one thing after another. What it tells, keeps and ends with are relations of its own, each over the
-- work as it was at first and as it is, and over how many turns were made; what the store does is said here, once for
-- every work.
use Rattle.std.specs.Prelude.{◌≡◌, ℕ, ◌+◌, ◌≤◌, ◌<◌, ◌^◌, Bool, true, false, IsTrue, Result, Ok, Err, Option, Some}
use Rattle.std.specs.Prelude.{None, IsOk}
use Rattle.store_model.specs.Parameters.{Parameters}
use Rattle.store_model.specs.Trees.{Tree}
use Rattle.store_model.specs.Scripts.{answer_by}
use Rattle.store_model.specs.declared.refusal.Refusal.{Refusal}
use Rattle.disk_model.specs.DiskState.{DiskState}
use Rattle.disk_model.specs.DiskState as disks
use Rattle.disk_model.specs.DiskCalls.{LeavesOnly}
use Rattle.gate_journal.specs.Disks.{KeepsDisk}
use Rattle.gate_journal.specs.Places.{Made, ReadsOnly}
use Rattle.script_lines.specs.declared.command.Command.{Command}
use Rattle.script_lines.specs.declared.reply.Reply.{Reply}
use Rattle.script_lines.specs.Parsing.{reading_of}
use Rattle.script_lines.specs.Replies.{reply_of}
use Rattle.image_check.specs.declared.fault.ApplyFault.{ApplyFault}
use Rattle.image_check.specs.Standing.{Stands}
use Rattle.store_core.specs.StoreState.{StoreState}
use Rattle.image_subcommands.specs.declared.status.Status.{Status}
use Rattle.image_subcommands.specs.declared.status.Status.TheVariants as statuses
use Rattle.script_runs.specs.declared.work.Asked.{Asked}
use Rattle.script_runs.specs.declared.work.Asked.TheVariants as asking
use Rattle.script_runs.specs.Costs.{run_writes, run_syncs}
use Rattle.image_subcommands.specs.Endings.{apply_status, ended_status}
use Rattle.script_runs.specs.Promises.{RepresentsOneOf}
use Rattle.script_runs.specs.Runs.{AnswersReading, ChangesByLines, IsUnchanged}
use Rattle.image_subcommands.specs.Statuses.{disk_faults_by}

-- ---- the work

-- Where the turns start: whether the disk tells its bytes, and the tree of the store.
pub record Start : Type 0 where
  pub tells : Bool
  pub tree : Tree
  pub params : Parameters

abbrev pub start_of : {D : Type 0} → (D → DiskState) → StoreState D → Start
start_of disk_of store = record { tells = (disk_of store.disk).is_observable; tree = store.tree; params = store.params }

-- what is asked for, where it stands in a place that was lent; nothing at the end
abbrev pub asked_for : {Q : Type 0} → Q → Asked → Option (Result Q Refusal)
asked_for placed asking.Placed = Some (Ok placed)
asked_for placed (asking.Refused refusal) = Some (Err refusal)
asked_for placed asking.End = None

-- what is asked for where it was read into the place, or was refused
abbrev pub asked_by : Result (Unit {0}) Refusal → Asked
asked_by (Ok read) = asking.Placed
asked_by (Err refusal) = asking.Refused refusal

abbrev pub asked_in : {Q E : Type 0} → Q → Result Asked E → Result (Option (Result Q Refusal)) E
asked_in placed (Ok asked) = Ok (asked_for placed asked)
asked_in placed (Err error) = Err error

-- what may be asked for falls where something is
abbrev pub LeavesLess : {Q : Type 0} → ℕ → ℕ → Option Q → Type 0
LeavesLess old new (Some asked) = new < old
LeavesLess old new None = new ≤ old

module _ {M : Type 0} (Told : M → Type 0) (trees : M → Start → ℕ → Tree) where
  -- the reply is that of what was asked for, in the tree that stands there
  abbrev pub RepliesTo : Start → M → ℕ → Result Command Refusal → Reply → Type 0
  RepliesTo start first done asked reply = Told first → IsTrue start.tells
      → reply_of reply ≡ (answer_by (trees first start done) (reading_of asked) start.params).reply

  module _ (Ends : Start → M → M → ℕ → Status → Type 0) where
    -- the work itself ends the turns
    pub record Stops (start : Start) (first new : M) (done : ℕ) (status : Status) : Type 0 where
      pub ends : Ends start first new done status
      pub cut_short : status ≡ statuses.Done → ⊥
      pub disk_spared : status ≡ statuses.DiskFault → ⊥

    -- the work behind a turn, or where it could not take the reply
    abbrev pub IsTurn : (Start → M → M → ℕ → Type 0) → Start → M → M → ℕ → Result (Unit {0}) Status → Type 0
    IsTurn Kept start first new done (Ok value) = Kept start first new done
    IsTurn Kept start first new done (Err status) = Stops start first new done status

    module _ (Due : Start → M → M → ℕ → Result Command Refusal → Type 0) where
      -- Something is asked for: the tree after it is its step, its reply is due, and a fault of the store may end
      -- the turns here.
      pub record Asks (start : Start) (first new : M) (done : ℕ) (asked : Result Command Refusal) : Type 0 where
        pub after : Told first → IsTrue start.tells
            → trees first start (done + 1) ≡ (answer_by (trees first start done) (reading_of asked) start.params).tree
        pub due : Due start first new done asked
        pub cut : (fault : ApplyFault) → Ends start first new done (apply_status fault)

      -- what a work is asked for next
      abbrev pub IsNext : Start → M → M → ℕ → Result (Option (Result Command Refusal)) Status → Type 0
      IsNext start first new done (Ok (Some asked)) = Asks start first new done asked
      IsNext start first new done (Ok None) = Ends start first new done statuses.Done
      IsNext start first new done (Err status) = Stops start first new done status

-- ---- the store

-- What the turns so far did to an observable disk.
pub record DiskSoFar (trees : ℕ → Tree) (p : Parameters) (done : ℕ) (first now : DiskState) : Type 0 where
  pub stands : Stands now (trees done) p
  pub crash : LeavesOnly first now (RepresentsOneOf trees done p)
  pub quiet : IsUnchanged trees done → ReadsOnly first now
  pub counts : Made (run_writes p trees done) (run_syncs p trees done) first now

module _ {D : Type 0} (disk_of : D → DiskState) (Told : Type 0) (trees : ℕ → Tree) where
  -- Between two turns the store has the tree after those that were made, and an observable disk stands at it.
  pub record StoreSoFar (first now : StoreState D) (done : ℕ) : Type 0 where
    pub params : now.params ≡ first.params
    pub runs : now.is_stopped ≡ false
    pub kept : KeepsDisk (disk_of first.disk) (disk_of now.disk)
    pub faults : (disk_of now.disk).faults ≡ (disk_of first.disk).faults
    pub tree : Told → disks.IsObservable (disk_of first.disk) → now.tree ≡ trees done
    pub disk : Told → disks.IsObservable (disk_of first.disk)
        → DiskSoFar trees first.params done (disk_of first.disk) (disk_of now.disk)

  -- The turns ended so.
  pub record StoreEnds (status : Status) (done : ℕ) (first new : StoreState D) : Type 0 where
    pub kept : KeepsDisk (disk_of first.disk) (disk_of new.disk)
    pub faults : (disk_of new.disk).faults ≡ disk_faults_by status (disk_of first.disk).faults
    pub changes : Told → disks.IsObservable (disk_of first.disk)
        → ChangesByLines status done trees first.params (disk_of first.disk) (disk_of new.disk)

  -- All turns ended so, with so many made: what ends the work, and the store.
  pub record TurnsEnd (Ends : ℕ → Status → Type 0) (status : Status) (done : ℕ)
      (first new : StoreState D) : Type 0 where
    pub work : Ends done status
    pub store : StoreEnds status done first new

-- ---- all turns

module _ {Q S A : Type 0} (Answers : Q → S → S → Result A ApplyFault → Type 0) where
  -- What is asked for is answered, in the place of a reply. Where nothing is, nothing is done, and that is told by
  -- `false`.
  abbrev pub AnswersAsked : Option Q → S → S → A → Result Bool ApplyFault → Type 0
  AnswersAsked (Some asked) old new reply (Ok answered) = (answered ≡ true) × Answers asked old new (Ok reply)
  AnswersAsked (Some asked) old new reply (Err fault) = Answers asked old new (Err fault)
  AnswersAsked None old new reply result = (result ≡ Ok false) × (new ≡ old)

-- a command that was read is carried out, and what was read as none is refused
abbrev pub AnswersCommand : {D : Type 0} → (D → DiskState) → Result Command Refusal → StoreState D → StoreState D
    → Result Reply ApplyFault → Type 0
AnswersCommand disk_of asked old new result = AnswersReading disk_of (reading_of asked) old new result

module _ {D M : Type 0} (disk_of : D → DiskState) where
  -- A work of which nothing was asked yet, for this store.
  pub record Begins (trees : M → Start → ℕ → Tree) (left : M → ℕ) (Live : M → Type 0)
      (Kept : Start → M → M → ℕ → Type 0) (store : StoreState D) (work : M) : Type 0 where
    pub tree : trees work (start_of disk_of store) 0 ≡ store.tree
    pub kept : Kept (start_of disk_of store) work work 0
    pub live : Live work
    pub fits : left work < 2 ^ 64

  -- All that a work asks for was answered, from a store on, or the call ended before, with so many turns made.
  pub record AnswersAll (Told : M → Type 0) (trees : M → Start → ℕ → Tree) (Ends : Start → M → M → ℕ → Status → Type 0)
      (ended : Result (Unit {0}) Status) (done : ℕ)
      (store_old store_new : StoreState D) (work_old work_new : M) : Type 0 where
    pub turns : TurnsEnd disk_of (Told work_old) (trees work_old (start_of disk_of store_old))
        (Ends (start_of disk_of store_old) work_old work_new) (ended_status ended) done store_old store_new
    pub whole : IsOk ended → StoreSoFar disk_of (Told work_old)
        (trees work_old (start_of disk_of store_old)) store_old store_new done
    pub cut_short : ended_status ended ≡ statuses.Done → IsOk ended
