-- What the parts of calls on sessions do: one session's notes, its place, and the store that is asked.
use Rattle.std.specs.Prelude.{◌≡◌, ◌⊎◌, ℕ, ◌<◌, ◌≤◌, [], ◌∷◌, ◌++◌, length, slice_get, List, true, false, Option, Some}
use Rattle.std.specs.Prelude.{None, Result, Ok, Err}
use Rattle.std.specs.Option.{option_map}
use Rattle.store_model.specs.Parameters.{Parameters}
use Rattle.store_model.specs.Trees.{Tree}
use Rattle.store_model.specs.Commands as model
use Rattle.store_model.specs.Commands.{Command}
use Rattle.disk_model.specs.DiskState.{DiskState, IsObservable}
use Rattle.image_check.specs.Standing.{IsFitting, Stands}
use Rattle.image_check.specs.declared.fault.ApplyFault.{ApplyFault}
use Rattle.image_check.specs.declared.fault.ApplyFault.TheVariants as apply
use Rattle.script_lines.specs.declared.reply.Reply.{Reply}
use Rattle.script_lines.specs.Replies.{reply_of}
use Rattle.store_core.specs.StoreCalls.{Applies, StepsStore}
use Rattle.staged_tree.specs.Groups.{group_tree}
use Rattle.store_core.specs.StoreState.{StoreState}
use Rattle.session_core.specs.declared.fault.SessionFault.{SessionFault}
use Rattle.session_core.specs.declared.fault.SessionFault.TheVariants as causes
use Rattle.session_core.specs.Machine.{Note, Session, note_limit, first_difference, commit_answer}
use Rattle.session_core.specs.declared.committed.Committed.{Committed}
use Rattle.session_core.specs.SessionCalls.{committed_answer}
use Rattle.session_core.specs.SessionState.{SessionsState}

-- A store keeps its tree: it fits, and an observable disk under it stands at it, unless the store is stopped.
pub record KeepsTree {D : Type 0} (state : D → DiskState) (store : StoreState D) : Type 0 where
  pub fitting : IsFitting store.tree store.params
  pub stands : IsObservable (state store.disk) → store.is_stopped ≡ false
      → Stands (state store.disk) store.tree store.params

-- the store is not stopped, or that is told
abbrev pub Runs : {D : Type 0} → SessionsState D → Result (Unit {0}) SessionFault → Type 0
Runs s (Ok done) = s.store.is_stopped ≡ false
Runs s (Err causes.Stopped) = s.store.is_stopped ≡ true
Runs s (Err causes.Crowded) = ⊥
Runs s (Err causes.Unknown) = ⊥
Runs s (Err causes.Many) = ⊥
Runs s (Err causes.Disk) = ⊥
Runs s (Err causes.NoMemory) = ⊥

-- the place of a number is found where the store is not stopped and there is one
abbrev pub FindsPlace : {D : Type 0} → SessionsState D → ℕ → Result ℕ SessionFault → Type 0
FindsPlace s id (Ok index) = (s.store.is_stopped ≡ false) × (index ≡ id) × (id < length s.places)
FindsPlace s id (Err causes.Stopped) = s.store.is_stopped ≡ true
FindsPlace s id (Err causes.Crowded) = ⊥
FindsPlace s id (Err causes.Unknown) = (s.store.is_stopped ≡ false) × (length s.places ≤ id)
FindsPlace s id (Err causes.Many) = ⊥
FindsPlace s id (Err causes.Disk) = ⊥
FindsPlace s id (Err causes.NoMemory) = ⊥

-- a session that has so many notes of a kind takes one more and becomes the next one, or has too many, or memory runs
-- out
abbrev pub TakesNote : ℕ → Session → Session → Session → Result (Unit {0}) SessionFault → Type 0
TakesNote count old next new (Ok done) = (count < note_limit) × (new ≡ next)
TakesNote count old next new (Err causes.Stopped) = ⊥
TakesNote count old next new (Err causes.Crowded) = ⊥
TakesNote count old next new (Err causes.Unknown) = ⊥
TakesNote count old next new (Err causes.Many) = (note_limit ≤ count) × (new ≡ old)
TakesNote count old next new (Err causes.Disk) = ⊥
TakesNote count old next new (Err causes.NoMemory) = (count < note_limit) × (new ≡ old)

-- the session of a place takes a change, behind those that it has
abbrev pub StagesIn : Command → Option Session → Option Session → Result (Unit {0}) SessionFault → Type 0
StagesIn change None new result = (result ≡ Err causes.Unknown) × (new ≡ None)
StagesIn change (Some session) new result =
    (next : Session) × (new ≡ Some next) × TakesNote (length session.staged) session
    (record { asked = session.asked; staged = session.staged ++ change ∷ [] }) next result

-- the session of a place ends
abbrev pub LeavesIn : Option Session → Option Session → Result (Unit {0}) SessionFault → Type 0
LeavesIn None new result = (result ≡ Err causes.Unknown) × (new ≡ None)
LeavesIn (Some session) new result = (result ≡ Ok tt) × (new ≡ None)

module _ {D : Type 0} (state : D → DiskState) (question : Command) (old new : StoreState D) where
  -- it is asked on a store, and noted with its answer in a session that has room
  abbrev pub AsksSession : Session → Option Session → Result Reply SessionFault → Type 0
  AsksSession session now (Ok reply) =
      (length session.asked < note_limit) × Applies state question old new (Ok reply)
      × (now ≡ Some (record { asked = session.asked ++ (question, reply_of reply) ∷ []; staged = session.staged }))
  AsksSession session now (Err causes.Stopped) = (length session.asked < note_limit)
      × Applies state question old new (Err apply.Stopped) × (now ≡ Some session)
  AsksSession session now (Err causes.Crowded) = ⊥
  AsksSession session now (Err causes.Unknown) = ⊥
  AsksSession session now (Err causes.Many) = (note_limit ≤ length session.asked) × (new ≡ old) × (now ≡ Some session)
  AsksSession session now (Err causes.Disk) = (length session.asked < note_limit)
      × Applies state question old new (Err apply.Disk) × (now ≡ Some session)
  -- memory ran out in the store, or after its answer
  AsksSession session now (Err causes.NoMemory) =
      (length session.asked < note_limit)
      × (Applies state question old new (Err apply.NoMemory)
      ⊎ ((reply : Reply) × Applies state question old new (Ok reply))) × (now ≡ Some session)

  -- and in that of a place
  abbrev pub AsksIn : Option Session → Option Session → Result Reply SessionFault → Type 0
  AsksIn None now result = (result ≡ Err causes.Unknown) × (new ≡ old) × (now ≡ None)
  AsksIn (Some session) now result = AsksSession session now result

-- ---- a commit

-- the difference at the question with this number, which is answered so now, if one was found
abbrev pub difference_at : List Note → model.Reply → Option ℕ → Option (ℕ × model.Reply × model.Reply)
difference_at notes now None = None
difference_at notes now (Some number) = option_map (λ (note : Note). (number, note.1, now)) (slice_get notes number)

-- the tree after the commit of a session
abbrev pub committed_tree : Parameters → Tree → Session → Tree
committed_tree p t session = behind (first_difference p t session.asked)
  where
    behind : Option (ℕ × model.Reply × model.Reply) → Tree
    behind None = group_tree p t session.staged
    behind (Some difference) = t

module _ {D : Type 0} (state : D → DiskState) where
  -- noted questions are asked again, up to the first difference
  abbrev pub AsksAgain : List Note → model.Reply → StoreState D → StoreState D → Result (Option ℕ) ApplyFault → Type 0
  AsksAgain notes now old new result =
      StepsStore state old.tree (λ found. difference_at notes now found ≡ first_difference old.params old.tree notes)
      old new result

  -- the group of a session is committed
  abbrev pub CommitsSession : Session → StoreState D → StoreState D → Result Committed ApplyFault → Type 0
  CommitsSession session old new result =
      StepsStore state (committed_tree old.params old.tree session)
      (λ committed. committed_answer committed ≡ commit_answer old.params old.tree session) old new result

  -- and that of a place
  abbrev pub CommitsIn : StoreState D → StoreState D → Option Session → Option Session
      → Result Committed SessionFault → Type 0
  CommitsIn old new None now result = (result ≡ Err causes.Unknown) × (new ≡ old) × (now ≡ None)
  CommitsIn old new (Some session) now (Ok committed) = CommitsSession session old new (Ok committed) × (now ≡ None)
  CommitsIn old new (Some session) now (Err causes.Stopped) =
      CommitsSession session old new (Err apply.Stopped) × (now ≡ Some session)
  CommitsIn old new (Some session) now (Err causes.Crowded) = ⊥
  CommitsIn old new (Some session) now (Err causes.Unknown) = ⊥
  CommitsIn old new (Some session) now (Err causes.Many) = ⊥
  CommitsIn old new (Some session) now (Err causes.Disk) =
      CommitsSession session old new (Err apply.Disk) × (now ≡ Some session)
  CommitsIn old new (Some session) now (Err causes.NoMemory) =
      CommitsSession session old new (Err apply.NoMemory) × (now ≡ Some session)
