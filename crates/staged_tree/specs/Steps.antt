-- A step that staged pages take which are those of a tree.
use Rattle.std.specs.Prelude.{◌≡◌, ℕ, false, Result, Ok, Err, IfOk, OnOk, OnErr}
use Rattle.store_model.specs.declared.refusal.Refusal.TheVariants as refusals
use Rattle.store_model.specs.declared.version.Version.TheVariants.{Two}
use Rattle.store_model.specs.Parameters.{Parameters, with_version}
use Rattle.store_model.specs.Trees.{Tree}
use Rattle.store_model.specs.Pages.{pages}
use Rattle.store_model.specs.PageMaps.{map_of_pages}
use Rattle.store_model.specs.Steps.{Step}
use Rattle.disk_model.specs.DiskState.{DiskState, IsObservable}
use Rattle.gate_journal.specs.Disks.{KeepsDisk}
use Rattle.seeded_draw.specs.declared.any.AnyDraw.{AnyDraw}
use Rattle.seeded_draw.specs.AnyDrawn.{any_draw}
use Rattle.script_lines.specs.declared.reply.Reply.{Reply}
use Rattle.script_lines.specs.declared.reply.Reply.TheVariants as replies
use Rattle.script_lines.specs.Replies.{reply_of}
use Rattle.page_store.specs.declared.commit_kind.CommitKind.TheVariants.{Upgrade}
use Rattle.page_store.specs.CommitKinds.{params_after}
use Rattle.page_store.specs.declared.fault.SettleFault.{SettleFault}
use Rattle.page_store.specs.declared.fault.SettleFault.TheVariants as causes
use Rattle.page_store.specs.Settling.{Settles}
use Rattle.page_store.specs.StagedState.{StagedState, without_changes}
use Rattle.image_check.specs.declared.fault.ApplyFault.{ApplyFault}
use Rattle.image_check.specs.declared.fault.ApplyFault.TheVariants as apply
use Rattle.image_check.specs.Faults.{apply_faults_after}
use Rattle.staged_tree.specs.ImageChanges.{ChangesImage, UpgradesImage}

-- what a step answers whose changes were settled so: this where the pages have room, and else that, by how many there
-- are of them and of the slots
abbrev pub counted_end : {A : Type 0} → A → (ℕ → ℕ → A) → Result (Unit {0}) SettleFault → Result A ApplyFault
counted_end done full (Ok value) = Ok done
counted_end done full (Err (causes.Full need slots)) = Ok (full need slots)
counted_end done full (Err causes.Disk) = Err apply.Disk
counted_end done full (Err causes.NoMemory) = Err apply.NoMemory

-- and what a command answers
abbrev pub settled_reply : Result (Unit {0}) SettleFault → Result Reply ApplyFault
settled_reply settled = counted_end replies.Ok (λ need slots. replies.No (refusals.Full need slots)) settled

-- why a step to a tree that fits failed whose settle did so; none of such a tree is full
abbrev pub settle_cause : SettleFault → ApplyFault
settle_cause (causes.Full need slots) = apply.NoMemory
settle_cause causes.Disk = apply.Disk
settle_cause causes.NoMemory = apply.NoMemory

-- what a step does over an observable disk that stands at the tree
pub record StepsPages {D A : Type 0} (state : D → DiskState) (t next : Tree) (IsAnswer : A → Type 0) (p : Parameters)
    (old new : StagedState D AnyDraw) (result : Result A ApplyFault) : Type 0 where
  pub answer : IfOk result IsAnswer
  pub image : ChangesImage t next p (state old.disk) (state new.disk) new.is_spent result
  -- the pages in the table are then those of the next tree, and after a fault those that they were
  pub goes : OnOk result (new.table ≡ map_of_pages (pages next p))
  pub stays : new.is_spent ≡ false → OnErr result (new.table ≡ old.table)

-- Staged pages of a tree go on to those of the next one, and are spent only by a fault of the disk. A command is such a
-- step, and so is a group of changes.
pub record TakesStep {D A : Type 0} (state : D → DiskState) (t next : Tree) (IsAnswer : A → Type 0) (p : Parameters)
    (old new : StagedState D AnyDraw) (result : Result A ApplyFault) : Type 0 where
  pub params : new.params ≡ old.params
  pub draw : new.draw ≡ old.draw
  pub kept : KeepsDisk (state old.disk) (state new.disk)
  pub faults : (state new.disk).faults ≡ apply_faults_after (state old.disk).faults result
  pub never : result ≡ Err apply.Stopped → ⊥
  pub runs : (result ≡ Err apply.Disk → ⊥) → new.is_spent ≡ false
  pub observed : IsObservable (state old.disk) → StepsPages state t next IsAnswer p old new result

-- The staged pages of a value are settled, and behind it nothing is staged.
pub record SettlesAll {D : Type 0} (state : D → DiskState) (old new : StagedState D AnyDraw)
    (result : Result (Unit {0}) SettleFault) : Type 0 where
  pub settled : StagedState D AnyDraw
  pub settles : Settles state any_draw old settled result
  pub new_is : new ≡ without_changes settled

-- a step behind which nothing is staged
pub record EndsStep {D A : Type 0} (state : D → DiskState) (t next : Tree) (IsAnswer : A → Type 0) (p : Parameters)
    (old new : StagedState D AnyDraw) (result : Result A ApplyFault) : Type 0 where
  pub step : TakesStep state t next IsAnswer p old new result
  pub none_staged : IsObservable (state new.disk) → new.is_spent ≡ false → new.map ≡ new.table

-- a reply is the one of a command's step
abbrev pub IsReplyTo : Step → Reply → Type 0
IsReplyTo to reply = reply_of reply ≡ to.reply

-- a command takes its step, and nothing is staged after it
abbrev pub EndsCommand : {D : Type 0} → (D → DiskState) → Tree → Step → Parameters → StagedState D AnyDraw
    → StagedState D AnyDraw → Result Reply ApplyFault → Type 0
EndsCommand state t to p old new result = EndsStep state t to.tree (IsReplyTo to) p old new result

-- ---- an upgrade

-- what an upgrade does over an observable disk that stands at the tree
pub record UpgradesPages {D : Type 0} (state : D → DiskState) (t : Tree) (p : Parameters)
    (old new : StagedState D AnyDraw) (result : Result (Unit {0}) ApplyFault) : Type 0 where
  pub image : UpgradesImage t p (state old.disk) (state new.disk) new.is_spent result
  -- the pages in the table are then those of the tree under version 2, and after a fault those that they were
  pub goes : OnOk result (new.table ≡ map_of_pages (pages t (with_version p Two)))
  pub stays : new.is_spent ≡ false → OnErr result (new.table ≡ old.table)

-- Staged pages of a tree become those that it has under version 2, and are spent only by a fault of the disk. After it
-- nothing is staged.
pub record EndsUpgrade {D : Type 0} (state : D → DiskState) (t : Tree) (p : Parameters)
    (old new : StagedState D AnyDraw) (result : Result (Unit {0}) ApplyFault) : Type 0 where
  pub params : new.params ≡ params_after Upgrade old.params result
  pub draw : new.draw ≡ old.draw
  pub kept : KeepsDisk (state old.disk) (state new.disk)
  pub faults : (state new.disk).faults ≡ apply_faults_after (state old.disk).faults result
  pub never : result ≡ Err apply.Stopped → ⊥
  pub runs : (result ≡ Err apply.Disk → ⊥) → new.is_spent ≡ false
  pub observed : IsObservable (state old.disk) → UpgradesPages state t p old new result
  pub none_staged : IsObservable (state new.disk) → new.is_spent ≡ false → new.map ≡ new.table
