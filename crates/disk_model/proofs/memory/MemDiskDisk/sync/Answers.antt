use Rattle.std.proofs.Common.{rules, refl, subst, false, nat_lt, ℕ, ◌≡◌, ◌≤◌, [], ◌∷◌, ◌∙◌, ap}
use Rattle.std.proofs.lemmas.Bool.{le-ltb}
use Rattle.std.proofs.lemmas.List.{reverse-append, with_items_is}
use mathlib.Core.List.{reverse}
use Rattle.disk_model.specs.declared.record.Call.TheVariants.{Sync}
use Rattle.std.specs.Vec.{with_items, vec_capacity}
use Rattle.disk_model.specs.Memory.{room_left}
use Rattle.disk_model.specs.Record.{CopiesPending}
use Rattle.disk_model.specs.MemDisk.{memory_of}
use Rattle.disk_model.proofs.Copying.{copied_all}
use Rattle.disk_model.proofs.Recording.{IsSync-refused_sync, IsSync-flushed_as, IsConsistent-flushed_as}
use Rattle.disk_model.proofs.Recording.{IsConsistent-counted, full_told, CountsFit}
use Rattle.disk_model.proofs.memory.MemDiskDisk.sync.Goals as goal

pub returns-then-free_room-lt-CALL_ROOM-clause-sync :
    goal.returns-then-free_room-lt-CALL_ROOM-clause-sync
returns-then-free_room-lt-CALL_ROOM-clause-sync c =
    let memory = memory_of c.self.inside in
    let fit : CountsFit memory = record { faults = search rules; writes = search rules; syncs = search rules } in
    rw (
      ← c.self.view_is,
      c.saturating_add-self-inside-then-free_room-lt-CALL_ROOM.ensures,
      c.saturating_add-self-inside.ensures,
    ) (IsSync-refused_sync memory (record {}) fit)

-- what is noted and what is copied
calls_noted : (c : goal.After-note) → reverse c.note.new.calls.items ≡ Sync ∷ (memory_of c.self.inside).calls
calls_noted c = ap reverse c.note.ensures.items ∙ reverse-append c.self.inside.calls.items (Sync ∷ [])

bytes_copied : (c : goal.After-note) → (with_items c.self.inside.synced c.copy_pending.new.target).items
    ≡ (memory_of c.self.inside).bytes
bytes_copied c =
    let memory = memory_of c.self.inside in
    let target = c.copy_pending.new.target in
    let copies : CopiesPending memory.calls memory.bytes memory.synced target = search rules in
    with_items_is c.self.inside.synced target (search rules)
    ∙ copied_all memory.calls memory.bytes memory.synced target c.self.invariant.synced copies

pub returns-clause-sync : goal.returns-clause-sync
returns-clause-sync c =
    let memory = memory_of c.self.inside in
    let fit : CountsFit memory = record { faults = search rules; writes = search rules; syncs = search rules } in
    rw (← c.self.view_is) (IsSync-flushed_as memory
    (with_items c.self.inside.synced c.copy_pending.new.target).items (reverse c.note.new.calls.items)
    c.saturating_add-self-inside.result tt (calls_noted c) c.saturating_add-self-inside.ensures fit)

pub returns-clause-after : goal.returns-clause-after
returns-clause-after c =
    let memory = memory_of c.self.inside in
    let room : nat_lt (room_left memory) 16 ≡ false =
    le-ltb _ _ (subst (λ (n : ℕ). 16 ≤ n) c.free_room.ensures c.if-free_room-lt-CALL_ROOM.false) in
    rw (← c.self.view_is, room, bytes_copied c, calls_noted c, c.saturating_add-self-inside.ensures) refl

pub invariant_of-self : goal.invariant_of-self
invariant_of-self c = let memory = memory_of c.self.inside
    in IsConsistent-counted memory memory.faults memory.writes _ _ _ c.self.invariant

pub invariant_of-self-2 : goal.invariant_of-self-2
invariant_of-self-2 c =
    let memory = memory_of c.self.inside in
    let room : 16 ≤ room_left memory = subst (λ (n : ℕ). 16 ≤ n) c.free_room.ensures c.if-free_room-lt-CALL_ROOM.false
    in
    IsConsistent-flushed_as memory _ _ c.saturating_add-self-inside.result (vec_capacity c.self.inside.calls) _ _
    (bytes_copied c) (calls_noted c) room c.note.ensures.capacity c.self.invariant

pub returns-clause-full : goal.returns-clause-full
returns-clause-full c = full_told c.free_room.result _ 16 (c.free_room.ensures ∙ ap room_left c.self.view_is)
    c.if-free_room-lt-CALL_ROOM.false
