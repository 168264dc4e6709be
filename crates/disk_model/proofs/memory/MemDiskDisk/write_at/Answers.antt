use Rattle.std.proofs.Common.{rules, refl, subst, false, nat_lt, ℕ, ◌≡◌, ◌+◌, ◌≤◌, [], ◌∷◌, ◌++◌, length, take, drop}
use Rattle.std.proofs.Common.{◌∙◌, ap}
use mathlib.Core.List.{reverse}
use Rattle.std.proofs.lemmas.Bool.{le-ltb}
use Rattle.std.proofs.lemmas.List.{reverse-append, with_items_is}
use Rattle.std.specs.Vec.{with_items, vec_capacity}
use Rattle.disk_model.specs.declared.record.Call.TheVariants.{Write}
use Rattle.disk_model.specs.DiskCalls.{overwrite}
use Rattle.disk_model.specs.Memory.{room_left}
use Rattle.disk_model.specs.MemDisk.{memory_of}
use Rattle.disk_model.proofs.Recording.{IsWrite-refused_write, IsWrite-written_as, IsConsistent-written_as}
use Rattle.disk_model.proofs.Recording.{IsConsistent-counted, full_told, room_for, CountsFit}
use Rattle.disk_model.proofs.memory.MemDiskDisk.write_at.Goals as goal

pub returns-then-free-lt-CALL_ROOM-clause-write : goal.returns-then-free-lt-CALL_ROOM-clause-write
returns-then-free-lt-CALL_ROOM-clause-write c =
    let memory = memory_of c.self.inside in
    let fit : CountsFit memory = record { faults = search rules; writes = search rules; syncs = search rules } in
    rw (
      ← c.self.view_is,
      c.saturating_add-self-inside-then-free-lt-CALL_ROOM.ensures,
      c.saturating_add-self-inside.ensures,
    ) (IsWrite-refused_write memory c.args.at c.args.bytes.now (record {}) fit)

pub invariant_of-self-2 : goal.invariant_of-self-2
invariant_of-self-2 c =
    let memory = memory_of c.self.inside in
    let at = c.args.at in
    let bytes = c.args.bytes.now in
    let target = c.put.new.target in
    let within : at + length bytes ≤ length memory.bytes = search rules in
    let lengths : length target ≡ c.self.inside.bytes.len = search rules in
    let same_bytes : (with_items c.self.inside.bytes target).items ≡ overwrite memory.bytes at bytes =
    with_items_is c.self.inside.bytes target lengths ∙ search rules in
    let same_calls : reverse c.note.new.calls.items ≡ Write at (length bytes) ∷ memory.calls =
    ap reverse c.note.ensures.items ∙ reverse-append c.self.inside.calls.items (Write at (length bytes) ∷ []) in
    let same_replaced : c.keep.new.replaced.items ≡ memory.replaced ++ take (length bytes) (drop at memory.bytes) =
    search rules in
    let room : length bytes + 16 ≤ room_left memory = search rules in
    IsConsistent-written_as memory at bytes
    (with_items c.self.inside.bytes target).items (reverse c.note.new.calls.items)
    c.keep.new.replaced.items c.saturating_add-self-inside.result
    (vec_capacity c.self.inside.calls) (vec_capacity c.self.inside.replaced) (vec_capacity c.note.new.calls)
    (vec_capacity c.keep.new.replaced)
    within same_bytes same_calls same_replaced room c.note.ensures.capacity c.keep.ensures.capacity c.self.invariant

pub returns-clause-write : goal.returns-clause-write
returns-clause-write c =
    let memory = memory_of c.self.inside in
    let at = c.args.at in
    let bytes = c.args.bytes.now in
    let target = c.put.new.target in
    let fit : CountsFit memory = record { faults = search rules; writes = search rules; syncs = search rules } in
    let within : at + length bytes ≤ length memory.bytes = search rules in
    let lengths : length target ≡ c.self.inside.bytes.len = search rules in
    let same_bytes : (with_items c.self.inside.bytes target).items ≡ overwrite memory.bytes at bytes =
    with_items_is c.self.inside.bytes target lengths ∙ search rules in
    let same_calls : reverse c.note.new.calls.items ≡ Write at (length bytes) ∷ memory.calls =
    ap reverse c.note.ensures.items ∙ reverse-append c.self.inside.calls.items (Write at (length bytes) ∷ []) in
    let same_replaced : c.keep.new.replaced.items ≡ memory.replaced ++ take (length bytes) (drop at memory.bytes) =
    search rules in
    rw (← c.self.view_is)
    (IsWrite-written_as memory at bytes (with_items c.self.inside.bytes target).items (reverse c.note.new.calls.items)
    c.keep.new.replaced.items c.saturating_add-self-inside.result tt
    within same_bytes same_calls same_replaced c.saturating_add-self-inside.ensures fit)

pub invariant_of-self : goal.invariant_of-self
invariant_of-self c = let memory = memory_of c.self.inside
    in IsConsistent-counted memory memory.faults _ memory.syncs _ _ c.self.invariant

pub returns-clause-full : goal.returns-clause-full
returns-clause-full c =
    full_told c.free_room-free.result _ _ (c.free_room-free.ensures ∙ ap room_left c.self.view_is)
    (room_for c.free_room-free.result (length c.args.bytes.now) c.if-free-lt-CALL_ROOM.false c.if-free-bytes.false)

pub returns-clause-after : goal.returns-clause-after
returns-clause-after c =
    let memory = memory_of c.self.inside in
    let at = c.args.at in
    let bytes = c.args.bytes.now in
    let target = c.put.new.target in
    let lengths : length target ≡ c.self.inside.bytes.len = search rules in
    let same_bytes : (with_items c.self.inside.bytes target).items ≡ overwrite memory.bytes at bytes =
    with_items_is c.self.inside.bytes target lengths ∙ search rules in
    let same_calls : reverse c.note.new.calls.items ≡ Write at (length bytes) ∷ memory.calls =
    ap reverse c.note.ensures.items ∙ reverse-append c.self.inside.calls.items (Write at (length bytes) ∷ []) in
    let same_replaced : c.keep.new.replaced.items ≡ memory.replaced ++ take (length bytes) (drop at memory.bytes) =
    search rules in
    let room : nat_lt (room_left memory) (length bytes + 16) ≡ false =
    le-ltb _ _ (subst (λ (n : ℕ). length bytes + 16 ≤ n)
    c.free_room-free.ensures (room_for c.free_room-free.result (length bytes)
    c.if-free-lt-CALL_ROOM.false c.if-free-bytes.false)) in
    rw (← c.self.view_is, room, same_bytes, same_calls, same_replaced, c.saturating_add-self-inside.ensures) refl
