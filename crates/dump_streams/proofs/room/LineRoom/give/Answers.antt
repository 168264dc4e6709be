use Rattle.std.proofs.Common.{◌≡◌, ◌+◌, ◌-◌, ◌≤◌, ℕ, List, length, take, drop, sym, ap, ◌∙◌, arith}
use Rattle.script_lines.proofs.Pieces.{moved_slice}
use Rattle.dump_streams.specs.Rooms.{Room}
use Rattle.dump_streams.proofs.room.LineRoom.give.Goals as goal

pub returns-clause-given : goal.returns-clause-given
returns-clause-given c =
    let bytes = c.self.inside.bytes.items in
    let start = c.self.inside.start in
    let count = c.min-count.result in
    let rest_is : drop start bytes ≡ c.args.self.now.rest = ap (λ (r : Room). r.rest) c.self.view_is in
    let same_count : (start + count) - start ≡ count = omega arith in
    let fits : start + count ≤ length bytes = omega (arith, c.self.invariant, c.min-count.ensures) in
    let piece_is : c.copy_from_slice.new.self ≡ take count (drop start bytes) =
    c.copy_from_slice.ensures.after ∙ ap (λ n. take n (drop start c.deref.result.now)) same_count
    ∙ ap (λ (xs : List ℕ). take count (drop start xs)) c.deref.ensures.value in
    moved_slice bytes c.args.self.now.rest c.copy_from_slice.new.self c.args.into.now start count
    (sym rest_is) piece_is fits
