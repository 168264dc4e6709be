use Rattle.std.proofs.Common.{rules, ◌≡◌, ℕ, ◌+◌, ◌-◌, ◌≤◌, List, length, drop, take, sym, ap, ◌∙◌, arith, refl}
use Rattle.std.proofs.lemmas.List.{length-append, length-drop}
use Rattle.script_lines.specs.Memory.{SourceMemory}
use Rattle.script_lines.proofs.Pieces.{moved_slice, no_piece}
use Rattle.script_lines.proofs.memory.MemSourceSource.take.Goals as goal

pub returns-clause-contract : goal.returns-clause-contract
returns-clause-contract c =
    let bytes = c.self.inside.bytes.items in
    let start = c.self.inside.start in
    let count = c.next_count-count.result in
    let into = c.args.into.now in
    let left_is : drop start bytes ≡ c.args.self.now.left = ap (λ (m : SourceMemory). m.left) c.self.view_is in
    let size = length-append c.copy_from_slice.new.self (drop count into) in
    let rest = length-drop count into in
    let fits : start + count ≤ length bytes =
    omega (arith, c.self.inside.bytes.ok.0, ap length left_is, length-drop start bytes) in
    let same_count : (start + count) - start ≡ count = omega arith in
    let piece_is : c.copy_from_slice.new.self ≡ take count (drop start bytes) =
    c.copy_from_slice.ensures.after ∙ ap (λ n. take n (drop start c.deref-2.result.now)) same_count
    ∙ ap (λ (xs : List ℕ). take count (drop start xs)) c.deref-2.ensures.value in
    record {
      observable = refl;
      within = omega (arith, c.copy_from_slice.ensures.len);
      faults = search rules;
      last_fault = search rules;
      observed = λ _. record {
        moved = moved_slice bytes c.args.self.now.left c.copy_from_slice.new.self into start count
            (sym left_is) piece_is fits;
        end = λ some. rw c.next_count-count.ensures.value (no_piece c.args.self.now (length into) (omega arith));
        kept = tt;
      };
    }
