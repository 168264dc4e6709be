use Rattle.std.proofs.Common.{◌≡◌, ℕ, List, Option, None, Some, Ok, ◌+◌, ◌∙◌, true, false, length, max, ap, refl, subst}
use Rattle.std.proofs.Common.{sym, arith, rules}
use Rattle.store_model.specs.Lists.{overwrite}
use Rattle.store_model.specs.Pairs.{inline_value, is_inline}
use Rattle.store_model.specs.Trees.{node_at}
use Rattle.store_model.specs.Commands.Command.{Write}
use Rattle.store_model.specs.Commands.Reply.{Acknowledged}
use Rattle.store_model.specs.Steps.{first_refusal, reply_of}
use Rattle.tree_pairs.specs.declared.kind.Kind.{Kind}
use Rattle.tree_pairs.specs.declared.kind.Kind.TheVariants as kinds
use Rattle.tree_pairs.specs.Kinds.{kind_of_node}
use Rattle.tree_pairs.specs.TreeCalls.{TellsKind}
use Rattle.tree_pairs.proofs.CallLemmas.{step_done, carries_under}
use Rattle.tree_pairs.proofs.KindLemmas.{tells_kind}
use Rattle.file_blocks.specs.FileCalls.{PutsFileBytes}
use Rattle.file_blocks.specs.Refusals.{write_conditions, size_of}
use Rattle.file_blocks.proofs.CarryLemmas.{refused_by_kind, refusal-write, write_fits, writing, blocks-write}
use Rattle.file_blocks.proofs.CarryLemmas.{pairs-write_inline, pairs-write_blocks, pairs-write_same}
use Rattle.file_blocks.proofs.writing.write_at.Goals as goal

pub returns-in-Err-clause-call : goal.returns-in-Err-clause-call
returns-in-Err-clause-call g c =
    let bytes = c.args.bytes.now in
    let old = g.P.OrderedPairs.state c.args.pairs.now in
    let found = g.P.OrderedPairs.state c.first_of.new.pairs in
    carries_under c.args.version (λ _. Acknowledged) (Write c.args.path.now c.args.at bytes) old found _
    (refused_by_kind (λ _. Acknowledged) (Write c.args.path.now c.args.at bytes)
    c.args.path.now c.kind_told-kind.result c.in-Err.refusal
    (λ kind. write_conditions kind c.args.at (length c.as_slice.result.now)) old found
    (tells_kind c.args.path.now old found c.in_ok-first.first c.kind_told-kind.result c.in_ok-first.ensures.call
    c.kind_told-kind.ensures)
    (λ seen t p holds. refusal-write t c.args.path.now c.args.at bytes (c.requires.parent seen t p holds)
    ∙ ap (λ n. first_refusal (write_conditions (kind_of_node (node_at t c.args.path.now)) c.args.at n))
    (sym (ap length c.as_slice.ensures.value)))
    c.in-Err.ensures)

pub returns-then-is_inline-clause-call : goal.returns-then-is_inline-clause-call
unfolding reply_of
returns-then-is_inline-clause-call g c =
    let bytes = c.args.bytes.now in
    let old = g.P.OrderedPairs.state c.args.pairs.now in
    let found = g.P.OrderedPairs.state c.first_of.new.pairs in
    let kind = c.kind_told-kind.result in
    let told = tells_kind c.args.path.now old found c.in_ok-first.first kind
    c.in_ok-first.ensures.call c.kind_told-kind.ensures in
    let last = c.in_ok-put.ensures.call in
    record {
      faults = last.faults ∙ told.faults;
      observable = λ seen. (last.observed (told.keeps.observable seen)).observable;
      carried = λ seen t p under holds.
          let path = c.args.path.now in
          let fits = subst (λ (z : List ℕ). (first_refusal (write_conditions kind c.args.at (length z)) ≡ None)
          × (c.in-Ok.len ≡ max (size_of kind) (c.args.at + length z))) c.as_slice.ensures.value c.in-Ok.ensures in
          let write = writing path c.args.at c.in-Ok.len bytes c.in_ok-first.first kind old found
          c.in_ok-first.ensures.path c.requires.parent c.in_ok-first.ensures.call told fits seen t p holds in
          let form : is_inline p.version c.in-Ok.len ≡ true =
          ap (λ version. is_inline version c.in-Ok.len) under ∙ sym c.is_inline.ensures ∙ c.if-is_inline.true in
          step_done (λ _. Acknowledged) tt t (Write path c.args.at bytes) p
          (g.P.OrderedPairs.state c.put.new.self) write.free refl
          (pairs-write_inline t p path c.args.at c.in-Ok.len bytes
          c.key.result c.inline_written.result c.in_ok-first.first found
          (g.P.OrderedPairs.state c.put.new.self).pairs write holds.tree c.key.ensures.path (omega arith)
          c.as_slice.ensures.bytes form c.key.ensures.value
          (λ content begun within. c.inline_written.ensures content begun within
          ∙ ap (λ z. inline_value (overwrite content c.args.at z)) c.as_slice-then-is_inline.ensures.value)
          (last.observed (told.keeps.observable seen)).changed);
    }

pub put_bytes-requires-clause-fits : goal.put_bytes-requires-clause-fits
put_bytes-requires-clause-fits g c =
    let fits = write_fits c.kind_told-kind.result c.args.at (length c.as_slice.result.now) c.in-Ok.ensures.0 in
    omega (arith, ap length c.as_slice.ensures.value, ap length c.as_slice-2.ensures.value)

pub returns-then-eq-clause-call : goal.returns-then-eq-clause-call
unfolding reply_of
returns-then-eq-clause-call g c =
    let bytes = c.args.bytes.now in
    let old = g.P.OrderedPairs.state c.args.pairs.now in
    let found = g.P.OrderedPairs.state c.first_of.new.pairs in
    let filled = g.P.OrderedPairs.state c.fill_blocks.new.pairs in
    let after = g.P.OrderedPairs.state c.put_bytes.new.pairs in
    let kind = c.kind_told-kind.result in
    let told = tells_kind c.args.path.now old found c.in_ok-first.first kind
    c.in_ok-first.ensures.call c.kind_told-kind.ensures in
    let fills = c.in_ok-fill_blocks.ensures.call in
    let puts = c.in_ok-put_bytes.ensures.call in
    let same : kind ≡ Some (kinds.File c.in-Ok.len) = search rules in
    record {
      faults = puts.faults ∙ fills.faults ∙ told.faults;
      observable = λ seen. puts.observable (fills.observable (told.keeps.observable seen));
      carried = λ seen t p under holds.
          let path = c.args.path.now in
          let fits = subst (λ (z : List ℕ). (first_refusal (write_conditions kind c.args.at (length z)) ≡ None)
          × (c.in-Ok.len ≡ max (size_of kind) (c.args.at + length z))) c.as_slice.ensures.value c.in-Ok.ensures in
          let write = writing path c.args.at c.in-Ok.len bytes c.in_ok-first.first kind old found
          c.in_ok-first.ensures.path c.requires.parent c.in_ok-first.ensures.call told fits seen t p holds in
          let form : is_inline p.version c.in-Ok.len ≡ false =
          ap (λ version. is_inline version c.in-Ok.len) under ∙ sym c.is_inline.ensures ∙ c.if-is_inline.false in
          let written = blocks-write t p path c.args.at c.in-Ok.len bytes c.in_ok-first.first found filled after write
          (told.keeps.observable seen) fills
          (subst (λ (z : List ℕ). PutsFileBytes {T = Unit {0}} path c.in-Ok.len c.args.at z filled after (Ok (tt {0})))
          c.as_slice-2.ensures.value puts) in
          step_done (λ _. Acknowledged) tt t (Write path c.args.at bytes) p after write.free refl
          (pairs-write_same t p path c.args.at c.in-Ok.len bytes c.in_ok-first.first old found after.pairs write
          c.in_ok-first.ensures.call (subst (λ (k : Option Kind). TellsKind path old found (Ok k)) same told) seen
          holds (omega arith) c.as_slice.ensures.bytes form written);
    }

pub returns-clause-call : goal.returns-clause-call
unfolding reply_of
returns-clause-call g c =
    let bytes = c.args.bytes.now in
    let old = g.P.OrderedPairs.state c.args.pairs.now in
    let found = g.P.OrderedPairs.state c.first_of.new.pairs in
    let filled = g.P.OrderedPairs.state c.fill_blocks.new.pairs in
    let after = g.P.OrderedPairs.state c.put_bytes.new.pairs in
    let kind = c.kind_told-kind.result in
    let told = tells_kind c.args.path.now old found c.in_ok-first.first kind
    c.in_ok-first.ensures.call c.kind_told-kind.ensures in
    let fills = c.in_ok-fill_blocks.ensures.call in
    let puts = c.in_ok-put_bytes.ensures.call in
    let last = c.in_ok-put-2.ensures.call in
    record {
      faults = last.faults ∙ puts.faults ∙ fills.faults ∙ told.faults;
      observable = λ seen. (last.observed (puts.observable (fills.observable (told.keeps.observable seen)))).observable;
      carried = λ seen t p under holds.
          let path = c.args.path.now in
          let seen_filled = fills.observable (told.keeps.observable seen) in
          let fits = subst (λ (z : List ℕ). (first_refusal (write_conditions kind c.args.at (length z)) ≡ None)
          × (c.in-Ok.len ≡ max (size_of kind) (c.args.at + length z))) c.as_slice.ensures.value c.in-Ok.ensures in
          let write = writing path c.args.at c.in-Ok.len bytes c.in_ok-first.first kind old found
          c.in_ok-first.ensures.path c.requires.parent c.in_ok-first.ensures.call told fits seen t p holds in
          let form : is_inline p.version c.in-Ok.len ≡ false =
          ap (λ version. is_inline version c.in-Ok.len) under ∙ sym c.is_inline.ensures ∙ c.if-is_inline.false in
          let written = blocks-write t p path c.args.at c.in-Ok.len bytes c.in_ok-first.first found filled after write
          (told.keeps.observable seen) fills
          (subst (λ (z : List ℕ). PutsFileBytes {T = Unit {0}} path c.in-Ok.len c.args.at z filled after (Ok (tt {0})))
          c.as_slice-2.ensures.value puts) in
          step_done (λ _. Acknowledged) tt t (Write path c.args.at bytes) p
          (g.P.OrderedPairs.state c.put-2.new.self) write.free refl
          (pairs-write_blocks t p path c.args.at c.in-Ok.len bytes
          c.key-2.result c.file_value.result c.in_ok-first.first found
          after.pairs (g.P.OrderedPairs.state c.put-2.new.self).pairs write
          holds.tree c.key-2.ensures.path (omega arith) c.as_slice.ensures.bytes form written
          c.key-2.ensures.value c.file_value.ensures (last.observed (puts.observable seen_filled)).changed);
    }
