use Rattle.std.proofs.Common.{◌≡◌, ◌∙◌, true, false, length, ap, refl, subst, sym, arith}
use Rattle.store_model.specs.Pairs.{file_value, is_inline}
use Rattle.store_model.specs.Trees.{contents}
use Rattle.store_model.specs.Commands.Command.{Cut}
use Rattle.store_model.specs.Commands.Reply.{Acknowledged}
use Rattle.store_model.specs.Steps.{reply_of}
use Rattle.tree_pairs.proofs.TreeBlocks.{tree_blocks}
use Rattle.tree_pairs.proofs.CallLemmas.{step_done, carries_under}
use Rattle.tree_pairs.proofs.KindLemmas.{tells_kind}
use Rattle.file_blocks.specs.FileCalls.{StandsAs}
use Rattle.file_blocks.specs.Refusals.{cut_conditions}
use Rattle.file_blocks.proofs.CarryLemmas.{refused_by_kind, refusal-cut, cut_fits, cutting, long_before, pairs-cut}
use Rattle.file_blocks.proofs.CarryLemmas.{pairs-uncut}
use Rattle.file_blocks.proofs.cutting.cut.Goals as goal

pub returns-in-Err-clause-call : goal.returns-in-Err-clause-call
returns-in-Err-clause-call g c =
    let old = g.P.OrderedPairs.state c.args.pairs.now in
    let found = g.P.OrderedPairs.state c.first_of.new.pairs in
    carries_under c.args.version (λ _. Acknowledged) (Cut c.args.path.now c.args.len) old found _
    (refused_by_kind (λ _. Acknowledged) (Cut c.args.path.now c.args.len)
    c.args.path.now c.kind_told.result c.in-Err.refusal (λ kind. cut_conditions kind c.args.len) old found
    (tells_kind c.args.path.now old found c.in_ok-first.first c.kind_told.result c.in_ok-first.ensures.call
    c.kind_told.ensures) (λ seen t p holds. refusal-cut t c.args.path.now c.args.len) c.in-Err.ensures)

pub returns-then-size-len-clause-call : goal.returns-then-size-len-clause-call
unfolding reply_of
returns-then-size-len-clause-call g c =
    let old = g.P.OrderedPairs.state c.args.pairs.now in
    let found = g.P.OrderedPairs.state c.first_of.new.pairs in
    let told = tells_kind c.args.path.now old found
    c.in_ok-first.first c.kind_told.result c.in_ok-first.ensures.call c.kind_told.ensures in
    record {
      faults = told.faults;
      observable = told.keeps.observable;
      carried = λ seen t p under holds.
          let path = c.args.path.now in
          let cut = cutting path c.in-Ok.size c.args.len c.in_ok-first.first c.kind_told.result old found
          c.in_ok-first.ensures.path c.in_ok-first.ensures.call told c.in-Ok.ensures seen t p holds in
          step_done (λ _. Acknowledged) tt t (Cut path c.args.len) p found cut.free refl
          (pairs-uncut t p path c.args.len found.pairs holds.tree (omega arith)
          cut.free (sym cut.size_is ∙ c.if-size-len.true) (told.keeps.unchanged seen ∙ holds.pairs_are));
    }

pub returns-then-is_inline-clause-call : goal.returns-then-is_inline-clause-call
unfolding reply_of
returns-then-is_inline-clause-call g c =
    let old = g.P.OrderedPairs.state c.args.pairs.now in
    let found = g.P.OrderedPairs.state c.first_of.new.pairs in
    let told = tells_kind c.args.path.now old found
    c.in_ok-first.first c.kind_told.result c.in_ok-first.ensures.call c.kind_told.ensures in
    let reads = c.in_ok-front.ensures.call in
    let drops = c.in_ok-drop_file.ensures.call in
    let last = c.in_ok-put.ensures.call in
    record {
      faults = last.faults ∙ drops.faults ∙ reads.faults ∙ told.faults;
      observable =
          λ seen. (last.observed (drops.observable (reads.keeps.observable (told.keeps.observable seen)))).observable;
      carried = λ seen t p under holds.
          let path = c.args.path.now in
          let bytes = contents t path in
          let inline = is_inline p.version (length bytes) in
          let seen_found = told.keeps.observable seen in
          let seen_read = reads.keeps.observable seen_found in
          let cut = cutting path c.in-Ok.size c.args.len c.in_ok-first.first c.kind_told.result old found
          c.in_ok-first.ensures.path c.in_ok-first.ensures.call told c.in-Ok.ensures seen t p holds in
          let form : is_inline p.version c.args.len ≡ true =
          ap (λ version. is_inline version c.args.len) under ∙ sym c.is_inline.ensures ∙ c.if-is_inline.true in
          let front = reads.read seen_found inline bytes (tree_blocks t p) cut.within cut.stands in
          let bare = drops.dropped seen_read inline bytes (tree_blocks t p) (let l = cut.size_is in omega arith)
          (subst (StandsAs inline path c.in_ok-first.first bytes (tree_blocks t p))
          (sym (reads.keeps.unchanged seen_found)) cut.stands) in
          step_done (λ _. Acknowledged) tt t (Cut path c.args.len) p
          (g.P.OrderedPairs.state c.put.new.self) cut.free refl
          (pairs-cut t p path c.in-Ok.size c.args.len true c.key.result c.in_ok-front.front c.in_ok-first.first found
          (g.P.OrderedPairs.state c.drop_file.new.pairs).pairs (g.P.OrderedPairs.state c.put.new.self).pairs
          cut holds.tree c.key.ensures.path (omega arith) form bare c.key.ensures.value front
          (last.observed (drops.observable seen_read)).changed);
    }

pub cut_bytes-requires-clause-shorter : goal.cut_bytes-requires-clause-shorter
cut_bytes-requires-clause-shorter g c = let fits = cut_fits c.kind_told.result c.args.len c.in-Ok.ensures.0
    in let e = c.in-Ok.ensures.1 in omega arith

pub returns-clause-call : goal.returns-clause-call
unfolding reply_of
returns-clause-call g c =
    let old = g.P.OrderedPairs.state c.args.pairs.now in
    let found = g.P.OrderedPairs.state c.first_of.new.pairs in
    let told = tells_kind c.args.path.now old found
    c.in_ok-first.first c.kind_told.result c.in_ok-first.ensures.call c.kind_told.ensures in
    let cuts = c.in_ok-cut_bytes.ensures.call in
    let last = c.in_ok-put-2.ensures.call in
    record {
      faults = last.faults ∙ cuts.faults ∙ told.faults;
      observable = λ seen. (last.observed (cuts.observable (told.keeps.observable seen))).observable;
      carried = λ seen t p under holds.
          let path = c.args.path.now in
          let seen_found = told.keeps.observable seen in
          let cut = cutting path c.in-Ok.size c.args.len c.in_ok-first.first c.kind_told.result old found
          c.in_ok-first.ensures.path c.in_ok-first.ensures.call told c.in-Ok.ensures seen t p holds in
          let form : is_inline p.version c.args.len ≡ false =
          ap (λ version. is_inline version c.args.len) under ∙ sym c.is_inline.ensures ∙ c.if-is_inline.false in
          let before = long_before t p path c.in-Ok.size c.args.len c.in_ok-first.first found cut form in
          let after = cuts.cut seen_found c.in_ok-first.first (contents t path) (tree_blocks t p)
          (let l = cut.size_is in omega arith) before in
          step_done (λ _. Acknowledged) tt t (Cut path c.args.len) p
          (g.P.OrderedPairs.state c.put-2.new.self) cut.free refl
          (pairs-cut t p path c.in-Ok.size c.args.len false c.key-2.result c.file_value.result c.in_ok-first.first found
          (g.P.OrderedPairs.state c.cut_bytes.new.pairs).pairs (g.P.OrderedPairs.state c.put-2.new.self).pairs
          cut holds.tree c.key-2.ensures.path (omega arith) form after
          c.key-2.ensures.value (c.file_value.ensures ∙ ap file_value (sym cut.long))
          (last.observed (cuts.observable seen_found)).changed);
    }
