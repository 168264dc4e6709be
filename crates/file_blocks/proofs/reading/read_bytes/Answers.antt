use Rattle.std.proofs.Common.{◌≡◌, ◌+◌, ◌-◌, ◌/◌, ◌%◌, ℕ, List, [], length, drop, refl, sym, ap, subst, ◌∙◌, arith}
use Rattle.std.proofs.lemmas.List.{length-append, length-take}
use Rattle.store_model.specs.Pairs.{file_block}
use Rattle.file_blocks.proofs.ReadLemmas.{IsPieceRead, piece_read, reads_more, reads_end, reads_all, no_piece}
use Rattle.file_blocks.proofs.reading.read_bytes.Goals as goal
use Rattle.file_blocks.proofs.reading.read_bytes.Goals.{else-loop-bytes-test}
use Rattle.file_blocks.proofs.reading.read_bytes.Goals.{then-loop-bytes-test+in_ok-block+then-is_empty}

pub loop-bytes-preserved : goal.loop-bytes-preserved
loop-bytes-preserved g c =
    let old = g.P.OrderedPairs.state c.args.pairs.now in
    let between = g.P.OrderedPairs.state c.loop-bytes.pairs in
    let new = g.P.OrderedPairs.state c.get.new.self in
    let place : ℕ = c.args.at + c.len-in-loop-bytes.result in
    let most : ℕ = c.args.count - c.len-in-loop-bytes-2.result in
    let all_is = c.in-Ok.ensures.ok in
    let read = piece_read c.args.path.now place most
    (place / file_block + 1) c.key.result c.bytes_of.result.now c.piece_of-piece.result.now c.in_ok-block.block
    c.args.at (length c.loop-bytes.bytes.items) c.loop-bytes.bytes.items old between new
    c.key.ensures.path c.key.ensures.value refl
    (omega arith) c.bytes_of.ensures c.piece_of-piece.ensures c.loop-bytes.invariant.call c.in_ok-block.ensures.call
    in
    record {
      within = let a = length-append c.loop-bytes.bytes.items c.piece_of-piece.result.now
          in let b = length-take most (drop (place % file_block) c.bytes_of.result.now)
          in omega (arith, ap length all_is, ap length c.piece_of-piece.ensures);
      call = reads_more c.args.path.now place most c.args.at (length c.loop-bytes.bytes.items)
          (length c.try_extend_from_slice.new.self.items)
          c.key.result c.piece_of-piece.result.now c.loop-bytes.bytes.items c.try_extend_from_slice.new.self.items
          c.in_ok-block.block old between new
          (omega arith) refl all_is refl read c.loop-bytes.invariant.call c.in_ok-block.ensures.call;
      hidden = λ h. c.loop-bytes.invariant.hidden (c.in_ok-block.ensures.call.hidden h);
      follows = g.met.P.OrderedPairs.follows_trans _ _ _ c.loop-bytes.invariant.follows c.in_ok-block.ensures.follows;
    }

pub returns-clause-call : goal.returns-clause-call
returns-clause-call g c =
    let old = g.P.OrderedPairs.state c.args.pairs.now in
    let between = g.P.OrderedPairs.state c.loop-bytes.pairs in
    elim c.loop-bytes-test.branch [
      | else-loop-bytes-test w ↦
          reads_all c.args.path.now c.args.at (length c.loop-bytes.bytes.items)
          c.args.count c.loop-bytes.bytes.items c.new.result old between
          (g.P.OrderedPairs.state c.loop-bytes-test.pairs)
          (omega arith) (ap g.P.OrderedPairs.state w.pairs-is)
          (c.new.ensures ∙ c.as_slice.ensures.value) c.loop-bytes.invariant.call
      | then-loop-bytes-test+in_ok-block+then-is_empty w ↦
          let new = g.P.OrderedPairs.state w.get.new.self in
          let place : ℕ = c.args.at + w.len-in-loop-bytes.result in
          let most : ℕ = c.args.count - w.len-in-loop-bytes-2.result in
          let read = piece_read c.args.path.now place most
          (place / file_block + 1) w.key.result w.bytes_of.result.now w.piece_of-piece.result.now
          w.in_ok-block.block c.args.at (length c.loop-bytes.bytes.items) c.loop-bytes.bytes.items old between new
          w.key.ensures.path w.key.ensures.value refl
          (omega arith) w.bytes_of.ensures w.piece_of-piece.ensures c.loop-bytes.invariant.call
          w.in_ok-block.ensures.call in
          let none : w.piece_of-piece.result.now ≡ [] =
          no_piece w.piece_of-piece.result.now (sym w.is_empty.ensures ∙ w.if-is_empty.true) in
          reads_all c.args.path.now c.args.at c.args.count c.args.count c.loop-bytes.bytes.items c.new.result old new
          (g.P.OrderedPairs.state c.loop-bytes-test.pairs)
          refl (ap g.P.OrderedPairs.state w.pairs-is) (c.new.ensures ∙ c.as_slice.ensures.value)
          (reads_end c.args.path.now place most c.args.at (length c.loop-bytes.bytes.items)
          c.args.count w.key.result c.loop-bytes.bytes.items w.in_ok-block.block old between new
          (omega arith) (omega arith) (omega arith)
          (subst (λ (z : List ℕ). IsPieceRead c.args.path.now place most old new z) none read)
          c.loop-bytes.invariant.call w.in_ok-block.ensures.call)
    ]
