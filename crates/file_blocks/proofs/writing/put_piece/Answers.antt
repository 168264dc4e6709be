use Rattle.std.proofs.Common.{◌∙◌, ap, arith, ◌+◌, ◌/◌, refl}
use Rattle.store_model.specs.Pairs.{file_block}
use Rattle.store_base.specs.Faults.{disk_faults_after}
use Rattle.file_blocks.proofs.FileLemmas.{on_ok, added_by_put, piece_put, whole_put, run_covered}
use Rattle.file_blocks.proofs.writing.put_piece.Goals as goal

pub returns-clause-call : goal.returns-clause-call
returns-clause-call g c =
    let old = g.P.OrderedPairs.state c.args.pairs.now in
    let got = c.in_ok-old.ensures.call in
    let done = c.put-2.ensures.call in
    record {
      faults = done.faults ∙ ap (λ n. disk_faults_after n c.put-2.result) got.faults;
      observable = λ seen. (done.observed (got.observed seen).observable).observable;
      written = λ seen first y others h short has. on_ok c.put-2.result
          (λ changed. piece_put c.args.path.now first y others old.pairs _ _ c.args.at (c.args.at / file_block + 1)
          c.key-key.result c.args.piece.now _ c.overlaid-value.result _
          c.key-key.ensures.path c.key-key.ensures.value refl (omega arith) h (omega arith) (omega arith)
          (got.observed seen).found c.bytes_of.ensures c.overlaid-value.ensures
          (got.observed seen).unchanged changed has)
          (done.observed (got.observed seen).observable).changed;
      added = λ seen. on_ok c.put-2.result
          (λ changed. let l = added_by_put c.key-key.result c.overlaid-value.result old.pairs
          (g.P.OrderedPairs.state c.get.new.self).pairs (g.P.OrderedPairs.state c.put-2.new.self).pairs
          (got.observed seen).unchanged changed in omega arith)
          (done.observed (got.observed seen).observable).changed;
    }

pub returns-then-leaves_none-clause-call : goal.returns-then-leaves_none-clause-call
returns-then-leaves_none-clause-call g c =
    let whole = c.if-leaves_none.ensures.0 refl in
    let old = g.P.OrderedPairs.state c.args.pairs.now in
    let done = c.put.ensures.call in
    record {
      faults = done.faults;
      observable = λ seen. (done.observed seen).observable;
      written = λ seen first y others h short has. on_ok c.put.result
          (λ changed. whole_put c.args.path.now first y others old.pairs _ c.args.at (c.args.at / file_block + 1)
          c.key-key.result c.args.piece.now c.new.result c.key-key.ensures.path c.key-key.ensures.value refl
          (omega arith) h c.requires.some c.requires.within whole.0
          (run_covered y c.args.piece.now c.args.len c.args.at short whole.0 whole.1) c.new.ensures changed has)
          (done.observed seen).changed;
      added = λ seen. on_ok c.put.result
          (λ changed. let l = added_by_put c.key-key.result c.new.result old.pairs old.pairs
          (g.P.OrderedPairs.state c.put.new.self).pairs refl changed in omega arith)
          (done.observed seen).changed;
    }

pub returns-in_err-old-clause-hidden : goal.returns-in_err-old-clause-hidden
returns-in_err-old-clause-hidden g c seen = c.get.ensures.call.hidden seen

pub returns-in_err-old-clause-follows : goal.returns-in_err-old-clause-follows
returns-in_err-old-clause-follows g c = c.get.ensures.follows

pub returns-clause-hidden : goal.returns-clause-hidden
returns-clause-hidden g c seen = c.get.ensures.call.hidden (c.put-2.ensures.call.hidden seen)

pub returns-clause-follows : goal.returns-clause-follows
returns-clause-follows g c = g.met.P.OrderedPairs.follows_trans _ _ _ c.get.ensures.follows c.put-2.ensures.follows

pub returns-then-leaves_none-clause-hidden : goal.returns-then-leaves_none-clause-hidden
returns-then-leaves_none-clause-hidden g c seen = c.put.ensures.call.hidden seen

pub returns-then-leaves_none-clause-follows : goal.returns-then-leaves_none-clause-follows
returns-then-leaves_none-clause-follows g c = c.put.ensures.follows
