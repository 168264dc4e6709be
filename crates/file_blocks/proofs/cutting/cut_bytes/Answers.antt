use Rattle.std.proofs.Common.{◌-◌, ◌*◌, ◌/◌, ◌+◌, arith}
use Rattle.store_model.specs.Pairs.{file_block}
use Rattle.file_blocks.proofs.CutLemmas.{cuts_both, cuts_smaller}
use Rattle.file_blocks.proofs.cutting.cut_bytes.Goals as goal

pub returns-clause-call : goal.returns-clause-call
returns-clause-call g c =
    let old = g.P.OrderedPairs.state c.args.pairs.now in
    let between = g.P.OrderedPairs.state c.drop_blocks.new.pairs in
    let new = g.P.OrderedPairs.state c.cut_block.new.pairs in
    let all = c.div_ceil.ensures in
    let kept = c.div_ceil-2.ensures in
    cuts_smaller c.args.path.now c.args.size (file_block * c.div_ceil.result) c.args.len old new
    c.cut_block.result (omega arith)
    (cuts_both c.args.path.now (file_block * c.div_ceil.result) (file_block * c.div_ceil-2.result)
    (file_block * ((c.args.len + (file_block - 1)) / file_block)) c.args.len old between new
    c.cut_block.result (omega arith) (omega arith) c.in_ok-drop_blocks.ensures.call c.cut_block.ensures.call)

pub returns-in_err-drop_blocks-clause-hidden : goal.returns-in_err-drop_blocks-clause-hidden
returns-in_err-drop_blocks-clause-hidden g c seen = c.drop_blocks.ensures.hidden seen

pub returns-in_err-drop_blocks-clause-follows : goal.returns-in_err-drop_blocks-clause-follows
returns-in_err-drop_blocks-clause-follows g c = c.drop_blocks.ensures.follows

pub returns-clause-hidden : goal.returns-clause-hidden
returns-clause-hidden g c seen = c.drop_blocks.ensures.hidden (c.cut_block.ensures.hidden seen)

pub returns-clause-follows : goal.returns-clause-follows
returns-clause-follows g c = g.met.P.OrderedPairs.follows_trans _ _ _
    c.drop_blocks.ensures.follows c.cut_block.ensures.follows
