use Rattle.std.proofs.Common.{◌-◌, ◌*◌, ◌/◌, ◌+◌, length, refl, ap, arith}
use Rattle.store_model.specs.Pairs.{file_block}
use Rattle.file_blocks.proofs.CutLemmas.{cuts_block, added_by_cut, cuts_no_block}
use Rattle.file_blocks.proofs.cutting.cut_block.Goals as goal

pub returns-in-Some-clause-call : goal.returns-in-Some-clause-call
returns-in-Some-clause-call g c =
    cuts_block c.args.path.now (file_block * ((c.args.len + (file_block - 1)) / file_block))
    c.args.len (c.args.len / file_block + 1)
    c.key-key.result c.as_slice.result.now c.front_of.result c.in-Some.last c.in_ok-last.field-0
    (g.P.OrderedPairs.state c.args.pairs.now) (g.P.OrderedPairs.state c.get.new.self)
    (g.P.OrderedPairs.state c.put.new.self) c.put.result
    c.key-key.ensures.path c.key-key.ensures.value refl (omega arith) (omega arith)
    (omega arith) c.in-Some.is c.as_slice.ensures.value (let l = c.as_slice.ensures.some
    in omega (arith, ap length c.as_slice.ensures.value))
    c.front_of.ensures c.in_ok-last.ensures.call c.put.ensures.call

pub returns-in-Some-clause-fewer : goal.returns-in-Some-clause-fewer
returns-in-Some-clause-fewer g c =
    added_by_cut c.key-key.result c.front_of.result c.in_ok-last.field-0 (g.P.OrderedPairs.state c.args.pairs.now)
    (g.P.OrderedPairs.state c.get.new.self) (g.P.OrderedPairs.state c.put.new.self)
    c.put.result c.in_ok-last.ensures.call c.put.ensures.call

pub returns-in-None-clause-call : goal.returns-in-None-clause-call
returns-in-None-clause-call g c =
    cuts_no_block c.args.path.now (file_block * ((c.args.len + (file_block - 1)) / file_block))
    c.args.len (c.args.len / file_block + 1)
    c.key-key.result c.in_ok-last.field-0 (g.P.OrderedPairs.state c.args.pairs.now)
    (g.P.OrderedPairs.state c.get.new.self)
    c.key-key.ensures.path c.key-key.ensures.value refl (omega arith) c.in-None.is c.in_ok-last.ensures.call

pub returns-in_err-last-clause-hidden : goal.returns-in_err-last-clause-hidden
returns-in_err-last-clause-hidden g c seen = c.get.ensures.call.hidden seen

pub returns-in_err-last-clause-follows : goal.returns-in_err-last-clause-follows
returns-in_err-last-clause-follows g c = c.get.ensures.follows

pub returns-in-Some-clause-hidden : goal.returns-in-Some-clause-hidden
returns-in-Some-clause-hidden g c seen = c.get.ensures.call.hidden (c.put.ensures.call.hidden seen)

pub returns-in-Some-clause-follows : goal.returns-in-Some-clause-follows
returns-in-Some-clause-follows g c =
    g.met.P.OrderedPairs.follows_trans _ _ _ c.get.ensures.follows c.put.ensures.follows

pub returns-in-None-clause-hidden : goal.returns-in-None-clause-hidden
returns-in-None-clause-hidden g c seen = c.get.ensures.call.hidden seen

pub returns-in-None-clause-follows : goal.returns-in-None-clause-follows
returns-in-None-clause-follows g c = c.get.ensures.follows
