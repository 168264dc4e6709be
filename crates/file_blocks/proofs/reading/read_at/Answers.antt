use Rattle.std.proofs.Common.{◌≡◌, ◌-◌, ◌≤◌, ◌∙◌, length, min, None, ap, sym, arith}
use Rattle.store_model.specs.Pairs.{is_inline}
use Rattle.store_model.specs.Trees.{contents, node_at}
use Rattle.store_model.specs.Commands.Command.{Read}
use Rattle.store_model.specs.Commands.Reply.{Content}
use Rattle.store_model.specs.Steps.{first_refusal, refusal_of, reply_of}
use Rattle.tree_pairs.proofs.TreeBlocks.{tree_blocks}
use Rattle.tree_pairs.proofs.CallLemmas.{step_done}
use Rattle.tree_pairs.proofs.KindLemmas.{tells_kind}
use Rattle.file_blocks.specs.Refusals.{read_conditions, size_of}
use Rattle.file_blocks.proofs.CarryLemmas.{refused_by_kind, refusal-read, size_of-node, read_fits, read_allowed}
use Rattle.file_blocks.proofs.CarryLemmas.{take_there, pairs-read}
use Rattle.file_blocks.proofs.FormLemmas.{stands_found}
use Rattle.file_blocks.proofs.reading.read_at.Goals as goal

pub read_file-requires-clause-few : goal.read_file-requires-clause-few
read_file-requires-clause-few g c = let few = read_fits c.kind_told.result c.args.at c.args.len c.in-Ok.ensures.0
    in let e = c.in-Ok.ensures.1 in omega arith

pub returns-in-Err-clause-call : goal.returns-in-Err-clause-call
returns-in-Err-clause-call g c =
    refused_by_kind Content (Read c.args.path.now c.args.at c.args.len)
    c.args.path.now c.kind_told.result c.in-Err.refusal (λ kind. read_conditions kind c.args.at c.args.len)
    (g.P.OrderedPairs.state c.args.pairs.now) (g.P.OrderedPairs.state c.first_of.new.pairs)
    (tells_kind c.args.path.now (g.P.OrderedPairs.state c.args.pairs.now)
    (g.P.OrderedPairs.state c.first_of.new.pairs)
    c.in_ok-first.first c.kind_told.result c.in_ok-first.ensures.call c.kind_told.ensures)
    (λ seen t p holds. refusal-read t c.args.path.now c.args.at c.args.len) c.in-Err.ensures

pub returns-in_ok-read_file-in-Ok-clause-call : goal.returns-in_ok-read_file-in-Ok-clause-call
unfolding reply_of
returns-in_ok-read_file-in-Ok-clause-call g c =
    let told = tells_kind c.args.path.now (g.P.OrderedPairs.state c.args.pairs.now)
    (g.P.OrderedPairs.state c.first_of.new.pairs)
    c.in_ok-first.first c.kind_told.result c.in_ok-first.ensures.call c.kind_told.ensures in
    let reads = c.in_ok-read_file-in-Ok.ensures.call in
    record {
      faults = reads.faults ∙ told.faults;
      observable = λ seen. reads.keeps.observable (told.keeps.observable seen);
      carried = λ seen t p holds.
          let path = c.args.path.now in
          let kind_is = told.told seen t p holds in
          let free : refusal_of t (Read path c.args.at c.args.len) ≡ None =
          refusal-read t path c.args.at c.args.len
          ∙ ap (λ kind. first_refusal (read_conditions kind c.args.at c.args.len)) (sym kind_is) ∙ c.in-Ok.ensures.0
          in
          let allowed = read_allowed t path c.args.at c.args.len free in
          let within : c.args.at ≤ length (contents t path) = allowed.1 in
          let seen_between = told.keeps.observable seen in
          let stands = stands_found path c.in_ok-first.first (g.P.OrderedPairs.state c.args.pairs.now)
          (g.P.OrderedPairs.state c.first_of.new.pairs) t p
          c.in_ok-first.ensures.path c.in_ok-first.ensures.call seen holds allowed.0 in
          let count_is : c.in-Ok.count ≡ min c.args.len (length (contents t path) - c.args.at) =
          c.in-Ok.ensures.1 ∙ ap (λ m. min c.args.len (m - c.args.at))
          (ap size_of kind_is ∙ size_of-node (node_at t path)) in
          step_done Content c.in_ok-read_file-in-Ok.field-0 t (Read path c.args.at c.args.len) p
          (g.P.OrderedPairs.state c.read_file.new.pairs) free
          (ap Content (reads.read seen_between (is_inline p.version (length (contents t path))) (contents t path)
          (tree_blocks t p) (omega arith) stands
          ∙ take_there (contents t path) c.args.at c.args.len c.in-Ok.count count_is))
          (pairs-read t p path c.args.at c.args.len (g.P.OrderedPairs.state c.read_file.new.pairs).pairs
          (reads.keeps.unchanged seen_between ∙ told.keeps.unchanged seen ∙ holds.pairs_are));
    }
