use Rattle.std.proofs.Common.{refl, sym, subst}
use Rattle.script_lines.specs.Memory.{SourceMemory}
use Rattle.image_subcommands.specs.Statuses.{Subcommand as words}
use Rattle.store_claims.specs.Nothing.{DoesNothing}
use Rattle.store_claims.proofs.NothingLemmas.{works_on_nothing}
use Rattle.store_claims.proofs.OneWord.{asks_dump}
use Rattle.store_claims.proofs.RunWays.{found}
use Rattle.store_claims.proofs.dumped.a_dump_says_its_tree.Goals as goal

pub returns-clause-says : goal.returns-clause-says
returns-clause-says c =
    ((c.top.ensures.performs _ (c.in_ok-words.ensures _ asks_dump)).observed refl).does

pub returns-clause-ends : goal.returns-clause-ends
returns-clause-ends c t p =
    let dump = c.top.ensures.performs _ (c.in_ok-words.ensures _ asks_dump) in
    let on_disk = dump.observed refl in
    found words.Dump t p c.args.disk c.top.result.status dump.ends on_disk.not_image on_disk.damaged

pub returns-clause-nothing : goal.returns-clause-nothing
returns-clause-nothing c none =
    let nothing = works_on_nothing c.args.disk c.no_script.result c.args.sink c.top.result
    (c.top.ensures.performs _ (c.in_ok-words.ensures _ asks_dump)) none in
    subst (λ (given : SourceMemory). DoesNothing c.args.disk given c.args.sink c.top.result)
    (sym nothing.nothing_taken) nothing
