use Rattle.std.proofs.Common.{◌≤◌, ℕ, Ok, Err, refl, sym, ap₂, subst, arith}
use Rattle.store_model.specs.Pages.{page_count}
use Rattle.store_model.specs.Trees.{empty_tree}
use Rattle.image_check.specs.declared.fault.ApplyFault.TheVariants as apply
use Rattle.staged_tree.specs.declared.load.LoadAnswer.{LoadAnswer}
use Rattle.staged_tree.specs.declared.load.LoadAnswer.TheVariants as answers
use Rattle.staged_tree.specs.Steps.{EndsStep}
use Rattle.staged_tree.specs.Loads.{loaded_tree, IsLoadAnswer}
use Rattle.staged_tree.proofs.LoadSteps.{unmoved, load_full, laid_out, pages_laid, rising_pairs, fitting_under}
use Rattle.staged_tree.proofs.LoadSteps.{load_done}
use Rattle.staged_tree.proofs.load.load_list.Goals as goal

pub build_drawn-requires-clause-rising : goal.build_drawn-requires-clause-rising
build_drawn-requires-clause-rising g c = let some = c.requires.pairs
    in rising_pairs some.0 c.args.params.now c.args.pairs.now some.1.0 some.1.1

pub settle_layout-requires-clause-tree : goal.settle_layout-requires-clause-tree
settle_layout-requires-clause-tree g c =
    let p = c.args.params.now in
    let some = c.requires.pairs in
    let room = c.in-Ok.ensures.fits in
    let count = pages_laid some.0 p c.args.pairs.now some.1.1 in (
      some.0,
      (
        fitting_under some.0 p c.requires.list.fitting some.1.0 (omega (arith, room, count)),
        laid_out some.0 p
            c.args.pairs.now c.in-Ok.layout some.1.1 c.in-Ok.ensures.value,
      ),
    )

pub returns-in-Ok-clause-call : goal.returns-in-Ok-clause-call
returns-in-Ok-clause-call g c t under is =
    let p = c.args.params.now in
    let room = c.in-Ok.ensures.fits in
    let count = pages_laid t p c.args.pairs.now is in
    let fits : page_count t p ≤ p.slots = omega (arith, room, count) in
    load_done g.D.Disk.state t p c.args.list.now.pages c.settle_layout.new.list.pages c.settle_layout.result fits
    (c.settle_layout.ensures.call t (fitting_under t p c.requires.list.fitting under fits)
    (laid_out t p c.args.pairs.now c.in-Ok.layout is c.in-Ok.ensures.value))

pub returns-in-Err-Full-clause-call : goal.returns-in-Err-Full-clause-call
returns-in-Err-Full-clause-call g c t under is =
    let state = g.D.Disk.state in
    let p = c.args.params.now in
    let old = c.args.list.now.pages in
    let same = ap₂ (λ (m n : ℕ). answers.Full m n) c.in-Err-Full.need-is c.in-Err-Full.slots-is in
    subst (λ (a : LoadAnswer). EndsStep state empty_tree (loaded_tree p empty_tree t)
    (IsLoadAnswer p t) p old old (Ok a)) (sym same)
    (load_full state t p old c.args.pairs.now c.in-Err-Full.field-0 c.in-Err-Full.need c.in-Err-Full.slots
    c.in-Err-Full.field-0-is c.in-Err-Full.ensures.full is
    c.requires.list.fitting c.requires.list.pages c.requires.runs (g.met.D.Disk.sound old.disk))

pub returns-in-Err-NoMemory-clause-call : goal.returns-in-Err-NoMemory-clause-call
returns-in-Err-NoMemory-clause-call g c t under is =
    unmoved g.D.Disk.state empty_tree (loaded_tree c.args.params.now empty_tree t)
    (IsLoadAnswer c.args.params.now t) c.args.params.now c.args.list.now.pages (Err apply.NoMemory)
    c.requires.list.fitting c.requires.list.pages c.requires.runs (g.met.D.Disk.sound c.args.list.now.pages.disk)
    refl (λ e. cc) tt tt
