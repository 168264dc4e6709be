use Rattle.std.proofs.Common.{Some, ap, subst, ◌∙◌}
use Rattle.std.specs.BTreeMap.{insert_entry}
use Rattle.std.proofs.lemmas.Result.{on_ok_weaker}
use Rattle.store_model.specs.Labels.{label_cmp}
use Rattle.store_model.specs.Pages.{Page}
use Rattle.node_pages.specs.Insertions.{TakesCell, with_cell}
use Rattle.table_memory.specs.Memos.{IsRemembered}
use Rattle.page_store.proofs.CellCalls.{put_cell}
use Rattle.page_store.proofs.changes.Changes.insert_remembered.Goals as goal

pub returns-clause-ok : goal.returns-clause-ok
returns-clause-ok c =
    let old = c.args.self.now.pages.entries in
    let memo = c.args.memo.now in
    let l = c.args.label.now in
    let at = c.args.at in
    let cell = c.args.cell.now in
    let page = c.in-Some-Some.page in
    let same = c.in_ok-kept.ensures ∙ c.get.ensures in
    let takes = subst (λ (x : Page). TakesCell x at cell) same (c.insert.ensures.takes.0 c.if-not-insert.false) in
    let is = c.insert.ensures.value c.if-not-insert.false ∙ ap (λ (x : Page). with_cell x at cell) same in
    on_ok_weaker c.keep.result
    (λ put. put_cell old c.keep.new.self.pages.entries memo l at cell page
    c.requires (subst (IsRemembered memo l) c.in-Some-Some.field-0-is c.in-Some-Some.ensures.found) takes
    (put ∙ ap (λ (x : Page). insert_entry label_cmp old l (Some x)) is))
    c.keep.ensures.ok
