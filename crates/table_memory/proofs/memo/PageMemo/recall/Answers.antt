use Rattle.std.proofs.Common.{length, refl, ◌∙◌}
use Rattle.std.proofs.lemmas.Option.{slice_get_read}
use Rattle.table_memory.proofs.MemoLemmas.{recalled_at}
use Rattle.table_memory.proofs.memo.PageMemo.recall.Goals as goal

pub returns-then-eq-clause-found : goal.returns-then-eq-clause-found
returns-then-eq-clause-found c =
    let shown = c.deref.result.now in
    let what = c.in_ok-kept.field-0.now in
    let looked = c.in_ok-kept.ensures.lookup in
    let got = slice_get_read shown (length shown) c.args.place what refl looked.3.0 looked.1 in
    recalled_at c.args.self.now shown c.args.place what
    c.in-Some.kept c.args.label.now c.in-Some.found (c.deref.ensures.value ∙ c.self.view_is) c.requires got
    c.in-Some.is (c.if-eq.ensures.same.0 refl)
