use Rattle.std.proofs.Common.{Option, Some, slice_set, sym, subst, arith}
use Rattle.store_model.specs.Labels.{Label}
use Rattle.store_model.specs.Pages.{Page}
use Rattle.table_memory.specs.Memos.{Remembered, Remembers}
use Rattle.table_memory.proofs.MemoLemmas.{remembers_put}
use Rattle.table_memory.proofs.memo.PageMemo.keep.Goals as goal

pub returns : goal.returns
returns c =
    let mid = c.make_places.new.places.items in
    let place = c.memo_place-place.result in
    let put = remembers_put c.self.inside.places.items mid c.args.label c.args.found place
    c.memo_place-place.ensures.value (omega (arith, c.memo_place-place.ensures.below, c.in-Ok.ensures.made))
    c.in-Ok.ensures.kept in
    let told = subst (λ (memo : Remembered). Remembers memo (slice_set mid place (Some (c.args.label, c.args.found)))
    c.args.label c.args.found) c.self.view_is put in
    subst (λ (entry : Option (Label × Option Page)).
    Remembers c.args.self.now (slice_set mid place entry) c.args.label c.args.found)
    (sym c.replace.ensures.after) told
