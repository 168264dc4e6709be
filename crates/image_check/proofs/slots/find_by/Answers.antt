use Rattle.std.proofs.Common.{ℕ, List, Option, IfSome, Ok, take, sym, ap, subst, ◌∙◌, refl, arith}
use Rattle.store_model.specs.Pairs.{Pair}
use Rattle.store_model.specs.Draws.{Draw, draw_of}
use Rattle.seeded_draw.specs.AnyDrawn.{any_digest}
use Rattle.table_walk.specs.Indexes.{IsIndexOf}
use Rattle.table_walk.proofs.Noted.{index_later}
use Rattle.table_walk.specs.Walks.{WalksTable}
use Rattle.image_check.specs.declared.contents.Contents.{Contents}
use Rattle.image_check.specs.Orders.{FindsOrder}
use Rattle.image_check.specs.TreePairs.{TookPairs}
use Rattle.image_check.proofs.Calls.{nothing_in_order, nothing_walked, nothing_counted, found_all}
use Rattle.image_check.proofs.slots.find_by.Goals as goal

pub count_pages-requires-clause-count : goal.count_pages-requires-clause-count
unfolding draw_of
count_pages-requires-clause-count g c = c.requires.count ∙ sym (ap (λ (d : Draw). d.slots) c.new-draw.ensures)

pub count_pages-requires-clause-most : goal.count_pages-requires-clause-most
unfolding draw_of
count_pages-requires-clause-most g c =
    omega (arith, c.height.ensures.valid.slots_in_range, ap (λ (d : Draw). d.slots) c.new-draw.ensures)

pub count_pages-requires-clause-room : goal.count_pages-requires-clause-room
unfolding draw_of
count_pages-requires-clause-room g c =
    omega (arith, c.height.ensures.valid.slots_in_range, ap (λ (d : Draw). d.slots) c.new-draw.ensures)

pub walk_groups-requires-clause-index : goal.walk_groups-requires-clause-index
walk_groups-requires-clause-index g c =
    let draw = c.new-draw.result in
    let old = g.S.ReadSlots.state c.args.slots.now in
    let entries = c.count_pages.new.entries in
    let index = subst (λ (found : Option ℕ). IfSome found (λ used. IsIndexOf (any_digest draw) old (take used entries)))
    c.in-Some.is c.in_ok-used.ensures.index in
    index_later (any_digest draw) old (g.S.ReadSlots.state c.count_pages.new.slots) (Ok c.in_ok-used.field-0)
    (take c.in-Some.used entries) c.in_ok-used.ensures.call.reads index

pub walk_groups-requires-clause-count : goal.walk_groups-requires-clause-count
unfolding draw_of
walk_groups-requires-clause-count g c = c.in_ok-used.ensures.call.reads.calls.count ∙ c.requires.count
    ∙ sym (ap (λ (d : Draw). d.slots) c.new-draw.ensures)

pub returns-in_default-clause-call : goal.returns-in_default-clause-call
unfolding draw_of
returns-in_default-clause-call g c =
    let p = c.args.params.now in
    let old = g.S.ReadSlots.state c.args.slots.now in
    let mid = g.S.ReadSlots.state c.count_pages.new.slots in
    let found = c.in_ok-used.field-0 in
    let finds : FindsOrder (draw_of p) (draw_of p).height old mid (Ok found) =
    subst (λ h. FindsOrder (draw_of p) h old mid (Ok found))
    c.height.ensures.value (subst (λ d. FindsOrder d c.height.result old mid (Ok found))
    c.new-draw.ensures c.in_ok-used.ensures.call) in
    nothing_in_order p c.height.ensures.valid old mid found finds c.in_default.is

pub returns-then-not-branch-clause-call : goal.returns-then-not-branch-clause-call
unfolding draw_of
returns-then-not-branch-clause-call g c =
    let p = c.args.params.now in
    let old = g.S.ReadSlots.state c.args.slots.now in
    let mid = g.S.ReadSlots.state c.count_pages.new.slots in
    let new = g.S.ReadSlots.state c.walk_groups.new.slots in
    let found = c.in_ok-used.field-0 in
    let whole = c.in_ok-walk_groups.field-0 in
    let used = c.in-Some.used in
    let Took : List Pair → Type 0 = TookPairs c.new-pairs.result in
    let TookNow : List Pair → Type 0 = TookPairs c.walk_groups.new.sink in
    let finds : FindsOrder (draw_of p) (draw_of p).height old mid (Ok found) =
    subst (λ h. FindsOrder (draw_of p) h old mid (Ok found))
    c.height.ensures.value (subst (λ d. FindsOrder d c.height.result old mid (Ok found))
    c.new-draw.ensures c.in_ok-used.ensures.call) in
    let walks : WalksTable (draw_of p) mid new used Took TookNow (Ok whole) =
    subst (λ d. WalksTable d mid new used Took TookNow (Ok whole))
    c.new-draw.ensures c.in_ok-walk_groups.ensures.call in
    nothing_walked p c.height.ensures.valid old mid new found used finds c.in-Some.is Took TookNow whole
    walks c.if-not-branch.true

pub returns-in_default-counts-clause-call : goal.returns-in_default-counts-clause-call
unfolding draw_of
returns-in_default-counts-clause-call g c =
    let p = c.args.params.now in
    let old = g.S.ReadSlots.state c.args.slots.now in
    let mid = g.S.ReadSlots.state c.count_pages.new.slots in
    let new = g.S.ReadSlots.state c.walk_groups.new.slots in
    let found = c.in_ok-used.field-0 in
    let whole = c.in_ok-walk_groups.field-0 in
    let used = c.in-Some.used in
    let Took : List Pair → Type 0 = TookPairs c.new-pairs.result in
    let TookNow : List Pair → Type 0 = TookPairs c.walk_groups.new.sink in
    let finds : FindsOrder (draw_of p) (draw_of p).height old mid (Ok found) =
    subst (λ h. FindsOrder (draw_of p) h old mid (Ok found))
    c.height.ensures.value (subst (λ d. FindsOrder d c.height.result old mid (Ok found))
    c.new-draw.ensures c.in_ok-used.ensures.call) in
    let walks : WalksTable (draw_of p) mid new used Took TookNow (Ok whole) =
    subst (λ d. WalksTable d mid new used Took TookNow (Ok whole))
    c.new-draw.ensures c.in_ok-walk_groups.ensures.call in
    let version = sym (c.in_ok-walk_groups.ensures.keeps ∙ c.new-pairs.ensures.version ∙ c.version.ensures.value) in
    nothing_counted p c.height.ensures.valid old mid new found used finds c.in-Some.is Took TookNow whole
    walks c.if-not-branch.false
    c.counts.result c.new-pairs.ensures.none (λ s took few. c.counts.ensures s p version took few)
    c.in_default-counts.is

pub returns-clause-call : goal.returns-clause-call
unfolding draw_of
returns-clause-call g c =
    let p = c.args.params.now in
    let old = g.S.ReadSlots.state c.args.slots.now in
    let mid = g.S.ReadSlots.state c.count_pages.new.slots in
    let new = g.S.ReadSlots.state c.walk_groups.new.slots in
    let found = c.in_ok-used.field-0 in
    let whole = c.in_ok-walk_groups.field-0 in
    let used = c.in-Some.used in
    let Took : List Pair → Type 0 = TookPairs c.new-pairs.result in
    let TookNow : List Pair → Type 0 = TookPairs c.walk_groups.new.sink in
    let finds : FindsOrder (draw_of p) (draw_of p).height old mid (Ok found) =
    subst (λ h. FindsOrder (draw_of p) h old mid (Ok found))
    c.height.ensures.value (subst (λ d. FindsOrder d c.height.result old mid (Ok found))
    c.new-draw.ensures c.in_ok-used.ensures.call) in
    let walks : WalksTable (draw_of p) mid new used Took TookNow (Ok whole) =
    subst (λ d. WalksTable d mid new used Took TookNow (Ok whole))
    c.new-draw.ensures c.in_ok-walk_groups.ensures.call in
    let version = sym (c.in_ok-walk_groups.ensures.keeps ∙ c.new-pairs.ensures.version ∙ c.version.ensures.value) in
    let contents : Contents = record { params = p; used = used; counts = c.in-Some-counts.counts } in
    found_all p c.height.ensures.valid old mid new found used finds c.in-Some.is Took TookNow whole
    walks c.if-not-branch.false
    c.counts.result contents c.new-pairs.ensures.none (λ s took few. c.counts.ensures s p version took few)
    c.in-Some-counts.is refl refl
