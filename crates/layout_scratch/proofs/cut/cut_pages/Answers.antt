use Rattle.std.proofs.Common.{◌≡◌, ◌<◌, List, map, length, sym, ap, subst, ◌∙◌, arith}
use Rattle.std.specs.List.Sorted.{IsStrictlySortedBy}
use Rattle.store_model.specs.Labels.{label_cmp}
use Rattle.store_model.specs.Pages.{Page, pages_of_pairs}
use Rattle.layout_scratch.specs.Ranks.{pairs_of}
use Rattle.layout_scratch.proofs.WholeCut.{IsWhole, whole}
use Rattle.layout_scratch.proofs.cut.cut_pages.Given.{Over}
use Rattle.layout_scratch.proofs.cut.cut_pages.Goals as goal

-- what is known of the pairs, once the pages are counted
sorted : (g : Over) (c : goal.After-height-height g)
    → IsWhole (g.W.Draw.drawn c.args.draw.now) (pairs_of c.args.pairs.items)
    c.height-height.result c.as_slice-ranked.result.now
sorted g c = whole (g.W.Draw.drawn c.args.draw.now)
    c.height-height.result c.args.pairs.items c.as_slice-ranked.result.now c.requires.few c.height-height.ensures
    c.as_slice-ranked.ensures.value c.requires.levels c.requires.rising

pub page_count-need-requires-clause-few : goal.page_count-need-requires-clause-few
page_count-need-requires-clause-few g c = (sorted g c).few

pub returns-then-need-slots-clause-full : goal.returns-then-need-slots-clause-full
returns-then-need-slots-clause-full g c =
    let d = g.W.Draw.drawn c.args.draw.now in
    let is = whole (g.W.Draw.drawn c.args.draw.now)
    c.height-height.result c.args.pairs.items c.as_slice-ranked.result.now c.requires.few c.height-height.ensures
    c.as_slice-ranked.ensures.value c.requires.levels c.requires.rising in (
      c.page_count-need.ensures d is.levels
          ∙ ap length is.all,
      c.slots-slots.ensures,
      subst (λ n. n < c.page_count-need.result)
          c.slots-slots.ensures c.if-need-slots.true,
    )

pub cut_levels-requires : goal.cut_levels-requires
cut_levels-requires g c =
    (whole (g.W.Draw.drawn c.args.draw.now) c.height-height.result c.args.pairs.items c.as_slice-ranked.result.now
    c.requires.few c.height-height.ensures c.as_slice-ranked.ensures.value c.requires.levels c.requires.rising).rising

-- the pages at the return: they are as many as were counted, and come by rank
made : (g : Over) (c : goal.After-drop-pairs-2 g)
    → (c.in_ok-cut_levels.field-0 ≡ pages_of_pairs (g.W.Draw.drawn c.args.draw.now) (pairs_of c.args.pairs.items))
    × (c.page_count-need.result ≡ length c.in_ok-cut_levels.field-0)
    × IsStrictlySortedBy label_cmp (map (λ page. page.label) c.in_ok-cut_levels.field-0)
made g c =
    let d = g.W.Draw.drawn c.args.draw.now in
    let is = whole (g.W.Draw.drawn c.args.draw.now)
    c.height-height.result c.args.pairs.items c.as_slice-ranked.result.now c.requires.few c.height-height.ensures
    c.as_slice-ranked.ensures.value c.requires.levels c.requires.rising in
    let pages_are = c.in_ok-cut_levels.ensures d is.levels in (
      pages_are ∙ is.all,
      c.page_count-need.ensures d is.levels
          ∙ ap length (sym pages_are),
      subst (λ (pages : List Page).
          IsStrictlySortedBy label_cmp (map (λ page. page.label) pages)) (sym (pages_are ∙ is.all)) is.by_rank,
    )

pub returns-clause-value : goal.returns-clause-value
returns-clause-value g c = (made g c).0

pub returns-clause-fits : goal.returns-clause-fits
returns-clause-fits g c = omega (arith, (made g c).1, c.slots-slots.ensures, c.if-need-slots.false)

pub returns-clause-ranked : goal.returns-clause-ranked
returns-clause-ranked g c = (made g c).2
