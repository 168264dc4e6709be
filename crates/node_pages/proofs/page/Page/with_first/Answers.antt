use Rattle.std.proofs.Common.{◌<◌, [], subst, sym}
use Rattle.store_model.specs.Paths.{key_cmp}
use Rattle.store_model.specs.Labels.{Label}
use Rattle.store_model.specs.Pages.{Page, page_room}
use Rattle.store_model.proofs.ListsLemmas.{rising_one}
use Rattle.store_model.proofs.PagesLemmas.{some_room}
use Rattle.node_pages.proofs.PageBytes.{grown, blank_behind, count_in_slot}
use Rattle.node_pages.proofs.page.Page.with_first.Goals as goal

-- the page of a label with no cell
abbrev none : Label → Page
none label = record { label = label; cells = [] }

pub append-requires-clause-room : goal.append-requires-clause-room
append-requires-clause-room c =
    subst (λ n. n < page_room c.args.label.level)
    (sym (count_in_slot (none c.args.label) c.begin.new.slot c.begin.ensures.valid (sym c.begin.ensures.value)))
    (some_room c.args.label.level)

pub append-requires-clause-blank : goal.append-requires-clause-blank
append-requires-clause-blank c = blank_behind (none c.args.label) c.begin.new.slot c.begin.ensures.valid tt
    (sym c.begin.ensures.value)

pub invariant_of-result : goal.invariant_of-result
invariant_of-result c =
    (grown (none c.args.label) c.begin.new.slot c.append.new.slot c.args.first.now c.begin.ensures.valid tt
    (sym c.begin.ensures.value) c.requires (some_room c.args.label.level)
    (rising_one key_cmp c.args.first.now.key) c.append.ensures).holds

pub returns-clause-value : goal.returns-clause-value
returns-clause-value c =
    (grown (none c.args.label) c.begin.new.slot c.append.new.slot c.args.first.now c.begin.ensures.valid tt
    (sym c.begin.ensures.value) c.requires (some_room c.args.label.level)
    (rising_one key_cmp c.args.first.now.key) c.append.ensures).read

pub returns-clause-valid : goal.returns-clause-valid
returns-clause-valid c = (invariant_of-result c).page
