use Rattle.std.proofs.Common.{refl, sym}
use Rattle.page_store.proofs.LookupLemmas.{found_by_read, found_by_place}
use Rattle.page_store.proofs.KnownLemmas.{known_read}
use Rattle.page_store.proofs.lookup.Lookup.has_page.Goals as goal

pub returns-in-Some-clause-call : goal.returns-in-Some-clause-call
returns-in-Some-clause-call g c =
    let s = c.args.self.now in
    let changes = c.args.changes.now.pages.entries in
    let label = c.args.label.now in
    let read = known_read _ _ changes s.memo label c.in-Some.page.now s.remembered c.in-Some.ensures.found in
    found_by_read _ _ _ changes label c.in-Some.page.now c.is_some.result read c.is_some.ensures

pub returns-clause-call : goal.returns-clause-call
returns-clause-call g c = found_by_place _ _ _
    c.args.changes.now.pages.entries c.args.label.now c.in_ok-at.at c.is_some-2.result
    (sym (c.in_default.ensures.unstaged refl)) c.in_ok-at.ensures.call c.is_some-2.ensures
