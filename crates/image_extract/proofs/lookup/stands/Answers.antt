use Rattle.std.proofs.Common.{◌≡◌, Bool, ◌||◌, Err, List, ℕ, sym, ap, ap₂, subst, ◌∙◌}
use Rattle.store_model.specs.Pairs.{pairs}
use Rattle.store_model.specs.Paths.{key}
use Rattle.image_reads.specs.declared.fault.ReadFault.{ReadFault}
use Rattle.image_extract.specs.Lookups.{AsksStore, has_key}
use Rattle.image_extract.proofs.Lookups.{next_from, answered, failed, stands_so}
use Rattle.image_extract.proofs.lookup.stands.Goals as goal

pub returns-in-Ok-clause-asks : goal.returns-in-Ok-clause-asks
returns-in-Ok-clause-asks g c =
    answered g.R.Disk.state c.args.store.now c.next_pair.new.self _ c.next_pair.result c.next_pair.ensures.call
    c.requires c.in-Ok.found _ c.in-Ok.is

pub returns-in-Ok-clause-told : goal.returns-in-Ok-clause-told
returns-in-Ok-clause-told g c tree seen =
    let store = c.args.store.now in
    let path = c.args.path.now in
    let found = c.in-Ok.found in
    let key_is : c.key-key.result ≡ key path 0 = c.key-key.ensures.value in
    ap₂ (λ a b. a || b) c.is_root.ensures.value (c.is_at.ensures ∙ ap (λ (k : List ℕ). has_key k found) key_is)
    ∙ stands_so store.tree store.params path found tree c.is_root.ensures.valid
    (subst (λ (k : List ℕ). found ≡ next_from k (pairs store.tree store.params)) key_is
    (c.in-Ok.ensures.call.answer seen))

pub returns-in-Err-clause-asks : goal.returns-in-Err-clause-asks
returns-in-Err-clause-asks g c =
    let after = c.next_pair.new.self in
    subst (λ (f : ReadFault). AsksStore {T = Bool} g.R.Disk.state c.args.store.now after (Err f))
    (sym c.store_fault.ensures)
    (failed g.R.Disk.state c.args.store.now after _ c.next_pair.result c.next_pair.ensures.call c.requires
    c.in-Err.fault c.in-Err.is)
