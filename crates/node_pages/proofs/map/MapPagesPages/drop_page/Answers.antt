use Rattle.std.proofs.Common.{refl, arith}
use Rattle.node_pages.proofs.EntryLemmas.{item_dropped, nothing_dropped, stands_within}
use Rattle.node_pages.proofs.map.MapPagesPages.drop_page.Goals as goal

pub invariant_of-self : goal.invariant_of-self
invariant_of-self c =
    let stands = rw c.deref.ensures.value at c.in-Ok.ensures in
    let left = item_dropped _ c.args.self.now.pages.items c.args.self.now.sorted c.args.self.now.valid
    c.args.label.now c.in-Ok.at stands in
    rw c.remove.ensures.items (record { sorted = left.sorted; valid = left.valid })

pub returns-in-Ok-clause-call : goal.returns-in-Ok-clause-call
returns-in-Ok-clause-call c =
    let stands = rw c.deref.ensures.value at c.in-Ok.ensures in
    let left = item_dropped _ c.args.self.now.pages.items c.args.self.now.sorted c.args.self.now.valid
    c.args.label.now c.in-Ok.at stands in
    record {
      faults = refl;
      lookups = refl;
      hidden = λ o. tt;
      observed = λ o. record { observable = tt; changed = rw c.remove.ensures.items left.map_is; unchanged = tt };
    }

pub returns-in_default-clause-call : goal.returns-in_default-clause-call
returns-in_default-clause-call c =
    let lacks = rw c.deref.ensures.value at c.in_default.ensures in
    record {
      faults = refl;
      lookups = refl;
      hidden = λ o. tt;
      observed = λ o. record {
        observable = tt;
        changed =
            (nothing_dropped _ c.args.self.now.sorted c.args.self.now.valid c.args.label.now c.in_default.field-0
            lacks).map_is;
        unchanged = tt;
      };
    }

pub remove-requires : goal.remove-requires
remove-requires c = omega (arith, stands_within _ _ _ _ c.in-Ok.ensures, c.deref.ensures.len)
