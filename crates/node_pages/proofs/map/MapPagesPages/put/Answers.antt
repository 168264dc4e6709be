use Rattle.std.proofs.Common.{refl, arith}
use Rattle.node_pages.proofs.EntryLemmas.{item_overwritten, item_inserted, rises_either_way, valid_either_way}
use Rattle.node_pages.proofs.EntryLemmas.{stands_within}
use Rattle.node_pages.proofs.map.MapPagesPages.put.Goals as goal

pub invariant_of-self : goal.invariant_of-self
invariant_of-self c =
    let stands = rw (c.label.ensures.value, c.deref.ensures.value) at c.in-Ok.ensures in
    let left = item_overwritten _ c.args.self.now.pages.items c.args.self.now.sorted c.args.self.now.valid _
    c.args.page c.in-Ok.at refl c.label.ensures.valid stands in
    record { sorted = left.sorted; valid = left.valid }

pub invariant_of-self-in-Err : goal.invariant_of-self-in-Err
invariant_of-self-in-Err c =
    let lacks = rw (c.label.ensures.value, c.deref.ensures.value) at c.in-Err.ensures in
    let left = item_inserted _ c.args.self.now.pages.items c.args.self.now.sorted c.args.self.now.valid
    c.in_ok-new-in-Err.field-0 c.args.page c.in-Err.at c.in_ok-new-in-Err.ensures.ok c.label.ensures.valid lacks in
    record {
      sorted = rw c.insert.ensures.items
          (rises_either_way _ c.args.self.now.pages.items c.args.self.now.sorted c.args.self.now.valid _
          c.in_ok-new-in-Err.field-0 c.in-Err.at _ left);
      valid = rw c.insert.ensures.items
          (valid_either_way _ c.args.self.now.pages.items c.args.self.now.sorted c.args.self.now.valid _
          c.in_ok-new-in-Err.field-0 c.in-Err.at _ left);
    }

pub returns-in-Ok-clause-call : goal.returns-in-Ok-clause-call
returns-in-Ok-clause-call c =
    let stands = rw (c.label.ensures.value, c.deref.ensures.value) at c.in-Ok.ensures in
    let left = item_overwritten _ c.args.self.now.pages.items c.args.self.now.sorted c.args.self.now.valid _
    c.args.page c.in-Ok.at refl c.label.ensures.valid stands in
    record {
      faults = refl;
      lookups = refl;
      hidden = λ o. tt;
      observed = λ o. record { observable = tt; changed = left.map_is; unchanged = tt };
    }

pub returns-in_ok-insert-in-Err-clause-call : goal.returns-in_ok-insert-in-Err-clause-call
returns-in_ok-insert-in-Err-clause-call c =
    let lacks = rw (c.label.ensures.value, c.deref.ensures.value) at c.in-Err.ensures in
    let left = item_inserted _ c.args.self.now.pages.items c.args.self.now.sorted c.args.self.now.valid
    c.in_ok-new-in-Err.field-0 c.args.page c.in-Err.at c.in_ok-new-in-Err.ensures.ok c.label.ensures.valid lacks in
    record {
      faults = refl;
      lookups = refl;
      hidden = λ o. tt;
      observed = λ o. record {
        observable = tt;
        changed = rw c.in_ok-insert-in-Err.ensures.items left.map_is;
        unchanged = tt;
      };
    }

pub index_mut-requires : goal.index_mut-requires
index_mut-requires c = omega (arith, stands_within _ _ _ _ c.in-Ok.ensures, c.deref.ensures.len)
