use Rattle.std.proofs.Common.{◌≡◌, ◌+◌, ◌%◌, Bool, true, false, cond, nat_eq, ◌++◌, drop, replicate, min, slice_set}
use Rattle.std.proofs.Common.{refl, sym, ap, ap₂, ◌∙◌, subst, slice_index, arith, length-take-le}
use Rattle.store_model.specs.Pages.{page_room}
use Rattle.layout_scratch.specs.declared.counter.PageCounter.{PageCounter}
use Rattle.layout_scratch.proofs.CountedKeys.{TookKey, counted_more, took_key}
use Rattle.layout_scratch.proofs.OneMoreKey.{opens}
use Rattle.layout_scratch.proofs.counter.PageCounter.add_at.Goals as goal
use mir.Val.{bool_byte}

-- a truth value as a number
as_number : (b : Bool) → bool_byte b ≡ cond b 1 0
as_number true = refl
as_number false = refl

pub returns-clause-counted : goal.returns-clause-counted
returns-clause-counted c = λ d keys key height low is_level counted.
    let old = c.args.self.now in
    let top = d.level key in
    let at_is : c.from-at.result ≡ top = c.from-at.ensures ∙ is_level in
    let room_is : c.from.result ≡ page_room top = c.from.ensures ∙ c.room.ensures ∙ ap page_room is_level in
    let opened : c.from-3.result ≡ opens top (slice_index old.cells top) =
    c.from-3.ensures ∙ as_number _
    ∙ ap₂ (λ at room. cond (nat_eq (slice_index old.cells at % room) 0) 1 0) at_is room_is in
    let level_is : c.from-2.result ≡ top = c.from-2.ensures ∙ is_level in
    let at = c.from-at.result in
    let new : PageCounter = record {
      cells = slice_set (c.fill.new.self ++ drop at old.cells) at c.saturating_add.result;
      pages = c.saturating_add-self.result;
      keys = old.keys + 1;
    } in
    let front : c.fill.new.self ≡ replicate at 1 =
    c.fill.ensures.after (λ y same. same) ∙ ap (λ n. replicate n 1) (length-take-le at old.cells (omega arith)) in
    let took : TookKey at old new =
    took_key at old new c.fill.new.self c.saturating_add.result front (omega arith) refl c.saturating_add.ensures
    (c.saturating_add-self.ensures ∙ ap₂ (λ level more. min (old.pages + (level + more)) 4294967295)
    (level_is ∙ sym at_is) (opened ∙ ap (λ l. opens l (slice_index old.cells l)) (sym at_is))) refl in
    counted_more d keys key old new counted (omega arith)
    height c.requires.few (subst (λ level. TookKey level old new) at_is took)
