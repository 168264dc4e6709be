use Rattle.std.proofs.Common.{◌-◌, ◌<◌, Some, nat_eq, ap, sym, ◌∙◌, true, arith, length, slice_get}
use Rattle.std.proofs.lemmas.List.{get_or_default}
use Rattle.std.proofs.lemmas.Option.{slice_get-get_or}
use Rattle.rising_pages.proofs.FreeLemmas.{length-free_of, get_or-free_of}
use Rattle.rising_pages.proofs.free.FreeSlots.is_free.Goals as goal

pub index-requires : goal.index-requires
index-requires c =
    let next = c.self.inside.next.items in
    omega (arith, c.requires, length-free_of next, ap length c.self.view_is, c.self.inside.next.ok.0)

pub returns : goal.returns
returns c =
    let next = c.self.inside.next.items in
    let slot = c.args.slot in
    let low : slot < length next - 1 = omega (arith, c.requires, length-free_of next, ap length c.self.view_is) in
    ap (λ l. slice_get l slot) (sym c.self.view_is)
    ∙ slice_get-get_or _ slot true (omega (arith, length-free_of next))
    ∙ ap Some (get_or-free_of next slot true low
    ∙ ap (λ n. nat_eq n slot) (get_or_default next slot 0 c.index.result.now (omega arith) ∙ sym c.index.ensures))
