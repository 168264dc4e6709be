use Rattle.std.proofs.Common.{◌≡◌, ℕ, List, length, take, drop, ap, ◌∙◌, subst, arith}
use Rattle.store_model.specs.Images.{bytes_at}
use Rattle.slot_map.specs.Contents.{ShowsSlot}
use Rattle.slot_map.proofs.table.read_slot.Goals as goal

pub returns-clause-shown : goal.returns-clause-shown
returns-clause-shown g c observable =
    let old = (g.D.Disk.state c.args.disk.now).bytes in
    let buffer = c.read_at.new.into in
    let long : length buffer ≡ 4096 = omega (arith, c.read_at.auto.into) in
    let is : buffer ≡ bytes_at old c.table_at.result 4096 =
    (c.in_ok-read_at.ensures.observed observable).read ∙ ap (λ (n : ℕ). take n (drop c.table_at.result old)) long in
    subst (λ (slot : List ℕ). ShowsSlot slot c.show_slot.result)
    (is ∙ ap (λ (n : ℕ). bytes_at old n 4096) c.table_at.ensures.value) c.show_slot.ensures
