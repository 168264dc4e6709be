use Rattle.std.proofs.Common.{◌≡◌, ◌+◌, ◌-◌, ◌++◌, length, drop, ap, ◌∙◌, arith}
use Rattle.std.specs.Int.{w16, to_be_bytes}
use borrow.Rule.Slice.PartMut.{put_mid}
use Rattle.node_pages.proofs.CellBytes.{value_written}
use Rattle.node_pages.proofs.cell_bytes.write_value.Goals as goal

pub returns : goal.returns
returns c =
    let value_is : c.as_slice-bytes.result.now ≡ c.args.value.now = c.as_slice-bytes.ensures.value in
    let front_is : c.copy_from_slice.new.self ≡ to_be_bytes w16 (length c.args.value.now) =
    c.copy_from_slice.ensures.after ∙ c.to_be_bytes.ensures ∙ ap (λ v. to_be_bytes w16 (length v)) value_is in
    let back_is : c.copy_from_slice-2.new.self ≡ c.args.value.now = c.copy_from_slice-2.ensures.after ∙ value_is in
    let count : 2 + length c.as_slice-bytes.result.now - 2 ≡ length c.args.value.now =
    omega (arith, ap length value_is) in
    ap (put_mid 2 (2 + length c.as_slice-bytes.result.now - 2) (c.copy_from_slice.new.self ++ drop 2 c.args.area.now))
    back_is
    ∙ value_written c.args.area.now c.copy_from_slice.new.self c.args.value.now (2 + length c.as_slice-bytes.result.now
    - 2) c.requires.zeros c.requires.room (omega (arith, c.as_slice-bytes.ensures.fits)) front_is count
