use Rattle.std.proofs.Common.{◌∙◌, ap, cond, length, Some, None}
use Rattle.box_words.proofs.Values.{decoded_by}
use Rattle.box_words.proofs.attr.is_decoded.Goals as goal

pub returns : goal.returns
returns c =
    let new = c.decode_to_slice.new.out in
    ap (λ b. cond b (Some new) None) c.is_ok.ensures.value
    ∙ decoded_by c.args.digits.now new (length c.args.into.now) c.decode_to_slice.result c.requires
    c.decode_to_slice.ensures.value
