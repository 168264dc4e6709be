use Rattle.store_claims.proofs.Imaging.{format_behind_wipe}
use Rattle.store_claims.proofs.images.wipe_then_format.Goals as goal

pub returns : goal.returns
returns c p is asked =
    format_behind_wipe p c.args.machine c.call-wiped.result c.call-made.result (c.call-wiped.ensures.performs _ is)
    c.call-wiped.ensures.outside (c.call-made.ensures.performs _ asked) c.call-made.ensures.outside
