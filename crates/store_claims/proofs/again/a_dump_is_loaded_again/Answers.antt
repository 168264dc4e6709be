use Rattle.store_claims.proofs.CopyLemmas.{copies_image}
use Rattle.store_claims.proofs.again.a_dump_is_loaded_again.Goals as goal

pub returns : goal.returns
returns c t p is empty none =
    copies_image t p c.args.disk c.args.lines c.args.empty c.in_ok-source.source c.args.sink (record {
      dump = c.in_ok-dump.dump;
      load = c.in_ok-load.load;
    })
    c.every_dump_is_a_script.ensures.short c.every_dump_is_a_script.ensures.listing is none c.in_ok-source.ensures
    (c.in_ok-dump.ensures.says t p is) (c.in_ok-load.ensures.loads _ p empty)
