use Rattle.std.proofs.Common.{rules, ◌++◌, length, sym, ap, ◌∙◌, arith, get_or, ◌+◌}
use Rattle.host_names.specs.HostNames as model
use Rattle.host_names.proofs.Spellings.{escaped-nil, escaped-more, escaped-longer}
use Rattle.host_names.proofs.spelling.escape.Goals as goal

pub loop-byte-init : goal.loop-byte-init
loop-byte-init c = record {
  spelled = c.new-into.ensures ∙ sym escaped-nil;
  fits = omega (arith, ap length c.new-into.ensures);
}

pub returns-then-not-push_escaped-clause-none : goal.returns-then-not-push_escaped-clause-none
returns-then-not-push_escaped-clause-none c =
    let more = escaped-more c.args.name.now c.loop-byte.byte-index (omega arith) in
    let all = ap (λ t. length (t ++ model.escaped_byte (get_or c.args.name.now c.loop-byte.byte-index 0)))
    c.loop-byte.invariant.spelled in
    omega (
      arith,
      ap length more,
      all,
      escaped-longer c.args.name.now (c.loop-byte.byte-index + 1),
      c.push_escaped.ensures.full (search rules),
    )

pub loop-byte-preserved : goal.loop-byte-preserved
loop-byte-preserved c = record {
  spelled = c.push_escaped.ensures.fits (search rules)
      ∙ ap (λ t. t ++ model.escaped_byte (get_or c.args.name.now c.loop-byte.byte-index 0))
      c.loop-byte.invariant.spelled
      ∙ sym (escaped-more c.args.name.now c.loop-byte.byte-index (omega arith));
  fits = c.push_escaped.ensures.room (search rules);
}
