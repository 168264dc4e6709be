use Rattle.std.proofs.Common.{◌∙◌, true, Some, ap}
use Rattle.clap.specs.Simple.{new_rule}
use Rattle.clap.specs.Walk.{Rule, rule_of}
use Rattle.clap.specs.declared.builder.arg.Arg.{Arg}
use Rattle.command_line.proofs.line.arg_of.Goals as goal

-- each step of the chain changes one field, which the rule has
pub returns-clause-rule : goal.returns-clause-rule
returns-clause-rule c =
    let parser = c.value_parser.result.value_parser in
    let given = c.value_parser.ensures.given in
    ap rule_of c.value_parser.ensures.others
    ∙ ap (λ (a : Arg). rule_of (record a { value_parser = parser })) c.required.ensures
    ∙ ap (λ (r : Rule). record r { required = true; parser = parser }) c.new.ensures.rule
    ∙ ap (λ p. record (new_rule c.args.argument.now.name.now) { required = true; parser = p })
    (given.1 ∙ ap Some given.2)

pub returns-clause-local : goal.returns-clause-local
returns-clause-local c = ap (λ (a : Arg). a.global) c.value_parser.ensures.others
    ∙ ap (λ (a : Arg). a.global) c.required.ensures ∙ c.new.ensures.optional.1
