use Rattle.std.proofs.Common.{◌≡◌, ◌∙◌, ◌||◌, ◌+◌, ◌<◌, ℕ, List, ◌∷◌, map, drop, length, get_or, ap, sym, drop-cons}
use Rattle.std.proofs.Common.{add-one, arith}
use Rattle.std.proofs.Math.Bool.{or-false}
use Rattle.clap.specs.Simple.{App, with_rule}
use Rattle.clap.specs.Walk.{Rule}
use Rattle.clap.specs.declared.builder.command.Command.TheViews.{out-Command}
use Rattle.command_line.specs.Building.{rule_told, with_rules}
use Rattle.command_line.specs.declared.line.Argument.{Argument}
use Rattle.command_line.proofs.line.with_arguments.Goals as goal

-- the rule of the next argument goes behind those that are there
one_more : (before after whole : App) (rule : Rule) (arguments : List Argument) (i : ℕ) (d : Argument)
    → i < length arguments
    → after ≡ with_rule before rule → rule ≡ rule_told (get_or arguments i d)
    → with_rules before (map rule_told (drop i arguments)) ≡ whole
    → with_rules after (map rule_told (drop (i + 1) arguments)) ≡ whole
one_more before after whole rule arguments i d low added told rest =
    let next : drop i arguments ≡ get_or arguments i d ∷ drop (i + 1) arguments =
    rw add-one (drop-cons arguments i d low) in
    ap (λ app. with_rules app (map rule_told (drop (i + 1) arguments))) (added ∙ ap (with_rule before) told)
    ∙ ap (λ left. with_rules before (map rule_told left)) (sym next) ∙ rest

pub loop-argument-preserved : goal.loop-argument-preserved
loop-argument-preserved c =
    let added = c.in_ok-command.ensures in
    let had = (out-Command c.loop-argument.command).has_globals in
    record {
      added = one_more _ _ _ _ c.args.arguments.now c.loop-argument.argument-index _ (omega arith)
          (added.shape c.arg_of.ensures.local) c.arg_of.ensures.rule c.loop-argument.invariant.added;
      local = added.globals ∙ ap (λ global. had || global) c.arg_of.ensures.local ∙ or-false had
          ∙ c.loop-argument.invariant.local;
    }
