use Rattle.std.proofs.Common.{Result, Ok, Err, refl, sym, ap, subst, ◌∙◌}
use Rattle.std.proofs.lemmas.Result.{err_from_is_err_and}
use Rattle.store_model.specs.Commands.Command.{UnsetAttribute}
use Rattle.store_model.specs.Steps.{reply_of}
use Rattle.image_check.specs.declared.fault.ApplyFault.{ApplyFault}
use Rattle.tree_changes.specs.AttributeChanges.{HasUnset, IsRefusedAt}
use Rattle.tree_changes.proofs.AttributeLemmas.{unset_leads}
use Rattle.image_changes.specs.declared.outcome.Outcome.{Outcome}
use Rattle.image_changes.specs.Words.{Changes}
use Rattle.image_changes.proofs.CommandWords.{command_fails, command_answered}
use Rattle.image_changes.proofs.attributes.unset_attribute.Goals as goal

pub returns-in_err-reply : goal.returns-in_err-reply
returns-in_err-reply g c =
    let store = c.args.store.now in
    let path = c.args.path.now in
    let name = c.args.name.now in
    let set = UnsetAttribute path name in
    let fault = err_from_is_err_and c.from_residual.result c.from_residual.ensures.1 in
    subst (λ (r : Result Outcome ApplyFault). Changes g.D.Disk.state (HasUnset store.params path name)
    (IsRefusedAt store.params path set) store c.apply.new.self r)
    (sym (fault.1 ∙ ap (λ (f : ApplyFault). Err f) fault.2))
    (command_fails g.D.Disk.state store c.apply.new.self set (HasUnset store.params path name)
    (IsRefusedAt store.params path set)
    (λ none. unset_leads store.params path name store.tree c.params-params.ensures.fitting.tree
    c.reveal.ensures none)
    c.in_err-reply.field-0.0
    c.in_err-reply.ensures.call)

pub returns : goal.returns
unfolding reply_of
returns g c =
    let store = c.args.store.now in
    let path = c.args.path.now in
    let name = c.args.name.now in
    let set = UnsetAttribute path name in
    subst (λ (o : Outcome). Changes g.D.Disk.state (HasUnset store.params path name)
    (IsRefusedAt store.params path set) store c.apply.new.self (Ok o)) (sym c.outcome_of_reply.ensures)
    (command_answered g.D.Disk.state store c.apply.new.self set (HasUnset store.params path name)
    (IsRefusedAt store.params path set)
    (λ none. unset_leads store.params path name store.tree c.params-params.ensures.fitting.tree
    c.reveal.ensures none)
    path (λ why refused. record { place_is = refl; reason = refused }) refl c.in_ok-reply.reply
    c.in_ok-reply.ensures.call)
