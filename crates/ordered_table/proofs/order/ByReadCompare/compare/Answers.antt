use Rattle.std.proofs.lemmas.Result.{err_from_is_err_and}
use Rattle.ordered_table.proofs.Ordering.{orders_read, orders_unread}
use Rattle.ordered_table.proofs.order.ByReadCompare.compare.Goals as goal

pub returns-in_err-get-clause-call : goal.returns-in_err-get-clause-call
returns-in_err-get-clause-call g c =
    let p = err_from_is_err_and c.from_residual.result c.from_residual.ensures.1 in
    rw (p.1, p.2) (orders_unread _ _ c.args.at c.get.new.into c.args.wanted.now c.in_err-get.field-0.0
    c.in_err-get.ensures.call)

pub returns-clause-call : goal.returns-clause-call
returns-clause-call g c =
    orders_read _ _ c.args.at c.get.new.into c.args.wanted.now c.order_of.result
    c.in_ok-get.ensures.call c.order_of.ensures
