use Rattle.std.proofs.Common.{◌≡◌, ◌+◌, ◌*◌, refl, subst, ◌∙◌, arith}
use Rattle.store_model.specs.Labels.{Label, label_bytes}
use Rattle.table_memory.specs.Memos.{checksum}
use Rattle.table_memory.proofs.MemoLemmas.{checksum_led, checksum_unled}
use Rattle.table_memory.proofs.memo.checksum_of_label.Goals as goal

pub returns-in-Some : goal.returns-in-Some
returns-in-Some c =
    subst (λ (l : Label). c.checksum_of_key.result ≡ checksum (label_bytes l)) c.label.view_is
    (c.checksum_of_key.ensures ∙ checksum_led _ c.in-Some.key.now _
    c.label.invariant c.in-Some.ensures.key (omega arith))

pub returns-in-None : goal.returns-in-None
returns-in-None c =
    subst (λ (l : Label). c.from.result + 256 * c.from-2.result ≡ checksum (label_bytes l))
    c.label.view_is (checksum_unled _ _ c.label.invariant (c.in-None.ensures.start.0 refl) (omega arith))
