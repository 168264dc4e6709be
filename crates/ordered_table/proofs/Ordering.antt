-- A comparison of the label in a slot, by a read of the slot.
use Rattle.std.proofs.Common.{◌≡◌, ℕ, List, Option, sym, subst, ◌∙◌}
use Rattle.std.specs.Prelude.{Ok, Err}
use Rattle.std.specs.declared.cmp.Ordering.{Ordering}
use Rattle.std.proofs.lemmas.Option.{same_Some}
use Rattle.store_base.specs.declared.store_fault.Fault.{Fault}
use Rattle.store_base.specs.SlotsState.{SlotsState, IsGet}
use Rattle.store_base.proofs.SlotsCalls.{AreSlotCalls-value, AreSlotCalls-fault}
use Rattle.ordered_table.specs.Tables.{TellsOrder, Orders}

pub orders_read : (old new : SlotsState) (at : ℕ) (buffer wanted : List ℕ) (order : Option Ordering)
    → IsGet {T = Unit {0}} old new at buffer (Ok tt) → TellsOrder buffer wanted order
    → Orders old new at wanted (Ok order)
orders_read old new at buffer wanted order get tells = record {
  calls = AreSlotCalls-value old new tt order get.calls;
  reads = λ observable. (get.observed observable).slots;
  told = λ slot observable there. subst (λ (bytes : List ℕ). TellsOrder bytes wanted order)
      (same_Some buffer slot (sym (get.observed observable).got ∙ there)) tells;
}

pub orders_unread : (old new : SlotsState) (at : ℕ) (buffer wanted : List ℕ) (fault : Fault)
    → IsGet {T = Unit {0}} old new at buffer (Err fault) → Orders old new at wanted (Err fault)
orders_unread old new at buffer wanted fault get = record {
  calls = AreSlotCalls-fault old new fault get.calls;
  reads = λ observable. (get.observed observable).slots;
  told = λ slot observable there. tt;
}
